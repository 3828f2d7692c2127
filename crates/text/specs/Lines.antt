-- Where a line is in a text, by the rules' own lines.
use Rattle.std.specs.Prelude.{ℕ, suc, ◌+◌, ◌-◌, ◌≤◌, ◌≡◌, true, false, cond, List, [], ◌∷◌, eqb, length, take, drop, Option, Some, None}
use Rattle.std.specs.declared.ops.Range.{Range}
use Rattle.rules.specs.Text.{line_feed, has_line, line_at, start_of, end_of}

-- the characters before the first line feed
unfoldable pub line_length : List ℕ → ℕ
line_length [] = 0
line_length (ch ∷ rest) = cond (eqb ch line_feed) 0 (suc (line_length rest))

-- where the line that begins at a place ends
abbrev pub end_from : List ℕ → ℕ → ℕ
end_from text start = start + line_length (drop start text)

-- the place of line k, where there is one
pub record Stands (k : ℕ) (text : List ℕ) (place : Range ℕ) : Type 0 where
  pub found : has_line k text ≡ true
  pub start : place.start ≡ start_of k text
  pub end : place.end ≡ end_of k text
  pub ordered : place.start ≤ place.end
  pub within : place.end ≤ length text
  pub part : take (place.end - place.start) (drop place.start text) ≡ line_at k text

-- the place of line k, if there is one
abbrev pub Placed : ℕ → List ℕ → Option (Range ℕ) → Type 0
Placed k text None = has_line k text ≡ false
Placed k text (Some place) = Stands k text place

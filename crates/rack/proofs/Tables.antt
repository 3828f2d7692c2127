-- Laws of writing records into a table.
use mathlib.Core.Path.{◌≡◌, refl, sym, ap, ◌∙◌}
use mathlib.Core.List.{List, [], ◌∷◌, ◌++◌}
use Prim.Native.Nat.{ℕ, suc, ◌+◌, ◌*◌, ◌-◌, ◌/◌, ◌≤◌, ◌<◌}
use native.Mathlib.Nat.{suc-mul}
use native.Mathlib.Numerals.{add-one}
use native.Mathlib.Omega.{arith}
use borrow.Rule.Slice.PartMut.{put_mid}
use lib.Arith.{digits_div}
use lib.ListN.{length, get_or, set, take, drop, length-append}
use lib.Seq.{sets, sets-eq, take_at, length-take-le, get_or-set_other, get_or-take, get_or-drop, ext_get_or}
use Rattle.std.proofs.lemmas.List.{get_or_append_left}
use Rattle.rules.specs.Counting.{rows}
use Rattle.rules.specs.Groups.{heard_in}
use Rattle.rules.proofs.Lists.{part_length, part_back, tabulate_at, tabulate_length, behind_seam}
use Rattle.rack.specs.Racks.{words_from}

-- a record's part of the table, `&mut table[at..at + w]`
abbrev pub part : List ℕ → ℕ → ℕ → List ℕ
part table at w = take (at + w - at) (drop at table)

-- what is copied is that part of the list
pub part_is : (from : List ℕ) (at count : ℕ) → at + count ≤ length from → part from at count ≡ words_from from at count
part_is from at count h =
    let long = part_length from at (at + count - at) (omega arith) in
    ext_get_or 0 _ _ (long ∙ omega arith ∙ sym (tabulate_length count _))
    (λ i l.
    let here : i < count = omega arith in
    get_or-take (at + count - at) (drop at from) i 0 (omega arith) ∙ get_or-drop at from i 0 ∙ sym (tabulate_at count _ i here))

-- so copying words of one list to a place of another leaves them there
pub copied : (from to words : List ℕ) (at place count : ℕ) → at + count ≤ length from → place + count ≤ length to
    → words ≡ part from at count → put_mid place (place + count - place) to words ≡ sets to place (words_from from at count)
copied from to words at place count hf ht e =
    let long = ap length e ∙ part_length from at (at + count - at) (omega arith) in
    part_back words to place (place + count - place) (omega (arith, long)) (omega arith)
    ∙ ap (sets to place) (e ∙ part_is from at count hf)

-- what is written is there
pub written : (words table : List ℕ) (at j : ℕ) → at + length words ≤ length table → j < length words
    → get_or (sets table at words) (at + j) 0 ≡ get_or words j 0
written words table at j h l =
    let first : length (take at table) ≡ at = length-take-le at table (omega arith) in
    rw (sets-eq words table at h)
    (get_or_append_left (take at table ++ words) (drop (at + length words) table) 0 (at + j)
    (omega (arith, length-append (take at table) words))
    ∙ behind_seam (take at table) words at j first)

-- elsewhere nothing changes
kept : (words table : List ℕ) (at i : ℕ) → ((k : ℕ) → k < length words → i ≡ at + k → ⊥)
    → get_or (sets table at words) i 0 ≡ get_or table i 0
kept [] table at i h = refl
kept (word ∷ words) table at i h =
    kept words (set table at word) (suc at) i (λ k l e. h (suc k) (omega arith) (omega arith))
    ∙ get_or-set_other table at i word 0 (λ e. h 0 (omega arith) (omega arith))

-- a record that is written leaves the other cards' records
pub other_record : (words table : List ℕ) (w v u j : ℕ) → length words ≡ w → (u ≡ v → ⊥) → j < w
    → heard_in w (sets table (v * w) words) u j ≡ heard_in w table u j
other_record words table w v u j e ne l =
    kept words table (v * w) (u * w + j)
    (λ k h same. ne (sym (digits_div u l) ∙ ap (λ (x : ℕ). x / w) same ∙ digits_div v (omega arith)))

-- the first records of a table are written, and one more
pub next_record_lem : (table : List ℕ) (w v : ℕ) (row : ℕ → List ℕ) → length (row v) ≡ w → v * w + w ≤ length table
    → take (v * w) table ≡ rows v row → take ((v + 1) * w) (sets table (v * w) (row v)) ≡ rows (v + 1) row
unfolding rows
next_record_lem table w v row e fits done =
    let next : suc v * w ≡ v * w + w = suc-mul v w in
    rw (add-one v, sets-eq (row v) table (v * w) (omega arith), done)
    (take_at (rows v row ++ row v) (drop (v * w + length (row v)) table) (suc v * w)
    (omega (arith, length-append (rows v row) (row v), ap length done, length-take-le (v * w) table (omega arith))))

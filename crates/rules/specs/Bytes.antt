-- RULES 10.1: "a word is two bytes, the low byte first".
use Rattle.std.specs.Prelude.{ℕ, ◌+◌, ◌*◌, ◌/◌, ◌%◌, List, [], ◌∷◌, length, get_or}
use Rattle.rules.specs.Counting.{rows}

-- the word i of some bytes
abbrev pub word_at : List ℕ → ℕ → ℕ
word_at bytes i = get_or bytes (2 * i) 0 + 256 * get_or bytes (2 * i + 1) 0

-- the bytes of some words
unfoldable pub bytes_of : List ℕ → List ℕ
bytes_of words = rows (length words) (λ (i : ℕ). get_or words i 0 % 256 ∷ get_or words i 0 / 256 ∷ [])

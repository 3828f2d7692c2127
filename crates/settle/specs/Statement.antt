-- What is proved of the counter: what RULES 13 promises, over single steps and over whole beats.
use Rattle.std.specs.Prelude.{◌≡◌, Bool, true, false, List, ℕ, ◌+◌, ◌%◌, ◌≤◌, ◌<◌, pos, length}
use Rattle.rules.specs.declared.Vote.TheVariants.{Count}
use Rattle.rules.specs.Parameters.{c1, most_modulus, none_word, record_words, settle_beats}
use Rattle.rules.specs.Groups.{heard_in, kept_b, word_of}
use Rattle.rules.specs.OneBeat.{shown_count}
use Rattle.rules.specs.WholeBeat.{is_broken}
use Rattle.rules.specs.Refusals.{beat_refusal}
use Rattle.rules.specs.Lag.{lag_of}
use Rattle.settle.specs.Run.{Cards, Run, table_at}

-- From all starting words, whatever the broken cards send to each card, there is an x below c such that after T(f) + k beats
-- every sound card shows (x + k) modulo c. The word for none must not be a count of a half: c1 ≤ 65,535
abbrev pub Settles : Type 0
Settles =
    (n f c : ℕ) (sound : ℕ → Bool) → Cards n f sound → c1 f ≤ none_word → 2 ≤ c → c ≤ most_modulus
    → (R : Run n f c sound)
    → (x : ℕ) × (x < c)
    × ((k v : ℕ) → v < n → sound v ≡ true → shown_count f c (R.words (settle_beats f + k) v) ≡ Count ((x + k) % c))

-- The same for whole beats, as long as they are accepted
abbrev pub SettlesOnBeats : Type 0
SettlesOnBeats =
    (n f c set : ℕ) (start : List ℕ) (sent : ℕ → List ℕ)
    → ((r : ℕ) → beat_refusal n f c set (length start) (length (sent r)) (length start) ≡ 0)
    → (x : ℕ) × (x < c)
    × ((k v : ℕ) → v < n → is_broken set v ≡ false
    → shown_count f c (heard_in (record_words f) (table_at n f c set start sent (settle_beats f + k)) v) ≡ Count ((x + k) % c))

-- Cards that hold the same count with b = 1 go on counting, whatever all others do: `members` are at least n-f cards of a
-- split group
abbrev pub Persists : Type 0
Persists =
    (n f c : ℕ) (members : ℕ → Bool) → Cards n f members → 1 ≤ f → 2 ≤ c → c ≤ most_modulus
    → (R : Run n f c members) (r x : ℕ) → x < c
    → ((v : ℕ) → v < n → members v ≡ true → (shown_count f c (R.words r v) ≡ Count x) × (kept_b (R.words r v) ≡ true))
    → (k v : ℕ) → v < n → members v ≡ true
    → (shown_count f c (R.words (r + k) v) ≡ Count ((x + k) % c)) × (kept_b (R.words (r + k) v) ≡ true)

-- No comb: from T(f) on the lag between the counts of any two sound cards is 0
abbrev pub NoComb : Type 0
NoComb =
    (n f c set : ℕ) (start : List ℕ) (sent : ℕ → List ℕ)
    → ((r : ℕ) → beat_refusal n f c set (length start) (length (sent r)) (length start) ≡ 0)
    → (k u v : ℕ) → u < n → is_broken set u ≡ false → v < n → is_broken set v ≡ false
    → lag_of c (word_of (shown_count f c (heard_in (record_words f) (table_at n f c set start sent (settle_beats f + k)) u)))
    (word_of (shown_count f c (heard_in (record_words f) (table_at n f c set start sent (settle_beats f + k)) v))) ≡ pos 0

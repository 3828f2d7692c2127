-- Cards that take each next record from the exported step settle at T(f): their words are a run.
use mathlib.Core.Path.{◌≡◌, refl, sym, ap, ◌∙◌}
use mathlib.Core.Logic.{⊎_elim}
use mathlib.Core.Bool.{Bool, true, false, cond}
use mathlib.Core.List.{List, [], ◌∷◌}
use Prim.Native.Nat.{ℕ, suc, ◌+◌, ◌*◌, ◌-◌, ◌/◌, ◌%◌, ◌<◌}
use native.Mathlib.Omega.{arith}
use lib.Dec.{ltb}
use lib.ListN.{length, get_or}
use borrow.Author.Tests.{lt-ltb, ltb-true}
use Rattle.std.proofs.lemmas.Bool.{cases_Bool}
use Rattle.rules.specs.declared.Vote.TheVariants.{Count}
use Rattle.rules.specs.Parameters.{record_words, settle_beats}
use Rattle.rules.specs.Groups.{output_place, place}
use Rattle.rules.specs.OneBeat.{group_next, next_record, shown_count}
use Rattle.rules.specs.Bytes.{word_at, bytes_of}
use Rattle.rules.specs.Calls.{step_bytes_out}
use Rattle.rules.proofs.Counting.{count_some, count_not}
use Rattle.rules.proofs.Votes.{read_is}
use Rattle.rules.proofs.Lists.{rows_at, padded_at, padded_length}
use Rattle.rules.proofs.Records.{group_length, output_inside}
use Rattle.rules.proofs.Heard.{same_record}
use Rattle.rules.proofs.Shapes.{Counter, counter_accepted}
use Rattle.settle.specs.Run.{Cards, Run}
use Rattle.settle.proofs.Halves.{beats_none, beats_mono}
use Rattle.settle.proofs.Settles.{settles}
use Rattle.end_to_end.specs.OnBytes.{record_bytes, ByteRun, Shows, SettlesOnBytes}

-- the two bytes of a word, and so the word
byte_at : (words : List ℕ) (i j p : ℕ) → 2 * i + j ≡ p → i < length words → j < 2
    → get_or (bytes_of words) p 0 ≡ get_or (get_or words i 0 % 256 ∷ get_or words i 0 / 256 ∷ []) j 0
unfolding bytes_of
byte_at words i j p e li lj =
    let q : p ≡ i * 2 + j = omega arith in
    rw q (rows_at (length words) 2 _ (λ i l. refl) i j li lj)

word_of_bytes : (words : List ℕ) (i : ℕ) → i < length words → word_at (bytes_of words) i ≡ get_or words i 0
word_of_bytes words i l =
    rw (byte_at words i 0 (2 * i) (omega arith) l (omega arith), byte_at words i 1 (2 * i + 1) (omega arith) l (omega arith)) (omega arith)

-- a word of a record of w words, and 0 beyond it
abbrev within : ℕ → ℕ → ℕ → ℕ
within w j word = cond (ltb j w) word 0

within_same : (w j a b : ℕ) → (j < w → a ≡ b) → within w j a ≡ within w j b
within_same w j a b h = ⊎_elim
    (λ (t : ltb j w ≡ true). rw t (h (ltb-true j w t)))
    (λ (t : ltb j w ≡ false). rw t)
    (cases_Bool (ltb j w))

-- a card is sound, and its call, which is accepted, shows that n, f and c are good
counter : (n f c : ℕ) (sound : ℕ → Bool) → Cards n f sound → ByteRun n f c sound → (others : ℕ) × Counter n f c others
counter n f c sound cards R =
    let s = count_some n sound (omega (arith, count_not n sound, cards.few, cards.broken)) in
    (_, counter_accepted n f c _ (R.accepted 0 s.0 s.1 s.2))

module _ (n f c : ℕ) (sound : ℕ → Bool) (few : 3 * f < n) (R : ByteRun n f c sound) where
  -- what a sound card hears of each card, as words
  abbrev heard_words : ℕ → ℕ → ℕ → ℕ → ℕ
  heard_words r v u j = word_at (R.hears r v) (place (record_words f) u j)

  word_heard : (r v u j : ℕ) → v < n → sound v ≡ true → u < n → sound u ≡ true → j < record_words f
      → heard_words r v u j ≡ word_at (R.holds r u) j
  word_heard r v u j lv sv lu su l =
      let low : 2 * place (record_words f) u j ≡ u * record_bytes f + 2 * j = omega arith in
      let high : 2 * place (record_words f) u j + 1 ≡ u * record_bytes f + (2 * j + 1) = omega arith in
      rw (high, low, R.heard r v u lv sv lu su (2 * j) (omega arith), R.heard r v u lv sv lu su (2 * j + 1) (omega arith))

  -- what it holds after a beat
  abbrev next : ℕ → ℕ → List ℕ
  next r v = next_record n f c (heard_words r v) v

  next_bytes : (r v : ℕ) → v < n → sound v ≡ true → R.holds (r + 1) v ≡ bytes_of (next r v)
  unfolding step_bytes_out
  next_bytes r v lv sv = R.steps r v lv sv ∙ rw (R.accepted r v lv sv)

  next_length : (r v : ℕ) → length (next r v) ≡ record_words f
  unfolding next_record
  next_length r v = padded_length (record_words f) _ (group_length (suc f) n f c (heard_words r v) v)

  -- the words of the n records, 0 beyond each: the step reads nothing else
  abbrev records : ℕ → ℕ → ℕ → ℕ → ℕ
  records r v u j = within (record_words f) j (heard_words r v u j)

  next_within : (r v j : ℕ) → v < n → get_or (next r v) j 0 ≡ get_or (group_next (suc f) n f c (records r v) v) j 0
  unfolding next_record
  next_within r v j lv =
      ap (λ (words : List ℕ). get_or words j 0)
      (same_record n f c (heard_words r v) (records r v) v few lv (λ u i lu li. rw (lt-ltb i (record_words f) li)))
      ∙ padded_at (record_words f) (group_next (suc f) n f c (records r v) v) j

  -- so they are a run
  words : Run n f c sound
  words =
      record {
        words = λ r v j. within (record_words f) j (word_at (R.holds r v) j);
        hear = records;
        fuel = suc f;
        deep = omega arith;
        heard = λ r v u lv sv lu su j. within_same (record_words f) j _ _ (word_heard r v u j lv sv lu su);
        steps = λ r v lv sv j l.
            rw (lt-ltb j (record_words f) l, next_bytes r v lv sv)
            (word_of_bytes (next r v) j (rw (next_length r v) l) ∙ next_within r v j lv);
      }

  -- what a sound card shows after a beat stands in its two bytes
  shows : (q r v y : ℕ) → q + 1 ≡ r → v < n → sound v ≡ true → shown_count f c (words.words r v) ≡ Count y → Shows f c y (R.holds r v)
  unfolding shown_count words
  shows q r v y e lv sv shown =
      let p = output_place f in
      let here : shown_count f c (word_at (R.holds r v)) ≡ Count y = rw (lt-ltb p (record_words f) (output_inside f)) at shown in
      let held : R.holds r v ≡ bytes_of (next q v) = rw e at (next_bytes q v lv sv) in
      let inside : p < length (next q v) = rw (next_length q v) (output_inside f) in
      let word : get_or (next q v) p 0 ≡ y = sym (rw held (word_of_bytes (next q v) p inside)) ∙ (read_is c _ y here).0 in
      record {
        shown = here;
        low = rw (held, byte_at (next q v) p 0 (2 * p) (omega arith) inside (omega arith), word);
        high = rw (held, byte_at (next q v) p 1 (2 * p + 1) (omega arith) inside (omega arith), word);
      }

-- what is promised (RULES 13), on bytes
pub settles_on_bytes : SettlesOnBytes
settles_on_bytes n f c sound cards R =
    let g = (counter n f c sound cards R).1 in
    let s = settles n f c sound cards (omega (arith, g.shape.broken)) g.least g.most (words n f c sound cards.few R) in (
      s.0,
      s.1,
      λ k v lv sv.
          let r = settle_beats f + k in
          shows n f c sound cards.few R (r - 1) r v _ (omega (arith, beats_none, beats_mono 0 f (omega arith))) lv sv (s.2 k v lv sv),
    )

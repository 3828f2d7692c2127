-- What is known of n, f and c where they are not refused.
use mathlib.Core.Path.{◌≡◌, refl}
use mathlib.Core.Bool.{Bool, true, false}
use Prim.Native.Nat.{ℕ, ◌*◌, ◌^◌, ◌≤◌, ◌<◌}
use native.Mathlib.Omega.{arith}
use lib.Dec.{eqb, ltb, leb}
use borrow.Author.Tests.{eqb-true, eqb-false, ltb-false, leb-false, not-false}
use Rattle.std.proofs.lemmas.Bool.{or_parts}
use Rattle.rules.specs.Parameters.{most_cards, most_broken, least_modulus, most_modulus, record_words, bad_cards, bad_broken, bad_modulus}
use Rattle.rules.specs.WholeBeat.{broken_below, bad_set, sent_words}
use Rattle.rules.specs.Refusals.{given, wrong, shape_refusal, counter_refusal, step_refusal, beat_refusal, shown_refusal}

-- a refusal that is 0: the test did not hold, and nor did those after it
pub not_given : (number : ℕ) (test : Bool) (others : ℕ) → 0 < number → given number test others ≡ 0 → (test ≡ false) × (others ≡ 0)
not_given number true others l e = absurd (omega arith)
not_given number false others l e = (refl, e)

-- where refusals 1, 2 and 3 are not given, what comes after them decides
pub counter_passed : (n f c others r : ℕ) → r ≡ counter_refusal n f c 0 → r ≡ 0 → counter_refusal n f c others ≡ others
counter_passed n f c others r e z = go (bad_cards n) (bad_broken n f) (bad_modulus c) e
  where
    go : (s t u : Bool) → r ≡ given 1 s (given 2 t (given 3 u 0)) → given 1 s (given 2 t (given 3 u others)) ≡ others
    go true t u q = absurd (omega arith)
    go false true u q = absurd (omega arith)
    go false false true q = absurd (omega arith)
    go false false false q = refl

pub record Shape (n f : ℕ) : Type 0 where
  pub some : 0 < n
  pub cards : n ≤ most_cards
  pub broken : f ≤ most_broken
  pub few : 3 * f < n

pub good_cards : (n : ℕ) → bad_cards n ≡ false → (0 < n) × (n ≤ most_cards)
good_cards n e =
    let t = or_parts (eqb n 0) (ltb most_cards n) e in
    let z = eqb-false n 0 t.0 in
    (omega arith, ltb-false most_cards n t.1)

pub good_shape : (n f : ℕ) → bad_cards n ≡ false → bad_broken n f ≡ false → Shape n f
good_shape n f p q =
    let g = good_cards n p in
    let t = or_parts (ltb most_broken f) (leb n (3 * f)) q in
    record { some = g.0; cards = g.1; broken = ltb-false most_broken f t.0; few = leb-false n (3 * f) t.1 }

pub good_modulus : (c : ℕ) → bad_modulus c ≡ false → (least_modulus ≤ c) × (c ≤ most_modulus)
good_modulus c e =
    let t = or_parts (ltb c least_modulus) (ltb most_modulus c) e in
    (ltb-false c least_modulus t.0, ltb-false most_modulus c t.1)

-- where neither refusals 1, 2 and 3 are given nor one after them
pub record Counter (n f c others : ℕ) : Type 0 where
  pub shape : Shape n f
  pub least : least_modulus ≤ c
  pub most : c ≤ most_modulus
  pub passed : others ≡ 0

pub counter_accepted : (n f c others : ℕ) → counter_refusal n f c others ≡ 0 → Counter n f c others
counter_accepted n f c others e =
    let p = not_given 1 (bad_cards n) _ (omega arith) e in
    let q = not_given 2 (bad_broken n f) _ (omega arith) p.1 in
    let m = not_given 3 (bad_modulus c) others (omega arith) q.1 in
    let g = good_modulus c m.0 in
    record { shape = good_shape n f p.0 q.0; least = g.0; most = g.1; passed = m.1 }

pub counter_shape : (n f c : ℕ) → counter_refusal n f c 0 ≡ 0 → Shape n f
counter_shape n f c e = (counter_accepted n f c 0 e).shape

-- where the parameters of n and f are not refused
pub accepted : (n f : ℕ) → shape_refusal n f 0 ≡ 0 → Shape n f
accepted n f e =
    let p = not_given 1 (bad_cards n) _ (omega arith) e in
    let q = not_given 2 (bad_broken n f) 0 (omega arith) p.1 in
    good_shape n f p.0 q.0

-- where a whole beat is not refused
pub record Beat (n f c set held sent out : ℕ) : Type 0 where
  pub shape : Shape n f
  pub least : least_modulus ≤ c
  pub most : c ≤ most_modulus
  pub set_below : set < 2 ^ n
  pub set_few : broken_below set n ≤ f
  pub held_whole : held ≡ n * record_words f
  pub sent_whole : sent ≡ sent_words n f set
  pub out_whole : out ≡ n * record_words f

-- a length that is not wrong
pub right : (size needed : ℕ) → wrong size needed ≡ false → size ≡ needed
right size needed e = eqb-true size needed (not-false (eqb size needed) e)

pub beat_accepted : (n f c set held sent out : ℕ) → beat_refusal n f c set held sent out ≡ 0 → Beat n f c set held sent out
unfolding bad_set
beat_accepted n f c set held sent out e =
    let a = counter_accepted n f c _ e in
    let s = not_given 7 (bad_set n f set) _ (omega arith) a.passed in
    let h = not_given 5 (wrong held (n * record_words f)) _ (omega arith) s.1 in
    let w = not_given 8 (wrong sent (sent_words n f set)) _ (omega arith) h.1 in
    let o = not_given 6 (wrong out (n * record_words f)) 0 (omega arith) w.1 in
    let b = or_parts (leb (2 ^ n) set) (ltb f (broken_below set n)) s.0 in
    record {
      shape = a.shape;
      least = a.least;
      most = a.most;
      set_below = leb-false (2 ^ n) set b.0;
      set_few = ltb-false f (broken_below set n) b.1;
      held_whole = right held (n * record_words f) h.0;
      sent_whole = right sent (sent_words n f set) w.0;
      out_whole = right out (n * record_words f) o.0;
    }

-- where one card's step is not refused
pub record Step (n f c card records out : ℕ) : Type 0 where
  pub shape : Shape n f
  pub least : least_modulus ≤ c
  pub most : c ≤ most_modulus
  pub card_below : card < n
  pub records_whole : records ≡ n * record_words f
  pub out_whole : out ≡ record_words f

pub step_accepted : (n f c card records out : ℕ) → step_refusal n f c card records out ≡ 0 → Step n f c card records out
step_accepted n f c card records out e =
    let a = counter_accepted n f c _ e in
    let k = not_given 4 (leb n card) _ (omega arith) a.passed in
    let r = not_given 5 (wrong records (n * record_words f)) _ (omega arith) k.1 in
    let o = not_given 6 (wrong out (record_words f)) 0 (omega arith) r.1 in
    record {
      shape = a.shape;
      least = a.least;
      most = a.most;
      card_below = leb-false n card k.0;
      records_whole = right records (n * record_words f) r.0;
      out_whole = right out (record_words f) o.0;
    }

-- where the shown count is not refused
pub shown_accepted : (n f c words : ℕ) → shown_refusal n f c words ≡ 0 → (words ≡ record_words f) × (c ≤ most_modulus)
shown_accepted n f c words e =
    let a = counter_accepted n f c _ e in
    (right words (record_words f) (not_given 5 (wrong words (record_words f)) 0 (omega arith) a.passed).0, a.most)

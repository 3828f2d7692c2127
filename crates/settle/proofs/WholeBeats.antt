-- Accepted whole beats, one after the other, are a run: so what is proved of runs holds of them.
use mathlib.Core.Path.{◌≡◌, refl, sym, ◌∙◌}
use mathlib.Core.Bool.{Bool, true, false, not}
use mathlib.Core.List.{List}
use Prim.Native.Nat.{ℕ, zero, suc, ◌*◌, ◌≤◌, ◌<◌}
use native.Mathlib.Nat.{sub_self}
use native.Mathlib.Numerals.{add-one}
use native.Mathlib.Omega.{arith}
use lib.IntN.{pos}
use lib.ListN.{length, get_or}
use borrow.Author.Tests.{le-leb, not-true}
use Rattle.rules.specs.Counting.{count_below}
use Rattle.rules.specs.Parameters.{record_words}
use Rattle.rules.specs.Groups.{heard_in}
use Rattle.rules.specs.OneBeat.{group_next, next_record}
use Rattle.rules.specs.WholeBeat.{is_broken, broken_below, heard_on_beat, record_after, table_after}
use Rattle.rules.specs.Refusals.{beat_refusal}
use Rattle.rules.specs.Lag.{nearest, lag_of}
use Rattle.rules.proofs.Counting.{count_same}
use Rattle.rules.proofs.Lists.{rows_length, rows_at, padded_at}
use Rattle.rules.proofs.Records.{record_length}
use Rattle.rules.proofs.Shapes.{beat_accepted}
use Rattle.settle.specs.Run.{Run, table_at}
use Rattle.settle.specs.Statement.{SettlesOnBeats, NoComb}
use Rattle.settle.proofs.Settles.{settles}

twice_not : (t : Bool) → not (not t) ≡ t
twice_not true = refl
twice_not false = refl

-- where a sound card's next words stand in the table
word_after : (n f c set : ℕ) (held sent : List ℕ) (v j : ℕ) → v < n → is_broken set v ≡ false → j < record_words f
    → heard_in (record_words f) (table_after n f c set held sent) v j
    ≡ get_or (group_next (suc f) n f c (heard_on_beat n f set held sent v) v) j 0
unfolding table_after record_after next_record
word_after n f c set held sent v j lv e l =
    rows_at n (record_words f) (record_after n f c set held sent) (λ i k. record_length n f c set held sent i) v j lv l
    ∙ rw e (padded_at (record_words f) (group_next (suc f) n f c (heard_on_beat n f set held sent v) v) j)

-- the sound cards' words, and what they hear
beats : (n f c set : ℕ) → List ℕ → (ℕ → List ℕ) → Run n f c (λ v. not (is_broken set v))
unfolding table_at heard_on_beat
beats n f c set start sent =
    record {
      words = λ r. heard_in (record_words f) (table_at n f c set start sent r);
      hear = λ r. heard_on_beat n f set (table_at n f c set start sent r) (sent r);
      fuel = suc f;
      deep = omega arith;
      heard = λ r v u lv sv lu su j. rw (not-true (is_broken set u) su);
      steps = λ r v lv sv j l.
          rw (add-one r) (word_after n f c set (table_at n f c set start sent r) (sent r) v j lv (not-true (is_broken set v) sv) l);
    }

-- the table keeps its length, so that each beat is accepted on the table it finds
table_length : (n f c set : ℕ) (start : List ℕ) (sent : ℕ → List ℕ) → length start ≡ n * record_words f
    → (r : ℕ) → length (table_at n f c set start sent r) ≡ length start
unfolding table_at table_after
table_length n f c set start sent e zero = refl
table_length n f c set start sent e (suc r) =
    rows_length n (record_words f) _ (λ v l. record_length n f c set (table_at n f c set start sent r) (sent r) v) ∙ sym e

pub each_accepted : (n f c set : ℕ) (start : List ℕ) (sent : ℕ → List ℕ)
    → ((r : ℕ) → beat_refusal n f c set (length start) (length (sent r)) (length start) ≡ 0)
    → (r : ℕ) → beat_refusal n f c set (length (table_at n f c set start sent r)) (length (sent r)) (length start) ≡ 0
each_accepted n f c set start sent ok r =
    let good = beat_accepted n f c set (length start) (length (sent 0)) (length start) (ok 0) in
    rw (table_length n f c set start sent good.held_whole r) (ok r)

-- what is promised (RULES 13), over whole beats
pub settles_on_beats : SettlesOnBeats
unfolding broken_below beats
settles_on_beats n f c set start sent ok =
    let a = beat_accepted n f c set (length start) (length (sent 0)) (length start) (ok 0) in
    let few : count_below n (λ u. not (not (is_broken set u))) ≤ f
    = rw (count_same n (λ u. not (not (is_broken set u))) (is_broken set) (λ u l. twice_not (is_broken set u))) a.set_few in
    let s = settles n f c (λ v. not (is_broken set v)) (record { few = a.shape.few; broken = few }) (omega arith) a.least a.most
    (beats n f c set start sent) in
    (s.0, s.1, λ k v lv e. s.2 k v lv (rw e))

-- a count against itself
lag_self : (c x : ℕ) → lag_of c x x ≡ pos 0
unfolding lag_of nearest
lag_self c x = rw (le-leb x x (omega arith), sub_self x, le-leb 0 c (omega arith))

pub no_comb : NoComb
no_comb n f c set start sent ok k u v lu su lv sv =
    let s = settles_on_beats n f c set start sent ok in
    rw (s.2 k u lu su, s.2 k v lv sv) (lag_self c _)

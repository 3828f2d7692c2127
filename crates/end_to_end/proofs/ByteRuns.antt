-- From all starting bytes, whatever the broken cards send, there is a run of cards that call the exported step.
use mathlib.Core.Path.{◌≡◌, refl, sym, ◌∙◌}
use mathlib.Core.Bool.{Bool, cond}
use mathlib.Core.List.{List}
use Prim.Native.Nat.{ℕ, zero, suc, ◌+◌, ◌*◌, ◌<◌}
use native.Mathlib.Numerals.{add-one}
use native.Mathlib.Omega.{arith}
use lib.ListN.{length, get_or}
use borrow.Author.Tests.{lt-leb, eq-eqb}
use Rattle.rules.specs.Counting.{rows, tabulate}
use Rattle.rules.specs.Parameters.{record_words}
use Rattle.rules.specs.Refusals.{counter_refusal, step_bytes_refusal}
use Rattle.rules.specs.Calls.{step_bytes_out}
use Rattle.rules.proofs.Lists.{rows_length, rows_at, tabulate_length, tabulate_at}
use Rattle.rules.proofs.Shapes.{counter_passed}
use Rattle.end_to_end.specs.OnBytes.{record_bytes, ByteRun, RunsFromAnyStart}

module _ (n f c : ℕ) (sound : ℕ → Bool) (good : counter_refusal n f c 0 ≡ 0) (start : ℕ → List ℕ) (told : ℕ → ℕ → ℕ → List ℕ) where
  -- the n records that a card hears, of what the sound ones hold and the broken ones send to it
  record_of_lem : (ℕ → List ℕ) → (ℕ → List ℕ) → ℕ → List ℕ
  record_of_lem held lies u = tabulate (record_bytes f) (λ j. get_or (cond (sound u) (held u) (lies u)) j 0)

  heard_of : (ℕ → List ℕ) → (ℕ → List ℕ) → List ℕ
  heard_of held lies = rows n (record_of_lem held lies)

  heard_length : (held lies : ℕ → List ℕ) → length (heard_of held lies) ≡ 2 * (n * record_words f)
  unfolding heard_of record_of_lem
  heard_length held lies = omega (
    arith,
    rows_length n (record_bytes f) (record_of_lem held lies) (λ u l. tabulate_length (record_bytes f) _),
  )

  heard_at : (held lies : ℕ → List ℕ) (u j : ℕ) → u < n → j < record_bytes f
      → get_or (heard_of held lies) (u * record_bytes f + j) 0 ≡ get_or (cond (sound u) (held u) (lies u)) j 0
  unfolding heard_of record_of_lem
  heard_at held lies u j lu lj =
      rows_at n (record_bytes f) (record_of_lem held lies) (λ i l. tabulate_length (record_bytes f) _) u j lu lj
      ∙ tabulate_at (record_bytes f) _ j lj

  buffer : List ℕ
  buffer = tabulate (record_bytes f) (λ j. 0)

  unfoldable held : ℕ → ℕ → List ℕ
  held zero v = start v
  held (suc r) v = step_bytes_out n f c v (heard_of (held r) (told r v)) buffer

  called : (r v : ℕ) → v < n → step_bytes_refusal n f c v (length (heard_of (held r) (told r v))) (length buffer) ≡ 0
  unfolding buffer
  called r v l =
      counter_passed n f c _ 0 (sym good) refl
      ∙ rw (
        lt-leb n v l,
        heard_length (held r) (told r v),
        eq-eqb (2 * (n * record_words f)) _ refl,
        tabulate_length (record_bytes f) (λ j. 0),
        eq-eqb (record_bytes f) _ refl,
      )

  run : ByteRun n f c sound
  unfolding held
  run =
      record {
        holds = held;
        hears = λ r v. heard_of (held r) (told r v);
        before = λ r v. buffer;
        accepted = λ r v lv sv. called r v lv;
        heard = λ r v u lv sv lu su j l. heard_at (held r) (told r v) u j lu l ∙ rw su;
        steps = λ r v lv sv. rw (add-one r);
      }

pub runs_from_any_start : RunsFromAnyStart
unfolding held run
runs_from_any_start n f c sound good start told =
    (run n f c sound good start told, λ v. refl, λ r v u j lu bu l. heard_at n f c sound good start told _ (told r v) u j lu l ∙ rw bu)

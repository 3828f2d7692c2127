-- The table of a receiver: sound cards as held, broken cards as they send to it.
use mathlib.Core.Path.{◌≡◌, sym, ap, ◌∙◌}
use mathlib.Core.Logic.{⊎_elim}
use mathlib.Core.Bool.{true, false, true≢false}
use mathlib.Core.List.{List}
use Prim.Native.Nat.{ℕ, ◌+◌, ◌*◌, ◌≤◌, ◌<◌}
use native.Mathlib.Omega.{arith}
use borrow.Author.Count.{below_more}
use lib.ListN.{length}
use lib.Seq.{sets}
use Rattle.std.proofs.lemmas.Bool.{cases_Bool}
use Rattle.rules.specs.Groups.{place, heard_in}
use Rattle.rules.specs.WholeBeat.{is_broken, broken_below, heard_on_beat}
use Rattle.rules.proofs.Lists.{tabulate_at, tabulate_length}
use Rattle.rack.specs.declared.Rack.{Rack}
use Rattle.rack.specs.Racks.{words_from, size, SoundAsHeld, BrokenAsSent}
use Rattle.rack.proofs.Tables.{written, other_record}

module _ (r : Rack) (held sent : List ℕ) (v : ℕ) where
  -- where the words of a broken card stand among those sent
  abbrev row : ℕ → ℕ
  row u = place (broken_below r.set r.counter.n) v (broken_below r.set u)

  -- a broken card is heard as it sends to v
  abbrev AsSent : List ℕ → ℕ → ℕ → Type 0
  AsSent heard j u = is_broken r.set u ≡ true → heard_in (size r) heard u j ≡ heard_in (size r) sent (row u) j

  -- one broken card more is heard
  pub broken_heard : (u : ℕ) (heard next : List ℕ) → is_broken r.set u ≡ true → u * size r + size r ≤ length heard
      → next ≡ sets heard (u * size r) (words_from sent (row u * size r) (size r))
      → SoundAsHeld r held heard → BrokenAsSent r sent v u heard
      → (SoundAsHeld r held next) × (BrokenAsSent r sent v (u + 1) next)
  broken_heard u heard next e l is sound broken =
      let words = words_from sent (row u * size r) (size r) in
      let long : length words ≡ size r = tabulate_length (size r) _ in
      let same : (i j : ℕ) → (i ≡ u → ⊥) → j < size r → heard_in (size r) next i j ≡ heard_in (size r) heard i j =
      λ i j ne m. rw is (other_record words heard (size r) u i j long ne m) in
      let new : (j : ℕ) → j < size r → heard_in (size r) next u j ≡ heard_in (size r) sent (row u) j =
      λ j m. rw is (written words heard (u * size r) j (omega arith) (omega arith) ∙ tabulate_at (size r) _ j m) in (
        λ i j s m. same i j (λ q. true≢false (sym e ∙ ap (is_broken r.set) (sym q) ∙ s)) m ∙ sound i j s m,
        λ i j h b m. below_more (AsSent next j) u (λ i h b. same i j (λ q. omega arith) m ∙ broken i j h b m) (λ b. new j m) i h b,
      )

  -- one sound card more is passed over
  pub sound_passed : (u : ℕ) (heard : List ℕ) → is_broken r.set u ≡ false
      → BrokenAsSent r sent v u heard → BrokenAsSent r sent v (u + 1) heard
  sound_passed u heard e broken i j l b m =
      below_more (AsSent heard j) u (λ i h b. broken i j h b m) (λ b. absurd (true≢false (sym b ∙ e))) i l b

  -- and so all cards are heard as the rules have it
  pub all_heard : (heard : List ℕ) → SoundAsHeld r held heard → BrokenAsSent r sent v r.counter.n heard
      → (u j : ℕ) → u < r.counter.n → j < size r → heard_in (size r) heard u j ≡ heard_on_beat r.counter.n r.counter.f r.set held sent v u j
  unfolding heard_on_beat
  all_heard heard sound broken u j l m = ⊎_elim
      (λ (e : is_broken r.set u ≡ true). rw e (broken u j l e m))
      (λ (e : is_broken r.set u ≡ false). rw e (sound u j e m))
      (cases_Bool (is_broken r.set u))

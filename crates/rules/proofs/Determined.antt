-- What it means that a contract allows one result. A routine's lemma speaks of the contract itself, as the prover makes it from
-- the source: `Pre` is what it requires, `Post` what it ensures. No argument is named, so that nothing can be restated wrongly.
use mathlib.Core.Path.{◌≡◌, sym, ◌∙◌}
use mathlib.Core.List.{List}
use Prim.Native.Nat.{ℕ}
use contract.Lifetimes.{Lfts}
use denote.Triple.Clauses.{Lasts, at_exit}
use borrow.Fn.Kinds.{ParamKind, ResultKind, In, Out, Dens, res_t, ended_of}

-- the routine asks nothing of its caller
abbrev pub AsksNothing : {n : ℕ} (ps : List (ParamKind n)) → In n ps → Type 0
AsksNothing {n} ps Pre = (κs : Lfts n) (a : Dens κs ps) → Pre κs a

-- For all arguments: of two answers with two contents of the caller's buffers at exit that are both allowed, what is seen of the
-- answers coincides, and so do the contents. What the routine requires is no premise: with a demand that nobody meets any
-- contract would allow one result
abbrev pub OneResultAs : {n : ℕ} (ps : List (ParamKind n)) (r : ResultKind n) → Out n ps r
    → (Seen : Lfts n → Type 0) → ((κs : Lfts n) → (res_t r κs).Denot → Seen κs) → Type 0
OneResultAs {n} ps r Post Seen see =
    (κs : Lfts n) (a : Dens κs ps) (x y : (res_t r κs).Denot) (v w : Lasts (ended_of n ps r) κs a)
    → Post κs a x (at_exit (ended_of n ps r) κs a v) → Post κs a y (at_exit (ended_of n ps r) κs a w) → (see κs x ≡ see κs y) × (v ≡ w)

-- what is shown of each public routine: it asks nothing, and its contract allows one result
abbrev pub DeterminedAs : {n : ℕ} (ps : List (ParamKind n)) (r : ResultKind n) → In n ps → Out n ps r
    → (Seen : Lfts n → Type 0) → ((κs : Lfts n) → (res_t r κs).Denot → Seen κs) → Type 0
DeterminedAs ps r Pre Post Seen see = AsksNothing ps Pre × OneResultAs ps r Post Seen see

-- the same where the whole answer is seen
abbrev pub Determined : {n : ℕ} (ps : List (ParamKind n)) (r : ResultKind n) → In n ps → Out n ps r → Type 0
Determined ps r Pre Post = DeterminedAs ps r Pre Post (λ κs. (res_t r κs).Denot) (λ κs x. x)

-- a contract that is an equation allows one result
pub only_one : {A : Type 0} {is x y : A} → x ≡ is → y ≡ is → x ≡ y
only_one p q = p ∙ sym q

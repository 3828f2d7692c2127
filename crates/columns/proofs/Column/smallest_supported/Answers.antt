use Rattle.std.proofs.Common.{rules, ◌≡◌, ℕ, ◌≤◌, ◌<◌, eqb, sym, ◌∙◌, arith}
use borrow.Author.Count.{below_more}
use borrow.Author.Tests.{ltb-true, ltb-false}
use Rattle.rules.specs.declared.Vote.TheVariants.{Count}
use Rattle.rules.specs.Counting.{count_below}
use Rattle.rules.specs.OneBeat.{sent_by}
use Rattle.rules.proofs.Votes.{read_is}
use Rattle.columns.specs.declared.Column.{Column}
use Rattle.columns.specs.Columns.{votes_in, word_in}
use Rattle.columns.proofs.Sent.{sent_x, supported_found, supported_none}
use Rattle.columns.proofs.Column.smallest_supported.Goals as goal
use Rattle.columns.proofs.Column.smallest_supported.Goals.{then-x-best+then-more_than, else-x-best}
use Rattle.columns.proofs.Column.smallest_supported.Goals.{else-x-best-via-then-x-best+else-more_than, else-x-best-via-else-x-best}

pub loop-u-preserved : goal.loop-u-preserved
loop-u-preserved c =
    let a = c.args in
    let n = a.self.n in
    let votes = votes_in a.c a.self in
    let words = word_in a.self in
    let u = c.loop-u.u in
    let h = c.loop-u.invariant in
    let x = c.said-x.result in
    let times = count_below n (λ (v : ℕ). eqb (words v) x) in
    let sent : x < a.c → times ≡ sent_by n votes (Count x) = sent_x words a.c n x in
    let few : ℕ → ℕ → Type 0 = λ (best v : ℕ). words v < best → sent_by n votes (Count (words v)) ≤ a.f in
    elim c.if-x-best.branch [
      | then-x-best+then-more_than w ↦
          let e = w.more_than.ensures (λ (word : ℕ). eqb word x) (λ word answer fits post. search rules) in
          rw w.best-is (
            omega arith,
            λ k. omega (arith, sent k, ltb-true a.f times (sym e ∙ w.if-more_than.true)),
            below_more (few x) u (λ v lv k. h.2 v lv (omega arith)) (λ k. absurd (omega (arith, c.said-x.ensures))),
          )
      | else-x-best w ↦
          let rest : few c.loop-u.best u = elim w.else-x-best.branch [
            | else-x-best-via-then-x-best+else-more_than q ↦
                let e = q.more_than.ensures (λ (word : ℕ). eqb word x) (λ word answer fits post. search rules) in
                λ k. rw (← c.said-x.ensures)
                (omega (arith, sent (omega arith), ltb-false a.f times (sym e ∙ q.if-more_than.false)))
            | else-x-best-via-else-x-best q ↦ λ k. absurd (omega (arith, q.if-x-best.false, c.said-x.ensures))
          ] in
          rw w.best-is (h.0, h.1, below_more (few c.loop-u.best) u h.2 rest)
    ]

-- what was sent and lies below the best is not supported
passed : (col : Column) (f c best u : ℕ) → col.n ≤ u
    → ((v : ℕ) → v < u → word_in col v < best → sent_by col.n (votes_in c col) (Count (word_in col v)) ≤ f)
    → (v x : ℕ) → v < col.n → votes_in c col v ≡ Count x → x < best → sent_by col.n (votes_in c col) (Count x) ≤ f
passed col f c best u end h v x lv e l =
    let s : word_in col v ≡ x = (read_is c (word_in col v) x e).0 in
    rw (← s) (h v (omega arith) (omega arith))

pub returns-then-best-c : goal.returns-then-best-c
returns-then-best-c c =
    let a = c.args in
    let l = c.loop-u in
    sym
    (supported_found (votes_in a.c a.self) a.self.n a.f a.c l.best c.if-best-c.true (l.invariant.1 c.if-best-c.true)
    (passed a.self a.f a.c l.best l.u c.loop-u-test.false l.invariant.2))

pub returns-else-best-c : goal.returns-else-best-c
returns-else-best-c c =
    let a = c.args in
    let l = c.loop-u in
    sym
    (supported_none (votes_in a.c a.self) a.self.n a.f a.c
    (λ v x lv e k. passed a.self a.f a.c l.best l.u c.loop-u-test.false l.invariant.2 v x lv e (omega arith)))

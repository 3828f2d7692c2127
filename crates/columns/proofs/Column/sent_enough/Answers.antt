use Rattle.std.proofs.Common.{rules, ℕ, ltb, not, eqb, arith}
use Rattle.columns.specs.Columns.{word_in}
use Rattle.columns.proofs.Sent.{sent_other, sent_none, sent_never, enough_rest, enough_zero}
use Rattle.columns.proofs.Column.sent_enough.Goals as goal

pub returns-in-Count : goal.returns-in-Count
returns-in-Count c =
    let a = c.args in
    let x = c.in-Count.x in
    let e = c.more_than.ensures (λ (word : ℕ). not (eqb word x)) (λ word answer fits post. search rules) in
    rw (c.in-Count.is, e) (enough_rest a.self.n a.f _ _ (sent_other (word_in a.self) a.m a.self.n x (omega arith)))

pub returns-in-Count-2 : goal.returns-in-Count-2
returns-in-Count-2 c =
    let a = c.args in
    rw (c.in-Count.is, sent_never (word_in a.self) a.m a.self.n c.in-Count.x c.if-x-m.false) (enough_zero a.self.n a.f)

pub returns-in-None : goal.returns-in-None
returns-in-None c =
    let a = c.args in
    let e = c.more_than-in-None.ensures (λ (word : ℕ). ltb word a.m) (λ word answer fits post. search rules) in
    rw (c.in-None.is, e) (enough_rest a.self.n a.f _ _ (sent_none (word_in a.self) a.m a.self.n))

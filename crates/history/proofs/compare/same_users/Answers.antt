use Rattle.std.proofs.Common.{refl, arith, below_more}
use Rattle.std.proofs.lemmas.Bool.{false≢true, both_ways}
use Rattle.history.proofs.Compared.{users_all}
use Rattle.history.proofs.compare.same_users.Goals as goal

pub loop-code-preserved : goal.loop-code-preserved
loop-code-preserved g c = below_more _ _ c.loop-code.invariant (c.same_at.ensures.0 c.if-not-same_at.false)

pub returns-then-not-same_at : goal.returns-then-not-same_at
returns-then-not-same_at g c =
    (λ e. absurd (false≢true e), λ h. absurd (both_ways c.same_at.result c.if-not-same_at.true (c.same_at.ensures.1 (h c.loop-code.code))))

pub returns : goal.returns
returns g c =
    (λ e. users_all g.P.Panel.make g.Q.Panel.make c.args.a.now c.args.b.now (λ n h. c.loop-code.invariant n (omega (arith, c.loop-code-test.false))), λ h. refl)

-- the last code is tested by itself
pub returns-else-not-same_at : goal.returns-else-not-same_at
returns-else-not-same_at g c =
    let all = below_more _ _ c.loop-code.invariant (c.same_at.ensures.0 c.if-not-same_at.false) in
    (λ e. users_all g.P.Panel.make g.Q.Panel.make c.args.a.now c.args.b.now (λ n h. all n (omega arith)), λ h. refl)

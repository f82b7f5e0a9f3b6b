use Rattle.std.proofs.Common.{refl, arith, below_more}
use Rattle.std.proofs.lemmas.Bool.{false≢true, both_ways}
use Rattle.history.proofs.Compared.{macro_all}
use Rattle.history.proofs.compare.same_macro.Goals as goal

pub loop-index-preserved : goal.loop-index-preserved
loop-index-preserved g c = below_more _ _ c.loop-index.invariant (c.same_at.ensures.0 c.if-not-same_at.false)

pub returns-then-not-same_at : goal.returns-then-not-same_at
returns-then-not-same_at g c =
    (λ e. absurd (false≢true e), λ h. absurd (both_ways c.same_at.result c.if-not-same_at.true (c.same_at.ensures.1 (h c.loop-index.index))))

pub returns : goal.returns
returns g c =
    (λ e. macro_all g.P.Panel.make g.Q.Panel.make c.args.a.now c.args.b.now (λ n h. c.loop-index.invariant n (omega (arith, c.loop-index-test.false))), λ h. refl)

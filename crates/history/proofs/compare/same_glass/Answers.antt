use Rattle.history.proofs.Compared.{glass_all}
use Rattle.history.proofs.compare.same_glass.Goals as goal

pub returns-then-same_row : goal.returns-then-same_row
returns-then-same_row g c = (
  λ e. glass_all g.P.Panel.make g.Q.Panel.make c.args.a.now c.args.b.now (c.same_row.ensures.0 c.if-same_row.true) (c.same_row-then-same_row.ensures.0 e),
  λ h. c.same_row-then-same_row.ensures.1 (λ x. h x 2),
)

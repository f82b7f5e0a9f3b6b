use Rattle.std.proofs.Common.{refl, ◌∙◌}
use Rattle.escpos.proofs.Lawful.{x_read, y_read}
use Rattle.escpos.proofs.operands.of_us.Goals as goal

pub returns-in-GoToX-1-to-20 : goal.returns-in-GoToX-1-to-20
returns-in-GoToX-1-to-20 c = c.wait.ensures ∙ x_read _ _ c.in-GoToX-1-to-20.is-0

pub returns-in-GoToY-1-to-2 : goal.returns-in-GoToY-1-to-2
returns-in-GoToY-1-to-2 c = c.complete.ensures ∙ y_read _ _ _ c.in-GoToY-1-to-2.is-0 refl

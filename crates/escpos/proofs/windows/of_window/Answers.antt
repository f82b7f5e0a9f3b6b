use Rattle.std.proofs.Common.{refl, ◌∙◌}
use Rattle.escpos.proofs.Lawful.{x1_read, y1_read, x2_read, y2_read}
use Rattle.escpos.proofs.windows.of_window.Goals as goal

pub returns-in-WindowX1-1-to-20 : goal.returns-in-WindowX1-1-to-20
returns-in-WindowX1-1-to-20 c = c.wait.ensures ∙ x1_read _ _ _ c.in-WindowX1-1-to-20.is-0

pub returns-in-WindowY1-1-to-2 : goal.returns-in-WindowY1-1-to-2
returns-in-WindowY1-1-to-2 c = c.wait-in-WindowY1-1-to-2.ensures ∙ y1_read _ _ _ _ c.in-WindowY1-1-to-2.is-0 refl

pub returns-in-WindowX2-default : goal.returns-in-WindowX2-default
returns-in-WindowX2-default c = c.wait-in-WindowX2-default.ensures ∙ x2_read _ _ _ _ c.args.byte c.in-WindowX2-default.is-0 refl

pub returns-in-WindowY2-default : goal.returns-in-WindowY2-default
returns-in-WindowY2-default c = c.change_window.ensures ∙ y2_read _ _ _ _ c.args.byte c.in-WindowY2-default.is-0 refl

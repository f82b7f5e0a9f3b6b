use Rattle.std.proofs.Common.{refl, sym}
use Rattle.escpos.proofs.Lawful.{x_read, y_read, y_glance}
use Rattle.escpos.proofs.take.ReadingCommandSet.glance.Goals as goal

pub returns-in-GoToX-clause-reading : goal.returns-in-GoToX-clause-reading
returns-in-GoToX-clause-reading c = sym (x_read _ _ c.in-GoToX.is)

pub returns-in-GoToY : goal.returns-in-GoToY
returns-in-GoToY c = record { value = y_glance _ _ _ c.in-GoToY.is refl; reading = sym (y_read _ _ _ c.in-GoToY.is refl) }

use Rattle.std.proofs.Common.{sym, ap}
use Rattle.glass.specs.Drawn.{drawn_all}
use Rattle.panel.specs.Laws.{none}
use Rattle.state.specs.Effects.{one}
use Rattle.display.proofs.engine.draw_some.Goals as goal

pub returns-in_default : goal.returns-in_default
returns-in_default g c = record { cells = ap (λ s. drawn_all (one s) (g.P.Panel.make.cells c.args.panel.now)) (sym c.in_default.is); reached = none }

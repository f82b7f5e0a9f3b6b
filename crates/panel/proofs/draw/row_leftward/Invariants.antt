use Rattle.std.proofs.Common.{leb}
use Rattle.panel.specs.Laws.{Reached}
use Rattle.panel.proofs.Steps.{Partly}
use Rattle.panel.proofs.draw.row_leftward.Given as goal

abbrev pub invariant-loop-column : goal.invariant-loop-column
invariant-loop-column g l =
    Partly l.stroke l.row (λ c. leb l.column c) (g.P.Panel.make.cells l.initial.panel) (g.P.Panel.make.cells l.panel)
    × Reached g.P.Panel.make.puts l.initial.panel l.panel

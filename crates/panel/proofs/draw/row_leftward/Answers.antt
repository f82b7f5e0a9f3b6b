use Rattle.std.proofs.Common.{◌≡◌, ◌-◌, arith}
use Rattle.panel.specs.Laws.{none}
use Rattle.panel.specs.Steps.{stepped}
use Rattle.panel.proofs.Puts.{reached_trans}
use Rattle.panel.proofs.Steps.{left_none, left_more, left_all}
use Rattle.panel.proofs.draw.row_leftward.Goals as goal

pub loop-column-init : goal.loop-column-init
loop-column-init g c = (left_none _ _ _ _ (omega arith), none)

pub loop-column-preserved : goal.loop-column-preserved
loop-column-preserved g c =
    let cells = g.P.Panel.make.cells in
    let one : cells c.step.new.panel ≡ stepped c.args.stroke (c.loop-column.column - 1) c.args.row (cells c.loop-column.panel) = search (arith, c.step.ensures.cells) in
    (left_more _ _ _ _ _ _ (g.met.P.Panel.laws.forty _) c.requires (omega arith) c.loop-column.invariant.0 one, reached_trans c.loop-column.invariant.1 c.step.ensures.reached)

pub returns : goal.returns
returns g c = record { cells = left_all _ _ _ _ _ (omega arith) c.loop-column.invariant.0; reached = c.loop-column.invariant.1 }

use Rattle.std.proofs.Common.{arith}
use Rattle.panel.specs.Laws.{none}
use Rattle.panel.proofs.Puts.{reached_trans}
use Rattle.panel.proofs.Steps.{right_none, right_more, right_all}
use Rattle.panel.proofs.draw.row_rightward.Goals as goal

pub loop-column-init : goal.loop-column-init
loop-column-init g c = (right_none _ _ _ _ c.max-column.ensures, none)

pub loop-column-preserved : goal.loop-column-preserved
loop-column-preserved g c = (
  right_more _ _ _ _ _ _ (g.met.P.Panel.laws.forty _) c.requires c.loop-column.invariant.0 c.step.ensures.cells,
  reached_trans c.loop-column.invariant.1 c.step.ensures.reached,
)

pub returns : goal.returns
returns g c = record { cells = right_all _ _ _ _ _ (omega arith) c.loop-column.invariant.0; reached = c.loop-column.invariant.1 }

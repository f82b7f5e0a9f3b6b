use Rattle.panel.specs.Laws.{Reached}
use Rattle.display.specs.Calls.{view}
use Rattle.display.proofs.Fed.{Sofar}
use Rattle.display.proofs.engine.Display.feed.Given as goal

abbrev pub invariant-loop-byte : goal.invariant-loop-byte
invariant-loop-byte g l =
    Sofar g.S.CommandSets.reads (view g.P.Panel.make l.initial.self) l.initial.faults l.piece l.byte-index (view g.P.Panel.make l.self) l.faults
    × Reached g.P.Panel.make.puts l.initial.self.panel l.self.panel

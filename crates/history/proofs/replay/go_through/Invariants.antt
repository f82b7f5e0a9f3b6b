use Rattle.std.proofs.Common.{take, vec_items}
use Rattle.history.specs.Replays.{GoesThrough}
use Rattle.history.proofs.replay.go_through.Given as goal

abbrev pub invariant-loop-happening : goal.invariant-loop-happening
invariant-loop-happening g l =
    GoesThrough g.P.Panel.make g.S.CommandSets.reads (take l.happening-index l.script) l.initial.display (vec_items l.initial.faults) l.display (vec_items l.faults)

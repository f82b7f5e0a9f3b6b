use Rattle.std.proofs.Common.{◌≡◌, take}
use Rattle.strip.specs.Strip.{merged}
use Rattle.painter.proofs.paint.Given as goal

abbrev pub invariant-loop-change : goal.invariant-loop-change
invariant-loop-change l = l.screen ≡ merged l.initial.screen (take l.change-index l.change-items)

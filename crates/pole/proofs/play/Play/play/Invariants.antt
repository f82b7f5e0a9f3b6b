use Rattle.std.proofs.Common.{◌≤◌, length}
use Rattle.pole.proofs.play.Play.play.Given as goal

abbrev pub invariant-loop-text : goal.invariant-loop-text
invariant-loop-text g l = length l.lines.rest.now ≤ length l.fn.lines.rest.now

-- what is left of the script
abbrev pub decreases-loop-text : goal.decreases-loop-text
decreases-loop-text g l = length l.lines.rest.now

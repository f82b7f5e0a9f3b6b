use Rattle.std.proofs.Common.{length}
use Rattle.pole.proofs.play.Play.run.Given as goal

-- what is left of the script
abbrev pub decreases-loop-text : goal.decreases-loop-text
decreases-loop-text l = length l.lines.rest.now

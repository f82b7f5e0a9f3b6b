use Rattle.history.proofs.Bounds.{bounds}
use Rattle.history.proofs.theorems.bounds_hold.Goals as goal

pub returns : goal.returns
returns g c = bounds g.P.Panel.make g.met.P.Panel.laws g.S.CommandSets.reads

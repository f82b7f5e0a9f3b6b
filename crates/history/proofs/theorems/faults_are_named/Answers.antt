use Rattle.history.proofs.Named.{named}
use Rattle.history.proofs.theorems.faults_are_named.Goals as goal

pub returns : goal.returns
returns g c = named g.S.CommandSets.reads g.met.S.CommandSets.laws g.P.Panel.make g.met.P.Panel.laws

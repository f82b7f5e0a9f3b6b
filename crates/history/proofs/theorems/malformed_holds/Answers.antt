use Rattle.history.proofs.Malformed.{malformed}
use Rattle.history.proofs.theorems.malformed_holds.Goals as goal

pub returns : goal.returns
returns g c = malformed g.S.CommandSets.reads g.met.S.CommandSets.laws

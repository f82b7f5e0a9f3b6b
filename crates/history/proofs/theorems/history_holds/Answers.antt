use Rattle.history.proofs.Lived.{history}
use Rattle.history.proofs.theorems.history_holds.Goals as goal

pub returns : goal.returns
returns g c =
    history g.P.Panel.make g.met.P.Panel.laws g.Q.Panel.make g.met.Q.Panel.laws g.S.CommandSets.reads g.met.S.CommandSets.laws

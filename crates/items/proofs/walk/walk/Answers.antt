use Rattle.std.proofs.Common.{rules}
use Rattle.std.proofs.lemmas.Result.{IfOk-weaker}
use borrow.Author.Tests.{tests}
use Rattle.items.proofs.Joins.{told, tells_new, tells_map}
use Rattle.items.proofs.Wholes.{whole, whole_walk}
use Rattle.items.proofs.walk.walk.Goals as goal

-- No map of the parts stands in the code: `tells_map` lets one pass that changes none, and so one that does is refused for that.
pub returns-clause-items : goal.returns-clause-items
returns-clause-items g c =
    let reads = g.S.CommandSets.reads in
    told reads c.collect.result c.collect.ensures.runs (search (rules, tests, tells_new reads, tells_map reads))

pub returns-clause-whole : goal.returns-clause-whole
returns-clause-whole g c =
    IfOk-weaker c.collect.result _ _ (λ v. whole g.S.CommandSets.reads g.met.S.CommandSets.laws _ _ v.items) (returns-clause-items g c)

pub returns-clause-always : goal.returns-clause-always
returns-clause-always g c = whole_walk g.S.CommandSets.reads g.met.S.CommandSets.laws

use Rattle.std.proofs.Common.{arith}
use Rattle.items.proofs.Joins.{drained}
use Rattle.items.proofs.Wholes.{whole_walk}
use Rattle.items.proofs.walk.count.Goals as goal

pub returns : goal.returns
returns g c =
    let reads = g.S.CommandSets.reads in
    let (ps, (u, (t, yields, end)), many) = c.count.ensures.ran in
    record { items = (ps, drained reads _ _ _ ps c.new.ensures (t, yields, λ _. (u, end)), omega (arith, many)); always = whole_walk reads g.met.S.CommandSets.laws }

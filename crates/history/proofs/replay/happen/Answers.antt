use Rattle.std.proofs.Common.{vec_items, sym, subst}
use Rattle.std.proofs.lemmas.Result.{IfOk-weaker}
use Rattle.history.specs.Replays.{Happens}
use Rattle.history.proofs.Replayed.{happens_tick, happens_painted}
use Rattle.history.proofs.replay.happen.Goals as goal

pub returns-in-Tick : goal.returns-in-Tick
returns-in-Tick g c =
    let p = g.P.Panel in
    let d = c.args.display.now in
    let fs = vec_items c.args.faults.now in
    let d' = c.tick.new.self in
    let fs' = vec_items c.collect.new.faults in
    IfOk-weaker c.collect.result _ _
    (λ _ j. subst (λ h. Happens p.make g.S.CommandSets.reads h d fs d' fs') (sym c.in-Tick.is)
    (happens_tick p.make g.S.CommandSets.reads d d' c.tick.result fs fs' c.tick.ensures j))
    c.collect.ensures

pub returns-in-Painted : goal.returns-in-Painted
returns-in-Painted g c =
    let p = g.P.Panel in
    let fs = vec_items c.args.faults.now in
    subst (λ h. Happens p.make g.S.CommandSets.reads h c.args.display.now fs c.painted.new.self fs) (sym c.in-Painted.is)
    (happens_painted p.make g.S.CommandSets.reads c.args.display.now c.painted.new.self fs c.painted.ensures)

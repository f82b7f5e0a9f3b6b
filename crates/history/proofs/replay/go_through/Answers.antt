use Rattle.std.proofs.Common.{vec_items, refl, subst}
use Rattle.std.proofs.lemmas.List.{take_all}
use Rattle.history.specs.Replays.{GoesThrough}
use Rattle.history.proofs.Replayed.{goes_nowhere, script_more}
use Rattle.history.proofs.replay.go_through.Goals as goal

pub loop-happening-init : goal.loop-happening-init
loop-happening-init g c = goes_nowhere g.P.Panel.make g.S.CommandSets.reads c.args.display.now (vec_items c.args.faults.now)

pub loop-happening-preserved : goal.loop-happening-preserved
loop-happening-preserved g c =
    script_more g.P.Panel.make g.S.CommandSets.reads c.args.display.now c.loop-happening.display c.happen.new.display c.args.script.now c.loop-happening.happening-index _ _
    (vec_items c.args.faults.now) (vec_items c.loop-happening.faults) (vec_items c.happen.new.faults) c.loop-happening-test.true refl c.loop-happening.invariant c.in_ok-happen.ensures

pub returns : goal.returns
returns g c =
    subst (λ hs. GoesThrough g.P.Panel.make g.S.CommandSets.reads hs c.args.display.now (vec_items c.args.faults.now) c.loop-happening.display (vec_items c.loop-happening.faults))
    (take_all c.loop-happening.happening-index c.args.script.now c.loop-happening-test.false) c.loop-happening.invariant

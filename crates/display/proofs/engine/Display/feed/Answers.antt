use Rattle.std.proofs.Common.{◌≡◌, ◌+◌, map, length, take, refl, ap, ◌∙◌, arith}
use Rattle.std.proofs.lemmas.List.{length-append}
use Rattle.list.specs.Entries.{entries}
use Rattle.panel.specs.Laws.{none}
use Rattle.panel.proofs.Puts.{reached_trans}
use Rattle.state.specs.Model.{byte, faults}
use Rattle.display.specs.Calls.{view}
use Rattle.display.proofs.Fed.{sofar_none, sofar_more, grown_capacity}
use Rattle.display.proofs.engine.Display.feed.Goals as goal

pub loop-byte-init : goal.loop-byte-init
loop-byte-init g c = (sofar_none g.S.CommandSets.reads _ _ _, none)

pub take-requires : goal.take-requires
take-requires g c =
    let l = c.args.faults.now in
    let fs = faults g.S.CommandSets.reads (view g.P.Panel.make c.args.self.now) (map byte (take c.loop-byte.byte-index c.args.piece.now)) in
    let h = c.loop-byte.invariant.0 in
    let long : length (entries c.loop-byte.faults) ≡ length (entries l) + length fs = ap length h.grown.list ∙ length-append (entries l) fs in
    omega (arith, h.few, grown_capacity l c.loop-byte.faults fs h.grown, long, c.free.ensures, c.if-free-piece.false, c.loop-byte-test.true)

pub loop-byte-preserved : goal.loop-byte-preserved
loop-byte-preserved g c = (
  sofar_more g.S.CommandSets.reads _ _ _ _ _ _ _ _ _ c.loop-byte-test.true refl c.loop-byte.invariant.0 c.take.ensures.state c.take.ensures.grown,
  reached_trans c.loop-byte.invariant.1 c.take.ensures.reached,
)

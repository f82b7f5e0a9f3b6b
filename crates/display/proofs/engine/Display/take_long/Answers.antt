use Rattle.std.proofs.Common.{sym, ap, ◌∙◌, subst}
use Rattle.glass.specs.Drawn.{drawn_all}
use Rattle.panel.proofs.Puts.{reached_trans}
use Rattle.state.specs.Effects.{one, strokes_of}
use Rattle.state.specs.Model.{fault_of}
use Rattle.state.proofs.Runs.{state_path, drawn-append}
use Rattle.display.specs.Calls.{Grown}
use Rattle.display.proofs.Fed.{grown_more}
use Rattle.display.proofs.engine.Display.take_long.Goals as goal

pub returns : goal.returns
returns g c =
    let cells = g.P.Panel.make.cells in
    let r = c.byte-answer.ensures in
    let a = c.byte-answer.result in
    let p = c.args.self.now.panel in
    record {
      state =
          state_path _ _ r.reading r.core
          (c.draw_all.ensures.cells
          ∙ ap (drawn_all (strokes_of a.reply.strokes)) c.draw_some.ensures.cells
          ∙ sym (drawn-append (one a.ending) (strokes_of a.reply.strokes) (cells p))
          ∙ ap (λ ss. drawn_all ss (cells p)) r.strokes);
      grown =
          subst (λ fs. Grown c.args.faults.now fs c.note-2.new.faults) r.faults
          (grown_more c.args.faults.now c.note.new.faults c.note-2.new.faults (fault_of a.overflow) (fault_of a.reply.fault) c.note.ensures c.note-2.ensures);
      reached = reached_trans c.draw_some.ensures.reached c.draw_all.ensures.reached;
    }

use Rattle.std.proofs.Common.{sym, ap, ◌∙◌}
use Rattle.glass.specs.Drawn.{drawn_all}
use Rattle.panel.proofs.Puts.{reached_trans}
use Rattle.state.specs.Effects.{one}
use Rattle.state.proofs.Runs.{drawn-append}
use Rattle.display.proofs.engine.draw_all.Goals as goal

pub returns : goal.returns
returns g c =
    let s = c.args.strokes in
    record {
      cells = c.draw_some-2.ensures.cells ∙ ap (drawn_all (one s.second)) c.draw_some.ensures.cells ∙ sym (drawn-append (one s.first) (one s.second) (g.P.Panel.make.cells c.args.panel.now));
      reached = reached_trans c.draw_some.ensures.reached c.draw_some-2.ensures.reached;
    }

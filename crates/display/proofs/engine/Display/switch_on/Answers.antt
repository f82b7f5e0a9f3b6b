use Rattle.std.proofs.Common.{◌∙◌}
use Rattle.panel.proofs.Glass.{blank_whole}
use Rattle.state.proofs.Runs.{state_path}
use Rattle.display.proofs.engine.Display.switch_on.Goals as goal

pub returns : goal.returns
returns g c =
    let p = c.args.panel in
    record {
      state = state_path _ _ c.new.ensures.reading c.new.ensures.core (c.draw.ensures.cells ∙ blank_whole (g.P.Panel.make.cells p) (g.met.P.Panel.laws.forty p));
      reached = c.draw.ensures.reached;
    }

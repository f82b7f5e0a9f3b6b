use Rattle.std.proofs.Common.{ap, ◌∙◌}
use Rattle.glass.specs.Places.{holds}
use Rattle.state.specs.Slots.{area_of}
use Rattle.state.proofs.Kept.{fit_area}
use Rattle.state.proofs.Stays.{step_inside}
use Rattle.state.specs.Moves.{toward}
use Rattle.state.proofs.windows.Windows.step.Goals as goal

pub go-requires : goal.go-requires
go-requires c =
    let w = c.args.self.now in
    let a = area_of w.slots w.current in
    let e = c.toward-next.ensures ∙ ap (λ o. toward c.args.way c.args.mode o w.cursor.column w.cursor.row) c.here.ensures in
    ap (λ m. holds a m.at.column m.at.row) e ∙ step_inside c.args.way c.args.mode a w.cursor.column w.cursor.row (fit_area w.slots w.current w.fitting) w.inside

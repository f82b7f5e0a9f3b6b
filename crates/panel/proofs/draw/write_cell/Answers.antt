use Rattle.std.proofs.Common.{◌≡◌, ◌<◌, Some, None, set, sym, ap, ◌∙◌, arith}
use Rattle.std.proofs.lemmas.Bool.{cond-true, cond-false}
use Rattle.glass.specs.Places.{place, place_at}
use Rattle.panel.specs.Laws.{none}
use Rattle.panel.proofs.Puts.{reached_one}
use Rattle.panel.proofs.Glass.{on_glass, placed_at, unplaced}
use Rattle.panel.proofs.draw.write_cell.Goals as goal

pub returns-in-Some : goal.returns-in-Some
returns-in-Some g c =
    let x = c.args.at.column in
    let y = c.args.at.row in
    let cs = g.P.Panel.make.cells c.args.panel.now in
    let placed : Some c.in-Some.spot ≡ place_at x y = search (arith, c.in-Some.ensures) in
    let at = placed_at x y c.in-Some.spot placed in
    let is : c.in-Some.spot ≡ place x y = at.1 in
    let on = on_glass x y at.0 in
    let low : c.in-Some.spot < 40 = omega arith in
    let h = c.put.ensures.puts low in
    record {
      cells = g.met.P.Panel.laws.putting _ _ _ _ h ∙ ap (λ k. set cs k c.args.cell) is ∙ sym (cond-true _ (set cs (place x y) c.args.cell) cs at.0);
      reached = reached_one _ _ low h;
    }

pub returns-in_default : goal.returns-in_default
returns-in_default g c =
    let x = c.args.at.column in
    let y = c.args.at.row in
    let cs = g.P.Panel.make.cells c.args.panel.now in
    let unset : None ≡ place_at x y = search (arith, sym c.in_default.is ∙ c.place.ensures) in
    record {
      cells = sym (cond-false _ (set cs (place x y) c.args.cell) cs (unplaced x y unset));
      reached = none;
    }

use Rattle.std.proofs.Common.{◌≡◌, ◌<◌, set, sym, ◌∙◌, arith}
use Rattle.std.proofs.lemmas.Bool.{and_from, and_left, and_right, cond-true, cond-false}
use Rattle.glass.specs.Places.{place, holds, whole}
use Rattle.panel.specs.Laws.{none}
use Rattle.panel.proofs.Puts.{reached_one}
use Rattle.panel.proofs.Glass.{on_glass, placed_at, unplaced}
use Rattle.panel.proofs.draw.step.Goals as goal

pub returns-then-not-holds : goal.returns-then-not-holds
returns-then-not-holds g c =
    record {
      cells = sym (cond-false _ _ _ (and_right (holds whole c.args.at.column c.args.at.row) _ (sym c.holds.ensures ∙ c.if-not-holds.true)));
      reached = none;
    }

pub returns-in-Some : goal.returns-in-Some
returns-in-Some g c =
    let x = c.args.at.column in
    let y = c.args.at.row in
    let cs = g.P.Panel.make.cells c.args.panel.now in
    let at = placed_at x y c.in-Some.place c.in-Some.ensures in
    let is : c.in-Some.place ≡ place x y = at.1 in
    let on = on_glass x y at.0 in
    let low : c.in-Some.place < 40 = omega arith in
    let h = c.put.ensures.puts low in
    record {
      cells =
          g.met.P.Panel.laws.putting _ _ _ _ h ∙ (λ i. set cs (is i) (c.inked-cell.ensures i))
          ∙ sym (cond-true _ _ _ (and_from (holds whole x y) _ at.0 (sym c.holds.ensures ∙ c.if-not-holds.false)));
      reached = reached_one _ _ low h;
    }

pub returns-in_default : goal.returns-in_default
returns-in_default g c =
    record {
      cells = sym (cond-false _ _ _ (and_left (holds whole c.args.at.column c.args.at.row) _ (unplaced c.args.at.column c.args.at.row (sym c.in_default.is ∙ c.place.ensures))));
      reached = none;
    }

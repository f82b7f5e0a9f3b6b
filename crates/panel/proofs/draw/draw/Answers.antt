use Rattle.std.proofs.Common.{◌≡◌, ◌⊎◌, sym, ap, ◌∙◌, inl, inr, arith}
use Rattle.glass.specs.Places.{line}
use Rattle.glass.specs.Drawn.{inked}
use Rattle.panel.specs.Steps.{stepped}
use Rattle.panel.proofs.Puts.{reached_trans}
use Rattle.panel.proofs.Steps.{source, both_rows, one_row, one_step, blank_else, left_else, right_else, write_else, lines, blank_free, up_free, down_free}
use Rattle.panel.proofs.draw.draw.Goals as goal

pub returns-in-Write : goal.returns-in-Write
returns-in-Write g c =
    let cells = g.P.Panel.make.cells in
    let at = c.in-Write.at in
    let one : cells c.step.new.panel ≡ stepped c.args.stroke at.column at.row (cells c.args.panel.now) = search (arith, c.step.ensures.cells) in
    record {
      cells = one_step c.args.stroke _ _ _ _ one (λ look x y n. ap (λ i. inked i look x y) c.in-Write.is ∙ write_else at c.in-Write.cell look x y n);
      reached = c.step.ensures.reached;
    }

pub returns-in-BlankRow : goal.returns-in-BlankRow
returns-in-BlankRow g c =
    record {
      cells =
          one_row c.args.stroke c.in-BlankRow.row _ _ c.row_rightward.ensures.cells
          (λ look x y n. ap (λ i. inked i look x y) c.in-BlankRow.is ∙ blank_else c.in-BlankRow.row look x y n);
      reached = c.row_rightward.ensures.reached;
    }

pub returns-in-ShiftLeft : goal.returns-in-ShiftLeft
returns-in-ShiftLeft g c =
    record {
      cells =
          one_row c.args.stroke c.in-ShiftLeft.row _ _ c.row_rightward-in-ShiftLeft.ensures.cells
          (λ look x y n. ap (λ i. inked i look x y) c.in-ShiftLeft.is ∙ left_else c.in-ShiftLeft.row look x y n);
      reached = c.row_rightward-in-ShiftLeft.ensures.reached;
    }

pub returns-in-ShiftRight : goal.returns-in-ShiftRight
returns-in-ShiftRight g c =
    record {
      cells =
          one_row c.args.stroke c.in-ShiftRight.row _ _ c.row_leftward.ensures.cells
          (λ look x y n. ap (λ i. inked i look x y) c.in-ShiftRight.is ∙ right_else c.in-ShiftRight.row look x y n);
      reached = c.row_leftward.ensures.reached;
    }

pub returns-in-Blank : goal.returns-in-Blank
returns-in-Blank g c =
    record {
      cells =
          both_rows c.args.stroke 1 2 _ _ _ (g.met.P.Panel.laws.forty _) c.row_rightward-in-Blank.ensures.cells c.row_rightward-in-Blank-2.ensures.cells (λ e. omega arith) lines
          (λ k l f. blank_free k l (ap (λ i. line (source i k)) (sym c.in-Blank.is) ∙ f));
      reached = reached_trans c.row_rightward-in-Blank.ensures.reached c.row_rightward-in-Blank-2.ensures.reached;
    }

pub returns-in-ScrollUp : goal.returns-in-ScrollUp
returns-in-ScrollUp g c =
    record {
      cells =
          both_rows c.args.stroke 1 2 _ _ _ (g.met.P.Panel.laws.forty _) c.row_rightward-in-ScrollUp.ensures.cells c.row_rightward-in-ScrollUp-2.ensures.cells (λ e. omega arith) lines
          (λ k l f. up_free k l (ap (λ i. line (source i k)) (sym c.in-ScrollUp.is) ∙ f));
      reached = reached_trans c.row_rightward-in-ScrollUp.ensures.reached c.row_rightward-in-ScrollUp-2.ensures.reached;
    }

pub returns-in-ScrollDown : goal.returns-in-ScrollDown
returns-in-ScrollDown g c =
    record {
      cells =
          both_rows c.args.stroke 2 1 _ _ _ (g.met.P.Panel.laws.forty _) c.row_leftward-in-ScrollDown.ensures.cells c.row_leftward-in-ScrollDown-2.ensures.cells
          (λ e. omega arith) (λ k. swapped (lines k)) (λ k l f. down_free k l (ap (λ i. line (source i k)) (sym c.in-ScrollDown.is) ∙ f));
      reached = reached_trans c.row_leftward-in-ScrollDown.ensures.reached c.row_leftward-in-ScrollDown-2.ensures.reached;
    }
  where
    swapped : {A B : Type 0} → A ⊎ B → B ⊎ A
    swapped (inl a) = inr a
    swapped (inr b) = inl b

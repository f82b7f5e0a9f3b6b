use Rattle.std.proofs.Common.{ℕ, ◌<◌, ◌≤◌}
use Rattle.display.specs.declared.words.Question.TheVariants.{Cell}
use Rattle.history.specs.Compared.{AgreeOn}
use Rattle.history.proofs.compare.same_row.Given as goal

abbrev pub invariant-loop-column : goal.invariant-loop-column
invariant-loop-column g l = (x : ℕ) → 1 ≤ x → x < l.column → AgreeOn g.P.Panel.make g.Q.Panel.make l.a l.b (Cell x l.row)

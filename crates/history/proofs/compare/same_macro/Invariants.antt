use Rattle.std.proofs.Common.{ℕ, ◌<◌}
use Rattle.display.specs.declared.words.Question.TheVariants.{Macro}
use Rattle.history.specs.Compared.{AgreeOn}
use Rattle.history.proofs.compare.same_macro.Given as goal

abbrev pub invariant-loop-index : goal.invariant-loop-index
invariant-loop-index g l = (n : ℕ) → n < l.index → AgreeOn g.P.Panel.make g.Q.Panel.make l.a l.b (Macro n)

use Rattle.std.proofs.Common.{ℕ, ◌<◌}
use Rattle.display.specs.declared.words.Question.TheVariants.{Window}
use Rattle.history.specs.Compared.{AgreeOn}
use Rattle.history.proofs.compare.same_windows.Given as goal

abbrev pub invariant-loop-number : goal.invariant-loop-number
invariant-loop-number g l = (n : ℕ) → n < l.number → AgreeOn g.P.Panel.make g.Q.Panel.make l.a l.b (Window n)

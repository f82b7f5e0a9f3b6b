use Rattle.std.proofs.Common.{ℕ, ◌<◌}
use Rattle.display.specs.declared.words.Question.TheVariants.{User}
use Rattle.history.specs.Compared.{AgreeOn}
use Rattle.history.proofs.compare.same_users.Given as goal

abbrev pub invariant-loop-code : goal.invariant-loop-code
invariant-loop-code g l = (n : ℕ) → n < l.code → AgreeOn g.P.Panel.make g.Q.Panel.make l.a l.b (User n)

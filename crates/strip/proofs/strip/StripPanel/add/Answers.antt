use Rattle.std.proofs.Common.{refl, arith}
use Rattle.std.proofs.lemmas.Grind.{common_steps}
use Rattle.strip.proofs.strip.StripPanel.add.Goals as goal

pub returns-then-is_err : goal.returns-then-is_err
returns-then-is_err c =
    record { room = grind (arith, common_steps); full = λ h. (search (arith, c.put.ensures.forty), c.append.ensures.refused h, refl); lent = c.append.ensures.lent }

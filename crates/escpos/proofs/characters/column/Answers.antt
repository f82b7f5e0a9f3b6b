use Rattle.std.proofs.Common.{refl, ◌∙◌}
use Rattle.escpos.proofs.Lawful.{column_read}
use Rattle.escpos.proofs.characters.column.Goals as goal

pub returns-then-at-columns : goal.returns-then-at-columns
returns-then-at-columns c = c.wait.ensures ∙ column_read _ _ c.args.columns _ c.args.byte refl refl refl

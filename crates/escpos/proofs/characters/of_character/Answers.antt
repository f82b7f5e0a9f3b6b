use Rattle.std.proofs.Common.{refl, ◌∙◌, arith}
use Rattle.escpos.proofs.Lawful.{length_read}
use Rattle.escpos.proofs.characters.of_character.Goals as goal

pub returns-in-DefineLength-1-to-5 : goal.returns-in-DefineLength-1-to-5
returns-in-DefineLength-1-to-5 c = c.wait-in-DefineLength-1-to-5.ensures ∙ length_read _ _ _ _ c.in-DefineLength-1-to-5.is-0 refl refl (omega arith)

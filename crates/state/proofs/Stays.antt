-- A step of the cursor ends inside the area.
use Rattle.std.proofs.Common.{◌≡◌, ℕ, true, arith}
use Rattle.std.proofs.lemmas.Bool.Decides.{nat_tests}
use Rattle.glass.specs.declared.area.Area.{Area}
use Rattle.glass.specs.Places.{holds, lawful}
use Rattle.commands.specs.declared.words.Mode.{Mode}
use Rattle.commands.specs.declared.words.Mode.TheVariants.{Overwrite, Vertical, Horizontal}
use Rattle.commands.specs.declared.words.Way.{Way}
use Rattle.commands.specs.declared.words.Way.TheVariants.{Left, Right, Down, Up}
use Rattle.state.specs.Moves.{toward}

pub step_inside : (w : Way) (m : Mode) (a : Area) (x y : ℕ) → lawful a ≡ true → holds a x y ≡ true →
    holds a (toward w m a x y).at.column (toward w m a x y).at.row ≡ true
step_inside Left Overwrite a x y l h = grind (arith, nat_tests)
step_inside Left Vertical a x y l h = grind (arith, nat_tests)
step_inside Left Horizontal a x y l h = grind (arith, nat_tests)
step_inside Right Overwrite a x y l h = grind (arith, nat_tests)
step_inside Right Vertical a x y l h = grind (arith, nat_tests)
step_inside Right Horizontal a x y l h = grind (arith, nat_tests)
step_inside Down Overwrite a x y l h = grind (arith, nat_tests)
step_inside Down Vertical a x y l h = grind (arith, nat_tests)
step_inside Down Horizontal a x y l h = grind (arith, nat_tests)
step_inside Up Overwrite a x y l h = grind (arith, nat_tests)
step_inside Up Vertical a x y l h = grind (arith, nat_tests)
step_inside Up Horizontal a x y l h = grind (arith, nat_tests)

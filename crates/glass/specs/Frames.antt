-- What lies on the glass, made of numbers where it does.
use Rattle.std.specs.Prelude.{◌≡◌, ℕ, Bool, true, false, ◌&&◌, Some, None, Option, nat_le, refl}
use Rattle.glass.specs.declared.area.Area.{Area}
use Rattle.glass.specs.declared.frame.Column.{Column}
use Rattle.glass.specs.declared.frame.GlassPosition.{GlassPosition}
use Rattle.glass.specs.declared.frame.Frame.{Frame}
use Rattle.glass.specs.Places.{holds, whole, lawful}

-- what is made where a test holds
abbrev pub made : {A : Type 0} (b : Bool) → (b ≡ true → A) → Option A
made true f = Some (f refl)
made false f = None

abbrev pub column_of : ℕ → Option Column
column_of n = made (nat_le 1 n && nat_le n 20) (λ h. record { number = n; on_glass = h })

abbrev pub position_of : ℕ → ℕ → Option GlassPosition
position_of x y = made (holds whole x y) (λ h. record { at = record { column = x; row = y }; on_glass = h })

abbrev pub frame_of : Area → Option Frame
frame_of a = made (lawful a) (λ h. record { area = a; on_glass = h })

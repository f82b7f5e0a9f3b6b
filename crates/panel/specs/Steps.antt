-- A stroke is drawn row by row: what one position and one row of it leave.
use Rattle.std.specs.Prelude.{◌≡◌, ℕ, ◌<◌, Bool, true, false, cond, List, length, slice_index, slice_set}
use Rattle.glass.specs.declared.stroke.Ink.{Ink}
use Rattle.glass.specs.declared.stroke.Ink.TheVariants.{Blank, BlankRow, Write, ShiftLeft, ShiftRight, ScrollUp, ScrollDown}
use Rattle.glass.specs.declared.stroke.Stroke.{Stroke}
use Rattle.glass.specs.Places.{column, line, place, holds, inside, whole}
use Rattle.glass.specs.Drawn.{seen, inked, within}

-- whether no cell comes from a lower column of its row, so that a row can be drawn from left to right
abbrev pub rises : Ink → Bool
rises Blank = true
rises (BlankRow r) = true
rises (Write p v) = true
rises (ShiftLeft r) = true
rises (ShiftRight r) = false
rises ScrollUp = true
rises ScrollDown = true

-- whether no cell comes from a higher column of its row
abbrev pub falls : Ink → Bool
falls Blank = true
falls (BlankRow r) = true
falls (Write p v) = true
falls (ShiftLeft r) = false
falls (ShiftRight r) = true
falls ScrollUp = true
falls ScrollDown = true

-- the cell that a stroke leaves at a place of its area
abbrev pub cell_at : Stroke → List ℕ → ℕ → ℕ
cell_at s g k = inked s.ink (seen s.area g) (column k) (line k)

-- the stroke at one column and row only
abbrev pub stepped : Stroke → ℕ → ℕ → List ℕ → List ℕ
stepped s x y g = cond (inside s.area x y) (slice_set g (place x y) (inked s.ink (seen s.area g) x y)) g

-- the stroke in one row only
pub record Rowed (s : Stroke) (r : ℕ) (g h : List ℕ) : Type 0 where
  pub long : length h ≡ length g
  pub done : (k : ℕ) → k < length g → within s.area k ≡ true → line k ≡ r → slice_index h k ≡ cell_at s g k
  pub left : (k : ℕ) → (within s.area k ≡ true → line k ≡ r → ⊥) → slice_index h k ≡ slice_index g k

-- a cell at a column and row; off the glass nothing is written
abbrev pub written : ℕ → ℕ → ℕ → List ℕ → List ℕ
written x y v g = cond (holds whole x y) (slice_set g (place x y) v) g

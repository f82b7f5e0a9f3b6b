-- What a stroke leaves: each place of its area holds what the ink says, and every other place what it held.
use Rattle.std.specs.Prelude.{ℕ, suc, ◌+◌, ◌-◌, Bool, cond, ◌&&◌, List, [], ◌∷◌, ◌==◌, slice_index}
use Rattle.glass.specs.declared.area.Area.{Area}
use Rattle.glass.specs.declared.stroke.Ink.{Ink}
use Rattle.glass.specs.declared.stroke.Ink.TheVariants.{Blank, BlankRow, Write, ShiftLeft, ShiftRight, ScrollUp, ScrollDown}
use Rattle.glass.specs.declared.stroke.Stroke.{Stroke}
use Rattle.glass.specs.Places.{column, line, place, inside}

abbrev pub blank : ℕ
blank = 32

-- what is seen of the glass through an area: its cells, and blanks outside it
abbrev pub seen : Area → List ℕ → ℕ → ℕ → ℕ
seen a g x y = cond (inside a x y) (slice_index g (place x y)) blank

-- what an ink leaves at column x and row y, by what is seen
abbrev pub inked : Ink → (ℕ → ℕ → ℕ) → ℕ → ℕ → ℕ
inked Blank look x y = blank
inked (BlankRow r) look x y = cond (y == r) blank (look x y)
inked (Write p v) look x y = cond (x == p.column && y == p.row) v (look x y)
inked (ShiftLeft r) look x y = cond (y == r) (look (x + 1) y) (look x y)
inked (ShiftRight r) look x y = cond (y == r) (look (x - 1) y) (look x y)
inked ScrollUp look x y = look x (y + 1)
inked ScrollDown look x y = look x (y - 1)

-- the places that the test picks take f's cell, the others stay
abbrev pub redraw : (ℕ → Bool) → (ℕ → ℕ) → List ℕ → List ℕ
redraw picks f [] = []
redraw picks f (x ∷ xs) = cond (picks 0) (f 0) x ∷ redraw (λ k. picks (suc k)) (λ k. f (suc k)) xs

abbrev pub within : Area → ℕ → Bool
within a k = inside a (column k) (line k)

abbrev pub drawn : Stroke → List ℕ → List ℕ
drawn s g = redraw (within s.area) (λ k. inked s.ink (seen s.area g) (column k) (line k)) g

-- strokes one after another
abbrev pub drawn_all : List Stroke → List ℕ → List ℕ
drawn_all [] g = g
drawn_all (s ∷ ss) g = drawn_all ss (drawn s g)

-- Where the cursor goes inside an area, and what is then drawn.
use Rattle.std.specs.Prelude.{ℕ, ◌+◌, ◌-◌, cond, Some, None, nat_lt}
use Rattle.glass.specs.declared.area.Area.{Area}
use Rattle.glass.specs.declared.area.Position.{Position}
use Rattle.glass.specs.declared.stroke.Ink.{Ink}
use Rattle.glass.specs.declared.stroke.Ink.TheVariants.{ShiftLeft, ShiftRight, ScrollUp, ScrollDown}
use Rattle.commands.specs.declared.words.Mode.{Mode}
use Rattle.commands.specs.declared.words.Mode.TheVariants.{Overwrite, Vertical, Horizontal}
use Rattle.state.specs.declared.moves.Move.{Move}
use Rattle.commands.specs.declared.words.Way.{Way}
use Rattle.commands.specs.declared.words.Way.TheVariants.{Left, Right, Down, Up}
use Rattle.commands.specs.declared.words.Spot.{Spot}
use Rattle.commands.specs.declared.words.Spot.TheVariants.{Home, RowStart, RowEnd, Corner}

abbrev pub goes : ℕ → ℕ → Move
goes x y = record { at = record { column = x; row = y }; ink = None }

abbrev pub draws : Ink → ℕ → ℕ → Move
draws i x y = record { at = record { column = x; row = y }; ink = Some i }

-- right of the last column
abbrev pub past_right : Mode → Area → ℕ → ℕ → Move
past_right Overwrite a x y = cond (nat_lt y a.y2) (goes a.x1 (y + 1)) (goes a.x1 a.y1)
past_right Vertical a x y = cond (nat_lt y a.y2) (goes a.x1 (y + 1)) (draws ScrollUp a.x1 a.y2)
past_right Horizontal a x y = draws (ShiftLeft y) x y

abbrev pub rightward : Mode → Area → ℕ → ℕ → Move
rightward m a x y = cond (nat_lt x a.x2) (goes (x + 1) y) (past_right m a x y)

-- left of the first column
abbrev pub past_left : Mode → Area → ℕ → ℕ → Move
past_left Overwrite a x y = cond (nat_lt a.y1 y) (goes a.x2 (y - 1)) (goes a.x2 a.y2)
past_left Vertical a x y = cond (nat_lt a.y1 y) (goes a.x2 (y - 1)) (draws ScrollDown a.x2 a.y1)
past_left Horizontal a x y = draws (ShiftRight y) x y

abbrev pub leftward : Mode → Area → ℕ → ℕ → Move
leftward m a x y = cond (nat_lt a.x1 x) (goes (x - 1) y) (past_left m a x y)

-- below the last row
abbrev pub past_bottom : Mode → Area → ℕ → ℕ → Move
past_bottom Overwrite a x y = goes x a.y1
past_bottom Vertical a x y = draws ScrollUp x y
past_bottom Horizontal a x y = goes x y

abbrev pub downward : Mode → Area → ℕ → ℕ → Move
downward m a x y = cond (nat_lt y a.y2) (goes x (y + 1)) (past_bottom m a x y)

-- above the first row
abbrev pub past_top : Mode → Area → ℕ → ℕ → Move
past_top Overwrite a x y = goes x a.y2
past_top Vertical a x y = draws ScrollDown x y
past_top Horizontal a x y = goes x y

abbrev pub upward : Mode → Area → ℕ → ℕ → Move
upward m a x y = cond (nat_lt a.y1 y) (goes x (y - 1)) (past_top m a x y)

abbrev pub toward : Way → Mode → Area → ℕ → ℕ → Move
toward Left m a x y = leftward m a x y
toward Right m a x y = rightward m a x y
toward Down m a x y = downward m a x y
toward Up m a x y = upward m a x y

-- where a jump from row y ends
abbrev pub target : Spot → Area → ℕ → Position
target Home a y = record { column = a.x1; row = a.y1 }
target RowStart a y = record { column = a.x1; row = y }
target RowEnd a y = record { column = a.x2; row = y }
target Corner a y = record { column = a.x2; row = a.y2 }

-- Windows and cursor: what defining, cancelling and turning leave.
use Rattle.std.specs.Prelude.{◌≡◌, ℕ, ◌+◌, ◌-◌, Bool, cond, Some, None, Ok, Err, Option, Result, ◌==◌}
use Rattle.glass.specs.declared.area.Area.{Area}
use Rattle.glass.specs.declared.area.Position.{Position}
use Rattle.glass.specs.declared.frame.GlassPosition.{GlassPosition}
use Rattle.glass.specs.Places.{whole, holds}
use Rattle.commands.specs.declared.words.Slot.{Slot}
use Rattle.commands.specs.declared.words.Way.{Way}
use Rattle.commands.specs.declared.words.Spot.{Spot}
use Rattle.commands.specs.declared.words.WindowChange.{WindowChange}
use Rattle.commands.specs.declared.words.WindowChange.TheVariants.{Define, Cancel, TurnTo}
use Rattle.state.specs.Moves.{toward, target}
use Rattle.commands.specs.declared.words.Mode.{Mode}
use Rattle.commands.specs.declared.words.Slot.TheVariants.{First, Second, Third, Fourth}
use Rattle.state.specs.declared.slots.Slots.{Slots}
use Rattle.state.specs.declared.windows.Windows.{Windows}
use Rattle.commands.specs.declared.words.Refusal.{Refusal}
use Rattle.commands.specs.declared.words.Refusal.TheVariants.{WindowDefined, WindowTouches, WindowUndefined, OutsideWindow}
use Rattle.state.specs.Slots.{at, with_at, no_windows, clear_all, known, area_of, turned_to}

-- the windows, the current one (none is the whole glass), and the cursor by column and row of the glass
pub record Layout : Type 0 where
  pub slots : Slots
  pub current : Option Slot
  pub column : ℕ
  pub row : ℕ

abbrev pub layout : Windows → Layout
layout w = record { slots = w.slots; current = w.current; column = w.cursor.column; row = w.cursor.row }

-- the current window's area
abbrev pub here : Layout → Area
here l = area_of l.slots l.current

-- the cursor at a column and a row
abbrev pub at_spot : Layout → ℕ → ℕ → Layout
at_spot l x y = record l { column = x; row = y }

abbrev pub cursor_of : Layout → Position
cursor_of l = record { column = l.column; row = l.row }

-- one step of the cursor in a mode
abbrev pub stepped : Way → Mode → Layout → Layout
stepped w m l = at_spot l (toward w m (here l) l.column l.row).at.column (toward w m (here l) l.column l.row).at.row

abbrev pub jumped : Spot → Layout → Layout
jumped s l = at_spot l (target s (here l) l.row).column (target s (here l) l.row).row

-- the area of window n, counted from 0: the whole glass, a defined one, or none
abbrev pub window_area : Slots → ℕ → Option Area
window_area s n =
    cond (n == 0) (Some whole) (cond (n == 1) (at s First) (cond (n == 2) (at s Second) (cond (n == 3) (at s Third) (cond (n == 4) (at s Fourth) None))))

-- window n is current, the cursor at its home
abbrev pub homed : Slots → Option Slot → Layout
homed s n = record { slots = s; current = n; column = (area_of s n).x1; row = (area_of s n).y1 }

abbrev pub new_layout : Layout
new_layout = homed no_windows None

-- the answer, and windows and cursor after it
pub record Turn : Type 0 where
  pub answer : Result Unit Refusal
  pub left : Layout

-- the answer was given, and this is left
pub record Turns (t : Turn) (r : Result Unit Refusal) (l : Layout) : Type 0 where
  pub answer : r ≡ t.answer
  pub left : l ≡ t.left

abbrev pub refuses : Refusal → Layout → Turn
refuses f l = record { answer = Err f; left = l }

abbrev pub leaves : Layout → Turn
leaves l = record { answer = Ok tt; left = l }

abbrev pub turning : Option Slot → Layout → Turn
turning n l = cond (known l.slots n) (leaves (homed l.slots n)) (refuses WindowUndefined l)

-- cancelling the current window makes the whole glass current; cancelling another moves nothing
abbrev pub cancelled : Option Area → Slot → Layout → Turn
cancelled None n l = refuses WindowUndefined l
cancelled (Some a) n l =
    leaves (cond (turned_to l.current n) (homed (with_at l.slots n None) None) (record l { slots = with_at l.slots n None }))

abbrev pub cancelling : Slot → Layout → Turn
cancelling n l = cancelled (at l.slots n) n l

-- an existing window comes first, then one that is touched
abbrev pub defined : Option Area → Slot → Area → Layout → Turn
defined (Some o) n a l = refuses WindowDefined l
defined None n a l =
    cond (clear_all a l.slots) (leaves (record { slots = with_at l.slots n (Some a); current = Some n; column = a.x1; row = a.y1 }))
    (refuses WindowTouches l)

abbrev pub defining : Slot → Area → Layout → Turn
defining n a l = defined (at l.slots n) n a l

-- a change of the windows
abbrev pub changing : WindowChange → Layout → Turn
changing (Define n f) l = defining n f.area l
changing (Cancel n) l = cancelling n l
changing (TurnTo n) l = turning n l

-- column x and row y, counted from the window's corner, lie inside it
abbrev pub reaches : ℕ → ℕ → Layout → Bool
reaches x y l = holds (here l) ((here l).x1 + x - 1) ((here l).y1 + y - 1)

-- the cursor goes there; outside it is refused
abbrev pub going : GlassPosition → Layout → Turn
going p l =
    cond (reaches p.at.column p.at.row l) (leaves (at_spot l ((here l).x1 + p.at.column - 1) ((here l).y1 + p.at.row - 1)))
    (refuses OutsideWindow l)

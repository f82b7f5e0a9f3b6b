-- What each command does.
use Rattle.std.specs.Prelude.{◌≡◌, ℕ, Bool, List, [], ◌∷◌, ◌++◌, Some, None, Ok, Err, Option, Result}
use Rattle.glass.specs.declared.area.Area.{Area}
use Rattle.glass.specs.Places.{whole}
use Rattle.glass.specs.declared.stroke.Ink.{Ink}
use Rattle.glass.specs.declared.stroke.Ink.TheVariants.{Blank, BlankRow, Write, ShiftLeft}
use Rattle.glass.specs.declared.stroke.Stroke.{Stroke}
use Rattle.commands.specs.declared.words.Mark.{Mark}
use Rattle.commands.specs.declared.words.Mode.{Mode}
use Rattle.commands.specs.declared.words.Mode.TheVariants.{Overwrite, Vertical, Horizontal}
use Rattle.commands.specs.declared.words.Way.{Way}
use Rattle.commands.specs.declared.words.Way.TheVariants as way
use Rattle.commands.specs.declared.words.Spot.{Spot}
use Rattle.commands.specs.declared.words.Spot.TheVariants as spot
use Rattle.commands.specs.declared.words.Name.{Name}
use Rattle.commands.specs.declared.words.Refusal.{Refusal}
use Rattle.commands.specs.declared.words.Refusal.TheVariants.{PlayRefused}
use Rattle.commands.specs.declared.words.PenChange.{PenChange}
use Rattle.commands.specs.declared.words.PenChange.TheVariants as pen
use Rattle.commands.specs.declared.words.Command.{Command}
use Rattle.commands.specs.declared.words.Command.TheVariants.{Character, Move, Jump, GoTo, Clear, ClearRow, Pen, Cursor, Brightness, Blink, Window, Define, Forget, Record, Play, Select, Initialize}
use Rattle.terms.specs.declared.fault.DisplayFault.{DisplayFault}
use Rattle.terms.specs.declared.fault.DisplayFault.TheVariants.{Refused}
use Rattle.state.specs.declared.cell.Pen.{Pen as PenState}
use Rattle.state.specs.declared.controller.Strokes.{Strokes}
use Rattle.state.specs.declared.listener.Voice.{Voice}
use Rattle.state.specs.declared.listener.Voice.TheVariants.{Host, Macro}
use Rattle.state.specs.Cells.{cell_of}
use Rattle.state.specs.Users.{user_at, user_set}
use Rattle.state.specs.Tapes.{Turned, recorded, playing}
use Rattle.state.specs.Lamps.{lamp_set}
use Rattle.state.specs.Moves.{toward}
use Rattle.state.specs.Layouts.{Turn, cursor_of, stepped, jumped, changing, going}
use Rattle.state.specs.Core.{Core, fresh, window}

-- the state after a command, and what it draws or why it is refused
pub record Effect : Type 0 where
  pub core : Core
  pub answer : Result Strokes DisplayFault

-- a command was carried out: its answer, and the state after it
pub record Does (e : Effect) (r : Result Strokes DisplayFault) (c : Core) : Type 0 where
  pub answer : r ≡ e.answer
  pub core : c ≡ e.core

abbrev pub no_strokes : Strokes
no_strokes = record { first = None; second = None }

abbrev pub stroke : Area → Ink → Stroke
stroke a i = record { area = a; ink = i }

-- one stroke, if any
abbrev pub inks : Area → Option Ink → Option Stroke
inks a None = None
inks a (Some i) = Some (stroke a i)

-- the strokes in order
abbrev pub one : Option Stroke → List Stroke
one None = []
one (Some s) = s ∷ []

abbrev pub strokes_of : Strokes → List Stroke
strokes_of s = one s.first ++ one s.second

-- nothing is drawn
abbrev pub quietly : Core → Effect
quietly c = record { core = c; answer = Ok no_strokes }

abbrev pub drawing : Core → Stroke → Effect
drawing c s = record { core = c; answer = Ok (record { first = Some s; second = None }) }

-- one step of the cursor
abbrev pub steps : Way → Core → Effect
steps w c = record {
  core = record c { layout = stepped w c.pen.mode c.layout };
  answer = Ok (record { first = inks (window c) (toward w c.pen.mode (window c) c.layout.column c.layout.row).ink; second = None });
}

abbrev pub jumps : Spot → Core → Core
jumps s c = record c { layout = jumped s c.layout }

-- a cell is written at the cursor, which then goes right
abbrev pub writes_on : Core → ℕ → Effect
writes_on c v = record {
  core = record c { layout = stepped way.Right c.pen.mode c.layout };
  answer = Ok (record {
    first = Some (stroke (window c) (Write (cursor_of c.layout) v));
    second = inks (window c) (toward way.Right c.pen.mode (window c) c.layout.column c.layout.row).ink;
  });
}

-- in horizontal mode the row shifts left, the cell takes the last column, and the cursor stays
abbrev pub writes : Mode → Core → ℕ → Effect
writes Overwrite c v = writes_on c v
writes Vertical c v = writes_on c v
writes Horizontal c v = record {
  core = c;
  answer = Ok (record {
    first = Some (stroke (window c) (ShiftLeft c.layout.row));
    second = Some (stroke (window c) (Write (record { column = (window c).x2; row = c.layout.row }) v));
  });
}

-- nothing is drawn, or a command of this name is refused
abbrev pub answered : Name → Result Unit Refusal → Result Strokes DisplayFault
answered n (Ok u) = Ok no_strokes
answered n (Err r) = Err (Refused r n)

abbrev pub turns : Core → Name → Turn → Effect
turns c n t = record { core = record c { layout = t.left }; answer = answered n t.answer }

abbrev pub winds : Core → Name → Turned → Effect
winds c n t = record { core = record c { tape = t.left }; answer = answered n t.answer }

abbrev pub changes : PenChange → PenState → PenState
changes (pen.Mode m) p = record p { mode = m }
changes (pen.Set n) p = record p { set = n }
changes (pen.Table n) p = record p { table = n }
changes (pen.User b) p = record p { user = b }

-- a character is written, with a mark or without
abbrev pub types : ℕ → Option Mark → Core → Effect
types n m c = writes c.pen.mode c (cell_of n c.pen (user_at c.users n) m)

-- a playback from the macro is refused
abbrev pub plays : Voice → Name → ℕ → ℕ → Core → Effect
plays Host k n m c = winds c k (playing c.tape n m)
plays Macro k n m c = record { core = c; answer = Err (Refused PlayRefused k) }

-- selecting or deselecting from the macro does nothing
abbrev pub chooses : Voice → Bool → Core → Core
chooses Host b c = record c { selected = b }
chooses Macro b c = c

abbrev pub effect : Voice → Command → Core → Effect
effect v (Character n m) c = types n m c
effect v (Move w) c = steps w c
effect v (Jump s) c = quietly (jumps s c)
effect v (GoTo p n) c = turns c n (going p c.layout)
effect v Clear c = drawing (jumps spot.Home c) (stroke (window c) Blank)
effect v ClearRow c = drawing (jumps spot.RowStart c) (stroke (window c) (BlankRow c.layout.row))
effect v (Pen p) c = quietly (record c { pen = changes p c.pen })
effect v (Cursor b) c = quietly (record c { shown = b })
effect v (Brightness n) c = quietly (record c { brightness = n })
effect v (Blink n) c = quietly (record c { lamp = lamp_set n })
effect v (Window w n) c = turns c n (changing w c.layout)
effect v (Define n bs) c = quietly (record c { users = user_set c.users n (Some bs) })
effect v (Forget n) c = quietly (record c { users = user_set c.users n None })
effect v Record c = quietly (record c { tape = recorded c.tape })
effect v (Play n m k) c = plays v k n m c
effect v (Select b) c = quietly (chooses v b c)
effect v Initialize c = drawing (fresh c.settings) (stroke whole Blank)

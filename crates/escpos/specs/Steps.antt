-- What one byte does to a reading, and what it amounts to.
use Rattle.std.specs.Prelude.{ℕ, ◌+◌, Bool, true, false, ◌&&◌, ◌||◌, List, [], ◌∷◌, Some, None, Option, ◌==◌, nat_le, nat_lt, slice_set, if◌then◌else◌}
use Rattle.glass.specs.Frames.{made, column_of, position_of, frame_of}
use Rattle.commands.specs.declared.words.Mark.TheVariants.{Point, Comma, Semicolon}
use Rattle.commands.specs.declared.words.Mode.TheVariants.{Overwrite, Vertical, Horizontal}
use Rattle.commands.specs.declared.words.Slot.{Slot}
use Rattle.commands.specs.declared.words.Slot.TheVariants.{First, Second, Third, Fourth}
use Rattle.commands.specs.declared.words.Way.TheVariants.{Left, Right, Down, Up}
use Rattle.commands.specs.declared.words.Spot.TheVariants.{Home, RowStart, RowEnd, Corner}
use Rattle.commands.specs.declared.words.PenChange.TheVariants as pen
use Rattle.commands.specs.declared.words.WindowChange.TheVariants as change
use Rattle.commands.specs.declared.words.Name.{Name}
use Rattle.commands.specs.declared.words.Command.{Command}
use Rattle.commands.specs.declared.words.Command.TheVariants.{Character, Move, Jump, GoTo, Clear, ClearRow, Pen, Cursor, Brightness, Blink, Window, Define, Forget, Record, Play, Select, Initialize}
use Rattle.commands.specs.declared.outcome.ReadFault.{ReadFault}
use Rattle.commands.specs.declared.outcome.ReadFault.TheVariants.{Unknown, OutOfRange}
use Rattle.commands.specs.declared.outcome.Outcome.TheVariants.{Pending, Ignored, Complete, Partial, Faulty}
use Rattle.commands.specs.declared.outcome.Transition.{Transition}
use Rattle.commands.specs.Numbers.{mark_byte}
use Rattle.commands.specs.Sets.{to}
use Rattle.escpos.specs.declared.columns.Columns.{Columns}
use Rattle.escpos.specs.declared.reading.Reading.{Reading}
use Rattle.escpos.specs.declared.reading.Reading.TheVariants.{Rest, AfterEsc, AfterUs, GoToX, GoToY, CursorN, BrightnessN, BlinkN, MarkedN, PlayN, PlayM, SelectN, SetN, TableN, UserN, ForgetN, WindowN, WindowS, WindowX1, WindowY1, WindowX2, WindowY2, DefineOne, DefineFirst, DefineLast, DefineLength, DefineColumn}
use Rattle.escpos.specs.Names.{esc, us, go_to, cursor, brightness, play, recording, select, window, set, table, user, forget, define, marked}

-- the item ends here, and is a character or a command
abbrev pub done : Command → Transition Reading
done c = to Rest (Complete c)

-- the item goes on
abbrev pub wait : Reading → Transition Reading
wait r = to r Pending

-- the item ends here, malformed: its bytes are dropped, and none of them is read again
abbrev pub fails : ReadFault → Transition Reading
fails f = to Rest (Faulty f)

-- operand k of a command is out of its range
abbrev pub off : Name → ℕ → Transition Reading
off n k = fails (OutOfRange n k)

-- the transition that the list has for a byte, and else d
abbrev pub listed : List (ℕ × Transition Reading) → Transition Reading → ℕ → Transition Reading
listed [] d b = d
listed (e ∷ es) d b = if b == e.0 then e.1 else listed es d b

-- what follows of an operand that says something, and else d
abbrev pub on_some : {A : Type 0} → Option A → (A → Transition Reading) → Transition Reading → Transition Reading
on_some (Some a) f d = f a
on_some None f d = d

-- at rest: the one-byte commands and the two bytes that open a command
abbrev pub rest_steps : List (ℕ × Transition Reading)
rest_steps =
    (0x08, done (Move Left)) ∷ (0x09, done (Move Right)) ∷ (0x0A, done (Move Down)) ∷ (0x0B, done (Jump Home)) ∷
    (0x0C, done Clear) ∷ (0x0D, done (Jump RowStart)) ∷ (0x18, done ClearRow) ∷ (0x1B, wait AfterEsc) ∷ (0x1F, wait AfterUs) ∷ []

-- the second bytes after ESC (1Bh)
abbrev pub esc_steps : List (ℕ × Transition Reading)
esc_steps =
    (0x40, done Initialize) ∷ (select.second, wait SelectN) ∷ (window.second, wait WindowN) ∷ (set.second, wait SetN) ∷
    (table.second, wait TableN) ∷ (user.second, wait UserN) ∷ (forget.second, wait ForgetN) ∷ (define.second, wait DefineOne) ∷ []

-- the second bytes after US (1Fh)
abbrev pub us_steps : List (ℕ × Transition Reading)
us_steps =
    (0x01, done (Pen (pen.Mode Overwrite))) ∷ (0x02, done (Pen (pen.Mode Vertical))) ∷ (0x03, done (Pen (pen.Mode Horizontal))) ∷
    (0x0A, done (Move Up)) ∷ (0x0D, done (Jump RowEnd)) ∷ (0x42, done (Jump Corner)) ∷ (go_to.second, wait GoToX) ∷
    (cursor.second, wait CursorN) ∷ (brightness.second, wait BrightnessN) ∷ (0x45, wait BlinkN) ∷
    (mark_byte Point, wait (MarkedN Point)) ∷ (mark_byte Comma, wait (MarkedN Comma)) ∷
    (mark_byte Semicolon, wait (MarkedN Semicolon)) ∷ (recording.second, done Record) ∷ (play.second, wait PlayN) ∷ []

-- at rest a byte that is not listed is a character from 20h on, and below that is ignored
abbrev pub at_rest : ℕ → Transition Reading
at_rest b = listed rest_steps (if nat_le 0x20 b then done (Character b None) else to Rest Ignored) b

abbrev pub after_esc : ℕ → Transition Reading
after_esc b = listed esc_steps (fails (Unknown (esc b))) b

abbrev pub after_us : ℕ → Transition Reading
after_us b = listed us_steps (fails (Unknown (us b))) b

-- a small number, or the ASCII code of its digit
abbrev pub digit : ℕ → ℕ → Bool
digit n b = b == n || b == 0x30 + n

-- an operand that says no or yes
abbrev pub said : ℕ → Option Bool
said b = if digit 0 b then Some false else if digit 1 b then Some true else None

-- which window: 0 is the whole glass, 1 to 4 can be defined
abbrev pub window_steps : List (ℕ × Transition Reading)
window_steps =
    (0, wait (WindowS None)) ∷ (1, wait (WindowS (Some First))) ∷ (2, wait (WindowS (Some Second))) ∷
    (3, wait (WindowS (Some Third))) ∷ (4, wait (WindowS (Some Fourth))) ∷ []

-- what to do with it: the whole glass can only be turned to
abbrev pub window_s : Option Slot → ℕ → Transition Reading
window_s None b = if digit 2 b then done (Window (change.TurnTo None) window) else off window 2
window_s (Some n) b =
    if digit 2 b then done (Window (change.TurnTo (Some n)) window)
    else if digit 1 b then wait (WindowX1 n)
    else if digit 0 b then done (Window (change.Cancel n) window) else off window 2

-- a user character is complete: it is the last, or the length of the next one follows
abbrev pub defined : ℕ → ℕ → List ℕ → Transition Reading
defined code last columns =
    if nat_le last code then done (Define code columns) else to (DefineLength (code + 1) last) (Partial code columns)

abbrev pub blanks : List ℕ
blanks = 0 ∷ 0 ∷ 0 ∷ 0 ∷ 0 ∷ []

-- the columns of a character of which some are still to come
abbrev pub columns_of : List ℕ → ℕ → ℕ → Option Columns
columns_of columns at size = made (nat_lt at size && nat_le size 5) (λ h. record { columns = columns; at = at; size = size; fits = h })

abbrev pub step : Reading → ℕ → Transition Reading
step Rest b = at_rest b
step AfterEsc b = after_esc b
step AfterUs b = after_us b
step GoToX b = on_some (column_of b) (λ x. wait (GoToY x)) (off go_to 1)
step (GoToY x) b = on_some (position_of x.number b) (λ p. done (GoTo p go_to)) (off go_to 2)
step CursorN b = on_some (said b) (λ shown. done (Cursor shown)) (off cursor 1)
step BrightnessN b = if nat_le 1 b && nat_le b 4 then done (Brightness b) else off brightness 1
step BlinkN b = done (Blink b)
step (MarkedN m) b = if nat_le 0x20 b then done (Character b (Some m)) else off (marked m) 1
step PlayN b = if b == 0 then off play 1 else wait (PlayM b)
step (PlayM n) b = done (Play n b play)
step SelectN b = if digit 1 b then done (Select false) else if digit 2 b || digit 3 b then done (Select true) else off select 1
step SetN b = if nat_le b 12 then done (Pen (pen.Set b)) else off set 1
step TableN b = if nat_le b 8 then done (Pen (pen.Table b)) else off table 1
step UserN b = on_some (said b) (λ on. done (Pen (pen.User on))) (off user 1)
step ForgetN b = if nat_le 0x20 b then done (Forget b) else off forget 1
step WindowN b = listed window_steps (off window 1) b
step (WindowS w) b = window_s w b
step (WindowX1 n) b = on_some (column_of b) (λ x1. wait (WindowY1 n x1)) (off window 3)
step (WindowY1 n x1) b = on_some (position_of x1.number b) (λ p. wait (WindowX2 n p)) (off window 4)
step (WindowX2 n p) b =
    on_some (frame_of (record { x1 = p.at.column; y1 = p.at.row; x2 = b; y2 = p.at.row })) (λ f. wait (WindowY2 n f)) (off window 5)
step (WindowY2 n f) b =
    on_some (frame_of (record f.area { y2 = b })) (λ g. done (Window (change.Define n g) window)) (off window 6)
step DefineOne b = if b == 1 then wait DefineFirst else off define 1
step DefineFirst b = if nat_le 0x20 b then wait (DefineLast b) else off define 2
step (DefineLast first) b = if nat_le first b then wait (DefineLength first b) else off define 3
step (DefineLength code last) b =
    if b == 0 then defined code last blanks
    else on_some (columns_of blanks 0 b) (λ c. wait (DefineColumn code last c)) (off define 4)
step (DefineColumn code last c) b =
    let columns = slice_set c.columns c.at b in
    on_some (columns_of columns (c.at + 1) c.size) (λ d. wait (DefineColumn code last d)) (defined code last columns)

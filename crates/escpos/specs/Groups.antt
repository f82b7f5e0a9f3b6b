-- Which commands the awaited operand belongs to: the transition has a function for each group.
use Rattle.std.specs.Prelude.{Bool, true, false}
use Rattle.escpos.specs.declared.reading.Reading.{Reading}
use Rattle.escpos.specs.declared.reading.Reading.TheVariants.{GoToX, GoToY, CursorN, BrightnessN, BlinkN, MarkedN, PlayN, PlayM, SelectN, SetN, TableN, UserN, ForgetN, WindowN, WindowS, WindowX1, WindowY1, WindowX2, WindowY2, DefineOne, DefineFirst, DefineLast, DefineLength, DefineColumn}

-- a command that begins with US
abbrev pub is_of_us : Reading → Bool
is_of_us GoToX = true
is_of_us (GoToY x) = true
is_of_us CursorN = true
is_of_us BrightnessN = true
is_of_us BlinkN = true
is_of_us (MarkedN mark) = true
is_of_us PlayN = true
is_of_us (PlayM n) = true
is_of_us r = false

-- a command of one operand that begins with ESC
abbrev pub is_of_esc : Reading → Bool
is_of_esc SelectN = true
is_of_esc SetN = true
is_of_esc TableN = true
is_of_esc UserN = true
is_of_esc ForgetN = true
is_of_esc r = false

abbrev pub is_of_window : Reading → Bool
is_of_window WindowN = true
is_of_window (WindowS window) = true
is_of_window (WindowX1 slot) = true
is_of_window (WindowY1 slot x1) = true
is_of_window (WindowX2 slot corner) = true
is_of_window (WindowY2 slot frame) = true
is_of_window r = false

-- the definition of user characters
abbrev pub is_of_character : Reading → Bool
is_of_character DefineOne = true
is_of_character DefineFirst = true
is_of_character (DefineLast first) = true
is_of_character (DefineLength code last) = true
is_of_character (DefineColumn code last columns) = true
is_of_character r = false

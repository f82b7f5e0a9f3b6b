-- The numbers by which marks, modes, windows and refusals are told.
use Rattle.std.specs.Prelude.{ℕ, Ok, Err, Result, ◌==◌, if◌then◌else◌}
use Rattle.commands.specs.declared.words.Mark.{Mark}
use Rattle.commands.specs.declared.words.Mark.TheVariants.{Point, Comma, Semicolon}
use Rattle.commands.specs.declared.words.Mode.{Mode}
use Rattle.commands.specs.declared.words.Mode.TheVariants.{Overwrite, Vertical, Horizontal}
use Rattle.commands.specs.declared.words.Slot.{Slot}
use Rattle.commands.specs.declared.words.Slot.TheVariants.{First, Second, Third, Fourth}
use Rattle.commands.specs.declared.words.NoMark.{NoMark}
use Rattle.commands.specs.declared.words.NoSlot.{NoSlot}
use Rattle.commands.specs.declared.words.Refusal.{Refusal}
use Rattle.commands.specs.declared.words.Refusal.TheVariants.{WindowDefined, WindowTouches, WindowUndefined, OutsideWindow, PlayRefused, NoMacro, RecordingFull}

abbrev pub mark_number : Mark → ℕ
mark_number Point = 1
mark_number Comma = 2
mark_number Semicolon = 3

-- the ASCII code of the mark's sign, which is also the second byte of the command that writes it
abbrev pub mark_byte : Mark → ℕ
mark_byte Point = 0x2E
mark_byte Comma = 0x2C
mark_byte Semicolon = 0x3B

abbrev pub mode_number : Mode → ℕ
mode_number Overwrite = 1
mode_number Vertical = 2
mode_number Horizontal = 3

abbrev pub slot_number : Slot → ℕ
slot_number First = 1
slot_number Second = 2
slot_number Third = 3
slot_number Fourth = 4

-- the mark that has a number
abbrev pub mark_numbered : ℕ → Result Mark NoMark
mark_numbered n = if n == 1 then Ok Point else if n == 2 then Ok Comma else if n == 3 then Ok Semicolon else Err (record {})

-- the slot that has a number; 0, the whole glass, is none
abbrev pub slot_numbered : ℕ → Result Slot NoSlot
slot_numbered n =
    if n == 1 then Ok First else if n == 2 then Ok Second else if n == 3 then Ok Third else if n == 4 then Ok Fourth else Err (record {})

abbrev pub refusal_cause : Refusal → ℕ
refusal_cause WindowDefined = 3
refusal_cause WindowTouches = 4
refusal_cause WindowUndefined = 5
refusal_cause OutsideWindow = 6
refusal_cause PlayRefused = 7
refusal_cause NoMacro = 8
refusal_cause RecordingFull = 9

-- What one byte 18h amounts to, in any reading.
use Rattle.std.specs.Prelude.{ℕ, ◌+◌, ◌-◌, List}
use Rattle.commands.specs.declared.words.Command.TheVariants.{ClearRow, Blink, Play, Define}
use Rattle.commands.specs.declared.outcome.ReadFault.{ReadFault}
use Rattle.commands.specs.declared.outcome.Outcome.{Outcome}
use Rattle.commands.specs.declared.outcome.Outcome.TheVariants.{Pending, Complete, Partial, Faulty}
use Rattle.escpos.specs.declared.reading.Reading.{Reading}
use Rattle.escpos.specs.declared.reading.Reading.TheVariants.{Rest, PlayN, DefineLast, DefineColumn}
use Rattle.escpos.specs.Names.{play}

-- It blanks a row at rest, is the operand of a blinking or a playback, is a column of a user character, goes on with an item,
-- or ends one as malformed. It never initializes, selects or records.
pub data CancelOutcome : Outcome → Type 0 where
  goes_on : CancelOutcome Pending
  clears : CancelOutcome (Complete ClearRow)
  blinks : CancelOutcome (Complete (Blink 0x18))
  plays : (n : ℕ) → CancelOutcome (Complete (Play n 0x18 play))
  defines : (code : ℕ) (columns : List ℕ) → CancelOutcome (Complete (Define code columns))
  defines_one : (code : ℕ) (columns : List ℕ) → CancelOutcome (Partial code columns)
  malformed : (fault : ReadFault) → CancelOutcome (Faulty fault)

-- how many bytes 18h bring a reading to rest, at most
abbrev pub depth : Reading → ℕ
depth Rest = 0
depth PlayN = 2
depth (DefineLast first) = 2
depth (DefineColumn code last c) = (c.size - c.at) + 1
depth r = 1

-- The first two bytes of the commands that can be malformed or refused.
use Rattle.std.specs.Prelude.{ℕ}
use Rattle.commands.specs.declared.words.Mark.{Mark}
use Rattle.commands.specs.declared.words.Name.{Name}
use Rattle.commands.specs.declared.words.Refusal.{Refusal}
use Rattle.commands.specs.declared.words.Refusal.TheVariants.{WindowDefined, WindowTouches, WindowUndefined, OutsideWindow, PlayRefused, NoMacro, RecordingFull}
use Rattle.commands.specs.Numbers.{mark_byte}

-- a command by its second byte, after ESC (1Bh) or US (1Fh)
abbrev pub esc : ℕ → Name
esc b = record { first = 0x1B; second = b }

abbrev pub us : ℕ → Name
us b = record { first = 0x1F; second = b }

abbrev pub go_to : Name
go_to = us 0x24

abbrev pub cursor : Name
cursor = us 0x43

abbrev pub brightness : Name
brightness = us 0x58

abbrev pub play : Name
play = us 0x5E

abbrev pub recording : Name
recording = us 0x3A

abbrev pub select : Name
select = esc 0x3D

abbrev pub window : Name
window = esc 0x57

abbrev pub set : Name
set = esc 0x52

abbrev pub table : Name
table = esc 0x74

abbrev pub user : Name
user = esc 0x25

abbrev pub forget : Name
forget = esc 0x3F

abbrev pub define : Name
define = esc 0x26

-- a character with a mark
abbrev pub marked : Mark → Name
marked m = us (mark_byte m)

-- the names by which refusals are told
abbrev pub names : Refusal → Name
names WindowDefined = window
names WindowTouches = window
names WindowUndefined = window
names OutsideWindow = go_to
names PlayRefused = play
names NoMacro = play
names RecordingFull = recording

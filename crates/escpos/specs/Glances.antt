-- Of which bytes ESC/POS tells at a glance: characters, and those with which the most frequent commands go on or end.
use Rattle.std.specs.Prelude.{ℕ, ◌&&◌, ◌||◌, Some, None, ◌==◌, nat_le, if◌then◌else◌}
use Rattle.glass.specs.Frames.{position_of}
use Rattle.std.specs.Option.{option_map_or}
use Rattle.commands.specs.declared.outcome.Glance.{Glance}
use Rattle.commands.specs.declared.outcome.Glance.TheVariants.{Unread, Pending, Character, GoTo}
use Rattle.escpos.specs.declared.reading.Reading.{Reading}
use Rattle.escpos.specs.declared.reading.Reading.TheVariants.{Rest, AfterUs, GoToX, GoToY, MarkedN}
use Rattle.escpos.specs.Names.{go_to}

abbrev pub glance_of : Reading → ℕ → Glance
glance_of Rest b = if nat_le 0x20 b then Character None else if b == 0x1F || b == 0x1B then Pending else Unread
glance_of (MarkedN m) b = if nat_le 0x20 b then Character (Some m) else Unread
glance_of AfterUs b = if b == 0x24 || b == 0x2E then Pending else Unread
glance_of GoToX b = if nat_le 1 b && nat_le b 20 then Pending else Unread
glance_of (GoToY x) b = option_map_or (λ p. GoTo p go_to) (position_of x.number b) Unread
glance_of r b = Unread

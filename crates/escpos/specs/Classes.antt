-- The class of a byte: what the transition makes of it.
use Rattle.std.specs.Prelude.{ℕ, ◌+◌, if◌then◌else◌}
use Rattle.commands.specs.declared.outcome.Outcome.{Outcome}
use Rattle.commands.specs.declared.outcome.Outcome.TheVariants.{Pending, Complete}
use Rattle.commands.specs.Items.{is_character}
use Rattle.escpos.specs.declared.classes.Class.{Class}
use Rattle.escpos.specs.declared.classes.Class.TheVariants.{Ignored, Character, OneByte, OpensEsc, OpensUs, TwoBytes, TakesOperands}
use Rattle.escpos.specs.declared.classes.Page.{Page}
use Rattle.escpos.specs.declared.classes.Page.TheVariants.{Resting, Esc, Us}
use Rattle.escpos.specs.declared.reading.Reading.{Reading}
use Rattle.escpos.specs.declared.reading.Reading.TheVariants.{Rest, AfterEsc, AfterUs}
use Rattle.escpos.specs.Steps.{step}

-- the reading that a page is about
abbrev pub reading_of : Page → Reading
reading_of Resting = Rest
reading_of Esc = AfterEsc
reading_of Us = AfterUs

-- a command that is whole with a byte of the page
abbrev pub whole : Page → Class
whole Resting = OneByte
whole Esc = TwoBytes
whole Us = TwoBytes

-- a byte after which an item goes on at a reading
abbrev pub opening : Reading → Class
opening AfterEsc = OpensEsc
opening AfterUs = OpensUs
opening r = TakesOperands

-- a byte that amounts to an outcome
abbrev pub class_by : Page → Outcome → Reading → Class
class_by p Pending r = opening r
class_by p (Complete c) r = if is_character c then Character else whole p
class_by p o r = Ignored

abbrev pub class_of : Page → ℕ → Class
class_of p b = class_by p (step (reading_of p) b).outcome (step (reading_of p) b).next

-- where it stands in the table: the pages are one after the other
abbrev pub place_of : Page → ℕ → ℕ
place_of Resting b = b
place_of Esc b = 256 + b
place_of Us b = 512 + b

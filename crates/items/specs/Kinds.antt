-- The numbers by which kinds are told.
use Rattle.std.specs.Prelude.{ℕ}
use Rattle.items.specs.declared.kinds.Kind.{Kind}
use Rattle.items.specs.declared.kinds.Kind.TheVariants.{Character, Command, Ignored, Faulty, Unfinished}

abbrev pub kind_number : Kind → ℕ
kind_number Character = 1
kind_number Command = 2
kind_number Ignored = 3
kind_number Faulty = 4
kind_number Unfinished = 5

-- The numbers by which classes are told.
use Rattle.std.specs.Prelude.{ℕ}
use Rattle.escpos.specs.declared.classes.Class.{Class}
use Rattle.escpos.specs.declared.classes.Class.TheVariants.{Ignored, Character, OneByte, OpensEsc, OpensUs, TwoBytes, TakesOperands}

abbrev pub class_number : Class → ℕ
class_number Ignored = 0
class_number Character = 1
class_number OneByte = 2
class_number OpensEsc = 3
class_number OpensUs = 4
class_number TwoBytes = 5
class_number TakesOperands = 6

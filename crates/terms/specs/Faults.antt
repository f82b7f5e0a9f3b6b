-- All that a fault tells.
use Rattle.std.specs.Prelude.{Bool, true, false}
use Rattle.commands.specs.declared.outcome.ReadFault.TheVariants.{Unknown, OutOfRange}
use Rattle.commands.specs.Numbers.{refusal_cause}
use Rattle.terms.specs.declared.fault.DisplayFault.{DisplayFault}
use Rattle.terms.specs.declared.fault.DisplayFault.TheVariants.{Read, Refused}
use Rattle.terms.specs.declared.fault.Fault.{Fault}
use Rattle.terms.specs.declared.fault.Fault.TheVariants.{Said, Played}
use Rattle.terms.specs.declared.fault.Report.{Report}

-- 1: no command begins with these two bytes; 2: an operand is out of its range; from 3 on: why it was refused
abbrev pub report_by : Bool → DisplayFault → Report
report_by p (Read (Unknown n)) = record { cause = 1; name = n; operand = 0; played = p }
report_by p (Read (OutOfRange n k)) = record { cause = 2; name = n; operand = k; played = p }
report_by p (Refused r n) = record { cause = refusal_cause r; name = n; operand = 0; played = p }

-- what the host said, or the macro played
abbrev pub report : Fault → Report
report (Said f) = report_by false f
report (Played f) = report_by true f

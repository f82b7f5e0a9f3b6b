use Rattle.std.proofs.Common.{◌≡◌, ◌^◌, ◌<◌, drop}
use Rattle.script.specs.Figures.{decimal}
use Rattle.script.proofs.digits.number.Given as goal

abbrev pub invariant-loop-byte : goal.invariant-loop-byte
invariant-loop-byte l = (decimal l.value (drop l.byte-index l.word) ≡ decimal 0 l.word) × (l.value < 10 ^ l.byte-index)

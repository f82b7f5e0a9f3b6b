use Rattle.std.proofs.Common.{rules}
use Rattle.script.proofs.Steps.{hex_char, pair_of, no_low}
use Rattle.script.proofs.digits.read_hex.Goals as goal

pub returns-in_err-high-clause-value : goal.returns-in_err-high-clause-value
returns-in_err-high-clause-value c = search (rules, hex_char, pair_of)

pub returns-in_err-low-clause-value : goal.returns-in_err-low-clause-value
returns-in_err-low-clause-value c = search (rules, hex_char, pair_of, no_low)

pub returns-clause-value : goal.returns-clause-value
returns-clause-value c = search (rules, hex_char, pair_of)

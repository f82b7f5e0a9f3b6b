use Rattle.std.proofs.Common.{◌≤◌, length, arith, rules}
use Rattle.script.proofs.Steps.{nine_fit}
use Rattle.script.proofs.digits.number.Goals as goal

pub overflow_mul-value : goal.overflow_mul-value
overflow_mul-value c = let short : length c.args.word.now ≤ 9 = search rules in omega (arith, nine_fit _ _ c.loop-byte.invariant.1 (omega arith))

pub overflow_add-value : goal.overflow_add-value
overflow_add-value c = let short : length c.args.word.now ≤ 9 = search rules in omega (arith, nine_fit _ _ c.loop-byte.invariant.1 (omega arith), c.in_ok-value.ensures.value)

use Rattle.requests.proofs.Asking.{taken_ok}
use Rattle.requests.proofs.parse.operand.Goals as goal

pub returns-clause-value : goal.returns-clause-value
returns-clause-value c =
    let first = rw c.in_ok-word.ensures.ok_part at c.split_first.ensures.cases in
    taken_ok c.args.most c.args.words.now _ _ _ _ first.0 c.number.ensures c.in_ok-n.ensures.ok_part c.if-n-most.false

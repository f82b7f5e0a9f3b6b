use Rattle.std.proofs.Common.{◌+◌, drop, sym, ap, ◌∙◌}
use Rattle.script.specs.Splits.{texts, bytes_from}
use Rattle.script.proofs.Steps.{bytes_more, bytes_end}
use Rattle.script.proofs.words.hex_bytes.Goals as goal

pub returns-in_default : goal.returns-in_default
returns-in_default c = sym c.loop-word.invariant ∙ bytes_more c.args.words.now _ _ _ _ c.loop-word-test.true (sym c.in_default.is ∙ c.read_hex.ensures.value)

pub loop-word-preserved : goal.loop-word-preserved
loop-word-preserved c =
    ap (λ l. bytes_from l (texts (drop (c.loop-word.word-index + 1) c.args.words.now))) c.in_ok-push.ensures.items
    ∙ sym (bytes_more c.args.words.now _ _ _ _ c.loop-word-test.true (sym c.in-Some.is ∙ c.read_hex.ensures.value)) ∙ c.loop-word.invariant

pub returns : goal.returns
returns c = sym c.loop-word.invariant ∙ bytes_end c.args.words.now _ _ c.loop-word-test.false

use Rattle.std.proofs.Common.{◌∙◌, ◌+◌, sym, ap, drop, arith, rules, tests}
use Rattle.std.proofs.lemmas.List.{take_rest, drop_all}
use Rattle.std.proofs.lemmas.Iterator.{YieldsList-from_slice}
use Rattle.std.proofs.lemmas.Iterator.Search.{position_from_yields_List}
use Rattle.script.specs.Splits.{blank}
use Rattle.script.proofs.Steps.{place_found, place_none, after_is}
use Rattle.script.proofs.words.after_first.Goals as goal

pub returns-in-Some : goal.returns-in-Some
returns-in-Some c =
    let word = c.from_word-word.result.now in
    let end = place_found blank word _ _ (position_from_yields_List blank _ _ c.position.result c.position.ensures.ran (YieldsList-from_slice word cc) (λ x r q k. search (rules, tests))) c.in-Some.is in
    take_rest word _ ∙ ap (λ n. drop (n + 1) word) end ∙ sym (after_is c.args.line.now word c.from_word-word.ensures)

pub returns-in-None : goal.returns-in-None
returns-in-None c =
    let word = c.from_word-word.result.now in
    let end = place_none blank word _ (position_from_yields_List blank _ _ c.position.result c.position.ensures.ran (YieldsList-from_slice word cc) (λ x r q k. search (rules, tests))) c.in-None.is in
    sym (after_is c.args.line.now word c.from_word-word.ensures ∙ drop_all _ word (omega (arith, end)))

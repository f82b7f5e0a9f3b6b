use Rattle.std.proofs.Common.{◌∙◌, not, sym, ap, drop, rules, tests}
use Rattle.std.proofs.lemmas.List.{take_rest}
use Rattle.std.proofs.lemmas.Iterator.{YieldsList-from_slice}
use Rattle.std.proofs.lemmas.Iterator.Search.{position_from_yields_List}
use Rattle.script.specs.Splits.{blank}
use Rattle.script.proofs.Steps.{place_or_end, from_word_is}
use Rattle.script.proofs.words.from_word.Goals as goal

pub returns : goal.returns
returns c =
    let line = c.args.line.now in
    let start = place_or_end (λ b. not (blank b)) line _ (position_from_yields_List (λ b. not (blank b)) _ _ c.position-start.result c.position-start.ensures.ran (YieldsList-from_slice line cc) (λ x r q k. search (rules, tests))) in
    take_rest line _ ∙ ap (λ n. drop n line) (c.unwrap_or.ensures ∙ start) ∙ sym (from_word_is line)

use Rattle.std.proofs.Common.{◌≡◌, ℕ, List, [], ◌∷◌, length, refl, ap, sym, ◌∙◌, arith, rules, tests}
use Rattle.std.proofs.lemmas.Iterator.Consumers.{map_from_collect, YieldsList-from_filter}
use Rattle.std.proofs.lemmas.Iterator.Splits.{YieldsList-from_slice_split}
use Rattle.std.proofs.lemmas.Result.{IfOk-weaker}
use Rattle.script.proofs.Steps.{some, words_kept, gathered_from}
use Rattle.std.proofs.lemmas.Bool.{eqb-true}
use Rattle.script.specs.Splits.{blank, texts, gather}
use Rattle.script.proofs.words.split.Goals as goal

pub returns : goal.returns
returns c =
    let h = map_from_collect _ c.collect.ensures.ran (YieldsList-from_filter _ some
    (YieldsList-from_slice_split _ blank {f = c.split.result.pred} c.from_word-text.result.now (cc) (cc) (cc) (λ x r q k. search (rules, tests)))
    c.filter.ensures.closure (λ x r q k. search (rules, tests))) in
    IfOk-weaker c.collect.result _ _ (λ v e. e ∙ words_kept c.from_word-text.result.now ∙ sym (gathered_from c.args.line.now ∙ ap (gather []) (sym c.from_word-text.ensures))) h

pub returns-then-is_empty : goal.returns-then-is_empty
returns-then-is_empty c =
    let z : length c.from_word-text.result.now ≡ 0 = eqb-true _ 0 (sym c.is_empty.ensures ∙ c.if-is_empty.true) in
    ap texts c.new.ensures.items ∙ sym (gathered_from c.args.line.now ∙ ap (gather []) (sym c.from_word-text.ensures ∙ none c.from_word-text.result.now z))
  where
    none : (bs : List ℕ) → length bs ≡ 0 → bs ≡ []
    none [] h = refl
    none (b ∷ bs) h = absurd (omega arith)

use Rattle.std.proofs.Common.{◌∙◌, ◌+◌, eqb, sym, ap, take, drop, arith, rules, tests}
use Rattle.std.proofs.lemmas.List.{take_all, take_rest, drop_all}
use Rattle.std.proofs.lemmas.Iterator.{YieldsList-from_slice}
use Rattle.std.proofs.lemmas.Iterator.Search.{position_from_yields_List}
use Rattle.script.proofs.Steps.{place_found, place_none, size_is}
use Rattle.script.proofs.lines.next.cut.Goals as goal

pub returns-in-Some : goal.returns-in-Some
returns-in-Some c =
    let bytes = c.args.bytes.now in
    let end = place_found (λ b. eqb b 10) bytes _ _ (position_from_yields_List (λ b. eqb b 10) _ _ c.position.result c.position.ensures.ran (YieldsList-from_slice bytes cc) (λ x r q k. search (rules, tests))) c.in-Some.is ∙ sym (size_is bytes) in
    record { line = ap (λ n. take n bytes) end; rest = take_rest bytes _ ∙ ap (λ n. drop (n + 1) bytes) end }

pub returns-in-None : goal.returns-in-None
returns-in-None c =
    let bytes = c.args.bytes.now in
    let end = place_none (λ b. eqb b 10) bytes _ (position_from_yields_List (λ b. eqb b 10) _ _ c.position.result c.position.ensures.ran (YieldsList-from_slice bytes cc) (λ x r q k. search (rules, tests))) c.in-None.is in
    record { line = sym (take_all _ bytes (omega (arith, size_is bytes, end))); rest = sym (drop_all _ bytes (omega (arith, size_is bytes, end))) }

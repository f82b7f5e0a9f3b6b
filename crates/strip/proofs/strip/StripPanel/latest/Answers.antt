use Rattle.std.proofs.Common.{◌≡◌, eqb, arith, rules, ◌∙◌}
use Rattle.std.proofs.lemmas.Iterator.Adapters.{YieldsList-from_rev_slice}
use Rattle.std.proofs.lemmas.Iterator.Search.{find_from_yields_List}
use Rattle.std.proofs.lemmas.List.{take_all}
use Rattle.std.specs.Iterator.Adapters.{rev_source}
use Rattle.std.specs.Option.{option_map}
use Rattle.std.specs.Slice.Iter.{iter_rest}
use borrow.Author.Tests.{tests}
use Rattle.strip.specs.declared.strip.Change.{Change}
use Rattle.strip.specs.Strip.{waiting_of}
use Rattle.strip.proofs.Steps.{latest_found}
use Rattle.strip.proofs.strip.StripPanel.latest.Goals as goal

pub returns : goal.returns
returns c =
    let cs = waiting_of c.args.self.now in
    let all : iter_rest (rev_source c.rev.result) ≡ cs = search (arith, take_all) in
    let mapped : c.map.result ≡ option_map (λ b. b.now.cell) c.find.result = search rules in
    mapped ∙ latest_found c.args.place cs c.find.result (find_from_yields_List (λ (x : Change). eqb x.place c.args.place) _ _ c.find.result c.find.ensures.ran (YieldsList-from_rev_slice cs all) (λ x b q k. search (rules, tests)))

use Rattle.std.proofs.Common.{◌≡◌, length, sym, arith, rules}
use Rattle.std.proofs.lemmas.List.{set_past}
use Rattle.panel.specs.Forty.{forty, forty_length, forty_set}
use Rattle.panel.proofs.picture.Picture.put.Goals as goal

pub returns-then-place-lt40-clause-forty : goal.returns-then-place-lt40-clause-forty
returns-then-place-lt40-clause-forty c =
    let held = c.args.self.now.held in
    let long : length held ≡ 40 = search rules in
    search (arith, forty_set held c.args.place c.args.cell long)

pub returns-else-place-lt40-clause-forty : goal.returns-else-place-lt40-clause-forty
returns-else-place-lt40-clause-forty c =
    let held = c.args.self.now.held in
    sym (set_past (forty held) c.args.place c.args.cell (omega (arith, forty_length held, c.if-place-lt40.false)))

use Rattle.std.proofs.Common.{◌≡◌, List, ℕ, Result, Ok, Err, cond, ltb, get_or, length, sym, ap, ◌∙◌, rules}
use Rattle.panel.specs.Forty.{forty_same}
use Rattle.panel.specs.declared.panel.PanelRefusal.{PanelRefusal}
use Rattle.panel.specs.declared.panel.PanelRefusal.TheVariants.{OffGlass}
use Rattle.panel.proofs.picture.Picture.look.Goals as goal

abbrev looked : List ℕ → ℕ → Result ℕ PanelRefusal
looked held place = cond (ltb place 40) (Ok (get_or held place 0)) (Err OffGlass)

pub returns-clause-forty : goal.returns-clause-forty
returns-clause-forty c =
    let held = c.args.self.now.held in
    let long : length held ≡ 40 = search rules in
    let is : c.ok_or.result ≡ looked held c.args.place = search rules in
    is ∙ ap (λ xs. looked xs c.args.place) (sym (forty_same held long))

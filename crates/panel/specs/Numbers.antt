-- The number of each refusal.
use Rattle.std.specs.Prelude.{ℕ}
use Rattle.panel.specs.declared.panel.PanelRefusal.{PanelRefusal}
use Rattle.panel.specs.declared.panel.PanelRefusal.TheVariants.{OffGlass}

abbrev pub panel_refusal : PanelRefusal → ℕ
panel_refusal OffGlass = 41

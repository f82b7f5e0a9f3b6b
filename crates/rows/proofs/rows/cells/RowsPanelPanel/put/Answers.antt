use Rattle.std.proofs.Common.{rules}
use Rattle.std.proofs.lemmas.List.{set-append_left, set-append_right}
use Rattle.rows.proofs.rows.cells.RowsPanelPanel.put.Goals as goal

pub returns : goal.returns
returns c = search (rules, set-append_left, set-append_right)

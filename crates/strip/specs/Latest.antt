-- A cell is the latest change for its place, or else the picture's.
use Rattle.std.specs.Prelude.{◌≡◌, ℕ, ◌<◌, cond, List, [], ◌∷◌, Some, None, Option, ◌==◌, slice_index}
use Rattle.std.specs.Option.{option_or, unwrap_or}
use Rattle.strip.specs.declared.strip.Change.{Change}
use Rattle.strip.specs.declared.strip.StripPanel.{StripPanel}
use Rattle.strip.specs.Strip.{picture_of, waiting_of, cells_of}

-- the cell of the latest of some changes, oldest first, that names a place
abbrev pub latest : ℕ → List Change → Option ℕ
latest k [] = None
latest k (c ∷ cs) = option_or (latest k cs) (cond (c.place == k) (Some c.cell) None)

abbrev pub Latest : Type 0
Latest = (s : StripPanel) (k : ℕ) → k < 40 → slice_index (cells_of s) k ≡ unwrap_or (latest k (waiting_of s)) (slice_index (picture_of s) k)

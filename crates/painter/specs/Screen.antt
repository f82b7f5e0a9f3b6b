-- A painter whose screen held the panel's picture when it began, and who draws only what waits, or everything where the flag is up, has the
-- glass on its screen.
use Rattle.std.specs.Prelude.{◌≡◌, ℕ, false, cond, List}
use Rattle.strip.specs.declared.strip.StripPanel.{StripPanel}
use Rattle.strip.specs.Strip.{picture_of, waiting_of, merged, cells_of, Paints}
use Rattle.strip.specs.Waiting.{Kept}

-- what the screen holds once it is painted: all cells, or the waiting changes drawn in order over what it held
abbrev pub painted_over : StripPanel → List ℕ → List ℕ
painted_over s screen = cond s.all (cells_of s) (merged screen (waiting_of s))

-- the screen lacks nothing but what waits, unless the flag is up
abbrev pub Current : List ℕ → StripPanel → Type 0
Current screen s = s.all ≡ false → screen ≡ picture_of s

pub record ScreenShows : Type 0 where
  pub shows : (s : StripPanel) (screen : List ℕ) → Current screen s → painted_over s screen ≡ cells_of s
  pub painted : (s t : StripPanel) (screen : List ℕ) → Current screen s → Paints s t → Current (painted_over s screen) t
  pub kept : (s t : StripPanel) (screen : List ℕ) → Current screen s → Kept s t → Current screen t

-- What is left of a strip panel after puts alone, any number of them.
use Rattle.std.specs.Prelude.{◌≡◌, true, ◌⊎◌, List, ◌++◌}
use Rattle.list.specs.Entries.{capacity}
use Rattle.panel.specs.Laws.{Reached}
use Rattle.strip.specs.declared.strip.Change.{Change}
use Rattle.strip.specs.declared.strip.StripPanel.{StripPanel}
use Rattle.strip.specs.Strip.{picture_of, waiting_of, cells_of, KeepsLoan}
use Rattle.strip.specs.Laws.{strip}

-- nothing that waited is lost: the picture and the flag are as they were, and the list has grown at its end
pub record Grown (s t : StripPanel) : Type 0 where
  pub picture : picture_of t ≡ picture_of s
  pub flag : t.all ≡ s.all
  pub more : List Change
  pub waiting : waiting_of t ≡ waiting_of s ++ more

-- the list ran over: the flag is up, and the picture has the cells of some moment on the way
pub record Overran (s t : StripPanel) : Type 0 where
  pub flag : t.all ≡ true
  pub moment : StripPanel
  pub before : Reached strip.puts s moment
  pub after : Reached strip.puts moment t
  pub picture : picture_of t ≡ cells_of moment

pub record Kept (s t : StripPanel) : Type 0 where
  pub list : Grown s t ⊎ Overran s t
  pub capacity : capacity t.changes ≡ capacity s.changes
  pub lent : KeepsLoan s t

-- As long as the flag is down, a painter that draws the waiting changes misses none.
abbrev pub KeepsWaiting : Type 0
KeepsWaiting = (s t : StripPanel) → Reached strip.puts s t → Kept s t

-- The length of the glass along a run.
use Rattle.std.proofs.Common.{◌≡◌, ℕ, List, [], ◌∷◌, length, refl, ◌∙◌}
use Rattle.glass.specs.declared.stroke.Stroke.{Stroke}
use Rattle.glass.specs.Drawn.{drawn, drawn_all}
use Rattle.commands.specs.Sets.{Reads}
use Rattle.state.specs.Model.{State, Event, reply, next, after}
use Rattle.panel.proofs.Glass.{drawn-length}

pub drawn_all-length : (ss : List Stroke) (g : List ℕ) → length (drawn_all ss g) ≡ length g
drawn_all-length [] g = refl
drawn_all-length (s ∷ ss) g = drawn_all-length ss (drawn s g) ∙ drawn-length s g

pub after-length : {R : Type 0} (reads : Reads R) (s : State R) (es : List Event) → length (after reads s es).glass ≡ length s.glass
after-length reads s [] = refl
after-length reads s (e ∷ es) = after-length reads (next reads s e) es ∙ drawn_all-length (reply reads e s).strokes s.glass

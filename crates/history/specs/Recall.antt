-- The recall: bytes that make any display new again, whatever it was given before.
use Rattle.std.specs.Prelude.{◌≡◌, ℕ, List, [], ◌∷◌, ◌++◌}
use Rattle.commands.specs.Sets.{Reads}
use Rattle.terms.specs.Presets.{Preset}
use Rattle.state.specs.Model.{Event, new, after, bytes_of}

-- Six times 18h end a playback and any command that is half read; ESC = 2 selects the display; ESC @ initializes it.
abbrev pub recall : List ℕ
recall = 0x18 ∷ 0x18 ∷ 0x18 ∷ 0x18 ∷ 0x18 ∷ 0x18 ∷ 0x1B ∷ 0x3D ∷ 0x02 ∷ 0x1B ∷ 0x40 ∷ []

-- After any events, and then the recall's bytes with ticks anywhere among them, a display is as it was when new.
abbrev pub Recalls : {R : Type 0} → Reads R → Type 0
Recalls reads = (p : Preset) (es rs : List Event) → bytes_of rs ≡ recall → after reads (new reads p) (es ++ rs) ≡ new reads p

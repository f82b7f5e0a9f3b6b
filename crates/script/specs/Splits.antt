-- The words of a line, and the bytes that they write. Assumes nothing.
use Rattle.std.specs.Prelude.{◌≡◌, ℕ, ◌<◌, Bool, true, false, cond, not, ◌&&◌, ◌||◌, List, [], ◌∷◌, ◌++◌, map, length, Some, None, Option, ◌==◌}
use Rattle.std.specs.Borrow.{Bor}
use Rattle.std.specs.List.{flat_map, AllByRecursion}
use Rattle.script.specs.Figures.{hex_byte}

abbrev pub blank : ℕ → Bool
blank b = b == 32 || b == 9

abbrev pub texts : List (Bor (List ℕ)) → List (List ℕ)
texts ws = map (λ w. w.now) ws

-- the word that was begun, if it has a byte, and those that follow
abbrev pub ended : List ℕ → List (List ℕ) → List (List ℕ)
ended [] ws = ws
ended (b ∷ w) ws = (b ∷ w) ∷ ws

-- the words of the bytes that are left, after a word that was begun
abbrev pub gather : List ℕ → List ℕ → List (List ℕ)
gather w [] = ended w []
gather w (b ∷ bs) = cond (blank b) (ended w (gather [] bs)) (gather (w ++ b ∷ []) bs)

abbrev pub comment : List ℕ → Bool
comment [] = false
comment (b ∷ bs) = b == 35

abbrev pub words_of : List ℕ → List (List ℕ)
words_of bs = cond (comment bs) [] (gather [] bs)

-- the bytes from the first word on
abbrev pub from_word : List ℕ → List ℕ
from_word [] = []
from_word (b ∷ bs) = cond (blank b) (from_word bs) (b ∷ bs)

-- what follows a word and one blank; the flag says whether the word has begun
abbrev pub after : Bool → List ℕ → List ℕ
after begun [] = []
after begun (b ∷ bs) = cond (blank b) (cond begun bs (after false bs)) (after true bs)

abbrev pub after_first : List ℕ → List ℕ
after_first bs = after false bs

abbrev pub if_byte : Option ℕ → (ℕ → Option (List ℕ)) → Option (List ℕ)
if_byte None f = None
if_byte (Some b) f = f b

-- the bytes so far, and those that the words write
abbrev pub bytes_from : List ℕ → List (List ℕ) → Option (List ℕ)
bytes_from bs [] = Some bs
bytes_from bs (w ∷ ws) = if_byte (hex_byte w) (λ b. bytes_from (bs ++ b ∷ []) ws)

abbrev pub bytes_of : List (List ℕ) → Option (List ℕ)
bytes_of ws = bytes_from [] ws

-- the bytes of a line that are no blanks
abbrev pub solid : List ℕ → List ℕ
solid [] = []
solid (b ∷ bs) = cond (blank b) (solid bs) (b ∷ solid bs)

abbrev pub no_blank : List ℕ → Bool
no_blank [] = true
no_blank (b ∷ bs) = not (blank b) && no_blank bs

-- no word is empty or has a blank, and joined they are the line without its blanks
pub record WordsStand : Type 0 where
  pub whole : (bs : List ℕ) → comment bs ≡ false → flat_map (λ w. w) (words_of bs) ≡ solid bs
  pub each : (bs : List ℕ) → AllByRecursion (λ w. (0 < length w) × (no_blank w ≡ true)) (words_of bs)

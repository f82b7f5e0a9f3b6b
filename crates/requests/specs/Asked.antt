-- What the words of a line ask for. Assumes nothing.
use Rattle.std.specs.Prelude.{◌≡◌, ℕ, cond, List, [], ◌∷◌, Some, None, Ok, Err, codes, Option, Result, nat_le}
use Rattle.std.specs.Borrow.{Bor}
use Rattle.std.specs.Str.{bytes_eq}
use Rattle.requests.specs.declared.requests.Keyword.{Keyword}
use Rattle.requests.specs.declared.requests.Keyword.TheVariants as keyword
use Rattle.requests.specs.declared.requests.Make.{Make}
use Rattle.requests.specs.declared.requests.Make.TheVariants as make
use Rattle.requests.specs.declared.requests.Mistake.{Mistake}
use Rattle.requests.specs.declared.requests.Mistake.TheVariants.{Unknown, FewWords, ManyWords, NoNumber, LargeNumber, NoMake}
use Rattle.requests.specs.declared.requests.Request.{Request}
use Rattle.requests.specs.declared.requests.Request.TheVariants as request
use Rattle.script.specs.Figures.{number_of}
use Rattle.requests.specs.Keywords.{keyword_of}
use Rattle.script.specs.Splits.{texts}

abbrev pub bounded : ℕ → Option ℕ → Result ℕ Mistake
bounded most None = Err NoNumber
bounded most (Some n) = cond (nat_le n most) (Ok n) (Err LargeNumber)

-- a word as a number of at most `most`
abbrev pub operand_of : ℕ → List ℕ → Result ℕ Mistake
operand_of most w = bounded most (number_of w)

abbrev pub then : {X Y : Type 0} → Result X Mistake → (X → Result Y Mistake) → Result Y Mistake
then (Ok x) f = f x
then (Err m) f = Err m

-- no words may be left
abbrev pub alone_of : {Y : Type 0} → Y → List (List ℕ) → Result Y Mistake
alone_of y [] = Ok y
alone_of y (w ∷ ws) = Err ManyWords

-- the next word is a number of at most `most`
abbrev pub number_then : {Y : Type 0} → ℕ → List (List ℕ) → (ℕ → List (List ℕ) → Result Y Mistake) → Result Y Mistake
number_then most [] f = Err FewWords
number_then most (w ∷ ws) f = then (operand_of most w) (λ n. f n ws)

-- what was read of the next word: it, as a number, and the words after it; or why it is none
abbrev pub Taken : ℕ → List (List ℕ) → Result (ℕ × Bor (List (Bor (List ℕ)))) Mistake → Type 0
Taken most ws (Ok p) = (w : List ℕ) × (ws ≡ w ∷ texts p.1.now) × (operand_of most w ≡ Ok p.0)
Taken most [] (Err m) = m ≡ FewWords
Taken most (w ∷ ws) (Err m) = operand_of most w ≡ Err m

-- how many places a strip panel has
abbrev pub strip_asked : List (List ℕ) → Result Make Mistake
strip_asked ws = number_then 64 ws (λ n ws. alone_of (make.Strip n) ws)

-- the make of a panel
abbrev pub make_asked : List (List ℕ) → Result Make Mistake
make_asked [] = Err FewWords
make_asked (w ∷ ws) = cond (bytes_eq w (codes "plain")) (alone_of make.Plain ws) (cond (bytes_eq w (codes "strip")) (strip_asked ws) (Err NoMake))

abbrev pub cell_asked : List (List ℕ) → Result Request Mistake
cell_asked ws = number_then 255 ws (λ x ws. number_then 255 ws (λ y ws. alone_of (request.Cell x y) ws))

abbrev pub on_asked : List (List ℕ) → Result Request Mistake
on_asked ws =
    number_then 255 ws (λ s ws. number_then 255 ws (λ t ws. number_then 255 ws (λ b ws. then (make_asked ws) (λ m. Ok (request.On s t b m)))))

-- the request of a keyword with the words after it
abbrev pub asked : Keyword → List (List ℕ) → Result Request Mistake
asked keyword.On ws = on_asked ws
asked keyword.Room ws = number_then 8192 ws (λ n ws. alone_of (request.Room n) ws)
asked keyword.Feed ws = Ok request.Feed
asked keyword.Text ws = Ok request.Text
asked keyword.Tick ws = number_then 1000000 ws (λ n ws. alone_of (request.Tick n) ws)
asked keyword.Painted ws = alone_of request.Painted ws
asked keyword.Waiting ws = alone_of request.Waiting ws
asked keyword.Cell ws = cell_asked ws
asked keyword.Cursor ws = alone_of request.Cursor ws
asked keyword.Window ws = number_then 255 ws (λ n ws. alone_of (request.Window n) ws)
asked keyword.User ws = number_then 255 ws (λ n ws. alone_of (request.User n) ws)
asked keyword.Macro ws = number_then 999999999 ws (λ n ws. alone_of (request.Macro n) ws)
asked keyword.Lamp ws = alone_of request.Lamp ws
asked keyword.Modes ws = alone_of request.Modes ws
asked keyword.Glass ws = alone_of request.Glass ws
asked keyword.Show ws = alone_of request.Show ws
asked keyword.Items ws = Ok request.Items
asked keyword.Replay ws = alone_of request.Replay ws
asked keyword.Off ws = alone_of request.Off ws

abbrev pub asked_if : Option Keyword → List (List ℕ) → Result Request Mistake
asked_if None ws = Err Unknown
asked_if (Some k) ws = asked k ws

abbrev pub request_of : List (List ℕ) → Result Request Mistake
request_of [] = Ok request.Nothing
request_of (w ∷ ws) = asked_if (keyword_of w) ws

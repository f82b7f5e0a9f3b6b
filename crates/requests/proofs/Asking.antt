-- What is read of a line's words. Assumes nothing.
use Rattle.std.proofs.Common.{◌≡◌, ℕ, ◌≤◌, leb, List, [], ◌∷◌, length, Some, Ok, Option, sym, refl, ap, ◌∙◌, ⊎_elim, arith, Bor}
use Rattle.std.proofs.lemmas.Slice.Eq.{HasBytesAt, bytes_eq-Decides, text_from_reads}
use Rattle.std.proofs.lemmas.Bool.{cond-true, cond-false, le-leb, cases_Bool}
use Rattle.std.specs.Str.{bytes_eq}
use Rattle.requests.specs.declared.requests.Keyword.{Keyword}
use Rattle.requests.specs.declared.requests.Keyword.TheVariants.{On, Room, Feed, Text, Tick, Painted, Waiting, Cell, Cursor, Window, User, Macro, Lamp, Modes, Glass, Show, Items, Replay, Off}
use Rattle.requests.specs.Asked.{bounded, operand_of}
use Rattle.script.specs.Figures.{number_of}
use Rattle.requests.specs.Keywords.{name_of, found_in, keywords, keyword_of, KeywordsStand}
use Rattle.script.specs.Splits.{texts}

-- the number that was read, of a word that is the first
pub taken_ok : (most : ℕ) (ws : List (Bor (List ℕ))) (w : Bor (List ℕ)) (rest : List (Bor (List ℕ))) (o : Option ℕ) (n : ℕ) → ws ≡ w ∷ rest → o ≡ number_of w.now → o ≡ Some n → n ≤ most → (v : List ℕ) × (texts ws ≡ v ∷ texts rest) × (operand_of most v ≡ Ok n)
taken_ok most ws w rest o n e i s h = (w.now, ap texts e, ap (bounded most) (sym i ∙ s) ∙ cond-true (leb n most) _ _ (le-leb n most h))

-- the keywords

keyword_named : (k : Keyword) → keyword_of (name_of k) ≡ Some k
unfolding keyword_of
keyword_named On = refl
keyword_named Room = refl
keyword_named Feed = refl
keyword_named Text = refl
keyword_named Tick = refl
keyword_named Painted = refl
keyword_named Waiting = refl
keyword_named Cell = refl
keyword_named Cursor = refl
keyword_named Window = refl
keyword_named User = refl
keyword_named Macro = refl
keyword_named Lamp = refl
keyword_named Modes = refl
keyword_named Glass = refl
keyword_named Show = refl
keyword_named Items = refl
keyword_named Replay = refl
keyword_named Off = refl

-- a word with the bytes of a keyword's name
pub read_as : (w : List ℕ) (k : Keyword) → length w ≡ length (name_of k) → HasBytesAt w 0 (name_of k) → Some k ≡ keyword_of w
read_as w k l h = sym (ap keyword_of (text_from_reads w (name_of k) l h) ∙ keyword_named k)

found_named : (w : List ℕ) (ks : List Keyword) (k : Keyword) → found_in w ks ≡ Some k → w ≡ name_of k
found_named w [] k e = let z : ◌≡◌ {A = ℕ} 0 1 = cc in absurd (omega arith)
found_named w (j ∷ ks) k e =
    ⊎_elim
    (λ t.
    let s : Some j ≡ Some k = sym (cond-true (bytes_eq w (name_of j)) (Some j) (found_in w ks) t) ∙ e in
    let q : j ≡ k = cc in
    (bytes_eq-Decides w (name_of j)).0 t ∙ ap name_of q)
    (λ f. found_named w ks k (sym (cond-false (bytes_eq w (name_of j)) (Some j) (found_in w ks) f) ∙ e))
    (cases_Bool (bytes_eq w (name_of j)))

pub keywords_stand : KeywordsStand
unfolding keyword_of
keywords_stand = record { named = keyword_named; names = λ w k e. found_named w keywords k e }

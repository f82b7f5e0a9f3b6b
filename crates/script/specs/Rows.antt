-- The lines of a script. Assumes nothing.
use Rattle.std.specs.Prelude.{◌≡◌, ℕ, suc, ◌+◌, ◌<◌, cond, ◌⊎◌, List, [], ◌∷◌, ◌++◌, length, take, drop, Option, MatchOption, ◌==◌, ◌≢◌, slice_index}
use Rattle.std.specs.Borrow.{Bor}
use Rattle.script.specs.declared.lines.Lines.{Lines}

-- the bytes before the first LF
abbrev pub line_size : List ℕ → ℕ
line_size [] = 0
line_size (b ∷ bs) = cond (b == 10) 0 (suc (line_size bs))

-- one line is handed out, and what follows it and its LF is left
pub record LineAt (s : Lines) (l : List ℕ) (t : Lines) : Type 0 where
  pub before : 0 < length s.rest.now
  pub bytes : l ≡ take (line_size s.rest.now) s.rest.now
  pub after : t.rest.now ≡ drop (line_size s.rest.now + 1) s.rest.now
  pub counted : t.number ≡ s.number + 1

-- where nothing is left none is handed out, and nothing changes
abbrev pub NextLine : Lines → Option (Bor (List ℕ)) → Lines → Type 0
NextLine s r t = MatchOption r ((length s.rest.now ≡ 0) × (t.rest.now ≡ s.rest.now) × (t.number ≡ s.number)) (λ l. LineAt s l.now t)

-- a line has no LF, and with its LF and what follows it is what was left; the last may lack its LF
pub record LinesJoin : Type 0 where
  pub free : (bs : List ℕ) (k : ℕ) → k < line_size bs → slice_index bs k ≢ 10
  pub ends : (bs : List ℕ) → (bs ≡ take (line_size bs) bs ++ 10 ∷ drop (suc (line_size bs)) bs) ⊎ (take (line_size bs) bs ≡ bs)

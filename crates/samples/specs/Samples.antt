-- Worked runs: what is given to a new display with set 0, table 0 and brightness 4, and what it must show then.
use Rattle.std.specs.Prelude.{◌≡◌, ℕ, List, [], ◌∷◌, ◌++◌, map, replicate}
use Rattle.terms.specs.declared.fault.Fault.{Fault}
use Rattle.terms.specs.declared.fault.Report.{Report}
use Rattle.terms.specs.Faults.{report}
use Rattle.terms.specs.Presets.{Preset}
use Rattle.sets.specs.Joined.{reads}
use Rattle.state.specs.Model.{Event, byte, tick, new, after, faults}

-- a run's bytes and ticks, and the glass, the cursor and the faults that it must lead to
pub record Sample : Type 0 where
  pub given : List Event
  pub glass : List ℕ
  pub column : ℕ
  pub row : ℕ
  -- cause, both bytes of the command, and the operand's number
  pub faults : List (List ℕ)

abbrev settings : Preset
settings = record { set = 0; table = 0; brightness = 4 }

abbrev pub bytes : List ℕ → List Event
bytes bs = map byte bs

abbrev pub blanks : ℕ → List ℕ
blanks n = replicate n 32

abbrev pub letters : List ℕ
letters = replicate 40 65

-- a glass that is all blank but for its first cells
abbrev pub begins : List ℕ → ℕ → List ℕ
begins cs n = cs ++ blanks n

abbrev windowed : List ℕ
windowed = 0x1B ∷ 0x57 ∷ 1 ∷ 1 ∷ 5 ∷ 1 ∷ 8 ∷ 1 ∷ 65 ∷ 66 ∷ 67 ∷ 68 ∷ 69 ∷ []

-- recorded, "AB" is also written; then it is played with n = 1 and m = 0
abbrev macro_run : List ℕ
macro_run = 0x1F ∷ 0x3A ∷ 65 ∷ 66 ∷ 0x1F ∷ 0x3A ∷ 0x1F ∷ 0x5E ∷ 1 ∷ 0 ∷ []

abbrev sample : List Event → List ℕ → ℕ → ℕ → List (List ℕ) → Sample
sample es g x y fs = record { given = es; glass = g; column = x; row = y; faults = fs }

abbrev pub table : List Sample
table =
    -- nothing
    sample [] (blanks 40) 1 1 []
    -- "HI"
    ∷ sample (bytes (72 ∷ 73 ∷ [])) (begins (72 ∷ 73 ∷ []) 38) 3 1 []
    -- forty "A"
    ∷ sample (bytes letters) letters 1 1 []
    -- the same in vertical mode: the last one scrolls
    ∷ sample (bytes (0x1F ∷ 2 ∷ letters)) (replicate 20 65 ++ blanks 20) 1 2 []
    -- "ABC" in horizontal mode: the row shifts, and the cursor stays
    ∷ sample (bytes (0x1F ∷ 3 ∷ 65 ∷ 66 ∷ 67 ∷ [])) (blanks 17 ++ (65 ∷ 66 ∷ 67 ∷ blanks 20)) 1 1 []
    -- left of the first place
    ∷ sample (bytes (8 ∷ [])) (blanks 40) 20 2 []
    -- a window of columns 5 to 8, with "ABCDE"
    ∷ sample (bytes windowed) (blanks 4 ++ (69 ∷ 66 ∷ 67 ∷ 68 ∷ blanks 32)) 6 1 []
    -- and then a window that touches it
    ∷ sample (bytes (windowed ++ (0x1B ∷ 0x57 ∷ 2 ∷ 1 ∷ 8 ∷ 1 ∷ 9 ∷ 2 ∷ []))) (blanks 4 ++ (69 ∷ 66 ∷ 67 ∷ 68 ∷ blanks 32)) 6 1 ((4 ∷ 0x1B ∷ 0x57 ∷ 0 ∷ []) ∷ [])
    -- column 21 is out of range, and the byte after it is ignored at rest
    ∷ sample (bytes (0x1F ∷ 0x24 ∷ 0x15 ∷ 0x01 ∷ [])) (blanks 40) 1 1 ((2 ∷ 0x1F ∷ 0x24 ∷ 1 ∷ []) ∷ [])
    -- "5" with a point
    ∷ sample (bytes (0x1F ∷ 0x2E ∷ 0x35 ∷ [])) (begins (1099511627829 ∷ []) 39) 2 1 []
    -- a user character, in use
    ∷ sample (bytes (0x1B ∷ 0x26 ∷ 0x01 ∷ 0x20 ∷ 0x20 ∷ 0x05 ∷ 0x92 ∷ 0xAA ∷ 0xFF ∷ 0xAA ∷ 0xA4 ∷ 0x1B ∷ 0x25 ∷ 0x01 ∷ 0x20 ∷ [])) (begins (0x4A4AAFFAA92 ∷ []) 39) 2 1 []
    -- a macro "AB", ticks 1 to 6
    ∷ sample (bytes macro_run ++ replicate 1 tick) (begins (65 ∷ 66 ∷ []) 38) 3 1 []
    ∷ sample (bytes macro_run ++ replicate 2 tick) (begins (65 ∷ 66 ∷ 65 ∷ []) 37) 4 1 []
    ∷ sample (bytes macro_run ++ replicate 3 tick) (begins (65 ∷ 66 ∷ 65 ∷ []) 37) 4 1 []
    ∷ sample (bytes macro_run ++ replicate 4 tick) (begins (65 ∷ 66 ∷ 65 ∷ 66 ∷ []) 36) 5 1 []
    ∷ sample (bytes macro_run ++ replicate 5 tick) (begins (65 ∷ 66 ∷ 65 ∷ 66 ∷ []) 36) 5 1 []
    ∷ sample (bytes macro_run ++ replicate 6 tick) (begins (65 ∷ 66 ∷ 65 ∷ 66 ∷ 65 ∷ []) 35) 6 1 []
    ∷ []

abbrev numbers : Report → List ℕ
numbers r = r.cause ∷ r.name.first ∷ r.name.second ∷ r.operand ∷ []

-- what a run leads to by the rules
abbrev pub shown : Sample → Sample
shown s = record {
  given = s.given;
  glass = (after reads (new reads settings) s.given).glass;
  column = (after reads (new reads settings) s.given).core.layout.column;
  row = (after reads (new reads settings) s.given).core.layout.row;
  faults = map (λ f. numbers (report f)) (faults reads (new reads settings) s.given);
}

-- each run of the table shows what it must
abbrev pub Samples : Type 0
Samples = map shown table ≡ table

-- Recording and playing.
use Rattle.std.specs.Prelude.{ℕ, ◌+◌, ◌-◌, ◌*◌, Bool, cond, ◌&&◌, List, [], ◌∷◌, ◌++◌, length, take, Some, None, Ok, Err, Option, Result, nat_le, nat_lt, slice_index}
use Rattle.commands.specs.declared.words.Refusal.{Refusal}
use Rattle.commands.specs.declared.words.Refusal.TheVariants.{PlayRefused, NoMacro, RecordingFull}
use Rattle.state.specs.declared.tape.Use.{Use}
use Rattle.state.specs.declared.tape.Use.TheVariants.{Blank, Recording, Stored, Playing}
use Rattle.state.specs.declared.tape.Tape.{Tape}

-- what the tape is used for, and the bytes recorded so far or those of the macro
pub record Reel : Type 0 where
  pub current : Use
  pub bytes : List ℕ

abbrev pub reel_of : Tape → Reel
reel_of t = record { current = t.current; bytes = take t.len t.bytes }

abbrev pub blank_reel : Reel
blank_reel = record { current = Blank; bytes = [] }

-- a macro of these bytes, if there are any
abbrev pub macro_reel : List ℕ → Reel
macro_reel [] = blank_reel
macro_reel (b ∷ bs) = record { current = Stored; bytes = b ∷ bs }

-- US :  closes a recording, whose last two bytes are that pair, or drops the macro and opens one
abbrev pub recorded_by : Use → List ℕ → Reel
recorded_by Recording bs = macro_reel (take (length bs - 2) bs)
recorded_by Blank bs = record { current = Recording; bytes = [] }
recorded_by Stored bs = record { current = Recording; bytes = [] }
recorded_by (Playing n m w k) bs = record { current = Recording; bytes = [] }

abbrev pub recorded : Reel → Reel
recorded r = recorded_by r.current r.bytes

-- a recording stores a byte; the eighty-third ends it with no macro
abbrev pub stored_by : Use → List ℕ → ℕ → Reel
stored_by Recording bs b = cond (nat_lt (length bs) 82) (record { current = Recording; bytes = bs ++ (b ∷ []) }) blank_reel
stored_by Blank bs b = record { current = Blank; bytes = bs }
stored_by Stored bs b = record { current = Stored; bytes = bs }
stored_by (Playing n m w k) bs b = record { current = Playing n m w k; bytes = bs }

abbrev pub stored : Reel → ℕ → Reel
stored r b = stored_by r.current r.bytes b

abbrev pub overflow_by : Use → List ℕ → Option Refusal
overflow_by Recording bs = cond (nat_lt (length bs) 82) None (Some RecordingFull)
overflow_by Blank bs = None
overflow_by Stored bs = None
overflow_by (Playing n m w k) bs = None

abbrev pub overflow : Reel → Option Refusal
overflow r = overflow_by r.current r.bytes

-- the answer, and the tape after it
pub record Turned : Type 0 where
  pub answer : Result Unit Refusal
  pub left : Reel

abbrev pub started : ℕ → ℕ → List ℕ → Turned
started n m bs = record { answer = Ok tt; left = record { current = Playing n m (2 * n) 0; bytes = bs } }

-- US ^ from the host: refused while recording, and with no macro
abbrev pub playing_by : Use → List ℕ → ℕ → ℕ → Turned
playing_by Recording bs n m = record { answer = Err PlayRefused; left = record { current = Recording; bytes = bs } }
playing_by Blank bs n m = record { answer = Err NoMacro; left = record { current = Blank; bytes = bs } }
playing_by Stored bs n m = started n m bs
playing_by (Playing n' m' w k) bs n m = started n m bs

abbrev pub playing : Reel → ℕ → ℕ → Turned
playing r n m = playing_by r.current r.bytes n m

-- a host byte ends playing
abbrev pub stopped_by : Use → List ℕ → Reel
stopped_by Recording bs = record { current = Recording; bytes = bs }
stopped_by Blank bs = record { current = Blank; bytes = bs }
stopped_by Stored bs = record { current = Stored; bytes = bs }
stopped_by (Playing n m w k) bs = record { current = Stored; bytes = bs }

abbrev pub stopped : Reel → Reel
stopped r = stopped_by r.current r.bytes

-- whether the byte number k of the macro is its last
abbrev pub is_last : ℕ → List ℕ → Bool
is_last k bs = nat_le (length bs) (k + 1)

-- A tick lowers the wait. When it reaches 0 the next byte is carried out; the wait is then 2n, and after the last byte 5m + 2n.
abbrev pub wound_by : Use → List ℕ → Reel
wound_by Recording bs = record { current = Recording; bytes = bs }
wound_by Blank bs = record { current = Blank; bytes = bs }
wound_by Stored bs = record { current = Stored; bytes = bs }
wound_by (Playing n m w k) bs =
    cond (nat_le w 1)
    (record { current = cond (is_last k bs) (Playing n m (5 * m + 2 * n) 0) (Playing n m (2 * n) (k + 1)); bytes = bs })
    (record { current = Playing n m (w - 1) k; bytes = bs })

abbrev pub wound : Reel → Reel
wound r = wound_by r.current r.bytes

-- the byte that a tick brings, if any
abbrev pub due_by : Use → List ℕ → Option ℕ
due_by Recording bs = None
due_by Blank bs = None
due_by Stored bs = None
due_by (Playing n m w k) bs = cond (nat_le w 1) (Some (slice_index bs k)) None

abbrev pub due : Reel → Option ℕ
due r = due_by r.current r.bytes

-- the macro's nth byte, counted from 1
abbrev pub nth_byte : List ℕ → ℕ → Option ℕ
nth_byte bs n = cond (nat_le 1 n && nat_le n (length bs)) (Some (slice_index bs (n - 1))) None

abbrev pub macro_by : Use → List ℕ → ℕ → Option ℕ
macro_by Recording bs n = None
macro_by Blank bs n = None
macro_by Stored bs n = nth_byte bs n
macro_by (Playing k m w i) bs n = nth_byte bs n

abbrev pub macro_byte : Reel → ℕ → Option ℕ
macro_byte r n = macro_by r.current r.bytes n

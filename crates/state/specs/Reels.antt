-- What a tape is used for, and how many bytes it then has.
use Rattle.std.specs.Prelude.{ℕ, Bool, true, false, ◌&&◌, ◌==◌, nat_le, nat_lt}
use Rattle.state.specs.declared.tape.Use.{Use}
use Rattle.state.specs.declared.tape.Use.TheVariants.{Blank, Recording, Stored, Playing}

abbrev pub lawful_reel : Use → ℕ → Bool
lawful_reel Blank len = len == 0
lawful_reel Recording len = nat_le len 82
lawful_reel Stored len = nat_le 1 len && nat_le len 80
lawful_reel (Playing n m w k) len = nat_le 1 len && (nat_le len 80 && nat_lt k len)

abbrev pub is_playing : Use → Bool
is_playing Blank = false
is_playing Recording = false
is_playing Stored = false
is_playing (Playing n m w k) = true

abbrev pub is_recording : Use → Bool
is_recording Blank = false
is_recording Recording = true
is_recording Stored = false
is_recording (Playing n m w k) = false

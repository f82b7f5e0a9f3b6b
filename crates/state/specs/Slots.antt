-- Windows by their slots.
use Rattle.std.specs.Prelude.{Bool, true, false, ◌&&◌, Some, None, Option, ◌==◌}
use Rattle.glass.specs.declared.area.Area.{Area}
use Rattle.glass.specs.Places.{whole, lawful, apart}
use Rattle.commands.specs.declared.words.Slot.{Slot}
use Rattle.commands.specs.declared.words.Slot.TheVariants.{First, Second, Third, Fourth}
use Rattle.commands.specs.Numbers.{slot_number}
use Rattle.state.specs.declared.slots.Slots.{Slots}

abbrev pub at : Slots → Slot → Option Area
at s First = s.first
at s Second = s.second
at s Third = s.third
at s Fourth = s.fourth

abbrev pub with_at : Slots → Slot → Option Area → Slots
with_at s First o = record s { first = o }
with_at s Second o = record s { second = o }
with_at s Third o = record s { third = o }
with_at s Fourth o = record s { fourth = o }

abbrev pub no_windows : Slots
no_windows = record { first = None; second = None; third = None; fourth = None }

-- an area shares no place with a window, if that is defined
abbrev pub clear : Area → Option Area → Bool
clear a None = true
clear a (Some b) = apart a b

-- nor with any
abbrev pub clear_all : Area → Slots → Bool
clear_all a s = clear a s.first && (clear a s.second && (clear a s.third && clear a s.fourth))

-- two windows share no place, where both are defined
abbrev pub clears : Option Area → Option Area → Bool
clears None o = true
clears (Some a) o = clear a o

-- a window is on the glass, where it is defined
abbrev pub fits : Option Area → Bool
fits None = true
fits (Some a) = lawful a

abbrev pub is_some : {A : Type 0} → Option A → Bool
is_some None = false
is_some (Some a) = true

-- window 0, and what is defined
abbrev pub known : Slots → Option Slot → Bool
known s None = true
known s (Some n) = is_some (at s n)

abbrev pub or_whole : Option Area → Area
or_whole None = whole
or_whole (Some a) = a

-- a window's area; window 0 is the whole glass
abbrev pub area_of : Slots → Option Slot → Area
area_of s None = whole
area_of s (Some n) = or_whole (at s n)

abbrev pub same : Slot → Slot → Bool
same n m = slot_number n == slot_number m

abbrev pub turned_to : Option Slot → Slot → Bool
turned_to None n = false
turned_to (Some m) n = same n m

-- The names of the commands, and the texts of the mistakes. Assumes nothing.
use Rattle.std.specs.Prelude.{◌≡◌, ℕ, cond, List, [], ◌∷◌, Some, None, codes, Option}
use Rattle.std.specs.Str.{bytes_eq}
use Rattle.requests.specs.declared.requests.Keyword.{Keyword}
use Rattle.requests.specs.declared.requests.Keyword.TheVariants.{On, Room, Feed, Text, Tick, Painted, Waiting, Cell, Cursor, Window, User, Macro, Lamp, Modes, Glass, Show, Items, Replay, Off}
use Rattle.requests.specs.declared.requests.Mistake.{Mistake}
use Rattle.requests.specs.declared.requests.Mistake.TheVariants.{Unknown, FewWords, ManyWords, NoNumber, LargeNumber, NoByte, NoMake, NoList, DisplayOff, DisplayOn}

abbrev pub name_of : Keyword → List ℕ
name_of On = codes "on"
name_of Room = codes "room"
name_of Feed = codes "feed"
name_of Text = codes "text"
name_of Tick = codes "tick"
name_of Painted = codes "painted"
name_of Waiting = codes "waiting"
name_of Cell = codes "cell"
name_of Cursor = codes "cursor"
name_of Window = codes "window"
name_of User = codes "user"
name_of Macro = codes "macro"
name_of Lamp = codes "lamp"
name_of Modes = codes "modes"
name_of Glass = codes "glass"
name_of Show = codes "show"
name_of Items = codes "items"
name_of Replay = codes "replay"
name_of Off = codes "off"

-- the first of some keywords that has this name
abbrev pub found_in : List ℕ → List Keyword → Option Keyword
found_in w [] = None
found_in w (k ∷ ks) = cond (bytes_eq w (name_of k)) (Some k) (found_in w ks)

abbrev pub keywords : List Keyword
keywords = On ∷ Room ∷ Feed ∷ Text ∷ Tick ∷ Painted ∷ Waiting ∷ Cell ∷ Cursor ∷ Window ∷ User ∷ Macro ∷ Lamp ∷ Modes ∷ Glass ∷ Show ∷ Items ∷ Replay ∷ Off ∷ []

unfoldable pub keyword_of : List ℕ → Option Keyword
keyword_of w = found_in w keywords

-- each keyword is found by its name, and what is found has that name
pub record KeywordsStand : Type 0 where
  pub named : (k : Keyword) → keyword_of (name_of k) ≡ Some k
  pub names : (w : List ℕ) (k : Keyword) → keyword_of w ≡ Some k → w ≡ name_of k

abbrev pub why_of : Mistake → List ℕ
why_of Unknown = codes "no such command"
why_of FewWords = codes "too few words"
why_of ManyWords = codes "too many words"
why_of NoNumber = codes "a number has one to nine digits"
why_of LargeNumber = codes "the number is too large"
why_of NoByte = codes "a byte has two hex digits"
why_of NoMake = codes "no such make of panel"
why_of NoList = codes "the panel keeps no list of changes"
why_of DisplayOff = codes "no display is on"
why_of DisplayOn = codes "a display is on"

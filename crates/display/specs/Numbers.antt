-- The numbers of the refusals.
use Rattle.std.specs.Prelude.{ℕ}
use Rattle.display.specs.declared.words.FeedRefusal.{FeedRefusal}
use Rattle.display.specs.declared.words.FeedRefusal.TheVariants.{LongPiece, FewPlaces}
use Rattle.display.specs.declared.words.AskRefusal.{AskRefusal}
use Rattle.display.specs.declared.words.AskRefusal.TheVariants.{OffGlass}

abbrev pub feed_refusal : FeedRefusal → ℕ
feed_refusal LongPiece = 21
feed_refusal FewPlaces = 22

abbrev pub ask_refusal : AskRefusal → ℕ
ask_refusal OffGlass = 31

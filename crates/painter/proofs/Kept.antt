-- Puts alone, and painted once: what that says of a strip panel and of a painter's screen.
use Rattle.std.proofs.Common.{◌≡◌, ℕ, Bool, true, false, cond, ◌⊎◌, List, Some, None, Option, Result, sym, refl, ap, ◌∙◌, subst, inl, inr, MatchOption}
use Rattle.std.proofs.lemmas.Bool.{false≢true}
use Rattle.list.specs.declared.list.BoundedList.{BoundedList}
use Rattle.panel.specs.Laws.{none}
use Rattle.commands.specs.Sets.{Reads}
use Rattle.terms.specs.declared.fault.Fault.{Fault}
use Rattle.display.specs.declared.engine.Display.{Display}
use Rattle.display.specs.declared.words.FeedRefusal.{FeedRefusal}
use Rattle.display.specs.Calls.{feed_cause, Accepts, Refuses}
use Rattle.strip.specs.declared.strip.StripPanel.{StripPanel}
use Rattle.strip.specs.Laws.{strip}
use Rattle.strip.specs.Strip.{picture_of, waiting_of, merged, cells_of}
use Rattle.strip.specs.Waiting.{Grown, Overran, Kept}
use Rattle.strip.proofs.Waiting.{keeps_waiting}
use Rattle.painter.specs.Held.{HoldsWaiting}
use Rattle.painter.specs.Screen.{Current, ScreenShows}

module _ {R : Type 0} (reads : Reads R) where
  feeds_keeps : (o : Option FeedRefusal) (d d' : Display StripPanel R) (piece : List ℕ) (l l' : BoundedList Fault) (r : Result ℕ FeedRefusal) →
      MatchOption o (Accepts strip reads d piece l r d' l') (λ e. Refuses strip reads e d l r d' l') → Kept d.panel d'.panel
  feeds_keeps None d d' piece l l' r h = keeps_waiting d.panel d'.panel h.reached
  feeds_keeps (Some e) d d' piece l l' r h = subst (λ x. Kept d.panel x.panel) (sym h.display) (keeps_waiting d.panel d.panel none)

  pub holds_waiting : HoldsWaiting reads
  holds_waiting = record {
    on = λ settings p d h. keeps_waiting p d.panel h.reached;
    fed = λ d d' piece l l' r h. feeds_keeps (feed_cause piece l) d d' piece l l' r h;
    ticked = λ d d' r h. keeps_waiting d.panel d'.panel h.reached;
    painted = λ d d' h. h.panel;
    off = λ d p h. h;
  }

shows : (b : Bool) (screen : List ℕ) (s : StripPanel) → (b ≡ false → screen ≡ picture_of s) → cond b (cells_of s) (merged screen (waiting_of s)) ≡ cells_of s
shows true screen s h = refl
shows false screen s h = ap (λ x. merged x (waiting_of s)) (h refl)

stays : (s t : StripPanel) (screen : List ℕ) → Current screen s → Grown s t ⊎ Overran s t → Current screen t
stays s t screen c (inl g) down = c (sym g.flag ∙ down) ∙ sym g.picture
stays s t screen c (inr o) down = absurd (false≢true (sym down ∙ o.flag))

pub screen_shows : ScreenShows
screen_shows = record {
  shows = λ s screen c. shows s.all screen s c;
  painted = λ s t screen c h down. shows s.all screen s c ∙ sym h.picture;
  kept = λ s t screen c k. stays s t screen c k.list;
}

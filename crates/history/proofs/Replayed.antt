-- One happening more in a life, and a script more.
use Rattle.panel.specs.Laws.{Make, Reached}
use Rattle.std.proofs.Common.{OnOk, refl, Ok, Err, ◌≡◌, ℕ, ◌+◌, ◌<◌, ◌≤◌, ltb, List, [], ◌∷◌, ◌++◌, map, length, get_or, take, Some, None, Option, Result, sym, ap, ◌∙◌, subst, subst₂, append_assoc, arith}
use Rattle.std.proofs.lemmas.List.{append-nil, flat_map_more, length-take, take_more}
use Rattle.std.specs.List.{slice_get}
use Rattle.std.proofs.lemmas.Option.{MatchOption-at_none}
use Rattle.std.proofs.lemmas.Bool.{le-ltb, cond-false}
use Rattle.list.specs.declared.list.BoundedList.{BoundedList}
use Rattle.list.specs.Entries.{entries, places, capacity}
use Rattle.commands.specs.Sets.{Reads}
use Rattle.terms.specs.declared.fault.Fault.{Fault}
use Rattle.state.specs.Model.{Event, byte, tick, fault_of, faults}
use Rattle.display.specs.declared.words.FeedRefusal.{FeedRefusal}
use Rattle.display.specs.declared.words.FeedRefusal.TheVariants.{FewPlaces}
use Rattle.display.specs.declared.engine.Display.{Display}
use Rattle.display.specs.Calls.{view, feed_cause, free, Accepts, Refuses, Feeds, Ticks, Paints}
use Rattle.display.proofs.Fed.{grown_capacity}
use Rattle.history.specs.declared.replay.words.Happening.{Happening}
use Rattle.history.specs.declared.replay.words.Happening.TheVariants.{Byte, Tick, Painted}
use Rattle.history.specs.Lives.{accepted, Calls, none, fed, ticked, painted, asked}
use Rattle.history.specs.Replays.{event_of, events_of, Handled, on, then, HandlesAll, nothing, further, Happens, GoesThrough, LivesOn}

-- a byte with two free places is never refused
accepts : (b : ℕ) (l : BoundedList Fault) → 2 ≤ free l → feed_cause (b ∷ []) l ≡ None
accepts b l room = cond-false (ltb (free l) 2) (Some FewPlaces) None (le-ltb (free l) 2 room)

-- two faults at most are the first and the second
both : (fs : List Fault) → length fs ≤ 2 → fault_of (slice_get fs 0) ++ fault_of (slice_get fs 1) ≡ fs
both [] few = refl
both (f ∷ []) few = refl
both (f ∷ g ∷ []) few = refl
both (f ∷ g ∷ h ∷ hs) few = absurd (omega (arith, few))

events_more : (hs : List Happening) (i : ℕ) (o : Happening) → i < length hs → events_of (take i hs) ++ event_of (get_or hs i o) ≡ events_of (take (i + 1) hs)
events_more hs i o lt = flat_map_more event_of [] (take i hs) (get_or hs i o) ∙ ap events_of (sym (take_more hs i o lt))

-- what a script does to the panel that switching on left
pub handled : {P : Type 0} (make : Make P) (p q r : P) (hs : List Happening) → Reached make.puts p q → HandlesAll make q hs r → Handled make p hs r
handled make p q r hs o nothing = on o
handled make p q r hs o (further {q = t} {hs = gs} h before one) = then h (handled make p q t gs o before) one

module _ {P R : Type 0} (make : Make P) (reads : Reads R) where
  calls-append : (d d₁ d₂ : Display P R) (es es' : List Event) (fs fs' : List Fault) → Calls make reads d es fs d₁ → Calls make reads d₁ es' fs' d₂ →
      Calls make reads d (es ++ es') (fs ++ fs') d₂
  calls-append d d₁ d₂ es es' fs fs' before none =
      subst₂ (λ x y. Calls make reads d x y d₁) (sym (append-nil es)) (sym (append-nil fs)) before
  calls-append d d₁ d₂ es es' fs fs' before (fed {es = es₁} {fs = fs₁} {d₁ = d₃} given piece l l' r later h e) =
      subst₂ (λ x y. Calls make reads d x y d₂) (append_assoc es es₁ (accepted r piece)) (append_assoc fs fs₁ given)
      (fed given piece l l' r (calls-append d d₁ d₃ es es₁ fs fs₁ before later) h e)
  calls-append d d₁ d₂ es es' fs fs' before (ticked {es = es₁} {fs = fs₁} {d₁ = d₃} r later h) =
      subst₂ (λ x y. Calls make reads d x y d₂) (append_assoc es es₁ (tick ∷ [])) (append_assoc fs fs₁ (fault_of r))
      (ticked r (calls-append d d₁ d₃ es es₁ fs fs₁ before later) h)
  calls-append d d₁ d₂ es es' fs fs' before (painted {d₁ = d₃} later h) = painted (calls-append d d₁ d₃ es es' fs fs' before later) h
  calls-append d d₁ d₂ es es' fs fs' before (asked q r later h) = asked q r (calls-append d d₁ d₂ es es' fs fs' before later) h

  pub happens_tick : (d d' : Display P R) (r : Option Fault) (hs all : List Fault) → Ticks make reads d r d' → all ≡ hs ++ fault_of r →
      Happens make reads Tick d hs d' all
  happens_tick d d' r hs all h j = record { given = fault_of r; calls = ticked r none h; joined = j; panel = h.reached }

  pub happens_painted : (d d' : Display P R) (hs : List Fault) → Paints make d d' → Happens make reads Painted d hs d' hs
  happens_painted d d' hs h = record { given = []; calls = painted none h; joined = sym (append-nil hs); panel = h.panel }

  -- a byte, fed with an empty list over two places, and its first entry and its second then collected, unless there was no memory for that
  pub gives_byte : {E : Type 0} (answer : Result (Unit {0}) E) (b : ℕ) (d d' : Display P R) (l l' : BoundedList Fault) (r : Result ℕ FeedRefusal) (o o' : Option Fault)
      (hs mid all : List Fault) → entries l ≡ [] → capacity l ≡ 2 → Feeds make reads d (b ∷ []) l r d' l' →
      o ≡ slice_get (entries l') 0 → o' ≡ slice_get (entries l') 1 → mid ≡ hs ++ fault_of o → OnOk answer (all ≡ mid ++ fault_of o') →
      OnOk answer (Happens make reads (Byte b) d hs d' all)
  gives_byte (Ok u) b d d' l l' r o o' hs mid all empty two h is is' first second =
      let piece = b ∷ [] in
      let room : 2 ≤ free l = omega (arith, ap length empty, two) in
      let took = MatchOption-at_none (Accepts make reads d piece l r d' l') (λ e. Refuses make reads e d l r d' l') (accepts b l room) h in
      let long : capacity l' ≡ 2 = grown_capacity l l' (faults reads (view make d) (map byte piece)) took.grown ∙ two in
      let few : length (entries l') ≤ 2 = omega (arith, length-take l'.len (places l'), long) in
      let all_of : fault_of o ++ fault_of o' ≡ entries l' = (λ i. fault_of (is i) ++ fault_of (is' i)) ∙ both (entries l') few in
      record {
        given = entries l';
        calls = subst (λ x. Calls make reads d (accepted x piece) (entries l') d') took.answers
            (fed (entries l') piece l l' r none h (ap (λ z. z ++ entries l') (sym empty)));
        joined = second ∙ ap (λ z. z ++ fault_of o') first ∙ append_assoc hs (fault_of o) (fault_of o') ∙ ap (λ z. hs ++ z) all_of;
        panel = took.reached;
      }
  gives_byte (Err e) b d d' l l' r o o' hs mid all empty two h is is' first second = tt

  pub goes_nowhere : (d : Display P R) (fs : List Fault) → GoesThrough make reads [] d fs d fs
  goes_nowhere d fs = record { given = []; calls = none; joined = sym (append-nil fs); panel = nothing }

  -- one happening more of a script
  pub script_more : (first d d' : Display P R) (hs : List Happening) (i : ℕ) (o x : Happening) (before fs all : List Fault) → i < length hs → x ≡ get_or hs i o →
      GoesThrough make reads (take i hs) first before d fs → Happens make reads x d fs d' all →
      GoesThrough make reads (take (i + 1) hs) first before d' all
  script_more first d d' hs i o x before fs all lt is g h =
      let es = events_of (take i hs) in
      let split : es ++ event_of x ≡ events_of (take (i + 1) hs) = ap (λ y. es ++ event_of y) is ∙ events_more hs i o lt in
      record {
        given = g.given ++ h.given;
        calls = subst (λ y. Calls make reads first y (g.given ++ h.given) d') split
            (calls-append first d d' es (event_of x) g.given h.given g.calls h.calls);
        joined = h.joined ∙ ap (λ y. y ++ h.given) g.joined ∙ append_assoc before g.given h.given;
        panel = subst (λ y. HandlesAll make first.panel y d'.panel) (ap (λ y. take i hs ++ y ∷ []) is ∙ sym (take_more hs i o lt)) (further x g.panel h.panel);
      }

  -- a life goes on
  pub lives_on : (d d' : Display P R) (hs : List Happening) (fs fs' : List Fault) → GoesThrough make reads hs d fs d' fs' → LivesOn make reads hs d fs d' fs'
  lives_on d d' hs fs fs' g settings es life = record {
    panel = life.panel;
    first = life.first;
    on = life.on;
    calls = subst (λ y. Calls make reads life.first (es ++ events_of hs) y d') (sym g.joined)
        (calls-append life.first d d' es (events_of hs) fs g.given life.calls g.calls);
  }

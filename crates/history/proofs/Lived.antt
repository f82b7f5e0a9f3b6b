-- The history theorem.
use Rattle.std.proofs.Common.{◌≡◌, ℕ, Bool, true, false, List, [], ◌∷◌, ◌++◌, map, Some, None, Ok, Option, Result, sym, refl, ap, ◌∙◌, subst, append_assoc, MatchOption}
use Rattle.std.proofs.lemmas.List.{append-nil, append_cancel_left}
use Rattle.std.proofs.lemmas.Bool.{cond-true, cond-false}
use Rattle.glass.specs.Places.{holds, whole, inside, place}
use Rattle.list.specs.declared.list.BoundedList.{BoundedList}
use Rattle.list.specs.Entries.{entries}
use Rattle.panel.specs.Laws.{Make, Laws}
use Rattle.panel.proofs.Glass.{inside_within}
use Rattle.commands.specs.Sets.{Reads, SetsLaws}
use Rattle.terms.specs.declared.fault.Fault.{Fault}
use Rattle.terms.specs.Presets.{Preset}
use Rattle.state.specs.Core.{window, core_of}
use Rattle.state.specs.Model.{State, Event, byte, tick, new, after, faults, reply, fault_of}
use Rattle.state.proofs.Runs.{after-append, faults-append}
use Rattle.display.specs.declared.words.Question.{Question}
use Rattle.display.specs.declared.words.Question.TheVariants.{Cell}
use Rattle.display.specs.declared.words.Answer.{Answer}
use Rattle.display.specs.declared.words.FeedRefusal.{FeedRefusal}
use Rattle.display.specs.declared.engine.Display.{Display}
use Rattle.display.specs.Answers.{answer, cell_at}
use Rattle.display.specs.Calls.{view, feed_cause, Accepts, Refuses}
use Rattle.history.specs.Lives.{accepted, Calls, none, fed, ticked, painted, asked, Life}
use Rattle.history.specs.Compared.{Agree}
use Rattle.history.specs.Confined.{Alike, Keeps}
use Rattle.history.specs.History.{Outside, Shows, Shown, Recalled, Same, Twins, Rejoined, ConfinedLives, History}
use Rattle.history.proofs.Recalled.{recalls}
use Rattle.history.proofs.Confined.{confined}
use Rattle.history.proofs.Runs.{after-length}

module _ {R : Type 0} (reads : Reads R) where
  -- events that lead from s to t and give these faults
  pub record Run (s : State R) (es : List Event) (fs : List Fault) (t : State R) : Type 0 where
    pub state : t ≡ after reads s es
    pub given : fs ≡ faults reads s es

  more : (s t u : State R) (es es' : List Event) (fs fs' : List Fault) → Run s es fs t → Run t es' fs' u → Run s (es ++ es') (fs ++ fs') u
  more s t u es es' fs fs' a b = record {
    state = b.state ∙ ap (λ x. after reads x es') a.state ∙ sym (after-append reads s es es');
    given = ap (λ x. fs ++ x) (b.given ∙ ap (λ x. faults reads x es') a.state) ∙ ap (λ x. x ++ faults reads (after reads s es) es') a.given ∙ sym (faults-append reads s es es');
  }

module _ {P R : Type 0} (make : Make P) (laws : Laws make) (reads : Reads R) where
  feeds_run : (o : Option FeedRefusal) (d d' : Display P R) (given : List Fault) (piece : List ℕ) (l l' : BoundedList Fault) (r : Result ℕ FeedRefusal) →
      MatchOption o (Accepts make reads d piece l r d' l') (λ e. Refuses make reads e d l r d' l') → entries l' ≡ entries l ++ given →
      Run reads (view make d) (accepted r piece) given (view make d')
  feeds_run None d d' given piece l l' r h e = record {
    state = h.state ∙ ap (λ x. after reads (view make d) (accepted x piece)) (sym h.answers);
    given = append_cancel_left (entries l) given (faults reads (view make d) (map byte piece)) (sym e ∙ h.grown.list) ∙ ap (λ x. faults reads (view make d) (accepted x piece)) (sym h.answers);
  }
  feeds_run (Some x) d d' given piece l l' r h e = record {
    state = ap (view make) h.display ∙ ap (λ x. after reads (view make d) (accepted x piece)) (sym h.answers);
    given = append_cancel_left (entries l) given [] (sym e ∙ ap entries h.list ∙ sym (append-nil (entries l))) ∙ ap (λ x. faults reads (view make d) (accepted x piece)) (sym h.answers);
  }

  calls_run : (d d' : Display P R) (es : List Event) (fs : List Fault) → Calls make reads d es fs d' → Run reads (view make d) es fs (view make d')
  calls_run d d' es fs none = record { state = refl; given = refl }
  calls_run d d' es fs (fed {es = es₁} {fs = fs₁} {d₁ = d₁} given piece l l' r before h e) =
      more reads (view make d) (view make d₁) (view make d') es₁ (accepted r piece) fs₁ given (calls_run d d₁ es₁ fs₁ before) (feeds_run (feed_cause piece l) d₁ d' given piece l l' r h e)
  calls_run d d' es fs (ticked {es = es₁} {fs = fs₁} {d₁ = d₁} r before h) =
      more reads (view make d) (view make d₁) (view make d') es₁ (tick ∷ []) fs₁ (fault_of r) (calls_run d d₁ es₁ fs₁ before)
      (record { state = h.state; given = h.fault ∙ sym (append-nil (reply reads tick (view make d₁)).faults) })
  calls_run d d' es fs (painted {d₁ = d₁} before h) =
      let r = calls_run d d₁ es fs before in
      let same : view make d' ≡ view make d₁ = λ i. record {
        reading = (h.controller i).listener.reading;
        core = core_of (h.controller i).machine;
        glass = laws.painting d₁.panel d'.panel h.panel i;
      } in
      record { state = same ∙ r.state; given = r.given }
  calls_run d d' es fs (asked q r before h) = calls_run d d' es fs before

  pub life_run : (p : Preset) (es : List Event) (fs : List Fault) (d : Display P R) → Life make reads p es fs d → Run reads (new reads p) es fs (view make d)
  life_run p es fs d life =
      let r = calls_run life.first d es fs life.calls in
      record { state = r.state ∙ ap (λ x. after reads x es) life.on.state; given = r.given ∙ ap (λ x. faults reads x es) life.on.state }

  -- a run that has come to s shows what comes after
  shows : (p : Preset) (es ps : List Event) (fs : List Fault) (d : Display P R) (s : State R) → after reads (new reads p) es ≡ s → Run reads (new reads p) (es ++ ps) fs (view make d) →
      Shows make reads s (faults reads (new reads p) es) ps fs d
  shows p es ps fs d s at r =
      let state = r.state ∙ after-append reads (new reads p) es ps ∙ ap (λ x. after reads x ps) at in
      record {
        state = state;
        glass = ap (λ x. x.glass) state;
        answers = λ q a h. h ∙ ap (λ x. answer x q) state;
        given = r.given ∙ faults-append reads (new reads p) es ps ∙ ap (λ x. faults reads (new reads p) es ++ faults reads x ps) at;
      }

  pub shown : Shown make reads
  shown p es fs d life = shows p [] es fs d (new reads p) refl (life_run p es fs d life)

  pub recalled : SetsLaws reads → Recalled make reads
  recalled rules p es rs ps fs d life bytes =
      shows p (es ++ rs) ps fs d (new reads p) (recalls reads rules p es rs bytes)
      (subst (λ x. Run reads (new reads p) x fs (view make d)) (sym (append_assoc es rs ps)) (life_run p (es ++ (rs ++ ps)) fs d life))

-- answers on what is alike
cell_alike : {R : Type 0} (s t : State R) → Alike s t → (x y : ℕ) (b c : Bool) → holds whole x y ≡ b → inside (window s.core) x y ≡ c → (Outside s.core (Cell x y) → ⊥) →
    answer s (Cell x y) ≡ answer t (Cell x y)
cell_alike s t al x y false c on in' out =
    let e = cond-false (holds whole x y) (Some (place x y)) None on in
    ap (cell_at s.glass) e ∙ sym (ap (cell_at t.glass) e)
cell_alike s t al x y true false on in' out = absurd (out (on, in'))
cell_alike s t al x y true true on in' out =
    let e = cond-true (holds whole x y) (Some (place x y)) None on in
    ap (cell_at s.glass) e
    ∙ ap (λ v. Ok (Answer.Cell v)) (al.inside (place x y) (inside_within (window s.core) x y in'))
    ∙ sym (ap (cell_at t.glass) e)

answers_alike : {R : Type 0} (s t : State R) → Alike s t → (q : Question) → (Outside s.core q → ⊥) → answer s q ≡ answer t q
answers_alike s t al (Cell x y) out = cell_alike s t al x y (holds whole x y) (inside (window s.core) x y) refl refl out
answers_alike s t al q out = ap (λ c. answer (record s { core = c }) q) al.core

module _ {P Q R : Type 0}
    (make : Make P) (laws : Laws make)
    (make' : Make Q) (laws' : Laws make')
    (reads : Reads R) (rules : SetsLaws reads) where
  -- two displays that show the same
  both : (s : State R) (hs hs' fs fs' : List Fault) (es : List Event) (a : Display P R) (b : Display Q R) →
      Shows make reads s hs es fs a → Shows make' reads s hs' es fs' b → Same make make' reads a b hs hs' fs fs'
  both s hs hs' fs fs' es a b x y = record {
    glass = x.glass ∙ sym y.glass;
    answers = λ q r r' h h'. x.answers q r h ∙ sym (y.answers q r' h');
    since = faults reads s es;
    left = x.given;
    right = y.given;
  }

  twins : Twins make make' reads
  twins p es fs fs' a b la lb = both (new reads p) [] [] fs fs' es a b (shown make laws reads p es fs a la) (shown make' laws' reads p es fs' b lb)

  rejoined : Rejoined make make' reads
  rejoined p es es' rs rs' ps fs fs' a b la lb ra rb =
      both (new reads p) _ _ fs fs' ps a b
      (recalled make laws reads rules p es rs ps fs a la ra) (recalled make' laws' reads rules p es' rs' ps fs' b lb rb)

  confined_lives : ConfinedLives make make' reads
  confined_lives p p' es es' ps fs fs' a b la lb al quiet =
      let s = after reads (new reads p) es in
      let t = after reads (new reads p') es' in
      let ra = life_run make laws reads p (es ++ ps) fs a la in
      let rb = life_run make' laws' reads p' (es' ++ ps) fs' b lb in
      let ea : view make a ≡ after reads s ps = ra.state ∙ after-append reads (new reads p) es ps in
      let eb : view make' b ≡ after reads t ps = rb.state ∙ after-append reads (new reads p') es' ps in
      let k = confined reads s t ps (after-length reads (new reads p) es ∙ sym (after-length reads (new reads p') es')) al quiet in
      let alike = subst (λ x. Alike (view make a) x) (sym eb) (subst (λ x. Alike x (after reads t ps)) (sym ea) k.alike) in
      record {
        alike = alike;
        left = subst (Keeps s) (sym ea) k.left;
        right = subst (Keeps t) (sym eb) k.right;
        answers = λ q r r' out h h'. h ∙ answers_alike (view make a) (view make' b) alike q out ∙ sym h';
        given = ra.given ∙ faults-append reads (new reads p) es ps;
        given' = rb.given ∙ faults-append reads (new reads p') es' ps ∙ ap (λ x. faults reads (new reads p') es' ++ x) (sym k.given);
      }

  pub history : History make make' reads
  history = record {
    shown = shown make laws reads;
    shown' = shown make' laws' reads;
    twins = twins;
    recalled = recalled make laws reads rules;
    recalled' = recalled make' laws' reads rules;
    rejoined = rejoined;
    confined = confined_lives;
  }

  -- what twins show, for one that compares them
  pub told : (a : Display P R) (b : Display Q R) (fs fs' : List Fault) (settings : Preset) (es : List Event) →
      Life make reads settings es fs a → Life make' reads settings es fs' b → Agree make make' a b × (fs ≡ fs')
  told a b fs fs' settings es la lb =
      let w = twins settings es fs fs' a b la lb in
      (λ q. w.answers q _ _ refl refl, w.left ∙ sym w.right)

-- While nothing turns, the display rests on the current window alone, and changes it alone.
use Rattle.std.proofs.Common.{◌≡◌, ℕ, true, false, ◌||◌, List, [], ◌∷◌, ◌++◌, length, get_or, Some, None, Ok, Option, Result, sym, refl, ap, ◌∙◌, subst}
use Rattle.std.proofs.lemmas.Bool.{cond_both, false≢true}
use Rattle.glass.specs.declared.area.Area.{Area}
use Rattle.glass.specs.declared.stroke.Stroke.{Stroke}
use Rattle.glass.specs.Drawn.{within, drawn, drawn_all}
use Rattle.commands.specs.declared.words.Command.{Command}
use Rattle.commands.specs.declared.outcome.ReadFault.{ReadFault}
use Rattle.commands.specs.Sets.{Reads}
use Rattle.terms.specs.declared.fault.Fault.{Fault}
use Rattle.state.specs.declared.listener.Item.{Item}
use Rattle.state.specs.declared.listener.Voice.{Voice}
use Rattle.state.specs.declared.listener.Voice.TheVariants.{Host, Macro}
use Rattle.state.specs.Heard.{heard_as}
use Rattle.state.specs.Reels.{is_playing}
use Rattle.state.specs.Tapes.{due}
use Rattle.state.specs.Core.{Core, window}
use Rattle.state.specs.Effects.{Effect}
use Rattle.state.specs.Model.{State, Event, byte, tick, Act, Response, did, heeded, obeyed, taken, drawn_by, takes, ended, ending, overflows, before, ticked, forgotten, played, respond, reply, next, after, faults, carried}
use Rattle.history.specs.Confined.{NoneTurns, Keeps, Alike, Confined}
use Rattle.panel.proofs.Glass.{drawn-length, drawn_out, drawn_same}
use Rattle.history.proofs.Runs.{drawn_all-length}
use Rattle.history.proofs.Framed.{On, Framed, framed, stays, refused, moves, renews, before_moved}

-- the window is still a, and no more than a is drawn
record Stays (a : Area) (e : Core) (ss : List Stroke) : Type 0 where
  window : window e ≡ a
  drawing : On a ss

-- as long as nothing turns
abbrev Calm : Area → Act → Type 0
Calm a x = NoneTurns x.carried → Stays a x.core (drawn_by x.answer)

did_calm : {d : Command} {c : Core} {e : Effect} → Framed d c e → Calm (window c) (did d e)
did_calm (stays e s w o) h = record { window = w; drawing = o }
did_calm (refused p t) h = record { window = ap window p; drawing = tt }
did_calm (moves l t) h = absurd (false≢true (sym h.0 ∙ t))
did_calm (renews t) h = absurd (false≢true (sym h.0 ∙ t))

obeyed_calm : (i : Result (Option Item) ReadFault) (c : Core) → Calm (window c) (obeyed i c)
obeyed_calm (Ok (Some i)) c =
    cond_both (c.selected || heeded i.voice i.command) _ _ (Calm (window c))
    (λ _. did_calm (framed i.voice i.command c)) (λ _ _. record { window = refl; drawing = tt })
obeyed_calm i c = λ h. record { window = refl; drawing = tt }

-- Strokes on one area.

on-append : (a : Area) (ss ts : List Stroke) → On a ss → On a ts → On a (ss ++ ts)
on-append a [] ts o q = q
on-append a (s ∷ ss) ts o q = (o.0, on-append a ss ts o.1 q)

all_out : (a : Area) (ss : List Stroke) (g : List ℕ) → On a ss → (k : ℕ) → within a k ≡ false → get_or (drawn_all ss g) k 0 ≡ get_or g k 0
all_out a [] g o k e = refl
all_out a (s ∷ ss) g o k e = all_out a ss (drawn s g) o.1 k e ∙ drawn_out s g k (ap (λ x. within x k) o.0 ∙ e)

-- two glasses hold the same inside an area
abbrev Inside : Area → List ℕ → List ℕ → Type 0
Inside a g h = (k : ℕ) → within a k ≡ true → get_or g k 0 ≡ get_or h k 0

all_same : (a : Area) (ss : List Stroke) (g h : List ℕ) → On a ss → length g ≡ length h → Inside a g h → Inside a (drawn_all ss g) (drawn_all ss h)
all_same a [] g h o l same = same
all_same a (s ∷ ss) g h o l same =
    all_same a ss (drawn s g) (drawn s h) o.1 (drawn-length s g ∙ l ∙ sym (drawn-length s h))
    (subst (λ x. Inside x g h → Inside x (drawn s g) (drawn s h)) o.0 (drawn_same s g h l) same)

none_parts : (cs ds : List Command) → NoneTurns (cs ++ ds) → NoneTurns cs × NoneTurns ds
none_parts [] ds h = (tt, h)
none_parts (c ∷ cs) ds h = let p = none_parts cs ds h.1 in ((h.0, p.0), p.1)

module _ {R : Type 0} (reads : Reads R) where
  abbrev If : Area → Response R → Type 0
  If a r = NoneTurns r.carried → Stays a r.core r.strokes

  -- a byte that is taken, after other strokes on the window
  takes_if : (v : Voice) (b : ℕ) (ss : List Stroke) (fs : List Fault) (r : R) (c : Core) (a : Area) → window c ≡ a → On a ss → If a (takes reads v b ss fs r c)
  takes_if v b ss fs r c a w o h =
      let t = taken reads v b r c in
      let s = subst (λ x. Stays x t.core (drawn_by t.answer)) w (obeyed_calm (heard_as v (reads.step r b).outcome) c h) in
      record { window = s.window; drawing = on-append a ss (drawn_by t.answer) o s.drawing }

  played_if : (o : Option ℕ) (r : R) (c : Core) → If (window c) (played reads o r c)
  played_if None r c = λ h. record { window = refl; drawing = tt }
  played_if (Some b) r c = takes_if Macro b [] [] r c (window c) refl tt

  respond_if : (e : Event) (r : R) (c : Core) → If (window c) (respond reads e r c)
  respond_if (byte b) r c =
      takes_if Host b (ending c) (overflows (ended c)) (forgotten reads r c) (before b c) (window c) (ap window (before_moved b c))
      (cond_both (is_playing c.tape.current) _ _ (On (window c)) (λ _. (refl, tt)) (λ _. tt))
  respond_if tick r c = played_if (due c.tape) r (ticked c)

  -- what an event keeps, and then others
  keeps : (s t : State R) (e : Event) → NoneTurns (reply reads e s).carried → Keeps (next reads s e) t → Keeps s t
  keeps s t e none h k w =
      let f = respond_if e s.reading s.core none in
      h k (ap (λ a. within a k) f.window ∙ w) ∙ all_out (window s.core) (reply reads e s).strokes s.glass f.drawing k w

  -- The reply to an event does not rest on the glass.
  same_reply : (s t : State R) (e : Event) → s.reading ≡ t.reading → s.core ≡ t.core → reply reads e s ≡ reply reads e t
  same_reply s t e o p = λ i. respond reads e (o i) (p i)

  -- So what a run leaves beside the glass, its faults and its commands do not either.
  pub core_after : (s t : State R) (es : List Event) → s.reading ≡ t.reading → s.core ≡ t.core →
      ((after reads s es).reading ≡ (after reads t es).reading) × ((after reads s es).core ≡ (after reads t es).core)
  core_after s t [] o p = (o, p)
  core_after s t (e ∷ es) o p =
      let r = same_reply s t e o p in
      core_after (next reads s e) (next reads t e) es (ap (λ x. x.reading) r) (ap (λ x. x.core) r)

  pub faults_after : (s t : State R) (es : List Event) → s.reading ≡ t.reading → s.core ≡ t.core → faults reads s es ≡ faults reads t es
  faults_after s t [] o p = refl
  faults_after s t (e ∷ es) o p =
      let r = same_reply s t e o p in
      λ i. (r i).faults ++ faults_after (next reads s e) (next reads t e) es (ap (λ x. x.reading) r) (ap (λ x. x.core) r) i

  pub carried_after : (s t : State R) (es : List Event) → s.reading ≡ t.reading → s.core ≡ t.core → carried reads s es ≡ carried reads t es
  carried_after s t [] o p = refl
  carried_after s t (e ∷ es) o p =
      let r = same_reply s t e o p in
      λ i. (r i).carried ++ carried_after (next reads s e) (next reads t e) es (ap (λ x. x.reading) r) (ap (λ x. x.core) r) i

  alike_next : (s t : State R) (e : Event) → length s.glass ≡ length t.glass → Alike s t → NoneTurns (reply reads e s).carried →
      Alike (next reads s e) (next reads t e)
  alike_next s t e l same none =
      let p = same_reply s t e same.reading same.core in
      let f = respond_if e s.reading s.core none in
      record {
        reading = ap (λ r. r.reading) p;
        core = ap (λ r. r.core) p;
        inside = λ k h.
            all_same (window s.core) (reply reads e s).strokes s.glass t.glass f.drawing l same.inside k (ap (λ a. within a k) (sym f.window) ∙ h)
            ∙ ap (λ r. get_or (drawn_all r.strokes t.glass) k 0) p;
      }

  pub confined : Confined reads
  confined s t [] l same none = record { alike = same; left = λ k w. refl; right = λ k w. refl; given = refl; window = refl }
  confined s t (e ∷ es) l same none =
      let a = reply reads e s in
      let p = same_reply s t e same.reading same.core in
      let calm = none_parts a.carried (carried reads (next reads s e) es) none in
      let rest =
      confined (next reads s e) (next reads t e) es
      (drawn_all-length a.strokes s.glass ∙ l ∙ sym (drawn_all-length (reply reads e t).strokes t.glass))
      (alike_next s t e l same calm.0) calm.1 in
      record {
        alike = rest.alike;
        left = keeps s (after reads s (e ∷ es)) e calm.0 rest.left;
        right = keeps t (after reads t (e ∷ es)) e (subst (λ r. NoneTurns r.carried) p calm.0) rest.right;
        given = faults_after s t (e ∷ es) same.reading same.core;
        window = rest.window ∙ (respond_if e s.reading s.core calm.0).window;
      }

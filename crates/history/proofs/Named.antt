-- By which names faults tell of the commands that were refused.
use Rattle.std.proofs.Common.{◌≡◌, ℕ, Bool, true, false, ◌||◌, ltb, List, [], ◌∷◌, length, Some, None, Ok, Err, Option, Result, All, sym, refl, ap, ◌∙◌}
use Rattle.std.proofs.lemmas.Bool.{cond_both}
use Rattle.std.proofs.lemmas.List.Elements.{All-nil, All-cons, All-same, All-append}
use Rattle.glass.specs.declared.stroke.Stroke.{Stroke}
use Rattle.panel.specs.Laws.{Make, Laws}
use Rattle.commands.specs.declared.words.Command.{Command}
use Rattle.commands.specs.declared.words.Dialect.{Dialect}
use Rattle.commands.specs.declared.words.Dialect.TheVariants.{EscPos}
use Rattle.commands.specs.declared.words.Name.{Name}
use Rattle.commands.specs.declared.words.Refusal.{Refusal}
use Rattle.commands.specs.declared.words.Refusal.TheVariants.{RecordingFull}
use Rattle.commands.specs.declared.outcome.Outcome.{Outcome}
use Rattle.commands.specs.declared.outcome.Outcome.TheVariants.{Complete}
use Rattle.commands.specs.declared.outcome.ReadFault.{ReadFault}
use Rattle.commands.specs.Sets.{Reads, SetsLaws, Bears}
use Rattle.terms.specs.declared.fault.DisplayFault.{DisplayFault}
use Rattle.terms.specs.declared.fault.Fault.{Fault}
use Rattle.terms.specs.declared.fault.Fault.TheVariants.{Said, Played}
use Rattle.state.specs.declared.controller.Strokes.{Strokes}
use Rattle.state.specs.declared.listener.Item.{Item}
use Rattle.state.specs.declared.listener.Voice.{Voice}
use Rattle.state.specs.declared.listener.Voice.TheVariants.{Host, Macro}
use Rattle.state.specs.declared.tape.Use.{Use}
use Rattle.state.specs.declared.tape.Use.TheVariants as used
use Rattle.state.specs.Heard.{heard_as}
use Rattle.state.specs.Tapes.{due, overflow_by}
use Rattle.state.specs.Core.{Core}
use Rattle.state.specs.Effects.{Effect}
use Rattle.state.specs.Model.{State, Event, byte, tick, Act, heeded, obeyed, taken, reported, recording, said, overflows, ended, before, ticked, forgotten, ending, takes, played, respond, reply, new, next, faults}
use Rattle.history.specs.Named.{IsNamedBy, IsNamed, Named}
use Rattle.history.proofs.Framed.{Framed, framed, refused}
use Rattle.history.proofs.Lived.{life_run}

module _ {R : Type 0} (reads : Reads R) (laws : SetsLaws reads) where
  abbrev names : Refusal → Name
  names = reads.names EscPos

  -- there is one set
  in_force : (o : Dialect) (d : Command) → Bears (reads.names o) d → Bears names d
  in_force EscPos d h = h

  -- an answer that is a fault bears the name
  abbrev Answers : Result Strokes DisplayFault → Type 0
  Answers (Ok s) = Unit {0}
  Answers (Err f) = IsNamedBy names f

  effect_named : {d : Command} {c : Core} {e : Effect} → Framed d c e → Bears names d → Answers e.answer
  effect_named (refused p t) h = t names h
  effect_named e h = tt

  -- and so does what is heard
  abbrev Heard : Result (Option Item) ReadFault → Type 0
  Heard (Ok (Some i)) = Bears names i.command
  Heard i = Unit {0}

  heard : (v : Voice) (o : Outcome) → ((d : Command) → o ≡ Complete d → Bears names d) → Heard (heard_as v o)
  heard v (Complete d) h = h d refl
  heard v o h = tt

  obeyed_named : (i : Result (Option Item) ReadFault) (c : Core) → Heard i → Answers (obeyed i c).answer
  obeyed_named (Ok (Some i)) c h =
      cond_both (c.selected || heeded i.voice i.command) _ _ (λ (a : Act). Answers a.answer)
      (λ _. effect_named (framed i.voice i.command c) h) (λ _. tt)
  obeyed_named i c h = tt

  abbrev AllNamed : List Fault → Type 0
  AllNamed = All (IsNamed names)

  none_named : AllNamed []
  none_named = All-nil (IsNamed names)

  one_named : (f : Fault) → IsNamed names f → AllNamed (f ∷ [])
  one_named f h = All-cons (IsNamed names) f [] h none_named

  reported_named : (v : Voice) (b : Bool) (a : Result Strokes DisplayFault) → Answers a → AllNamed (reported v b a)
  reported_named Host true (Err f) h = one_named (Said f) h
  reported_named Macro true (Err f) h = one_named (Played f) h
  reported_named v false (Err f) h = none_named
  reported_named v b (Ok s) h = none_named

  takes_named : (v : Voice) (b : ℕ) (ss : List Stroke) (fs : List Fault) (r : R) (c : Core) → AllNamed fs → AllNamed (takes reads v b ss fs r c).faults
  takes_named v b ss fs r c h =
      let o = (reads.step r b).outcome in
      let a = (taken reads v b r c).answer in
      All-append (IsNamed names) fs (reported v c.selected a) h (reported_named v c.selected a (obeyed_named (heard_as v o) c (heard v o (λ d e. in_force (reads.dialect r) d ((laws.rules r).bears b d e)))))

  played_named : (o : Option ℕ) (r : R) (c : Core) → AllNamed (played reads o r c).faults
  played_named None r c = none_named
  played_named (Some b) r c = takes_named Macro b [] [] r c none_named

  -- a recording that is too long
  full : recording ≡ names RecordingFull
  full = sym (ap (λ d. reads.names d RecordingFull) (sym (laws.starts EscPos)) ∙ (laws.rules (reads.rest EscPos)).full)

  overflow_named : (u : Use) (bs : List ℕ) → AllNamed (said (overflow_by u bs))
  overflow_named used.Recording bs = cond_both (ltb (length bs) 82) _ _ (λ o. AllNamed (said o)) (λ _. none_named) (λ _. one_named _ full)
  overflow_named u bs = none_named

  overflows_named : (c : Core) → AllNamed (overflows c)
  overflows_named c = cond_both c.selected _ _ AllNamed (λ _. overflow_named c.tape.current c.tape.bytes) (λ _. none_named)

  respond_named : (e : Event) (r : R) (c : Core) → AllNamed (respond reads e r c).faults
  respond_named (byte b) r c = takes_named Host b (ending c) (overflows (ended c)) (forgotten reads r c) (before b c) (overflows_named (ended c))
  respond_named tick r c = played_named (due c.tape) r (ticked c)

  faults_named : (s : State R) (es : List Event) → AllNamed (faults reads s es)
  faults_named s [] = none_named
  faults_named s (e ∷ es) =
      All-append (IsNamed names) (reply reads e s).faults (faults reads (next reads s e) es)
      (respond_named e s.reading s.core) (faults_named (next reads s e) es)

  pub named : {P : Type 0} (make : Make P) → Laws make → Named make reads
  named make panel p es fs d life =
      All-same (IsNamed names) fs (faults reads (new reads p) es) (life_run make panel reads p es fs d life).given (faults_named (new reads p) es)

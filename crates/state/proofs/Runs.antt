-- Runs joined, and how many faults an event gives.
use Rattle.std.proofs.Common.{◌≡◌, ℕ, ◌≤◌, Bool, true, false, cond, List, [], ◌∷◌, ◌++◌, length, Some, None, Ok, Err, Option, Result, sym, refl, ap, ◌∙◌, append_assoc, arith}
use Rattle.glass.specs.declared.stroke.Stroke.{Stroke}
use Rattle.glass.specs.Drawn.{drawn, drawn_all}
use Rattle.state.specs.declared.controller.Strokes.{Strokes}
use Rattle.terms.specs.declared.fault.DisplayFault.{DisplayFault}
use Rattle.commands.specs.declared.words.Refusal.{Refusal}
use Rattle.state.specs.declared.listener.Voice.{Voice}
use Rattle.state.specs.declared.listener.Voice.TheVariants.{Host, Macro}
use Rattle.std.proofs.lemmas.List.{length-append}
use Rattle.state.specs.Tapes.{due, overflow}
use Rattle.commands.specs.Sets.{Reads}
use Rattle.state.specs.Core.{Core}
use Rattle.state.specs.Model.{State, Event, byte, tick, next, after, faults, carried, reply, respond, reported, said, overflows, ended, before, played, ticked, taken, forgotten}

pub state_path : {R : Type 0} (s t : State R) → s.reading ≡ t.reading → s.core ≡ t.core → s.glass ≡ t.glass → s ≡ t
state_path s t o p q = λ i. record { reading = o i; core = p i; glass = q i }

pub drawn-append : (ss ts : List Stroke) (g : List ℕ) → drawn_all (ss ++ ts) g ≡ drawn_all ts (drawn_all ss g)
drawn-append [] ts g = refl
drawn-append (s ∷ ss) ts g = drawn-append ss ts (drawn s g)

reported_few : (v : Voice) (b : Bool) (r : Result Strokes DisplayFault) → length (reported v b r) ≤ 1
reported_few v b (Ok s) = omega arith
reported_few v true (Err f) = omega arith
reported_few v false (Err f) = omega arith

said_few : (o : Option Refusal) → length (said o) ≤ 1
said_few None = omega arith
said_few (Some f) = omega arith

overflows_few : (b : Bool) (o : Option Refusal) → length (cond b (said o) []) ≤ 1
overflows_few true o = said_few o
overflows_few false o = omega arith

module _ {R : Type 0} (reads : Reads R) where
  pub after-append : (s : State R) (es fs : List Event) → after reads s (es ++ fs) ≡ after reads (after reads s es) fs
  after-append s [] fs = refl
  after-append s (e ∷ es) fs = after-append (next reads s e) es fs

  pub faults-append : (s : State R) (es fs : List Event) → faults reads s (es ++ fs) ≡ faults reads s es ++ faults reads (after reads s es) fs
  faults-append s [] fs = refl
  faults-append s (e ∷ es) fs =
      ap (λ x. (reply reads e s).faults ++ x) (faults-append (next reads s e) es fs)
      ∙ sym (append_assoc (reply reads e s).faults (faults reads (next reads s e) es) (faults reads (after reads (next reads s e) es) fs))

  pub carried-append : (s : State R) (es fs : List Event) → carried reads s (es ++ fs) ≡ carried reads s es ++ carried reads (after reads s es) fs
  carried-append s [] fs = refl
  carried-append s (e ∷ es) fs =
      ap (λ x. (reply reads e s).carried ++ x) (carried-append (next reads s e) es fs)
      ∙ sym (append_assoc (reply reads e s).carried (carried reads (next reads s e) es) (carried reads (after reads (next reads s e) es) fs))

  played_few : (o : Option ℕ) (r : R) (c : Core) → length (played reads o r c).faults ≤ 1
  played_few None r c = omega arith
  played_few (Some b) r c = reported_few Macro c.selected (taken reads Macro b r c).answer

  -- a tick gives at most one fault
  pub tick_fault : (r : R) (c : Core) → length (respond reads tick r c).faults ≤ 1
  tick_fault r c = played_few (due c.tape) r (ticked c)

  -- and a byte at most two
  pub few_faults : (e : Event) (r : R) (c : Core) → length (respond reads e r c).faults ≤ 2
  few_faults (byte b) r c =
      let k = before b c in
      let a = (taken reads Host b (forgotten reads r c) k).answer in
      omega (
        arith,
        length-append (overflows (ended c)) (reported Host k.selected a),
        overflows_few (ended c).selected (overflow (ended c).tape),
        reported_few Host k.selected a,
      )
  few_faults tick r c = omega (arith, tick_fault r c)

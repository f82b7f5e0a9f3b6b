-- The short way of a byte: what it amounts to where it is only read.
use Rattle.std.proofs.Common.{◌≡◌, ℕ, Bool, true, cond, ◌||◌, [], ◌∷◌, Some, None, Ok, Option, sym, refl, ap, ◌∙◌, subst}
use Rattle.glass.specs.Drawn.{drawn_all}
use Rattle.list.specs.declared.list.BoundedList.{BoundedList}
use Rattle.panel.specs.Laws.{Make, Laws, none}
use Rattle.panel.specs.Steps.{written}
use Rattle.panel.proofs.Glass.{drawn_cell}
use Rattle.commands.specs.declared.words.Name.{Name}
use Rattle.commands.specs.declared.words.Command.TheVariants.{Character, GoTo}
use Rattle.glass.specs.declared.frame.GlassPosition.{GlassPosition}
use Rattle.commands.specs.declared.words.Mark.{Mark}
use Rattle.commands.specs.declared.outcome.Outcome.{Outcome}
use Rattle.commands.specs.declared.outcome.Outcome.TheVariants.{Complete}
use Rattle.commands.specs.Sets.{Reads}
use Rattle.terms.specs.declared.fault.Fault.{Fault}
use Rattle.state.specs.declared.listener.Voice.TheVariants.{Host}
use Rattle.state.specs.Cells.{built_in}
use Rattle.state.specs.Heard.{heard_as}
use Rattle.state.specs.Core.{Core, window}
use Rattle.state.specs.Effects.{stroke, effect, no_strokes}
use Rattle.glass.specs.declared.stroke.Ink.TheVariants.{Write}
use Rattle.state.specs.Layouts.{cursor_of}
use Rattle.commands.specs.declared.words.Command.{Command}
use Rattle.state.specs.Core.{core_of}
use Rattle.state.specs.Model.{State, Act, byte, next, reply, obeyed, drawn_by, reported, did, idle, heeded}
use Rattle.state.specs.Shorts.{typed_on, Calm, PutsOnly}
use Rattle.state.proofs.Runs.{state_path}
use Rattle.state.specs.declared.controller.Controller.{Controller}
use Rattle.display.specs.declared.engine.Display.{Display}
use Rattle.display.specs.Calls.{view, Grown, Puts, CarriesOut, Takes}
use Rattle.display.proofs.Fed.{grown_none}

module _ {R : Type 0} (reads : Reads R) where
  abbrev pub act_on : Outcome → State R → Act
  act_on o s = obeyed (heard_as Host o) s.core

  -- the state after an outcome, where the reading is then q
  abbrev pub answered : Outcome → R → State R → State R
  answered o q s = record {
    reading = q;
    core = (act_on o s).core;
    glass = drawn_all (drawn_by (act_on o s).answer) s.glass;
  }

  -- it is the state after the byte
  pub read_state : (s : State R) (b : ℕ) → Calm reads s.core → answered (reads.step s.reading b).outcome (reads.step s.reading b).next s ≡ next reads s (byte b)
  read_state s b h = ap (λ t. record { reading = t.reading; core = t.core; glass = drawn_all t.strokes s.glass }) (sym (h b s.reading))

  pub read_faults : (s : State R) (b : ℕ) → Calm reads s.core →
      reported Host s.core.selected (act_on (reads.step s.reading b).outcome s).answer ≡ (reply reads (byte b) s).faults
  read_faults s b h = ap (λ t. t.faults) (sym (h b s.reading))

  -- nothing but the reading changes
  pub only_read : (o : Outcome) (q : R) (s : State R) → obeyed (heard_as Host o) s.core ≡ idle s.core →
      record { reading = q; core = s.core; glass = s.glass } ≡ answered o q s
  only_read o q s h =
      state_path _ _ refl (ap (λ a. a.core) (sym h))
      (ap (λ a. drawn_all (drawn_by a.answer) s.glass) (sym h))

-- what a character that is only put leaves and draws
abbrev typed : Command → ℕ → Option Mark → Core → Act
typed d n m k = record {
  core = typed_on k;
  answer = Ok (record { first = Some (stroke (window k) (Write (cursor_of k.layout) (built_in n k.pen m))); second = None });
  carried = d ∷ [];
}

-- a command that is carried out while the display is selected, or not
abbrev obeyed_in : Bool → Command → Core → Act
obeyed_in b d k = cond (b || heeded Host d) (did d (effect Host d k)) (idle k)

pub typed_written : (k : Core) (m : Option Mark) (n : ℕ) → k.selected ≡ true → PutsOnly k → obeyed (heard_as Host (Complete (Character n m))) k ≡ typed (Character n m) n m k
typed_written k m n u w = ap (λ b. obeyed_in b (Character n m) k) u ∙ ap (did (Character n m)) (w.types n m)

module _ {P R : Type 0} (make : Make P) (laws : Laws make) (reads : Reads R) where
  -- a byte that is only read
  pub read_takes : (d : Display P R) (h : Controller R) (b : ℕ) (l : BoundedList Fault) → Calm reads (core_of d.controller.machine) →
      h.listener.reading ≡ (reads.step d.controller.listener.reading b).next → h.machine ≡ d.controller.machine →
      obeyed (heard_as Host (reads.step d.controller.listener.reading b).outcome) (core_of d.controller.machine) ≡ idle (core_of d.controller.machine) →
      Takes make reads d b l (record { panel = d.panel; controller = h }) l
  read_takes d h b l calm r m e =
      let s = view make d in
      let t = reads.step s.reading b in
      record {
        state = state_path _ _ r (ap core_of m) refl ∙ only_read reads t.outcome t.next s e ∙ read_state reads s b calm;
        grown = subst (λ fs. Grown l fs l) (ap (λ a. reported Host s.core.selected a.answer) (sym e) ∙ read_faults reads s b calm) (grown_none l);
        reached = none;
      }

  -- a byte that writes a character, and does nothing else
  pub put_takes : (d : Display P R) (h : Controller R) (d' : Display P R) (b : ℕ) (l : BoundedList Fault) (c : Command) (n : ℕ) (m : Option Mark) →
      Calm reads (core_of d.controller.machine) → PutsOnly (core_of d.controller.machine) →
      h.listener.reading ≡ (reads.step d.controller.listener.reading b).next → h.machine ≡ d.controller.machine →
      obeyed (heard_as Host (reads.step d.controller.listener.reading b).outcome) (core_of d.controller.machine) ≡ typed c n m (core_of d.controller.machine) →
      Puts make n m (record { panel = d.panel; controller = h }) d' → Takes make reads d b l d' l
  put_takes d h d' b l c n m calm w r same e put =
      let s = view make d in
      let k = s.core in
      let t = reads.step s.reading b in
      record {
        state =
            state_path _ (answered reads t.outcome t.next s)
            (put.reading ∙ r)
            (put.core ∙ ap (λ x. typed_on (core_of x)) same ∙ ap (λ a. a.core) (sym e))
            (put.cells ∙ ap (λ x. written (core_of x).layout.column (core_of x).layout.row (built_in n x.pen m) s.glass) same
            ∙ drawn_cell (window k) k.layout.column k.layout.row (built_in n k.pen m) s.glass (laws.forty d.panel) w.inside
            ∙ ap (λ a. drawn_all (drawn_by a.answer) s.glass) (sym e))
            ∙ read_state reads s b calm;
        grown = subst (λ fs. Grown l fs l) (ap (λ a. reported Host k.selected a.answer) (sym e) ∙ read_faults reads s b calm) (grown_none l);
        reached = put.reached;
      }

  -- a byte that is not read yet
  pub unread : (d : Display P R) (h : Controller R) (d' : Display P R) (b : ℕ) (l l' : BoundedList Fault) → h.listener.reading ≡ d.controller.listener.reading → h.machine ≡ d.controller.machine →
      Takes make reads (record { panel = d.panel; controller = h }) b l d' l' → Takes make reads d b l d' l'
  unread d h d' b l l' r m t =
      let e : view make (record { panel = d.panel; controller = h }) ≡ view make d = state_path _ _ r (ap core_of m) refl in
      record {
        state = t.state ∙ ap (λ s. next reads s (byte b)) e;
        grown = subst (λ s. Grown l (reply reads (byte b) s).faults l') e t.grown;
        reached = t.reached;
      }

  -- a byte that ends a command that draws nothing
  pub moves_takes : (d : Display P R) (h : Controller R) (b : ℕ) (l : BoundedList Fault) (a : Act) → Calm reads (core_of d.controller.machine) →
      obeyed (heard_as Host (reads.step d.controller.listener.reading b).outcome) (core_of d.controller.machine) ≡ a →
      a.answer ≡ Ok no_strokes → h.listener.reading ≡ (reads.step d.controller.listener.reading b).next → core_of h.machine ≡ a.core →
      Takes make reads d b l (record { panel = d.panel; controller = h }) l
  moves_takes d h b l a calm e quiet r m =
      let s = view make d in
      let k = s.core in
      let t = reads.step s.reading b in
      record {
        state =
            state_path _ (answered reads t.outcome t.next s)
            r
            (m ∙ ap (λ x. x.core) (sym e))
            (ap (λ x. drawn_all (drawn_by x) s.glass) (sym quiet) ∙ ap (λ x. drawn_all (drawn_by x.answer) s.glass) (sym e))
            ∙ read_state reads s b calm;
        grown = subst (λ fs. Grown l fs l) (ap (λ x. reported Host k.selected x) (sym quiet) ∙ ap (λ x. reported Host k.selected x.answer) (sym e) ∙ read_faults reads s b calm) (grown_none l);
        reached = none;
      }

  -- a byte that ends a command, which is then carried out
  pub carries_takes : (d : Display P R) (h : Controller R) (d' : Display P R) (b : ℕ) (l l' : BoundedList Fault) (o : Command) → Calm reads (core_of d.controller.machine) →
      (reads.step d.controller.listener.reading b).outcome ≡ Complete o → h.listener.reading ≡ (reads.step d.controller.listener.reading b).next →
      core_of h.machine ≡ core_of d.controller.machine → CarriesOut make reads o (record { panel = d.panel; controller = h }) l d' l' → Takes make reads d b l d' l'
  carries_takes d h d' b l l' o calm ends r m out =
      let s = view make d in
      let t = reads.step s.reading b in
      let f : Core → R → State R = λ k q. record {
        reading = q;
        core = (obeyed (heard_as Host (Complete o)) k).core;
        glass = drawn_all (drawn_by (obeyed (heard_as Host (Complete o)) k).answer) s.glass;
      } in
      record {
        state =
            out.state ∙ ap (λ k. f k h.listener.reading) m ∙ ap (λ q. f s.core q) r ∙ ap (λ x. answered reads x t.next s) (sym ends)
            ∙ read_state reads s b calm;
        grown =
            subst (λ fs. Grown l fs l')
            (ap (λ k. reported Host k.selected (obeyed (heard_as Host (Complete o)) k).answer) m
            ∙ ap (λ x. reported Host s.core.selected (act_on reads x s).answer) (sym ends) ∙ read_faults reads s b calm)
            out.grown;
        reached = out.reached;
      }

pub going_on : (k : Core) (p : GlassPosition) (n : Name) → k.selected ≡ true → obeyed (heard_as Host (Complete (GoTo p n))) k ≡ did (GoTo p n) (effect Host (GoTo p n) k)
going_on k p n u = ap (λ b. obeyed_in b (GoTo p n) k) u

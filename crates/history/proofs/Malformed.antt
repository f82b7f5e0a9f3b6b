-- Malformed and refused commands leave nothing behind but a fault.
use Rattle.std.proofs.Common.{◌≡◌, ℕ, false, List, [], ◌++◌, None, Err, sym, refl, ap, ◌∙◌, subst}
use Rattle.std.proofs.lemmas.List.{append-nil}
use Rattle.std.proofs.lemmas.Bool.{cond_both, cond-false, true≢false}
use Rattle.glass.specs.declared.stroke.Stroke.{Stroke}
use Rattle.commands.specs.declared.words.Command.{Command}
use Rattle.commands.specs.declared.outcome.Outcome.TheVariants.{Faulty}
use Rattle.commands.specs.declared.outcome.ReadFault.{ReadFault}
use Rattle.commands.specs.Items.{ends}
use Rattle.commands.specs.Sets.{Reads, SetsLaws}
use Rattle.terms.specs.declared.fault.DisplayFault.{DisplayFault}
use Rattle.terms.specs.declared.fault.Fault.{Fault}
use Rattle.state.specs.declared.listener.Voice.{Voice}
use Rattle.state.specs.declared.listener.Voice.TheVariants.{Host, Macro}
use Rattle.state.specs.declared.tape.Use.{Use}
use Rattle.state.specs.declared.tape.Use.TheVariants as used
use Rattle.state.specs.Heard.{heard_as}
use Rattle.state.specs.Reels.{is_playing, is_recording}
use Rattle.state.specs.Tapes.{due_by, stored_by, overflow_by, wound_by}
use Rattle.state.specs.Core.{Core}
use Rattle.state.specs.Effects.{Effect}
use Rattle.state.specs.Lamps.{lamp_ticked}
use Rattle.state.specs.Model.{byte, obeyed, drawn_by, reported, said, ended, ending, overflows, kept, before, ticked, forgotten, takes, played, respond}
use Rattle.history.specs.Malformed.{Dropped, Spared, Malformed}
use Rattle.history.proofs.Framed.{Framed, framed, refused, before_moved}

refused_same : {d : Command} {c : Core} {e : Effect} → Framed d c e → (f : DisplayFault) → e.answer ≡ Err f → e.core ≡ c
refused_same (refused p t) f h = p
refused_same e f h = cc

spares : (b : ℕ) (c : Core) → Spared c (before b c)
spares b c = let e = before_moved b c in record {
  settings = ap (λ x. x.settings) e;
  windows = ap (λ x. x.layout.slots) e;
  current = ap (λ x. x.layout.current) e;
  modes = ap (λ x. x.pen) e;
  shown = ap (λ x. x.shown) e;
  brightness = ap (λ x. x.brightness) e;
  lamp = ap (λ x. x.lamp) e;
  selected = ap (λ x. x.selected) e;
  users = ap (λ x. x.users) e;
}

-- a playback is not ended where there is none
not_ended : (c : Core) → is_playing c.tape.current ≡ false → ended c ≡ c
not_ended c h = cond-false (is_playing c.tape.current) _ c h

-- then a byte changes the tape alone
stays_still : (b : ℕ) (c : Core) → is_playing c.tape.current ≡ false → before b c ≡ record c { tape = (before b c).tape }
stays_still b c h =
    subst (λ x. kept b x ≡ record c { tape = (kept b x).tape }) (sym (not_ended c h))
    (cond_both c.selected _ _ (λ x. x ≡ record c { tape = x.tape }) (λ _. refl) (λ _. refl))

-- a tape that does not record
records_none : (u : Use) (bs : List ℕ) (b : ℕ) → is_recording u ≡ false →
    (stored_by u bs b ≡ record { current = u; bytes = bs }) × (overflow_by u bs ≡ None)
records_none used.Recording bs b h = absurd (true≢false h)
records_none u bs b h = (refl, refl)

-- a tape that does not play
winds_none : (u : Use) (bs : List ℕ) → is_playing u ≡ false →
    (due_by u bs ≡ None) × (wound_by u bs ≡ record { current = u; bytes = bs })
winds_none (used.Playing n m w k) bs h = absurd (true≢false h)
winds_none u bs h = (refl, refl)

does_none : (b : ℕ) (c : Core) → is_playing c.tape.current ≡ false → is_recording c.tape.current ≡ false → before b c ≡ c
does_none b c h r =
    ap (kept b) (not_ended c h)
    ∙ cond_both c.selected _ _ (λ x. x ≡ c) (λ _. ap (λ t. record c { tape = t }) (records_none c.tape.current c.tape.bytes b r).0) (λ _. refl)

says_none : (b : ℕ) (c : Core) → is_playing c.tape.current ≡ false → is_recording c.tape.current ≡ false → overflows (ended c) ≡ []
says_none b c h r =
    ap overflows (not_ended c h)
    ∙ cond_both c.selected _ _ (λ (x : List Fault). x ≡ []) (λ _. ap said (records_none c.tape.current c.tape.bytes b r).1) (λ _. refl)

module _ {R : Type 0} (reads : Reads R) (laws : SetsLaws reads) where
  -- read where q was being read, or at rest in its set
  drops : (v : Voice) (q r : R) (b : ℕ) (ss : List Stroke) (fs : List Fault) (c : Core) (f : ReadFault) → reads.dialect r ≡ reads.dialect q →
      (reads.step r b).outcome ≡ Faulty f → Dropped reads v q c ss fs f (takes reads v b ss fs r c)
  drops v q r b ss fs c f d e = record {
    reading = (laws.rules r).rests b (ap ends e) ∙ ap reads.rest d;
    core = ap (λ o. (obeyed (heard_as v o) c).core) e;
    strokes = ap (λ o. ss ++ drawn_by (obeyed (heard_as v o) c).answer) e ∙ append-nil ss;
    carried = ap (λ o. (obeyed (heard_as v o) c).carried) e;
    faults = ap (λ o. fs ++ reported v c.selected (obeyed (heard_as v o) c).answer) e;
  }

  same_set : (q : R) (c : Core) → reads.dialect (forgotten reads q c) ≡ reads.dialect q
  same_set q c = cond_both (is_playing c.tape.current) _ _ (λ r. reads.dialect r ≡ reads.dialect q) (λ _. laws.starts (reads.dialect q)) (λ _. refl)

  -- where nothing plays, no half-read command is forgotten
  finds : (q : R) (c : Core) → is_playing c.tape.current ≡ false → forgotten reads q c ≡ q
  finds q c h = cond-false (is_playing c.tape.current) _ q h

  -- where nothing plays or records, the byte is read in the state that it finds
  simply : (b : ℕ) (q : R) (c : Core) → is_playing c.tape.current ≡ false → is_recording c.tape.current ≡ false →
      respond reads (byte b) q c ≡ takes reads Host b [] [] q c
  simply b q c h r =
      let a = cond-false (is_playing c.tape.current) _ [] h in
      λ i. takes reads Host b (a i) (says_none b c h r i) (finds q c h i) (does_none b c h r i)

  pub malformed : Malformed reads
  malformed = record {
    dropped = λ q c b f e. drops Host q (forgotten reads q c) b (ending c) (overflows (ended c)) (before b c) f (same_set q c) e;
    plain = λ q c b f h r e. subst (Dropped reads Host q c [] [] f) (sym (simply b q c h r)) (drops Host q q b [] [] c f refl e);
    played = λ q c b f h e. subst (λ o. Dropped reads Macro q (ticked c) [] [] f (played reads o q (ticked c))) (sym h) (drops Macro q q b [] [] (ticked c) f refl e);
    spared = spares;
    still = stays_still;
    none = does_none;
    found = finds;
    ticking = λ c. refl;
    silent = λ c h. ap (λ t. record c { lamp = lamp_ticked c.lamp; tape = t }) (winds_none c.tape.current c.tape.bytes h).1;
    waits = λ q c h. ap (λ o. (played reads o q (ticked c)).reading) h;
    brings = λ q c b h. ap (λ o. played reads o q (ticked c)) h;
    quiet = λ c h. (winds_none c.tape.current c.tape.bytes h).0;
    refused = λ v d c f h. refused_same (framed v d c) f h;
  }

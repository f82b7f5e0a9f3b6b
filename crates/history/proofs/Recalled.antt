-- After the recall a display is new, whatever came before: from the laws of its command sets alone.
use Rattle.std.proofs.Common.{◌≡◌, ℕ, Bool, true, false, ◌||◌, leb, ltb, List, [], ◌∷◌, ◌++◌, length, Some, None, Ok, Option, Result, sym, refl, ap, ◌∙◌, subst}
use Rattle.std.proofs.Math.Bool.{or-true}
use Rattle.std.proofs.lemmas.Bool.{cond_both, cond-true, cond-false, true≢false}
use Rattle.glass.specs.Drawn.{drawn_all}
use Rattle.panel.proofs.Glass.{blank_whole}
use Rattle.commands.specs.declared.words.Dialect.{Dialect}
use Rattle.commands.specs.declared.words.Dialect.TheVariants.{EscPos}
use Rattle.commands.specs.declared.words.Mode.{Mode}
use Rattle.commands.specs.declared.words.Mode.TheVariants.{Horizontal}
use Rattle.commands.specs.declared.words.Command.{Command}
use Rattle.commands.specs.declared.words.Command.TheVariants.{Character, Define, Select, Initialize}
use Rattle.commands.specs.declared.outcome.ReadFault.{ReadFault}
use Rattle.commands.specs.declared.outcome.Outcome.{Outcome}
use Rattle.commands.specs.declared.outcome.Outcome.TheVariants.{Pending, Complete, Partial}
use Rattle.commands.specs.Items.{ends}
use Rattle.commands.specs.Sets.{Reads, SetsLaws, Says, run, six, to}
use Rattle.terms.specs.Presets.{Preset}
use Rattle.state.specs.declared.listener.Item.{Item}
use Rattle.state.specs.declared.listener.Voice.{Voice}
use Rattle.state.specs.declared.listener.Voice.TheVariants.{Host, Macro}
use Rattle.state.specs.declared.tape.Use.{Use}
use Rattle.state.specs.declared.tape.Use.TheVariants.{Recording, Playing}
use Rattle.state.specs.Heard.{heard_as}
use Rattle.state.specs.Lamps.{lamp_ticked}
use Rattle.state.specs.Reels.{is_playing}
use Rattle.state.specs.Tapes.{Reel, stored_by, stopped_by, is_last, wound_by, due, due_by}
use Rattle.state.specs.Core.{Core}
use Rattle.state.specs.Effects.{writes, effect}
use Rattle.state.specs.Model.{State, Event, byte, tick, Act, heeded, obeyed, drawn_by, ended, ending, before, ticked, forgotten, played, reply, new, next, after, bytes_of}
use Rattle.state.proofs.Runs.{after-append}
use Rattle.history.specs.Recall.{recall, Recalls}
use Rattle.history.proofs.Runs.{drawn_all-length}

-- What is carried out keeps the settings.
written : (m : Mode) (c : Core) (v : ℕ) → (writes m c v).core.settings ≡ c.settings
written Horizontal c v = refl
written m c v = refl

effect_settings : (v : Voice) (d : Command) (c : Core) → (effect v d c).core.settings ≡ c.settings
effect_settings v (Character n m) c = written c.pen.mode c _
effect_settings Host d c = refl
effect_settings Macro d c = refl

obeyed_settings : (h : Result (Option Item) ReadFault) (c : Core) → (obeyed h c).core.settings ≡ c.settings
obeyed_settings (Ok (Some i)) c =
    cond_both (c.selected || heeded i.voice i.command) _ _ (λ (a : Act). a.core.settings ≡ c.settings)
    (λ _. effect_settings i.voice i.command c) (λ _. refl)
obeyed_settings h c = refl

-- What plays ends with a host byte, and with nothing else that tapes do by themselves.
abbrev playing : Core → Bool
playing c = is_playing c.tape.current

stopped_plays : (u : Use) (bs : List ℕ) → is_playing (stopped_by u bs).current ≡ false
stopped_plays (Playing n m w k) bs = refl
stopped_plays u bs = refl

stored_plays : (u : Use) (bs : List ℕ) (b : ℕ) → is_playing (stored_by u bs b).current ≡ is_playing u
stored_plays Recording bs b = cond_both (ltb (length bs) 82) _ _ (λ (x : Reel). is_playing x.current ≡ false) (λ _. refl) (λ _. refl)
stored_plays u bs b = refl

wound_plays : (u : Use) (bs : List ℕ) → is_playing (wound_by u bs).current ≡ is_playing u
wound_plays (Playing n m w k) bs =
    cond_both (leb w 1) _ _ (λ (x : Reel). is_playing x.current ≡ true)
    (λ _. cond_both (is_last k bs) _ _ (λ x. is_playing x ≡ true) (λ _. refl) (λ _. refl)) (λ _. refl)
wound_plays u bs = refl

-- what does not play is left alone by ticks
still : (u : Use) (bs : List ℕ) → is_playing u ≡ false → (due_by u bs ≡ None) × (wound_by u bs ≡ record { current = u; bytes = bs })
still (Playing n m w k) bs h = absurd (true≢false h)
still u bs h = (refl, refl)

-- a host byte is read with nothing playing, by the same settings, and as selected as before
record Kept (c e : Core) : Type 0 where
  settings : e.settings ≡ c.settings
  selected : e.selected ≡ c.selected
  silent : playing e ≡ false

ended_kept : (c : Core) → Kept c (ended c)
ended_kept c =
    cond_both (playing c) _ _ (Kept c)
    (λ _. record { settings = refl; selected = refl; silent = stopped_plays c.tape.current c.tape.bytes })
    (λ h. record { settings = refl; selected = refl; silent = h })

before_kept : (b : ℕ) (c : Core) → Kept c (before b c)
before_kept b c =
    let e = ended c in
    let k = ended_kept c in
    cond_both e.selected _ _ (Kept c)
    (λ _. record { settings = k.settings; selected = k.selected; silent = stored_plays e.tape.current e.tape.bytes b ∙ k.silent }) (λ _. k)

-- there is one set
only : (d : Dialect) → d ≡ EscPos
only EscPos = refl

module _ {R : Type 0} (reads : Reads R) (laws : SetsLaws reads) where
  abbrev home : R
  home = reads.rest EscPos

  rested : (q : R) → reads.rest (reads.dialect q) ≡ home
  rested q = ap reads.rest (only (reads.dialect q))

  ended_home : (q : R) (b : ℕ) → ends (reads.step q b).outcome ≡ true → (reads.step q b).next ≡ home
  ended_home q b e = (laws.rules q).rests b e ∙ rested q

  -- The reading that the host's next byte finds.
  abbrev host : State R → R
  host s = forgotten reads s.reading s.core

  playing_home : (q : R) (c : Core) → playing c ≡ true → forgotten reads q c ≡ home
  playing_home q c h = cond-true (playing c) _ q h ∙ rested q

  resting_home : (q : R) (c : Core) → q ≡ home → forgotten reads q c ≡ home
  resting_home q c e = cond_both (playing c) _ _ (λ x. x ≡ home) (λ _. rested q) (λ _. e)

  -- Only where an item ends can what is carried out begin or end a playback, and there the reading is at rest.
  obeyed_host : (v : Voice) (q : R) (o : Outcome) (c : Core) → (ends o ≡ true → q ≡ home) → forgotten reads q (obeyed (heard_as v o) c).core ≡ forgotten reads q c
  obeyed_host v q (Complete d) c e = resting_home q (obeyed (heard_as v (Complete d)) c).core (e refl) ∙ sym (resting_home q c (e refl))
  obeyed_host v q (Partial n bs) c e =
      cond_both (c.selected || heeded v (Define n bs)) _ _ (λ (a : Act). forgotten reads q a.core ≡ forgotten reads q c) (λ _. refl) (λ _. refl)
  obeyed_host v q o c e = refl

  -- So what the host's bytes are read as hangs on nothing but these bytes.
  host_byte : (s : State R) (b : ℕ) → host (next reads s (byte b)) ≡ (reads.step (host s) b).next
  host_byte s b =
      let t = reads.step (host s) b in
      let c = before b s.core in
      obeyed_host Host t.next t.outcome c (ended_home (host s) b) ∙ cond-false (playing c) _ t.next (before_kept b s.core).silent

  played_home : (o : Option ℕ) (q : R) (c : Core) → playing c ≡ true → forgotten reads (played reads o q c).reading (played reads o q c).core ≡ home
  played_home None q c h = playing_home q c h
  played_home (Some b) q c h =
      let t = reads.step q b in
      obeyed_host Macro t.next t.outcome c (ended_home q b) ∙ playing_home t.next c h

  -- while nothing plays, a tick moves the lamp alone
  silent_tick : (s : State R) → playing s.core ≡ false → next reads s tick ≡ record s { core = record s.core { lamp = lamp_ticked s.core.lamp } }
  silent_tick s h =
      let e = still s.core.tape.current s.core.tape.bytes h in
      λ i. let r = played reads (e.0 i) s.reading (record s.core { lamp = lamp_ticked s.core.lamp; tape = e.1 i }) in
      record { reading = r.reading; core = r.core; glass = drawn_all r.strokes s.glass }

  host_tick : (s : State R) → host (next reads s tick) ≡ host s
  host_tick s =
      let t = s.core.tape in
      cond_both (playing s.core) s s (λ _. host (next reads s tick) ≡ host s)
      (λ h. played_home (due t) s.reading (ticked s.core) (wound_plays t.current t.bytes ∙ h) ∙ sym (playing_home s.reading s.core h))
      (λ h. ap host (silent_tick s h))

  -- what holds of a display all along
  record Well (p : Preset) (s : State R) : Type 0 where
    settings : s.core.settings ≡ p
    forty : length s.glass ≡ 40

  played_settings : (o : Option ℕ) (q : R) (c : Core) → (played reads o q c).core.settings ≡ c.settings
  played_settings None q c = refl
  played_settings (Some b) q c = obeyed_settings (heard_as Macro (reads.step q b).outcome) c

  next_settings : (s : State R) (e : Event) → (next reads s e).core.settings ≡ s.core.settings
  next_settings s (byte b) = obeyed_settings (heard_as Host (reads.step (host s) b).outcome) (before b s.core) ∙ (before_kept b s.core).settings
  next_settings s tick = played_settings (due s.core.tape) s.reading (ticked s.core)

  well_next : (p : Preset) (s : State R) (e : Event) → Well p s → Well p (next reads s e)
  well_next p s e h = record { settings = next_settings s e ∙ h.settings; forty = drawn_all-length (reply reads e s).strokes s.glass ∙ h.forty }

  well_after : (p : Preset) (s : State R) (es : List Event) → Well p s → Well p (after reads s es)
  well_after p s [] h = h
  well_after p s (e ∷ es) h = well_after p (next reads s e) es (well_next p s e h)

  module _ (p : Preset) where
    -- events with these bytes make each display new of which P holds
    abbrev Renews : (State R → Type 0) → List ℕ → Type 0
    Renews P bs = (s : State R) (es : List Event) → Well p s → P s → bytes_of es ≡ bs → after reads s es ≡ new reads p

    no_byte : Renews (λ s. s ≡ new reads p) []
    no_byte s [] w h e = h
    no_byte s (tick ∷ es) w h e = no_byte (next reads s tick) es (well_next p s tick w) (ap (λ x. next reads x tick) h) e
    no_byte s (byte b ∷ es) w h e = absurd (cc)

    -- ticks keep P, and the first byte makes Q of it
    one_byte : (P Q : State R → Type 0) (b : ℕ) (bs : List ℕ) → ((s : State R) → P s → P (next reads s tick)) →
        ((s : State R) → Well p s → P s → Q (next reads s (byte b))) → Renews Q bs → Renews P (b ∷ bs)
    one_byte P Q b bs t k later s [] w h e = absurd (cc)
    one_byte P Q b bs t k later s (tick ∷ es) w h e = one_byte P Q b bs t k later (next reads s tick) es (well_next p s tick w) (t s h) e
    one_byte P Q b bs t k later s (byte a ∷ es) w h e =
        let same : b ≡ a = cc in
        later (next reads s (byte a)) es (well_next p s (byte a) w) (subst (λ x. Q (next reads s (byte x))) same (k s w h)) (cc)

    -- the host's bytes have been read so far
    abbrev At : R → State R → Type 0
    At q s = host s ≡ q

    reads_on : (q : R) (bs cs : List ℕ) → Renews (At (run reads.step q bs)) cs → Renews (At q) (bs ++ cs)
    reads_on q [] cs later = later
    reads_on q (b ∷ bs) cs later =
        let r = (reads.step q b).next in
        one_byte (At q) (At r) b (bs ++ cs) (λ s h. host_tick s ∙ h) (λ s w h. host_byte s b ∙ ap (λ x. (reads.step x b).next) h) (reads_on r bs cs later)

    -- and the display is selected, with nothing playing
    record Chosen (q : R) (s : State R) : Type 0 where
      at : host s ≡ q
      silent : playing s.core ≡ false
      selected : s.core.selected ≡ true

    chosen_tick : (q : R) (s : State R) → Chosen q s → Chosen q (next reads s tick)
    chosen_tick q s h = subst (Chosen q) (sym (silent_tick s h.silent)) (record { at = h.at; silent = h.silent; selected = h.selected })

    -- ESC = is heeded, selected or not
    select_byte : (q : R) (b : ℕ) (s : State R) → reads.step q b ≡ to home (Complete (Select true)) → At q s → Chosen home (next reads s (byte b))
    select_byte q b s says h =
        let c = before b s.core in
        let e : reads.step (host s) b ≡ to home (Complete (Select true)) = ap (λ x. reads.step x b) h ∙ says in
        let core : (next reads s (byte b)).core ≡ record c { selected = true } =
        ap (λ t. (obeyed (heard_as Host t.outcome) c).core) e ∙ ap (λ (a : Act). a.core) (cond-true (c.selected || true) _ _ (or-true c.selected)) in
        record { at = host_byte s b ∙ ap (λ t. t.next) e; silent = ap playing core ∙ (before_kept b s.core).silent; selected = ap (λ x. x.selected) core }

    pending_byte : (q : R) (b : ℕ) (s : State R) → (reads.step q b).outcome ≡ Pending → Chosen q s → Chosen (reads.step q b).next (next reads s (byte b))
    pending_byte q b s waits h =
        let c = before b s.core in
        let k = before_kept b s.core in
        let core : (next reads s (byte b)).core ≡ c = ap (λ o. (obeyed (heard_as Host o) c).core) (ap (λ x. (reads.step x b).outcome) h.at ∙ waits) in
        record {
          at = host_byte s b ∙ ap (λ x. (reads.step x b).next) h.at;
          silent = ap playing core ∙ k.silent;
          selected = ap (λ x. x.selected) core ∙ k.selected ∙ h.selected;
        }

    -- ESC @ is carried out, since the display is selected
    initialize_byte : (q : R) (b : ℕ) (s : State R) → reads.step q b ≡ to home (Complete Initialize) → Well p s → Chosen q s → next reads s (byte b) ≡ new reads p
    initialize_byte q b s says w h =
        let c = before b s.core in
        let k = before_kept b s.core in
        let e : reads.step (host s) b ≡ to home (Complete Initialize) = ap (λ x. reads.step x b) h.at ∙ says in
        let none : ending s.core ≡ [] = cond-false (playing s.core) _ [] h.silent in
        let on : c.selected ≡ true = k.selected ∙ h.selected in
        let same : c.settings ≡ p = k.settings ∙ w.settings in
        (λ i. let a = obeyed (heard_as Host (e i).outcome) (record c { selected = on i; settings = same i }) in
        record { reading = (e i).next; core = a.core; glass = drawn_all (none i ++ drawn_by a.answer) s.glass })
        ∙ ap (λ g. record (new reads p) { glass = g }) (blank_whole s.glass w.forty)

    begun : Renews (Chosen home) (0x1B ∷ 0x40 ∷ [])
    begun =
        let escape = (reads.step home 0x1B).next in
        let says = subst (λ x. Says reads.step x x (0x1B ∷ 0x40 ∷ []) Initialize) (rested home) ((laws.rules home).initializes) in
        one_byte (Chosen home) (Chosen escape) 0x1B (0x40 ∷ []) (chosen_tick home) (λ s w. pending_byte home 0x1B s says.0)
        (one_byte (Chosen escape) (λ s. s ≡ new reads p) 0x40 [] (chosen_tick escape) (λ s. initialize_byte escape 0x40 s says.1) no_byte)

    chosen : Renews (At home) (0x1B ∷ 0x3D ∷ 0x02 ∷ 0x1B ∷ 0x40 ∷ [])
    chosen =
        let q = run reads.step home (0x1B ∷ 0x3D ∷ []) in
        let says = subst (λ x. Says reads.step x x (0x1B ∷ 0x3D ∷ 0x02 ∷ []) (Select true)) (rested home) ((laws.rules home).selects) in
        reads_on home (0x1B ∷ 0x3D ∷ []) (0x02 ∷ 0x1B ∷ 0x40 ∷ [])
        (one_byte (At q) (Chosen home) 0x02 (0x1B ∷ 0x40 ∷ []) (λ s h. host_tick s ∙ h) (λ s w. select_byte q 0x02 s says.1.1) begun)

    -- six bytes 18h bring every reading to rest
    recalled : (q : R) → Renews (At q) recall
    recalled q =
        let bs = 0x1B ∷ 0x3D ∷ 0x02 ∷ 0x1B ∷ 0x40 ∷ [] in
        reads_on q six bs (subst (λ x. Renews (At x) bs) (sym ((laws.rules q).cancels ∙ rested q)) chosen)

  pub recalls : Recalls reads
  recalls p es rs e =
      let s = after reads (new reads p) es in
      after-append reads (new reads p) es rs ∙ recalled p (host s) s rs (well_after p (new reads p) es (record { settings = refl; forty = refl })) refl e

-- Changes one by one.
use Rattle.std.proofs.Common.{◌≡◌, ℕ, ◌+◌, ◌<◌, Bool, true, false, cond, eqb, List, [], ◌∷◌, ◌++◌, length, get_or, take, reverse, set, Some, None, Option, sym, refl, ap, ◌∙◌, subst, Bor, arith}
use Rattle.std.specs.List.{find}
use Rattle.std.specs.Option.{option_map, option_or, unwrap_or}
use Rattle.std.proofs.lemmas.List.{take_more, get_or-set_other, length-set}
use Rattle.std.proofs.lemmas.List.Folds.{find-append}
use Rattle.std.proofs.lemmas.Grind.{reverse_onto, get_or-set_at}
use Rattle.std.proofs.lemmas.Bool.Decides.{nat_tests}
use Rattle.list.specs.Entries.{entries, places, capacity}
use Rattle.panel.specs.declared.picture.Picture.{Picture}
use Rattle.panel.specs.Forty.{forty, forty_length}
use Rattle.strip.specs.declared.strip.Change.{Change}
use Rattle.strip.specs.declared.strip.StripPanel.{StripPanel}
use Rattle.strip.specs.Strip.{picture_of, waiting_of, merged, HasRoom, IsFull, Appends, Overflows, Writes, Roomed, Added, Puts}
use Rattle.strip.specs.Latest.{latest, Latest}
use Rattle.strip.specs.Laws.{merged_push, none_waits}

-- one change more in the picture
pub merged_put : (g : List ℕ) (p q : Picture) (cs : List Change) (i : ℕ) (d : Change) → forty p.held ≡ merged g (take i cs) → i < length cs →
    forty q.held ≡ set (forty p.held) (get_or cs i d).place (get_or cs i d).cell → forty q.held ≡ merged g (take (i + 1) cs)
merged_put g p q cs i d e h put =
    let c = get_or cs i d in
    put ∙ ap (λ x. set x c.place c.cell) e ∙ sym (merged_push g (take i cs) c) ∙ sym (ap (merged g) (take_more cs i d h))

-- the change that a place takes from one change
abbrev here : ℕ → Change → Option ℕ
here k c = cond (eqb c.place k) (Some c.cell) None

-- the cells are the latest changes

latest_cell : (p : List ℕ) (cs : List Change) (k : ℕ) → k < length p → get_or (merged p cs) k 0 ≡ unwrap_or (latest k cs) (get_or p k 0)
latest_cell p [] k h = refl
latest_cell p (c ∷ cs) k h = latest_cell (set p c.place c.cell) cs k (omega (arith, length-set p c.place c.cell)) ∙ nested (latest k cs)
  where
    one : get_or (set p c.place c.cell) k 0 ≡ unwrap_or (here k c) (get_or p k 0)
    one = grind (arith, nat_tests, get_or-set_at, get_or-set_other)

    nested : (o : Option ℕ) → unwrap_or o (get_or (set p c.place c.cell) k 0) ≡ unwrap_or (option_or o (here k c)) (get_or p k 0)
    nested None = one
    nested (Some w) = refl

pub latest_holds : Latest
latest_holds s k h = latest_cell (picture_of s) (waiting_of s) k (omega (arith, forty_length s.picture.held))

-- A put makes room, and then adds the change.
pub placed : (s m t : StripPanel) (c : Change) → Roomed s m → Added m c t → Puts s c t
placed s m t c r a =
    record { room = room; full = full; empty = empty; lent = a.lent ∙ r.lent }
  where
    room : HasRoom s → Appends s c t
    room l = subst (λ x. Appends x c t) (r.room l) (a.room (subst HasRoom (sym (r.room l)) l))

    full : IsFull s → 0 < capacity s.changes → Overflows s c t
    full f some =
        let e = r.full f in
        let none : length (waiting_of m) ≡ 0 = ap length e.none in
        let same : capacity m.changes ≡ capacity s.changes = ap length e.places in
        let b = a.room (omega (arith, none, same, some)) in
        record {
          picture = b.picture ∙ e.picture;
          waiting = b.waiting ∙ ap (λ cs. cs ++ c ∷ []) e.none;
          flag = b.flag ∙ e.flag;
          places = b.places ∙ ap (λ n. set (places m.changes) n c) none ∙ ap (λ ps. set ps 0 c) e.places;
        }

    empty : capacity s.changes ≡ 0 → Writes s c t
    empty zero =
        let e = r.full (omega arith) in
        let same : capacity m.changes ≡ capacity s.changes = ap length e.places in
        let b = a.full (omega (arith, same, zero)) in
        record {
          picture = b.0 ∙ ap (λ p. set p c.place c.cell) (e.picture ∙ ap (merged (picture_of s)) (none_waits s zero));
          waiting = ap entries b.1 ∙ e.none;
          flag = b.2 ∙ e.flag;
          places = ap places b.1 ∙ e.places;
        }

-- the latest change for a place is the first that names it from the end of the list
latest_first : (k : ℕ) (cs : List Change) → option_map (λ c. c.cell) (find (λ c. eqb c.place k) (reverse cs)) ≡ latest k cs
latest_first k [] = refl
latest_first k (c ∷ cs) =
    rw (reverse_onto cs c [], find-append (λ (d : Change). eqb d.place k) (reverse cs) (c ∷ [])) (joined (find (λ d. eqb d.place k) (reverse cs)) (latest k cs) (latest_first k cs))
  where
    last : (b : Bool) → option_map (λ (d : Change). d.cell) (cond b (Some c) None) ≡ cond b (Some c.cell) None
    last true = refl
    last false = refl

    joined : (o : Option Change) (v : Option ℕ) → option_map (λ d. d.cell) o ≡ v → option_map (λ d. d.cell) (option_or o (find (λ d. eqb d.place k) (c ∷ []))) ≡ option_or v (here k c)
    joined None v e = last (eqb c.place k) ∙ ap (λ w. option_or w (here k c)) e
    joined (Some d) v e = ap (λ w. option_or w (here k c)) e

pub latest_found : (k : ℕ) (cs : List Change) (o : Option (Bor Change)) → option_map (λ b. b.now) o ≡ find (λ c. eqb c.place k) (reverse cs) → option_map (λ b. b.now.cell) o ≡ latest k cs
latest_found k cs o e = twice o ∙ ap (option_map (λ (c : Change). c.cell)) e ∙ latest_first k cs
  where
    twice : (o : Option (Bor Change)) → option_map (λ b. b.now.cell) o ≡ option_map (λ (c : Change). c.cell) (option_map (λ b. b.now) o)
    twice None = refl
    twice (Some b) = refl

-- The laws of a panel, at the strip panel.
use Rattle.std.specs.Prelude.{◌≡◌, ℕ, List, [], ◌∷◌, ◌++◌, length, slice_set, refl}
use Rattle.std.proofs.Common.{sym, ap, ◌∙◌, ⊎_elim, arith}
use Rattle.std.proofs.lemmas.List.{length-set, length-take, nil_from_length}
use Rattle.std.proofs.lemmas.Bool.{cases_lt}
use Rattle.list.specs.Entries.{places, capacity}
use Rattle.panel.specs.Forty.{forty_length}
use Rattle.panel.specs.Laws.{Make, Laws}
use Rattle.strip.specs.declared.strip.Change.{Change}
use Rattle.strip.specs.declared.strip.StripPanel.{StripPanel}
use Rattle.strip.specs.Strip.{picture_of, waiting_of, merged, cells_of, Appends, Overflows, Writes, Puts, Paints}

pub merged_length : (p : List ℕ) (cs : List Change) → length (merged p cs) ≡ length p
merged_length p [] = refl
merged_length p (c ∷ cs) = merged_length (slice_set p c.place c.cell) cs ∙ length-set p c.place c.cell

pub merged_push : (p : List ℕ) (cs : List Change) (c : Change) → merged p (cs ++ c ∷ []) ≡ slice_set (merged p cs) c.place c.cell
merged_push p [] c = refl
merged_push p (d ∷ cs) c = merged_push (slice_set p d.place d.cell) cs c

-- nothing waits where there are no places
pub none_waits : (s : StripPanel) → capacity s.changes ≡ 0 → waiting_of s ≡ []
none_waits s z = nil_from_length (waiting_of s) (length-take s.changes.len (places s.changes) ∙ omega arith)

merges : (t : StripPanel) (p : List ℕ) (cs : List Change) → picture_of t ≡ p → waiting_of t ≡ cs → cells_of t ≡ merged p cs
merges t p cs e f = ap (λ q. merged q (waiting_of t)) e ∙ ap (merged p) f

-- which of the three cases of a put it was
pub put_cases : {Z : Type 0} (s t : StripPanel) (c : Change) → Puts s c t → (Appends s c t → Z) → (Overflows s c t → Z) → (Writes s c t → capacity s.changes ≡ 0 → Z) → Z
put_cases s t c h a o w =
    ⊎_elim
    (λ l. a (h.room l))
    (λ f. ⊎_elim (λ l. o (h.full f l)) (λ l. let z : capacity s.changes ≡ 0 = omega arith in w (h.empty z) z) (cases_lt 0 (capacity s.changes)))
    (cases_lt (length (waiting_of s)) (capacity s.changes))

putting : (s t : StripPanel) (c : Change) → Puts s c t → cells_of t ≡ slice_set (cells_of s) c.place c.cell
putting s t c h =
    put_cases s t c h
    (λ a. merges t (picture_of s) (waiting_of s ++ c ∷ []) a.picture a.waiting ∙ merged_push (picture_of s) (waiting_of s) c)
    (λ o. merges t (cells_of s) (c ∷ []) o.picture o.waiting)
    (λ w z.
    merges t (slice_set (picture_of s) c.place c.cell) [] w.picture w.waiting
    ∙ ap (λ cs. slice_set (merged (picture_of s) cs) c.place c.cell) (sym (none_waits s z)))

painting : (s t : StripPanel) → Paints s t → cells_of t ≡ cells_of s
painting s t h = merges t (cells_of s) [] h.picture h.none

-- what a strip panel means, as the panels' interface has it
abbrev pub strip : Make StripPanel
strip = record { cells = cells_of; puts = λ s k v t. Puts s (record { place = k; cell = v }) t; paints = λ s t. Paints s t }

pub strip_laws : Laws strip
strip_laws = record {
  forty = λ s. merged_length (picture_of s) (waiting_of s) ∙ forty_length s.picture.held;
  putting = λ s t k v h. putting s t (record { place = k; cell = v }) h;
  painting = painting;
}

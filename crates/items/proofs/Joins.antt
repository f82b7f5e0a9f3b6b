-- What the parts handed out so far are, joined.
use Rattle.std.proofs.Common.{◌≡◌, ℕ, ◌+◌, ◌≤◌, true, List, [], ◌∷◌, ◌++◌, length, drop, Bor, sym, ap, ◌∙◌, subst, Global, None, Some, Option, Result, Vec, vec_len, append_assoc, append-nil, arith, take-append-drop, length-take-le}
use Rattle.std.specs.Iterator.{Yields, DrainsIf}
use Rattle.std.specs.Iterator.Adapters.{map_source}
use Rattle.std.specs.Iterator.Runs.{Run, YieldsRun}
use Rattle.std.specs.declared.iter.Map.{Map}
use Rattle.std.specs.List.{flat_map}
use Rattle.std.specs.Result.{IfOk}
use Rattle.std.proofs.lemmas.Result.{IfOk-weaker}
use Rattle.std.proofs.lemmas.List.{drop_all, drop-drop}
use Rattle.commands.specs.Sets.{Reads}
use Rattle.items.specs.declared.parts.Part.{Part}
use Rattle.items.specs.Extents.{extent_of}
use Rattle.items.specs.declared.parts.Items.{Items}
use Rattle.items.specs.Hands.{Hands}
use Rattle.items.specs.Handed.{PartAt, bytes_of, Walked}

module _ {R : Type 0} (reads : Reads R) where
  -- an item lies within the bytes
  size_within : (r : R) (bs : List ℕ) → (extent_of reads r bs).size ≤ length bs
  size_within r [] = omega arith
  size_within r (b ∷ bs) = grind (arith, size_within (reads.step r b).next bs)

  module _ (rest : R) (bs : List ℕ) (at : ℕ) (p : Part) (next : ℕ) (part : PartAt reads rest bs at p next) where
    front : bytes_of p ++ drop next bs ≡ drop at bs
    front =
        let n = (extent_of reads rest (drop at bs)).size in
        rw part.bytes (rw part.next_is (rw (sym (drop-drop n at bs)) (take-append-drop n (drop at bs))))

    pub long : length (bytes_of p) + at ≡ next
    long = grind (arith, size_within, length-take-le, part.bytes, part.next_is)

  -- the parts that calls handed out stand one after the other, and the buffer is kept
  yields_walked :
      (rest : R) (bs : List ℕ) (s : Items R) (ps : List Part) (t : Items R) →
      s.rest ≡ rest → s.buffer.now ≡ bs → Yields (Hands reads) s ps t → Walked reads rest bs s.at ps t.at × (t.buffer.now ≡ bs)
  yields_walked rest bs s [] t begins same e = (ap (λ (i : Items R). i.at) e, ap (λ (i : Items R). i.buffer.now) (sym e) ∙ same)
  yields_walked rest bs s (p ∷ ps) t begins same (j, h, y) =
      let walked = yields_walked rest bs j ps t (h.rest ∙ begins) (ap (λ x. x.now) h.buffer ∙ same) y in
      let part = subst (λ r. PartAt reads r s.buffer.now s.at p j.at) begins h.item in
      ((j.at, subst (λ b. PartAt reads rest b s.at p j.at) same part, walked.0), walked.1)

  -- what a new reader hands out up to the end are all items of the buffer
  pub drained :
      (b : Bor (List ℕ)) (rest : R) (s : Items R) (ps : List Part) →
      (s.buffer ≡ b) × (s.at ≡ 0) × (s.rest ≡ rest) → DrainsIf (Hands reads) (Unit {0}) s ps → Walked reads rest b.now 0 ps (length b.now)
  drained b rest s ps (same, at, begins) (t, yields, ends) =
      let walked = yields_walked rest b.now s ps t begins (ap (λ x. x.now) same) yields in
      let long = ap length walked.1 in
      let reached : t.at ≡ length b.now = omega (arith, (ends tt).1.item.0, t.ok) in
      subst (λ n. Walked reads rest b.now n ps (length b.now)) at (subst (Walked reads rest b.now s.at ps) reached walked.0)

  -- what an iterator hands out up to its end are all items of the buffer
  pub record Tells {S : Type 0} (rest : R) (bs : List ℕ) (steps : S → Option Part → S → Type 0) (s : S) : Type 0 where
    pub walked : (ps : List Part) → DrainsIf steps (Unit {0}) s ps → Walked reads rest bs 0 ps (length bs)

  pub tells_new : {rest : R} {b : Bor (List ℕ)} {s : Items R} → (s.buffer ≡ b) × (s.at ≡ 0) × (s.rest ≡ rest) → Tells rest b.now (Hands reads) s
  tells_new {rest} {b} {s} h = record { walked = λ ps. drained b rest s ps h }

  -- so does a map over it that changes no part
  module _ {F : Type 0} (steps : Map (Items R) F → Option Part → Map (Items R) F → Type 0)
      (ends : (s t : Map (Items R) F) → steps s None t → Hands reads (map_source s) None (map_source t))
      (gives : (s t : Map (Items R) F) (p : Part) → steps s (Some p) t → Hands reads (map_source s) (Some p) (map_source t)) where
    yields_map : (s : Map (Items R) F) (ps : List Part) (t : Map (Items R) F) → Yields steps s ps t → Yields (Hands reads) (map_source s) ps (map_source t)
    yields_map s [] t e = ap map_source e
    yields_map s (p ∷ ps) t (j, h, y) = (map_source j, gives s j p h, yields_map j ps t y)

    pub tells_map : {rest : R} {bs : List ℕ} {s : Map (Items R) F} → Tells rest bs (Hands reads) (map_source s) → Tells rest bs steps s
    tells_map {s = s} all = record { walked = λ ps (t, y, e). all.walked ps (map_source t, yields_map s ps t y, λ w. let u = e w in (map_source u.0, ends t u.0 u.1)) }

  -- what is collected of it
  pub told :
      {S E : Type 0} {rest : R} {bs : List ℕ} {steps : S → Option Part → S → Type 0} {s : S} (r : Result (Vec Part Global) E) →
      IfOk r (λ v. Unit {0} → (p : Run steps) × (p.from ≡ s) × (p.whole ≡ true) × ((v.items ≡ p.items) × (vec_len v ≡ length p.items))) →
      Tells rest bs steps s → IfOk r (λ v. Walked reads rest bs 0 v.items (length bs))
  unfolding YieldsRun
  told {steps = steps} r made all =
      IfOk-weaker r _ _
      (λ v m.
      let (p, from, whole, is) = m tt in
      let (t, yields, ends) = p.gave.0 in
      rw is.0 (all.walked p.items (subst (λ x. DrainsIf steps (Unit {0}) x p.items) from (t, yields, λ _. ends whole))))
      made

  joined_from : (rest : R) (bs : List ℕ) (at : ℕ) (ps : List Part) (to : ℕ) → Walked reads rest bs at ps to → flat_map bytes_of ps ++ drop to bs ≡ drop at bs
  joined_from rest bs at [] to e = ap (λ k. drop k bs) (sym e)
  joined_from rest bs at (p ∷ ps) to w = grind (arith, append_assoc, joined_from rest bs w.0 ps to w.2, front rest bs at p w.0 w.1)

  -- the items of a whole buffer, joined, are the buffer
  pub parts_join : (rest : R) (bs : List ℕ) (ps : List Part) → Walked reads rest bs 0 ps (length bs) → flat_map bytes_of ps ≡ bs
  parts_join rest bs ps w = grind (arith, append-nil, drop_all, joined_from rest bs 0 ps (length bs) w)

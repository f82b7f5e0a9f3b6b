-- What the items of a whole buffer are.
use Rattle.std.proofs.Common.{◌≡◌, ℕ, ◌+◌, ◌≤◌, true, List, [], ◌∷◌, ◌++◌, length, take, drop, Some, None, Option, sym, refl, ap, ◌∙◌, subst, arith, length-append, length-drop}
use Rattle.std.specs.List.{flat_map}
use Rattle.commands.specs.declared.words.Dialect.{Dialect}
use Rattle.commands.specs.declared.outcome.Outcome.{Outcome}
use Rattle.commands.specs.declared.outcome.Outcome.TheVariants as outcome
use Rattle.commands.specs.Items.{ends}
use Rattle.commands.specs.Sets.{Reads, SetsLaws, run}
use Rattle.items.specs.declared.kinds.Kind.TheVariants.{Unfinished}
use Rattle.items.specs.declared.parts.Extent.{Extent}
use Rattle.items.specs.declared.parts.Items.{Items}
use Rattle.items.specs.declared.parts.Part.{Part}
use Rattle.items.specs.Extents.{ending, extent_of, or_else}
use Rattle.items.specs.Handed.{bytes_of, PartAt, Walked, Whole}
use Rattle.items.specs.Hands.{Hands, WholeWalk}
use Rattle.items.proofs.Joins.{long, parts_join}

module _ {R : Type 0} (reads : Reads R) where
  -- an unfinished item reaches to the end
  reaches : (r : R) (bs : List ℕ) → (extent_of reads r bs).kind ≡ Unfinished → (extent_of reads r bs).size ≡ length bs
  reaches r [] is = omega arith
  reaches r (b ∷ bs) is = grind (arith, reaches (reads.step r b).next bs)

  none_past : (s : Items R) (r : Option Part) (t : Items R) → Hands reads s r t → length s.buffer.now ≤ s.at → r ≡ None
  none_past s None t h past = refl
  none_past s (Some p) t h past = absurd (omega (arith, h.item.before))

module _ {R : Type 0} (reads : Reads R) (rest : R) where
  -- one byte more in front of an item that leaves the reader at rest, or the byte that ends it
  rests_more :
      (o : Outcome) (r : R) (b : ℕ) (bs : List ℕ) (e : Extent) →
      (ends o ≡ true → (reads.step r b).next ≡ rest) →
      ((e.kind ≡ Unfinished → ⊥) → run reads.step (reads.step r b).next (take e.size bs) ≡ rest) →
      ((or_else (ending o) e).kind ≡ Unfinished → ⊥) → run reads.step r (take (or_else (ending o) e).size (b ∷ bs)) ≡ rest
  rests_more outcome.Pending r b bs e here later finished = grind (arith, later)
  rests_more outcome.Ignored r b bs e here later finished = here refl
  rests_more (outcome.Complete c) r b bs e here later finished = here refl
  rests_more (outcome.Partial n c) r b bs e here later finished = grind (arith, later)
  rests_more (outcome.Faulty f) r b bs e here later finished = here refl

  part_last : (bs : List ℕ) (at : ℕ) (p : Part) (next : ℕ) → PartAt reads rest bs at p next → p.kind ≡ Unfinished → next ≡ length bs
  part_last bs at p next part is = grind (arith, reaches reads, length-drop, part.before, part.next_is, part.kind)

  -- a walk up to a part, the part, and the walk from there on
  split :
      (bs : List ℕ) (at : ℕ) (qs : List Part) (p : Part) (rs : List Part) (to : ℕ) → Walked reads rest bs at (qs ++ p ∷ rs) to →
      (m : ℕ) × (n : ℕ) × Walked reads rest bs at qs m × PartAt reads rest bs m p n × Walked reads rest bs n rs to
  split bs at [] p rs to w = (at, w.0, refl, w.1, w.2)
  split bs at (q ∷ qs) p rs to w =
      let after = split bs w.0 qs p rs to w.2 in
      (after.0, after.1, (w.0, w.1, after.2), after.3, after.4)

  -- a walk ends as many bytes further on as its parts have
  walked_long : (bs : List ℕ) (at : ℕ) (qs : List Part) (to : ℕ) → Walked reads rest bs at qs to → length (flat_map bytes_of qs) + at ≡ to
  walked_long bs at [] to w = omega (arith, w)
  walked_long bs at (q ∷ qs) to w = grind (arith, length-append, walked_long bs w.0 qs to w.2, long reads rest bs at q w.0 w.1)

  -- past the end there is no part
  walked_none : (bs : List ℕ) (at : ℕ) (rs : List Part) (to : ℕ) → length bs ≤ at → Walked reads rest bs at rs to → rs ≡ []
  walked_none bs at [] to h w = refl
  walked_none bs at (p ∷ rs) to h w = grind (arith, w.1.before)

module _ {R : Type 0} (reads : Reads R) (laws : SetsLaws reads) (d : Dialect) where
  -- an item that is finished leaves the reader at rest, in the same set
  item_rests :
      (r : R) (bs : List ℕ) → reads.dialect r ≡ d →
      ((extent_of reads r bs).kind ≡ Unfinished → ⊥) → run reads.step r (take (extent_of reads r bs).size bs) ≡ reads.rest d
  item_rests r [] in_force finished = absurd (finished refl)
  item_rests r (b ∷ bs) in_force finished =
      let t = reads.step r b in
      let here : ends t.outcome ≡ true → t.next ≡ reads.rest d = λ is. (laws.rules r).rests b is ∙ ap reads.rest in_force in
      rests_more reads (reads.rest d) t.outcome r b bs (extent_of reads t.next bs) here (item_rests t.next bs (laws.keeps r b ∙ in_force)) finished

  part_rests :
      (bs : List ℕ) (at : ℕ) (p : Part) (next : ℕ) → PartAt reads (reads.rest d) bs at p next →
      (p.kind ≡ Unfinished → ⊥) → run reads.step (reads.rest d) (bytes_of p) ≡ reads.rest d
  part_rests bs at p next part finished =
      ap (run reads.step (reads.rest d)) part.bytes ∙ item_rests (reads.rest d) (drop at bs) (laws.starts d) (λ is. finished (part.kind ∙ is))

  pub whole : (bs : List ℕ) (ps : List Part) → Walked reads (reads.rest d) bs 0 ps (length bs) → Whole reads (reads.rest d) bs ps
  whole bs ps w = record {
    joins = parts_join reads (reads.rest d) bs ps w;
    placed = λ qs p rs is. let s = parts qs p rs is in s.3.place ∙ sym (omega (arith, walked_long reads (reads.rest d) bs 0 qs s.0 s.2));
    last = λ qs p rs is kind.
        let s = parts qs p rs is in
        let end = part_last reads (reads.rest d) bs s.0 p s.1 s.3 kind in
        walked_none reads (reads.rest d) bs s.1 rs (length bs) (omega arith) s.4;
    rests = λ qs p rs is finished. let s = parts qs p rs is in part_rests bs s.0 p s.1 s.3 finished;
  }
    where
      parts :
          (qs : List Part) (p : Part) (rs : List Part) → ps ≡ qs ++ p ∷ rs →
          (m : ℕ) × (n : ℕ) × Walked reads (reads.rest d) bs 0 qs m × PartAt reads (reads.rest d) bs m p n × Walked reads (reads.rest d) bs n rs (length bs)
      parts qs p rs is = split reads (reads.rest d) bs 0 qs p rs (length bs) (subst (λ l. Walked reads (reads.rest d) bs 0 l (length bs)) is w)

pub whole_walk : {R : Type 0} (reads : Reads R) → SetsLaws reads → WholeWalk reads
whole_walk reads laws = record { whole = whole reads laws; then_none = none_past reads }

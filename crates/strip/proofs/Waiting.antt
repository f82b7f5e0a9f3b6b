-- Puts alone lose nothing that waits, unless they raise the flag.
use Rattle.std.proofs.Common.{◌≡◌, ℕ, ◌<◌, ◌⊎◌, [], ◌∷◌, ◌++◌, length, sym, refl, ap, ◌∙◌, inl, inr, append_assoc}
use Rattle.std.proofs.lemmas.List.{append-nil, length-set}
use Rattle.list.specs.Entries.{capacity}
use Rattle.panel.specs.Laws.{Reached, none, more}
use Rattle.panel.proofs.Puts.{reached_one}
use Rattle.strip.specs.declared.strip.Change.{Change}
use Rattle.strip.specs.declared.strip.StripPanel.{StripPanel}
use Rattle.strip.specs.Strip.{picture_of, waiting_of, merged, Puts, Appends, Overflows, Writes}
use Rattle.strip.specs.Laws.{strip, put_cases}
use Rattle.strip.specs.Waiting.{Grown, Overran, Kept, KeepsWaiting}

put_capacity : (s t : StripPanel) (c : Change) → Puts s c t → capacity t.changes ≡ capacity s.changes
put_capacity s t c h =
    put_cases s t c h (λ a. ap length a.places ∙ length-set _ _ _) (λ o. ap length o.places ∙ length-set _ _ _) (λ w z. ap length w.places)

-- one put more
module _ (s q r : StripPanel) (k v : ℕ) (on : k < 40) (way : Reached strip.puts s q) (h : strip.puts q k v r) where
  appended : Appends q (record { place = k; cell = v }) r → Grown s q ⊎ Overran s q → Grown s r ⊎ Overran s r
  appended a (inl g) =
      inl (record {
        picture = a.picture ∙ g.picture;
        flag = a.flag ∙ g.flag;
        more = g.more ++ record { place = k; cell = v } ∷ [];
        waiting = a.waiting ∙ ap (λ cs. cs ++ record { place = k; cell = v } ∷ []) g.waiting ∙ append_assoc (waiting_of s) g.more (record { place = k; cell = v } ∷ []);
      })
  appended a (inr o) =
      inr (record { flag = a.flag ∙ o.flag; moment = o.moment; before = o.before; after = more k v o.after on h; picture = a.picture ∙ o.picture })

  overflowed : Overflows q (record { place = k; cell = v }) r → Grown s r ⊎ Overran s r
  overflowed o = inr (record { flag = o.flag; moment = q; before = way; after = reached_one k v on h; picture = o.picture })

  wrote : Writes q (record { place = k; cell = v }) r → Grown s r ⊎ Overran s r
  wrote w = inr (record { flag = w.flag; moment = r; before = more k v way on h; after = none; picture = ap (merged (picture_of r)) (sym w.waiting) })

  kept_more : Kept s q → Kept s r
  kept_more b =
      record {
        list = put_cases q r (record { place = k; cell = v }) h (λ a. appended a b.list) overflowed (λ w z. wrote w);
        capacity = put_capacity q r (record { place = k; cell = v }) h ∙ b.capacity;
        lent = h.lent ∙ b.lent;
      }

pub keeps_waiting : KeepsWaiting
keeps_waiting s t none = record { list = inl (record { picture = refl; flag = refl; more = []; waiting = sym (append-nil (waiting_of s)) }); capacity = refl; lent = refl }
keeps_waiting s t (more {q = q} k v way on h) = kept_more s q t k v on way h (keeps_waiting s q way)

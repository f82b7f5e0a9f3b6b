-- A set keeps its rules where its readings are held in those of several sets.
use Rattle.std.proofs.Common.{◌≡◌, ℕ, true, List, [], ◌∷◌, sym, ap, refl, ◌∙◌, subst}
use Rattle.commands.specs.declared.words.Command.{Command}
use Rattle.commands.specs.declared.words.Command.TheVariants.{Initialize, Select}
use Rattle.commands.specs.declared.outcome.Transition.{Transition}
use Rattle.commands.specs.Items.{ends}
use Rattle.commands.specs.Sets.{Make, Laws, RulesAt, Says, inside, run, six}

module _ {R S : Type 0} (hold : R → S) (m : Make R) (step : S → ℕ → Transition S) (same : (r : R) (b : ℕ) → step (hold r) b ≡ inside hold (m.step r b)) where
  run_held : (r : R) (bs : List ℕ) → run step (hold r) bs ≡ hold (run m.step r bs)
  run_held r [] = refl
  run_held r (b ∷ bs) = ap (λ t. run step t.next bs) (same r b) ∙ run_held (m.step r b).next bs

  says_held : (r : R) (bs : List ℕ) (d : Command) → Says m.step m.rest r bs d → Says step (hold m.rest) (hold r) bs d
  says_held r [] d h = h
  says_held r (b ∷ []) d h = same r b ∙ ap (inside hold) h
  says_held r (b ∷ c ∷ bs) d h = (
    ap (λ t. t.outcome) (same r b) ∙ h.0,
    subst (λ t. Says step (hold m.rest) t.next (c ∷ bs) d) (sym (same r b)) (says_held (m.step r b).next (c ∷ bs) d h.1),
  )

  pub rules_held : Laws m → (r : R) → RulesAt step (hold m.rest) m.names (hold r)
  rules_held laws r = let l = laws r in record {
    rests = λ b e. ap (λ t. t.next) (same r b) ∙ ap hold (l.rests b (ap (λ t. ends t.outcome) (sym (same r b)) ∙ e));
    cancels = run_held r six ∙ ap hold l.cancels;
    selects = says_held m.rest (0x1B ∷ 0x3D ∷ 0x02 ∷ []) (Select true) l.selects;
    initializes = says_held m.rest (0x1B ∷ 0x40 ∷ []) Initialize l.initializes;
    bears = λ b d e. l.bears b d (ap (λ t. t.outcome) (sym (same r b)) ∙ e);
    full = l.full;
  }

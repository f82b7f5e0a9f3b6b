use Rattle.std.proofs.Common.{None, sym, ◌∙◌, subst}
use Rattle.state.specs.Slots.{with_at}
use Rattle.state.proofs.Kept.{Sound, cancelled_home, cancelled_other}
use Rattle.state.proofs.windows.Windows.cancel.Goals as goal
use Rattle.state.proofs.windows.Windows.cancel.Goals.{then-is_current, else-is_current}

pub invariant_of-self : goal.invariant_of-self
invariant_of-self c =
    let w = c.args.self.now in
    let t = c.if-is_current.self in
    let without = with_at w.slots c.args.n None in
    let s : Sound w.slots w.current w.cursor.column w.cursor.row = record { sharing = w.sharing; fitting = w.fitting; defined = w.defined; inside = w.inside } in
    let k : Sound c.with-self.result t.1.1.0 t.1.1.1.0.column t.1.1.1.0.row =
    subst (λ o. Sound o t.1.1.0 t.1.1.1.0.column t.1.1.1.0.row) (sym c.with-self.ensures) (elim c.if-is_current.branch [
      | then-is_current b ↦
          subst (λ u. Sound without u.1.1.0 u.1.1.1.0.column u.1.1.1.0.row) (sym b.self-is)
          (subst (λ p. Sound without None p.column p.row) (sym b.home-self.ensures) (cancelled_home _ c.args.n _ _ _ s))
      | else-is_current b ↦ subst (λ u. Sound without u.1.1.0 u.1.1.1.0.column u.1.1.1.0.row) (sym b.self-is) (cancelled_other _ c.args.n _ _ _ s (sym c.is_current.ensures ∙ b.if-is_current.false))
    ]) in
    record { sharing = k.sharing; fitting = k.fitting; defined = k.defined; inside = k.inside }

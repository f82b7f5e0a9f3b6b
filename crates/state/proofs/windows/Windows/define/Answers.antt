use Rattle.std.proofs.Common.{Some, sym, ◌∙◌, subst}
use Rattle.state.proofs.Kept.{Sound, defined_sound}
use Rattle.state.proofs.windows.Windows.define.Goals as goal

pub invariant_of-self : goal.invariant_of-self
invariant_of-self c =
    let w = c.args.self.now in
    let a = c.args.frame.area in
    let s : Sound w.slots w.current w.cursor.column w.cursor.row = record { sharing = w.sharing; fitting = w.fitting; defined = w.defined; inside = w.inside } in
    let k = subst (λ p. Sound c.with-self.result (Some c.args.n) p.column p.row) (sym c.home-self.ensures) (subst (λ o. Sound o (Some c.args.n) a.x1 a.y1) (sym c.with-self.ensures) (defined_sound _ c.args.n a _ _ _ s c.args.frame.on_glass (sym c.leave_clear.ensures ∙ c.if-not-leave_clear.false))) in
    record { sharing = k.sharing; fitting = k.fitting; defined = k.defined; inside = k.inside }

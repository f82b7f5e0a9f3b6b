use Rattle.std.proofs.Common.{sym, ap, ◌∙◌, subst}
use Rattle.commands.specs.declared.words.Command.TheVariants.{Character, GoTo}
use Rattle.state.specs.declared.listener.Voice.TheVariants.{Host}
use Rattle.state.specs.Heard.{heard_as}
use Rattle.state.specs.Core.{core_of}
use Rattle.state.specs.Effects.{effect}
use Rattle.state.specs.Model.{obeyed, did}
use Rattle.state.specs.Shorts.{GoesTo}
use Rattle.display.proofs.Shorts.{read_takes, put_takes, moves_takes, carries_takes, typed_written, going_on}
use Rattle.display.proofs.engine.Display.take.Goals as goal

pub returns-in-Pending : goal.returns-in-Pending
returns-in-Pending g c =
    let k = core_of c.args.self.now.controller.machine in
    let i = c.in-Pending.ensures in
    read_takes g.P.Panel.make g.met.P.Panel.laws g.S.CommandSets.reads c.args.self.now c.glance.new.self c.args.byte c.args.faults.now
    i.calm (sym (ap (λ t. t.next) i.reading)) i.machine (ap (λ t. obeyed (heard_as Host t.outcome) k) i.reading)

pub returns-in-Character : goal.returns-in-Character
returns-in-Character g c =
    let k = core_of c.args.self.now.controller.machine in
    let i = c.in-Character.ensures in
    let m = c.in-Character.mark in
    let b = c.args.byte in
    put_takes g.P.Panel.make g.met.P.Panel.laws g.S.CommandSets.reads c.args.self.now c.glance.new.self c.put.new.self b c.args.faults.now
    (Character b m) b m i.calm.0 i.calm.2 (sym (ap (λ t. t.next) i.reading.1)) i.machine
    (ap (λ t. obeyed (heard_as Host t.outcome) k) i.reading.1 ∙ typed_written k m b i.calm.1 i.calm.2) c.put.ensures

pub returns-else-not-goes_to : goal.returns-else-not-goes_to
returns-else-not-goes_to g c =
    let k = core_of c.args.self.now.controller.machine in
    let i = c.in-GoTo.ensures in
    let p = c.in-GoTo.to in
    let n = c.in-GoTo.name in
    let b = c.args.byte in
    let went = subst (λ r. GoesTo p n (core_of c.glance.new.self.machine) r (core_of c.goes_to.new.self.machine)) c.if-not-goes_to.false (c.goes_to.ensures.goes n) in
    let goes = ap (λ m. effect Host (GoTo p n) (core_of m)) (sym i.machine) ∙ went in
    moves_takes g.P.Panel.make g.met.P.Panel.laws g.S.CommandSets.reads c.args.self.now c.goes_to.new.self b c.args.faults.now
    (did (GoTo p n) (effect Host (GoTo p n) k)) i.calm.0 (ap (λ t. obeyed (heard_as Host t.outcome) k) i.reading ∙ going_on k p n i.calm.1)
    (ap (λ e. e.answer) goes) (c.goes_to.ensures.reading ∙ sym (ap (λ t. t.next) i.reading)) (sym (ap (λ e. e.core) goes))

pub returns-then-not-goes_to : goal.returns-then-not-goes_to
returns-then-not-goes_to g c =
    let i = c.in-GoTo.ensures in
    let p = c.in-GoTo.to in
    let n = c.in-GoTo.name in
    let stays = subst (λ r. GoesTo p n (core_of c.glance.new.self.machine) r (core_of c.goes_to.new.self.machine)) c.if-not-goes_to.true (c.goes_to.ensures.goes n) in
    carries_takes g.P.Panel.make g.met.P.Panel.laws g.S.CommandSets.reads c.args.self.now c.goes_to.new.self c.carry_out.new.self c.args.byte c.args.faults.now c.carry_out.new.faults
    (GoTo p n) i.calm.0 (ap (λ t. t.outcome) i.reading) (c.goes_to.ensures.reading ∙ sym (ap (λ t. t.next) i.reading)) (stays ∙ ap core_of i.machine) c.carry_out.ensures

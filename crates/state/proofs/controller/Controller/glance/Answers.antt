use Rattle.std.proofs.Common.{sym, ◌∙◌}
use Rattle.state.specs.Core.{core_of}
use Rattle.state.proofs.Glanced.{glanced, selected}
use Rattle.state.proofs.controller.Controller.glance.Goals as goal

pub returns-clause-calm : goal.returns-clause-calm
returns-clause-calm g c =
    let u = c.is_undisturbed.ensures in
    let k = core_of c.args.self.now.machine in
    let yes = c.if-not-is_undisturbed.false in
    glanced g.S.CommandSets.reads c.args.self.now.listener.reading c.glance.new.self.reading c.args.byte c.glance.result k (u.calm yes) (selected k (sym u.value ∙ yes))
    (c.may_put.ensures.puts c.if-not-may_put.false) c.glance.ensures.reading

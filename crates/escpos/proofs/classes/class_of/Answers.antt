use Rattle.std.proofs.Common.{arith}
use Rattle.escpos.proofs.Pages.{class_read}
use Rattle.escpos.proofs.classes.class_of.Goals as goal

pub returns : goal.returns
returns c = rw c.place_of.ensures.place (class_read c.args.page c.args.byte (omega arith))

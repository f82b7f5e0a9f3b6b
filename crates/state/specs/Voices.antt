-- Who speaks.
use Rattle.std.specs.Prelude.{Bool, true, false}
use Rattle.state.specs.declared.listener.Voice.{Voice}
use Rattle.state.specs.declared.listener.Voice.TheVariants.{Host, Macro}

abbrev pub from_host : Voice → Bool
from_host Host = true
from_host Macro = false

-- What is left of a script.
use Rattle.std.specs.Prelude.{◌≤◌, length}
use Rattle.script.specs.declared.lines.Lines.{Lines}

-- no more is left than there was
abbrev pub NoMore : Lines → Lines → Type 0
NoMore before after = length after.rest.now ≤ length before.rest.now

use Rattle.std.proofs.Common.{◌≡◌, drop, vec_items}
use Rattle.script.specs.Splits.{texts, bytes_from, bytes_of}
use Rattle.script.proofs.words.hex_bytes.Given as goal

abbrev pub invariant-loop-word : goal.invariant-loop-word
invariant-loop-word l = bytes_from (vec_items l.out) (texts (drop l.word-index l.words)) ≡ bytes_of (texts l.words)

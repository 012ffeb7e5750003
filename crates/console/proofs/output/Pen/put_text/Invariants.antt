-- Each turn puts the next byte.
use Rattle.std.specs.Prelude.{take}
use Rattle.console.specs.Writing.{Writes}
use Rattle.console.proofs.output.Pen.put_text.Given as goal

abbrev pub invariant-loop-byte : goal.invariant-loop-byte
invariant-loop-byte g l = Writes l.initial.self (take l.byte-index l.text) l.self

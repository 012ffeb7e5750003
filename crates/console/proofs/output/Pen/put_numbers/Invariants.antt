-- Each turn puts a space and the next number.
use Rattle.std.specs.Prelude.{take}
use Rattle.console.specs.Writing.{Writes, spaced}
use Rattle.console.proofs.output.Pen.put_numbers.Given as goal

abbrev pub invariant-loop-n : goal.invariant-loop-n
invariant-loop-n g l = Writes l.initial.self (spaced (take l.n-index l.numbers)) l.self

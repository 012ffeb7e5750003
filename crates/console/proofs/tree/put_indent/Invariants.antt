-- Each turn puts two spaces.
use Rattle.console.specs.Writing.{Writes}
use Rattle.console.specs.Drawn.{indent}
use Rattle.console.proofs.tree.put_indent.Given as goal

abbrev pub invariant-loop : goal.invariant-loop
invariant-loop g l = Writes l.initial.pen (indent l.counter) l.pen

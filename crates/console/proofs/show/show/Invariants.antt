-- Each turn shows the next row.
use Rattle.console.specs.Writing.{Writes}
use Rattle.console.specs.Show.{rows_text}
use Rattle.console.proofs.show.show.Given as goal

abbrev pub invariant-loop-k : goal.invariant-loop-k
invariant-loop-k g l = Writes l.initial.pen (rows_text l.table l.k) l.pen

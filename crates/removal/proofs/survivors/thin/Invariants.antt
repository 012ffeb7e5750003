-- `removal::thin` meets its contract. The loop's invariant is a walk along the list: what is passed is thinned, what is to come is as it
-- was. Assumes nothing.
use Rattle.model.specs.Edition.{edition32}
use Rattle.model.specs.Tables.{lent}
use Rattle.removal.specs.Marking.{marked}
use Rattle.removal.proofs.Walking.{Walked}
use Rattle.removal.proofs.Tables.{whole, rows_of_tables}
use Rattle.removal.proofs.survivors.thin.Given as goal

abbrev pub invariant-loop : goal.invariant-loop
invariant-loop l = Walked edition32 (rows_of_tables (lent l.initial.t l.control)) l.total (marked l.mark) (whole l.mark l.initial.low (lent l.initial.t l.control)) l.t l.low l.row l.counter l.last l.head l.kept

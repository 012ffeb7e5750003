-- `removal::raise_descendants` meets its contract. The loop's invariant: wherever the row stands in the tree, once the rows that are still to
-- come are put up the table is as it should be. Assumes nothing.
use Rattle.model.specs.Edition.{edition32}
use Rattle.model.specs.Tables.{lent, read}
use Rattle.model.proofs.Words.Around.{At}
use Rattle.model.proofs.Words.Edited.{listed_under}
use Rattle.model.proofs.Words.Runs.{raised_run}
use Rattle.removal.specs.Marking.{row_count}
use Rattle.removal.proofs.Raising.{Raising}
use Rattle.removal.proofs.single.raise_descendants.Given as goal

abbrev pub invariant-loop : goal.invariant-loop
invariant-loop l = (p : At l.fn.row.0 (read edition32 (lent l.initial.t l.control)).forest) → Raising (row_count l.initial.t) l.t l.depth (raised_run l.initial.t (listed_under p)) l.next l.counter l.count

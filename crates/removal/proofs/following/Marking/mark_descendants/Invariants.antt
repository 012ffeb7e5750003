-- `removal::Marking::mark_descendants` meets its contract. The loop's invariant: some of the rows below are marked, and the others are to
-- come. Assumes nothing.
use Prim.Native.Nat.{ℕ}
use mathlib.Core.Bool.{Bool}
use Rattle.model.specs.Edition.{edition32}
use Rattle.model.specs.Tables.{lent, read}
use Rattle.model.specs.Operations.{descendants}
use Rattle.removal.specs.Marking.{row_count, Marks}
use Rattle.removal.proofs.Descent.{Descent}
use Rattle.removal.proofs.following.Marking.mark_descendants.Given as goal

abbrev pub invariant-loop : goal.invariant-loop
invariant-loop l =
    (S : ℕ → Bool) × Marks l.t S l.initial.self l.self
    × Descent (row_count l.t) l.t l.depth (descendants (read edition32 (lent l.t l.control)).forest l.fn.row.0) l.next l.counter l.count S

-- `removal::Marking::mark_slots` meets its contract. The loop's invariant: the occupied rows from the first slot up to `row` are marked
-- besides. Assumes nothing.
use Rattle.model.specs.Tables.{cap_of}
use Rattle.removal.specs.Marking.{Marks, between}
use Rattle.removal.proofs.following.Marking.mark_slots.Given as goal

abbrev pub invariant-loop-row : goal.invariant-loop-row
invariant-loop-row l = Marks l.t (between (cap_of l.t) l.first l.row) l.initial.self l.self

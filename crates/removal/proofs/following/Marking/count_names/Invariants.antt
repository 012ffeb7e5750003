-- `removal::Marking::count_names` meets its contract. The loop's invariant: the rows below `row` are counted. Assumes nothing.
use Rattle.model.specs.Tables.{cap_of}
use Rattle.removal.specs.Marking.{Started}
use Rattle.removal.proofs.following.Marking.count_names.Given as goal

abbrev pub invariant-loop-row : goal.invariant-loop-row
invariant-loop-row l = Started (cap_of l.t) l.self l.row

-- `removal::Marking::spread` meets its contract. The loop's invariant: what is counted and what waits, and that the marks have grown only by
-- what every closed set has. The measure is how many of the places in `work` are not taken. Assumes nothing.
use Prim.Native.Nat.{◌-◌}
use Rattle.removal.specs.Marking.{row_count}
use Rattle.removal.proofs.Spreading.{Spreading}
use Rattle.removal.proofs.following.Marking.spread.Given as goal

abbrev pub invariant-loop-taken : goal.invariant-loop-taken
invariant-loop-taken l = Spreading l.t l.initial.self.mark l.self l.taken

abbrev pub decreases-loop-taken : goal.decreases-loop-taken
decreases-loop-taken l = row_count l.t - l.taken

-- Each turn takes the next row of the queue, which has no more than 4096.
use Rattle.std.specs.Prelude.{◌-◌, ◌≤◌}
use Rattle.console.proofs.estate.Estate.close.Given as goal

abbrev pub invariant-loop-done : goal.invariant-loop-done
invariant-loop-done l = l.done ≤ 4096

abbrev pub decreases-loop-done : goal.decreases-loop-done
decreases-loop-done l = 4096 - l.done

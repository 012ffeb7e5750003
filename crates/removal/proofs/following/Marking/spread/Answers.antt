-- `removal::Marking::spread` meets its contract. The loop's invariant: what is counted and what waits, and that the marks have grown only by
-- what every closed set has. The measure is how many of the places in `work` are not taken. Assumes nothing.
use Prim.Native.Nat.{◌<◌}
use native.Mathlib.Omega.{arith}
use Rattle.model.specs.Edition.{most_rows}
use Rattle.removal.proofs.Marking.{counted_few}
use Rattle.removal.proofs.Spreading.{spreading_next, spread_all}
use Rattle.removal.proofs.following.Marking.spread.Goals as goal
use Rattle.removal.proofs.following.Marking.spread.Goals.{In-loop-taken}

-- a place whose turn comes is in `work`
in_work : (c : In-loop-taken) → c.loop-taken.taken < most_rows
in_work c = omega (arith, counted_few c.loop-taken.invariant.counted, c.requires.counted.nodes.few, c.loop-taken-test.true)

pub offset_bounds-self-taken : goal.offset_bounds-self-taken
offset_bounds-self-taken c = omega (arith, in_work (goal.at.offset_bounds-self-taken c).In-loop-taken)

pub bounds-self-taken : goal.bounds-self-taken
bounds-self-taken c = in_work (goal.at.bounds-self-taken c).In-loop-taken

pub loop-taken-smaller : goal.loop-taken-smaller
loop-taken-smaller c = omega (arith, counted_few c.loop-taken.invariant.counted, c.loop-taken-test.true)

pub loop-taken-preserved : goal.loop-taken-preserved
loop-taken-preserved c = spreading_next _ _ _ _ c.loop-taken.invariant c.loop-taken-test.true _ c.mark_slots.ensures

pub returns : goal.returns
returns c = spread_all _ _ _ _ c.loop-taken.invariant c.loop-taken-test.false

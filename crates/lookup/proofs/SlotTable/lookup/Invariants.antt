-- `lookup::lookup` meets its contract: at each way out of the loop, the law of `Levels` for it, from the tests that led there.
-- The measure is the bits left. Assumes nothing.
use Rattle.model.specs.Edition.{edition32}
use Rattle.model.specs.Tables.{cap_of}
use Rattle.model.specs.Lookup.{lookup}
use Rattle.lookup.proofs.Levels.{Going}
use Rattle.lookup.proofs.SlotTable.lookup.Given as goal

abbrev pub invariant-loop-node : goal.invariant-loop-node
invariant-loop-node l = Going l.self.words.now l.address (lookup edition32 (cap_of l.self.words.now) l.initial.node l.address l.initial.left) l.node l.left

abbrev pub decreases-loop-node : goal.decreases-loop-node
decreases-loop-node l = l.left

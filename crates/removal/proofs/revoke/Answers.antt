-- `removal::revoke` meets its contract: the marks spread from the descendants of the row. Assumes nothing.
use Rattle.removal.proofs.Nodes.{nodes}
use Rattle.removal.proofs.Removed.{removes_offspring}
use Rattle.removal.proofs.revoke.Goals as goal

pub of-going-requires : goal.of-going-requires
of-going-requires c = nodes _ c.requires.formed

pub sweep-requires-clause-waiting : goal.sweep-requires-clause-waiting
sweep-requires-clause-waiting c = c.mark_descendants.ensures.waiting 0 c.of-going.ensures.waiting

pub returns : goal.returns
returns c = removes_offspring _ c.requires.formed _ c.of-going.ensures.started c.mark_descendants.ensures _ _ c.sweep.ensures

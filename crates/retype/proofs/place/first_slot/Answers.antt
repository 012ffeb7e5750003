-- `retype::place::first_slot` goes on with a node that is usable.
-- Assumes nothing.
use Rattle.retype.proofs.Passed.{node_usable}
use Rattle.retype.proofs.place.first_slot.Goals as goal

pub vacant_window-requires : goal.vacant_window-requires
vacant_window-requires c = node_usable _ _ _ c.args.slots.now.ready c.requires c.in_ok-n.ensures

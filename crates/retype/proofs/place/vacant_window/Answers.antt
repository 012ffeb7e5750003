-- `retype::place::vacant_window` looks through rows of the table.
-- Assumes nothing.
use Rattle.retype.proofs.Passed.{window_inside}
use Rattle.retype.proofs.place.vacant_window.Goals as goal

pub any_taken-requires : goal.any_taken-requires
any_taken-requires c = window_inside _ _ _ _ c.requires c.in_ok-first.ensures

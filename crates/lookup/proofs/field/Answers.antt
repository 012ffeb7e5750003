-- `lookup::field` meets its contract: a mask of n ones takes the remainder by 2 ^ n.
-- Assumes nothing.
use lib.Bits.{and_mask}
use Rattle.model.specs.Lookup.{field}
use Rattle.lookup.proofs.field.Goals as goal

pub returns : goal.returns
unfolding field
returns c = rw (c.pow2-mask.ensures, and_mask, c.from.ensures)

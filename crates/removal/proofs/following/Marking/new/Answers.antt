-- `removal::Marking::new` meets its contract. Assumes nothing.
use Rattle.removal.proofs.Tallying.{started_none}
use Rattle.removal.proofs.following.Marking.new.Goals as goal

pub returns : goal.returns
returns c = started_none

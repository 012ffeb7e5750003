-- The counting begins from nothing marked.
use Rattle.removal.proofs.Start.{counted_start, waiting_start}
use Rattle.removal.proofs.following.Marking.of.Goals as goal

pub count_names-requires-clause-started : goal.count_names-requires-clause-started
count_names-requires-clause-started c = c.new-going.ensures _

pub returns-clause-counted : goal.returns-clause-counted
returns-clause-counted c = counted_start _ _ c.requires c.count_names.ensures

pub returns-clause-waiting : goal.returns-clause-waiting
returns-clause-waiting c = waiting_start _ _ c.requires c.count_names.ensures

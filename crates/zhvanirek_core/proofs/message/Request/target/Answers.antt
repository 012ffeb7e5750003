-- The place is the service's, and every CNode of the table is usable.
use Rattle.model.specs.Request.{place}
use Rattle.zhvanirek_core.specs.Asking.{target}
use Rattle.zhvanirek_core.proofs.message.Request.target.Goals as goal

pub find-requires : goal.find-requires
unfolding place
find-requires c = rw c.place.ensures (λ node. c.args.slots.now.ready.nodes _ node)

pub returns : goal.returns
unfolding target place
returns c = rw c.place.ensures at c.find.ensures

-- `fill` writes all that the definition takes one after the other.
use Rattle.std.proofs.Common.{arith}
use Rattle.rules.proofs.Marks.{took_filled}
use Rattle.rules.proofs.take.Goals as goal

pub returns : goal.returns
returns c = took_filled _ _ _ _ (omega arith) _ (c.fill.ensures.after (λ y e. e))

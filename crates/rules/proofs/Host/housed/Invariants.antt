-- The rows so far lie in cells that CNodes own.
use Rattle.std.proofs.Common.{◌≡◌, true}
use Rattle.model.specs.Edition.{edition32}
use Rattle.rules.specs.Owners.{homes}
use Rattle.rules.proofs.Host.housed.Given as goal

abbrev pub invariant-loop-k : goal.invariant-loop-k
invariant-loop-k l = homes edition32 l.self.memory.m l.self.table.now l.owner l.k ≡ true

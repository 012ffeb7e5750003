-- The loop keeps `Underway`: the walk of the entries left is the walk of all, which is judged as the rule.
use lib.ListN.{replicate}
use Rattle.model.specs.Edition.{edition32, most_rows}
use Rattle.model.specs.Tables.{follow}
use Rattle.rules.specs.Owners.{walk}
use Rattle.rules.proofs.Stepping.{Underway}
use Rattle.rules.proofs.Host.forest_allowed.Given as goal

abbrev pub invariant-loop : goal.invariant-loop
invariant-loop l = Underway l.self.memory.m l.count l.self.table.now (walk edition32 l.self.memory.m l.self.table.now (replicate most_rows 0) (replicate most_rows 4294967295) (follow edition32 l.self.table.now l.count l.head)) l.above l.owner l.k l.counter

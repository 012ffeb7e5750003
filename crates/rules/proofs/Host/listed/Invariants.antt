-- The rows left are listed exactly if all are, and the depth grows by at most 1 a row.
use Rattle.std.proofs.Common.{◌≡◌, ◌-◌, ◌≤◌}
use Rattle.model.specs.Edition.{edition32}
use Rattle.model.specs.Rules.{listed}
use Rattle.rules.proofs.Host.listed.Given as goal

abbrev pub invariant-loop : goal.invariant-loop
invariant-loop l = record {
  verdict : listed edition32 l.self.memory.m l.self.table.now (l.count - l.counter) l.before l.most l.k ≡ listed edition32 l.self.memory.m l.self.table.now l.count 4294967295 0 l.head;
  shallow : l.most ≤ l.counter;
}

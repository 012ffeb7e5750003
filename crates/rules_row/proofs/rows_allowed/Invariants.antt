-- Each row so far is allowed, and so many are occupied.
use Rattle.std.proofs.Common.{◌≡◌, ◌≤◌, true}
use Rattle.model.specs.Edition.{edition32}
use Rattle.model.specs.Rules.{rows_allowed, occupied}
use Rattle.rules_row.proofs.rows_allowed.Given as goal

abbrev pub invariant-loop-k : goal.invariant-loop-k
invariant-loop-k l = record { allowed : rows_allowed edition32 l.memory.m l.t l.k ≡ true; counted : l.occupied ≡ occupied l.t l.k; most : l.occupied ≤ l.k }

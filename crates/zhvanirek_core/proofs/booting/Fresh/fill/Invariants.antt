-- Words below j are the written table's: each turn stores the next.
use Rattle.std.specs.Prelude.{◌≡◌, ℕ, ◌-◌, ◌<◌, ◌≤◌, length, get_or}
use Rattle.zhvanirek_core.specs.Booting.{boot_table}
use Rattle.zhvanirek_core.proofs.booting.Fresh.fill.Given as goal

abbrev pub invariant-loop-j : goal.invariant-loop-j
invariant-loop-j l = (l.j ≤ length l.table) × (length l.table ≡ length l.initial.table) × ((i : ℕ) → i < l.j → get_or l.table i 0 ≡ get_or (boot_table l.self.m l.self.r) i 0)

abbrev pub decreases-loop-j : goal.decreases-loop-j
decreases-loop-j l = length l.table - l.j

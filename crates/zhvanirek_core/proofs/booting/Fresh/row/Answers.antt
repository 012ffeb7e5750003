-- Each of the three kinds of row is the written table's.
use Rattle.std.specs.Prelude.{ℕ, ◌+◌, ◌≤◌}
use native.Mathlib.Omega.{arith}
use Rattle.model.proofs.Words.Bounds.{m_most, radix_room}
use Rattle.zhvanirek_core.specs.Booting.{Range}
use Rattle.zhvanirek_core.proofs.BootRows.{first_row_lem, empty_row, untyped_row, next_none, next_row_lem}
use Rattle.zhvanirek_core.proofs.booting.Fresh.row.Goals as goal
use Rattle.zhvanirek_core.proofs.booting.Fresh.row.Goals.{else-k-last, then-k-last}

small : {m r : ℕ} → Range m r → (r + 5 ≤ m) × (m ≤ 16)
small g = (radix_room _ g.m_in _ g.r_in, m_most _ g.m_in)

pub overflow_sub-result : goal.overflow_sub-result
overflow_sub-result c = omega (arith, small c.args.self.range)

pub returns-then-k-eq0 : goal.returns-then-k-eq0
returns-then-k-eq0 c = first_row_lem _ _ c.args.self.range _ c.requires c.if-k-eq0.true

pub overflow_sub-last : goal.overflow_sub-last
overflow_sub-last c = omega (arith, small c.args.self.range)

pub overflow_sub-last-2 : goal.overflow_sub-last-2
overflow_sub-last-2 c = omega (arith, small c.args.self.range)

pub returns-then-last-k : goal.returns-then-last-k
returns-then-last-k c = empty_row _ _ c.args.self.range _ c.requires c.if-last-k.true

pub overflow_shl-result : goal.overflow_shl-result
overflow_shl-result c = omega (arith, small c.args.self.range, c.if-last-k.false)

pub returns : goal.returns
returns c =
    untyped_row _ _ c.args.self.range _ c.requires c.if-k-last.next c.if-k-eq0.false c.if-last-k.false
    (elim c.if-k-last.branch [
      | then-k-last w ↦ next_none _ _ _ _ w.if-k-last.true w.next-is
      | else-k-last w ↦ next_row_lem _ _ _ _ w.if-k-last.false w.next-is
    ])

-- An m in range is at least 10.
use native.Mathlib.Omega.{arith}
use Rattle.model.proofs.Words.Bounds.{m_least}
use Rattle.table.proofs.figures.Memory.greatest_radix.Goals as goal

pub overflow_sub-self : goal.overflow_sub-self
overflow_sub-self c = omega (arith, m_least _ c.args.self.in_range)

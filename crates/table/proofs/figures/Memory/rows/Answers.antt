-- The power of two fits a word.
use native.Mathlib.Omega.{arith}
use Rattle.model.specs.Tables.{rows}
use Rattle.model.proofs.Words.Bounds.{m_least, m_most, rows_most}
use Rattle.table.proofs.figures.Memory.rows.Goals as goal

pub overflow_sub-self : goal.overflow_sub-self
overflow_sub-self c = omega (arith, m_least _ c.args.self.in_range)

pub pow2-requires : goal.pow2-requires
pow2-requires c = omega (arith, m_most _ c.args.self.in_range)

pub overflow_cast-result : goal.overflow_cast-result
unfolding rows
overflow_cast-result c = omega (arith, c.pow2.ensures, rows_most _ c.args.self.in_range)

pub returns : goal.returns
unfolding rows
returns c = c.pow2.ensures

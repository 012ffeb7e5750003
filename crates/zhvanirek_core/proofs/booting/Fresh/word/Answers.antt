-- A word of the table is a word of its row.
use native.Mathlib.Omega.{arith}
use Rattle.model.specs.Rules.{m_in_range}
use Rattle.model.proofs.Words.Bounds.{rows_most}
use Rattle.zhvanirek_core.proofs.booting.Fresh.word.Goals as goal

pub overflow_cast-k : goal.overflow_cast-k
unfolding m_in_range
overflow_cast-k c = let g = c.args.self.range in omega (arith, c.requires, rows_most c.args.self.m g.m_in)

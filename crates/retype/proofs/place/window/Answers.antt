-- `retype::place::window` stays within its numbers: a CNode's slots are few.
-- Assumes nothing.
use mathlib.Core.Path.{sym, ◌∙◌}
use native.Mathlib.Omega.{arith}
use lib.Pow.{pow_pos}
use Rattle.model.specs.Cap.{slots, first_row}
use Rattle.model.proofs.Kept.Powers.{exponent_le}
use Rattle.retype.proofs.place.window.Goals as goal

pub slots_of-slots-requires : goal.slots_of-slots-requires
unfolding slots
slots_of-slots-requires c = omega (arith, exponent_le 12 c.args.n.size (omega (arith, c.requires (sym c.is.ensures ∙ c.if-not-is.false))))

pub overflow_cast-slots : goal.overflow_cast-slots
overflow_cast-slots c = omega (arith, c.slots_of-slots.ensures, c.requires (sym c.is.ensures ∙ c.if-not-is.false))

pub overflow_sub-result : goal.overflow_sub-result
unfolding slots
overflow_sub-result c = rw c.slots_of-slots.ensures (pow_pos _)

pub overflow_add-result : goal.overflow_add-result
unfolding first_row
overflow_add-result c = omega (arith, c.row_of.ensures, c.slots_of-slots.ensures, c.if-slots-q.false, c.requires (sym c.is.ensures ∙ c.if-not-is.false))

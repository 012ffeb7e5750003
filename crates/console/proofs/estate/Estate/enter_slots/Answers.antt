-- A CNode of radix 12 has 4096 slots, and one of a smaller radix no more.
use native.Mathlib.Omega.{arith}
use lib.Pow.{pow_mono}
use Rattle.model.specs.Cap.{slots}
use Rattle.console.proofs.estate.Estate.enter_slots.Goals as goal

pub overflow_add-first : goal.overflow_add-first
unfolding slots
overflow_add-first c = omega (arith, c.slots_of-i-end.ensures, pow_mono {i = c.args.cap.size} {j = 12} (omega arith))

-- The bytes of an Untyped: whether they are enough for a window, and how far its objects reach.
use Prim.Native.Nat.{ℕ, zero, suc, ◌-◌, ◌*◌, ◌/◌, ◌^◌, ◌≤◌}
use native.Mathlib.Nat.{le-div_iff_mul-le}
use native.Mathlib.Omega.{arith}
use lib.Pow.{pow_pos, pow_mono}
use Rattle.model.specs.Edition.{edition32}
use Rattle.model.specs.declared.Cap.{Cap}
use Rattle.model.specs.Cap.{bytes, exponent}
use Rattle.model.specs.Operations.{align_up}
use Rattle.model.proofs.Retype.Alignment.{align_most}

-- objects that the bytes are enough for take no more than these
pub objects_most : (bytes e window : ℕ) → window ≤ bytes / 2 ^ e → window * 2 ^ e ≤ bytes
objects_most bytes e window h = (le-div_iff_mul-le (pow_pos e)).0 h

one_most : (u window : ℕ) → 1 ≤ window → u ≤ window * u
one_most u zero h = absurd (omega arith)
one_most u (suc n) h = omega arith

pub bytes_small : (u : Cap) → exponent edition32 (u.kind - 1) u.size ≤ 15 → bytes edition32 u ≤ 32768
unfolding bytes
bytes_small u h = pow_mono {i = exponent edition32 (u.kind - 1) u.size} {j = 15} h

pub at_small : (b from e window : ℕ) → b ≤ 32768 → from ≤ b → 1 ≤ window → window ≤ (b - from) / 2 ^ e → align_up from e ≤ 65536
at_small b from e window h k some l = omega (arith, align_most from e, objects_most (b - from) e window l, one_most (2 ^ e) window some)

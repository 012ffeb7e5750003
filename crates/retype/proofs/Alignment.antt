-- Rounding up to a multiple of a power of two, over the exponent, as shifts of 64 bits.
use Prim.Native.Nat.{ℕ, ◌+◌, ◌-◌, ◌*◌, ◌/◌, ◌%◌, ◌^◌, ◌≤◌, ◌<◌}
use mathlib.Core.Path.{◌≡◌}
use native.Mathlib.Nat.{lt_of_le_of_lt, div-mul-le_self, mod-eq_of_lt}
use native.Mathlib.Omega.{arith}
use lib.Pow.{pow_mono}
use Rattle.model.specs.Operations.{align_up}

-- what is to be cut fits
pub above_fits : (n e : ℕ) → n < 2 ^ 32 → e ≤ 34 → n + (2 ^ e - 1) < 2 ^ 64
above_fits n e h k = let p : 2 ^ e ≤ 2 ^ 34 = pow_mono {i = e} {j = 34} k in omega arith

pub cut : (n e : ℕ) → n < 2 ^ 32 → e ≤ 34 → ((n + (2 ^ e - 1)) / 2 ^ e * 2 ^ e) % 2 ^ 64 ≡ align_up n e
unfolding align_up
cut n e h k = mod-eq_of_lt (lt_of_le_of_lt (div-mul-le_self (n + (2 ^ e - 1)) (2 ^ e)) (above_fits n e h k))

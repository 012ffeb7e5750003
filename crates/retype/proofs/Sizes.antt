-- How large an object that Retype makes can be.
use Prim.Native.Nat.{ℕ, zero, suc, ◌≤◌}
use native.Mathlib.Omega.{arith}
use Rattle.model.specs.Edition.{edition32}
use Rattle.model.specs.Cap.{exponent}
use Rattle.retype.specs.Window.{Known}

pub exponent_small : (object size : ℕ) → Known object size → exponent edition32 object size ≤ 34
unfolding exponent
exponent_small zero size k = omega (arith, k.small)
exponent_small (suc zero) size k = omega arith
exponent_small (suc (suc zero)) size k = omega arith
exponent_small (suc (suc (suc zero))) size k = omega arith
exponent_small (suc (suc (suc (suc zero)))) size k = omega (arith, k.small)
exponent_small (suc (suc (suc (suc (suc zero))))) size k = omega arith
exponent_small (suc (suc (suc (suc (suc (suc n)))))) size k = absurd (omega (arith, k.listed))

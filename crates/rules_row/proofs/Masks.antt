-- A mask takes the remainder by a power of two.
use Prim.Native.Nat.{ℕ, ◌+◌, ◌-◌, ◌%◌, ◌^◌, ◌<◌}
use mathlib.Core.Path.{◌≡◌}
use mathlib.Core.Bool.{false}
use native.Mathlib.Omega.{arith}
use lib.Bits.{bit_and, and_mask}
use lib.Dec.{leb}
use lib.Pow.{pow-lt}
use borrow.Author.Tests.{lt-leb}

pub sixteens : (n : ℕ) → bit_and n 15 ≡ n % 16
sixteens n = and_mask n 4

pub mask : (n k b : ℕ) → b ≡ 2 ^ k → bit_and n (b - 1) ≡ n % 2 ^ k
mask n k b e = rw e (and_mask n k)

-- what is larger than memory does not end in it
pub too_large : (a p m : ℕ) → m < p → leb (a + 2 ^ p) (2 ^ m) ≡ false
too_large a p m h = lt-leb (a + 2 ^ p) (2 ^ m) (omega (arith, pow-lt {i = m} {j = p} h))

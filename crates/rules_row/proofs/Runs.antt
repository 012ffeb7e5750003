-- A test of each number in a part of a list, and of each number below n.
use Prim.Native.Nat.{ℕ, zero, suc, ◌+◌, ◌-◌, ◌≤◌, ◌<◌}
use mathlib.Core.Path.{◌≡◌, sym, ap}
use mathlib.Core.Bool.{Bool, true, false, ◌&&◌}
use mathlib.Core.List.{List}
use native.Mathlib.Omega.{arith}
use native.Mathlib.Numerals.{add-one}
use lib.Dec.{ltb}
use lib.ListN.{get_or, length, take, drop}
use borrow.Author.Tests.{ltb-true, ltb-false}
use Rattle.std.proofs.Math.Bool.{and-false}
use Rattle.std.proofs.Math.Seq.{drop-cons}
use Rattle.std.specs.List.{list_all, between}
use Rattle.model.proofs.Booleans.{either}

-- F is a test that each of n numbers from i on passes, one after the other
module _ (test : ℕ → Bool) (t : List ℕ) (F : ℕ → ℕ → Bool) (none : (i : ℕ) → F i zero ≡ true) (more : (i n : ℕ) → F i (suc n) ≡ (test (get_or t i 0) && F (i + 1) n)) where
  taken : (i n : ℕ) → i + n ≤ length t → list_all test (take n (drop i t)) ≡ F i n
  taken i zero h = sym (none i)
  taken i (suc n) h =
      let l : i < length t = omega arith in
      rw (drop-cons t i 0 l, more i n) (ap (λ (b : Bool). test (get_or t i 0) && b) (rw (← add-one i) (taken (i + 1) n (omega arith))))

  pub all_between : (i n : ℕ) → i + n ≤ length t → list_all test (between i (i + n) t) ≡ F i n
  all_between i n h = let e : i + n - i ≡ n = omega arith in rw e (taken i n h)

-- F n is a test that each number below n passes, one after the other
module _ (test : ℕ → Bool) (F : ℕ → Bool) (more : (k : ℕ) → F (suc k) ≡ (test k && F k)) where
  pub below_on : (k : ℕ) → test k ≡ true → F k ≡ true → F (k + 1) ≡ true
  below_on k h e = rw (add-one k, more k, h) e

  pub below_stops : (n k : ℕ) → k < n → test k ≡ false → F n ≡ false
  below_stops zero k l h = absurd (omega arith)
  below_stops (suc n) k l h =
      either (ltb k n)
      (λ t. rw (more n, below_stops n k (ltb-true k n t) h, and-false))
      (λ f. let e : n ≡ k = omega (arith, ltb-false k n f) in rw (more n, e, h))

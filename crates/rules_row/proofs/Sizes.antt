-- An Untyped is at most half of memory.
use Prim.Native.Nat.{ℕ, ◌-◌, ◌<◌}
use mathlib.Core.Path.{◌≡◌}
use mathlib.Core.Bool.{true, ◌&&◌}
use native.Mathlib.Omega.{arith}
use lib.Dec.{leb}
use Rattle.model.specs.declared.Cap.{Cap}
use Rattle.model.specs.Lists.{within}
use Rattle.model.specs.Edition.{edition32}
use Rattle.model.specs.Cap.{is_untyped}
use Rattle.model.specs.Rules.{m_in_range, size_allowed}
use Rattle.model.proofs.Booleans.{and_right, within_parts}
use Rattle.model.proofs.Words.Bounds.{m_most}

pub untyped_most : (m : ℕ) (c : Cap) → m_in_range edition32 m ≡ true → (leb c.kind 6 && size_allowed edition32 m c) ≡ true → is_untyped c ≡ true → c.size < 64
unfolding size_allowed
untyped_most m c r s u =
    let w : within 4 c.size (m - 1) ≡ true = rw u at (and_right (leb c.kind 6) (size_allowed edition32 m c) s) in
    omega (arith, (within_parts 4 c.size (m - 1) w).1, m_most m r)

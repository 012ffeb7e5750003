-- `retype::memory::memory_for` finds a byte that is small.
-- Assumes nothing.
use Prim.Native.Nat.{◌≤◌}
use native.Mathlib.Omega.{arith}
use Rattle.retype.proofs.Bytes.{bytes_small, at_small}
use Rattle.retype.proofs.memory.memory_for.Goals as goal

pub overflow_cast-result-2 : goal.overflow_cast-result-2
overflow_cast-result-2 c =
    let few : c.bytes_of.result ≤ 32768 = rw c.bytes_of.ensures (bytes_small _ c.requires.small) in
    let fits = rw (c.from.ensures, c.from-2.ensures) at c.if-free-e.false in
    omega (arith, c.align_up.ensures, at_small _ _ _ _ few (rw c.bytes_of.ensures c.requires.inside) c.requires.some fits)

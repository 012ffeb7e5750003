-- `removal::raise_descendants` meets its contract. The loop's invariant: wherever the row stands in the tree, once the rows that are still to
-- come are put up the table is as it should be. Assumes nothing.
use Prim.Native.Nat.{◌+◌, ◌*◌, ◌-◌}
use mathlib.Core.Path.{refl, ap, ◌∙◌}
use native.Mathlib.Omega.{arith}
use lib.ListN.{set}
use Rattle.removal.proofs.Ahead.{ahead_end, ahead_low, ahead_row}
use Rattle.removal.proofs.Descent.{raising_start, stands}
use Rattle.removal.proofs.Raising.{raising_as, raised_all, raising_step}
use Rattle.removal.proofs.single.raise_descendants.Goals as goal

pub loop-init : goal.loop-init
loop-init c = λ p. raising_as refl c.word-depth.ensures c.word-next.ensures (raising_start _ c.requires.formed _ p)

pub returns-then-next : goal.returns-then-next
returns-then-next c = record { is = λ p. let i = c.loop.invariant p in raised_all i (ahead_end i.ahead c.if-next.true) }

pub word-deep-requires : goal.word-deep-requires
word-deep-requires c =
    let i = c.loop.invariant (stands _ c.requires.formed _ c.requires.occupied) in
    omega (arith, ahead_row i.ahead c.if-next.false, i.long)

pub returns-then-deep-depth : goal.returns-then-deep-depth
returns-then-deep-depth c = record { is = λ p. let i = c.loop.invariant p in raised_all i (ahead_low i.ahead (omega (arith, c.word-deep.ensures, c.if-deep-depth.true))) }

pub loop-preserved : goal.loop-preserved
loop-preserved c = λ p.
    raising_as (c.put.ensures ∙ ap (λ d. set c.loop.t (c.loop.next * 8 + 7) (d - 1)) c.word-deep.ensures) refl c.word-after.ensures
    (raising_step (c.loop.invariant p) c.if-next.false (omega (arith, c.word-deep.ensures, c.if-deep-depth.false)))

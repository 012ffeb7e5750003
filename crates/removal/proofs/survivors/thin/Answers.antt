-- `removal::thin` meets its contract. The loop's invariant is a walk along the list: what is passed is thinned, what is to come is as it
-- was. Assumes nothing.
use Prim.Native.Nat.{◌+◌, ◌*◌, ◌≤◌, ◌<◌}
use mathlib.Core.Path.{ap, ◌∙◌}
use native.Mathlib.Omega.{arith}
use lib.ListN.{length, get_or, set}
use borrow.Author.Tests.{ne_eqb}
use Rattle.model.specs.Edition.{most_rows}
use Rattle.model.specs.Stores.{unlinked}
use Rattle.model.proofs.Words.Bounds.{rows_small}
use Rattle.removal.proofs.Walking.{walk_row, walk_small, walk_long, walk_as, walk_drop, walk_keep}
use Rattle.removal.proofs.Tables.{zeros, walk_start, thins}
use Rattle.removal.proofs.survivors.thin.Goals as goal
use Rattle.removal.proofs.survivors.thin.Goals.{In-loop, After-word-deep, then-mark-row, else-mark-row, then-kept-eq0, else-kept-eq0}

-- in a turn the row is in the table
in_table : (c : In-loop) → c.loop.row * 8 + 8 ≤ length c.loop.t
in_table c = omega (arith, walk_row c.loop.invariant c.loop-test.true, walk_long c.loop.invariant)

-- and its depth has a place in `low`
depth_small : (c : After-word-deep) → c.word-deep.result < most_rows
depth_small c = omega (arith, c.word-deep.ensures, walk_small c.loop.invariant c.loop-test.true)

pub loop-init : goal.loop-init
loop-init c = walk_start _ c.requires _ _ (zeros (most_rows + 1))

pub word-next-requires : goal.word-next-requires
word-next-requires c = in_table (goal.at.word-next-requires c).In-loop

pub word-deep-requires : goal.word-deep-requires
word-deep-requires c = in_table (goal.at.word-deep-requires c).In-loop

pub bounds-low-depth : goal.bounds-low-depth
bounds-low-depth c = omega (arith, depth_small (goal.at.bounds-low-depth c).After-word-deep)

pub bounds-mark-row : goal.bounds-mark-row
bounds-mark-row c = omega (arith, walk_row c.loop.invariant c.loop-test.true, rows_small _ c.requires)

pub bounds-low-depth-then-mark-row : goal.bounds-low-depth-then-mark-row
bounds-low-depth-then-mark-row c = omega (arith, depth_small (goal.at.bounds-low-depth-then-mark-row c).After-word-deep)

pub bounds-low-depth-else-mark-row : goal.bounds-low-depth-else-mark-row
bounds-low-depth-else-mark-row c = omega (arith, depth_small (goal.at.bounds-low-depth-else-mark-row c).After-word-deep)

pub loop-preserved : goal.loop-preserved
loop-preserved c =
    let i = c.loop.invariant in
    let more = c.loop-test.true in
    let v = c.loop.t in
    let low = c.loop.low in
    let k = c.loop.row in
    let next = c.word-next.ensures in
    elim c.if-mark-row.branch [
      | then-mark-row w ↦
          walk_as (w.t-is ∙ w.unlink.ensures ∙ ap (unlinked v k c.loop.last) next) (w.low-is ∙ ap (λ d. set low (d + 1) (get_or low d 0)) c.word-deep.ensures) next w.last-is w.head-is w.kept-is
          (walk_drop i more w.if-mark-row.true)
      | else-mark-row w ↦
          walk_as (w.t-is ∙ w.put.ensures ∙ ap (λ d. set v (k * 8 + 7) (get_or low d 0)) c.word-deep.ensures) (w.low-is ∙ ap (λ d. set low (d + 1) (get_or low d 0 + 1)) c.word-deep.ensures) next w.last-is
          (w.head-is
          ∙ elim w.if-kept-eq0.branch [
            | then-kept-eq0 x ↦ rw (x.if-kept-eq0.true) x.head-is
            | else-kept-eq0 x ↦ rw (ne_eqb _ _ x.if-kept-eq0.false) x.head-is
          ])
          w.kept-is
          (walk_keep i more w.if-mark-row.false)
    ]

pub returns : goal.returns
returns c = thins _ c.requires _ _ _ (zeros (most_rows + 1)) _ _ _ _ _ _ c.loop.invariant c.loop-test.false

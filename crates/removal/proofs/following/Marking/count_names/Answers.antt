-- `removal::Marking::count_names` meets its contract. The loop's invariant: the rows below `row` are counted. Assumes nothing.
use Prim.Native.Nat.{◌<◌}
use native.Mathlib.Omega.{arith}
use Rattle.model.specs.Edition.{most_rows}
use Rattle.model.specs.Cap.{is_cnode}
use Rattle.removal.proofs.AtHand.{tested, first_of, first_small}
use Rattle.removal.proofs.Tallying.{started_plain, tally_few, started_node}
use Rattle.removal.proofs.following.Marking.count_names.Goals as goal
use Rattle.removal.proofs.following.Marking.count_names.Goals.{else-is, then-is, After-row_of-first}

-- the CNode that the row names has its first row in the table
small : (c : After-row_of-first) → c.row_of-first.result.0 < most_rows
small c = first_small _ _ _ c.cap_at-cap.ensures _ c.row_of-first.ensures c.requires.nodes (omega (arith, c.loop-row-test.true, c.row_count-row-end.ensures)) (tested _ _ _ c.cap_at-cap.ensures is_cnode c.is.ensures c.if-is.true)

pub bounds-self-first : goal.bounds-self-first
bounds-self-first c = small (goal.at.bounds-self-first c).After-row_of-first

pub overflow_add-self : goal.overflow_add-self
overflow_add-self c = omega (arith, tally_few _ _ _ c.loop-row.invariant _ (small (goal.at.overflow_add-self c).After-row_of-first), c.loop-row-test.true, c.row_count-row-end.ensures, c.requires.nodes.few)

pub bounds-self-first-then-is : goal.bounds-self-first-then-is
bounds-self-first-then-is c = small (goal.at.bounds-self-first-then-is c).After-row_of-first

pub loop-row-preserved : goal.loop-row-preserved
loop-row-preserved c =
    let known = c.cap_at-cap.ensures in
    elim c.if-is.branch [
      | then-is w ↦
          let node = tested _ _ _ known is_cnode c.is.ensures w.if-is.true in
          let is = w.row_of-first.ensures in
          rw w.self-is (started_node _ _ _ c.loop-row.invariant _ (first_small _ _ _ known _ is c.requires.nodes (omega (arith, c.loop-row-test.true, c.row_count-row-end.ensures)) node) node (first_of _ _ _ known _ is))
      | else-is w ↦ rw w.self-is (started_plain _ _ _ c.loop-row.invariant (tested _ _ _ known is_cnode c.is.ensures w.if-is.false))
    ]

-- `removal::Marking::mark_row` meets its contract: each way out is a law of `Marks`. A row that is not marked yet and names a CNode is one of
-- the rows that the CNode's count has, so the count is not 0, and fewer CNodes wait than there are rows. Assumes nothing.
use Prim.Native.Nat.{◌<◌}
use mathlib.Core.Path.{◌≡◌}
use mathlib.Core.Bool.{true}
use native.Mathlib.Omega.{arith}
use lib.ListN.{get_or}
use Rattle.model.specs.Edition.{edition32, most_rows}
use Rattle.model.specs.Cap.{is_empty, is_cnode, first_row}
use Rattle.model.specs.Tables.{cap_of}
use Rattle.removal.proofs.AtHand.{tested, first_of, first_small}
use Rattle.removal.proofs.Marking.{left_some, room_left}
use Rattle.removal.proofs.Marks.{marks_empty, marks_old, marks_plain, marks_node, marks_last}
use Rattle.removal.proofs.following.Marking.mark_row.Goals as goal
use Rattle.removal.proofs.following.Marking.mark_row.Goals.{then-is-via-then-is, then-is-via-else-is+then-self-k, After-row_of-first}

-- the CNode that the row names, once its first row is read
module _ (c : After-row_of-first) where
  node : is_cnode (cap_of c.args.t.now c.args.row.0) ≡ true
  node = tested _ _ _ c.cap_at-cap.ensures is_cnode c.is-2.ensures c.if-not-is.false

  begins : first_row edition32 (cap_of c.args.t.now c.args.row.0) ≡ c.row_of-first.result.0
  begins = first_of _ _ _ c.cap_at-cap.ensures _ c.row_of-first.ensures

  small : c.row_of-first.result.0 < most_rows
  small = first_small _ _ _ c.cap_at-cap.ensures _ c.row_of-first.ensures c.requires.counted.nodes c.requires.inside node

  -- a row that is not marked names it
  some : 0 < get_or c.args.self.now.counts c.row_of-first.result.0 0
  some = omega (arith, left_some _ _ _ c.requires.counted c.requires.inside c.if-self-k.false node _ begins)

  -- so not every row waits
  room : c.args.self.now.filled < most_rows
  room = omega (arith, room_left _ _ _ c.requires.counted c.requires.inside c.if-self-k.false node _ begins, c.requires.counted.nodes.few)

pub returns-then-is : goal.returns-then-is
returns-then-is c =
    elim c.then-is.branch [
      | then-is-via-then-is w ↦ marks_empty _ _ _ c.requires.counted (tested _ _ _ c.cap_at-cap.ensures is_empty c.is.ensures w.if-is.true)
      | then-is-via-else-is+then-self-k w ↦ marks_old _ _ _ c.requires.counted w.if-self-k.true
    ]

pub returns-then-not-is : goal.returns-then-not-is
returns-then-not-is c =
    let known = c.cap_at-cap.ensures in
    marks_plain _ _ _ c.requires.counted c.requires.inside c.if-self-k.false (tested _ _ _ known is_empty c.is.ensures c.if-is.false) (tested _ _ _ known is_cnode c.is-2.ensures c.if-not-is.true)

pub bounds-self-first : goal.bounds-self-first
bounds-self-first c = small (goal.at.bounds-self-first c).After-row_of-first

pub overflow_sub-left : goal.overflow_sub-left
overflow_sub-left c = omega (arith, some (goal.at.overflow_sub-left c).After-row_of-first)

pub bounds-self-first-2 : goal.bounds-self-first-2
bounds-self-first-2 c = small (goal.at.bounds-self-first-2 c).After-row_of-first

pub returns-then-left-ne0 : goal.returns-then-left-ne0
returns-then-left-ne0 c =
    let known = c.cap_at-cap.ensures in
    marks_node _ _ _ c.requires.counted c.requires.inside c.if-self-k.false (tested _ _ _ known is_empty c.is.ensures c.if-is.false) (node (goal.at.returns-then-left-ne0 c).After-row_of-first) _ (begins (goal.at.returns-then-left-ne0 c).After-row_of-first) c.if-left-ne0.true

pub offset_bounds-self-self : goal.offset_bounds-self-self
offset_bounds-self-self c = omega (arith, room (goal.at.offset_bounds-self-self c).After-row_of-first)

pub bounds-self-self : goal.bounds-self-self
bounds-self-self c = room (goal.at.bounds-self-self c).After-row_of-first

pub overflow_add-self : goal.overflow_add-self
overflow_add-self c = omega (arith, room (goal.at.overflow_add-self c).After-row_of-first)

pub returns : goal.returns
returns c =
    let known = c.cap_at-cap.ensures in
    marks_last _ _ _ c.requires.counted c.requires.inside c.if-self-k.false (tested _ _ _ known is_empty c.is.ensures c.if-is.false) (node (goal.at.returns c).After-row_of-first) _ (begins (goal.at.returns c).After-row_of-first) c.if-left-ne0.false

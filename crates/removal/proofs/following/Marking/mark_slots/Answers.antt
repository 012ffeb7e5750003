-- `removal::Marking::mark_slots` meets its contract. The loop's invariant: the occupied rows from the first slot up to `row` are marked
-- besides. Assumes nothing.
use Prim.Native.Nat.{ℕ, ◌+◌, ◌≤◌}
use mathlib.Core.Path.{◌≡◌, ap}
use native.Mathlib.Omega.{arith}
use Rattle.model.specs.Edition.{edition32, most_rows}
use Rattle.model.specs.Cap.{first_row, slots}
use Rattle.model.specs.Tables.{cap_of}
use Rattle.removal.specs.Marking.{row_count}
use Rattle.removal.proofs.AtHand.{first_of}
use Rattle.removal.proofs.Marks.{marks_none, marks_then, marks_as}
use Rattle.removal.proofs.Slots.{between_none, between_next, between_all, radix_small}
use Rattle.removal.proofs.following.Marking.mark_slots.Goals as goal
use Rattle.removal.proofs.following.Marking.mark_slots.Goals.{After-row_of-first}

-- where the CNode's slots begin and end
module _ (c : After-row_of-first) where
  fit : first_row edition32 (cap_of c.args.t.now c.args.node.0) + slots (cap_of c.args.t.now c.args.node.0) ≤ row_count c.args.t.now
  fit = c.requires.counted.nodes.inside c.args.node.0 c.requires.inside c.requires.node

  few : slots c.cap_at-cap.result ≤ most_rows
  few = omega (arith, fit, c.requires.counted.nodes.few, ap slots c.cap_at-cap.ensures)

  ends : (n : ℕ) → n ≡ slots c.cap_at-cap.result → (n ≤ most_rows) × (first_row edition32 (cap_of c.args.t.now c.args.node.0) + slots (cap_of c.args.t.now c.args.node.0) ≡ c.row_of-first.result.0 + n)
  ends n e = (omega (arith, few, e), omega (arith, e, first_of _ _ _ c.cap_at-cap.ensures _ c.row_of-first.ensures, ap slots c.cap_at-cap.ensures))

pub slots_of-requires : goal.slots_of-requires
slots_of-requires c = omega (arith, radix_small _ (few (goal.at.slots_of-requires c).After-row_of-first))

pub overflow_add-end : goal.overflow_add-end
overflow_add-end c = omega (arith, ends (goal.at.overflow_add-end c).After-row_of-first _ c.slots_of.ensures, fit (goal.at.overflow_add-end c).After-row_of-first, c.requires.counted.nodes.few)

pub loop-row-init : goal.loop-row-init
loop-row-init c = marks_none _ _ (between_none _ _) c.requires.counted

pub mark_row-requires-clause-inside : goal.mark_row-requires-clause-inside
mark_row-requires-clause-inside c = omega (arith, c.loop-row-test.true, ends (goal.at.mark_row-requires-clause-inside c).After-row_of-first _ c.slots_of.ensures, fit (goal.at.mark_row-requires-clause-inside c).After-row_of-first)

pub loop-row-preserved : goal.loop-row-preserved
loop-row-preserved c = marks_then _ _ _ _ (λ j. between_next _ _ _ j c.loop-row.auto.row) c.loop-row.invariant c.mark_row.ensures

pub returns : goal.returns
returns c =
    marks_as _ _ _ (λ j.
    between_all _ c.args.node.0 _ _ j c.requires.node (first_of _ _ _ c.cap_at-cap.ensures _ c.row_of-first.ensures)
    (omega (arith, ends (goal.at.returns c).After-row_of-first _ c.slots_of.ensures, c.loop-row.auto.row-end, c.loop-row-test.false))) c.loop-row.invariant

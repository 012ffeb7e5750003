-- `lookup::lookup` meets its contract: at each way out of the loop, the law of `Levels` for it, from the tests that led there.
-- The measure is the bits left. Assumes nothing.
use Prim.Native.Nat.{ℕ, ◌+◌, ◌-◌, ◌*◌, ◌/◌, ◌≤◌, ◌<◌}
use mathlib.Core.Path.{◌≡◌, sym, ap₂, ◌∙◌}
use mathlib.Core.List.{List}
use native.Mathlib.Omega.{arith}
use borrow.Author.Tests.{le-leb, lt-leb}
use mathlib.Core.Bool.{true}
use lib.ListN.{length}
use Rattle.model.specs.declared.Cap.{Cap}
use Rattle.model.specs.Edition.{edition32}
use Rattle.model.specs.Lists.{within}
use Rattle.model.specs.Cap.{is_cnode, first_row}
use Rattle.model.specs.Tables.{cap_of}
use Rattle.model.specs.Lookup.{field, taken, picked, lookup}
use Rattle.model.proofs.Booleans.{parts_within}
use Rattle.lookup.proofs.Levels.{picked_inside, guard_missed_lem, too_deep, done, no_node, node, ends, goes_on}
use Rattle.lookup.specs.Ready.{Usable}
use Rattle.lookup.proofs.SlotTable.lookup.Goals as goal
use Rattle.lookup.proofs.SlotTable.lookup.Goals.{then-depth-lt1-via-else-depth-lt1+then-depth-gt32, then-depth-lt1-via-then-depth-lt1}

-- ---- before the loop

pub returns-then-not-is : goal.returns-then-not-is
unfolding lookup
returns-then-not-is c = rw (lookup, sym c.is.ensures ∙ c.if-not-is.true)

pub returns-then-depth-lt1 : goal.returns-then-depth-lt1
unfolding is_cnode lookup within
returns-then-depth-lt1 c =
    rw (lookup, sym c.is.ensures ∙ c.if-not-is.false)
    (elim c.then-depth-lt1.branch [
      | then-depth-lt1-via-then-depth-lt1 w ↦ rw (lt-leb 1 _ w.if-depth-lt1.true)
      | then-depth-lt1-via-else-depth-lt1+then-depth-gt32 w ↦ rw (le-leb 1 _ w.if-depth-lt1.false) (rw (lt-leb c.args.depth 32 (omega (arith, w.if-depth-gt32.true))))
    ])

pub loop-node-init : goal.loop-node-init
unfolding is_cnode lookup
loop-node-init c =
    let is : is_cnode c.args.root ≡ true = sym c.is.ensures ∙ c.if-not-is.false in
    let least = c.if-depth-lt1.false in
    let most = c.if-depth-gt32.false in
    record {
      usable = c.requires is;
      some = least;
      most = most;
      levels = 32;
      enough = most;
      same = rw (lookup, is) (rw (parts_within 1 _ 32 least most));
    }

-- ---- the tests of a level

pub returns-then-missed : goal.returns-then-missed
returns-then-missed c = ends c.loop-node.invariant (guard_missed_lem _ _ _ _ _ (sym c.guard_missed-missed.ensures ∙ c.if-missed.true))

pub returns-then-left-taken : goal.returns-then-left-taken
unfolding taken
returns-then-left-taken c = ends c.loop-node.invariant (too_deep _ _ _ _ _ (sym c.guard_missed-missed.ensures ∙ c.if-missed.false) c.if-left-taken.true)

-- ---- the slot

-- the row that the code works out is the one that the level picks, and lies in the table
module _ (node : Cap) (address left first slot : ℕ) (begins : first ≡ node.address.0 / 16) (among : slot ≡ field address (left - node.fourth) node.size) where
  there : first + slot ≡ picked edition32 node address left
  unfolding first_row picked
  there = ap₂ ◌+◌ begins among

  inside : (t : List ℕ) → Usable t node → (first + slot) * 8 + 8 ≤ length t
  inside t usable = rw there (picked_inside t node address left usable)

pub overflow_add-row : goal.overflow_add-row
overflow_add-row c = omega (arith, inside _ _ _ _ _ c.row_of-first.ensures c.field.ensures _ c.loop-node.invariant.usable, c.args.self.now.ready.small)

pub returns-then-left-taken-2 : goal.returns-then-left-taken-2
unfolding taken
returns-then-left-taken-2 c =
    ends c.loop-node.invariant
    (done _ _ _ _ _ (sym c.guard_missed-missed.ensures ∙ c.if-missed.false) _ (there _ _ _ _ _ c.row_of-first.ensures c.field.ensures) c.if-left-taken-2.true)

pub cap_at-next-requires : goal.cap_at-next-requires
cap_at-next-requires c = inside _ _ _ _ _ c.row_of-first.ensures c.field.ensures _ c.loop-node.invariant.usable

-- ---- below the slot

-- a level that ends before the address does
more : (node : Cap) (left : ℕ) → node.fourth + node.size ≤ left → (left ≡ node.fourth + node.size → ⊥) → taken node < left
unfolding taken
more node left deep on = omega arith

pub returns-then-not-is-2 : goal.returns-then-not-is-2
unfolding taken
returns-then-not-is-2 c =
    let other = rw c.cap_at-next.ensures at (sym c.is-in-loop-node.ensures ∙ c.if-not-is-2.true) in
    ends c.loop-node.invariant
    (no_node _ _ _ _ _ (sym c.guard_missed-missed.ensures ∙ c.if-missed.false) _ (there _ _ _ _ _ c.row_of-first.ensures c.field.ensures)
    (more c.loop-node.node _ c.if-left-taken.false c.if-left-taken-2.false) other)

pub loop-node-preserved : goal.loop-node-preserved
unfolding taken
loop-node-preserved c =
    let deeper = more c.loop-node.node _ c.if-left-taken.false c.if-left-taken-2.false in
    let next = c.cap_at-next.ensures in
    let is : is_cnode (cap_of c.args.self.now.words.now (c.row_of-first.result.0 + c.field.result)) ≡ true = rw next at (sym c.is-in-loop-node.ensures ∙ c.if-not-is-2.false) in
    rw next
    (goes_on c.loop-node.invariant
    (node _ _ _ _ _ (sym c.guard_missed-missed.ensures ∙ c.if-missed.false) _ (there _ _ _ _ _ c.row_of-first.ensures c.field.ensures) deeper is)
    (c.args.self.now.ready.nodes (c.row_of-first.result.0 + c.field.result) is)
    (omega (arith, deeper))
    (omega (arith, deeper, c.loop-node.invariant.usable.wide)))

-- Well-formed tables are ready for lookup: a row that holds a CNode is one of the table's and allowed, and an allowed CNode is usable.
-- Assumes nothing.
use Prim.Native.Nat.{ℕ, ◌+◌, ◌*◌, ◌≤◌, ◌<◌}
use mathlib.Core.Path.{◌≡◌}
use mathlib.Core.Bool.{true}
use mathlib.Core.List.{List}
use native.Mathlib.Decide.{dec_lt}
use native.Mathlib.Omega.{arith}
use lib.ListN.{length, get_or, get_or-eq_default}
use borrow.Author.Tests.{eqb-true, leb-true}
use Rattle.model.specs.Edition.{edition32}
use Rattle.model.specs.declared.Cap.{Cap}
use Rattle.model.specs.Cap.{is_cnode}
use Rattle.model.specs.Tables.{Tables, cap_of, lent}
use Rattle.model.specs.Rules.{well_formed, cap_allowed, size_allowed, fourth_allowed}
use Rattle.model.proofs.Kept.Allowed.{size_of, fourth_of, cnode_filled, cnode_typed, slots_bound}
use Rattle.model.proofs.Kept.Figures.{sane32}
use Rattle.model.proofs.Words.Bounds.{rows_small, table_long_lem, cap_allowed_lem}
use Rattle.lookup.specs.Ready.{Ready, Usable}

module _ (m : ℕ) (c : Cap) (node : is_cnode c ≡ true) (allowed : cap_allowed edition32 m c ≡ true) where
  short : c.fourth + c.size ≤ 32
  unfolding fourth_allowed
  short = leb-true _ _ (rw (fourth_allowed, node) at (fourth_of edition32 m c allowed))

  wide : 1 ≤ c.size
  unfolding size_allowed
  wide = leb-true _ _ (rw (size_allowed, cnode_typed c node, node) at (size_of edition32 m c allowed))

module _ (t : Tables) (formed : well_formed edition32 t ≡ true) where
  node_row : (k : ℕ) → is_cnode (cap_of t.table k) ≡ true → k * 8 + 8 ≤ length t.table
  unfolding is_cnode cap_of
  node_row k node = elim (dec_lt (k * 8) (length t.table)) [ yes h ↦ omega (arith, table_long_lem t formed) | no h ↦ absurd (beyond h) ]
    where
      beyond : ¬ (k * 8 < length t.table) → ⊥
      beyond h =
          let none : get_or t.table (k * 8 + 0) 0 ≡ 0 = get_or-eq_default t.table 0 (omega arith) in
          let five : get_or t.table (k * 8 + 0) 0 ≡ 5 = eqb-true _ 5 node in
          omega arith

  -- a CNode that is read from the table
  pub usable : (k : ℕ) → is_cnode (cap_of t.table k) ≡ true → Usable t.table (cap_of t.table k)
  usable k node =
      let c = cap_of t.table k in
      let allowed = cap_allowed_lem t formed k (node_row k node) (cnode_filled c node) in
      record {
        short = short _ c node allowed;
        wide = wide _ c node allowed;
        inside = omega (arith, slots_bound sane32 _ c allowed node, table_long_lem t formed);
      }

  pub ready : Ready t.table
  ready = record { small = omega (arith, rows_small t formed, table_long_lem t formed); nodes = usable }

-- the same over the words, as the check applies it
pub ready_words : (t control : List ℕ) → well_formed edition32 (lent t control) ≡ true → Ready t
ready_words t control formed = ready _ formed

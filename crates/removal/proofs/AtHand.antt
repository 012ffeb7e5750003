-- The row at hand, whose capability `cap` is read from the table: what it holds, and the CNode that it names.
use Prim.Native.Nat.{ℕ, ◌/◌, ◌<◌}
use mathlib.Core.Path.{◌≡◌, sym, ap, ◌∙◌}
use mathlib.Core.Bool.{Bool, true}
use mathlib.Core.List.{List}
use native.Mathlib.Omega.{arith}
use Rattle.model.specs.declared.Cap.{Cap}
use Rattle.model.specs.Edition.{edition32, most_rows}
use Rattle.model.specs.Cap.{is_cnode, first_row}
use Rattle.model.specs.Tables.{cap_of}
use Rattle.model.proofs.Kept.Allowed.{some_slot}
use Rattle.removal.specs.Marking.{row_count, Nodes}

module _ (t : List ℕ) (row : ℕ) (cap : Cap) (known : cap ≡ cap_of t row) where
  -- what a test of `cap` finds holds of the row
  pub tested : (test : Cap → Bool) {found b : Bool} → found ≡ test cap → found ≡ b → test (cap_of t row) ≡ b
  tested test is finds = ap test (sym known) ∙ sym is ∙ finds

  -- the CNode that the row names, whose first row is `first`
  module _ (first : ℕ) (is : first ≡ cap.address.0 / 16) where
    pub first_of : first_row edition32 (cap_of t row) ≡ first
    unfolding first_row
    first_of = ap (first_row edition32) (sym known) ∙ sym is

    module _ (nodes : Nodes (row_count t) (cap_of t)) (in_table : row < row_count t) (node : is_cnode (cap_of t row) ≡ true) where
      pub first_inside : first < row_count t
      first_inside = omega (arith, first_of, nodes.inside row in_table node, some_slot (cap_of t row))

      pub first_small : first < most_rows
      first_small = omega (arith, first_inside, nodes.few)

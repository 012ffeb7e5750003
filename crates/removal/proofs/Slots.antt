-- The slots of a CNode, one by one.
use Prim.Native.Nat.{ℕ, ◌+◌, ◌≤◌, ◌<◌}
use mathlib.Core.Path.{◌≡◌, sym}
use mathlib.Core.Bool.{true, false, not, ◌&&◌, ◌||◌}
use native.Mathlib.Omega.{arith}
use native.Mathlib.Decide.{dec_lt}
use lib.Pow.{pow_mono}
use lib.Dec.{leb, ltb, eqb}
use borrow.Author.Tests.{le-leb, lt-leb, lt-ltb, le-ltb, eq-eqb, ne_eqb}
use Rattle.model.specs.declared.Cap.{Cap}
use Rattle.model.specs.Edition.{edition32, most_rows}
use Rattle.model.specs.Cap.{is_empty, is_cnode, first_row, slots, houses}
use Rattle.model.proofs.Distinct.{Order, less, same, more, order}
use Rattle.removal.specs.Marking.{only, between, in_node}
use Rattle.removal.proofs.Marks.{or_false}

module _ (cap : ℕ → Cap) where
  pub between_none : (first j : ℕ) → between cap first first j ≡ false
  unfolding between
  between_none first j = go (order first j)
    where
      go : Order first j → (leb first j && ltb j first && not (is_empty (cap j))) ≡ false
      go (less l) = rw (le-leb first j (omega arith), le-ltb j first (omega arith))
      go (same e) = rw (le-leb first j (omega arith), le-ltb j first (omega arith))
      go (more l) = rw (lt-leb first j l)

  pub between_next : (first row j : ℕ) → first ≤ row → (between cap first row j || only cap row j) ≡ between cap first (row + 1) j
  unfolding between only
  between_next first row j h = go (order j row)
    where
      go : Order j row → ((leb first j && ltb j row && not (is_empty (cap j))) || (eqb j row && not (is_empty (cap j)))) ≡ (leb first j && ltb j (row + 1) && not (is_empty (cap j)))
      go (less l) = rw (lt-ltb j row l, ne_eqb j row (omega arith), lt-ltb j (row + 1) (omega arith)) (sym (or_false (leb first j && true && not (is_empty (cap j)))))
      go (same e) = rw (le-ltb j row (omega arith), eq-eqb j row e, lt-ltb j (row + 1) (omega arith), le-leb first j (omega arith))
      go (more l) = rw (le-ltb j row (omega arith), ne_eqb j row (omega arith), le-ltb j (row + 1) (omega arith)) (sym (or_false (leb first j && false && not (is_empty (cap j)))))

  -- all slots of a CNode
  pub between_all : (node first end j : ℕ) → is_cnode (cap node) ≡ true → first_row edition32 (cap node) ≡ first → first_row edition32 (cap node) + slots (cap node) ≡ end → between cap first end j ≡ in_node cap node j
  unfolding between in_node houses
  between_all node first end j c f e = rw (c, ← f, ← e)

-- ---- the radix of a CNode with no more slots than the largest table has rows

pub radix_small : (c : Cap) → slots c ≤ most_rows → c.size < 32
unfolding slots
radix_small c h =
    elim (dec_lt c.size 32) [
      | yes l ↦ l
      | no l ↦ absurd (omega (arith, pow_mono {i = 32} {j = c.size} (omega arith)))
    ]

-- Who owns each 16 bytes of memory, a cell, along the list: what the check of rows against rows computes.
use Rattle.std.specs.Prelude.{ℕ, zero, suc, ◌+◌, ◌-◌, ◌/◌, ◌^◌, Bool, true, false, cond, not, ◌&&◌, ◌||◌, List, [], ◌∷◌, eqb, ltb, get_or, set, Option, Some, None, option_and_then}
use Rattle.model.specs.declared.Cap.{Cap}
use Rattle.model.specs.Lists.{all_true}
use Rattle.model.specs.Edition.{Edition}
use Rattle.model.specs.Cap.{is_empty, is_untyped, is_cnode, bytes, same_object}
use Rattle.model.specs.Tables.{Listed, rows, word, cap_of}
use Rattle.model.specs.Rules.{inside_below}

-- ---- cells

unfoldable pub first_cell : Cap → ℕ
first_cell c = c.address.0 / 16

unfoldable pub cells : Edition → Cap → ℕ
cells E c = bytes E c / 16

-- `up` owns n cells from i on
unfoldable pub owned_by : List ℕ → (i n up : ℕ) → Bool
owned_by o i zero up = true
owned_by o i (suc n) up = eqb (get_or o i 0) up && owned_by o (i + 1) n up

-- row k takes n cells from i on
unfoldable pub took : List ℕ → (i n k : ℕ) → List ℕ
took o i zero k = o
took o i (suc n) k = took (set o i k) (i + 1) n k

-- ---- an entry

-- the owners after a step, if it breaks no rule
unfoldable pub kept : Bool → List ℕ → Option (List ℕ)
kept b o = cond b (Some o) None

-- all of memory, as a full Untyped: what the rows of depth 0 lie in
unfoldable pub memory : ℕ → Cap
memory m = record { kind = 1; address = record { 0 = 0 }; size = m; third = 2 ^ m; fourth = 0 }

-- the capability of the row that owns a cell, all of memory where none does
unfoldable pub cap_up : Edition → ℕ → List ℕ → ℕ → Cap
cap_up E m t up = cond (eqb up E.none) (memory m) (cap_of t up)

-- row `by` stands at the depth of row k, and names the same typed object
unfoldable pub beside : Edition → ℕ → List ℕ → (k by : ℕ) → Bool
beside E m t k by =
    all_true (ltb by (rows E m) ∷ eqb (word t by 7) (word t k 7) ∷ same_object (cap_of t by) (cap_of t k) ∷ not (is_untyped (cap_of t k)) ∷ [])

-- the entry in row k, whose parent is in row `up`: in an Untyped it lies where it may and takes its cells, or shares those of a sibling
unfoldable pub enter : Edition → ℕ → List ℕ → (up k : ℕ) → List ℕ → Option (List ℕ)
enter E m t up k o =
    cond (is_untyped (cap_up E m t up))
    (cond (inside_below E (cap_up E m t up) (cap_of t k))
    (cond (eqb (get_or o (first_cell (cap_of t k)) 0) up)
    (kept (owned_by o (first_cell (cap_of t k)) (cells E (cap_of t k)) up) (took o (first_cell (cap_of t k)) (cells E (cap_of t k)) k))
    (kept (beside E m t k (get_or o (first_cell (cap_of t k)) 0)) o))
    None)
    (kept (same_object (cap_up E m t up) (cap_of t k)) o)

-- ---- the list

-- the row of the parent of an entry at depth d, where `above` has the last row at each depth
unfoldable pub row_above : Edition → List ℕ → ℕ → ℕ
row_above E above d = cond (eqb d 0) E.none (get_or above (d - 1) 0)

unfoldable pub walk : Edition → ℕ → List ℕ → (above o : List ℕ) → List Listed → Option (List ℕ)
walk E m t above o [] = Some o
walk E m t above o (x ∷ xs) =
    option_and_then (λ p. walk E m t (set above x.depth x.entry.row) p xs) (enter E m t (row_above E above x.depth) x.entry.row o)

-- the occupied rows below k lie in cells that CNodes own
unfoldable pub homes : Edition → ℕ → List ℕ → List ℕ → ℕ → Bool
homes E m t o zero = true
homes E m t o (suc k) = (is_empty (cap_of t k) || (ltb (get_or o k 0) (rows E m) && is_cnode (cap_of t (get_or o k 0)))) && homes E m t o k

unfoldable pub judged : Edition → ℕ → List ℕ → Option (List ℕ) → Bool
judged E m t None = false
judged E m t (Some o) = homes E m t o (rows E m)

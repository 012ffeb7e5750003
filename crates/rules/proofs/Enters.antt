-- What is known of the row that an entry stands in.
use Prim.Native.Nat.{ℕ, ◌+◌, ◌-◌, ◌/◌, ◌^◌, ◌≤◌, ◌<◌}
use mathlib.Core.Path.{◌≡◌, ap}
use mathlib.Core.Bool.{true}
use mathlib.Core.List.{List}
use native.Mathlib.Omega.{arith}
use Rattle.model.specs.declared.Cap.{Cap}
use Rattle.model.specs.Edition.{edition32, most_rows}
use Rattle.model.specs.Cap.{exponent, bytes, limit}
use Rattle.model.specs.Tables.{rows, cap_of}
use Rattle.model.specs.Rules.{cap_allowed}
use Rattle.model.proofs.Kept.Allowed.{limit_of}
use Rattle.model.proofs.Kept.Figures.{sane32}
use Rattle.model.proofs.Kept.Powers.{exponent_le}
use Rattle.model.proofs.Words.Chain.{rows_at, row_taken}
use Rattle.model.proofs.Words.Bounds.{memory_most}
use Rattle.rules.specs.Owners.{first_cell, cells}
use Rattle.rules.specs.Checked.{Scanned, Occupied}
use Rattle.rules.proofs.Cells.{Celled}
use Rattle.rules.proofs.Celling.{celled_of}

module _ (m : ℕ) (t : List ℕ) (scanned : Scanned edition32 m t) (k : ℕ) (at : Occupied edition32 m t k) where
  allowed : cap_allowed edition32 m (cap_of t k) ≡ true
  allowed = row_taken edition32 m t k (rows_at edition32 m t (rows edition32 m) scanned.each k at.below) at.filled

  limited : (cap_of t k).address.0 + bytes edition32 (cap_of t k) ≤ 65536
  unfolding limit
  limited =
      omega (arith, limit_of edition32 m (cap_of t k) allowed, memory_most m scanned.m_range)

  module _ (c : Cap) (is_k : c ≡ cap_of t k) where
    power : 2 ^ exponent edition32 (c.kind - 1) c.size ≤ 65536
    unfolding bytes
    power = rw is_k (omega (arith, limited))

    pub small : exponent edition32 (c.kind - 1) c.size < 64
    small = omega (arith, exponent_le 16 (exponent edition32 (c.kind - 1) c.size) power)

    pub most_bytes : (n : ℕ) → n ≡ bytes edition32 c → n ≤ 65536
    unfolding bytes
    most_bytes n e = rw e power

    as_cells : (n : ℕ) → n ≡ bytes edition32 c → n / 16 ≡ cells edition32 c
    unfolding cells
    as_cells n e = ap (λ (x : ℕ). x / 16) e

    in_array : first_cell c + cells edition32 c ≤ most_rows
    in_array =
        rw is_k
        (let p : Celled edition32 (cap_of t k) = celled_of sane32 m (cap_of t k) allowed at.filled in
        omega (arith, limited, p.starts, p.wide))

    -- n / 16 cells from the one at its address on
    pub fits : (first n : ℕ) → first ≡ c.address.0 / 16 → n ≡ bytes edition32 c → first + n / 16 ≤ most_rows
    unfolding first_cell
    fits first n f e = omega (arith, in_array, f, as_cells n e)

    pub first_in_array : first_cell c < most_rows
    first_in_array =
        rw is_k
        (let p : Celled edition32 (cap_of t k) = celled_of sane32 m (cap_of t k) allowed at.filled in
        omega (arith, limited, p.starts, p.wide, p.some))

pub ruleset entering = (small, most_bytes, fits, first_in_array)

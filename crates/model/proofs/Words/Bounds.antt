-- How large things get on a 32-bit host: m, memory, and the rows, counts, depths and sizes of well-formed tables. The code's sums and shifts
-- rest on these.
use Prim.Native.Nat.{ℕ, ◌+◌, ◌-◌, ◌*◌, ◌^◌, ◌≤◌, ◌<◌}
use mathlib.Core.Path.{◌≡◌}
use mathlib.Core.Bool.{true, false}
use native.Mathlib.Omega.{arith}
use lib.ListN.{get_or, length}
use lib.Pow.{pow_mono}
use Rattle.model.specs.Edition.{edition32, most_rows}
use Rattle.model.specs.Cap.{is_empty, is_untyped}
use Rattle.model.specs.Tables.{Tables, rows, word, cap_of}
use Rattle.model.specs.Rules.{m_in_range, greatest_r, r_in_range, cap_allowed, well_formed}
use Rattle.model.proofs.Booleans.{within_parts}
use Rattle.model.proofs.Kept.Allowed.{untyped_size, untyped_filled}
use Rattle.model.proofs.Words.Chain.{row_taken}
use Rattle.model.proofs.Words.WellFormed.{roomy32, formed}
use Rattle.model.proofs.Words.Held.{counted_most, depth_below}

-- ---- what m in Boot's range gives

module _ (m : ℕ) (ranged : m_in_range edition32 m ≡ true) where
  pub m_least : 10 ≤ m
  unfolding m_in_range
  m_least = (within_parts 10 m 16 ranged).0

  pub m_most : m ≤ 16
  unfolding m_in_range
  m_most = (within_parts 10 m 16 ranged).1

  pub memory_most : 2 ^ m ≤ 65536
  memory_most = pow_mono {i = m} {j = 16} m_most

  pub rows_most : rows edition32 m ≤ most_rows
  unfolding rows
  rows_most = pow_mono {i = m - 4} {j = 12} (omega (arith, m_most))

  -- a boot CNode and an Untyped as large as it have room
  pub radix_room : (r : ℕ) → r_in_range edition32 m r ≡ true → r + 5 ≤ m
  unfolding r_in_range greatest_r
  radix_room r in_r = omega (arith, (within_parts 4 r (greatest_r edition32 m) in_r).1, m_least)

-- ---- what well-formed tables hold

module _ (t : Tables) (e : well_formed edition32 t ≡ true) where
  abbrev m : ℕ
  m = get_or t.control 0 0

  ranged : m_in_range edition32 m ≡ true
  ranged = (formed edition32 roomy32 t e).m_range

  pub memory_small : 2 ^ get_or t.control 0 0 ≤ 65536
  memory_small = memory_most m ranged

  pub rows_small : rows edition32 (get_or t.control 0 0) ≤ most_rows
  rows_small = rows_most m ranged

  pub table_long_lem : length t.table ≡ 8 * rows edition32 (get_or t.control 0 0)
  table_long_lem = (formed edition32 roomy32 t e).table_long

  pub count_small : get_or t.control 3 0 ≤ most_rows
  count_small = omega (arith, rows_small, counted_most edition32 roomy32 t e)

  module _ (k : ℕ) where
    pub row_below : k * 8 + 8 ≤ length t.table → k < rows edition32 (get_or t.control 0 0)
    row_below h = omega (arith, table_long_lem)

    pub depth_small : is_empty (cap_of t.table k) ≡ false → word t.table k 7 < most_rows
    depth_small some = omega (arith, count_small, depth_below edition32 roomy32 t e k some)

    pub cap_allowed_lem : k * 8 + 8 ≤ length t.table → is_empty (cap_of t.table k) ≡ false → cap_allowed edition32 (get_or t.control 0 0) (cap_of t.table k) ≡ true
    cap_allowed_lem h some = row_taken edition32 m t.table k ((formed edition32 roomy32 t e).each_row k (row_below h)) some

    pub size_small : k * 8 + 8 ≤ length t.table → is_untyped (cap_of t.table k) ≡ true → (cap_of t.table k).size ≤ 15
    size_small h untyped = omega (arith, m_most m ranged, (untyped_size edition32 m (cap_of t.table k) (cap_allowed_lem h (untyped_filled (cap_of t.table k) untyped)) untyped).1)

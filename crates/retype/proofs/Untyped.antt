-- An Untyped in a row of well-formed tables: its size, where it lies and its watermark; and a row's depth and the count of rows are small.
use Prim.Native.Nat.{ℕ, ◌+◌, ◌-◌, ◌*◌, ◌≤◌, ◌<◌}
use mathlib.Core.Path.{◌≡◌}
use mathlib.Core.Bool.{true, false}
use native.Mathlib.Omega.{arith}
use lib.ListN.{get_or, length}
use borrow.Author.Tests.{eqb-true}
use Rattle.model.specs.Edition.{edition32, most_rows}
use Rattle.model.specs.declared.Cap.{Cap}
use Rattle.model.specs.Cap.{is_empty, is_untyped, bytes, exponent, limit}
use Rattle.model.specs.Tables.{Tables, rows, word, cap_of}
use Rattle.model.specs.Rules.{well_formed}
use Rattle.model.proofs.Kept.Allowed.{limit_of, mark_of, untyped_filled}
use Rattle.model.proofs.Words.Bounds.{memory_small, rows_small, table_long_lem, count_small, depth_small, cap_allowed_lem, size_small}

-- what is small in tables that keep the rules
pub record Small (t : Tables) (k : ℕ) : Type 0 where
  pub size : exponent edition32 ((cap_of t.table k).kind - 1) (cap_of t.table k).size ≤ 15
  pub place : (cap_of t.table k).address.0 ≤ 65536
  pub mark : (cap_of t.table k).third ≤ bytes edition32 (cap_of t.table k)
  pub depth : word t.table k 7 < most_rows
  pub count : get_or t.control 3 0 ≤ most_rows
  pub long : length t.table ≡ 8 * rows edition32 (get_or t.control 0 0)
  pub few : rows edition32 (get_or t.control 0 0) ≤ most_rows

pub small : (t : Tables) → well_formed edition32 t ≡ true → (k : ℕ) → is_untyped (cap_of t.table k) ≡ true → k * 8 + 8 ≤ length t.table → Small t k
unfolding exponent is_untyped limit
small t e k untyped inside =
    let c : Cap = cap_of t.table k in
    let filled : is_empty c ≡ false = untyped_filled c untyped in
    let allowed = cap_allowed_lem t e k inside filled in
    record {
      size = rw (eqb-true c.kind 1 untyped) (omega (arith, size_small t e k inside untyped));
      place = omega (arith, limit_of edition32 _ c allowed, memory_small t e);
      mark = mark_of edition32 _ c allowed untyped;
      depth = depth_small t e k filled;
      count = count_small t e;
      long = table_long_lem t e;
      few = rows_small t e;
    }

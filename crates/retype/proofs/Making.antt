-- The stores that make a window's objects, put together.
use Prim.Native.Nat.{ℕ, ◌+◌, ◌*◌, ◌%◌, ◌^◌}
use mathlib.Core.Path.{◌≡◌}
use mathlib.Core.List.{List}
use native.Mathlib.Nat.{mod-eq_of_lt}
use native.Mathlib.Omega.{arith}
use lib.ListN.{get_or, set}
use Rattle.model.specs.Edition.{edition32}
use Rattle.model.specs.declared.Retyping.{Retyping}
use Rattle.model.specs.Cap.{exponent}
use Rattle.model.specs.Stores.{linked_run}
use Rattle.model.specs.Tables.{Tables, word}
use Rattle.retype.specs.Laid.{unit, new_rows, laid_out, Layable}

-- the objects' bytes, `w` of 2^x, are a shift
pub laid : (t : Tables) (k first at : ℕ) (q : Retyping) → Layable t k first at q → (address next depth x a w : ℕ) (marked run : List ℕ)
    → address ≡ word t.table k 1 → next ≡ word t.table k 5 → depth ≡ word t.table k 7 → x ≡ exponent edition32 q.object q.size → a ≡ at → w ≡ q.window
    → marked ≡ set t.table (k * 8 + 3) (a + w * 2 ^ x % 2 ^ 64) → run ≡ linked_run marked k next (new_rows q (depth + 1) first (address + at) q.window)
    → record { table = run; control = set t.control 3 (get_or t.control 3 0 + q.window) } ≡ laid_out t k first at q
unfolding laid_out
laid t k first at q l address next depth x a w marked run at_word at_next at_depth by starts all mark links =
    let objects : q.window * unit q % 2 ^ 64 ≡ q.window * unit q = mod-eq_of_lt (omega (arith, l.end)) in
    let count : q.window + get_or t.control 3 0 ≡ get_or t.control 3 0 + q.window = omega arith in
    rw (links, mark, at_word, at_next, at_depth, by, starts, all, objects, count)

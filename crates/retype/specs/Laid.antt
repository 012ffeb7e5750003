-- The window's new capabilities as they are listed, and the tables that hold them.
use Rattle.std.specs.Prelude.{ℕ, ◌+◌, ◌*◌, ◌^◌, ◌≤◌, ◌<◌, List, map, length, get_or, set}
use Rattle.model.specs.declared.Retyping.{Retyping}
use Rattle.model.specs.Edition.{edition32, most_rows}
use Rattle.model.specs.Cap.{exponent}
use Rattle.model.specs.Tree.{Entry}
use Rattle.model.specs.Tables.{Tables, Listed, word}
use Rattle.model.specs.Stores.{linked_run}
use Rattle.model.specs.Operations.{made}
use Rattle.retype.specs.Window.{Known}

-- the bytes of one object of a request
abbrev pub unit : Retyping → ℕ
unit q = 2 ^ exponent edition32 q.object q.size

-- entries listed one after the other, all at one depth
abbrev pub listed_at : (depth : ℕ) → List Entry → List Listed
listed_at depth es = map (λ e. record { entry = e; depth = depth }) es

-- n objects of a request from `address`, named by rows from k, listed at a depth
abbrev pub new_rows : Retyping → (depth k address n : ℕ) → List Listed
new_rows q depth k address n = listed_at depth (made edition32 q.object q.size k address n)

-- what the stores of a window ask: rows in the table, objects within what an address can name
pub record Room (t : List ℕ) (after : ℕ) (q : Retyping) (k address : ℕ) : Type 0 where
  pub known : Known q.object q.size
  pub in_table : after * 8 + 8 ≤ length t
  pub rows : (k + q.window) * 8 ≤ length t
  pub few : k + q.window ≤ most_rows
  pub named : address + q.window * unit q ≤ 4294967296

-- the tables after the window's objects are made from byte `at` of the Untyped in row k, whose watermark is then at their end
unfoldable pub laid_out : Tables → (k first at : ℕ) → Retyping → Tables
laid_out t k first at q =
    record {
      table =
          linked_run (set t.table (k * 8 + 3) (at + q.window * unit q)) k (word t.table k 5)
          (new_rows q (word t.table k 7 + 1) first (word t.table k 1 + at) q.window);
      control = set t.control 3 (q.window + get_or t.control 3 0);
    }

-- what making the window's objects asks: `Room`, and a depth, a count and a watermark that fit
pub record Layable (t : Tables) (k first at : ℕ) (q : Retyping) : Type 0 where
  pub room : Room t.table k q first (word t.table k 1 + at)
  pub depth : word t.table k 7 < most_rows
  pub count : get_or t.control 3 0 ≤ most_rows
  pub end : word t.table k 1 + at + q.window * unit q < 4294967296

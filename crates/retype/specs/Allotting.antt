-- The test of an Untyped's memory, and what the tests before it have shown.
use Rattle.std.specs.Prelude.{Ok, ℕ, ◌+◌, ◌-◌, ◌*◌, ◌/◌, ◌^◌, ◌≤◌, ◌≡◌, true, false, ltb, length}
use Rattle.model.specs.declared.Refusal.TheVariants.{NotEnoughMemory}
use Rattle.model.specs.declared.Cap.{Cap}
use Rattle.model.specs.declared.Retyping.{Retyping}
use Rattle.model.specs.Edition.{Edition, edition32}
use Rattle.model.specs.Cap.{is_cnode, is_untyped, bytes, exponent}
use Rattle.model.specs.Check.{Check, ◌>>◌, refuse}
use Rattle.model.specs.Rules.{well_formed}
use Rattle.model.specs.Tables.{Tables, cap_of}
use Rattle.model.specs.Tree.{Forest, cap_at}
use Rattle.model.specs.Operations.{Done, align_up, start, allot}
use Rattle.lookup.specs.Ready.{Usable}
use Rattle.retype.specs.Window.{Known, taken_by}

-- the byte of the Untyped u at which the window's objects begin, if the bytes from `from` on are enough
unfoldable pub memory_for : Edition → (u : Cap) → (from : ℕ) → Retyping → Check ℕ
memory_for E u from q = do
  refuse (NotEnoughMemory (bytes E u - from)) (ltb ((bytes E u - from) / 2 ^ exponent E q.object q.size) q.window)
  Ok (align_up from (exponent E q.object q.size))

-- an Untyped of at most half the largest memory, a byte of it, and a request for one object or more
pub record Bounded (u : Cap) (from : ℕ) (q : Retyping) : Type 0 where
  pub known : Known q.object q.size
  pub small : exponent edition32 (u.kind - 1) u.size ≤ 15
  pub inside : from ≤ bytes edition32 u
  pub some : 1 ≤ q.window

-- what Retype asks: tables that keep the rules, an Untyped in row k, and a root that is usable if it is a CNode
pub record Retypable (t : Tables) (k : ℕ) (q : Retyping) : Type 0 where
  pub formed : well_formed edition32 t ≡ true
  pub untyped : is_untyped (cap_of t.table k) ≡ true
  pub in_table : k * 8 + 8 ≤ length t.table
  pub usable : is_cnode q.into.root ≡ true → Usable t.table q.into.root

-- tables that keep the rules, an Untyped in row k, and a window of empty rows of the table from `first` on
pub record Vacant (t : Tables) (k : ℕ) (q : Retyping) (first : ℕ) : Type 0 where
  pub formed : well_formed edition32 t ≡ true
  pub untyped : is_untyped (cap_of t.table k) ≡ true
  pub in_table : k * 8 + 8 ≤ length t.table
  pub known : Known q.object q.size
  pub some : 1 ≤ q.window
  pub rows : (first + q.window) * 8 ≤ length t.table
  pub free : taken_by (cap_of t.table) first q.window ≡ false

-- the memory of the Untyped in row k for the window from `first` on
abbrev pub allotting : (k first : ℕ) → Retyping → Forest → Check Done
allotting k first q f = allot edition32 k (cap_at f k) (start f k (cap_at f k)) q first

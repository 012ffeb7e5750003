-- Retype's tests up to the first slot of its window, where `caps` gives the capability in each row.
use Rattle.std.specs.Prelude.{Ok, ℕ, zero, suc, ◌+◌, ◌-◌, ◌≤◌, Bool, true, false, not, ◌||◌, leb, ltb, eqb}
use Rattle.model.specs.declared.Refusal.TheVariants.{InvalidArgument, RangeError, FailedLookup, DeleteFirst}
use Rattle.model.specs.declared.Cap.{Cap}
use Rattle.model.specs.declared.Failure.TheVariants.{Missing}
use Rattle.model.specs.declared.Place.{Place}
use Rattle.model.specs.declared.Retyping.{Retyping}
use Rattle.model.specs.Edition.{Edition}
use Rattle.model.specs.Cap.{is_empty, is_cnode, first_row, slots}
use Rattle.model.specs.Check.{Check, ◌>>=◌, ◌>>◌, refuse}
use Rattle.model.specs.Lookup.{lookup}
use Rattle.model.specs.Operations.{slot_of, size_barred}

-- a type of the table of sizes, and a size that Retype takes
pub record Known (object size : ℕ) : Type 0 where
  pub listed : object ≤ 5
  pub small : size ≤ 30

-- the tests of the object type and size
unfoldable pub sized : Edition → (object size : ℕ) → Check (Unit {0})
sized E object size = do
  refuse (InvalidArgument 0) (ltb 5 object)
  refuse (RangeError 0 E.greatest_size) (ltb E.greatest_size size)
  refuse (InvalidArgument 1) (size_barred E object size)

-- what is to take the new capabilities: at depth 0 the root itself
unfoldable pub node_by : Edition → (caps : ℕ → Cap) → Place → Check Cap
node_by E caps p =
    elim (eqb p.depth 0) [
      | true ↦ Ok p.root
      | false ↦ do
        k ← slot_of E p.source (lookup E caps p.root p.index p.depth)
        Ok (caps k)
    ]

-- the first slot of the window in the node n
unfoldable pub window_in : Edition → (n : Cap) → Retyping → Check ℕ
window_in E n q = do
  refuse (FailedLookup false (Missing q.into.depth)) (not (is_cnode n))
  refuse (RangeError 0 (slots n - 1)) (leb (slots n) q.offset)
  refuse (RangeError 1 256) (eqb q.window 0 || ltb 256 q.window)
  refuse (RangeError 1 (slots n - q.offset)) (ltb (slots n - q.offset) q.window)
  Ok (first_row E n + q.offset)

-- of the n rows from k, one is occupied
unfoldable pub taken_by : (caps : ℕ → Cap) → (k n : ℕ) → Bool
taken_by caps k zero = false
taken_by caps k (suc n) = not (is_empty (caps k)) || taken_by caps (k + 1) n

-- the first slot of the window in the node n, if all its slots are empty
unfoldable pub vacant_in : Edition → (caps : ℕ → Cap) → (n : Cap) → Retyping → Check ℕ
vacant_in E caps n q = do
  k ← window_in E n q
  refuse DeleteFirst (taken_by caps k q.window)
  Ok k

-- all tests but that of the memory
unfoldable pub first_slot : Edition → (caps : ℕ → Cap) → Retyping → Check ℕ
first_slot E caps q = do
  sized E q.object q.size
  n ← node_by E caps q.into
  vacant_in E caps n q

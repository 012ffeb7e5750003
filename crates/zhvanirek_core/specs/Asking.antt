-- A request's common order up to what the operation does, over the capabilities of the rows.
use Rattle.std.specs.Prelude.{Ok}
use Rattle.std.specs.Prelude.{ℕ, false, not, List, length, nat_lt, slice_index}
use Rattle.model.specs.declared.Refusal.TheVariants.{InvalidCapability, IllegalOperation, TruncatedMessage}
use Rattle.model.specs.declared.Cap.{Cap}
use Rattle.model.specs.declared.Retyping.{Retyping}
use Rattle.model.specs.Edition.{edition32}
use Rattle.model.specs.Cap.{is_empty}
use Rattle.model.specs.Check.{Check, ◌>>=◌, ◌>>◌, refuse}
use Rattle.model.specs.Lookup.{lookup}
use Rattle.model.specs.Operations.{slot_of}
use Rattle.model.specs.Request.{or_fault, operation_of, invokes, words_of, place}

-- the row that message word `at` names, looked up from the caller's row
unfoldable pub row_named_by : (caps : ℕ → Cap) → (caller : ℕ) → (message : List ℕ) → (at : ℕ) → Check ℕ
row_named_by caps caller message at = or_fault at (lookup edition32 caps (caps caller) (slice_index message at) 32)

-- the service's row, once it may be asked
unfoldable pub asked : (caps : ℕ → Cap) → (caller : ℕ) → (message : List ℕ) → Check ℕ
asked caps caller message = do
  refuse TruncatedMessage (nat_lt (length message) 2)
  k ← row_named_by caps caller message 1
  refuse InvalidCapability (is_empty (caps k))
  refuse IllegalOperation (not (invokes (caps k) (operation_of (slice_index message 0))))
  refuse TruncatedMessage (nat_lt (length message) (words_of (operation_of (slice_index message 0))))
  Ok k

-- the row that words 2 and 3 name, from the service's
unfoldable pub target : (caps : ℕ → Cap) → (message : List ℕ) → (k : ℕ) → Check ℕ
target caps message k =
    slot_of edition32 false (lookup edition32 caps (place (caps k) message 2 false).root (place (caps k) message 2 false).index (place (caps k) message 2 false).depth)

-- what a message asks of Retype, with its root in row `root`
unfoldable pub retyping_by : (caps : ℕ → Cap) → (message : List ℕ) → (root : ℕ) → Retyping
retyping_by caps message root =
    record {
      object = slice_index message 2;
      size = slice_index message 3;
      into = place (caps root) message 5 false;
      offset = slice_index message 7;
      window = slice_index message 8;
    }

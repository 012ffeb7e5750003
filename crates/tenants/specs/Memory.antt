-- What holds of memory throughout a run of requests, said of the table's words.
use Rattle.std.specs.Prelude.{Ok}
use Rattle.std.specs.Prelude.{ℕ, ◌+◌, ◌<◌, ◌≤◌, ◌≡◌, Bool, false, not, true, ◌&&◌, List, get_or, length}
use Rattle.model.specs.declared.Cap.{Cap}
use Rattle.model.specs.Lists.{member}
use Rattle.model.specs.Edition.{Edition}
use Rattle.model.specs.Cap.{apart, first_row, is_cnode, is_empty, is_untyped, slots}
use Rattle.model.specs.Tree.{cap_at}
use Rattle.model.specs.Check.{Check, ◌>>=◌}
use Rattle.model.specs.Tables.{Tables, cap_of, read}
use Rattle.model.specs.Rules.{well_formed}
use Rattle.model.specs.Operations.{descendants, find, node}
use Rattle.model.specs.Request.{place, request, row_named}
use Rattle.model.specs.Tenants.{Sent, tables_after}

-- Requests on well-formed tables end in well-formed tables.
abbrev pub StaysWellFormed : Edition → Type 0
StaysWellFormed E = (t : Tables) → well_formed E t ≡ true → (zs : List (Sent (List ℕ))) → well_formed E (tables_after E t zs) ≡ true

-- ---- live objects

-- row k names a typed object
unfoldable pub names_typed : Tables → ℕ → Bool
names_typed t k = not (is_empty (cap_of t.table k)) && not (is_untyped (cap_of t.table k))

-- Throughout a run of requests live typed objects are the same or disjoint.
abbrev pub LiveApart : Edition → Type 0
LiveApart E =
    (t : Tables) → well_formed E t ≡ true → (zs : List (Sent (List ℕ)))
    → (j k : ℕ) → names_typed (tables_after E t zs) j ≡ true → names_typed (tables_after E t zs) k ≡ true
    → apart E (cap_of (tables_after E t zs).table j) (cap_of (tables_after E t zs).table k) ≡ true

-- ---- Revoke

-- the row that a Delete or a Revoke names
unfoldable pub target_of : Edition → Tables → (caller : ℕ) → (message : List ℕ) → Check ℕ
target_of E t caller message = do
  service ← row_named E (read E t).forest caller message 1
  find E (read E t).forest (place (cap_at (read E t).forest service) message 2 false)

-- a request is a Revoke of row k, and succeeds
pub record Revokes (E : Edition) (t : Tables) (caller : ℕ) (message : List ℕ) (k : ℕ) : Type 0 where
  pub operation : get_or message 0 0 ≡ 6
  pub target : target_of E t caller message ≡ Ok k
  pub count : ℕ
  pub answer : (request E t caller message).answer ≡ Ok count

-- A successful Revoke leaves none of the descendants that its target had.
abbrev pub RevokeClears : Edition → Type 0
RevokeClears E =
    (t : Tables) → well_formed E t ≡ true → (caller : ℕ) (message : List ℕ) (k : ℕ) → Revokes E t caller message k
    → (d : ℕ) → member d (descendants (read E t).forest k) ≡ true → is_empty (cap_of (request E t caller message).tables.table d) ≡ true

-- ---- Retype after it

-- a request is a Retype of row k as one Untyped of this size, into an empty slot that it names
pub record RetypesWhole (E : Edition) (t : Tables) (caller : ℕ) (message : List ℕ) (k size : ℕ) : Type 0 where
  pub long : 9 ≤ length message
  pub operation : get_or message 0 0 ≡ 8
  pub service : row_named E (read E t).forest caller message 1 ≡ Ok k
  pub object : get_or message 2 0 ≡ 0
  pub asked : get_or message 3 0 ≡ size
  pub root : ℕ
  pub rooted : row_named E (read E t).forest caller message 4 ≡ Ok root
  pub into : Cap
  pub found : node E (read E t).forest (place (cap_at (read E t).forest root) message 5 false) ≡ Ok into
  pub cnode : is_cnode into ≡ true
  pub among : get_or message 7 0 < slots into
  pub vacant : is_empty (cap_of t.table (first_row E into + get_or message 7 0)) ≡ true
  pub window : get_or message 8 0 ≡ 1

-- After a request that revoked an Untyped that is still there, a Retype of it as one Untyped of its own size answers 0 1.
abbrev pub FreedIsUsedAgain : Edition → Type 0
FreedIsUsedAgain E =
    (t : Tables) → well_formed E t ≡ true → (caller : ℕ) (message : List ℕ) (k : ℕ) → Revokes E t caller message k
    → is_untyped (cap_of t.table k) ≡ true → is_empty (cap_of (request E t caller message).tables.table k) ≡ false
    → (caller' : ℕ) (message' : List ℕ) → RetypesWhole E (request E t caller message).tables caller' message' k (cap_of t.table k).size
    → (request E (request E t caller message).tables caller' message').answer ≡ Ok 1

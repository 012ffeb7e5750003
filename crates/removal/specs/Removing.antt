-- What a removal leaves of the tables.
use Rattle.std.specs.Prelude.{ℕ, ◌+◌, ◌≡◌, Bool, true, false, cond, not, ◌&&◌, ◌||◌, List, [], ◌∷◌, eqb, ltb, length}
use Rattle.model.specs.declared.Cap.{Cap}
use Rattle.model.specs.Lists.{member, count}
use Rattle.model.specs.Edition.{edition32}
use Rattle.model.specs.Cap.{is_empty, is_cnode, same_object}
use Rattle.model.specs.Tree.{edit, without, entries, cap_at}
use Rattle.model.specs.Tables.{Tables, read, write}
use Rattle.model.specs.Operations.{remove, descendants}
use Rattle.model.specs.Request.{Changed, applied}
use Rattle.model.proofs.Words.Around.{At}
use Rattle.model.proofs.Words.Edited.{listed_under}
use Rattle.model.proofs.Words.Runs.{raised_run}
use Rattle.removal.specs.Marking.{marked}

-- the marked rows are gone from the tables, `gone` of them
pub record Thins (mark : List Bool) (t t' : Tables) (gone : ℕ) : Type 0 where
  pub tables : (dead : List ℕ) → ((k : ℕ) → marked mark k ≡ member k dead)
      → t' ≡ write edition32 (record { m = (read edition32 t).m; r = (read edition32 t).r; forest = edit (without dead) (read edition32 t).forest })
  pub count : (dead : List ℕ) → ((k : ℕ) → marked mark k ≡ member k dead)
      → gone + length (entries (edit (without dead) (read edition32 t).forest)) ≡ length (entries (read edition32 t).forest)

-- the state and the count when the rows of `start` go, with all that follows
abbrev pub after_removal : Tables → (start : List ℕ) → Changed
after_removal t start = applied (read edition32 t) (remove edition32 (read edition32 t).forest start)

-- Delete starts from one occupied row
abbrev pub target : Tables → (k : ℕ) → List ℕ
target t k = cond (is_empty (cap_at (read edition32 t).forest k)) [] (k ∷ [])

-- Revoke from all descendants of a row
abbrev pub offspring : Tables → (k : ℕ) → List ℕ
offspring t k = descendants (read edition32 t).forest k

-- row j is one of them
abbrev pub is_offspring : Tables → (k j : ℕ) → Bool
is_offspring t k j = member j (offspring t k)

-- the answer's count and the tables are those of the removal
pub record Removes (t t' : Tables) (start : List ℕ) (gone : ℕ) : Type 0 where
  pub count : gone ≡ (after_removal t start).count
  pub tables : t' ≡ write edition32 (after_removal t start).state

-- the rows of `start` are marked, and they go, with all that follows
pub record Sweeps (mark : List Bool) (t t' : Tables) (gone : ℕ) : Type 0 where
  pub removes : (start : List ℕ) → ((k : ℕ) → marked mark k ≡ member k start)
      → ((k : ℕ) → member k start ≡ true → is_empty (cap_at (read edition32 t).forest k) ≡ false)
      → Removes t t' start gone

-- ---- one row by itself

-- row j is one of n, another than row k, and names what row k names
unfoldable pub also_names : (ℕ → Cap) → (n k j : ℕ) → Bool
also_names cap n k j = ltb j n && not (eqb j k) && same_object (cap k) (cap j)

-- one of n rows is
unfoldable pub named_elsewhere : (ℕ → Cap) → (n k : ℕ) → Bool
named_elsewhere cap n k = ltb 0 (count (also_names cap n k) n)

-- nothing follows row k: it names no CNode, or one that another of n rows names too
unfoldable pub goes_alone : (ℕ → Cap) → (n k : ℕ) → Bool
goes_alone cap n k = not (is_cnode (cap k)) || named_elsewhere cap n k

unfoldable pub occupied : Tables → (k : ℕ) → Bool
occupied t k = not (is_empty (cap_at (read edition32 t).forest k))

-- the table with all that is below a row one up
pub record Raises (t : Tables) (k : ℕ) (table : List ℕ) : Type 0 where
  pub is : (p : At k (read edition32 t).forest) → table ≡ raised_run t.table (listed_under p)

-- the tables without row k
abbrev pub without_row : Tables → (k : ℕ) → Tables
without_row t k = write edition32 (record { m = (read edition32 t).m; r = (read edition32 t).r; forest = edit (without (k ∷ [])) (read edition32 t).forest })

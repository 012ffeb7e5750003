-- The rows that are marked to go, the counts of the rows that still name each CNode, and the CNodes that wait to be emptied.
use Rattle.std.specs.Prelude.{ℕ, ◌+◌, ◌/◌, ◌≤◌, ◌<◌, ◌≡◌, Bool, true, false, not, ◌&&◌, ◌||◌, List, leb, ltb, eqb, get_or, length}
use Rattle.model.specs.declared.Cap.{Cap}
use Rattle.removal.specs.declared.following.Marking.{Marking}
use Rattle.model.specs.Edition.{edition32, most_rows}
use Rattle.model.specs.Cap.{is_empty, is_cnode, first_row, slots, same_object, houses}
use Rattle.model.specs.Lists.{count}
use Rattle.model.specs.Tables.{cap_of}

-- row k is marked
abbrev pub marked : List Bool → ℕ → Bool
marked mark k = get_or mark k false

-- row k names the CNode whose first slot is row c
unfoldable pub names : (ℕ → Cap) → (c k : ℕ) → Bool
names cap c k = is_cnode (cap k) && eqb (first_row edition32 (cap k)) c

-- so does row k, and it is not marked
unfoldable pub still_names : (ℕ → Cap) → (mark : List Bool) → (c k : ℕ) → Bool
still_names cap mark c k = names cap c k && not (marked mark k)

-- of the rows below n, how many name each CNode
pub record Tally (cap : ℕ → Cap) (counts : List ℕ) (n : ℕ) : Type 0 where
  pub long : length counts ≡ most_rows
  pub each : (c : ℕ) → c < most_rows → get_or counts c 0 ≡ count (names cap c) n

-- ---- a table

abbrev pub row_count : List ℕ → ℕ
row_count t = length t / 8

-- the CNodes of n rows: each lies in the table, and those with the same first slot are one
pub record Nodes (n : ℕ) (cap : ℕ → Cap) : Type 0 where
  pub few : n ≤ most_rows
  pub inside : (k : ℕ) → k < n → is_cnode (cap k) ≡ true → first_row edition32 (cap k) + slots (cap k) ≤ n
  pub alike : (j k : ℕ) → j < n → k < n → is_cnode (cap j) ≡ true → is_cnode (cap k) ≡ true → first_row edition32 (cap j) ≡ first_row edition32 (cap k) → same_object (cap j) (cap k) ≡ true

-- a set of rows with all occupied rows of each CNode whose every name is in the set
abbrev pub ClosedRows : (n : ℕ) → (cap : ℕ → Cap) → (ℕ → Bool) → Type 0
ClosedRows n cap S =
    (c k : ℕ) → c < n → k < n → is_cnode (cap c) ≡ true → houses edition32 (cap c) k ≡ true → is_empty (cap k) ≡ false
    → ((j : ℕ) → j < n → same_object (cap c) (cap j) ≡ true → S j ≡ true)
    → S k ≡ true

-- no row is marked, no CNode waits, and of the rows below n it is counted how many name each CNode
pub record Started (cap : ℕ → Cap) (m : Marking) (n : ℕ) : Type 0 where
  pub long : length m.mark ≡ most_rows
  pub deep : length m.work ≡ most_rows
  pub clear : (k : ℕ) → marked m.mark k ≡ false
  pub empty : m.filled ≡ 0
  pub tally : Tally cap m.counts n

-- ---- the state of a removal

-- the CNodes lie in the table, for each it is counted how many rows that are not marked name it, and no more CNodes have waited than rows
-- are marked
pub record Counted (t : List ℕ) (m : Marking) : Type 0 where
  pub nodes : Nodes (row_count t) (cap_of t)
  pub long : row_count t ≤ length m.mark
  pub wide : row_count t ≤ length m.counts
  pub left : (c : ℕ) → c < row_count t → get_or m.counts c 0 ≡ count (still_names (cap_of t) m.mark c) (row_count t)
  pub room : m.filled ≤ count (marked m.mark) (row_count t)

-- a row that names a CNode that no row names any more
pub record Lost (n : ℕ) (cap : ℕ → Cap) (counts : List ℕ) (k : ℕ) : Type 0 where
  pub in_table : k < n
  pub node : is_cnode (cap k) ≡ true
  pub unnamed : get_or counts (first_row edition32 (cap k)) 0 ≡ 0

-- the CNode of row c waits, or all its occupied rows are marked
pub data Served (n : ℕ) (cap : ℕ → Cap) (m : Marking) (taken c : ℕ) : Type 0 where
  waits : (i : ℕ) → taken ≤ i → i < m.filled → first_row edition32 (cap (get_or m.work i 0)) ≡ first_row edition32 (cap c) → Served n cap m taken c
  emptied : ((k : ℕ) → k < n → houses edition32 (cap c) k ≡ true → is_empty (cap k) ≡ false → marked m.mark k ≡ true) → Served n cap m taken c

-- of the rows in `work` those from `taken` on wait
pub record Waiting (t : List ℕ) (m : Marking) (taken : ℕ) : Type 0 where
  pub deep : row_count t ≤ length m.work
  pub in_order : taken ≤ m.filled
  pub lost : (i : ℕ) → taken ≤ i → i < m.filled → Lost (row_count t) (cap_of t) m.counts (get_or m.work i 0)
  pub served : (c : ℕ) → Lost (row_count t) (cap_of t) m.counts c → Served (row_count t) (cap_of t) m taken c

-- the rows of S are marked besides, and whatever waited is kept
pub record Marks (t : List ℕ) (S : ℕ → Bool) (m m' : Marking) : Type 0 where
  pub marks : (j : ℕ) → marked m'.mark j ≡ (marked m.mark j || S j)
  pub more : m.filled ≤ m'.filled
  pub kept : (i : ℕ) → i < m.filled → get_or m'.work i 0 ≡ get_or m.work i 0
  pub counted : Counted t m'
  pub waiting : (taken : ℕ) → Waiting t m taken → Waiting t m' taken

-- row k alone, if it is occupied
unfoldable pub only : (ℕ → Cap) → (k j : ℕ) → Bool
only cap k j = eqb j k && not (is_empty (cap j))

-- the occupied slots of the CNode in row c
unfoldable pub in_node : (ℕ → Cap) → (c j : ℕ) → Bool
in_node cap c j = houses edition32 (cap c) j && not (is_empty (cap j))

-- the occupied rows from `first` up to `end`
unfoldable pub between : (ℕ → Cap) → (first end j : ℕ) → Bool
between cap first end j = leb first j && ltb j end && not (is_empty (cap j))

-- the marks at the end are the least closed set that holds those at the start
pub record Spread (n : ℕ) (cap : ℕ → Cap) (mark mark' : List Bool) : Type 0 where
  pub holds : (k : ℕ) → marked mark k ≡ true → marked mark' k ≡ true
  pub closed : ClosedRows n cap (marked mark')
  pub least : (S : ℕ → Bool) → ClosedRows n cap S → ((k : ℕ) → marked mark k ≡ true → S k ≡ true) → (k : ℕ) → marked mark' k ≡ true → S k ≡ true

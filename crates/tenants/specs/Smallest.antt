-- Estates, and what Delete and Revoke remove, are the smallest sets of document 01: closed, and inside every closed set with what they
-- start from.
use Rattle.std.specs.Prelude.{ℕ, ◌<◌, ◌≡◌, Bool, true}
use mathlib.Core.List.{List, Memᴰ}
use Rattle.model.specs.Lists.{member}
use Rattle.model.specs.Edition.{Edition}
use Rattle.model.specs.Cap.{houses, same_object}
use Rattle.model.specs.Tree.{Entry}
use Rattle.model.specs.Tables.{Tables, read, rows}
use Rattle.model.specs.Removal.{removed}
use Rattle.model.specs.Estate.{brings}
use Rattle.model.specs.Tenants.{estate_in}

-- ---- estates

-- with each row also every slot of a CNode it names, its descendants, and every row naming the same typed object
abbrev pub Closed : Edition → Tables → (ℕ → Bool) → Type 0
Closed E t set = (j k : ℕ) → k < rows E (read E t).m → set j ≡ true → brings E (read E t).forest j k ≡ true → set k ≡ true

pub record SmallestEstate (E : Edition) (t : Tables) (root : ℕ) : Type 0 where
  pub holds : member root (estate_in E t root) ≡ true
  pub closed : Closed E t (λ k. member k (estate_in E t root))
  pub least : (set : ℕ → Bool) → set root ≡ true → Closed E t set → (k : ℕ) → member k (estate_in E t root) ≡ true → set k ≡ true

-- ---- what is removed

-- whenever a CNode is named and every row naming it is in the set, all occupied rows of that CNode
abbrev pub Swept : Edition → List Entry → (ℕ → Bool) → Type 0
Swept E es set =
    (n e : Entry) → Memᴰ n es → Memᴰ e es → houses E n.cap e.row ≡ true
    → ((d : Entry) → Memᴰ d es → same_object n.cap d.cap ≡ true → set d.row ≡ true)
    → set e.row ≡ true

pub record SmallestRemoval (E : Edition) (es : List Entry) (start : List ℕ) : Type 0 where
  pub holds : (e : Entry) → Memᴰ e es → member e.row start ≡ true → member e.row (removed E es start) ≡ true
  pub swept : Swept E es (λ k. member k (removed E es start))
  pub least : (set : ℕ → Bool) → ((k : ℕ) → member k start ≡ true → set k ≡ true) → Swept E es set → (k : ℕ) → member k (removed E es start) ≡ true → set k ≡ true

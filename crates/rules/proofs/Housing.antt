-- The rows one after the other, each in a cell that a CNode owns.
use Prim.Native.Nat.{ℕ, ◌+◌, ◌≤◌, ◌<◌}
use mathlib.Core.Path.{◌≡◌, refl}
use mathlib.Core.Bool.{Bool, true, false, ◌&&◌, ◌||◌}
use mathlib.Core.List.{List}
use lib.Dec.{ltb}
use lib.ListN.{get_or}
use borrow.Author.Tests.{ne_eqb, le-ltb, lt-ltb}
use Rattle.model.specs.Edition.{Edition}
use Rattle.model.specs.Cap.{is_empty, is_cnode}
use Rattle.model.specs.Tables.{rows, word, cap_of}
use Rattle.rules.specs.Owners.{homes}
use Rattle.rules_row.proofs.Runs.{below_on, below_stops}

module _ (E : Edition) (m : ℕ) (t o : List ℕ) where
  -- row k is empty or its cell is a CNode's
  abbrev pub home : ℕ → Bool
  home k = is_empty (cap_of t k) || (ltb (get_or o k 0) (rows E m) && is_cnode (cap_of t (get_or o k 0)))

  pub none_homes : homes E m t o 0 ≡ true
  unfolding homes
  none_homes = refl

  pub homes_on : (k : ℕ) → home k ≡ true → homes E m t o k ≡ true → homes E m t o (k + 1) ≡ true
  unfolding homes
  homes_on k h e = below_on home (homes E m t o) (λ _. refl) k h e

  homes_stop : (n k : ℕ) → k < n → home k ≡ false → homes E m t o n ≡ false
  unfolding homes
  homes_stop n k l h = below_stops home (homes E m t o) (λ _. refl) n k l h

  module _ (n k : ℕ) (inside : k < n) (filled : word t k 0 ≡ 0 → ⊥) where
    pub no_home : rows E m ≤ get_or o k 0 → homes E m t o n ≡ false
    unfolding is_empty cap_of
    no_home l = homes_stop n k inside (rw (ne_eqb (word t k 0) 0 filled, le-ltb (get_or o k 0) (rows E m) l))

    pub other_home : get_or o k 0 < rows E m → (word t (get_or o k 0) 0 ≡ 5 → ⊥) → homes E m t o n ≡ false
    unfolding is_empty is_cnode cap_of
    other_home l e = homes_stop n k inside (rw (ne_eqb (word t k 0) 0 filled, lt-ltb (get_or o k 0) (rows E m) l, ne_eqb (word t (get_or o k 0) 0) 5 e))

pub ruleset housing = (none_homes, homes_on, no_home, other_home)

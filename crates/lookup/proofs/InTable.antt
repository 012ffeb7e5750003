-- A slot that lookup finds lies in the table: it is picked by a usable CNode, since every CNode on the way is usable.
-- Assumes nothing.
use Rattle.std.specs.Prelude.{Ok, Err}
use Prim.Native.Nat.{ℕ, zero, suc, ◌+◌, ◌-◌, ◌*◌, ◌≤◌}
use mathlib.Core.Path.{◌≡◌, refl, subst}
use mathlib.Core.Bool.{Bool, true, false, cond, not}
use mathlib.Core.List.{List}
use lib.Dec.{ltb, eqb}
use lib.ListN.{length}
use borrow.Author.Tests.{not-false}
use Rattle.model.specs.Edition.{edition32}
use Rattle.model.specs.declared.Cap.{Cap}
use Rattle.model.specs.declared.Row.{Row}
use Rattle.model.specs.Check.{Looked}
use Rattle.model.specs.declared.Miss.TheVariants.{Failed, DepthOutOfRange}
use Rattle.model.specs.Lists.{within}
use Rattle.model.specs.Cap.{is_cnode}
use Rattle.model.specs.Tables.{cap_of}
use Rattle.model.specs.Lookup.{guard_missed, taken, picked, descend, lookup}
use Rattle.lookup.specs.Ready.{Ready, Usable}
use Rattle.lookup.proofs.Levels.{picked_inside}

-- what is found, if it is a slot, lies in the table
abbrev InTable : List ℕ → Looked → Type 0
InTable t (Ok k) = k.0 * 8 + 8 ≤ length t
InTable t (Err (Failed why)) = Unit {0}
InTable t (Err DepthOutOfRange) = Unit {0}

-- both ways of a test
both : (t : List ℕ) (b : Bool) (x y : Looked) → (b ≡ true → InTable t x) → (b ≡ false → InTable t y) → InTable t (cond b x y)
both t true x y f g = f refl
both t false x y f g = g refl

module _ (t : List ℕ) (ready : Ready t) where
  descend_in_table : (n : ℕ) (c : Cap) (address left : ℕ) → Usable t c → InTable t (descend edition32 (cap_of t) n c address left)
  unfolding descend
  descend_in_table zero c address left u = tt
  descend_in_table (suc n) c address left u =
      both t (guard_missed c address left) _ _ (λ _. tt)
      (λ _. both t (ltb left (taken c)) _ _ (λ _. tt)
      (λ _. both t (eqb left (taken c)) _ _ (λ _. picked_inside t c address left u)
      (λ _. both t (is_cnode (cap_of t (picked edition32 c address left))) _ _
      (λ node. descend_in_table n (cap_of t (picked edition32 c address left)) address (left - taken c) (ready.nodes (picked edition32 c address left) node))
      (λ _. tt))))

  module _ (root : Cap) (usable : is_cnode root ≡ true → Usable t root) where
    lookup_in_table : (address depth : ℕ) → InTable t (lookup edition32 (cap_of t) root address depth)
    unfolding lookup
    lookup_in_table address depth =
        both t (not (is_cnode root)) _ _ (λ _. tt)
        (λ node. both t (not (within 1 depth 32)) _ _ (λ _. tt) (λ _. descend_in_table 32 root address depth (usable (not-false (is_cnode root) node))))

    pub found_in_table : (address depth : ℕ) (k : Row) → lookup edition32 (cap_of t) root address depth ≡ Ok k → k.0 * 8 + 8 ≤ length t
    found_in_table address depth k e = subst (InTable t) e (lookup_in_table address depth)

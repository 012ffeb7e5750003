-- Each occupied row lies in a CNode exactly if the owner of its own cell at the end is one: a CNode that houses the row is found there,
-- and the owner covers what it owns.
use Prim.Native.Nat.{ℕ, zero, suc, ◌≤◌, ◌<◌}
use mathlib.Core.Path.{◌≡◌, refl, sym, ap, ◌∙◌, subst}
use mathlib.Core.Bool.{Bool, true, false, ◌&&◌, ◌||◌}
use mathlib.Core.List.{List}
use mathlib.Core.Logic.{⊎_elim}
use native.Mathlib.Omega.{arith}
use lib.Dec.{ltb}
use lib.ListN.{get_or}
use borrow.Author.Tests.{ltb-true, lt-ltb}
use Rattle.model.specs.Lists.{any, all}
use Rattle.model.specs.Edition.{Edition}
use Rattle.model.specs.Cap.{is_empty, is_cnode, houses}
use Rattle.model.specs.Tree.{Entry, Forest, entries}
use Rattle.model.specs.Tables.{rows, cap_of}
use Rattle.model.specs.Rules.{housed}
use Rattle.model.proofs.Booleans.{either, bool_ext, and_left, and_right, and_intro, or_left, or_right}
use Rattle.model.proofs.Members.{Has, any_some, any_has, all_has, all_of}
use Rattle.model.proofs.Distinct.{Order, less, same, more, order}
use Rattle.model.proofs.Kept.Figures.{Sane}
use Rattle.model.proofs.Kept.Objects.{same_parts}
use Rattle.model.proofs.Kept.Allowed.{cnode_typed, houses_parts}
use Rattle.rules.specs.Owners.{homes}
use Rattle.rules.proofs.Walking.{Found, Made}
use Rattle.rules.proofs.Celling.{houses_covers, covers_houses}

-- row `by` names a CNode
unfoldable node_in : Edition → ℕ → List ℕ → ℕ → Bool
node_in E m t by = ltb by (rows E m) && is_cnode (cap_of t by)

module _ (E : Edition) (m : ℕ) (t o : List ℕ) where
  homes_each : (n : ℕ) → homes E m t o n ≡ true → (k : ℕ) → k < n → is_empty (cap_of t k) ≡ false → node_in E m t (get_or o k 0) ≡ true
  unfolding homes node_in
  homes_each zero h k l f = absurd (omega arith)
  homes_each (suc n) h k l f = go (order k n) (λ i. homes_each n (and_right (is_empty (cap_of t n) || node_in E m t (get_or o n 0)) (homes E m t o n) h) k i f)
    where
      go : Order k n → (k < n → node_in E m t (get_or o k 0) ≡ true) → node_in E m t (get_or o k 0) ≡ true
      go (less i) ih = ih i
      go (same i) ih = rw i (rw (ap (λ (j : ℕ). is_empty (cap_of t j)) (sym i) ∙ f) at (and_left (is_empty (cap_of t n) || node_in E m t (get_or o n 0)) (homes E m t o n) h))
      go (more i) ih = absurd (omega arith)

  each_homes : (n : ℕ) → ((k : ℕ) → k < n → is_empty (cap_of t k) ≡ false → node_in E m t (get_or o k 0) ≡ true) → homes E m t o n ≡ true
  unfolding homes node_in
  each_homes zero f = refl
  each_homes (suc n) f =
      and_intro
      (either (is_empty (cap_of t n))
      (λ e. or_left (is_empty (cap_of t n)) (ltb (get_or o n 0) (rows E m) && is_cnode (cap_of t (get_or o n 0))) e)
      (λ e. or_right (is_empty (cap_of t n)) (ltb (get_or o n 0) (rows E m) && is_cnode (cap_of t (get_or o n 0))) (f n (omega arith) e)))
      (each_homes n (λ k l. f k (omega arith)))

  module _ (sane : Sane E) (sixteen : E.slot ≡ 4) (room : rows E m ≤ E.none) (f : Forest) (start : List ℕ)
      (nobody : (k : ℕ) → k < rows E m → get_or start k 0 ≡ E.none)
      (caps : (e : Entry) → Has e (entries f) → e.cap ≡ cap_of t e.row)
      (below : (e : Entry) → Has e (entries f) → (e.row < rows E m) × (is_empty (cap_of t e.row) ≡ false))
      (listed : (k : ℕ) → k < rows E m → is_empty (cap_of t k) ≡ false → (e : Entry) × Has e (entries f) × (e.row ≡ k))
      (found : Found E m t (λ n. Has n (entries f)) o) (made : Made E m t (λ n. Has n (entries f)) start o) where
    home_here : (k : ℕ) → k < rows E m → node_in E m t (get_or o k 0) ≡ true → any (λ n. houses E n.cap k) (entries f) ≡ true
    unfolding node_in
    home_here k l h =
        let by = get_or o k 0 in
        let row : by < rows E m = ltb-true by (rows E m) (and_left (ltb by (rows E m)) (is_cnode (cap_of t by)) h) in
        let node : is_cnode (cap_of t by) ≡ true = and_right (ltb by (rows E m)) (is_cnode (cap_of t by)) h in
        ⊎_elim
        (λ q. absurd (omega (arith, nobody k l)))
        (λ q. let named : is_cnode q.0.cap ≡ true = ap is_cnode (caps q.0 q.1 ∙ ap (cap_of t) q.2) ∙ node in
        any_has (λ n. houses E n.cap k) q.1 (covers_houses sane sixteen q.0.cap named k q.3))
        (made k)

    here_home : (k : ℕ) → any (λ n. houses E n.cap k) (entries f) ≡ true → node_in E m t (get_or o k 0) ≡ true
    unfolding node_in is_cnode
    here_home k h =
        let q = any_some (λ n. houses E n.cap k) (entries f) h in
        let c = q.0.cap in
        let node = (houses_parts E c k q.2).cnode in
        let z = found q.0 q.1 (cnode_typed c node) k (houses_covers sane sixteen c node k q.2) in
        and_intro (lt-ltb (get_or o k 0) (rows E m) z.0) (rw (same_parts (cap_of t (get_or o k 0)) c z.1).kinds node)

    pub homes_housed : homes E m t o (rows E m) ≡ housed E (entries f)
    unfolding housed
    homes_housed =
        bool_ext (homes E m t o (rows E m)) (all (λ e. any (λ n. houses E n.cap e.row) (entries f)) (entries f))
        (λ h. all_of (λ e. any (λ n. houses E n.cap e.row) (entries f)) (entries f)
        (λ e p. home_here e.row (below e p).0 (homes_each (rows E m) h e.row (below e p).0 (below e p).1)))
        (λ h. each_homes (rows E m)
        (λ k l n. let e = listed k l n in
        subst (λ (j : ℕ). node_in E m t (get_or o j 0) ≡ true) e.2 (here_home e.0.row (all_has (λ e. any (λ n. houses E n.cap e.row) (entries f)) h e.1))))

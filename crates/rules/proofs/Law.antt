-- What the check of rows against rows computes is the rule on the tree that is read.
use Prim.Native.Nat.{ℕ, ◌≤◌, ◌<◌}
use mathlib.Core.Path.{◌≡◌, refl, sym, ap, ◌∙◌, subst}
use mathlib.Core.Bool.{Bool, true, false, not, ◌&&◌}
use mathlib.Core.List.Memᴰ
use mathlib.Core.List.{List, []}
use native.Mathlib.Omega.{arith}
use lib.ListN.{get_or, length, replicate, length-replicate, get_or-replicate}
use borrow.Author.Tests.{eq-eqb, eqb-true}
use Rattle.std.proofs.lemmas.Bool.Decides.{nat_tests}
use Rattle.model.specs.declared.Cap.{Cap}
use Rattle.model.specs.Lists.{all_true, all, count}
use Rattle.model.specs.Edition.{Edition, edition32, most_rows}
use Rattle.model.specs.Cap.{is_empty, is_untyped}
use Rattle.model.specs.Tree.{Forest, end, tree, entries, roots}
use Rattle.model.specs.Tables.{rows, cap_of, follow, grown}
use Rattle.model.specs.Rules.{rows_allowed, occupied, inside_below, housed, pairwise, children_allowed, families_allowed, forest_allowed}
use Rattle.model.proofs.Distinct.{count_most}
use Rattle.model.proofs.Booleans.{and_intro}
use Rattle.model.proofs.Kept.Figures.{Sane, sane32}
use Rattle.model.proofs.Kept.Objects.{parts_inside}
use Rattle.model.proofs.Kept.Allowed.{limit_of}
use Rattle.model.proofs.Words.Listing.{listing_grown}
use Rattle.model.proofs.Words.Chain.{Chain, chain}
use Rattle.model.proofs.Words.WellFormed.{roomy32}
use Rattle.model.proofs.Words.Bounds.{m_least, rows_most}
use Rattle.rules.specs.Owners.{memory, cap_up, row_above, walk, judged}
use Rattle.rules.specs.Checked.{Scanned, Checked}
use Rattle.rules.proofs.Cells.{Covers, Celled}
use Rattle.rules.proofs.Outcome.{Outcome, keeps, breaks}
use Rattle.rules.proofs.Held.{level, Ready, free}
use Rattle.rules.proofs.Placed.{Placed, tree_walk, family}
use Rattle.rules.proofs.Walking.{Walked, walking}
use Rattle.rules.proofs.Celling.{celled_memory, memory_covers}
use Rattle.rules.proofs.Kin.{kin, kin_children, family_is}
use Rattle.rules.proofs.Preorder.{preorder}
use Rattle.rules.proofs.Homes.{homes_housed}
use Rattle.rules.proofs.Reading.{placed_each, placed, shallow, all_listed}

-- ---- all of memory

module _ (E : Edition) (m : ℕ) (t : List ℕ) where
  up_memory : cap_up E m t E.none ≡ memory m
  unfolding cap_up
  up_memory = rw (eq-eqb E.none E.none refl)

  level_memory : level E t E.none ≡ 0
  unfolding level
  level_memory = rw (eq-eqb E.none E.none refl)

  memory_untyped : is_untyped (memory m) ≡ true
  unfolding memory is_untyped
  memory_untyped = refl

  -- what is allowed lies in memory
  in_memory : (f : Forest) (d : ℕ) → Placed E m t d f → all (inside_below E (memory m)) (roots f) ≡ true
  unfolding all roots memory
  in_memory end d p = refl
  in_memory (tree e b a) d p =
      and_intro
      (subst (λ (c : Cap). inside_below E (memory m) c ≡ true) (sym p.0.cap)
      (parts_inside E (memory m) (cap_of t e.row) (omega arith) (omega (arith, limit_of E m (cap_of t e.row) p.0.allowed))))
      (in_memory a d p.2)

  -- the rules on families and on the rows of depth 0
  family_rule : rows E m ≤ E.none → (f : Forest) → Placed E m t 0 f → family E m t E.none [] f ≡ (pairwise E (roots f) && families_allowed E f)
  unfolding children_allowed
  family_rule room f p =
      let top : children_allowed E (memory m) (roots f) ≡ pairwise E (roots f) = rw (memory_untyped, in_memory f 0 p) in
      family_is E m t room f 0 E.none [] p
      ∙ ap (λ (c : Cap). kin E c [] (roots f) && families_allowed E f) up_memory
      ∙ ap (λ (b : Bool). b && families_allowed E f) (kin_children E (memory m) (roots f) ∙ top)

forest_tests : (h f p : Bool) → (p && f) ≡ true → h ≡ (h && (f && (p && true)))
forest_tests h f p e = grind (arith, nat_tests)

forest_fails : (h f p : Bool) → (p && f) ≡ false → false ≡ (h && (f && (p && true)))
forest_fails h f p e = grind (arith, nat_tests)

-- ---- the law

module _ {E : Edition} (sane : Sane E) (sixteen : E.slot ≡ 4) (m : ℕ) (t : List ℕ) (n head : ℕ) (least : 4 ≤ m) (room : rows E m ≤ E.none) (allowed : rows_allowed E m t (rows E m) ≡ true)
    (counted : n ≡ count (λ k. not (is_empty (cap_of t k))) (rows E m)) (chained : Chain E m t n E.none 0 head (follow E t n head)) (size : ℕ) (fits : rows E m ≤ size) where
  few : n ≤ rows E m
  few = omega (arith, counted, count_most (λ k. not (is_empty (cap_of t k))) (rows E m))

  forest : Forest
  forest = grown 0 (follow E t n head)

  in_rows_lem : Placed E m t 0 forest
  unfolding forest
  in_rows_lem = placed sane m t n head room allowed counted few chained

  start : List ℕ
  start = replicate size E.none

  nobody : (k : ℕ) → k < rows E m → get_or start k 0 ≡ E.none
  unfolding start
  nobody k h = get_or-replicate size k E.none 0 (omega arith)

  ready : Ready E m t E.none [] start
  unfolding start
  ready =
      record {
        long = λ k v. omega (arith, length-replicate size E.none, row k v);
        at = λ k v. free (nobody k (row k v)) (λ s h. absurd (Memᴰ.not-nil h));
      }
    where
      row : (k : ℕ) → Covers E (cap_up E m t E.none) k → k < rows E m
      row k v = memory_covers sane sixteen m k least (subst (λ (c : Cap). Covers E c k) (up_memory E m t) v)

  outcome : Outcome (family E m t E.none [] forest) (tree_walk E m t E.none forest start) (Walked E m t E.none forest start)
  outcome =
      walking E m t room forest 0 E.none [] start (sym (level_memory E m t)) (ap is_untyped (up_memory E m t) ∙ memory_untyped E m t)
      (subst (Celled E) (sym (up_memory E m t)) (celled_memory sane m least)) (λ s h. absurd (Memᴰ.not-nil h)) in_rows_lem ready

  tree_judged : Outcome (family E m t E.none [] forest) (tree_walk E m t E.none forest start) (Walked E m t E.none forest start)
      → judged E m t (tree_walk E m t E.none forest start) ≡ forest_allowed E forest
  unfolding judged forest_allowed all_true forest
  tree_judged (keeps r o e w) =
      let rule : (pairwise E (roots forest) && families_allowed E forest) ≡ true = sym (family_rule E m t room forest in_rows_lem) ∙ r in
      ap (judged E m t) e
      ∙ homes_housed E m t o sane sixteen room forest start nobody
      (λ x h. (placed_each E m t forest 0 in_rows_lem x h).1.cap)
      (λ x h. let p = (placed_each E m t forest 0 in_rows_lem x h).1 in (p.below, p.filled))
      (all_listed sane m t n head room allowed counted few chained)
      w.found
      w.made
      ∙ forest_tests (housed E (entries forest)) (families_allowed E forest) (pairwise E (roots forest)) rule
  tree_judged (breaks r e) =
      let rule : (pairwise E (roots forest) && families_allowed E forest) ≡ false = sym (family_rule E m t room forest in_rows_lem) ∙ r in
      ap (judged E m t) e ∙ forest_fails (housed E (entries forest)) (families_allowed E forest) (pairwise E (roots forest)) rule

  pub walk_judged : (above : List ℕ) → rows E m ≤ length above → judged E m t (walk E m t above (replicate size E.none) (follow E t n head)) ≡ forest_allowed E (grown 0 (follow E t n head))
  unfolding forest start row_above
  walk_judged above h =
      ap (λ xs. judged E m t (walk E m t above start xs)) (sym (listing_grown (follow E t n head) chained.steps))
      ∙ ap (judged E m t) (preorder E m t forest 0 above start (shallow sane m t n head room allowed counted few chained (length above) h))
      ∙ tree_judged outcome

-- ---- at 32 bits

pub forest_judged : (m head n : ℕ) (t above : List ℕ) → Scanned edition32 m t → Checked edition32 m head n t → most_rows ≤ length above
    → judged edition32 m t (walk edition32 m t above (replicate most_rows 4294967295) (follow edition32 t n head)) ≡ forest_allowed edition32 (grown 0 (follow edition32 t n head))
unfolding occupied
forest_judged m head n t above s c h =
    let room = roomy32.room m s.m_range in
    walk_judged sane32 refl m t n head (omega (arith, m_least m s.m_range)) room s.each (eqb-true n (occupied t (rows edition32 m)) c.counted)
    (chain edition32 m t n edition32.none 0 head room c.chain) most_rows (rows_most m s.m_range) above (omega (arith, rows_most m s.m_range))

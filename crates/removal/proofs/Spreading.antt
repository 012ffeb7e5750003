-- The worklist: emptying a CNode that no row names any more marks only what every closed set has, and once none waits the marks are closed.
use Prim.Native.Nat.{ℕ, ◌+◌, ◌/◌, ◌^◌, ◌≤◌, ◌<◌}
use mathlib.Core.Path.{◌≡◌, sym, ap, ◌∙◌}
use mathlib.Core.Bool.{Bool, true, false, not, ◌&&◌}
use mathlib.Core.List.{List}
use native.Mathlib.Omega.{arith}
use lib.Dec.{eqb}
use lib.ListN.{get_or}
use borrow.Author.Tests.{eqb-true, eqb-false, eq-eqb, not-true, not-false}
use Rattle.model.specs.declared.Cap.{Cap}
use Rattle.model.specs.Edition.{edition32}
use Rattle.model.specs.Cap.{is_empty, is_cnode, first_row, same_object, houses}
use Rattle.model.specs.Tables.{cap_of}
use Rattle.model.proofs.Booleans.{either, or_cases, or_left, or_right, and_left, and_right, and_intro}
use Rattle.model.proofs.Distinct.{count_zero, count_none}
use Rattle.model.proofs.Kept.Objects.{same_parts, same_houses}
use Rattle.model.proofs.Kept.Allowed.{some_slot, houses_parts}
use Rattle.removal.specs.declared.following.Marking.{Marking}
use Rattle.removal.specs.Marking.{row_count, marked, names, still_names, Nodes, ClosedRows, Counted, Lost, Served, waits, emptied, Waiting, Marks, in_node, Spread}

-- ---- two capabilities that name one CNode

same_node : (c d : Cap) → same_object c d ≡ true → is_cnode c ≡ true → is_cnode d ≡ true
unfolding is_cnode
same_node c d s t = rw (same_parts c d s).kinds at t

same_first : (c d : Cap) → same_object c d ≡ true → first_row edition32 c ≡ first_row edition32 d
unfolding first_row
same_first c d s = ap (λ a. a / 2 ^ 4) (same_parts c d s).addresses

-- ---- growing

-- the marks at the end hold those at the start, and every closed set that holds the one holds the other
pub record Growing (n : ℕ) (cap : ℕ → Cap) (mark mark' : List Bool) : Type 0 where
  pub holds : (k : ℕ) → marked mark k ≡ true → marked mark' k ≡ true
  pub least : (S : ℕ → Bool) → ClosedRows n cap S → ((k : ℕ) → marked mark k ≡ true → S k ≡ true) → (k : ℕ) → marked mark' k ≡ true → S k ≡ true

-- what is counted, which CNodes wait, and that the marks have grown only by what every closed set has
pub record Spreading (t : List ℕ) (mark₀ : List Bool) (m : Marking) (taken : ℕ) : Type 0 where
  pub counted : Counted t m
  pub waiting : Waiting t m taken
  pub growing : Growing (row_count t) (cap_of t) mark₀ m.mark

module _ (t : List ℕ) (mark₀ : List Bool) (m : Marking) (taken : ℕ) (s : Spreading t mark₀ m taken) where
  abbrev n : ℕ
  n = row_count t

  abbrev cap : ℕ → Cap
  cap = cap_of t

  nodes : Nodes n cap
  nodes = s.counted.nodes

  -- ---- the CNode at `taken` is emptied, and the next is taken
  module _ (more : taken < m.filled) where
    abbrev node : ℕ
    node = get_or m.work taken 0

    lost : Lost n cap m.counts node
    lost = s.waiting.lost taken (omega arith) more

    names_of : (k : ℕ) → same_object (cap node) (cap k) ≡ true → names cap (first_row edition32 (cap node)) k ≡ true
    unfolding names
    names_of k same = and_intro (same_node (cap node) (cap k) same lost.node) (eq-eqb (first_row edition32 (cap k)) (first_row edition32 (cap node)) (sym (same_first (cap node) (cap k) same)))

    -- every row that names it is marked
    lost_names : (k : ℕ) → k < n → same_object (cap node) (cap k) ≡ true → marked m.mark k ≡ true
    unfolding still_names
    lost_names k b same =
        let first = first_row edition32 (cap node) in
        let l = nodes.inside node lost.in_table lost.node in
        let z : (names cap first k && not (marked m.mark k)) ≡ false = count_zero (still_names cap m.mark first) k n (sym (s.counted.left first (omega (arith, some_slot (cap node)))) ∙ lost.unnamed) b in
        let z' : not (marked m.mark k) ≡ false = rw (names_of k same) at z in
        not-false (marked m.mark k) z'

    module _ (m' : Marking) (w : Marks t (in_node cap node) m m') where
      growing_node : Growing n cap mark₀ m'.mark
      unfolding in_node
      growing_node =
          record {
            holds = λ k u. w.marks k ∙ or_left (marked m.mark k) _ (s.growing.holds k u);
            least = λ S closed start k u.
                or_cases (marked m.mark k) _ (sym (w.marks k) ∙ u) (s.growing.least S closed start k) (λ v.
                let h = and_left (houses edition32 (cap node) k) _ v in
                let e = not-true (is_empty (cap k)) (and_right (houses edition32 (cap node) k) _ v) in
                let b = (houses_parts edition32 (cap node) k h).high in
                let l = nodes.inside node lost.in_table lost.node in
                closed node k lost.in_table (omega arith) lost.node h e
                (λ j bj same. s.growing.least S closed start j (lost_names j bj same)));
          }

      waiting_next : Waiting t m' (taken + 1)
      unfolding in_node
      waiting_next =
          let next = w.waiting taken s.waiting in
          record {
            deep = next.deep;
            in_order = omega (arith, w.more);
            lost = λ i l h. next.lost i (omega arith) h;
            served = λ c h. go c h (next.served c h);
          }
        where
          go : (c : ℕ) → Lost n cap m'.counts c → Served n cap m' taken c → Served n cap m' (taken + 1) c
          go c h (emptied all) = emptied all
          go c h (waits i l u e) =
              either (eqb i taken)
              (λ q. let p : first_row edition32 (cap node) ≡ first_row edition32 (cap c) = ap (λ j. first_row edition32 (cap j)) (sym (ap (λ j. get_or m'.work j 0) (eqb-true i taken q) ∙ w.kept taken more)) ∙ e in
              let same = nodes.alike node c lost.in_table h.in_table lost.node h.node p in
              emptied (λ k bk hk o. w.marks k ∙ or_right (marked m.mark k) _ (and_intro (same_houses (same_parts (cap node) (cap c) same) edition32 k ∙ hk) (rw o))))
              (λ f. let ne = eqb-false i taken f in waits i (omega arith) u e)

      pub spreading_next : Spreading t mark₀ m' (taken + 1)
      spreading_next = record { counted = w.counted; waiting = waiting_next; growing = growing_node }

  -- ---- none waits any more
  pub spread_all : m.filled ≤ taken → Spread n cap mark₀ m.mark
  unfolding names still_names
  spread_all done =
      record {
        holds = s.growing.holds;
        least = s.growing.least;
        closed = λ c k bc bk node h o all. go c k bk h o (s.waiting.served c (record { in_table = bc; node = node; unnamed = none c bc node all }));
      }
    where
      go : (c k : ℕ) → k < n → houses edition32 (cap c) k ≡ true → is_empty (cap k) ≡ false → Served n cap m taken c → marked m.mark k ≡ true
      go c k b h o (emptied all) = all k b h o
      go c k b h o (waits i l u e) = absurd (omega arith)

      named : (c j : ℕ) → c < n → j < n → is_cnode (cap c) ≡ true → ((i : ℕ) → i < n → same_object (cap c) (cap i) ≡ true → marked m.mark i ≡ true) → still_names cap m.mark (first_row edition32 (cap c)) j ≡ false
      named c j bc bj node all =
          unfold names still_names in
          either (is_cnode (cap j))
          (λ t. either (eqb (first_row edition32 (cap j)) (first_row edition32 (cap c)))
          (λ u. let e = eqb-true (first_row edition32 (cap j)) (first_row edition32 (cap c)) u in rw (t, u, all j bj (nodes.alike c j bc bj node t (sym e))))
          (λ f. rw (t, f)))
          (λ f. rw f)

      none : (c : ℕ) → c < n → is_cnode (cap c) ≡ true → ((i : ℕ) → i < n → same_object (cap c) (cap i) ≡ true → marked m.mark i ≡ true) → get_or m.counts (first_row edition32 (cap c)) 0 ≡ 0
      none c bc node all =
          let l = nodes.inside c bc node in
          s.counted.left (first_row edition32 (cap c)) (omega (arith, some_slot (cap c))) ∙ count_none (still_names cap m.mark (first_row edition32 (cap c))) n (λ j bj. named c j bc bj node all)

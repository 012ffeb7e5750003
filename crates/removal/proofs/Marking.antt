-- One row is marked: the counts fall by one at the CNode that it names, and a CNode that loses its last name waits. Whatever waited or was
-- emptied before still is, since marks only grow and the CNode at hand had a name left.
use Prim.Native.Nat.{ℕ, suc, ◌+◌, ◌-◌, ◌≤◌, ◌<◌}
use mathlib.Core.Path.{◌≡◌, refl, sym, ap, ◌∙◌}
use mathlib.Core.Bool.{Bool, true, false, ◌&&◌}
use mathlib.Core.List.{List}
use native.Mathlib.Omega.{arith}
use lib.Dec.{eqb}
use lib.ListN.{get_or, length, set, length-set}
use lib.Seq.{get_or-set_same, get_or-set_other}
use borrow.Author.Tests.{eqb-true, eqb-false, eq-eqb, ne_eqb}
use Rattle.model.specs.declared.Cap.{Cap}
use Rattle.model.specs.Edition.{edition32}
use Rattle.model.specs.Cap.{is_cnode, first_row}
use Rattle.model.specs.Lists.{count}
use Rattle.model.specs.Tables.{cap_of}
use Rattle.model.proofs.Booleans.{either}
use Rattle.model.proofs.Distinct.{count_same, count_less, count_most}
use Rattle.model.proofs.Kept.Allowed.{some_slot}
use Rattle.removal.specs.declared.following.Marking.{Marking}
use Rattle.removal.specs.Marking.{row_count, marked, names, still_names, Counted, Lost, Served, waits, emptied, Waiting}

pub served_more : {n : ℕ} {cap : ℕ → Cap} {m m' : Marking} {taken c : ℕ} → m.filled ≤ m'.filled → ((i : ℕ) → i < m.filled → get_or m'.work i 0 ≡ get_or m.work i 0) → ((j : ℕ) → marked m.mark j ≡ true → marked m'.mark j ≡ true)
    → Served n cap m taken c → Served n cap m' taken c
served_more {cap = cap} le kept grown (waits i a b e) = waits i a (omega arith) (ap (λ j. first_row edition32 (cap j)) (kept i b) ∙ e)
served_more le kept grown (emptied all) = emptied (λ j a b o. grown j (all j a b o))

-- ---- a row that is marked now

module _ (t : List ℕ) (m : Marking) (k : ℕ) (h : Counted t m) (in_table : k < row_count t) where
  abbrev n : ℕ
  n = row_count t

  abbrev cap : ℕ → Cap
  cap = cap_of t

  abbrev now : Marking
  now = record m { mark = set m.mark k true }

  pub marked_same : marked now.mark k ≡ true
  marked_same = get_or-set_same m.mark k true false (omega (arith, h.long))

  pub marked_other : (j : ℕ) → (j ≡ k → ⊥) → marked now.mark j ≡ marked m.mark j
  marked_other j ne = get_or-set_other m.mark k j true false ne

  marked_more : (j : ℕ) → marked m.mark j ≡ true → marked now.mark j ≡ true
  marked_more j u = either (eqb j k) (λ e. ap (marked now.mark) (eqb-true j k e) ∙ marked_same) (λ f. marked_other j (eqb-false j k f) ∙ u)

  module _ (new : marked m.mark k ≡ false) where
    more_marked : count (marked now.mark) n ≡ suc (count (marked m.mark) n)
    more_marked = count_less (marked now.mark) (marked m.mark) k n in_table marked_same new (λ j b ne. marked_other j ne)

    still_other : (c j : ℕ) → (j ≡ k → ⊥) → still_names cap m.mark c j ≡ still_names cap now.mark c j
    unfolding still_names
    still_other c j ne = rw (marked_other j ne)

    still_gone : (c : ℕ) → still_names cap now.mark c k ≡ false
    unfolding still_names
    still_gone c = rw marked_same (go (names cap c k))
      where
        go : (b : Bool) → (b && false) ≡ false
        go true = refl
        go false = refl

    -- of a CNode that row k does not name as many names are left
    left_same : (c : ℕ) → names cap c k ≡ false → count (still_names cap m.mark c) n ≡ count (still_names cap now.mark c) n
    left_same c f =
        count_same (still_names cap m.mark c) (still_names cap now.mark c) n (λ j b.
        either (eqb j k)
        (λ e. rw (eqb-true j k e) (unfold still_names in rw f))
        (λ ne. still_other c j (eqb-false j k ne)))

    -- of the CNode that it names one less
    left_less : (c : ℕ) → names cap c k ≡ true → count (still_names cap m.mark c) n ≡ suc (count (still_names cap now.mark c) n)
    left_less c u = count_less (still_names cap m.mark c) (still_names cap now.mark c) k n in_table (unfold still_names in rw (u, new)) (still_gone c) (λ j b ne. still_other c j ne)

    long_now : n ≤ length now.mark
    long_now = omega (arith, h.long, length-set m.mark k true)

    -- it names no CNode
    module _ (plain : is_cnode (cap k) ≡ false) where
      names_none : (c : ℕ) → names cap c k ≡ false
      unfolding names
      names_none c = rw plain

      pub counted_plain : Counted t now
      counted_plain = record { nodes = h.nodes; long = long_now; wide = h.wide; left = λ c b. h.left c b ∙ left_same c (names_none c); room = omega (arith, more_marked, h.room) }

      pub waiting_plain : (taken : ℕ) → Waiting t m taken → Waiting t now taken
      waiting_plain taken w = record { deep = w.deep; in_order = w.in_order; lost = w.lost; served = λ c l. served_more (omega arith) (λ i b. refl) marked_more (w.served c l) }

    -- it names a CNode
    module _ (node : is_cnode (cap k) ≡ true) (first : ℕ) (is : first_row edition32 (cap k) ≡ first) where
      abbrev fewer : Marking
      fewer = record m { mark = set m.mark k true; counts = set m.counts first (get_or m.counts first 0 - 1) }

      inside : first < n
      inside = omega (arith, is, h.nodes.inside k in_table node, some_slot (cap k))

      names_first : names cap first k ≡ true
      unfolding names
      names_first = rw (node, eq-eqb (first_row edition32 (cap k)) first is)

      names_other : (c : ℕ) → (c ≡ first → ⊥) → names cap c k ≡ false
      unfolding names
      names_other c ne = rw (node, ne_eqb (first_row edition32 (cap k)) c (λ e. ne (sym e ∙ is)))

      pub left_some : get_or m.counts first 0 ≡ suc (count (still_names cap now.mark first) n)
      left_some = h.left first inside ∙ left_less first names_first

      at_first : get_or fewer.counts first 0 ≡ get_or m.counts first 0 - 1
      at_first = get_or-set_same m.counts first (get_or m.counts first 0 - 1) 0 (omega (arith, h.wide, inside))

      at_others : (c : ℕ) → (c ≡ first → ⊥) → get_or fewer.counts c 0 ≡ get_or m.counts c 0
      at_others c ne = get_or-set_other m.counts first c (get_or m.counts first 0 - 1) 0 ne

      left_now : (c : ℕ) → c < n → get_or fewer.counts c 0 ≡ count (still_names cap now.mark c) n
      left_now c b =
          either (eqb c first)
          (λ e. rw (eqb-true c first e) (omega (arith, at_first, left_some)))
          (λ f. let ne = eqb-false c first f in at_others c ne ∙ h.left c b ∙ left_same c (names_other c ne))

      wide_now : n ≤ length fewer.counts
      wide_now = omega (arith, h.wide, length-set m.counts first (get_or m.counts first 0 - 1))

      pub counted_node : Counted t fewer
      counted_node = record { nodes = h.nodes; long = long_now; wide = wide_now; left = left_now; room = omega (arith, more_marked, h.room) }

      -- it waits at a place of `work`
      pub room_left : m.filled < n
      room_left = omega (arith, more_marked, h.room, count_most (marked now.mark) n)

      lost_still : (j : ℕ) → Lost n cap m.counts j → Lost n cap fewer.counts j
      lost_still j l =
          record {
            in_table = l.in_table;
            node = l.node;
            unnamed = at_others (first_row edition32 (cap j)) (λ e. let z : get_or m.counts first 0 ≡ 0 = rw e at l.unnamed in omega (arith, left_some)) ∙ l.unnamed;
          }

      lost_before : (j : ℕ) → Lost n cap fewer.counts j → (first_row edition32 (cap j) ≡ first → ⊥) → Lost n cap m.counts j
      lost_before j l ne = record { in_table = l.in_table; node = l.node; unnamed = sym (at_others (first_row edition32 (cap j)) ne) ∙ l.unnamed }

      pub waiting_node : (get_or m.counts first 0 - 1 ≡ 0 → ⊥) → (taken : ℕ) → Waiting t m taken → Waiting t fewer taken
      waiting_node some taken w =
          record {
            deep = w.deep;
            in_order = w.in_order;
            lost = λ i a b. lost_still (get_or m.work i 0) (w.lost i a b);
            served = λ c l. served_more (omega arith) (λ i b. refl) marked_more (w.served c (lost_before c l (λ e.
                some (sym at_first ∙ ap (λ j. get_or fewer.counts j 0) (sym e) ∙ l.unnamed))));
          }

      -- the last one: the CNode waits
      abbrev last : Marking
      last = record { mark = fewer.mark; counts = fewer.counts; work = set m.work m.filled k; filled = m.filled + 1 }

      pub counted_last : Counted t last
      counted_last = record { nodes = h.nodes; long = long_now; wide = wide_now; left = left_now; room = omega (arith, more_marked, h.room) }

      kept : (i : ℕ) → (i ≡ m.filled → ⊥) → get_or last.work i 0 ≡ get_or m.work i 0
      kept i ne = get_or-set_other m.work m.filled i k 0 ne

      pub waiting_last : get_or m.counts first 0 - 1 ≡ 0 → (taken : ℕ) → Waiting t m taken → Waiting t last taken
      waiting_last none taken w =
          record {
            deep = omega (arith, w.deep, length-set m.work m.filled k);
            in_order = omega (arith, w.in_order);
            lost = λ i a b.
                either (eqb i m.filled)
                (λ e. rw (eqb-true i m.filled e, placed) (record { in_table = in_table; node = node; unnamed = ap (λ j. get_or fewer.counts j 0) is ∙ at_first ∙ none }))
                (λ f. let ne = eqb-false i m.filled f in rw (kept i ne) (lost_still (get_or m.work i 0) (w.lost i a (omega arith))));
            served = λ c l.
                either (eqb (first_row edition32 (cap c)) first)
                (λ e. waits m.filled w.in_order (omega arith) (ap (λ j. first_row edition32 (cap j)) placed ∙ is ∙ sym (eqb-true (first_row edition32 (cap c)) first e)))
                (λ f. served_more (omega arith) (λ i b. kept i (omega arith)) marked_more (w.served c (lost_before c l (eqb-false (first_row edition32 (cap c)) first f))));
          }
        where
          placed : get_or last.work m.filled 0 ≡ k
          placed = get_or-set_same m.work m.filled k 0 (omega (arith, room_left, w.deep))

-- no more CNodes wait than there are rows
pub counted_few : {t : List ℕ} {m : Marking} → Counted t m → m.filled ≤ row_count t
counted_few {t} {m} h = omega (arith, h.room, count_most (marked m.mark) (row_count t))

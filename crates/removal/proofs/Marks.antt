-- What marking a row comes to, in each of its ways out, as `Marks`; and one set of rows marked after another.
use Prim.Native.Nat.{ℕ, ◌+◌, ◌-◌, ◌<◌}
use mathlib.Core.Path.{◌≡◌, refl, ap, ◌∙◌}
use mathlib.Core.Bool.{Bool, true, false, ◌||◌}
use mathlib.Core.List.{List}
use native.Mathlib.Omega.{arith}
use lib.Dec.{eqb}
use lib.ListN.{get_or, set}
use lib.Seq.{get_or-set_other}
use borrow.Author.Tests.{eqb-true, eqb-false, eq-eqb}
use Rattle.model.specs.Edition.{edition32}
use Rattle.model.specs.Cap.{is_empty, is_cnode, first_row}
use Rattle.model.specs.Tables.{cap_of}
use Rattle.model.proofs.Booleans.{either}
use Rattle.removal.specs.declared.following.Marking.{Marking}
use Rattle.removal.specs.Marking.{row_count, marked, Counted, Marks, only}
use Rattle.removal.proofs.Marking.{marked_same, marked_other, counted_plain, waiting_plain, counted_node, counted_last, waiting_node, waiting_last}

pub or_false : (b : Bool) → b ≡ (b || false)
or_false true = refl
or_false false = refl

pub or_or : (b c d : Bool) → ((b || c) || d) ≡ (b || (c || d))
or_or true c d = refl
or_or false c d = refl

module _ (t : List ℕ) where
  -- nothing is marked besides
  pub marks_same : (S : ℕ → Bool) {m : Marking} → ((j : ℕ) → marked m.mark j ≡ (marked m.mark j || S j)) → Counted t m → Marks t S m m
  marks_same S same h = record { marks = same; more = omega arith; kept = λ i b. refl; counted = h; waiting = λ taken w. w }

  pub marks_none : (S : ℕ → Bool) {m : Marking} → ((j : ℕ) → S j ≡ false) → Counted t m → Marks t S m m
  marks_none S {m} none h = marks_same S (λ j. rw (none j) (or_false (marked m.mark j))) h

  pub marks_then : (S T U : ℕ → Bool) {m₀ m₁ m₂ : Marking} → ((j : ℕ) → (S j || T j) ≡ U j) → Marks t S m₀ m₁ → Marks t T m₁ m₂ → Marks t U m₀ m₂
  marks_then S T U {m₀} both a b =
      record {
        marks = λ j. b.marks j ∙ ap (λ (c : Bool). c || T j) (a.marks j) ∙ or_or (marked m₀.mark j) (S j) (T j) ∙ ap (λ (c : Bool). marked m₀.mark j || c) (both j);
        more = omega (arith, a.more, b.more);
        kept = λ i l. b.kept i (omega (arith, a.more)) ∙ a.kept i l;
        counted = b.counted;
        waiting = λ taken w. b.waiting taken (a.waiting taken w);
      }

  pub marks_as : (S T : ℕ → Bool) {m m' : Marking} → ((j : ℕ) → S j ≡ T j) → Marks t S m m' → Marks t T m m'
  marks_as S T {m} same_as w = record { marks = λ j. w.marks j ∙ ap (λ (c : Bool). marked m.mark j || c) (same_as j); more = w.more; kept = w.kept; counted = w.counted; waiting = w.waiting }

  -- ---- one row

  module _ (k : ℕ) (m : Marking) (h : Counted t m) where
    only_other : (j : ℕ) → (j ≡ k → ⊥) → only (cap_of t) k j ≡ false
    unfolding only
    only_other j ne = either (eqb j k) (λ u. absurd (ne (eqb-true j k u))) (λ f. rw f)

    only_same : is_empty (cap_of t k) ≡ false → only (cap_of t) k k ≡ true
    unfolding only
    only_same e = rw (eq-eqb k k refl, e)

    only_none : is_empty (cap_of t k) ≡ true → (j : ℕ) → only (cap_of t) k j ≡ false
    unfolding only
    only_none e j = either (eqb j k) (λ u. rw (u, eqb-true j k u, e)) (λ f. rw f)

    pub marks_empty : is_empty (cap_of t k) ≡ true → Marks t (only (cap_of t) k) m m
    marks_empty e = marks_none (only (cap_of t) k) (only_none e) h

    pub marks_old : marked m.mark k ≡ true → Marks t (only (cap_of t) k) m m
    marks_old u = marks_same (only (cap_of t) k) (λ j. either (eqb j k) (λ e. rw (eqb-true j k e, u)) (λ f. rw (only_other j (eqb-false j k f)) (or_false (marked m.mark j)))) h

    module _ (in_table : k < row_count t) (new : marked m.mark k ≡ false) (there : is_empty (cap_of t k) ≡ false) where
      now_marked : (j : ℕ) → marked (set m.mark k true) j ≡ (marked m.mark j || only (cap_of t) k j)
      now_marked j =
          either (eqb j k)
          (λ e. rw (eqb-true j k e, new, only_same there) (marked_same t m k h in_table))
          (λ f. let ne = eqb-false j k f in marked_other t m k h in_table j ne ∙ rw (only_other j ne) (or_false (marked m.mark j)))

      pub marks_plain : is_cnode (cap_of t k) ≡ false → Marks t (only (cap_of t) k) m (record m { mark = set m.mark k true })
      marks_plain plain =
          record {
            marks = now_marked;
            more = omega arith;
            kept = λ i b. refl;
            counted = counted_plain t m k h in_table new plain;
            waiting = waiting_plain t m k h in_table new plain;
          }

      module _ (node : is_cnode (cap_of t k) ≡ true) (first : ℕ) (is : first_row edition32 (cap_of t k) ≡ first) where
        pub marks_node : (get_or m.counts first 0 - 1 ≡ 0 → ⊥) → Marks t (only (cap_of t) k) m (record m { mark = set m.mark k true; counts = set m.counts first (get_or m.counts first 0 - 1) })
        marks_node some =
            record {
              marks = now_marked;
              more = omega arith;
              kept = λ i b. refl;
              counted = counted_node t m k h in_table new node first is;
              waiting = waiting_node t m k h in_table new node first is some;
            }

        pub marks_last : get_or m.counts first 0 - 1 ≡ 0
            → Marks t (only (cap_of t) k) m (record { mark = set m.mark k true; counts = set m.counts first (get_or m.counts first 0 - 1); work = set m.work m.filled k; filled = m.filled + 1 })
        marks_last none =
            record {
              marks = now_marked;
              more = omega arith;
              kept = λ i b. get_or-set_other m.work m.filled i k 0 (omega arith);
              counted = counted_last t m k h in_table new node first is;
              waiting = waiting_last t m k h in_table new node first is none;
            }

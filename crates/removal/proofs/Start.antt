-- Before any row is marked: the counts are those of all rows, and no CNode waits, since each is named by its own row.
use Prim.Native.Nat.{ℕ}
use mathlib.Core.Path.{◌≡◌, refl, sym, ◌∙◌}
use mathlib.Core.Bool.{Bool, true, false, ◌&&◌, true≢false}
use mathlib.Core.List.{List}
use native.Mathlib.Omega.{arith}
use borrow.Author.Tests.{eq-eqb}
use Rattle.model.specs.declared.Cap.{Cap}
use Rattle.model.specs.Edition.{edition32}
use Rattle.model.specs.Cap.{is_cnode, first_row}
use Rattle.model.specs.Tables.{cap_of}
use Rattle.model.proofs.Distinct.{count_same, count_zero}
use Rattle.model.proofs.Kept.Allowed.{some_slot}
use Rattle.removal.specs.declared.following.Marking.{Marking}
use Rattle.removal.specs.Marking.{row_count, names, still_names, Nodes, Started, Counted, Lost, Waiting}

module _ (t : List ℕ) (m : Marking) (nodes : Nodes (row_count t) (cap_of t)) (s : Started (cap_of t) m (row_count t)) where
  abbrev n : ℕ
  n = row_count t

  abbrev cap : ℕ → Cap
  cap = cap_of t

  still : (c k : ℕ) → names cap c k ≡ still_names cap m.mark c k
  unfolding still_names
  still c k = rw (s.clear k) (go (names cap c k))
    where
      go : (b : Bool) → b ≡ (b && true)
      go true = refl
      go false = refl

  pub counted_start : Counted t m
  counted_start =
      record {
        nodes = nodes;
        long = omega (arith, s.long, nodes.few);
        wide = omega (arith, s.tally.long, nodes.few);
        left = λ c b. s.tally.each c (omega (arith, nodes.few)) ∙ count_same (names cap c) (still_names cap m.mark c) n (λ k h. still c k);
        room = omega (arith, s.empty);
      }

  own_name : (c : ℕ) → is_cnode (cap c) ≡ true → names cap (first_row edition32 (cap c)) c ≡ true
  unfolding names
  own_name c t = rw (t, eq-eqb (first_row edition32 (cap c)) (first_row edition32 (cap c)) refl)

  none_lost : (c : ℕ) → Lost n cap m.counts c → ⊥
  none_lost c h =
      let first = first_row edition32 (cap c) in
      let l = nodes.inside c h.in_table h.node in
      true≢false (sym (own_name c h.node) ∙ count_zero (names cap first) c n (sym (s.tally.each first (omega (arith, some_slot (cap c), nodes.few))) ∙ h.unnamed) h.in_table)

  pub waiting_start : Waiting t m 0
  waiting_start = record { deep = omega (arith, s.deep, nodes.few); in_order = omega (arith, s.empty); lost = λ i a b. absurd (omega (arith, s.empty)); served = λ c h. absurd (none_lost c h) }

-- The rows that name each CNode, counted row by row.
use Prim.Native.Nat.{ℕ, ◌+◌, ◌≤◌, ◌<◌}
use mathlib.Core.Path.{◌≡◌, refl, sym, ◌∙◌}
use mathlib.Core.Bool.{Bool, true, false, cond}
use native.Mathlib.Omega.{arith}
use native.Mathlib.Numerals.{add-one}
use lib.Dec.{eqb}
use lib.ListN.{get_or, set, replicate, length-set, length-replicate}
use lib.Seq.{get_or-set_same, get_or-set_other}
use borrow.Author.Tests.{eqb-true, eqb-false, eq-eqb, ne_eqb}
use Rattle.model.specs.declared.Cap.{Cap}
use Rattle.model.specs.Edition.{edition32, most_rows}
use Rattle.model.specs.Cap.{is_cnode, first_row}
use Rattle.model.specs.Lists.{count}
use Rattle.model.proofs.Booleans.{either}
use Rattle.model.proofs.Distinct.{count_most}
use Rattle.removal.specs.declared.following.Marking.{Marking}
use Rattle.removal.specs.Marking.{names, Started}
use Rattle.removal.proofs.Tables.{get_or_default}

-- before any row
pub started_none : (cap : ℕ → Cap) → Started cap (record { mark = replicate 4096 false; counts = replicate 4096 0; work = replicate 4096 0; filled = 0 }) 0
unfolding count
started_none cap =
    record {
      long = length-replicate {A = Bool} most_rows false;
      deep = length-replicate {A = ℕ} most_rows 0;
      clear = get_or_default most_rows false;
      empty = refl;
      tally = record { long = length-replicate {A = ℕ} most_rows 0; each = λ c b. get_or_default {A = ℕ} most_rows 0 c };
    }

module _ (cap : ℕ → Cap) (m : Marking) (row : ℕ) (s : Started cap m row) where
  next : (c : ℕ) (b : Bool) → names cap c row ≡ b → count (names cap c) (row + 1) ≡ cond b 1 0 + count (names cap c) row
  unfolding count
  next c b e = rw (add-one row, e)

  pub tally_few : (c : ℕ) → c < most_rows → get_or m.counts c 0 ≤ row
  tally_few c b = omega (arith, s.tally.each c b, count_most (names cap c) row)

  pub started_plain : is_cnode (cap row) ≡ false → Started cap m (row + 1)
  unfolding names
  started_plain f = record { long = s.long; deep = s.deep; clear = s.clear; empty = s.empty; tally = record { long = s.tally.long; each = λ c b. omega (arith, s.tally.each c b, next c false (rw f)) } }

  pub started_node : (first : ℕ) → first < most_rows → is_cnode (cap row) ≡ true → first_row edition32 (cap row) ≡ first → Started cap (record m { counts = set m.counts first (get_or m.counts first 0 + 1) }) (row + 1)
  unfolding names
  started_node first small node is =
      record {
        long = s.long;
        deep = s.deep;
        clear = s.clear;
        empty = s.empty;
        tally = record {
          long = length-set m.counts first (get_or m.counts first 0 + 1) ∙ s.tally.long;
          each = λ c b.
              either (eqb c first)
              (λ e. let p = eqb-true c first e in
              rw p (get_or-set_same m.counts first (get_or m.counts first 0 + 1) 0 (omega (arith, s.tally.long)) ∙ omega (arith, s.tally.each first small, next first true (rw (node, eq-eqb (first_row edition32 (cap row)) first is)))))
              (λ f. let ne = eqb-false c first f in
              get_or-set_other m.counts first c (get_or m.counts first 0 + 1) 0 ne ∙ omega (arith, s.tally.each c b, next c false (rw (node, ne_eqb (first_row edition32 (cap row)) c (λ q. ne (sym q ∙ is))))));
        };
      }

-- The walk of the list, one entry after the other as the code takes it.
use Prim.Native.Nat.{ℕ, zero, suc, ◌+◌, ◌-◌, ◌^◌, ◌≤◌, ◌<◌}
use mathlib.Core.Path.{◌≡◌, sym, ap, ◌∙◌}
use mathlib.Core.Bool.{Bool, true, false, not, ◌&&◌}
use mathlib.Core.List.{List, ◌∷◌}
use native.Mathlib.Omega.{arith}
use lib.Dec.{ltb, eqb}
use lib.ListN.{get_or, set, length, replicate, length-replicate, get_or-replicate, get_or-eq_default}
use lib.Pow.{pow_pos}
use lib.Seq.{get_or-set_same, get_or-set_other, set_out}
use borrow.Author.Tests.{ne_eqb, eqb-true, eqb-false, ltb-true, ltb-false, not-true}
use Rattle.model.specs.Edition.{Edition, edition32, most_rows}
use Rattle.model.specs.Cap.{is_empty}
use Rattle.model.specs.Tables.{rows, word, cap_of, follow}
use Rattle.model.specs.Rules.{m_in_range, link_allowed, listed, occupied}
use Rattle.model.proofs.Distinct.{count_most}
use Rattle.model.proofs.Booleans.{either, and_left, and_right, part}
use Rattle.model.proofs.Words.Bounds.{rows_most}
use Rattle.std.proofs.Common.{Option, Some, None, option_and_then}
use Rattle.rules.specs.Owners.{kept, enter, row_above, walk, homes, judged}
use Rattle.rules.specs.Checked.{Scanned, Checked}
use Rattle.rules.proofs.Links.{list_on, link_inside, link_depth}

-- ---- the walk

module _ (E : Edition) (m : ℕ) (t above o : List ℕ) (count i k : ℕ) where
  pub walk_ends : count ≤ i → walk E m t above o (follow E t (count - i) k) ≡ Some o
  unfolding follow walk
  walk_ends h = let none : count - i ≡ zero = omega arith in rw none

  module _ (some : i < count) (row : k < E.none) where
    follow_on : follow E t (count - i) k ≡ record { entry = record { row = k; cap = cap_of t k }; depth = word t k 7 } ∷ follow E t (count - (i + 1)) (word t k 5)
    unfolding follow
    follow_on = ap (λ (j : ℕ). follow E t j k) (let more : count - i ≡ suc (count - (i + 1)) = omega arith in more) ∙ rw (ne_eqb k E.none (omega arith), follow)

    walk_first : walk E m t above o (follow E t (count - i) k)
        ≡ option_and_then (λ p. walk E m t (set above (word t k 7) k) p (follow E t (count - (i + 1)) (word t k 5))) (enter E m t (row_above E above (word t k 7)) k o)
    unfolding walk
    walk_first = ap (walk E m t above o) follow_on

    -- the step of the code answers b, and leaves x
    module _ (b : Bool) (x : List ℕ) (step : kept b x ≡ enter E m t (row_above E above (word t k 7)) k o) where
      pub walk_on : b ≡ true → walk E m t above o (follow E t (count - i) k) ≡ walk E m t (set above (word t k 7) k) x (follow E t (count - (i + 1)) (word t k 5))
      unfolding kept
      walk_on h = let e = rw h at step in walk_first ∙ rw (← e)

      pub walk_stops : b ≡ false → walk E m t above o (follow E t (count - i) k) ≡ None
      unfolding kept
      walk_stops h = let e = rw h at step in walk_first ∙ rw (← e)

-- ---- what the loop keeps

-- i entries are walked, and the next is in row k; `whole` is the walk of all
pub record Underway (m count : ℕ) (t : List ℕ) (whole : Option (List ℕ)) (above o : List ℕ) (k i : ℕ) : Type 0 where
  pub rest : walk edition32 m t above o (follow edition32 t (count - i) k) ≡ whole
  pub before : ℕ
  pub most : ℕ
  pub list : listed edition32 m t (count - i) before most k ≡ true
  pub shallow : most ≤ i
  pub in_rows : (j : ℕ) → get_or above j 0 < rows edition32 m

pub few : (m head n : ℕ) (t : List ℕ) → Scanned edition32 m t → Checked edition32 m head n t → n ≤ most_rows
unfolding occupied
few m head n t s c =
    omega (arith, eqb-true n (occupied t (rows edition32 m)) c.counted, count_most (λ k. not (is_empty (cap_of t k))) (rows edition32 m), rows_most m s.m_range)

module _ {m count : ℕ} {t : List ℕ} {whole : Option (List ℕ)} {above o : List ℕ} {k i : ℕ} (at : Underway m count t whole above o k i) (some : i < count) where
  first : (link_allowed edition32 m t at.before at.most k && listed edition32 m t (count - (i + 1)) k (word t k 7 + 1) (word t k 5)) ≡ true
  first = sym (list_on edition32 m t count i at.before at.most k some) ∙ at.list

  link : link_allowed edition32 m t at.before at.most k ≡ true
  link = and_left (link_allowed edition32 m t at.before at.most k) (listed edition32 m t (count - (i + 1)) k (word t k 7 + 1) (word t k 5)) first

  pub row_below : k < rows edition32 m
  row_below = link_inside edition32 m t at.before at.most k link

  pub row_filled : is_empty (cap_of t k) ≡ false
  unfolding link_allowed
  row_filled = not-true (is_empty (cap_of t k)) (part _ 1 link)

  pub row_shallow : word t k 7 < count
  row_shallow = omega (arith, link_depth edition32 m t at.before at.most k link, at.shallow)

  row_small : m_in_range edition32 m ≡ true → k < 4294967295
  row_small ranged = omega (arith, row_below, rows_most m ranged)

  -- the step of the code answers b, and leaves x
  module _ (ranged : m_in_range edition32 m ≡ true) {d up : ℕ} (is_depth : d ≡ word t k 7) (is_up : up ≡ row_above edition32 above d) (b : Bool) (x : List ℕ) (step : kept b x ≡ enter edition32 m t up k o) where
    here : kept b x ≡ enter edition32 m t (row_above edition32 above (word t k 7)) k o
    here = rw (is_up, is_depth) at step

    pub goes_on : {n : ℕ} → n ≡ word t k 5 → b ≡ true → Underway m count t whole (set above d k) x n (i + 1)
    goes_on next h =
        rw (next, is_depth)
        (record {
          rest = sym (walk_on edition32 m t above o count i k some (row_small ranged) b x here h) ∙ at.rest;
          before = k;
          most = word t k 7 + 1;
          list = and_right (link_allowed edition32 m t at.before at.most k) (listed edition32 m t (count - (i + 1)) k (word t k 7 + 1) (word t k 5)) first;
          shallow = omega (arith, link_depth edition32 m t at.before at.most k link, at.shallow);
          in_rows = still_in_rows;
        })
      where
        still_in_rows : (j : ℕ) → get_or (set above (word t k 7) k) j 0 < rows edition32 m
        still_in_rows j =
            either (eqb j (word t k 7))
            (λ h. let q = eqb-true j (word t k 7) h in
            either (ltb j (length above))
            (λ l. rw (← q, get_or-set_same above j k 0 (ltb-true j (length above) l)) row_below)
            (λ l. rw (← q, set_out above j k (ltb-false j (length above) l)) (at.in_rows j)))
            (λ h. rw (get_or-set_other above (word t k 7) j k 0 (eqb-false j (word t k 7) h)) (at.in_rows j))

    pub stops : b ≡ false → (rule : Bool) → judged edition32 m t whole ≡ rule → false ≡ rule
    unfolding judged
    stops h rule j = sym (ap (judged edition32 m t) (sym at.rest ∙ walk_stops edition32 m t above o count i k some (row_small ranged) b x here h)) ∙ j

-- ---- the beginning and the end

zeros_in_rows : (m n j : ℕ) → get_or (replicate n 0) j 0 < rows edition32 m
unfolding rows
zeros_in_rows m n j =
    let some : 0 < 2 ^ (m - 4) = pow_pos (m - 4) in
    either (ltb j n)
    (λ l. rw (get_or-replicate {A = ℕ} n j 0 0 (ltb-true j n l)) some)
    (λ l. rw (get_or-eq_default {A = ℕ} (replicate n 0) 0 {n = j} (omega (arith, ltb-false j n l, length-replicate {A = ℕ} n 0))) some)

pub begins : (m head n : ℕ) (t o : List ℕ) → Checked edition32 m head n t → Underway m n t (walk edition32 m t (replicate most_rows 0) o (follow edition32 t n head)) (replicate most_rows 0) o head 0
begins m head n t o c = let all : n - 0 ≡ n = omega arith in record { rest = rw all; before = 4294967295; most = 0; list = rw all c.chain; shallow = omega arith; in_rows = zeros_in_rows m most_rows }

pub row_up : (m : ℕ) (above : List ℕ) (up d : ℕ) → ((j : ℕ) → get_or above j 0 < rows edition32 m) → up ≡ row_above edition32 above d → (up ≡ 4294967295 → ⊥) → up < rows edition32 m
unfolding row_above
row_up m above up d f e n =
    either (eqb d 0)
    (λ t. absurd (n (rw t at e)))
    (λ h. let q : up ≡ get_or above (d - 1) 0 = rw h at e in rw q (f (d - 1)))

pub ends : {m count : ℕ} {t : List ℕ} {whole : Option (List ℕ)} {above o : List ℕ} {k i : ℕ} → Underway m count t whole above o k i → count ≤ i → (rule : Bool) → judged edition32 m t whole ≡ rule
    → homes edition32 m t o (rows edition32 m) ≡ rule
unfolding judged
ends {m} {count} {t} {whole} {above} {o} {k} {i} at h rule j = ap (judged edition32 m t) (sym (walk_ends edition32 m t above o count i k h) ∙ at.rest) ∙ j

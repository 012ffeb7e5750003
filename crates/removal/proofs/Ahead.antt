-- A walk along the rows below a row, turn by turn: the rows below that are to come, and what comes after them.
use Prim.Native.Nat.{ℕ, ◌+◌, ◌≤◌, ◌<◌}
use mathlib.Core.Path.{◌≡◌, refl, ap, ◌∙◌}
use mathlib.Core.List.{List, [], ◌∷◌, ◌++◌}
use native.Mathlib.Omega.{arith}
use lib.ListN.{get_or, length}
use Rattle.model.specs.Edition.{edition32}
use Rattle.model.specs.Tables.{Listed, word, first_of}
use Rattle.model.proofs.Members.{All}
use Rattle.model.proofs.Words.Rows.{row_at, rows_in, Holds}
use Rattle.model.proofs.Words.Listing.{Low}

-- us is below the row at depth d and is to come from row `next` on, ps comes after us; no more of us than there are turns
pub record Ahead (n : ℕ) (t : List ℕ) (d next turn turns : ℕ) (us ps : List Listed) : Type 0 where
  pub room : n < 4294967295
  pub before : ℕ
  pub holds : Holds edition32 (row_at t) before (us ++ ps)
  pub below : All (λ k. k < n) (rows_in (us ++ ps))
  pub deep : All (λ x. d < x.depth) us
  pub low : Low (d + 1) ps
  pub next_is : next ≡ first_of edition32 (us ++ ps)
  pub fuel : turn + length us ≤ turns

pub ahead_as : {n : ℕ} {t : List ℕ} {d next turn turns : ℕ} {us ps : List Listed} {d' next' : ℕ} → d' ≡ d → next' ≡ next → Ahead n t d next turn turns us ps → Ahead n t d' next' turn turns us ps
ahead_as p q w = rw (p, q) w

-- the depth of the next row
pub first_depth : (t : List ℕ) {next : ℕ} (u : Listed) (ys : List Listed) (before : ℕ) → Holds edition32 (row_at t) before (u ∷ ys) → next ≡ u.entry.row → word t next 7 ≡ u.depth
first_depth t u ys before h e = ap (λ k. word t k 7) e ∙ ap (λ r. get_or r 7 0) h.0

module _ {n : ℕ} {t : List ℕ} {d next turn turns : ℕ} where
  -- none is to come where the turns are over, where the list ends, and at a row that is not deeper
  pub ahead_spent : {us ps : List Listed} → Ahead n t d next turn turns us ps → turns ≤ turn → us ≡ []
  ahead_spent {us = []} w h = refl
  ahead_spent {us = u ∷ us} w h = absurd (omega (arith, w.fuel))

  pub ahead_end : {us ps : List Listed} → Ahead n t d next turn turns us ps → next ≡ 4294967295 → us ≡ []
  unfolding first_of
  ahead_end {us = []} w h = refl
  ahead_end {us = u ∷ us} w h = absurd (omega (arith, w.next_is, w.below.0, w.room))

  pub ahead_low : {us ps : List Listed} → Ahead n t d next turn turns us ps → word t next 7 ≤ d → us ≡ []
  unfolding first_of
  ahead_low {us = []} w h = refl
  ahead_low {us = u ∷ us} {ps = ps} w h = absurd (omega (arith, first_depth t u (us ++ ps) w.before w.holds w.next_is, w.deep.0))

  -- elsewhere the next row is in the table
  pub ahead_row : {us ps : List Listed} → Ahead n t d next turn turns us ps → (next ≡ 4294967295 → ⊥) → next < n
  unfolding first_of
  ahead_row {us = []} {ps = []} w ne = absurd (ne w.next_is)
  ahead_row {us = []} {ps = p ∷ ps} w ne = omega (arith, w.next_is, w.below.0)
  ahead_row {us = u ∷ us} w ne = omega (arith, w.next_is, w.below.0)

  -- and where it is deeper, it is one of those to come
  pub ahead_none : {ps : List Listed} → Ahead n t d next turn turns [] ps → (next ≡ 4294967295 → ⊥) → d < word t next 7 → ⊥
  unfolding first_of
  ahead_none {ps = []} w ne h = ne w.next_is
  ahead_none {ps = p ∷ ps} w ne h = omega (arith, first_depth t p ps w.before w.holds w.next_is, w.low)

  pub ahead_step : {u : Listed} {us ps : List Listed} → Ahead n t d next turn turns (u ∷ us) ps → Ahead n t d (word t next 5) (turn + 1) turns us ps
  unfolding first_of
  ahead_step {u = u} w =
      record {
        room = w.room;
        before = u.entry.row;
        holds = w.holds.1;
        below = w.below.1;
        deep = w.deep.1;
        low = w.low;
        next_is = ap (λ k. word t k 5) w.next_is ∙ ap (λ r. get_or r 5 0) w.holds.0;
        fuel = omega (arith, w.fuel);
      }

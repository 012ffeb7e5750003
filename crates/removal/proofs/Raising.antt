-- One row by itself: a walk along the rows below it that puts each one up.
use Prim.Native.Nat.{ℕ, ◌+◌, ◌-◌, ◌*◌, ◌<◌}
use mathlib.Core.Path.{◌≡◌, refl, sym, ap, ◌∙◌, subst}
use mathlib.Core.List.{List, [], ◌∷◌, ◌++◌}
use native.Mathlib.Omega.{arith}
use lib.ListN.{length, set, length-set}
use Rattle.model.specs.Edition.{edition32}
use Rattle.model.specs.Tables.{Listed, word, first_of}
use Rattle.model.proofs.Members.{all_map}
use Rattle.model.proofs.Distinct.{Distinct}
use Rattle.model.proofs.Words.Rows.{row_at, rows_in, Holds, holds_change}
use Rattle.model.proofs.Words.Stores.{row_set_other}
use Rattle.model.proofs.Words.Runs.{raised_run}
use Rattle.removal.proofs.Ahead.{Ahead, first_depth, ahead_none, ahead_step}

pub run_long : (t : List ℕ) (us : List Listed) → length (raised_run t us) ≡ length t
run_long t [] = refl
run_long t (u ∷ us) = run_long (set t (u.entry.row * 8 + 7) (u.depth - 1)) us ∙ length-set t (u.entry.row * 8 + 7) (u.depth - 1)

-- us is still to be put up; once it is up the table is `goal`
pub record Raising (n : ℕ) (t : List ℕ) (d : ℕ) (goal : List ℕ) (next turn turns : ℕ) : Type 0 where
  pub us : List Listed
  pub ps : List Listed
  pub ahead : Ahead n t d next turn turns us ps
  pub long : length t ≡ 8 * n
  pub distinct : Distinct (rows_in (us ++ ps))
  pub up : raised_run t us ≡ goal

module _ {n : ℕ} {t : List ℕ} {d : ℕ} {goal : List ℕ} {next turn turns : ℕ} where
  pub raising_as : {t' : List ℕ} {d' next' : ℕ} → t' ≡ t → d' ≡ d → next' ≡ next → Raising n t d goal next turn turns → Raising n t' d' goal next' turn turns
  raising_as p q r w = rw (p, q, r) w

  pub raised_all : (w : Raising n t d goal next turn turns) → w.us ≡ [] → t ≡ goal
  raised_all w none = ap (raised_run t) (sym none) ∙ w.up

  pub raising_step : (w : Raising n t d goal next turn turns) → (next ≡ 4294967295 → ⊥) → d < word t next 7 → Raising n (set t (next * 8 + 7) (word t next 7 - 1)) d goal (word t next 5) (turn + 1) turns
  unfolding first_of
  raising_step w ne h = go w.us w.ps w.ahead w.long w.distinct w.up
    where
      go : (us ps : List Listed) → Ahead n t d next turn turns us ps → length t ≡ 8 * n → Distinct (rows_in (us ++ ps)) → raised_run t us ≡ goal → Raising n (set t (next * 8 + 7) (word t next 7 - 1)) d goal (word t next 5) (turn + 1) turns
      go [] ps a long distinct up = absurd (ahead_none a ne h)
      go (u ∷ us) ps a long distinct up =
          let k = u.entry.row in
          let v = u.depth - 1 in
          let same : set t (k * 8 + 7) v ≡ set t (next * 8 + 7) (word t next 7 - 1) = λ i. set t (sym a.next_is i * 8 + 7) (sym (first_depth t u (us ++ ps) a.before a.holds a.next_is) i - 1) in
          let on = ahead_step a in
          record {
            us = us;
            ps = ps;
            ahead = record {
              room = on.room;
              before = k;
              holds =
                  subst (λ (s : List ℕ). Holds edition32 (row_at s) k (us ++ ps)) same
                  (holds_change edition32 (row_at t) (row_at (set t (k * 8 + 7) v)) k (us ++ ps) a.holds.1
                  (all_map (rows_in (us ++ ps)) (λ j ne. sym (row_set_other t k 7 v j (omega arith) ne)) distinct.0));
              below = on.below;
              deep = on.deep;
              low = on.low;
              next_is = on.next_is;
              fuel = on.fuel;
            };
            long = length-set t (next * 8 + 7) (word t next 7 - 1) ∙ long;
            distinct = distinct.1;
            up = ap (λ (s : List ℕ). raised_run s us) (sym same) ∙ up;
          }

-- The run of new rows, one link after the other: what is left of the run, put after the row that was linked last, is the whole run.
use Prim.Native.Nat.{ℕ, suc, ◌+◌, ◌-◌, ◌*◌, ◌≤◌, ◌<◌}
use mathlib.Core.Path.{◌≡◌}
use mathlib.Core.List.{List}
use native.Mathlib.Omega.{arith}
use lib.Pow.{pow_pos}
use Rattle.model.specs.Edition.{edition32}
use Rattle.model.specs.declared.Cap.{Cap}
use Rattle.model.specs.declared.Retyping.{Retyping}
use Rattle.model.specs.Stores.{linked, linked_run}
use Rattle.model.specs.Operations.{made, new_cap}
use Rattle.retype.specs.Laid.{unit, new_rows}

-- `left` rows are to come, from row k on for objects from `at` on, after row `last`
pub record Laying (next depth : ℕ) (q : Retyping) (whole t : List ℕ) (last k at left : ℕ) : Type 0 where
  pub named : at + left * unit q ≤ 4294967296
  pub run : linked_run t last next (new_rows q depth k at left) ≡ whole

module _ {next depth : ℕ} {q : Retyping} {whole t : List ℕ} {last k at left : ℕ} (l : Laying next depth q whole t last k at left) where
  pub laying_last : left ≡ 0 → t ≡ whole
  unfolding made
  laying_last e = rw e at l.run

  -- the next object begins and ends within what an address can name
  pub laying_fits : 0 < left → (at < 4294967296) × (at + unit q ≤ 4294967296)
  laying_fits h =
      let more : left ≡ suc (left - 1) = omega arith in
      let named = rw more at l.named in
      let some : 0 < unit q = pow_pos _ in
      (omega (arith, named), omega (arith, named))

  pub laying_next : (t' : List ℕ) (c : Cap) (u n : ℕ) → left ≡ suc n → c ≡ new_cap edition32 q.object q.size at
      → t' ≡ linked t last next (record { entry = record { row = k; cap = c }; depth = depth }) → u ≡ unit q
      → Laying next depth q whole t' k (k + 1) (at + u) n
  unfolding made
  laying_next t' c u n more new link on =
      let named = rw more at l.named in
      let run = rw more at l.run in
      record { named = rw on (omega (arith, named)); run = rw (on, link, new) run }

-- `retype::laying::link_new` meets its contract. The loop's invariant: what is left of the run, put after the row that was linked last, is the whole
-- run. Assumes nothing.
use Prim.Native.Nat.{ℕ, ◌-◌, ◌+◌, ◌^◌}
use mathlib.Core.Path.{◌≡◌, refl}
use native.Mathlib.Omega.{arith}
use Rattle.model.specs.Edition.{edition32}
use Rattle.model.specs.declared.Retyping.{Retyping}
use Rattle.model.specs.Cap.{exponent}
use Rattle.retype.specs.Laid.{unit}
use Rattle.retype.proofs.Run.{laying_fits, laying_next, laying_last}
use Rattle.retype.proofs.laying.link_new.Goals as goal

bytes_each : (q : Retyping) (u e : ℕ) → u ≡ 2 ^ e → e ≡ exponent edition32 q.object q.size → u ≡ unit q
bytes_each q u e h k = rw (h, k)

pub loop-k-init : goal.loop-k-init
loop-k-init c =
    let all : c.args.first.0 + c.args.q.window - c.args.first.0 ≡ c.args.q.window = omega arith in
    rw (all, c.from-at.ensures) (record { named = c.requires.named; run = refl })

pub overflow_cast-at : goal.overflow_cast-at
overflow_cast-at c = omega (arith, (laying_fits c.loop-k.invariant (omega arith)).0)

pub overflow_add-at : goal.overflow_add-at
overflow_add-at c =
    omega (arith, (laying_fits c.loop-k.invariant (omega arith)).1, bytes_each c.args.q _ _ c.pow2-unit.ensures c.exponent.ensures)

pub loop-k-preserved : goal.loop-k-preserved
loop-k-preserved c =
    laying_next c.loop-k.invariant _ _ _ _ (omega arith) c.new_cap-c.ensures c.link.ensures
    (bytes_each c.args.q _ _ c.pow2-unit.ensures c.exponent.ensures)

pub returns : goal.returns
returns c = laying_last c.loop-k.invariant (omega arith)

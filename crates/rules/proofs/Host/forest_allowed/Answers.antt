-- The loop keeps `Underway`: the walk of the entries left is the walk of all, which is judged as the rule.
use Prim.Native.Nat.{ℕ, ◌≤◌}
use mathlib.Core.Path.{◌∙◌}
use native.Mathlib.Omega.{arith}
use lib.ListN.{length, replicate, length-replicate}
use Rattle.model.specs.Edition.{most_rows}
use Rattle.rules.proofs.Law.{forest_judged}
use Rattle.rules.proofs.Stepping.{few, row_below, row_filled, row_shallow, goes_on, stops, begins, ends}
use Rattle.rules.proofs.Host.forest_allowed.Goals as goal

-- a depth for each row
above_long : most_rows ≤ length (replicate {A = ℕ} most_rows 0)
above_long = omega (arith, length-replicate {A = ℕ} most_rows 0)

pub loop-init : goal.loop-init
loop-init c = begins _ _ _ _ _ c.requires

pub word-depth-requires : goal.word-depth-requires
word-depth-requires c = omega (arith, row_below c.loop.invariant c.loop-test.true, c.args.self.now.scanned.long)

pub row_above-up-requires : goal.row_above-up-requires
row_above-up-requires c = omega (arith, row_shallow c.loop.invariant c.loop-test.true, c.word-depth.ensures, few _ _ _ _ c.args.self.now.scanned c.requires)

pub enter-requires-clause-occupied : goal.enter-requires-clause-occupied
enter-requires-clause-occupied c =
    record { below = row_below c.loop.invariant c.loop-test.true; filled = row_filled c.loop.invariant c.loop-test.true }

pub returns-then-not-enter : goal.returns-then-not-enter
returns-then-not-enter c =
    stops c.loop.invariant c.loop-test.true c.args.self.now.scanned.m_range c.word-depth.ensures c.row_above-up.ensures _ _ c.enter.ensures c.if-not-enter.true _
    (forest_judged _ _ _ _ _ c.args.self.now.scanned c.requires above_long)

pub bounds-above-depth : goal.bounds-above-depth
bounds-above-depth c = omega (arith, row_shallow c.loop.invariant c.loop-test.true, c.word-depth.ensures, few _ _ _ _ c.args.self.now.scanned c.requires)

pub word-k-requires : goal.word-k-requires
word-k-requires c = omega (arith, row_below c.loop.invariant c.loop-test.true, c.args.self.now.scanned.long)

pub loop-preserved : goal.loop-preserved
loop-preserved c =
    goes_on c.loop.invariant c.loop-test.true c.args.self.now.scanned.m_range c.word-depth.ensures c.row_above-up.ensures _ _ c.enter.ensures c.word-k.ensures c.if-not-enter.false

pub returns : goal.returns
returns c = c.housed.ensures ∙ ends c.loop.invariant c.loop-test.false _ (forest_judged _ _ _ _ _ c.args.self.now.scanned c.requires above_long)

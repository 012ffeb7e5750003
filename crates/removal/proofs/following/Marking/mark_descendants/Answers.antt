-- `removal::Marking::mark_descendants` meets its contract. The loop's invariant: some of the rows below are marked, and the others are to
-- come. Assumes nothing.
use mathlib.Core.Path.{refl}
use mathlib.Core.Bool.{false}
use native.Mathlib.Omega.{arith}
use Rattle.removal.proofs.Marks.{marks_none, marks_then, marks_as}
use Rattle.removal.proofs.Nodes.{found_at}
use Rattle.removal.proofs.Ahead.{ahead_spent, ahead_end, ahead_low, ahead_row}
use Rattle.removal.proofs.Descent.{descent_as, descended_all, descent_step, descent_start, none_below, place}
use Rattle.removal.proofs.following.Marking.mark_descendants.Goals as goal
use Rattle.removal.proofs.following.Marking.mark_descendants.Goals.{then-next-via-then-next, then-next-via-else-next+then-word-depth}

pub returns-then-is : goal.returns-then-is
returns-then-is c = marks_none _ _ (none_below _ c.requires.formed _ (found_at _ c.requires.formed _ c.cap_at.ensures c.is.ensures c.if-is.true)) c.requires.counted

pub loop-init : goal.loop-init
loop-init c = (
  λ j. false,
  marks_none _ _ (λ j. refl) c.requires.counted,
  descent_as c.word-depth.ensures c.word-next.ensures (descent_start _ c.requires.formed _ (place _ c.requires.formed _ (found_at _ c.requires.formed _ c.cap_at.ensures c.is.ensures c.if-is.false))),
)

pub word-requires : goal.word-requires
word-requires c = omega (arith, ahead_row c.loop.invariant.2.ahead c.if-next.false)

pub returns-then-next : goal.returns-then-next
returns-then-next c =
    let i = c.loop.invariant in
    marks_as _ _ _
    (descended_all i.2
    (elim c.then-next.branch [
      | then-next-via-then-next w ↦ ahead_end i.2.ahead w.if-next.true
      | then-next-via-else-next+then-word-depth w ↦ ahead_low i.2.ahead (omega (arith, w.word.ensures, w.if-word-depth.true))
    ]))
    i.1

pub loop-preserved : goal.loop-preserved
loop-preserved c =
    let i = c.loop.invariant in (
      _,
      marks_then _ i.0 _ _ (λ j. refl) i.1 c.mark_row.ensures,
      descent_as refl c.word-next-in-loop.ensures (descent_step i.2 c.if-next.false (omega (arith, c.word.ensures, c.if-word-depth.false))),
    )

pub returns : goal.returns
returns c = let i = c.loop.invariant in marks_as _ _ _ (descended_all i.2 (ahead_spent i.2.ahead c.loop-test.false)) i.1

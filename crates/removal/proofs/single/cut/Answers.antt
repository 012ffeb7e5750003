-- `removal::cut` meets its contract: its stores are those of the tables without the row. Assumes nothing.
use Prim.Native.Nat.{ℕ, ◌-◌}
use mathlib.Core.Path.{◌≡◌, ap, ap₂, ◌∙◌}
use mathlib.Core.Bool.{cond}
use native.Mathlib.Omega.{arith}
use lib.Dec.{eqb}
use lib.ListN.{length, get_or, set}
use borrow.Author.Tests.{ne_eqb}
use Rattle.model.specs.Stores.{unlinked}
use Rattle.model.specs.Tables.{lent}
use Rattle.model.proofs.Words.Edited.{listed_under}
use Rattle.removal.proofs.Raising.{run_long}
use Rattle.removal.proofs.Descent.{some_row, stands, row_in}
use Rattle.removal.proofs.Cutting.{cut_is}
use Rattle.removal.proofs.single.cut.Goals as goal
use Rattle.removal.proofs.single.cut.Goals.{then-last, else-last}

pub overflow_sub-control : goal.overflow_sub-control
overflow_sub-control c = some_row _ c.requires.formed _ (stands _ c.requires.formed _ c.requires.occupied)

pub unlink-requires : goal.unlink-requires
unlink-requires c =
    let p = stands _ c.requires.formed _ c.requires.occupied in
    omega (arith, row_in _ c.requires.formed _ c.requires.occupied, ap length (c.raise_descendants.ensures.is p), run_long c.args.t.now (listed_under p))

pub returns : goal.returns
returns c =
    let p = stands _ c.requires.formed _ c.requires.occupied in
    let last = c.word-last.ensures in
    let next = c.word-next.ensures in
    let head : c.if-last.control ≡ cond (eqb c.word-last.result 4294967295) c.word-next.result (get_or c.args.control.now 2 0) =
    elim c.if-last.branch [
      | then-last w ↦ rw (w.if-last.true) w.control-is
      | else-last w ↦ rw (ne_eqb _ _ w.if-last.false) w.control-is
    ]
    in
    ap₂ lent
    (c.unlink.ensures ∙ (λ j. unlinked (c.raise_descendants.ensures.is p j) c.args.row.0 (last j) (next j)))
    (ap (λ (n : ℕ). set (set c.args.control.now 2 n) 3 (get_or c.args.control.now 3 0 - 1)) (head ∙ (λ j. cond (eqb (last j) 4294967295) (next j) (get_or c.args.control.now 2 0))))
    ∙ cut_is _ c.requires.formed _ p

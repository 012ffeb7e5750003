-- `removal::single::named_elsewhere` meets its contract: a row beside does, or one of all rows. Assumes nothing.
use mathlib.Core.Path.{refl, sym, ◌∙◌}
use native.Mathlib.Omega.{arith}
use Rattle.std.proofs.Common.{rules}
use Rattle.std.proofs.lemmas.Iterator.{YieldsList-from_range}
use Rattle.std.proofs.lemmas.Iterator.Search.{any_from_yields_List}
use Rattle.model.specs.Tables.{cap_of}
use Rattle.removal.specs.Marking.{row_count}
use Rattle.removal.specs.Removing.{also_names}
use Rattle.removal.proofs.Elsewhere.{found, looked_for}
use Rattle.removal.proofs.single.named_elsewhere.Goals as goal
use Rattle.removal.proofs.single.named_elsewhere.Goals.{then-also_names, else-also_names}

pub returns-then-also_names-2 : goal.returns-then-also_names-2
returns-then-also_names-2 c =
    c.if-also_names-2.true
    ∙ elim c.if-also_names.branch [
      | then-also_names w ↦ found _ _ _ _ (sym c.also_names.ensures ∙ w.if-also_names.true)
      | else-also_names w ↦ found _ _ _ _ (sym w.also_names-else-also_names.ensures ∙ sym w.value-is ∙ c.if-also_names-2.true)
    ]

pub returns-else-also_names-2 : goal.returns-else-also_names-2
returns-else-also_names-2 c =
    let n = row_count c.args.t.now in
    looked_for _ _ _ _ (any_from_yields_List (also_names (cap_of c.args.t.now) n c.args.row.0) _ _ _ c.any.ensures.ran (YieldsList-from_range 0 _ n refl (omega (arith, c.row_count.ensures))) (λ x b q k. search rules))

-- The source's root, the two places, then what is done between them.
use Rattle.std.specs.Prelude.{◌≡◌, Err}
use Rattle.std.proofs.Common.{rules}
use mathlib.Core.Path.{◌∙◌}
use Rattle.model.specs.Edition.{edition32}
use Rattle.model.specs.Operations.{copy, move}
use Rattle.model.proofs.Outcome.{comes_same}
use Rattle.zhvanirek_core.specs.Serving.{transfer}
use Rattle.zhvanirek_core.proofs.Carried.{found_row, found_none}
use Rattle.zhvanirek_core.proofs.Performed.{copies, moves, place_reached, two_refused, two_found}
use Rattle.zhvanirek_core.proofs.performing.transferring.Goals as goal

pub returns-in_err-root : goal.returns-in_err-root
returns-in_err-root c =
    let told : c.from_residual.result ≡ Err c.in_err-root.field-0.0 = search rules in
    rw told (two_refused _ c.requires.formed _ _ _ (transfer c.args.how) _ (found_none c.row_named.ensures c.in_err-root.was))

pub copy-requires-clause-dest_reached : goal.copy-requires-clause-dest_reached
copy-requires-clause-dest_reached c = place_reached _ c.requires.formed _ _ _ _ _ c.place-dest.ensures

pub copy-requires-clause-source_reached : goal.copy-requires-clause-source_reached
copy-requires-clause-source_reached c = place_reached _ c.requires.formed _ _ _ _ _ c.place-source.ensures

pub relocate-requires-clause-dest_reached : goal.relocate-requires-clause-dest_reached
relocate-requires-clause-dest_reached c = place_reached _ c.requires.formed _ _ _ _ _ c.place-dest.ensures

pub relocate-requires-clause-source_reached : goal.relocate-requires-clause-source_reached
relocate-requires-clause-source_reached c = place_reached _ c.requires.formed _ _ _ _ _ c.place-source.ensures

pub returns-in-Masked : goal.returns-in-Masked
returns-in-Masked c =
    c.copy.ensures
    ∙ comes_same edition32 _ (λ f. copy edition32 f c.place-dest.result c.place-source.result c.args.how) (λ f. transfer c.args.how f c.place-dest.result c.place-source.result)
    (copies c.in-Masked.is _ _ _)
    ∙ two_found _ c.requires.formed _ _ _ (transfer c.args.how) _ _ _ (found_row c.row_named.ensures c.in_ok-root.was) c.place-dest.ensures c.place-source.ensures

pub returns-in-Kept : goal.returns-in-Kept
returns-in-Kept c =
    c.relocate.ensures
    ∙ comes_same edition32 _ (λ f. move edition32 f c.place-dest.result c.place-source.result c.args.how) (λ f. transfer c.args.how f c.place-dest.result c.place-source.result)
    (moves c.in-Kept.is _ _ _)
    ∙ two_found _ c.requires.formed _ _ _ (transfer c.args.how) _ _ _ (found_row c.row_named.ensures c.in_ok-root.was) c.place-dest.ensures c.place-source.ensures

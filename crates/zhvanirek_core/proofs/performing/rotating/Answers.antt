-- The roots of pivot and source, the three places and the two data, then what is done.
use Rattle.std.specs.Prelude.{◌≡◌, Err}
use Rattle.std.proofs.Common.{rules}
use mathlib.Core.Path.{◌∙◌}
use Rattle.zhvanirek_core.proofs.Carried.{found_row, found_none}
use Rattle.zhvanirek_core.proofs.Performed.{place_reached, pivot_refused, turn_refused, turn_found}
use Rattle.zhvanirek_core.proofs.performing.rotating.Goals as goal

pub returns-in_err-pivot_root : goal.returns-in_err-pivot_root
returns-in_err-pivot_root c =
    let told : c.from_residual.result ≡ Err c.in_err-pivot_root.field-0.0 = search rules in
    rw told (pivot_refused _ c.requires.formed _ _ _ _ (found_none c.row_named.ensures c.in_err-pivot_root.was))

pub returns-in_err-source_root : goal.returns-in_err-source_root
returns-in_err-source_root c =
    let told : c.from_residual-in_err-source_root.result ≡ Err c.in_err-source_root.field-0.0 = search rules in
    rw told
    (turn_refused _ c.requires.formed _ _ _ _ (found_row c.row_named.ensures c.in_ok-pivot_root.was) _ (found_none c.row_named-2.ensures c.in_err-source_root.was))

pub rotate-requires-clause-dest_reached : goal.rotate-requires-clause-dest_reached
rotate-requires-clause-dest_reached c = place_reached _ c.requires.formed _ _ _ _ _ c.place-dest.ensures

pub rotate-requires-clause-pivot_reached : goal.rotate-requires-clause-pivot_reached
rotate-requires-clause-pivot_reached c = place_reached _ c.requires.formed _ _ _ _ _ c.place-pivot.ensures

pub rotate-requires-clause-source_reached : goal.rotate-requires-clause-source_reached
rotate-requires-clause-source_reached c = place_reached _ c.requires.formed _ _ _ _ _ c.place-source.ensures

pub returns : goal.returns
returns c =
    c.rotate.ensures
    ∙ turn_found _ c.requires.formed _ _ _ _ (found_row c.row_named.ensures c.in_ok-pivot_root.was) _ _ _ _ _ _
    (found_row c.row_named-2.ensures c.in_ok-source_root.was)
    c.place-dest.ensures c.place-pivot.ensures c.place-source.ensures c.word-datum.ensures c.word-pivot_datum.ensures

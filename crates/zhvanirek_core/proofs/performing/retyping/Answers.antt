-- The root, then Retype.
use Rattle.std.specs.Prelude.{◌≡◌, Err}
use Rattle.std.proofs.Common.{rules}
use mathlib.Core.Path.{◌∙◌}
use Rattle.zhvanirek_core.proofs.Carried.{found_row, found_none}
use Rattle.zhvanirek_core.proofs.Performed.{retypable, retype_refused, retype_found}
use Rattle.zhvanirek_core.proofs.performing.retyping.Goals as goal

pub returns-in_err-root : goal.returns-in_err-root
returns-in_err-root c =
    let told : c.from_residual.result ≡ Err c.in_err-root.field-0.0 = search rules in
    rw told (retype_refused _ c.requires.served.formed _ _ _ _ (found_none c.row_named.ensures c.in_err-root.was))

pub retype-requires : goal.retype-requires
retype-requires c = retypable _ _ _ c.requires.served.formed c.requires.served.in_table c.requires.untyped _ _ c.retyping-asked.ensures

pub returns : goal.returns
returns c = c.retype.ensures ∙ retype_found _ c.requires.served.formed _ _ _ _ _ (found_row c.row_named.ensures c.in_ok-root.was) c.retyping-asked.ensures

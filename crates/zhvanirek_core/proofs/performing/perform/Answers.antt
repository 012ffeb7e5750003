-- Each operation by its number.
use Rattle.std.specs.Prelude.{◌≡◌, Err}
use Rattle.std.proofs.Common.{rules}
use mathlib.Core.Path.{refl, sym, ap, ap₂, ◌∙◌}
use Rattle.model.specs.declared.Change.TheVariants.{Masked, Minted, Mutated}
use Rattle.model.specs.declared.Operation.TheVariants.{Copy, Mint, Move, Mutate, Delete, Revoke}
use Rattle.zhvanirek_core.proofs.Carried.{found_row, found_none}
use Rattle.zhvanirek_core.proofs.Gone.{delete_refused, delete_found, revoke_refused, revoke_found}
use Rattle.zhvanirek_core.proofs.Performed.{transfer_chosen, same_chosen}
use Rattle.zhvanirek_core.proofs.performing.perform.Goals as goal

pub returns-in-Copy : goal.returns-in-Copy
returns-in-Copy c = c.transferring.ensures ∙ transfer_chosen _ _ _ _ Copy _ (sym c.in-Copy.ensures) (ap Masked c.word-rights.ensures)

pub returns-in-Mint : goal.returns-in-Mint
returns-in-Mint c =
    c.transferring-in-Mint.ensures ∙ transfer_chosen _ _ _ _ Mint _ (sym c.in-Mint.ensures) (ap₂ Minted c.word-rights-in-Mint.ensures c.word-datum.ensures)

pub returns-in-Move : goal.returns-in-Move
returns-in-Move c = c.transferring-in-Move.ensures ∙ transfer_chosen _ _ _ _ Move _ (sym c.in-Move.ensures) refl

pub returns-in-Mutate : goal.returns-in-Mutate
returns-in-Mutate c = c.transferring-in-Mutate.ensures ∙ transfer_chosen _ _ _ _ Mutate _ (sym c.in-Mutate.ensures) (ap Mutated c.word-datum-in-Mutate.ensures)

pub returns-in_err-row-in-Delete : goal.returns-in_err-row-in-Delete
returns-in_err-row-in-Delete c =
    let told : c.from_residual.result ≡ Err c.in_err-row-in-Delete.field-0.0 = search rules in
    rw told
    (delete_refused _ c.requires.served.formed _ _ _ _ (found_none c.target.ensures c.in_err-row-in-Delete.was) ∙ same_chosen _ _ _ _ Delete (sym c.in-Delete.ensures))

pub returns-in_ok-row-in-Delete : goal.returns-in_ok-row-in-Delete
returns-in_ok-row-in-Delete c =
    delete_found _ c.requires.served.formed _ _ _ _ _ _ (found_row c.target.ensures c.in_ok-row-in-Delete.was) c.delete.ensures
    ∙ same_chosen _ _ _ _ Delete (sym c.in-Delete.ensures)

pub returns-in_err-row-in-Revoke : goal.returns-in_err-row-in-Revoke
returns-in_err-row-in-Revoke c =
    let told : c.from_residual-in_err-row-in-Revoke.result ≡ Err c.in_err-row-in-Revoke.field-0.0 = search rules in
    rw told
    (revoke_refused _ c.requires.served.formed _ _ _ _ (found_none c.target-in-Revoke.ensures c.in_err-row-in-Revoke.was) ∙ same_chosen _ _ _ _ Revoke (sym c.in-Revoke.ensures))

pub returns-in_ok-row-in-Revoke : goal.returns-in_ok-row-in-Revoke
returns-in_ok-row-in-Revoke c =
    revoke_found _ c.requires.served.formed _ _ _ _ _ _ (found_row c.target-in-Revoke.ensures c.in_ok-row-in-Revoke.was) c.revoke.ensures
    ∙ same_chosen _ _ _ _ Revoke (sym c.in-Revoke.ensures)

-- Bad tables, a refusal before the operation, and the operation.
use Rattle.std.specs.Prelude.{◌≡◌, Err}
use Rattle.std.proofs.Common.{rules}
use mathlib.Core.Path.{sym, ◌∙◌}
use Rattle.lookup.proofs.WellFormed.{ready}
use Rattle.zhvanirek_core.proofs.Carried.{found_row, found_none}
use Rattle.zhvanirek_core.proofs.Requested.{asked_invokes, request_bad, request_refused, request_found}
use Rattle.zhvanirek_core.proofs.request.Goals as goal

pub returns-then-not-check : goal.returns-then-not-check
returns-then-not-check c = request_bad _ _ _ (sym c.check.ensures ∙ c.if-not-check.true)

pub invariant_of-service : goal.invariant_of-service
invariant_of-service c = record { ready = ready _ (sym c.check.ensures ∙ c.if-not-check.false) }

pub returns-in_err-service : goal.returns-in_err-service
returns-in_err-service c =
    let told : c.from_residual.result ≡ Err c.in_err-service.field-0.0 = search rules in
    rw told (request_refused _ _ _ (sym c.check.ensures ∙ c.if-not-check.false) _ (found_none c.service.ensures c.in_err-service.was))

pub perform-requires-clause-invokes : goal.perform-requires-clause-invokes
perform-requires-clause-invokes c = asked_invokes _ _ _ _ (found_row c.service.ensures c.in_ok-service.was)

pub returns : goal.returns
returns c = c.perform.ensures ∙ request_found _ _ _ (sym c.check.ensures ∙ c.if-not-check.false) _ (found_row c.service.ensures c.in_ok-service.was)

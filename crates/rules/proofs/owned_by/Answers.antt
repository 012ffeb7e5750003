-- `all` over the cells is the definition's recursion over them.
use Rattle.std.proofs.Common.{arith, rules, tests, eqb, ◌∙◌, ◌+◌, refl}
use Rattle.std.specs.List.{between}
use Rattle.std.proofs.lemmas.Iterator.{YieldsList-from_slice}
use Rattle.std.proofs.lemmas.Iterator.Search.{all_from_yields_List}
use Rattle.rules.specs.Owners.{owned_by}
use Rattle.rules_row.proofs.Runs.{all_between}
use Rattle.rules.proofs.owned_by.Goals as goal

pub returns : goal.returns
unfolding owned_by
returns c =
    let o = c.args.owner.now in
    let first = c.args.first in
    let n = c.args.n in
    let up = c.args.up in
    all_from_yields_List (λ by. eqb by up) _ _ _ c.all.ensures.ran (YieldsList-from_slice (between first (first + n) o) cc) (λ x b q k. search (rules, tests))
    ∙ all_between (λ by. eqb by up) o (λ i n. owned_by o i n up) (λ _. refl) (λ _ _. refl) first n (omega arith)

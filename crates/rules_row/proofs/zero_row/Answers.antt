-- `all` over the row's words is the definition's recursion over them.
use Rattle.std.proofs.Common.{rules, tests, eqb, ◌∙◌, ◌+◌, ◌*◌, refl}
use Rattle.std.specs.List.{between}
use Rattle.std.proofs.lemmas.Iterator.{YieldsList-from_slice}
use Rattle.std.proofs.lemmas.Iterator.Search.{all_from_yields_List}
use Rattle.model.specs.Rules.{zeros}
use Rattle.rules_row.proofs.Runs.{all_between}
use Rattle.rules_row.proofs.zero_row.Goals as goal

pub returns : goal.returns
unfolding zeros
returns c =
    let t = c.args.t.now in
    let at = c.args.row.0 * 8 in
    all_from_yields_List (λ w. eqb w 0) _ _ _ c.all.ensures.ran (YieldsList-from_slice (between at (at + 8) t) cc) (λ x b q k. search (rules, tests))
    ∙ all_between (λ w. eqb w 0) t (zeros t) (λ _. refl) (λ _ _. refl) at 8 c.requires

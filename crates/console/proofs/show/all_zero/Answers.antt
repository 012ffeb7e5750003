-- The words are tested one after the other.
use Rattle.std.proofs.Common.{◌≡◌, ◌≢◌, ℕ, rules}
use Rattle.std.proofs.lemmas.Iterator.{cases_from_all, YieldsList-from_slice}
use borrow.Author.Tests.{tests}
use Rattle.console.proofs.Shown.{zeros_tested}
use Rattle.console.proofs.show.all_zero.Goals as goal

pub returns : goal.returns
returns c =
    zeros_tested _ _ (cases_from_all _ _ _ (λ (w : ℕ). w ≡ 0) (λ (w : ℕ). w ≢ 0) c.all.ensures.ran (YieldsList-from_slice c.args.words.now cc) (λ x q k. search (rules, tests)) (λ x q k. search (rules, tests)))

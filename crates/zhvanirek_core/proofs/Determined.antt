-- The promises leave one answer: two outcomes that meet one of them on the same input are equal, refusals included.
use Rattle.model.specs.Check.{Answer}
use Rattle.std.specs.Prelude.{◌≡◌, ℕ, List}
use mathlib.Core.Path.{sym, ◌∙◌}
use Rattle.model.specs.Edition.{edition32}
use Rattle.model.specs.Tables.{Tables}
use Rattle.model.specs.Request.{Outcome, boot, request, six_words}

pub boot_determined : (t : Tables) (m r : ℕ) (one other : Outcome) → one ≡ boot edition32 t m r → other ≡ boot edition32 t m r → one ≡ other
boot_determined t m r one other p q = p ∙ sym q

pub request_determined : (t : Tables) (caller : ℕ) (message : List ℕ) (one other : Outcome)
    → one ≡ request edition32 t caller message → other ≡ request edition32 t caller message → one ≡ other
request_determined t caller message one other p q = p ∙ sym q

pub words_determined : (answer : Answer) (one other : List ℕ) → one ≡ six_words answer → other ≡ six_words answer → one ≡ other
words_determined answer one other p q = p ∙ sym q

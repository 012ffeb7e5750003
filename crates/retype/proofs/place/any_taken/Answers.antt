-- `retype::place::any_taken` meets its contract: the rows of the window in turn, up to an occupied one.
-- Assumes nothing.
use Prim.Native.Nat.{ℕ, zero, suc, ◌+◌}
use mathlib.Core.Path.{◌≡◌, refl, ap, ◌∙◌}
use mathlib.Core.Bool.{Bool, not, ◌||◌}
use native.Mathlib.Omega.{arith}
use Rattle.std.proofs.Common.{rules}
use Rattle.std.proofs.lemmas.Iterator.{YieldsList-from_range}
use Rattle.std.proofs.lemmas.Iterator.Search.{any_from_yields_List}
use Rattle.std.specs.List.{range_with_len, list_any}
use Rattle.model.specs.declared.Cap.{Cap}
use Rattle.model.specs.Cap.{is_empty}
use Rattle.model.specs.Tables.{cap_of}
use Rattle.retype.specs.Window.{taken_by}
use Rattle.retype.proofs.place.any_taken.Goals as goal

taken_among : (caps : ℕ → Cap) (k n : ℕ) → list_any (λ i. not (is_empty (caps i))) (range_with_len k n) ≡ taken_by caps k n
unfolding taken_by
taken_among caps k zero = refl
taken_among caps k (suc n) = ap (λ (b : Bool). not (is_empty (caps k)) || b) (taken_among caps (k + 1) n)

pub returns : goal.returns
returns c =
    any_from_yields_List (λ k. not (is_empty (cap_of c.args.slots.now.words.now k))) _ _ c.any.result c.any.ensures.ran
    (YieldsList-from_range _ (c.args.first.0 + c.args.n) c.args.n (cc) (omega arith))
    (λ x b q k. search rules)
    ∙ taken_among _ _ _

-- Memory throughout a run of requests: the model's laws on states, said of words. Well-formed tables stand for a state that keeps the rules,
-- and the capability in a row is the one that its words say.
-- Assumes nothing.
use Prim.Native.Nat.{ℕ}
use mathlib.Core.Path.{subst, sym, ◌≡◌}
use mathlib.Core.Bool.{false, not, true, ◌&&◌}
use mathlib.Core.List.{[], ◌∷◌}
use borrow.Author.Tests.{not-true}
use Rattle.model.specs.declared.Cap.{Cap}
use Rattle.model.specs.Edition.{Edition, edition32}
use Rattle.model.specs.Cap.{apart, is_empty, is_untyped}
use Rattle.model.specs.Tree.{Forest, cap_at}
use Rattle.model.specs.Tables.{Tables, cap_of, read}
use Rattle.model.specs.Rules.{well_formed}
use Rattle.model.specs.Request.{request}
use Rattle.model.specs.Tenants.{tables_after}
use Rattle.model.proofs.Booleans.{and_left, and_right}
use Rattle.model.proofs.State.{Sound}
use Rattle.model.proofs.Kept.Figures.{Sane, sane32}
use Rattle.model.proofs.Kept.Formed.{request_formed}
use Rattle.model.proofs.Kept.Memory.{typed_apart}
use Rattle.model.proofs.Kept.Rules.{entry_at}
use Rattle.model.proofs.Words.Caps.{caps_read}
use Rattle.model.proofs.Words.WellFormed.{Roomy, good_read, roomy32}
use Rattle.tenants.specs.Memory.{LiveApart, StaysWellFormed, names_typed}

typed_in : {E : Edition} {m : ℕ} {f : Forest} → Sound E m f → (j k : ℕ) → is_empty (cap_at f j) ≡ false → is_untyped (cap_at f j) ≡ false → is_empty (cap_at f k) ≡ false → is_untyped (cap_at f k) ≡ false
    → apart E (cap_at f j) (cap_at f k) ≡ true
typed_in s j k h t i u =
    let (x, p, a, c) = entry_at s j h in
    let (y, q, b, d) = entry_at s k i in
    rw (c, d) (typed_apart s p q (subst (λ (z : Cap). is_untyped z ≡ false) c t) (subst (λ (z : Cap). is_untyped z ≡ false) d u))

module _ {E : Edition} (law : Roomy E) (sane : Sane E) where
  pub stays_well_formed : StaysWellFormed E
  unfolding tables_after
  stays_well_formed t wf [] = wf
  stays_well_formed t wf (z ∷ zs) = stays_well_formed (request E t z.caller z.message).tables (request_formed law sane t wf z.caller z.message) zs

  objects_apart : (t : Tables) → well_formed E t ≡ true → (j k : ℕ) → names_typed t j ≡ true → names_typed t k ≡ true → apart E (cap_of t.table j) (cap_of t.table k) ≡ true
  unfolding names_typed
  objects_apart t wf j k p q =
      subst (λ (caps : ℕ → Cap). (not (is_empty (caps j)) && not (is_untyped (caps j))) ≡ true → (not (is_empty (caps k)) && not (is_untyped (caps k))) ≡ true → apart E (caps j) (caps k) ≡ true)
      (sym (caps_read E law t wf))
      (λ p q. typed_in (good_read E law t wf).sound j k
      (not-true (is_empty (cap_at f j)) (and_left (not (is_empty (cap_at f j))) (not (is_untyped (cap_at f j))) p))
      (not-true (is_untyped (cap_at f j)) (and_right (not (is_empty (cap_at f j))) (not (is_untyped (cap_at f j))) p))
      (not-true (is_empty (cap_at f k)) (and_left (not (is_empty (cap_at f k))) (not (is_untyped (cap_at f k))) q))
      (not-true (is_untyped (cap_at f k)) (and_right (not (is_empty (cap_at f k))) (not (is_untyped (cap_at f k))) q)))
      p q
    where
      f : Forest
      f = (read E t).forest

  pub live_apart : LiveApart E
  live_apart t wf zs j k p q = objects_apart (tables_after E t zs) (stays_well_formed t wf zs) j k p q

pub stays_well_formed32 : StaysWellFormed edition32
stays_well_formed32 = stays_well_formed roomy32 sane32

pub live_apart32 : LiveApart edition32
live_apart32 = live_apart roomy32 sane32

-- A request: bad tables, a refusal before the operation, and the operation.
-- Assumes nothing.
use Rattle.model.specs.declared.Refusal.{Refusal}
use Rattle.std.specs.Prelude.{Ok, Err}
use Rattle.std.specs.Prelude.{◌≡◌, ℕ, true, false, List, get_or}
use mathlib.Core.Path.{refl, sym, ap, ◌∙◌}
use borrow.Author.Tests.{not-false}
use Rattle.model.specs.declared.Refusal.TheVariants.{BadTables}
use Rattle.model.specs.declared.Cap.{Cap}
use Rattle.model.specs.Edition.{edition32}
use Rattle.model.specs.Tree.{Forest, cap_at}
use Rattle.model.specs.Check.{Check, ◌>>=◌}
use Rattle.model.specs.Tables.{Tables, cap_of, read}
use Rattle.model.specs.Rules.{well_formed}
use Rattle.model.specs.Request.{operation_of, invokes, row_named, perform, served, carried_out, request}
use Rattle.model.proofs.Outcome.{comes_refused, comes_same, bind_bind, then_bind}
use Rattle.model.proofs.Steps.{bind_ok}
use Rattle.model.proofs.Kept.Checks.{passes_at, twin_bind, twin_known, twin_pass, twin_refuse, twin_seq}
use Rattle.zhvanirek_core.specs.Asking.{row_named_by, asked}
use Rattle.zhvanirek_core.proofs.Carried.{caps_are}

-- ---- what is checked first, and the rest

-- a request up to its operation, and then the operation
served_is : (f : Forest) (caller : ℕ) (message : List ℕ)
    → served edition32 f caller message ≡ (asked (cap_at f) caller message >>= λ k. perform edition32 f caller message k (operation_of (get_or message 0 0)))
unfolding served asked row_named row_named_by
served_is f caller message = sym (simp (then_bind, bind_bind, bind_ok))

-- a service that was found is of the operation's kind
pub asked_invokes : (caps : ℕ → Cap) (caller : ℕ) (message : List ℕ) (k : ℕ) → asked caps caller message ≡ Ok k → invokes (caps k) (operation_of (get_or message 0 0)) ≡ true
unfolding asked
asked_invokes caps caller message k e =
    passes_at (λ j. invokes (caps j) (operation_of (get_or message 0 0)) ≡ true)
    (twin_seq (twin_refuse _ refl) (λ _ _.
    twin_bind (twin_known refl) (λ j _.
    twin_seq (twin_refuse _ refl) (λ _ _.
    twin_seq (twin_refuse _ refl) (λ _ right.
    twin_seq (twin_refuse _ refl) (λ _ _. twin_pass refl (not-false _ right))))))).holds
    e

module _ (t : Tables) (caller : ℕ) (message : List ℕ) where
  pub request_bad : well_formed edition32 t ≡ false → record { answer = Err BadTables; tables = t } ≡ request edition32 t caller message
  unfolding request
  request_bad bad = rw bad

  module _ (formed : well_formed edition32 t ≡ true) where
    opened : request edition32 t caller message ≡ carried_out edition32 t (λ f. served edition32 f caller message)
    unfolding request
    opened = rw formed

    -- the service that the code found is the one that the definition asks
    asked_is : asked (cap_at (read edition32 t).forest) caller message ≡ asked (cap_of t.table) caller message
    asked_is = ap (λ (caps : ℕ → Cap). asked caps caller message) (caps_are t formed)

    pub request_refused : (a : Refusal) → asked (cap_of t.table) caller message ≡ Err a → record { answer = Err a; tables = t } ≡ request edition32 t caller message
    request_refused a e =
        comes_refused edition32 t (λ f. served edition32 f caller message) a
        (served_is (read edition32 t).forest caller message
        ∙ (unfold ◌>>=◌ in ap (λ (c : Check ℕ). c >>= λ k. perform edition32 (read edition32 t).forest caller message k (operation_of (get_or message 0 0))) (asked_is ∙ e)))
        ∙ sym opened

    pub request_found : (k : ℕ) → asked (cap_of t.table) caller message ≡ Ok k
        → carried_out edition32 t (λ f. perform edition32 f caller message k (operation_of (get_or message 0 0))) ≡ request edition32 t caller message
    request_found k e =
        comes_same edition32 t (λ f. perform edition32 f caller message k (operation_of (get_or message 0 0))) (λ f. served edition32 f caller message)
        (sym
        (served_is (read edition32 t).forest caller message
        ∙ (unfold ◌>>=◌ in ap (λ (c : Check ℕ). c >>= λ k. perform edition32 (read edition32 t).forest caller message k (operation_of (get_or message 0 0))) (asked_is ∙ e))))
        ∙ sym opened

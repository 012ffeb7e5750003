-- What comes of an operation on tables that keep the rules: it goes by the state that is read from them, in which each row holds what the
-- table's words say. So a root that the code found in the table is the one that the definition looks up.
-- Assumes nothing.
use Rattle.std.specs.Prelude.{◌≡◌, ℕ, true, List, get_or, Result, Ok, Err}
use Rattle.model.specs.declared.Refusal.{Refusal}
use Rattle.model.specs.declared.Row.{Row}
use mathlib.Core.Path.{sym, ap, ◌∙◌}
use Rattle.model.specs.declared.Cap.{Cap}
use Rattle.model.specs.Edition.{edition32}
use Rattle.model.specs.Tree.{Forest, cap_at}
use Rattle.model.specs.Check.{Check, ◌>>=◌}
use Rattle.model.specs.Tables.{Tables, cap_of, read}
use Rattle.model.specs.Rules.{well_formed}
use Rattle.model.specs.Lookup.{lookup}
use Rattle.model.specs.Operations.{Done}
use Rattle.model.specs.Request.{or_fault, row_named, carried_out}
use Rattle.model.proofs.Outcome.{comes_refused, comes_same}
use Rattle.model.proofs.Words.Caps.{caps_read}
use Rattle.model.proofs.Words.WellFormed.{roomy32}
use Rattle.lookup.specs.Finds.{Finds, numbered}
use Rattle.zhvanirek_core.specs.Asking.{row_named_by}

-- what the definition gives where a row is found, and where none is
pub found_row : {t : List ℕ} {c : Check ℕ} {r : Result Row Refusal} {k : Row} → Finds t c r → r ≡ Ok k → c ≡ Ok k.0
found_row f e = sym f.is ∙ ap numbered e

pub found_none : {t : List ℕ} {c : Check ℕ} {r : Result Row Refusal} {a : Refusal} → Finds t c r → r ≡ Err a → c ≡ Err a
found_none f e = sym f.is ∙ ap numbered e

module _ (t : Tables) (formed : well_formed edition32 t ≡ true) where
  -- what the state's rows hold
  pub caps_are : cap_at (read edition32 t).forest ≡ cap_of t.table
  caps_are = sym (caps_read edition32 roomy32 t formed)

  pub named_is : (caller : ℕ) (message : List ℕ) (at : ℕ) → row_named edition32 (read edition32 t).forest caller message at ≡ row_named_by (cap_of t.table) caller message at
  unfolding row_named row_named_by
  named_is caller message at = ap (λ (caps : ℕ → Cap). or_fault at (lookup edition32 caps (caps caller) (get_or message at 0) 32)) caps_are

  module _ (caller : ℕ) (message : List ℕ) (at : ℕ) (operation : Forest → ℕ → Check Done) where
    pub root_refused : (a : Refusal) → row_named_by (cap_of t.table) caller message at ≡ Err a
        → record { answer = Err a; tables = t } ≡ carried_out edition32 t (λ f. row_named edition32 f caller message at >>= operation f)
    root_refused a e =
        comes_refused edition32 t (λ f. row_named edition32 f caller message at >>= operation f) a
        (unfold ◌>>=◌ in ap (λ (c : Check ℕ). c >>= operation (read edition32 t).forest) (named_is caller message at ∙ e))

    pub root_found : (k : ℕ) → row_named_by (cap_of t.table) caller message at ≡ Ok k
        → carried_out edition32 t (λ f. operation f k) ≡ carried_out edition32 t (λ f. row_named edition32 f caller message at >>= operation f)
    root_found k e =
        comes_same edition32 t (λ f. operation f k) (λ f. row_named edition32 f caller message at >>= operation f)
        (unfold ◌>>=◌ in sym (ap (λ (c : Check ℕ). c >>= operation (read edition32 t).forest) (named_is caller message at ∙ e)))

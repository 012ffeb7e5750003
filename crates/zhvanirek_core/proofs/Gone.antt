-- Delete and Revoke: the row that the message names, then what the removal gives.
-- Assumes nothing.
use Rattle.model.specs.declared.Refusal.{Refusal}
use Rattle.std.specs.Prelude.{Ok, Err}
use Rattle.std.specs.Prelude.{◌≡◌, ℕ, true, false, cond, List, [], ◌∷◌}
use mathlib.Core.Path.{refl, sym, ap, ◌∙◌}
use Rattle.model.specs.declared.Cap.{Cap}
use Rattle.model.specs.Edition.{edition32}
use Rattle.model.specs.Cap.{is_empty}
use Rattle.model.specs.Tree.{Forest, cap_at}
use Rattle.model.specs.Check.{Check, ◌>>=◌}
use Rattle.model.specs.Tables.{Tables, cap_of, read}
use Rattle.model.specs.Rules.{well_formed}
use Rattle.model.specs.Lookup.{lookup}
use Rattle.model.specs.Operations.{Done, slot_of, find, remove, delete, descendants, revoke}
use Rattle.model.specs.Request.{carried_out, concluded, applied, perform, place}
use Rattle.model.proofs.Outcome.{comes_refused}
use Rattle.removal.specs.Removing.{Removes, target, offspring}
use Rattle.model.specs.declared.Operation.TheVariants.{Delete, Revoke}
use Rattle.zhvanirek_core.specs.Asking.{target as asked_target}
use Rattle.zhvanirek_core.proofs.Carried.{caps_are}

-- what a removal leaves, as what is concluded
gone_is : (t t' : Tables) (start : List ℕ) (gone : ℕ) → Removes t t' start gone
    → record { answer = Ok gone; tables = t' } ≡ concluded edition32 t (Ok (applied (read edition32 t) (remove edition32 (read edition32 t).forest start)))
unfolding concluded
gone_is t t' start gone r = λ i. record { answer = Ok (r.count i); tables = r.tables i }

module _ (t : Tables) (formed : well_formed edition32 t ≡ true) (message : List ℕ) (k : ℕ) where
  -- the row that is looked up in the table is the one that the definition finds
  found_is : find edition32 (read edition32 t).forest (place (cap_at (read edition32 t).forest k) message 2 false) ≡ asked_target (cap_of t.table) message k
  unfolding find asked_target place
  found_is =
      ap (λ (caps : ℕ → Cap). slot_of edition32 false (lookup edition32 caps (place (caps k) message 2 false).root (place (caps k) message 2 false).index (place (caps k) message 2 false).depth)) (caps_are t formed)

  module _ (from : Forest → ℕ → List ℕ) where
    -- what starts from a row that is found
    removing : Forest → Check Done
    removing f = find edition32 f (place (cap_at f k) message 2 false) >>= λ row. Ok (remove edition32 f (from f row))

    removing_refused : (a : Refusal) → asked_target (cap_of t.table) message k ≡ Err a → record { answer = Err a; tables = t } ≡ carried_out edition32 t removing
    unfolding removing
    removing_refused a e =
        comes_refused edition32 t removing a
        (unfold ◌>>=◌ in ap (λ (c : Check ℕ). c >>= λ row. Ok (remove edition32 (read edition32 t).forest (from (read edition32 t).forest row))) (found_is ∙ e))

    removing_found : (row : ℕ) (t' : Tables) (gone : ℕ) → asked_target (cap_of t.table) message k ≡ Ok row
        → Removes t t' (from (read edition32 t).forest row) gone → record { answer = Ok gone; tables = t' } ≡ carried_out edition32 t removing
    unfolding carried_out removing
    removing_found row t' gone e r =
        gone_is t t' (from (read edition32 t).forest row) gone r
        ∙ (unfold ◌>>=◌ in sym (ap (λ (c : Check ℕ). concluded edition32 t ((c >>= λ row. Ok (remove edition32 (read edition32 t).forest (from (read edition32 t).forest row))) >>= λ d. Ok (applied (read edition32 t) d))) (found_is ∙ e)))

  -- ---- Delete starts from one occupied row, Revoke from all descendants

  one : Forest → ℕ → List ℕ
  one f row = cond (is_empty (cap_at f row)) [] (row ∷ [])

  module _ (caller : ℕ) where
    delete_is : carried_out edition32 t (removing one) ≡ carried_out edition32 t (λ f. perform edition32 f caller message k Delete)
    unfolding perform delete removing one
    delete_is = refl

    revoke_is : carried_out edition32 t (removing descendants) ≡ carried_out edition32 t (λ f. perform edition32 f caller message k Revoke)
    unfolding perform revoke removing
    revoke_is = refl

    pub delete_refused : (a : Refusal) → asked_target (cap_of t.table) message k ≡ Err a
        → record { answer = Err a; tables = t } ≡ carried_out edition32 t (λ f. perform edition32 f caller message k Delete)
    delete_refused a e = removing_refused one a e ∙ delete_is

    pub delete_found : (row : ℕ) (t' : Tables) (gone : ℕ) → asked_target (cap_of t.table) message k ≡ Ok row → Removes t t' (target t row) gone
        → record { answer = Ok gone; tables = t' } ≡ carried_out edition32 t (λ f. perform edition32 f caller message k Delete)
    unfolding one
    delete_found row t' gone e r = removing_found one row t' gone e r ∙ delete_is

    pub revoke_refused : (a : Refusal) → asked_target (cap_of t.table) message k ≡ Err a
        → record { answer = Err a; tables = t } ≡ carried_out edition32 t (λ f. perform edition32 f caller message k Revoke)
    revoke_refused a e = removing_refused descendants a e ∙ revoke_is

    pub revoke_found : (row : ℕ) (t' : Tables) (gone : ℕ) → asked_target (cap_of t.table) message k ≡ Ok row → Removes t t' (offspring t row) gone
        → record { answer = Ok gone; tables = t' } ≡ carried_out edition32 t (λ f. perform edition32 f caller message k Revoke)
    revoke_found row t' gone e r = removing_found descendants row t' gone e r ∙ revoke_is

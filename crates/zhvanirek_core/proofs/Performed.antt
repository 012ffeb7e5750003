-- Each operation, from what the code found and made of the message, is what the definition performs.
-- Assumes nothing.
use Rattle.model.specs.declared.Refusal.{Refusal}
use Rattle.std.specs.Prelude.{Ok, Err}
use Rattle.std.specs.Prelude.{◌≡◌, ℕ, ◌+◌, ◌*◌, ◌≤◌, Bool, true, false, List, length, get_or}
use mathlib.Core.Logic.{◌⊎◌, inl, inr}
use mathlib.Core.Path.{refl, sym, ap, ap₂, ◌∙◌, subst}
use Rattle.model.specs.declared.Cap.{Cap}
use Rattle.model.specs.declared.Change.{Change}
use Rattle.model.specs.declared.Change.TheVariants.{Masked, Minted, Kept, Mutated}
use Rattle.model.specs.declared.Operation.{Operation}
use Rattle.model.specs.declared.Operation.TheVariants.{Copy, Mint, Move, Mutate, Delete, Revoke, Rotate, Retype, Unknown}
use Rattle.model.specs.declared.Place.{Place}
use Rattle.model.specs.declared.Retyping.{Retyping}
use Rattle.model.specs.Edition.{edition32}
use Rattle.model.specs.Cap.{is_cnode, is_untyped}
use Rattle.model.specs.Tree.{Forest, cap_at}
use Rattle.model.specs.Check.{Check, ◌>>=◌}
use Rattle.model.specs.Tables.{Tables, cap_of, read}
use Rattle.model.specs.Rules.{well_formed}
use Rattle.model.specs.Operations.{Done, copy, move, rotate, retype}
use Rattle.model.specs.Request.{carried_out, operation_of, perform, place, row_named}
use Rattle.model.proofs.Outcome.{comes_same}
use Rattle.lookup.specs.Ready.{Usable}
use Rattle.lookup.proofs.WellFormed.{usable}
use Rattle.retype.specs.Allotting.{Retypable}
use Rattle.zhvanirek_core.specs.Asking.{retyping_by, row_named_by}
use Rattle.zhvanirek_core.specs.Serving.{transfer, two_places}
use Rattle.zhvanirek_core.proofs.Carried.{caps_are, root_found, root_refused}

-- a place whose root was read from the table can be looked up
pub place_reached : (t : Tables) → well_formed edition32 t ≡ true → (k : ℕ) (message : List ℕ) (at : ℕ) (source : Bool) (p : Place) → p ≡ place (cap_of t.table k) message at source
    → is_cnode p.root ≡ true → Usable t.table p.root
unfolding place
place_reached t formed k message at source p e = subst (λ (z : Place). is_cnode z.root ≡ true → Usable t.table z.root) (sym e) (usable t formed k)

-- what Retype asks, of a root that was read from the table
pub retypable : (t : Tables) (message : List ℕ) (k : ℕ) → well_formed edition32 t ≡ true → k * 8 + 8 ≤ length t.table → is_untyped (cap_of t.table k) ≡ true → (root : ℕ) (q : Retyping) → q ≡ retyping_by (cap_of t.table) message root → Retypable t k q
unfolding retyping_by place
retypable t message k formed inside untyped root q e =
    record {
      formed = formed;
      untyped = untyped;
      in_table = inside;
      usable = subst (λ (z : Retyping). is_cnode z.into.root ≡ true → Usable t.table z.into.root) (sym e) (usable t formed root);
    }

-- what is masked or minted is copied, the rest is moved
pub copies : {how : Change} → ((x : ℕ) × how ≡ Masked x) ⊎ ((x : ℕ) × (y : ℕ) × how ≡ Minted x y) → (f : Forest) (d s : Place) → copy edition32 f d s how ≡ transfer how f d s
copies (inl (x, e)) f d s = rw e refl
copies (inr (x, y, e)) f d s = rw e refl

pub moves : {how : Change} → (how ≡ Kept) ⊎ ((x : ℕ) × how ≡ Mutated x) → (f : Forest) (d s : Place) → move edition32 f d s how ≡ transfer how f d s
moves (inl e) f d s = rw e refl
moves (inr (x, e)) f d s = rw e refl

module _ (t : Tables) (formed : well_formed edition32 t ≡ true) (caller : ℕ) (message : List ℕ) (k : ℕ) where
  -- ---- Copy, Mint, Move, Mutate

  module _ (operation : Forest → (dest source : Place) → Check Done) where
    between : Forest → ℕ → Check Done
    between f root = operation f (place (cap_at f k) message 2 false) (place (cap_at f root) message 5 true)

    pub two_refused : (a : Refusal) → row_named_by (cap_of t.table) caller message 4 ≡ Err a
        → record { answer = Err a; tables = t } ≡ carried_out edition32 t (λ f. two_places operation f caller message k)
    unfolding two_places between
    two_refused a e = root_refused t formed caller message 4 between a e

    pub two_found : (root : ℕ) (dest source : Place) → row_named_by (cap_of t.table) caller message 4 ≡ Ok root
        → dest ≡ place (cap_of t.table k) message 2 false → source ≡ place (cap_of t.table root) message 5 true
        → carried_out edition32 t (λ f. operation f dest source) ≡ carried_out edition32 t (λ f. two_places operation f caller message k)
    unfolding two_places between
    two_found root dest source e d s =
        comes_same edition32 t (λ f. operation f dest source) (λ f. between f root)
        (ap₂ (operation (read edition32 t).forest) d s
        ∙ ap (λ (caps : ℕ → Cap). operation (read edition32 t).forest (place (caps k) message 2 false) (place (caps root) message 5 true)) (sym (caps_are t formed)))
        ∙ root_found t formed caller message 4 between root e

  -- ---- Rotate

  turned : Forest → (pivot source : ℕ) → Check Done
  turned f pivot source =
      rotate edition32 f (place (cap_at f k) message 2 false) (place (cap_at f pivot) message 6 false) (place (cap_at f source) message 10 true) (get_or message 4 0) (get_or message 8 0)

  turned_from : Forest → (pivot : ℕ) → Check Done
  turned_from f pivot = row_named edition32 f caller message 9 >>= turned f pivot

  pub pivot_refused : (a : Refusal) → row_named_by (cap_of t.table) caller message 5 ≡ Err a
      → record { answer = Err a; tables = t } ≡ carried_out edition32 t (λ f. perform edition32 f caller message k Rotate)
  unfolding perform turned turned_from
  pivot_refused a e = root_refused t formed caller message 5 turned_from a e

  module _ (pivot : ℕ) (there : row_named_by (cap_of t.table) caller message 5 ≡ Ok pivot) where
    pub turn_refused : (a : Refusal) → row_named_by (cap_of t.table) caller message 9 ≡ Err a
        → record { answer = Err a; tables = t } ≡ carried_out edition32 t (λ f. perform edition32 f caller message k Rotate)
    unfolding perform turned turned_from
    turn_refused a e = root_refused t formed caller message 9 (λ f. turned f pivot) a e ∙ root_found t formed caller message 5 turned_from pivot there

    pub turn_found : (root : ℕ) (dest mid source : Place) (datum pivot_datum : ℕ) → row_named_by (cap_of t.table) caller message 9 ≡ Ok root
        → dest ≡ place (cap_of t.table k) message 2 false → mid ≡ place (cap_of t.table pivot) message 6 false → source ≡ place (cap_of t.table root) message 10 true
        → datum ≡ get_or message 4 0 → pivot_datum ≡ get_or message 8 0
        → carried_out edition32 t (λ f. rotate edition32 f dest mid source datum pivot_datum) ≡ carried_out edition32 t (λ f. perform edition32 f caller message k Rotate)
    unfolding perform turned turned_from
    turn_found root dest mid source datum pivot_datum e d p s w v =
        comes_same edition32 t (λ f. rotate edition32 f dest mid source datum pivot_datum) (λ f. turned f pivot root)
        ((λ i. rotate edition32 (read edition32 t).forest (d i) (p i) (s i) (w i) (v i))
        ∙ ap (λ (caps : ℕ → Cap). rotate edition32 (read edition32 t).forest (place (caps k) message 2 false) (place (caps pivot) message 6 false) (place (caps root) message 10 true) (get_or message 4 0) (get_or message 8 0)) (sym (caps_are t formed)))
        ∙ root_found t formed caller message 9 (λ f. turned f pivot) root e
        ∙ root_found t formed caller message 5 turned_from pivot there

  -- ---- Retype

  retyped : Forest → ℕ → Check Done
  retyped f root = retype edition32 f k (retyping_by (cap_at f) message root)

  pub retype_refused : (a : Refusal) → row_named_by (cap_of t.table) caller message 4 ≡ Err a
      → record { answer = Err a; tables = t } ≡ carried_out edition32 t (λ f. perform edition32 f caller message k Retype)
  unfolding perform retyped retyping_by
  retype_refused a e = root_refused t formed caller message 4 retyped a e

  pub retype_found : (root : ℕ) (q : Retyping) → row_named_by (cap_of t.table) caller message 4 ≡ Ok root → q ≡ retyping_by (cap_of t.table) message root
      → carried_out edition32 t (λ f. retype edition32 f k q) ≡ carried_out edition32 t (λ f. perform edition32 f caller message k Retype)
  unfolding perform retyped retyping_by
  retype_found root q e asked =
      comes_same edition32 t (λ f. retype edition32 f k q) (λ f. retyped f root)
      (ap (retype edition32 (read edition32 t).forest k) asked ∙ ap (λ (caps : ℕ → Cap). retype edition32 (read edition32 t).forest k (retyping_by caps message root)) (sym (caps_are t formed)))
      ∙ root_found t formed caller message 4 retyped root e

-- ---- the operation by its number

module _ (t : Tables) (caller : ℕ) (message : List ℕ) (k : ℕ) where
  -- what is performed of the operation o, where the message asks for it
  chosen_is : (o : Operation) (g : Forest → Check Done) → operation_of (get_or message 0 0) ≡ o → g (read edition32 t).forest ≡ perform edition32 (read edition32 t).forest caller message k o
      → carried_out edition32 t g ≡ carried_out edition32 t (λ f. perform edition32 f caller message k (operation_of (get_or message 0 0)))
  chosen_is o g e same =
      comes_same edition32 t g (λ f. perform edition32 f caller message k (operation_of (get_or message 0 0)))
      (same ∙ ap (perform edition32 (read edition32 t).forest caller message k) (sym e))

  -- what an operation changes on the way, by the message's words
  abbrev how_of : Operation → Change → Type 0
  how_of Copy how = how ≡ Masked (get_or message 7 0)
  how_of Mint how = how ≡ Minted (get_or message 7 0) (get_or message 8 0)
  how_of Move how = how ≡ Kept
  how_of Mutate how = how ≡ Mutated (get_or message 7 0)
  how_of o how = ⊥

  pub transfer_chosen : (o : Operation) (how : Change) → operation_of (get_or message 0 0) ≡ o → how_of o how
      → carried_out edition32 t (λ f. two_places (transfer how) f caller message k) ≡ carried_out edition32 t (λ f. perform edition32 f caller message k (operation_of (get_or message 0 0)))
  unfolding perform two_places
  transfer_chosen o how e h = chosen_is o (λ f. two_places (transfer how) f caller message k) e (go o h)
    where
      go : (p : Operation) → how_of p how → two_places (transfer how) (read edition32 t).forest caller message k ≡ perform edition32 (read edition32 t).forest caller message k p
      go Copy q = ap (λ (x : Change). two_places (transfer x) (read edition32 t).forest caller message k) q
      go Mint q = ap (λ (x : Change). two_places (transfer x) (read edition32 t).forest caller message k) q
      go Move q = ap (λ (x : Change). two_places (transfer x) (read edition32 t).forest caller message k) q
      go Mutate q = ap (λ (x : Change). two_places (transfer x) (read edition32 t).forest caller message k) q
      go Delete q = absurd q
      go Revoke q = absurd q
      go Rotate q = absurd q
      go Retype q = absurd q
      go Unknown q = absurd q

  pub same_chosen : (o : Operation) → operation_of (get_or message 0 0) ≡ o
      → carried_out edition32 t (λ f. perform edition32 f caller message k o) ≡ carried_out edition32 t (λ f. perform edition32 f caller message k (operation_of (get_or message 0 0)))
  same_chosen o e = chosen_is o (λ f. perform edition32 f caller message k o) e refl

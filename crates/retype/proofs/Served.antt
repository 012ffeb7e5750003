-- A request on well-formed tables: what its tests have shown once they passed, and what comes of it.
use Rattle.model.specs.declared.Refusal.{Refusal}
use Rattle.std.specs.Prelude.{Ok, Err}
use Prim.Native.Nat.{ℕ}
use mathlib.Core.Path.{◌≡◌, sym, ap, ◌∙◌, subst}
use mathlib.Core.Bool.{true, false}
use borrow.Author.Tests.{ltb-false}
use Rattle.model.specs.Edition.{edition32}
use Rattle.model.specs.declared.Cap.{Cap}
use Rattle.model.specs.declared.Retyping.{Retyping}
use Rattle.model.specs.Cap.{is_cnode}
use Rattle.model.specs.Check.{Check, ◌>>=◌}
use Rattle.model.specs.Tables.{Tables, cap_of, read}
use Rattle.model.specs.Tree.{Forest, cap_at}
use Rattle.model.specs.Operations.{start, allot, retype}
use Rattle.model.specs.Request.{Outcome, carried_out}
use Rattle.model.proofs.Words.WellFormed.{roomy32}
use Rattle.model.proofs.Words.Caps.{caps_read}
use Rattle.model.proofs.Outcome.{comes_refused, comes_same}
use Rattle.lookup.specs.Ready.{Usable}
use Rattle.lookup.proofs.WellFormed.{ready}
use Rattle.retype.specs.Allotting.{Retypable, Vacant, allotting}
use Rattle.retype.specs.Window.{Known, sized, window_in, taken_by, vacant_in, first_slot}
use Rattle.model.proofs.Steps.{through, bound, then_passed}
use Rattle.retype.proofs.Passed.{window_placed, window_inside, node_usable}
use Rattle.retype.proofs.Whole.{retype_by}

sized_known : (object size : ℕ) → sized edition32 object size ≡ Ok tt → Known object size
unfolding sized
sized_known object size e =
    let a = through _ _ _ tt e in
    let b = through _ _ _ tt a.1 in
    record { listed = ltb-false 5 object a.0; small = ltb-false 30 size b.0 }

module _ (t : Tables) (k : ℕ) (q : Retyping) (asked : Retypable t k q) where
  pub first_vacant : (first : ℕ) → ◌≡◌ {A = Check ℕ} (Ok first) (first_slot edition32 (cap_of t.table) q) → Vacant t k q first
  unfolding first_slot vacant_in
  first_vacant first e =
      let (_, s, a) = then_passed _ _ first (sym e) in
      let (n, node, b) = bound _ _ first a in
      let (j, window, c) = bound _ _ first b in
      let (free, d) = through _ _ _ first c in
      let is : j ≡ first = cc in
      let w : window_in edition32 n q ≡ Ok first = window ∙ ap Ok is in
      let usable : (is_cnode n ≡ true → Usable t.table n) = node_usable t.table q.into n (ready t asked.formed) asked.usable (sym node) in
      record {
        formed = asked.formed;
        untyped = asked.untyped;
        in_table = asked.in_table;
        known = sized_known q.object q.size s;
        some = (window_placed n q first w).least;
        rows = window_inside t.table n q first usable (sym w);
        free = subst (λ (i : ℕ). taken_by (cap_of t.table) i q.window ≡ false) is free;
      }

  forest : Forest
  forest = (read edition32 t).forest

  by_words : retype edition32 forest k q ≡ (first_slot edition32 (cap_of t.table) q >>= allot edition32 k (cap_at forest k) (start forest k (cap_at forest k)) q)
  unfolding forest
  by_words =
      retype_by edition32 forest k q
      ∙ ap (λ (c : ℕ → Cap). first_slot edition32 c q >>= allot edition32 k (cap_at forest k) (start forest k (cap_at forest k)) q) (sym (caps_read edition32 roomy32 t asked.formed))

  pub retype_refused : (a : Refusal) → ◌≡◌ {A = Check ℕ} (Err a) (first_slot edition32 (cap_of t.table) q) → record { answer = Err a; tables = t } ≡ carried_out edition32 t (λ f. retype edition32 f k q)
  unfolding forest ◌>>=◌
  retype_refused a e = comes_refused edition32 t (λ f. retype edition32 f k q) a (by_words ∙ rw (sym e))

  pub retype_allotted : (first : ℕ) → ◌≡◌ {A = Check ℕ} (Ok first) (first_slot edition32 (cap_of t.table) q) → (o : Outcome) → o ≡ carried_out edition32 t (allotting k first q) → o ≡ carried_out edition32 t (λ f. retype edition32 f k q)
  unfolding forest ◌>>=◌
  retype_allotted first e o h = h ∙ comes_same edition32 t (allotting k first q) (λ f. retype edition32 f k q) (sym (by_words ∙ rw (sym e)))

-- A Revoke that succeeds removes what the definition removes, so none of its target's descendants is left.
-- Assumes nothing.
use Rattle.std.specs.Prelude.{Ok}
use Prim.Native.Nat.{ℕ}
use mathlib.Core.Path.{ap, refl, subst, sym, ◌∙◌, ◌≡◌}
use mathlib.Core.Bool.{Bool, false, not, true, true≢false}
use mathlib.Core.List.{List}
use lib.Dec.{ltb}
use lib.ListN.{get_or, length}
use borrow.Author.Tests.{not-true}
use Rattle.model.specs.declared.Refusal.TheVariants.{IllegalOperation, InvalidCapability, TruncatedMessage}
use Rattle.model.specs.declared.Cap.{Cap}
use Rattle.model.specs.declared.Operation.{Operation}
use Rattle.model.specs.Lists.{member}
use Rattle.model.specs.Edition.{Edition, edition32}
use Rattle.model.specs.Cap.{is_empty}
use Rattle.model.specs.Tree.{Forest, cap_at, edit, entries, without}
use Rattle.model.specs.Check.{Check, refuse, ◌>>=◌, ◌>>◌}
use Rattle.model.specs.Tables.{Tables, read}
use Rattle.model.specs.Rules.{well_formed}
use Rattle.model.specs.Removal.{removed}
use Rattle.model.specs.Operations.{Done, descendants, find, remove, revoke}
use Rattle.model.specs.Request.{concluded, invokes, operation_of, perform, place, request, row_named, served, words_of}
use Rattle.model.proofs.Booleans.{either}
use Rattle.model.proofs.Members.{Has, has_member, keep_has, member_has}
use Rattle.model.proofs.State.{Sound}
use Rattle.model.proofs.Kept.Checks.{bind_on}
use Rattle.model.proofs.Kept.Edits.{alive, entries_without}
use Rattle.model.proofs.Kept.Figures.{Sane, sane32}
use Rattle.model.proofs.Kept.Formed.{request_formed}
use Rattle.model.proofs.Kept.Removal.{removed_start}
use Rattle.model.proofs.Kept.Rules.{entry_at, removed_sound}
use Rattle.model.proofs.Words.Caps.{caps_read}
use Rattle.model.proofs.Words.WellFormed.{Roomy, good_read, roomy32}
use Rattle.model.proofs.Steps.{never, bound}
use Rattle.tenants.specs.Memory.{RevokeClears, Revokes, target_of}
use Rattle.tenants.proofs.Carried.{answer_is, answered, read_after}

-- ---- a Revoke that succeeds

module _ (E : Edition) (t : Tables) (wf : well_formed E t ≡ true) where
  abbrev f : Forest
  f = (read E t).forest

  -- the common order where it does not refuse
  tests_pass : (n : ℕ) (short empty other brief : Bool) (rest : Check Done)
      → answered E t wf (refuse TruncatedMessage short >> (refuse InvalidCapability empty >> (refuse IllegalOperation other >> (refuse TruncatedMessage brief >> rest)))) ≡ Ok n
      → (refuse TruncatedMessage short >> (refuse InvalidCapability empty >> (refuse IllegalOperation other >> (refuse TruncatedMessage brief >> rest)))) ≡ rest
  unfolding refuse ◌>>◌ concluded ◌>>=◌
  tests_pass n true empty other brief rest h = absurd (never _ n h)
  tests_pass n false true other brief rest h = absurd (never _ n h)
  tests_pass n false false true brief rest h = absurd (never _ n h)
  tests_pass n false false false true rest h = absurd (never _ n h)
  tests_pass n false false false false rest h = refl

  module _ (caller : ℕ) (message : List ℕ) (k : ℕ) (r : Revokes E t caller message k) where
    -- the row of the service, and the target found from it
    pub record Found : Type 0 where
      pub service : ℕ
      pub named : row_named E f caller message 1 ≡ Ok service
      pub found : find E f (place (cap_at f service) message 2 false) ≡ Ok k

    pub found_from : Found
    unfolding target_of
    found_from =
        let (s, e, h) = bound (row_named E f caller message 1) (λ j. find E f (place (cap_at f j) message 2 false)) k r.target in
        record { service = s; named = e; found = h }

    abbrev pub at : ℕ
    at = found_from.service

    abbrev operation : Operation
    operation = operation_of (get_or message 0 0)

    tested : served E f caller message
        ≡ (refuse TruncatedMessage (ltb (length message) 2)
        >> (refuse InvalidCapability (is_empty (cap_at f at))
        >> (refuse IllegalOperation (not (invokes (cap_at f at) operation))
        >> (refuse TruncatedMessage (ltb (length message) (words_of operation)) >> perform E f caller message at operation))))
    unfolding served
    tested = ap (λ (c : Check Done). refuse TruncatedMessage (ltb (length message) 2) >> c) (bind_on _ found_from.named)

    performed : perform E f caller message at operation ≡ Ok (remove E f (descendants f k))
    unfolding perform operation_of revoke
    performed = ap (λ n. perform E f caller message at (operation_of n)) r.operation ∙ bind_on (λ j. Ok (remove E f (descendants f j))) found_from.found

    pub revokes : served E f caller message ≡ Ok (remove E f (descendants f k))
    revokes =
        tested
        ∙ tests_pass r.count (ltb (length message) 2) (is_empty (cap_at f at)) (not (invokes (cap_at f at) operation)) (ltb (length message) (words_of operation)) (perform E f caller message at operation)
        (subst (λ (c : Check Done). answered E t wf c ≡ Ok r.count) tested (sym (answer_is E t wf caller message) ∙ r.answer))
        ∙ performed

    -- what a Revoke's place asks of the definition
    pub revoked : revoke E f (place (cap_at f at) message 2 false) ≡ Ok (remove E f (descendants f k))
    unfolding revoke
    revoked = bind_on (λ j. Ok (remove E f (descendants f j))) found_from.found

-- ---- none of the descendants is left

cleared : {E : Edition} {m : ℕ} {f : Forest} → Sound E m f → (k d : ℕ) → member d (descendants f k) ≡ true → is_empty (cap_at (edit (without (removed E (entries f) (descendants f k))) f) d) ≡ true
cleared {E} {m} {f} s k d h =
    either (is_empty (cap_at (edit (without dead) f) d))
    (λ t. t)
    (λ n. absurd (
    let (e, p, r, q) = entry_at (removed_sound s (descendants f k)) d n in
    let z = keep_has (alive dead) (entries f) (subst (Has e) (entries_without dead f) p) in
    let i = removed_start E (entries f) (descendants f k) e z.0 (subst (λ j. Has j (descendants f k)) (sym r) (member_has d (descendants f k) h)) in
    true≢false (sym (has_member i) ∙ not-true (member e.row dead) z.1)))
  where
    dead : List ℕ
    dead = removed E (entries f) (descendants f k)

module _ {E : Edition} (law : Roomy E) (sane : Sane E) where
  pub revoke_clears : RevokeClears E
  unfolding remove
  revoke_clears t wf caller message k r d h =
      let t' = (request E t caller message).tables in
      let c = caps_read E law t' (request_formed law sane t wf caller message) in
      let e = read_after E t wf law sane caller message (remove E (read E t).forest (descendants (read E t).forest k)) (revokes E t wf caller message k r) in
      subst (λ (caps : ℕ → Cap). is_empty (caps d) ≡ true) (sym c)
      (subst (λ (g : Forest). is_empty (cap_at g d) ≡ true) (sym e) (cleared (good_read E law t wf).sound k d h))

pub revoke_clears32 : RevokeClears edition32
revoke_clears32 = revoke_clears roomy32 sane32

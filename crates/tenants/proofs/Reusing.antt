-- Freed memory is used again: after a request that revoked an Untyped that is still there, a request to retype all of it answers 0 1. Its
-- tests pass one by one, and the model's law on the state does the rest.
-- Assumes nothing.
use Rattle.std.specs.Prelude.{Ok}
use Prim.Native.Nat.{ℕ, ◌+◌, ◌<◌, ◌≤◌}
use mathlib.Core.Path.{ap, ap₂, subst, sym, ◌∙◌, ◌≡◌}
use mathlib.Core.Bool.{false, not, true}
use mathlib.Core.List.{List}
use native.Mathlib.Omega.{arith}
use lib.Dec.{ltb}
use lib.ListN.{get_or, length}
use borrow.Author.Tests.{le-ltb}
use Rattle.model.specs.declared.Refusal.TheVariants.{IllegalOperation, InvalidCapability, TruncatedMessage}
use Rattle.model.specs.declared.Cap.{Cap}
use Rattle.model.specs.declared.Place.{Place}
use Rattle.model.specs.Edition.{Edition, edition32}
use Rattle.model.specs.Cap.{first_row, is_cnode, is_empty, is_untyped, slots}
use Rattle.model.specs.Tree.{Forest, cap_at, edit}
use Rattle.model.specs.Check.{Check, ◌>>=◌}
use Rattle.model.specs.Tables.{Tables, read}
use Rattle.model.specs.Rules.{well_formed}
use Rattle.model.specs.Operations.{Done, descendants, node, remove, retype}
use Rattle.model.specs.Request.{applied, concluded, invokes, operation_of, perform, place, request, row_named, served, words_of}
use Rattle.model.proofs.Kept.Checks.{bind_on, go_on_lem}
use Rattle.model.proofs.Kept.Figures.{Sane, sane32}
use Rattle.model.proofs.Kept.Formed.{request_formed}
use Rattle.model.proofs.Kept.Reuse.{one_untyped, retype_after_revoke, revoked_same}
use Rattle.model.proofs.Words.Caps.{caps_read}
use Rattle.model.proofs.Words.WellFormed.{Roomy, good_read, roomy32}
use Rattle.tenants.specs.Memory.{FreedIsUsedAgain, Revokes}
use Rattle.tenants.proofs.Carried.{answer_is, answered, read_after}
use Rattle.tenants.proofs.Revoking.{found_from, revoked, revokes}

retypes : (E : Edition) (g : Forest) (caller : ℕ) (message : List ℕ) (k root : ℕ) → row_named E g caller message 4 ≡ Ok root → perform E g caller message k (operation_of 8)
    ≡ retype E g k (record { object = get_or message 2 0; size = get_or message 3 0; into = place (cap_at g root) message 5 false; offset = get_or message 7 0; window = get_or message 8 0 })
unfolding perform operation_of
retypes E g caller message k root rooted = bind_on _ rooted

-- a Retype of a whole Untyped comes to the operation
asks_whole : (E : Edition) (g : Forest) (caller : ℕ) (message : List ℕ) (k size root : ℕ) → 9 ≤ length message → get_or message 0 0 ≡ 8 → row_named E g caller message 1 ≡ Ok k
    → is_empty (cap_at g k) ≡ false → is_untyped (cap_at g k) ≡ true → get_or message 2 0 ≡ 0 → get_or message 3 0 ≡ size → row_named E g caller message 4 ≡ Ok root → get_or message 8 0 ≡ 1
    → served E g caller message ≡ retype E g k (one_untyped size (place (cap_at g root) message 5 false) (get_or message 7 0))
unfolding served
asks_whole E g caller message k size root long operation service filled untyped object asked rooted window =
    go_on_lem TruncatedMessage _ (le-ltb (length message) 2 (omega arith))
    ∙ bind_on _ service
    ∙ go_on_lem InvalidCapability _ filled
    ∙ go_on_lem IllegalOperation _ judged
    ∙ go_on_lem TruncatedMessage _ enough
    ∙ performed
  where
    judged : not (invokes (cap_at g k) (operation_of (get_or message 0 0))) ≡ false
    judged = rw operation (unfold operation_of in rw untyped)

    enough : ltb (length message) (words_of (operation_of (get_or message 0 0))) ≡ false
    enough = rw operation (unfold operation_of in le-ltb (length message) 9 long)

    performed : perform E g caller message k (operation_of (get_or message 0 0)) ≡ retype E g k (one_untyped size (place (cap_at g root) message 5 false) (get_or message 7 0))
    performed =
        ap (λ n. perform E g caller message k (operation_of n)) operation
        ∙ retypes E g caller message k root rooted
        ∙ ap (λ n. retype E g k (record { object = n; size = get_or message 3 0; into = place (cap_at g root) message 5 false; offset = get_or message 7 0; window = get_or message 8 0 })) object
        ∙ ap₂ (λ n w. retype E g k (record { object = 0; size = n; into = place (cap_at g root) message 5 false; offset = get_or message 7 0; window = w })) asked window

-- what passes is told
told_count : (E : Edition) (t : Tables) (wf : well_formed E t ≡ true) (c : Check Done) (d : Done) → c ≡ Ok d → answered E t wf c ≡ Ok d.count
unfolding concluded ◌>>=◌ applied
told_count E t wf c d e = rw e

module _ {E : Edition} (law : Roomy E) (sane : Sane E) (t : Tables) (wf : well_formed E t ≡ true) (caller : ℕ) (message : List ℕ) (k : ℕ) (r : Revokes E t caller message k) where
  abbrev f : Forest
  f = (read E t).forest

  abbrev g : Forest
  g = (read E (request E t caller message).tables).forest

  abbrev done : Done
  done = remove E f (descendants f k)

  after : edit done.deed f ≡ g
  after = sym (read_after E t wf law sane caller message done (revokes E t wf caller message k r))

  same_cap : is_empty (cap_at g k) ≡ false → cap_at g k ≡ cap_at f k
  unfolding remove
  same_cap = subst (λ (g : Forest). is_empty (cap_at g k) ≡ false → cap_at g k ≡ cap_at f k) after (revoked_same (good_read E law t wf).sound k)

  whole_again : is_untyped (cap_at f k) ≡ true → is_empty (cap_at g k) ≡ false → (into : Place) (n : Cap) → node E g into ≡ Ok n → is_cnode n ≡ true → (offset : ℕ) → offset < slots n
      → is_empty (cap_at g (first_row E n + offset)) ≡ true → (d : Done) × (retype E g k (one_untyped (cap_at f k).size into offset) ≡ Ok d) × (d.count ≡ 1)
  whole_again untyped =
      subst (λ (g : Forest). is_empty (cap_at g k) ≡ false → (into : Place) (n : Cap) → node E g into ≡ Ok n → is_cnode n ≡ true → (offset : ℕ) → offset < slots n
      → is_empty (cap_at g (first_row E n + offset)) ≡ true → (d : Done) × (retype E g k (one_untyped (cap_at f k).size into offset) ≡ Ok d) × (d.count ≡ 1))
      after
      (retype_after_revoke sane (good_read E law t wf).m_range (good_read E law t wf).sound (place (cap_at f (found_from E t wf caller message k r).service) message 2 false) k
      (found_from E t wf caller message k r).found untyped (revoked E t wf caller message k r))

pub freed_is_used_again : {E : Edition} → Roomy E → Sane E → FreedIsUsedAgain E
freed_is_used_again {E} law sane t wf caller message k r untyped there caller' message' q =
    let t' = (request E t caller message).tables in
    let wf' = request_formed law sane t wf caller message in
    let caps = caps_read E law t wf in
    let caps' = caps_read E law t' wf' in
    let u : is_untyped (cap_at (read E t).forest k) ≡ true = subst (λ (c : ℕ → Cap). is_untyped (c k) ≡ true) caps untyped in
    let h : is_empty (cap_at (read E t').forest k) ≡ false = subst (λ (c : ℕ → Cap). is_empty (c k) ≡ false) caps' there in
    let v = subst (λ (c : ℕ → Cap). is_empty (c (first_row E q.into + get_or message' 7 0)) ≡ true) caps' q.vacant in
    let w : is_untyped (cap_at (read E t').forest k) ≡ true = rw (same_cap law sane t wf caller message k r h) u in
    let z : get_or message' 3 0 ≡ (cap_at (read E t).forest k).size = q.asked ∙ ap (λ (c : ℕ → Cap). (c k).size) caps in
    let (d, e, one) = whole_again law sane t wf caller message k r u h (place (cap_at (read E t').forest q.root) message' 5 false) q.into q.found q.cnode (get_or message' 7 0) q.among v in
    answer_is E t' wf' caller' message'
    ∙ told_count E t' wf' (served E (read E t').forest caller' message') d
    (asks_whole E (read E t').forest caller' message' k (cap_at (read E t).forest k).size q.root q.long q.operation q.service h w q.object z q.rooted q.window ∙ e)
    ∙ ap Ok one

pub freed_is_used_again32 : FreedIsUsedAgain edition32
freed_is_used_again32 = freed_is_used_again roomy32 sane32

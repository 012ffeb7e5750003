-- Separation on the tables of the 32-bit edition, from the model's theorem on what each of two callers is told alone: in a merge, and in the
-- order in turn, each caller sends the same.
-- Assumes nothing.
use Prim.Native.Nat.{ℕ}
use mathlib.Core.Path.{ap, ap₂, refl, subst, sym, ◌∙◌, ◌≡◌}
use mathlib.Core.Bool.{true}
use mathlib.Core.List.Memᴰ
use mathlib.Core.List.{List, [], ◌++◌, ◌∷◌}
use borrow.Author.Tests.{eq-eqb, ne_eqb}
use Rattle.model.specs.declared.Cap.{Cap}
use Rattle.model.specs.Lists.{keep, member, share_none}
use Rattle.model.specs.Edition.{Edition, edition32}
use Rattle.model.specs.Cap.{is_cnode}
use Rattle.model.specs.Tree.{cap_at}
use Rattle.model.specs.Tables.{Tables, cap_of, read}
use Rattle.model.specs.Rules.{well_formed}
use Rattle.model.specs.Tenants.{Merge, Sent, by, estate_in, left, none, right, sends, tables_after, told_on}
use Rattle.model.proofs.Members.{All, Has, all_from, all_has, has_member, member_has}
use Rattle.model.proofs.Kept.Figures.{Sane, sane32}
use Rattle.model.proofs.Separation.OnTables.{caps_alone, separation, tables_in_turn, told_alone}
use Rattle.model.proofs.Separation.Two.{differ}
use Rattle.model.proofs.Words.Caps.{caps_read}
use Rattle.model.proofs.Words.WellFormed.{Roomy, good_read, roomy32}
use Rattle.tenants.specs.Separation.{Separation, SeparationOfAll}

-- ---- merges

sent_by_lem : {Q : Type 0} (a : ℕ) (qs : List Q) → All (λ z. z.caller ≡ a) (sends a qs)
unfolding sends
sent_by_lem a [] = tt
sent_by_lem a (q ∷ qs) = (refl, sent_by_lem a qs)

-- one list after the other is a merge
in_turn_lem : {A : Type 0} (xs ys : List A) → Merge xs ys (xs ++ ys)
in_turn_lem [] [] = none
in_turn_lem [] (y ∷ ys) = right (in_turn_lem [] ys)
in_turn_lem (x ∷ xs) ys = left (in_turn_lem xs ys)

module _ {Q : Type 0} (a b : ℕ) (differ : a ≡ b → ⊥) where
  -- what each sends, and that nobody else sends
  record Senders (xs ys zs : List (Sent Q)) : Type 0 where
    first : by a zs ≡ xs
    second : by b zs ≡ ys
    both : All (λ z. Has z.caller (a ∷ b ∷ [])) zs

  send_first : {xs ys zs : List (Sent Q)} (x : Sent Q) → x.caller ≡ a → Senders xs ys zs → Senders (x ∷ xs) ys (x ∷ zs)
  unfolding by keep
  send_first x e r =
      record {
        first = rw (eq-eqb x.caller a e) (ap (λ zs. x ∷ zs) r.first);
        second = rw (ne_eqb x.caller b (λ d. differ (sym e ∙ d))) r.second;
        both = (Memᴰ.head e, r.both);
      }

  send_second : {xs ys zs : List (Sent Q)} (y : Sent Q) → y.caller ≡ b → Senders xs ys zs → Senders xs (y ∷ ys) (y ∷ zs)
  unfolding by keep
  send_second y e r =
      record {
        first = rw (ne_eqb y.caller a (λ d. differ (sym d ∙ e))) r.first;
        second = rw (eq-eqb y.caller b e) (ap (λ zs. y ∷ zs) r.second);
        both = (Memᴰ.tail (Memᴰ.head e), r.both);
      }

  senders : {xs ys zs : List (Sent Q)} → Merge xs ys zs → All (λ z. z.caller ≡ a) xs → All (λ z. z.caller ≡ b) ys → Senders xs ys zs
  unfolding by keep
  senders none p q = record { first = refl; second = refl; both = tt }
  senders (left {x = x} m) p q = send_first x p.0 (senders m p.1 q)
  senders (right {y = y} m) p q = send_second y q.0 (senders m p q.1)

-- ---- two tenants, and any number of them

module _ {E : Edition} (law : Roomy E) (sane : Sane E) where
  -- a row holds a CNode
  node_at : (t : Tables) → well_formed E t ≡ true → (a : ℕ) → is_cnode (cap_of t.table a) ≡ true → is_cnode (cap_at (read E t).forest a) ≡ true
  node_at t wf a h = subst (λ (caps : ℕ → Cap). is_cnode (caps a) ≡ true) (caps_read E law t wf) h

  pub separation_of_two : Separation E
  separation_of_two t wf a b nodeA nodeB apart xs ys zs m =
      let rootA = node_at t wf a nodeA in
      let rootB = node_at t wf b nodeB in
      let n = differ sane (good_read E law t wf).sound a b rootA rootB apart in
      let z = senders a b n m (sent_by_lem a xs) (sent_by_lem b ys) in
      let w = senders a b n (in_turn_lem (sends a xs) (sends b ys)) (sent_by_lem a xs) (sent_by_lem b ys) in
      let u = separation law sane t wf a b rootA rootB apart zs z.both in
      let v = separation law sane t wf a b rootA rootB apart (sends a xs ++ sends b ys) w.both in
      record {
        told_first = u.first ∙ ap (told_on E a t) (z.first ∙ sym w.first) ∙ sym v.first;
        told_second = u.second ∙ ap (told_on E b t) (z.second ∙ sym w.second) ∙ sym v.second;
        tables = u.tables ∙ ap₂ (λ ps qs. tables_after E t (ps ++ qs)) z.first z.second;
      }

  pub separation_of_all : SeparationOfAll E
  separation_of_all t wf roots nodes apart zs ours =
      let cnodes : (a : ℕ) → Has a roots → is_cnode (cap_at (read E t).forest a) ≡ true = λ a i. node_at t wf a (all_has (λ a. is_cnode (cap_of t.table a)) nodes i) in
      let aparts : (a b : ℕ) → Has a roots → Has b roots → (a ≡ b → ⊥) → share_none (estate_in E t a) (estate_in E t b) ≡ true = λ a b i j n. apart a b (has_member i) (has_member j) n in
      let callers = all_from (λ z. Has z.caller roots) zs (λ z i. member_has z.caller roots (all_has (λ z. member z.caller roots) ours i)) in
      record {
        told = λ a i. told_alone law sane t wf roots cnodes aparts zs callers a (member_has a roots i);
        held = λ a i k m. caps_alone law sane t wf roots cnodes aparts zs callers a (member_has a roots i) k (member_has k (estate_in E t a) m);
        tables = λ order. tables_in_turn law sane t wf roots cnodes aparts zs callers order;
      }

-- Separation on the tables of the 32-bit edition.
pub separation32 : Separation edition32
separation32 = separation_of_two roomy32 sane32

pub separation_of_all32 : SeparationOfAll edition32
separation_of_all32 = separation_of_all roomy32 sane32

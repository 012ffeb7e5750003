-- Marks that spread from the start rows are what is removed from them, and the tables without the marked rows are those that a removal leaves.
use Prim.Native.Nat.{ℕ}
use mathlib.Core.Path.{◌≡◌, refl, sym, ap, ◌∙◌, subst}
use mathlib.Core.Bool.{Bool, true, false, cond}
use mathlib.Core.List.Memᴰ
use mathlib.Core.List.{List, [], ◌∷◌}
use native.Mathlib.Omega.{arith}
use lib.Dec.{eqb}
use lib.ListN.{length}
use borrow.Author.Tests.{eqb-true}
use Rattle.model.specs.Edition.{edition32}
use Rattle.model.specs.Lists.{any, member}
use Rattle.model.specs.Cap.{is_empty}
use Rattle.model.specs.Tree.{Forest, entries, below, cap_at}
use Rattle.model.specs.Tables.{Tables, read, cap_of}
use Rattle.model.specs.Rules.{well_formed}
use Rattle.model.specs.Removal.{removed}
use Rattle.model.specs.Operations.{remove, descendants}
use Rattle.model.specs.Request.{applied}
use Rattle.model.proofs.Booleans.{either}
use Rattle.model.proofs.Members.{Has, has_map, has_member, member_has}
use Rattle.model.proofs.Kept.Edits.{entries_without}
use Rattle.model.proofs.Kept.Removal.{removed_start, removed_swept}
use Rattle.model.proofs.Kept.Forests.{row_below, below_has}
use Rattle.model.proofs.Kept.Rules.{fine, known, entry_at}
use Rattle.model.proofs.Removal.Counted.{removed_is, removed_count}
use Rattle.removal.specs.declared.following.Marking.{Marking}
use Rattle.removal.specs.Marking.{marked, row_count, ClosedRows, Started, Marks, only, Spread}
use Rattle.removal.specs.Removing.{Thins, target, offspring, is_offspring, Removes, Sweeps}
use Rattle.removal.proofs.Nodes.{sound, row_count_lem, caps, closed_swept, swept_closed}
use Rattle.removal.proofs.Tables.{rows_of_tables}

module _ (t : Tables) (well : well_formed edition32 t ≡ true) where
  abbrev f : Forest
  f = (read edition32 t).forest

  module _ (start : List ℕ) (there : (k : ℕ) → member k start ≡ true → is_empty (cap_at f k) ≡ false) where
    abbrev R : List ℕ
    R = removed edition32 (entries f) start

    removed_closed : ClosedRows (rows_of_tables t) (cap_at f) (λ k. member k R)
    removed_closed =
        swept_closed (sound t well) (λ k. member k R) (λ n e mn me h names.
        has_member (removed_swept edition32 (entries f) start n e mn me h (λ d md same. member_has d.row R (names d md same))))

    -- the start rows are removed
    begun : (k : ℕ) → member k start ≡ true → member k R ≡ true
    begun k h =
        let (e, me, r, q) = entry_at (sound t well) k (there k h) in
        has_member (subst (λ j. Has j R) r (removed_start edition32 (entries f) start e me (subst (λ j. Has j start) (sym r) (member_has k start h))))

    marked_removed : (mark mark' : List Bool) → ((k : ℕ) → marked mark k ≡ member k start) → Spread (row_count t.table) (cap_of t.table) mark mark' → (k : ℕ) → marked mark' k ≡ member k R
    marked_removed mark mark' starts spread =
        let s : Spread (rows_of_tables t) (cap_at f) mark mark' = rw (row_count_lem t well, caps t well) at spread in
        removed_is edition32 (entries f) start (marked mark') (closed_swept (sound t well) (marked mark') s.closed)
        (λ k m. s.holds k (starts k ∙ has_member m))
        (λ k h. member_has k R (s.least (λ j. member j R) removed_closed (λ j u. begun j (sym (starts j) ∙ u)) k h))

  pub sweeps : (mark mark' : List Bool) (t' : Tables) (gone : ℕ) → Spread (row_count t.table) (cap_of t.table) mark mark' → Thins mark' t t' gone → Sweeps mark t t' gone
  unfolding applied remove
  sweeps mark mark' t' gone spread thins =
      record {
        removes = λ start starts there.
            let same = marked_removed start there mark mark' starts spread in
            record {
              count = omega (arith, thins.count _ same, removed_count edition32 (entries f) start, ap length (entries_without (removed edition32 (entries f) start) f));
              tables = thins.tables _ same;
            };
      }

  -- what goes where the rows of S are marked first
  removes : (S : ℕ → Bool) (start : List ℕ) → ((j : ℕ) → S j ≡ member j start) → ((k : ℕ) → member k start ≡ true → is_empty (cap_at f k) ≡ false)
      → {m m' : Marking} → Started (cap_of t.table) m (row_count t.table) → Marks t.table S m m' → (t' : Tables) (gone : ℕ) → Sweeps m'.mark t t' gone → Removes t t' start gone
  removes S start is there {m} s w t' gone sweeps = sweeps.removes start (λ j. w.marks j ∙ rw (s.clear j) (is j)) there

  -- ---- the start of Delete

  module _ (k : ℕ) where
    target_there : (j : ℕ) → member j (target t k) ≡ true → is_empty (cap_at f j) ≡ false
    target_there j m = go (is_empty (cap_at f k)) refl (member_has j (target t k) m)
      where
        go : (c : Bool) → is_empty (cap_at f k) ≡ c → Has j (cond c [] (k ∷ [])) → is_empty (cap_at f j) ≡ false
        go true e m = absurd (Memᴰ.not-nil m)
        go false e m = ap (λ i. is_empty (cap_at f i)) (Memᴰ.eq_of_singleton m) ∙ e

    only_target : (j : ℕ) → only (cap_of t.table) k j ≡ member j (target t k)
    only_target j = rw (caps t well) (go (is_empty (cap_at f k)) refl)
      where
        go : (c : Bool) → is_empty (cap_at f k) ≡ c → only (cap_at f) k j ≡ member j (cond c [] (k ∷ []))
        go true e = unfold only member any in either (eqb j k) (λ u. rw (u, eqb-true j k u, e)) (λ f. rw f)
        go false e = unfold only member any in either (eqb j k) (λ u. rw (u, eqb-true j k u, e)) (λ f. rw f)

    pub removes_target : {m m' : Marking} → Started (cap_of t.table) m (row_count t.table) → Marks t.table (only (cap_of t.table) k) m m' → (t' : Tables) (gone : ℕ) → Sweeps m'.mark t t' gone → Removes t t' (target t k) gone
    removes_target = removes (only (cap_of t.table) k) (target t k) only_target target_there

    -- ---- the start of Revoke

    offspring_there : (j : ℕ) → member j (offspring t k) ≡ true → is_empty (cap_at f j) ≡ false
    unfolding descendants
    offspring_there j m =
        let (y, my, r) = has_map (λ e. e.row) (entries (below f k)) (member_has j (offspring t k) m) in
        let (x, rx, u) = row_below f k my in
        let mf = below_has u.at u.has in
        subst (λ i. is_empty (cap_at f i) ≡ false) r (ap is_empty (known (sound t well) mf) ∙ (fine (sound t well) mf).filled)

    pub removes_offspring : {m m' : Marking} → Started (cap_of t.table) m (row_count t.table) → Marks t.table (is_offspring t k) m m' → (t' : Tables) (gone : ℕ) → Sweeps m'.mark t t' gone → Removes t t' (offspring t k) gone
    removes_offspring = removes (is_offspring t k) (offspring t k) (λ j. refl) offspring_there

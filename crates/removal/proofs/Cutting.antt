-- A row that goes alone, or none at all: what Delete then leaves of the tables.
use Prim.Native.Nat.{ℕ, pred, ◌-◌, ◌<◌}
use mathlib.Core.Path.{◌≡◌, refl, sym, ap, ◌∙◌, subst}
use mathlib.Core.Bool.{true, false, cond}
use mathlib.Core.List.Memᴰ
use mathlib.Core.List.{List, [], ◌∷◌}
use native.Mathlib.Omega.{arith}
use native.Mathlib.Numerals.{sub-one}
use lib.Dec.{eqb}
use lib.ListN.{get_or, length, set}
use Rattle.model.specs.Edition.{edition32}
use Rattle.model.specs.Lists.{any, member}
use Rattle.model.specs.Cap.{is_empty, is_cnode, same_object}
use Rattle.model.specs.Tree.{Entry, Forest, end, tree, entries, cap_at, stays, goes, edit, put, leaves, without}
use Rattle.model.specs.Stores.{unlinked}
use Rattle.model.specs.Tables.{Tables, rows, word, cap_of, listing, read, write}
use Rattle.model.specs.Rules.{well_formed}
use Rattle.model.specs.Removal.{removed}
use Rattle.model.specs.Operations.{remove}
use Rattle.model.specs.Request.{applied}
use Rattle.model.proofs.Members.{Has, has_member, member_has}
use Rattle.model.proofs.State.{Fits}
use Rattle.model.proofs.Words.WellFormed.{roomy32, write_read, good_read, good_fits}
use Rattle.model.proofs.Words.Around.{At}
use Rattle.model.proofs.Words.Edited.{listed_under}
use Rattle.model.proofs.Words.Runs.{raised_run}
use Rattle.model.proofs.Words.Removed.{write_removed}
use Rattle.model.proofs.Kept.Allowed.{houses_parts}
use Rattle.model.proofs.Kept.Edits.{entries_without}
use Rattle.model.proofs.Kept.Objects.{same_refl, same_parts, same_empty}
use Rattle.model.proofs.Kept.Removal.{Swept, removed_none, removed_start}
use Rattle.model.proofs.Kept.Rules.{known, entry_at}
use Rattle.model.proofs.Removal.Counted.{removed_is, removed_count}
use Rattle.removal.specs.Marking.{row_count}
use Rattle.removal.specs.Removing.{target, without_row, Removes, goes_alone}
use Rattle.removal.proofs.Tables.{entries_long, rows_of_tables}
use Rattle.removal.proofs.Nodes.{sound, caps, row_count_lem}
use Rattle.removal.proofs.Descent.{place, some_row}
use Rattle.removal.proofs.Elsewhere.{elsewhere}

edit_none : (f : Forest) → edit (without []) f ≡ f
unfolding edit without put leaves member any
edit_none end = refl
edit_none (tree e b a) = λ i. tree e (edit_none b i) (edit_none a i)

module _ (t : Tables) (well : well_formed edition32 t ≡ true) (k : ℕ) where
  abbrev f : Forest
  f = (read edition32 t).forest

  fits : Fits edition32 (rows edition32 (read edition32 t).m) f
  fits = good_fits edition32 roomy32 (read edition32 t) (good_read edition32 roomy32 t well)

  same_tables : write edition32 (read edition32 t) ≡ t
  same_tables = write_read edition32 roomy32 t well

  -- the tables without the row, as stores to those that there were
  pub cut_is : (p : At k f)
      → record {
        table = unlinked (raised_run t.table (listed_under p)) k (word t.table k 6) (word t.table k 5);
        control = set (set t.control 2 (cond (eqb (word t.table k 6) 4294967295) (word t.table k 5) (get_or t.control 2 0))) 3 (get_or t.control 3 0 - 1);
      } ≡ without_row t k
  cut_is p =
      ap (λ (n : ℕ). record {
        table = unlinked (raised_run t.table (listed_under p)) k (word t.table k 6) (word t.table k 5);
        control = set (set t.control 2 (cond (eqb (word t.table k 6) 4294967295) (word t.table k 5) (get_or t.control 2 0))) 3 n;
      }) (sub-one (get_or t.control 3 0))
      ∙ sym (write_removed edition32 (read edition32 t) fits k p
      ∙ ap (λ (u : Tables). record {
        table = unlinked (raised_run u.table (listed_under p)) k (word u.table k 6) (word u.table k 5);
        control = set (set u.control 2 (cond (eqb (word u.table k 6) 4294967295) (word u.table k 5) (get_or u.control 2 0))) 3 (pred (get_or u.control 3 0));
      }) same_tables)

  -- nothing goes where the row is empty
  pub removes_none : is_empty (cap_at f k) ≡ true → Removes t t (target t k) 0
  unfolding applied remove
  removes_none e =
      rw e
      (record {
        count = sym (ap length (removed_none edition32 (entries f)));
        tables = sym same_tables ∙ ap (λ (g : Forest). write edition32 (record { m = (read edition32 t).m; r = (read edition32 t).r; forest = g })) (sym (ap (λ (ks : List ℕ). edit (without ks) f) (removed_none edition32 (entries f)) ∙ edit_none f));
      })

  module _ (there : is_empty (cap_at f k) ≡ false) (lone : goes_alone (cap_of t.table) (row_count t.table) k ≡ true) where
    abbrev R : List ℕ
    R = removed edition32 (entries f) (k ∷ [])

    -- another entry that names the same object
    entry_of : (j : ℕ) → (j ≡ k → ⊥) → same_object (cap_at f k) (cap_at f j) ≡ true → (e : Entry) × Has e (entries f) × (e.row ≡ k → ⊥) × (same_object (cap_at f k) e.cap ≡ true)
    entry_of j other same =
        let (e, me, r, c) = entry_at (sound t well) j (sym (same_empty (same_parts _ _ same)) ∙ there) in
        (e, me, λ q. other (sym r ∙ q), rw c at same)

    alone : Swept edition32 (entries f) (λ j. member j (k ∷ []) ≡ true)
    alone n e mn me h names =
        let only : (d : Entry) → Has d (entries f) → same_object n.cap d.cap ≡ true → d.row ≡ k = λ d md same. Memᴰ.eq_of_singleton (member_has d.row (k ∷ []) (names d md same)) in
        let c : cap_at f k ≡ n.cap = ap (cap_at f) (sym (only n mn (same_refl n.cap))) ∙ known (sound t well) mn in
        let (j, j-other, j-same) = elsewhere (cap_at f) (rows_of_tables t) k (rw (caps t well, row_count_lem t well) at lone) (ap is_cnode c ∙ (houses_parts edition32 n.cap e.row h).cnode) in
        let (d, md, other, same) = entry_of j j-other j-same in
        absurd (other (only d md (subst (λ x. same_object x d.cap ≡ true) c same)))

    gone : (j : ℕ) → member j (k ∷ []) ≡ true → Has j R
    gone j u =
        let q : j ≡ k = Memᴰ.eq_of_singleton (member_has j (k ∷ []) u) in
        let (e, me, r, c) = entry_at (sound t well) k there in
        subst (λ i. Has i R) (r ∙ sym q) (removed_start edition32 (entries f) (k ∷ []) e me (Memᴰ.head r))

    same : (j : ℕ) → member j (k ∷ []) ≡ member j R
    same = removed_is edition32 (entries f) (k ∷ []) (λ j. member j (k ∷ [])) alone (λ j m. has_member m) gone

    acts : without (k ∷ []) ≡ without R
    unfolding without
    acts = λ i e. cond (same e.row i) goes (stays e [])

    fewer : length (listing 0 (edit (without (k ∷ [])) f)) ≡ pred (length (listing 0 f))
    unfolding write
    fewer = ap (λ (u : Tables). get_or u.control 3 0) (write_removed edition32 (read edition32 t) fits k (place t well k there))

    some : 0 < length (listing 0 f)
    unfolding write listing
    some = subst (λ (n : ℕ). 0 < n) (ap (λ (u : Tables). get_or u.control 3 0) (sym same_tables)) (some_row t well k (place t well k there))

    one : 1 ≡ length R
    one =
        omega (
          arith,
          some,
          fewer,
          sub-one (length (listing 0 f)),
          entries_long f,
          entries_long (edit (without (k ∷ [])) f),
          removed_count edition32 (entries f) (k ∷ []),
          ap length (entries_without R f),
          ap (λ act. length (entries (edit act f))) acts,
        )

    -- the row alone goes where nothing follows it
    pub removes_one : (t' : Tables) → t' ≡ without_row t k → Removes t t' (target t k) 1
    unfolding applied remove
    removes_one t' e =
        rw there
        (record {
          count = one;
          tables = e ∙ ap (λ act. write edition32 (record { m = (read edition32 t).m; r = (read edition32 t).r; forest = edit act f })) acts;
        })

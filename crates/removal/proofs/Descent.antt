-- A walk along the rows below a row: what is to come of them, and what comes after them.
use Prim.Native.Nat.{ℕ, ◌+◌, ◌*◌, ◌≤◌, ◌<◌}
use mathlib.Core.Path.{◌≡◌, refl, sym, ap, ◌∙◌, subst}
use mathlib.Core.Bool.{Bool, true, false, not, ◌||◌}
use mathlib.Core.List.{List, [], ◌∷◌, ◌++◌, map, map-map}
use native.Mathlib.Omega.{arith}
use lib.Dec.{eqb}
use lib.ListN.{get_or, length, length-append}
use borrow.Author.Tests.{eqb-true, not-true}
use Rattle.model.specs.Edition.{edition32}
use Rattle.model.specs.Lists.{any, member}
use Rattle.model.specs.Cap.{is_empty}
use Rattle.model.specs.Tree.{Forest, entries, below, cap_at}
use Rattle.model.specs.Tables.{Tables, Listed, word, cap_of, first_of, read}
use Rattle.model.specs.Rules.{well_formed}
use Rattle.model.specs.Operations.{descendants}
use Rattle.model.proofs.Booleans.{either}
use Rattle.model.proofs.Members.{All, all_map, Has, has_map, map_has, member_has}
use Rattle.model.proofs.Distinct.{Distinct}
use Rattle.model.proofs.State.{rows_of}
use Rattle.model.proofs.Kept.Forests.{at_has, row_below}
use Rattle.model.proofs.Kept.Rules.{entry_at, vacant_none}
use Rattle.model.proofs.Words.Rows.{row_at, rows_in, Written}
use Rattle.model.proofs.Words.WellFormed.{Formed, formed, formed_distinct, formed_written, roomy32, list_in}
use Rattle.model.proofs.Words.Linking.{middle_below, next_is_lem, depth_is}
use Rattle.model.proofs.Words.Runs.{raised_run}
use Rattle.model.proofs.Words.Around.{At, depth_of, at_has as around-at}
use Rattle.model.proofs.Words.Edited.{listed_of, listed_before, listing_at, listed_under, listed_past, after_is}
use Rattle.model.proofs.Words.Descendants.{under_deep, past_low, holds_after, all_after, descendants_are}
use Rattle.model.proofs.Words.Bounds.{rows_small}
use Rattle.removal.specs.Marking.{only, row_count}
use Rattle.removal.specs.Removing.{occupied}
use Rattle.removal.proofs.Marks.{or_false, or_or}
use Rattle.removal.proofs.Tables.{rows_of_tables, list_read}
use Rattle.removal.proofs.Nodes.{sound, row_count_lem}
use Rattle.removal.proofs.Ahead.{Ahead, ahead_as, ahead_none, ahead_step}
use Rattle.removal.proofs.Raising.{Raising}

-- us is still to be marked; S are the rows that are passed, and `all` the rows below
pub record Descent (n : ℕ) (t : List ℕ) (d : ℕ) (all : List ℕ) (next turn turns : ℕ) (S : ℕ → Bool) : Type 0 where
  pub us : List Listed
  pub ps : List Listed
  pub ahead : Ahead n t d next turn turns us ps
  pub there : All (λ k. is_empty (cap_of t k) ≡ false) (rows_in us)
  pub seen : (j : ℕ) → (S j || member j (rows_in us)) ≡ member j all

only_eqb : (t : List ℕ) (k j : ℕ) → is_empty (cap_of t k) ≡ false → only (cap_of t) k j ≡ eqb j k
unfolding only
only_eqb t k j e = either (eqb j k) (λ u. rw (u, eqb-true j k u, e)) (λ f. rw f)

module _ {n : ℕ} {t : List ℕ} {d : ℕ} {all : List ℕ} {next turn turns : ℕ} {S : ℕ → Bool} where
  pub descent_as : {d' next' : ℕ} → d' ≡ d → next' ≡ next → Descent n t d all next turn turns S → Descent n t d' all next' turn turns S
  descent_as p q w = rw (p, q) w

  pub descended_all : (w : Descent n t d all next turn turns S) → w.us ≡ [] → (j : ℕ) → S j ≡ member j all
  unfolding member any
  descended_all w none j = or_false (S j) ∙ ap (λ l. S j || member j (rows_in l)) (sym none) ∙ w.seen j

  pub descent_step : (w : Descent n t d all next turn turns S) → (next ≡ 4294967295 → ⊥) → d < word t next 7 → Descent n t d all (word t next 5) (turn + 1) turns (λ j. S j || only (cap_of t) next j)
  unfolding first_of member any
  descent_step w ne h = go w.us w.ps w.ahead w.there w.seen
    where
      go : (us ps : List Listed) → Ahead n t d next turn turns us ps → All (λ k. is_empty (cap_of t k) ≡ false) (rows_in us) → ((j : ℕ) → (S j || member j (rows_in us)) ≡ member j all)
          → Descent n t d all (word t next 5) (turn + 1) turns (λ j. S j || only (cap_of t) next j)
      go [] ps a there seen = absurd (ahead_none a ne h)
      go (u ∷ us) ps a there seen =
          record {
            us = us;
            ps = ps;
            ahead = ahead_step a;
            there = there.1;
            seen = λ j. or_or (S j) (only (cap_of t) next j) (member j (rows_in us)) ∙ ap (λ b. S j || (b || member j (rows_in us))) (ap (λ k. only (cap_of t) k j) a.next_is ∙ only_eqb t u.entry.row j there.0) ∙ seen j;
          }

-- ---- where the walk begins

all_first : (P : ℕ → Type 0) (us ps : List Listed) → All P (rows_in (us ++ ps)) → All P (rows_in us)
all_first P [] ps a = tt
all_first P (u ∷ us) ps a = (a.0, all_first P us ps a.1)

longer : (pre : List Listed) (x : Listed) (us ps : List Listed) → length us ≤ length (pre ++ x ∷ (us ++ ps))
longer pre x us ps = omega (arith, length-append pre (x ∷ (us ++ ps)), length-append us ps)

module _ (t : Tables) (well : well_formed edition32 t ≡ true) (k : ℕ) where
  abbrev f : Forest
  f = (read edition32 t).forest

  form : Formed edition32 t (list_in edition32 t)
  form = formed edition32 roomy32 t well

  -- row j is in the table, and occupied
  abbrev Taken : ℕ → Type 0
  Taken j = (j < rows_of_tables t) × (not (is_empty (cap_of t.table j)) ≡ true)

  -- an empty row has nothing below it
  pub none_below : is_empty (cap_at f k) ≡ true → (j : ℕ) → member j (descendants f k) ≡ false
  unfolding descendants
  none_below e j =
      either (member j (descendants f k))
      (λ h. let (y, m, r) = has_map (λ e. e.row) (entries (below f k)) (member_has j (descendants f k) h) in
      let (x, rx, u) = row_below f k m in
      absurd (vacant_none (sound t well) k e (at_has u.at) rx))
      (λ n. n)

  -- the place of an occupied row in the tree
  pub place : is_empty (cap_at f k) ≡ false → At k f
  place there = let (e, m, r, q) = entry_at (sound t well) k there in around-at k f (subst (λ j. Has j (rows_of f)) r (map_has (λ e. e.row) m))

  module _ (at : At k f) where
    abbrev pre : List Listed
    pre = listed_before at

    abbrev us : List Listed
    us = listed_under at

    abbrev ps : List Listed
    ps = listed_past at

    listed : list_in edition32 t ≡ pre ++ listed_of at ∷ (us ++ ps)
    listed = sym (list_read t well) ∙ listing_at k f at ∙ ap (λ l. pre ++ listed_of at ∷ l) (after_is k f at)

    taken : All Taken (rows_in (pre ++ listed_of at ∷ (us ++ ps)))
    taken = subst (λ l. All Taken (rows_in l)) listed form.chained.taken

    below_all : All (λ j. j < rows_of_tables t) (rows_in (pre ++ listed_of at ∷ (us ++ ps)))
    below_all = all_map (rows_in (pre ++ listed_of at ∷ (us ++ ps))) (λ j h. h.0) taken

    distinct : Distinct (rows_in (pre ++ listed_of at ∷ (us ++ ps)))
    distinct = subst (λ l. Distinct (rows_in l)) listed (formed_distinct edition32 t (list_in edition32 t) form)

    written : Written edition32 (rows_of_tables t) t.table (pre ++ listed_of at ∷ (us ++ ps))
    written = subst (Written edition32 (rows_of_tables t) t.table) listed (formed_written edition32 t (list_in edition32 t) form)

    depth : word t.table k 7 ≡ depth_of 0 at.around
    depth = subst (λ j. word t.table j 7 ≡ depth_of 0 at.around) at.row (depth_is edition32 (rows_of_tables t) form.room t.table pre (listed_of at) (us ++ ps) below_all distinct written)

    after : word t.table k 5 ≡ first_of edition32 (us ++ ps)
    after = subst (λ j. word t.table j 5 ≡ first_of edition32 (us ++ ps)) at.row (next_is_lem edition32 (rows_of_tables t) form.room t.table pre (listed_of at) (us ++ ps) below_all distinct written)

    rows_below_lem : rows_in us ≡ descendants f k
    rows_below_lem = unfold descendants in sym (map-map (λ e. e.row) (λ x. x.entry) us) ∙ ap (map (λ e. e.row)) (descendants_are k f at (sound t well).distinct)

    ahead_start : Ahead (rows_of_tables t) t.table (word t.table k 7) (word t.table k 5) 0 (get_or t.control 3 0) us ps
    ahead_start =
        ahead_as depth after
        (record {
          room = omega (arith, rows_small t well);
          before = (listed_of at).entry.row;
          holds = holds_after edition32 (row_at t.table) 4294967295 pre (listed_of at) (us ++ ps) written.holds;
          below = all_after (λ j. j < rows_of_tables t) pre (listed_of at) (us ++ ps) below_all;
          deep = under_deep k f at;
          low = past_low k f at;
          next_is = refl;
          fuel = omega (arith, longer pre (listed_of at) us ps, ap length listed, form.chained.long);
        })

    pub descent_start : Descent (row_count t.table) t.table (word t.table k 7) (descendants f k) (word t.table k 5) 0 (get_or t.control 3 0) (λ j. false)
    descent_start =
        rw (row_count_lem t well)
        (record {
          us = us;
          ps = ps;
          ahead = ahead_start;
          there = all_map (rows_in us) (λ j h. not-true (is_empty (cap_of t.table j)) h.1) (all_first Taken us ps (all_after Taken pre (listed_of at) (us ++ ps) taken));
          seen = λ j. ap (member j) rows_below_lem;
        })

    distinct_after : (pre : List Listed) (x : Listed) (post : List Listed) → Distinct (rows_in (pre ++ x ∷ post)) → Distinct (rows_in post)
    distinct_after [] x post d = d.1
    distinct_after (q ∷ pre) x post d = distinct_after pre x post d.1

    -- so begins the walk that puts the rows below one up
    pub raising_start : Raising (row_count t.table) t.table (word t.table k 7) (raised_run t.table (listed_under at)) (word t.table k 5) 0 (get_or t.control 3 0)
    raising_start =
        rw (row_count_lem t well)
        (record {
          us = us;
          ps = ps;
          ahead = ahead_start;
          long = form.table_long;
          distinct = distinct_after pre (listed_of at) (us ++ ps) distinct;
          up = refl;
        })

    -- there is a row, so the count is not 0
    pub some_row : 0 < get_or t.control 3 0
    some_row = omega (arith, length-append pre (listed_of at ∷ (us ++ ps)), ap length listed, form.chained.long)

    pub row_below_n : k < row_count t.table
    row_below_n = rw (row_count_lem t well) (subst (λ j. j < rows_of_tables t) at.row (middle_below (rows_of_tables t) pre (listed_of at) (us ++ ps) below_all))

-- where an occupied row stands, and that it is in the table
module _ (t : Tables) (well : well_formed edition32 t ≡ true) (row : ℕ) (there : occupied t row ≡ true) where
  pub stands : At row (read edition32 t).forest
  unfolding occupied
  stands = place t well row (not-true _ there)

  pub row_in : row * 8 + 8 ≤ length t.table
  row_in = omega (arith, row_below_n t well row stands)

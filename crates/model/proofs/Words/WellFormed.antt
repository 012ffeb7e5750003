-- Well-formed tables are those that are written for a good state: the list that is read from them keeps its rows in order, and as many rows are
-- occupied as are listed, so every other row is zero.
use Prim.Native.Nat.{ℕ, ◌-◌, ◌*◌, ◌^◌, ◌≤◌, ◌<◌}
use mathlib.Core.Path.{◌≡◌, refl, sym, ap, ◌∙◌, subst}
use mathlib.Core.Bool.{Bool, true, false, not, ◌&&◌}
use mathlib.Core.List.{List, [], ◌∷◌, map}
use mathlib.Core.Logic.{◌⊎◌, inl, inr}
use native.Mathlib.Omega.{arith}
use lib.Dec.{eqb}
use lib.ListN.{length, get_or, length-map}
use lib.Pow.{pow_mono}
use borrow.Author.Tests.{eq-eqb, eqb-true, eqb-false, not-true, not-false}
use Rattle.model.specs.Lists.{all_true, count}
use Rattle.model.specs.Edition.{Edition, edition32}
use Rattle.model.specs.Cap.{is_empty}
use Rattle.model.specs.Tree.{Entry, entries}
use Rattle.model.specs.Tables.{Listed, State, Tables, rows, cap_of, first_of, zero_row, rows_from, follow, grown, listing, read, write}
use Rattle.model.specs.Rules.{m_in_range, r_in_range, lengths_fit, control_allowed, cap_allowed, row_allowed, occupied, table_allowed, forest_allowed, well_formed}
use Rattle.model.proofs.Booleans.{and_left, and_right, and_intro, part, within_parts}
use Rattle.model.proofs.Members.{All, all_map}
use Rattle.model.proofs.Distinct.{Fresh, Distinct, listed_all, count_listed}
use Rattle.model.proofs.State.{Fits, Fine, Good}
use Rattle.model.proofs.Words.Listing.{listing_grown, steps_listing}
use Rattle.model.proofs.Words.Rows.{row_at, rows_in, cap_from, Holds, Written, written_is, length_rows_from}
use Rattle.model.proofs.Words.ReadWrite.{entries_listing, rows_listing, fits_written, read_write}
use Rattle.model.proofs.Words.Chain.{holds_distinct, Chain, chain, chain_listed, rows_at, at_rows, row_empty, row_taken, empty_row, taken_row}

-- what is asked of an edition: no row is the word for "no row"
pub record Roomy (E : Edition) : Type 0 where
  pub room : (m : ℕ) → m_in_range E m ≡ true → rows E m ≤ E.none

pub roomy32 : Roomy edition32
unfolding m_in_range rows
roomy32 =
    record {
      room =
          λ m e.
          let h = within_parts 10 m 16 e in
          let p : 2 ^ (m - 4) ≤ 2 ^ 12 = pow_mono {i = m - 4} {j = 12} (omega (arith, h.1)) in
          omega arith;
    }

-- ---- from tables to a state

-- what the rules say of the tables, and the list that is read from them
pub record Formed (E : Edition) (t : Tables) (xs : List Listed) : Type 0 where
  pub control_long : length t.control ≡ 4
  pub m_range : m_in_range E (get_or t.control 0 0) ≡ true
  pub r_range : r_in_range E (get_or t.control 0 0) (get_or t.control 1 0) ≡ true
  pub room : rows E (get_or t.control 0 0) ≤ E.none
  pub each_row : (k : ℕ) → k < rows E (get_or t.control 0 0) → row_allowed E (get_or t.control 0 0) t.table k ≡ true
  pub table_long : length t.table ≡ 8 * rows E (get_or t.control 0 0)
  pub counted : get_or t.control 3 0 ≡ count (λ k. not (is_empty (cap_of t.table k))) (rows E (get_or t.control 0 0))
  pub chained : Chain E (get_or t.control 0 0) t.table (get_or t.control 3 0) E.none 0 (get_or t.control 2 0) xs
  pub forest : forest_allowed E (read E t).forest ≡ true

-- the list that is read from the tables
abbrev pub list_in : Edition → Tables → List Listed
list_in E t = follow E t.table (get_or t.control 3 0) (get_or t.control 2 0)

pub formed : (E : Edition) → Roomy E → (t : Tables) → well_formed E t ≡ true → Formed E t (list_in E t)
unfolding well_formed control_allowed lengths_fit table_allowed occupied
formed E law t e =
    let m : ℕ = get_or t.control 0 0 in
    let ct = and_left (control_allowed E t && table_allowed E m (get_or t.control 2 0) (get_or t.control 3 0) t.table) (forest_allowed E (read E t).forest) e in
    let c = and_left (control_allowed E t) (table_allowed E m (get_or t.control 2 0) (get_or t.control 3 0) t.table) ct in
    let a = and_right (control_allowed E t) (table_allowed E m (get_or t.control 2 0) (get_or t.control 3 0) t.table) ct in
    let long = part _ 2 c in
    record {
      control_long = eqb-true (length t.control) 4 (and_right (eqb (length t.table) (8 * rows E m)) (eqb (length t.control) 4) long);
      m_range = part _ 0 c;
      r_range = part _ 1 c;
      room = law.room m (part _ 0 c);
      each_row = rows_at E m t.table (rows E m) (part _ 0 a);
      table_long = eqb-true (length t.table) (8 * rows E m) (and_left (eqb (length t.table) (8 * rows E m)) (eqb (length t.control) 4) long);
      counted = eqb-true (get_or t.control 3 0) (occupied t.table (rows E m)) (part _ 1 a);
      chained = chain E m t.table (get_or t.control 3 0) E.none 0 (get_or t.control 2 0) (law.room m (part _ 0 c)) (part _ 2 a);
      forest = and_right (control_allowed E t && table_allowed E m (get_or t.control 2 0) (get_or t.control 3 0) t.table) (forest_allowed E (read E t).forest) e;
    }

module _ (E : Edition) (t : Tables) (xs : List Listed) (w : Formed E t xs) where
  pub formed_distinct : Distinct (rows_in xs)
  formed_distinct =
      holds_distinct E (row_at t.table) E.none xs w.chained.holds
      (all_map (rows_in xs) (λ k h q. omega (arith, w.room, h.0)) w.chained.taken)

  pub formed_written : Written E (rows E (get_or t.control 0 0)) t.table xs
  formed_written =
      record {
        long = w.table_long;
        holds = w.chained.holds;
        others =
            λ k h f.
            row_empty E (get_or t.control 0 0) t.table k (w.each_row k h)
            (not-false (is_empty (cap_of t.table k))
            (listed_all (rows_in xs) (λ j. not (is_empty (cap_of t.table j))) (rows E (get_or t.control 0 0)) formed_distinct w.chained.taken
            (length-map xs (λ x. x.entry.row) ∙ w.chained.long ∙ w.counted) k h f));
      }

four : (c : List ℕ) → length c ≡ 4 → get_or c 0 0 ∷ get_or c 1 0 ∷ get_or c 2 0 ∷ get_or c 3 0 ∷ [] ≡ c
four [] e = absurd (omega arith)
four (a ∷ []) e = absurd (omega arith)
four (a ∷ b ∷ []) e = absurd (omega arith)
four (a ∷ b ∷ c ∷ []) e = absurd (omega arith)
four (a ∷ b ∷ c ∷ d ∷ []) e = refl
four (a ∷ b ∷ c ∷ d ∷ x ∷ xs) e = absurd (omega arith)

pub write_read : (E : Edition) → Roomy E → (t : Tables) → well_formed E t ≡ true → write E (read E t) ≡ t
unfolding read write
write_read E law t e =
    let w = formed E law t e in
    let m : ℕ = get_or t.control 0 0 in
    let back : listing 0 (grown 0 (list_in E t)) ≡ list_in E t = listing_grown (list_in E t) w.chained.steps in
    ap (λ (ys : List Listed). record { table = rows_from E ys 0 (rows E m); control = m ∷ get_or t.control 1 0 ∷ first_of E ys ∷ length ys ∷ [] }) back
    ∙ (λ i. record {
      table = sym (written_is E (rows E m) t.table (list_in E t) (formed_written E t (list_in E t) w)) i;
      control = m ∷ get_or t.control 1 0 ∷ w.chained.first i ∷ w.chained.long i ∷ [];
    })
    ∙ ap (λ (c : List ℕ). record { table = t.table; control = c }) (four t.control w.control_long)

-- the entries of a list are fine where the rows that hold it are allowed
fine_listed : (E : Edition) (m : ℕ) (t : List ℕ) (before : ℕ) (xs : List Listed) → Holds E (row_at t) before xs
    → ((k : ℕ) → k < rows E m → row_allowed E m t k ≡ true) → All (λ j. (j < rows E m) × (not (is_empty (cap_of t j)) ≡ true)) (rows_in xs)
    → All (Fine E m) (map (λ x. x.entry) xs)
unfolding cap_of
fine_listed E m t before [] h each a = tt
fine_listed E m t before (x ∷ xs) h each a =
    let k : ℕ = x.entry.row in
    let n : is_empty (cap_of t k) ≡ false = not-true (is_empty (cap_of t k)) a.0.1 in (
      record {
        in_table = a.0.0;
        filled = subst (λ c. is_empty c ≡ false) (ap cap_from h.0) n;
        allowed = subst (λ c. cap_allowed E m c ≡ true) (ap cap_from h.0) (row_taken E m t k (each k a.0.0) n);
      },
      fine_listed E m t k xs h.1 each a.1,
    )

pub good_read : (E : Edition) → Roomy E → (t : Tables) → well_formed E t ≡ true → Good E (read E t)
unfolding read forest_allowed
good_read E law t e =
    let w = formed E law t e in
    let m : ℕ = get_or t.control 0 0 in
    let xs : List Listed = list_in E t in
    let back : listing 0 (grown 0 xs) ≡ xs = listing_grown xs w.chained.steps in
    record {
      m_range = w.m_range;
      r_range = w.r_range;
      sound = record {
        each =
            subst (All (Fine E m)) (ap (map (λ x. x.entry)) (sym back) ∙ entries_listing (grown 0 xs) 0)
            (fine_listed E m t.table E.none xs w.chained.holds w.each_row w.chained.taken);
        distinct = subst Distinct (ap rows_in (sym back) ∙ rows_listing (grown 0 xs) 0) (formed_distinct E t xs w);
        homes = part _ 0 w.forest;
        families = part _ 1 w.forest;
        pairs = part _ 2 w.forest;
      };
    }

-- ---- from a state to tables

fine_below : (E : Edition) (m : ℕ) (es : List Entry) → All (Fine E m) es → All (λ k. k < rows E m) (map (λ e. e.row) es)
fine_below E m [] a = tt
fine_below E m (e ∷ es) a = (a.0.in_table, fine_below E m es a.1)

pub good_fits : (E : Edition) → Roomy E → (s : State) → Good E s → Fits E (rows E s.m) s.forest
good_fits E law s g =
    record {
      room = law.room s.m g.m_range;
      distinct = g.sound.distinct;
      below = fine_below E s.m (entries s.forest) g.sound.each;
    }

-- a row is not listed, or has the capability of an entry that is fine
row_cases : (E : Edition) (m : ℕ) (t : List ℕ) (before : ℕ) (xs : List Listed) (k : ℕ) → Holds E (row_at t) before xs → All (Fine E m) (map (λ x. x.entry) xs)
    → Fresh k (rows_in xs) ⊎ ((is_empty (cap_of t k) ≡ false) × (cap_allowed E m (cap_of t k) ≡ true))
unfolding cap_of
row_cases E m t before [] k h a = inl tt
row_cases E m t before (x ∷ xs) k h a = go (eqb x.entry.row k) refl (row_cases E m t x.entry.row xs k h.1 a.1)
  where
    Taken : Type 0
    Taken = (is_empty (cap_of t k) ≡ false) × (cap_allowed E m (cap_of t k) ≡ true)

    go : (b : Bool) → eqb x.entry.row k ≡ b → Fresh k (rows_in xs) ⊎ Taken → Fresh k (rows_in (x ∷ xs)) ⊎ Taken
    go true e ih =
        let c : x.entry.cap ≡ cap_of t k = sym (ap cap_from h.0) ∙ ap (cap_of t) (eqb-true x.entry.row k e) in
        inr (ap is_empty (sym c) ∙ a.0.filled, ap (cap_allowed E m) (sym c) ∙ a.0.allowed)
    go false e (inl f) = inl (eqb-false x.entry.row k e, f)
    go false e (inr p) = inr p

rows_formed : (E : Edition) (m : ℕ) (t : List ℕ) (xs : List Listed) → Written E (rows E m) t xs → All (Fine E m) (map (λ x. x.entry) xs)
    → (k : ℕ) → k < rows E m → row_allowed E m t k ≡ true
rows_formed E m t xs w a k h = go (row_cases E m t E.none xs k w.holds a)
  where
    go : Fresh k (rows_in xs) ⊎ ((is_empty (cap_of t k) ≡ false) × (cap_allowed E m (cap_of t k) ≡ true)) → row_allowed E m t k ≡ true
    go (inl f) = empty_row E m t k (w.others k h f)
    go (inr p) = taken_row E m t k p.0 p.1

taken_rows : (E : Edition) (m : ℕ) (t : List ℕ) (before : ℕ) (xs : List Listed) → Holds E (row_at t) before xs → All (Fine E m) (map (λ x. x.entry) xs)
    → All (λ k. (k < rows E m) × (not (is_empty (cap_of t k)) ≡ true)) (rows_in xs)
unfolding cap_of
taken_rows E m t before [] h a = tt
taken_rows E m t before (x ∷ xs) h a =
    ((a.0.in_table, ap (λ (r : List ℕ). not (is_empty (cap_from r))) h.0 ∙ ap not a.0.filled), taken_rows E m t x.entry.row xs h.1 a.1)

count_formed : (E : Edition) (n : ℕ) (t : List ℕ) (xs : List Listed) → Written E n t xs → Distinct (rows_in xs)
    → All (λ k. (k < n) × (not (is_empty (cap_of t k)) ≡ true)) (rows_in xs) → length xs ≡ occupied t n
unfolding is_empty cap_of zero_row occupied
count_formed E n t xs w d a =
    sym
    (count_listed (rows_in xs) (λ k. not (is_empty (cap_of t k))) n d a (λ k h f. ap (λ (r : List ℕ). not (is_empty (cap_from r))) (w.others k h f))
    ∙ length-map xs (λ x. x.entry.row))

pub formed_write : (E : Edition) → Roomy E → (s : State) → Good E s → well_formed E (write E s) ≡ true
unfolding well_formed control_allowed lengths_fit table_allowed forest_allowed write all_true
formed_write E law s g =
    let n : ℕ = rows E s.m in
    let xs : List Listed = listing 0 s.forest in
    let t : List ℕ = rows_from E xs 0 n in
    let fits : Fits E n s.forest = good_fits E law s g in
    let w : Written E n t xs = fits_written E n s.forest fits in
    let fine : All (Fine E s.m) (map (λ x. x.entry) xs) = subst (All (Fine E s.m)) (sym (entries_listing s.forest 0)) g.sound.each in
    let taken = taken_rows E s.m t E.none xs w.holds fine in
    and_intro
    (and_intro
    (and_intro g.m_range (and_intro g.r_range (and_intro (and_intro (eq-eqb (length t) (8 * n) (length_rows_from E xs 0 n)) refl) refl)))
    (and_intro (at_rows E s.m t n (rows_formed E s.m t xs w fine))
    (and_intro (eq-eqb (length xs) (occupied t n) (count_formed E n t xs w (subst Distinct (sym (rows_listing s.forest 0)) g.sound.distinct) taken))
    (and_intro (chain_listed E s.m t E.none 0 xs w.holds (steps_listing s.forest) taken) refl))))
    (ap (λ (u : State). forest_allowed E u.forest) (read_write E s fits)
    ∙ and_intro g.sound.homes (and_intro g.sound.families (and_intro g.sound.pairs refl)))

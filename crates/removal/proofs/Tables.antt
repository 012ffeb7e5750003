-- From well-formed tables to the start of a walk along their list, and from its end to the tables without the marked rows.
use Prim.Native.Nat.{ℕ, zero, suc, ◌+◌, ◌-◌, ◌≤◌}
use mathlib.Core.Path.{◌≡◌, refl, sym, ap, ap₂, ◌∙◌}
use mathlib.Core.Bool.{Bool, true, not}
use mathlib.Core.List.{List, [], ◌∷◌}
use native.Mathlib.Omega.{arith}
use lib.ListN.{get_or, length, set, replicate, length-replicate, length-map}
use Rattle.model.specs.Edition.{edition32, most_rows}
use Rattle.model.specs.Lists.{member}
use Rattle.model.specs.Cap.{is_empty}
use Rattle.model.specs.Tree.{Forest, entries, edit, without}
use Rattle.model.specs.Tables.{Tables, Listed, rows, cap_of, read, write, listing, rows_from, first_of}
use Rattle.model.specs.Rules.{well_formed}
use Rattle.model.proofs.Members.{all_map}
use Rattle.model.proofs.Distinct.{count_most}
use Rattle.model.proofs.Words.Rows.{rows_in}
use Rattle.model.proofs.Words.Listing.{listing_grown}
use Rattle.model.proofs.Words.ReadWrite.{entries_listing}
use Rattle.model.proofs.Words.WellFormed.{Formed, formed, formed_distinct, formed_written, roomy32, list_in}
use Rattle.model.proofs.Words.Bounds.{rows_small}
use Rattle.removal.specs.Marking.{marked}
use Rattle.removal.specs.Removing.{Thins}
use Rattle.removal.proofs.Thinning.{thinned, thinned_listing}
use Rattle.removal.proofs.Walking.{Walked, walk_fit, walk_end}

-- the list without the marked rows, from the numbers of ancestors that are left at the start
abbrev pub whole : (mark : List Bool) (start : List ℕ) → Tables → List Listed
whole mark start t = thinned (marked mark) (λ j. get_or start j 0) (list_in edition32 t)

-- an array of a default has it at every place, also past its end
pub get_or_default : {A : Type 0} (n : ℕ) (d : A) (j : ℕ) → get_or (replicate n d) j d ≡ d
get_or_default zero d j = refl
get_or_default (suc n) d zero = refl
get_or_default (suc n) d (suc j) = get_or_default n d j

-- an array of zeros
pub record Zeros (n : ℕ) (xs : List ℕ) : Type 0 where
  pub long : length xs ≡ n
  pub zero_at : (j : ℕ) → get_or xs j 0 ≡ 0

pub zeros : (n : ℕ) → Zeros n (replicate n 0)
zeros n = record { long = length-replicate n 0; zero_at = get_or_default n 0 }

abbrev pub rows_of_tables : Tables → ℕ
rows_of_tables t = rows edition32 (get_or t.control 0 0)

pub entries_long : (g : Forest) → length (entries g) ≡ length (listing 0 g)
entries_long g = ap length (sym (entries_listing g 0)) ∙ length-map (listing 0 g) (λ x. x.entry)

module _ (t : Tables) (well : well_formed edition32 t ≡ true) where
  form : Formed edition32 t (list_in edition32 t)
  form = formed edition32 roomy32 t well

  pub list_read : listing 0 (read edition32 t).forest ≡ list_in edition32 t
  unfolding read
  list_read = listing_grown (list_in edition32 t) form.chained.steps

  pub walk_start : (mark : List Bool) (start : List ℕ) → Zeros (most_rows + 1) start → Walked edition32 (rows_of_tables t) (get_or t.control 3 0) (marked mark) (whole mark start t) t.table start (get_or t.control 2 0) 0 4294967295 4294967295 0
  unfolding first_of
  walk_start mark start z =
      record {
        zs = [];
        ys = list_in edition32 t;
        walk = record {
          room = form.room;
          written = formed_written edition32 t (list_in edition32 t) form;
          distinct = formed_distinct edition32 t (list_in edition32 t) form;
          below = all_map (rows_in (list_in edition32 t)) (λ k h. h.0) form.chained.taken;
          row_is = sym form.chained.first;
          turns = omega (arith, form.chained.long);
          last_is = refl;
          head_is = refl;
          kept_is = refl;
          most = 0;
          steps = form.chained.steps;
          few = omega (arith, form.counted, count_most (λ k. not (is_empty (cap_of t.table k))) (rows_of_tables t), rows_small);
          deep = omega arith;
          fit = omega arith;
          wide = z.long;
          shallow = λ j. omega (arith, z.zero_at j);
          rest = refl;
        };
      }

  module _ (mark : List Bool) (start low : List ℕ) (z : Zeros (most_rows + 1) start) (row turn last head kept : ℕ) (u : List ℕ)
      (w : Walked edition32 (rows_of_tables t) (get_or t.control 3 0) (marked mark) (whole mark start t) u low row turn last head kept) (done : get_or t.control 3 0 ≤ turn) where
    abbrev f : Forest
    f = (read edition32 t).forest

    ends : (u ≡ rows_from edition32 (whole mark start t) 0 (rows_of_tables t)) × (head ≡ first_of edition32 (whole mark start t)) × (kept ≡ length (whole mark start t))
    ends = walk_end w done

    whole_is : (dead : List ℕ) → ((k : ℕ) → marked mark k ≡ member k dead) → whole mark start t ≡ listing 0 (edit (without dead) f)
    whole_is dead same =
        ap₂ (λ (p : ℕ → Bool) (l : List Listed). thinned p (λ j. get_or start j 0) l) (λ i k. same k i) (sym list_read)
        ∙ thinned_listing dead f (λ j. get_or start j 0) (z.zero_at 0)

    four : (c : List ℕ) (a b : ℕ) → length c ≡ 4 → set (set c 2 a) 3 b ≡ get_or c 0 0 ∷ get_or c 1 0 ∷ a ∷ b ∷ []
    four [] a b e = absurd (omega arith)
    four (p ∷ []) a b e = absurd (omega arith)
    four (p ∷ q ∷ []) a b e = absurd (omega arith)
    four (p ∷ q ∷ r ∷ []) a b e = absurd (omega arith)
    four (p ∷ q ∷ r ∷ s ∷ []) a b e = refl
    four (p ∷ q ∷ r ∷ s ∷ x ∷ xs) a b e = absurd (omega arith)

    tables_are : (dead : List ℕ) → whole mark start t ≡ listing 0 (edit (without dead) f)
        → record { table = u; control = set (set t.control 2 head) 3 kept } ≡ write edition32 (record { m = (read edition32 t).m; r = (read edition32 t).r; forest = edit (without dead) f })
    tables_are dead e = unfold write read in
        λ i. record {
          table = (ends.0 ∙ ap (λ (l : List Listed). rows_from edition32 l 0 (rows_of_tables t)) e) i;
          control = (four t.control head kept form.control_long ∙ ap₂ (λ (a b : ℕ). get_or t.control 0 0 ∷ get_or t.control 1 0 ∷ a ∷ b ∷ []) (ends.1 ∙ ap (first_of edition32) e) (ends.2 ∙ ap length e)) i;
        }

    pub thins : Thins mark t (record { table = u; control = set (set t.control 2 head) 3 kept }) (get_or t.control 3 0 - kept)
    thins =
        record {
          tables = λ dead same. tables_are dead (whole_is dead same);
          count = λ dead same. omega (arith, entries_long f, entries_long (edit (without dead) f), ap length (whole_is dead same), ends.2, ap length list_read, form.chained.long, walk_fit w);
        }

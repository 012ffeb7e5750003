-- A walk along the list: what is passed is thinned, what is to come is as it was, and at each step the table is the one written for both.
use Prim.Native.Nat.{ℕ, suc, ◌+◌, ◌*◌, ◌≤◌, ◌<◌}
use mathlib.Core.Path.{◌≡◌, refl, sym, ap, ◌∙◌, subst}
use mathlib.Core.Bool.{Bool, true, false, cond}
use mathlib.Core.List.{List, [], ◌∷◌, ◌++◌, append-nil}
use native.Mathlib.Omega.{arith}
use lib.Dec.{eqb}
use lib.ListN.{get_or, length, set, length-set, length-append}
use lib.Seq.{get_or-set_same, get_or-set_other}
use borrow.Author.Tests.{eqb-true, eqb-false, ne_eqb}
use Rattle.model.specs.Edition.{Edition, most_rows}
use Rattle.model.specs.Stores.{unlinked}
use Rattle.model.specs.Tables.{Listed, word, first_of, rows_from}
use Rattle.model.proofs.Booleans.{either}
use Rattle.model.proofs.Members.{All}
use Rattle.model.proofs.Distinct.{Distinct}
use Rattle.model.proofs.Words.Rows.{rows_in, Written, written_is}
use Rattle.model.proofs.Words.Listing.{Steps}
use Rattle.model.proofs.Words.Edits.{rows_middle}
use Rattle.model.proofs.Words.Linking.{last_of, middle_below, next_is_lem, depth_is, unlink_written}
use Rattle.model.proofs.Words.Runs.{distinct_drop, all_drop, depth_written, snoc}
use Rattle.removal.proofs.Thinning.{at, thinned}

-- zs is passed and ys is to come; `all` is what the whole list comes to
pub record Walk (E : Edition) (n total : ℕ) (dead : ℕ → Bool) (all : List Listed) (t low : List ℕ) (row turn last head kept : ℕ) (zs ys : List Listed) : Type 0 where
  pub room : n ≤ E.none
  pub written : Written E n t (zs ++ ys)
  pub distinct : Distinct (rows_in (zs ++ ys))
  pub below : All (λ k. k < n) (rows_in (zs ++ ys))
  pub row_is : row ≡ first_of E ys
  pub turns : turn + length ys ≡ total
  pub last_is : last ≡ last_of E.none zs
  pub head_is : head ≡ first_of E zs
  pub kept_is : kept ≡ length zs
  pub most : ℕ
  pub steps : Steps most ys
  pub few : total ≤ most_rows
  pub deep : most ≤ turn
  pub fit : kept ≤ turn
  pub wide : length low ≡ most_rows + 1
  pub shallow : (j : ℕ) → get_or low j 0 ≤ kept
  pub rest : zs ++ thinned dead (λ j. get_or low j 0) ys ≡ all

-- wherever it is
pub record Walked (E : Edition) (n total : ℕ) (dead : ℕ → Bool) (all : List Listed) (t low : List ℕ) (row turn last head kept : ℕ) : Type 0 where
  pub zs : List Listed
  pub ys : List Listed
  pub walk : Walk E n total dead all t low row turn last head kept zs ys

-- ---- the depths

set_is : (low : List ℕ) (d v j : ℕ) → d < length low → get_or (set low d v) j 0 ≡ at (λ i. get_or low i 0) d v j
unfolding at
set_is low d v j l =
    either (eqb j d)
    (λ t. rw t (ap (λ i. get_or (set low d v) i 0) (eqb-true j d t) ∙ get_or-set_same low d v 0 l))
    (λ f. rw f (get_or-set_other low d j v 0 (eqb-false j d f)))

lows : (low : List ℕ) (d v : ℕ) → d < length low → (λ j. get_or (set low d v) j 0) ≡ at (λ j. get_or low j 0) d v
lows low d v l = λ i j. set_is low d v j l i

set_most : (low : List ℕ) (d v most : ℕ) → d < length low → v ≤ most → ((j : ℕ) → get_or low j 0 ≤ most) → (j : ℕ) → get_or (set low d v) j 0 ≤ most
set_most low d v most l h all j =
    either (eqb j d)
    (λ t. let e : get_or (set low d v) j 0 ≡ v = ap (λ i. get_or (set low d v) i 0) (eqb-true j d t) ∙ get_or-set_same low d v 0 l in omega arith)
    (λ f. let e : get_or (set low d v) j 0 ≡ get_or low j 0 = get_or-set_other low d j v 0 (eqb-false j d f) in omega (arith, all j))

-- ---- one more at the end

last_more : (before : ℕ) (zs : List Listed) (x : Listed) → last_of before (zs ++ (x ∷ [])) ≡ x.entry.row
last_more before [] x = refl
last_more before (z ∷ zs) x = last_more z.entry.row zs x

first_more : (E : Edition) (zs : List Listed) (x : Listed) → first_of E (zs ++ (x ∷ [])) ≡ cond (eqb (length zs) 0) x.entry.row (first_of E zs)
unfolding first_of
first_more E [] x = refl
first_more E (z ∷ zs) x = rw (ne_eqb (suc (length zs)) 0 (omega arith))

-- where a walk is, if it is not at its end
record Here (E : Edition) (n : ℕ) (t : List ℕ) (row : ℕ) (x : Listed) (ys : List Listed) : Type 0 where
  in_table : row < n
  is_row : x.entry.row ≡ row
  next : word t row 5 ≡ first_of E ys
  depth : word t row 7 ≡ x.depth
  small : word t row 7 < most_rows

-- how many ancestors of the row are left
abbrev level : (t low : List ℕ) (row : ℕ) → ℕ
level t low row = get_or low (word t row 7) 0

module _ {E : Edition} {n total : ℕ} {dead : ℕ → Bool} {all : List Listed} {t low : List ℕ} {row turn last head kept : ℕ} where
  here : (zs : List Listed) (x : Listed) (ys : List Listed) → Walk E n total dead all t low row turn last head kept zs (x ∷ ys) → Here E n t row x ys
  unfolding first_of
  here zs x ys w =
      let r : x.entry.row ≡ row = sym w.row_is in
      let d : word t x.entry.row 7 ≡ x.depth = depth_is E n w.room t zs x ys w.below w.distinct w.written in
      let d' : word t row 7 ≡ x.depth = subst (λ j. word t j 7 ≡ x.depth) r d in
      record {
        in_table = subst (λ j. j < n) r (middle_below n zs x ys w.below);
        is_row = r;
        next = subst (λ j. word t j 5 ≡ first_of E ys) r (next_is_lem E n w.room t zs x ys w.below w.distinct w.written);
        depth = d';
        small = omega (arith, w.steps.0, w.deep, w.few, w.turns, d');
      }

  -- before the last turn it is not
  before_end : (w : Walked E n total dead all t low row turn last head kept) → turn < total → (x : Listed) × (ys : List Listed) × Walk E n total dead all t low row turn last head kept w.zs (x ∷ ys)
  before_end w h = go w.ys w.walk
    where
      go : (ys : List Listed) → Walk E n total dead all t low row turn last head kept w.zs ys → (x : Listed) × (ys : List Listed) × Walk E n total dead all t low row turn last head kept w.zs (x ∷ ys)
      go [] v = absurd (omega (arith, v.turns))
      go (x ∷ ys) v = (x, ys, v)

  pub walk_row : Walked E n total dead all t low row turn last head kept → turn < total → row < n
  walk_row w h = let (x, ys, v) = before_end w h in (here w.zs x ys v).in_table

  pub walk_small : Walked E n total dead all t low row turn last head kept → turn < total → word t row 7 < most_rows
  walk_small w h = let (x, ys, v) = before_end w h in (here w.zs x ys v).small

  pub walk_long : Walked E n total dead all t low row turn last head kept → length t ≡ 8 * n
  walk_long w = w.walk.written.long

  pub walk_as : {t' low' : List ℕ} {row' last' head' kept' : ℕ} → t' ≡ t → low' ≡ low → row' ≡ row → last' ≡ last → head' ≡ head → kept' ≡ kept
      → Walked E n total dead all t low row turn last head kept → Walked E n total dead all t' low' row' turn last' head' kept'
  walk_as a b c d e f w = rw (a, b, c, d, e, f) w

  pub walk_fit : Walked E n total dead all t low row turn last head kept → kept ≤ total
  walk_fit w = omega (arith, w.walk.fit, w.walk.turns)

  module _ (zs : List Listed) (x : Listed) (ys : List Listed) (w : Walk E n total dead all t low row turn last head kept zs (x ∷ ys)) where
    p : Here E n t row x ys
    p = here zs x ys w

    drop_one : dead row ≡ true → Walk E n total dead all (unlinked t row last (word t row 5)) (set low (word t row 7 + 1) (get_or low (word t row 7) 0)) (word t row 5) (turn + 1) last head kept zs ys
    drop_one gone =
        record {
          room = w.room;
          written =
              subst (λ (u : List ℕ). Written E n u (zs ++ ys)) (λ i. unlinked t (p.is_row i) (sym w.last_is i) (sym p.next i))
              (unlink_written E n w.room t zs x ys w.below w.distinct w.written);
          distinct = distinct_drop zs x ys w.distinct;
          below = all_drop (λ k. k < n) zs x ys w.below;
          row_is = p.next;
          turns = omega (arith, w.turns);
          last_is = w.last_is;
          head_is = w.head_is;
          kept_is = w.kept_is;
          most = x.depth + 1;
          steps = w.steps.1;
          few = w.few;
          deep = omega (arith, w.steps.0, w.deep);
          fit = omega (arith, w.fit);
          wide = length-set low (word t row 7 + 1) (level t low row) ∙ w.wide;
          shallow = set_most low (word t row 7 + 1) (level t low row) kept (omega (arith, w.wide, p.small)) (w.shallow (word t row 7)) w.shallow;
          rest = ap (λ (l : List Listed). zs ++ l) thin ∙ w.rest;
        }
      where
        thin : thinned dead (λ j. get_or (set low (word t row 7 + 1) (level t low row)) j 0) ys ≡ thinned dead (λ j. get_or low j 0) (x ∷ ys)
        thin = unfold thinned in
            rw (ap dead p.is_row ∙ gone)
            (ap (λ (f : ℕ → ℕ). thinned dead f ys) (lows low (word t row 7 + 1) (level t low row) (omega (arith, w.wide, p.small)) ∙ ap (λ (d : ℕ). at (λ j. get_or low j 0) (d + 1) (get_or low d 0)) p.depth))

    abbrev y : Listed
    y = record { entry = x.entry; depth = level t low row }

    same_rows : rows_in (zs ++ x ∷ ys) ≡ rows_in ((zs ++ (y ∷ [])) ++ ys)
    same_rows = rows_middle zs x y ys refl ∙ ap rows_in (sym (snoc zs y ys))

    keep_one : dead row ≡ false → Walk E n total dead all (set t (row * 8 + 7) (get_or low (word t row 7) 0)) (set low (word t row 7 + 1) (get_or low (word t row 7) 0 + 1)) (word t row 5) (turn + 1) row (cond (eqb kept 0) row head) (kept + 1) (zs ++ (y ∷ [])) ys
    keep_one stays =
        record {
          room = w.room;
          written =
              subst (λ (l : List Listed). Written E n (set t (row * 8 + 7) (level t low row)) l) (sym (snoc zs y ys))
              (subst (λ (j : ℕ). Written E n (set t (j * 8 + 7) (level t low row)) (zs ++ y ∷ ys)) p.is_row
              (depth_written E n w.room t zs x ys (level t low row) w.below w.distinct w.written));
          distinct = subst Distinct same_rows w.distinct;
          below = subst (All (λ k. k < n)) same_rows w.below;
          row_is = p.next;
          turns = omega (arith, w.turns);
          last_is = sym (last_more E.none zs y ∙ p.is_row);
          head_is = sym (first_more E zs y ∙ (λ i. cond (eqb (sym w.kept_is i) 0) (p.is_row i) (sym w.head_is i)));
          kept_is = omega (arith, w.kept_is, length-append zs (y ∷ []));
          most = x.depth + 1;
          steps = w.steps.1;
          few = w.few;
          deep = omega (arith, w.steps.0, w.deep);
          fit = omega (arith, w.fit);
          wide = length-set low (word t row 7 + 1) (level t low row + 1) ∙ w.wide;
          shallow = set_most low (word t row 7 + 1) (level t low row + 1) (kept + 1) (omega (arith, w.wide, p.small)) (omega (arith, w.shallow (word t row 7))) (λ j. omega (arith, w.shallow j));
          rest = snoc zs y (thinned dead (λ j. get_or (set low (word t row 7 + 1) (level t low row + 1)) j 0) ys) ∙ ap (λ (l : List Listed). zs ++ l) thin ∙ w.rest;
        }
      where
        thin : record { entry = x.entry; depth = level t low row } ∷ thinned dead (λ j. get_or (set low (word t row 7 + 1) (level t low row + 1)) j 0) ys ≡ thinned dead (λ j. get_or low j 0) (x ∷ ys)
        thin = unfold thinned in
            rw (ap dead p.is_row ∙ stays)
            (λ i. record { entry = x.entry; depth = get_or low (p.depth i) 0 }
            ∷ (ap (λ (f : ℕ → ℕ). thinned dead f ys) (lows low (word t row 7 + 1) (level t low row + 1) (omega (arith, w.wide, p.small)) ∙ ap (λ (d : ℕ). at (λ j. get_or low j 0) (d + 1) (get_or low d 0 + 1)) p.depth)) i)

  pub walk_drop : Walked E n total dead all t low row turn last head kept → turn < total → dead row ≡ true → Walked E n total dead all (unlinked t row last (word t row 5)) (set low (word t row 7 + 1) (get_or low (word t row 7) 0)) (word t row 5) (turn + 1) last head kept
  walk_drop w h gone = let (x, ys, v) = before_end w h in record { zs = w.zs; ys = ys; walk = drop_one w.zs x ys v gone }

  pub walk_keep : Walked E n total dead all t low row turn last head kept → turn < total → dead row ≡ false → Walked E n total dead all (set t (row * 8 + 7) (get_or low (word t row 7) 0)) (set low (word t row 7 + 1) (get_or low (word t row 7) 0 + 1)) (word t row 5) (turn + 1) row (cond (eqb kept 0) row head) (kept + 1)
  walk_keep w h stays = let (x, ys, v) = before_end w h in record { zs = w.zs ++ (y w.zs x ys v ∷ []); ys = ys; walk = keep_one w.zs x ys v stays }

  -- at the end of the list
  pub walk_end : Walked E n total dead all t low row turn last head kept → total ≤ turn → (t ≡ rows_from E all 0 n) × (head ≡ first_of E all) × (kept ≡ length all)
  unfolding thinned
  walk_end walked h = go walked.zs walked.ys walked.walk
    where
      go : (zs ys : List Listed) → Walk E n total dead all t low row turn last head kept zs ys → (t ≡ rows_from E all 0 n) × (head ≡ first_of E all) × (kept ≡ length all)
      go zs (x ∷ ys) w = absurd (omega (arith, w.turns))
      go zs [] w =
          let e : zs ≡ all = sym (append-nil zs) ∙ w.rest in (
            written_is E n t (zs ++ []) w.written ∙ ap (λ (l : List Listed). rows_from E l 0 n) w.rest,
            w.head_is ∙ ap (first_of E) e,
            w.kept_is ∙ ap length e,
          )

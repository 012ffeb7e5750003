-- Tenants whose estates share no row do not disturb each other.
use Rattle.std.specs.Prelude.{ℕ, ◌≡◌, true, List, ◌++◌}
use Rattle.model.specs.Lists.{all, member, share_none}
use Rattle.model.specs.Edition.{Edition}
use Rattle.model.specs.Cap.{is_cnode}
use Rattle.model.specs.Tables.{Tables, cap_of}
use Rattle.model.specs.Rules.{well_formed}
use Rattle.model.specs.Tenants.{Merge, Sent, by, estate_in, in_turn, sends, tables_after, told_on}

-- zs is a merge of the messages xs of a and ys of b. Each request has the answer that it has when a's requests all run before b's, and the
-- table and the control words end the same, word for word.
pub record Undisturbed (E : Edition) (t : Tables) (a b : ℕ) (xs ys : List (List ℕ)) (zs : List (Sent (List ℕ))) : Type 0 where
  pub told_first : told_on E a t zs ≡ told_on E a t (sends a xs ++ sends b ys)
  pub told_second : told_on E b t zs ≡ told_on E b t (sends a xs ++ sends b ys)
  pub tables : tables_after E t zs ≡ tables_after E t (sends a xs ++ sends b ys)

-- For all well-formed tables, all rows a and b that hold CNode capabilities and whose estates share no row, all lists of messages of a and of
-- b, and every merge of the two.
abbrev pub Separation : Edition → Type 0
Separation E =
    (t : Tables) → well_formed E t ≡ true
    → (a b : ℕ) → is_cnode (cap_of t.table a) ≡ true → is_cnode (cap_of t.table b) ≡ true → share_none (estate_in E t a) (estate_in E t b) ≡ true
    → (xs ys : List (List ℕ)) (zs : List (Sent (List ℕ))) → Merge (sends a xs) (sends b ys) zs
    → Undisturbed E t a b xs ys zs

-- ---- any number of tenants

-- Each tenant has the answers that it has when the others send nothing, and so has each row of its estate the capability; and the words end
-- as in any order of one tenant after the other.
pub record AllUndisturbed (E : Edition) (t : Tables) (roots : List ℕ) (zs : List (Sent (List ℕ))) : Type 0 where
  pub told : (a : ℕ) → member a roots ≡ true → told_on E a t zs ≡ told_on E a t (by a zs)
  pub held : (a : ℕ) → member a roots ≡ true → (k : ℕ) → member k (estate_in E t a) ≡ true → cap_of (tables_after E t zs).table k ≡ cap_of (tables_after E t (by a zs)).table k
  pub tables : (order : List ℕ) → tables_after E t zs ≡ tables_after E t (in_turn order zs)

-- For all well-formed tables, all lists of rows that hold CNode capabilities and whose estates share no row, and all requests of theirs.
abbrev pub SeparationOfAll : Edition → Type 0
SeparationOfAll E =
    (t : Tables) → well_formed E t ≡ true
    → (roots : List ℕ) → all (λ a. is_cnode (cap_of t.table a)) roots ≡ true
    → ((a b : ℕ) → member a roots ≡ true → member b roots ≡ true → (a ≡ b → ⊥) → share_none (estate_in E t a) (estate_in E t b) ≡ true)
    → (zs : List (Sent (List ℕ))) → all (λ z. member z.caller roots) zs ≡ true
    → AllUndisturbed E t roots zs

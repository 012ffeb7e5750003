-- What well-formed tables say of their CNodes, and that a set of rows is closed by the table's capabilities just if it is by the tree's entries.
use Prim.Native.Nat.{ℕ, ◌+◌, ◌/◌, ◌≤◌}
use mathlib.Core.Path.{◌≡◌, sym, ◌∙◌, subst, ap}
use mathlib.Core.Bool.{Bool, true, false}
use native.Mathlib.Omega.{arith}
use lib.Dec.{leb}
use lib.ListN.{get_or}
use borrow.Author.Tests.{leb-true, leb-false}
use Rattle.model.specs.declared.Cap.{Cap}
use Rattle.model.specs.Edition.{edition32}
use Rattle.model.specs.Cap.{is_empty, is_untyped, is_cnode, first_row, slots, limit, same_object}
use Rattle.model.specs.Tree.{Forest, entries, cap_at}
use Rattle.model.specs.Tables.{Tables, rows, cap_of, read}
use Rattle.model.specs.Rules.{well_formed}
use Rattle.model.proofs.Booleans.{either}
use Rattle.model.proofs.State.{Sound}
use Rattle.model.proofs.Words.WellFormed.{roomy32, good_read}
use Rattle.model.proofs.Words.Caps.{caps_read}
use Rattle.model.proofs.Kept.Figures.{sane32, bytes_cnode}
use Rattle.model.proofs.Kept.Memory.{Over, apart_over, typed_apart}
use Rattle.model.proofs.Kept.Objects.{same_empty, same_parts}
use Rattle.model.proofs.Kept.Removal.{Swept}
use Rattle.model.proofs.Kept.Rules.{fine, known, entry_at, allowed_at}
use Rattle.model.proofs.Kept.Allowed.{cnode_filled, cnode_typed, some_slot, slots_bound, houses_parts}
use Rattle.model.proofs.Words.Bounds.{rows_small, table_long_lem}
use Rattle.removal.specs.Marking.{Nodes, ClosedRows, row_count}
use Rattle.removal.proofs.Tables.{rows_of_tables}
use Rattle.removal.proofs.AtHand.{tested}

-- the bytes that two CNodes with the same first row have in common
limit_cnode : (c : Cap) → is_cnode c ≡ true → c.address.0 + 16 ≤ limit edition32 c
unfolding limit
limit_cnode c t = omega (arith, bytes_cnode sane32 c t, some_slot c)

meets : (c d : Cap) → is_cnode c ≡ true → is_cnode d ≡ true → first_row edition32 c ≡ first_row edition32 d → (p : ℕ) × Over edition32 p c × Over edition32 p d
unfolding first_row
meets c d t u e =
    let lc = limit_cnode c t in
    let ld = limit_cnode d u in
    let q : c.address.0 / 16 ≡ d.address.0 / 16 = e in
    either (leb c.address.0 d.address.0)
    (λ h. let l = leb-true c.address.0 d.address.0 h in (d.address.0, record { low = l; high = omega arith }, record { low = omega arith; high = omega arith }))
    (λ h. let l = leb-false c.address.0 d.address.0 h in (c.address.0, record { low = omega arith; high = omega arith }, record { low = omega arith; high = omega arith }))

module _ {m : ℕ} {f : Forest} (s : Sound edition32 m f) where
  inside : (k : ℕ) → is_cnode (cap_at f k) ≡ true → first_row edition32 (cap_at f k) + slots (cap_at f k) ≤ rows edition32 m
  inside k t = slots_bound sane32 m (cap_at f k) (allowed_at s k (cnode_filled (cap_at f k) t)) t

  alike : (j k : ℕ) → is_cnode (cap_at f j) ≡ true → is_cnode (cap_at f k) ≡ true → first_row edition32 (cap_at f j) ≡ first_row edition32 (cap_at f k) → same_object (cap_at f j) (cap_at f k) ≡ true
  alike j k t u e =
      let (d, md, rd, qd) = entry_at s j (cnode_filled (cap_at f j) t) in
      let (g, mg, rg, qg) = entry_at s k (cnode_filled (cap_at f k) u) in
      let (p, o, q) = meets (cap_at f j) (cap_at f k) t u e in
      let td : is_untyped d.cap ≡ false = rw (← qd) (cnode_typed (cap_at f j) t) in
      let tg : is_untyped g.cap ≡ false = rw (← qg) (cnode_typed (cap_at f k) u) in
      rw (qd, qg) (apart_over edition32 p d.cap g.cap (typed_apart s md mg td tg) (rw (← qd) o) (rw (← qg) q)).0

  -- a set closed by the rows is closed by the entries
  pub closed_swept : (S : ℕ → Bool) → ClosedRows (rows edition32 m) (cap_at f) S → Swept edition32 (entries f) (λ k. S k ≡ true)
  closed_swept S closed n e mn me h names =
      closed n.row e.row (fine s mn).in_table (fine s me).in_table (rw (known s mn) (houses_parts edition32 n.cap e.row h).cnode) (rw (known s mn) h) (rw (known s me) (fine s me).filled)
      (λ j b same.
      let same' : same_object n.cap (cap_at f j) ≡ true = rw (known s mn) at same in
      let there : is_empty (cap_at f j) ≡ false = sym (same_empty (same_parts n.cap (cap_at f j) same')) ∙ cnode_filled n.cap (houses_parts edition32 n.cap e.row h).cnode in
      let (d, md, rd, qd) = entry_at s j there in
      subst (λ i. S i ≡ true) rd (names d md (rw (← qd) same')))

  pub swept_closed : (S : ℕ → Bool) → Swept edition32 (entries f) (λ k. S k ≡ true) → ClosedRows (rows edition32 m) (cap_at f) S
  swept_closed S swept c k bc bk node h o names =
      let (n, mn, rn, qn) = entry_at s c (cnode_filled (cap_at f c) node) in
      let (e, me, re, qe) = entry_at s k o in
      subst (λ i. S i ≡ true) re
      (swept n e mn me (rw (← qn, re) h) (λ d md same.
      names d.row (fine s md).in_table (rw (qn, known s md) same)))

module _ (t : Tables) (well : well_formed edition32 t ≡ true) where
  pub sound : Sound edition32 (get_or t.control 0 0) (read edition32 t).forest
  sound = unfold read in (good_read edition32 roomy32 t well).sound

  pub row_count_lem : row_count t.table ≡ rows_of_tables t
  row_count_lem = omega (arith, table_long_lem t well)

  pub caps : cap_of t.table ≡ cap_at (read edition32 t).forest
  caps = caps_read edition32 roomy32 t well

  pub nodes : Nodes (row_count t.table) (cap_of t.table)
  nodes =
      rw (row_count_lem, caps)
      (record {
        few = rows_small t well;
        inside = λ k b c. inside sound k c;
        alike = λ j k bj bk tj tk e. alike sound j k tj tk e;
      })

  -- what a test of a row's capability finds holds of it in the tree
  pub found_at : (k : ℕ) {cap : Cap} → cap ≡ cap_of t.table k → {found b : Bool} → found ≡ is_empty cap → found ≡ b → is_empty (cap_at (read edition32 t).forest k) ≡ b
  found_at k known is finds = ap (λ g. is_empty (g k)) (sym caps) ∙ tested t.table k _ known is_empty is finds

-- An allowed capability names whole cells, and so does all of memory; a CNode of cells as large as slots houses the rows of its cells.
use Prim.Native.Nat.{ℕ, ◌-◌, ◌*◌, ◌/◌, ◌%◌, ◌^◌, ◌≤◌, ◌<◌}
use mathlib.Core.Path.{◌≡◌, refl, sym, ap, ◌∙◌}
use mathlib.Core.Bool.{true, false}
use native.Mathlib.Nat.{mod_self, zero-mod}
use native.Mathlib.Omega.{arith}
use lib.Dec.{eqb}
use lib.Pow.{pow_pos, shl-shr}
use borrow.Author.Tests.{eqb-true, eqb-false, leb-true}
use Rattle.model.specs.declared.Cap.{Cap}
use Rattle.model.specs.Edition.{Edition}
use Rattle.model.specs.Cap.{is_empty, is_untyped, is_cnode, bytes, exponent, first_row, slots, houses}
use Rattle.model.specs.Tables.{rows}
use Rattle.model.specs.Rules.{cap_allowed}
use Rattle.model.proofs.Booleans.{either, part}
use Rattle.model.proofs.Kept.Figures.{Sane, bytes_cnode, bytes_untyped}
use Rattle.model.proofs.Kept.Powers.{split, exact}
use Rattle.model.proofs.Kept.Objects.{Mark}
use Rattle.model.proofs.Kept.Allowed.{aligned_of, mark_of, untyped_size, houses_parts, parts_houses}
use Rattle.rules.specs.Owners.{first_cell, cells, memory}
use Rattle.rules.proofs.Cells.{Covers, Celled}

-- bytes of a power of two that is a cell or more
celled_power : (E : Edition) (c : Cap) (e : ℕ) → 4 ≤ e → bytes E c ≡ 2 ^ e → c.address.0 % 2 ^ e ≡ 0 → Mark E c → Celled E c
unfolding first_cell cells
celled_power E c e h b a w =
    let whole : 2 ^ e / 2 ^ 4 * 2 ^ 4 ≡ 2 ^ e = exact e 4 (2 ^ e) h (mod_self (2 ^ e)) in
    let some : 0 < 2 ^ e = pow_pos e in
    record {
      starts = sym (exact e 4 c.address.0 h a);
      wide = rw b (sym whole);
      some = rw b (omega (arith, whole, some));
      mark = w;
    }

module _ {E : Edition} (sane : Sane E) where
  grained : (m : ℕ) (c : Cap) → cap_allowed E m c ≡ true → is_empty c ≡ false → 4 ≤ exponent E (c.kind - 1) c.size
  unfolding is_empty cap_allowed exponent is_untyped
  grained m c h n =
      let some : c.kind ≡ 0 → ⊥ = eqb-false c.kind 0 n in
      let most : c.kind ≤ 6 = leb-true c.kind 6 (part _ 0 h) in
      either (eqb c.kind 1)
      (λ t. let k = eqb-true c.kind 1 t in
      let s = untyped_size E m c h t in
      rw k (omega (arith, sane.of_untyped, sane.least, s.0)))
      (λ f. let k : c.kind ≡ 1 → ⊥ = eqb-false c.kind 1 f in
      omega (arith, sane.grain (c.kind - 1) (omega arith) (λ e. absurd (omega arith))))

  pub celled_of : (m : ℕ) (c : Cap) → cap_allowed E m c ≡ true → is_empty c ≡ false → Celled E c
  unfolding bytes
  celled_of m c h n = celled_power E c (exponent E (c.kind - 1) c.size) (grained m c h n) refl (aligned_of E m c h) (mark_of E m c h)

  pub celled_memory : (m : ℕ) → 4 ≤ m → Celled E (memory m)
  unfolding memory is_untyped
  celled_memory m h =
      let b : bytes E (memory m) ≡ 2 ^ m = bytes_untyped sane (memory m) refl in
      celled_power E (memory m) m h b (zero-mod (2 ^ m)) (λ t. rw b (omega arith))

  -- a row of a table is the cell of its number
  module _ (sixteen : E.slot ≡ 4) where
    memory_first : (m : ℕ) → first_cell (memory m) ≡ 0
    unfolding memory first_cell
    memory_first m = refl

    memory_cells : (m : ℕ) → 4 ≤ m → cells E (memory m) ≡ rows E m
    unfolding memory is_untyped cells rows
    memory_cells m h = rw (bytes_untyped sane (memory m) refl, sixteen) (ap (λ (x : ℕ). x / 16) (split m 4 h) ∙ shl-shr (2 ^ (m - 4)) 4)

    pub memory_covers : (m k : ℕ) → 4 ≤ m → Covers E (memory m) k → k < rows E m
    memory_covers m k h v = omega (arith, v.high, memory_first m, memory_cells m h)

    module _ (c : Cap) (node : is_cnode c ≡ true) where
      as_slots : cells E c ≡ slots c
      unfolding cells
      as_slots = rw (bytes_cnode sane c node, sixteen) (shl-shr (slots c) 4)

      first_as_row : first_row E c ≡ first_cell c
      unfolding first_row first_cell
      first_as_row = rw sixteen

      pub houses_covers : (k : ℕ) → houses E c k ≡ true → Covers E c k
      houses_covers k h =
          let p = houses_parts E c k h in
          record { low = omega (arith, p.low, first_as_row); high = omega (arith, p.high, first_as_row, as_slots) }

      pub covers_houses : (k : ℕ) → Covers E c k → houses E c k ≡ true
      covers_houses k v =
          parts_houses E c k (record { cnode = node; low = omega (arith, v.low, first_as_row); high = omega (arith, v.high, first_as_row, as_slots) })

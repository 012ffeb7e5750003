-- The words that Boot stores are those of the table that it writes: row 0, an untyped's row, and an empty row.
-- Assumes nothing.
use Rattle.std.specs.Prelude.{◌≡◌, ℕ, zero, suc, ◌+◌, ◌-◌, ◌*◌, ◌%◌, ◌^◌, ◌<◌, ◌≤◌, cond, eqb, [], ◌∷◌, length}
use mathlib.Core.Path.{refl, sym, ap, ap₂, ◌∙◌, subst}
use native.Mathlib.Nat.{one-mul}
use native.Mathlib.Omega.{arith}
use lib.Dec.{lit<}
use lib.Pow.{shl_exact}
use borrow.Author.Tests.{eq-eqb, ne_eqb}
use Rattle.model.specs.Edition.{edition32}
use Rattle.model.specs.Tables.{rows, zero_row, listing, write}
use Rattle.model.specs.Request.{booted}
use Rattle.model.proofs.Words.Rows.{row_at, length_rows_from}
use Rattle.model.proofs.Words.Booted.{row_booted, row_unbooted}
use Rattle.model.proofs.Words.Bounds.{m_most, radix_room}
use Rattle.zhvanirek_core.specs.Booting.{Range, boot_table}

-- 2^e in a word of 32 bits
shifted : (e : ℕ) → e < 32 → (1 * 2 ^ e) % 4294967296 ≡ 2 ^ e
shifted e h = shl_exact {a = 1} 1 e 32 (lit< tt) (omega arith) ∙ one-mul (2 ^ e)

module _ (m r : ℕ) (range : Range m r) where
  room : r + 5 ≤ m
  room = radix_room m range.m_in r range.r_in

  row_zero : 0 < rows edition32 m → 5 ∷ 0 ∷ r ∷ 0 ∷ (32 - r) ∷ 1 ∷ 4294967295 ∷ 0 ∷ [] ≡ row_at (boot_table m r) 0
  unfolding boot_table
  row_zero inside =
      sym
      (row_booted edition32 m r 0 inside (omega arith)
      ∙ ap (λ b. 5 ∷ 0 ∷ r ∷ 0 ∷ (32 - r) ∷ cond b 4294967295 1 ∷ 4294967295 ∷ 0 ∷ []) (ne_eqb 0 (m - (r + 4)) (λ e. omega (arith, room))))

  row_untyped : (i next : ℕ) → suc i < rows edition32 m → suc i ≤ m - r - 4 → next ≡ cond (eqb (suc i) (m - (r + 4))) 4294967295 (suc (suc i))
      → 1 ∷ (1 * 2 ^ (r + 3 + suc i)) % 4294967296 ∷ (r + 3 + suc i) ∷ 0 ∷ 0 ∷ next ∷ (suc i - 1) ∷ 0 ∷ [] ≡ row_at (boot_table m r) (suc i)
  unfolding boot_table
  row_untyped i next inside low after =
      let size : r + 3 + suc i ≡ r + 4 + i = omega arith in
      let before : suc i - 1 ≡ i = omega arith in
      ap (λ w. 1 ∷ w ∷ (r + 3 + suc i) ∷ 0 ∷ 0 ∷ next ∷ (suc i - 1) ∷ 0 ∷ []) (shifted (r + 3 + suc i) (omega (arith, room, m_most m range.m_in)))
      ∙ ap₂ (λ n w. 1 ∷ 2 ^ n ∷ n ∷ 0 ∷ 0 ∷ next ∷ w ∷ 0 ∷ []) size before
      ∙ ap (λ w. 1 ∷ 2 ^ (r + 4 + i) ∷ (r + 4 + i) ∷ 0 ∷ 0 ∷ w ∷ i ∷ 0 ∷ []) after
      ∙ sym (row_booted edition32 m r (suc i) inside (omega arith))

  module _ (k : ℕ) (inside : k < rows edition32 m) where
    pub first_row_lem : k ≡ 0 → 5 ∷ 0 ∷ r ∷ 0 ∷ (32 - r) ∷ 1 ∷ 4294967295 ∷ 0 ∷ [] ≡ row_at (boot_table m r) k
    first_row_lem e = subst (λ j. 5 ∷ 0 ∷ r ∷ 0 ∷ (32 - r) ∷ 1 ∷ 4294967295 ∷ 0 ∷ [] ≡ row_at (boot_table m r) j) (sym e) (row_zero (omega arith))

    pub empty_row : m - r - 4 < k → 0 ∷ 0 ∷ 0 ∷ 0 ∷ 0 ∷ 0 ∷ 0 ∷ 0 ∷ [] ≡ row_at (boot_table m r) k
    unfolding boot_table zero_row
    empty_row past = sym (row_unbooted edition32 m r k inside (omega arith))

    pub untyped_row : (next : ℕ) → (k ≡ 0 → ⊥) → k ≤ m - r - 4 → next ≡ cond (eqb k (m - (r + 4))) 4294967295 (k + 1)
        → 1 ∷ (1 * 2 ^ (r + 3 + k)) % 4294967296 ∷ (r + 3 + k) ∷ 0 ∷ 0 ∷ next ∷ (k - 1) ∷ 0 ∷ [] ≡ row_at (boot_table m r) k
    untyped_row next some low after = go k inside some low after
      where
        go : (j : ℕ) → j < rows edition32 m → (j ≡ 0 → ⊥) → j ≤ m - r - 4 → next ≡ cond (eqb j (m - (r + 4))) 4294967295 (j + 1)
            → 1 ∷ (1 * 2 ^ (r + 3 + j)) % 4294967296 ∷ (r + 3 + j) ∷ 0 ∷ 0 ∷ next ∷ (j - 1) ∷ 0 ∷ [] ≡ row_at (boot_table m r) j
        go zero h n l a = absurd (n refl)
        go (suc i) h n l a = row_untyped i next h l (a ∙ ap (cond (eqb (suc i) (m - (r + 4))) 4294967295) (omega arith))

pub length_boot : (m r : ℕ) → length (boot_table m r) ≡ 8 * rows edition32 m
unfolding boot_table write booted
length_boot m r = length_rows_from edition32 (listing 0 (booted edition32 m r).forest) 0 (rows edition32 m)

-- the row after the last untyped is none
pub next_none : (m r k next : ℕ) → k ≡ m - r - 4 → next ≡ 4294967295 → next ≡ cond (eqb k (m - (r + 4))) 4294967295 (k + 1)
next_none m r k next e n = n ∙ rw (eq-eqb k (m - (r + 4)) (omega arith))

pub next_row_lem : (m r k next : ℕ) → (k ≡ m - r - 4 → ⊥) → next ≡ k + 1 → next ≡ cond (eqb k (m - (r + 4))) 4294967295 (k + 1)
next_row_lem m r k next e n = n ∙ rw (ne_eqb k (m - (r + 4)) (λ q. e (omega arith)))

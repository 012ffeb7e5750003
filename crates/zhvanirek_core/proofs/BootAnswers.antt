-- What Boot leaves: the table that it has room for, and the words of a fresh host.
-- Assumes nothing.
use Rattle.std.specs.Prelude.{◌≡◌, ℕ, ◌-◌, ◌*◌, true, eqb, List, [], ◌∷◌, length, Ok}
use mathlib.Core.Path.{sym, ap, ◌∙◌}
use native.Mathlib.Omega.{arith}
use borrow.Author.Tests.{eqb-true}
use Rattle.model.specs.Edition.{edition32}
use Rattle.model.specs.Check.{refuse, ◌>>◌}
use Rattle.model.specs.Tables.{Tables, rows, write}
use Rattle.model.specs.Rules.{m_in_range, r_in_range, lengths_fit}
use Rattle.model.specs.Request.{concluded, booted, boot}
use Rattle.model.proofs.Booleans.{and_left}
use Rattle.model.proofs.Words.Booted.{control_booted}
use Rattle.model.proofs.Words.Bounds.{radix_room}
use Rattle.zhvanirek_core.specs.Booting.{boot_table}

pub table_long : (m : ℕ) (t : Tables) → lengths_fit edition32 m t ≡ true → length t.table ≡ 8 * rows edition32 m
unfolding lengths_fit
table_long m t fit = eqb-true _ _ (and_left (eqb (length t.table) (8 * rows edition32 m)) (eqb (length t.control) 4) fit)

pub fresh_host : (t : Tables) (m r : ℕ) → m_in_range edition32 m ≡ true → r_in_range edition32 m r ≡ true → lengths_fit edition32 m t ≡ true
    → record { answer = Ok 0; tables = record { table = boot_table m r; control = m ∷ r ∷ 0 ∷ (m - r - 3) ∷ [] } } ≡ boot edition32 t m r
unfolding boot refuse ◌>>◌ concluded boot_table
fresh_host t m r ranged radix_ranged fit =
    rw (ranged, radix_ranged, fit)
    (ap (λ (ws : List ℕ). record { answer = Ok 0; tables = record { table = (write edition32 (booted edition32 m r)).table; control = ws } }) control)
  where
    control : m ∷ r ∷ 0 ∷ (m - r - 3) ∷ [] ≡ (write edition32 (booted edition32 m r)).control
    control = ap (λ (n : ℕ). m ∷ r ∷ 0 ∷ n ∷ []) (omega (arith, radix_room m ranged r radix_ranged)) ∙ sym (control_booted edition32 m r)

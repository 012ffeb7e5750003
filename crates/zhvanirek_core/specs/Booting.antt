-- What Boot's parts are asked and give.
use Rattle.std.specs.Prelude.{◌≡◌, ℕ, true, List}
use Rattle.model.specs.Edition.{edition32}
use Rattle.model.specs.Tables.{write}
use Rattle.model.specs.Rules.{m_in_range, r_in_range}
use Rattle.model.specs.Request.{booted}

-- m and r that Boot takes
pub record Range (m r : ℕ) : Type 0 where
  pub m_in : m_in_range edition32 m ≡ true
  pub r_in : r_in_range edition32 m r ≡ true

-- the table of a fresh host
unfoldable pub boot_table : (m r : ℕ) → List ℕ
boot_table m r = (write edition32 (booted edition32 m r)).table

-- What lookup asks of a table and of the CNode at which it starts. Well-formed tables have it.
use Rattle.std.specs.Prelude.{ℕ, ◌+◌, ◌-◌, ◌*◌, ◌^◌, ◌≤◌, ◌≡◌, true, List, length}
use Rattle.model.specs.Edition.{edition32}
use Rattle.model.specs.declared.Cap.{Cap}
use Rattle.model.specs.Cap.{is_cnode, first_row, slots}
use Rattle.model.specs.Tables.{cap_of}

-- a CNode's guard and radix together are no more than a word, its radix is 1 or more, and its slots lie in the table
pub record Usable (t : List ℕ) (c : Cap) : Type 0 where
  pub short : c.fourth + c.size ≤ 32
  pub wide : 1 ≤ c.size
  pub inside : (first_row edition32 c + slots c) * 8 ≤ length t

-- a table is no longer than the largest, and each CNode in it is usable
pub record Ready (t : List ℕ) : Type 0 where
  pub small : length t ≤ 8 * 2 ^ (edition32.greatest_m - edition32.slot)
  pub nodes : (k : ℕ) → is_cnode (cap_of t k) ≡ true → Usable t (cap_of t k)

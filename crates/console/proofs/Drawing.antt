-- The drawn tree, row by row.
use Rattle.std.specs.Prelude.{◌≡◌, ℕ, suc, ◌+◌, ◌-◌, ◌<◌, List, ◌++◌}
use mathlib.Core.List.{append_assoc}
use native.Mathlib.Omega.{arith}
use Rattle.console.specs.Drawn.{next_row, drawn_row, drawn_rows}

-- one row more of the list, of which i are drawn
pub next_drawn : (t whole before : List ℕ) (count i k n : ℕ) → n ≡ next_row t k → i < count → before ++ drawn_rows t (count - i) k ≡ whole → (before ++ drawn_row t k) ++ drawn_rows t (count - (i + 1)) n ≡ whole
next_drawn t whole before count i k n e h p =
    let one : count - i ≡ suc (count - (i + 1)) = omega arith in
    rw (e, append_assoc) (rw one at p)

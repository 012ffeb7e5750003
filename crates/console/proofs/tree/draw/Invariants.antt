-- Each turn draws the next row of the list: what is drawn, and what is still to be drawn.
use Rattle.std.specs.Prelude.{◌≡◌, ℕ, ◌-◌, List, ◌++◌}
use Rattle.console.specs.Writing.{Writes}
use Rattle.console.specs.Drawn.{drawn_rows}
use Rattle.console.proofs.tree.draw.Given as goal

abbrev pub invariant-loop : goal.invariant-loop
invariant-loop g l = (before : List ℕ) × Writes l.initial.pen before l.pen × (before ++ drawn_rows l.table (l.count - l.counter) l.row ≡ drawn_rows l.table l.count l.head)

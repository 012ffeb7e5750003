-- A place that can be looked up in the tables, and what they are after an operation.
use Rattle.std.specs.Prelude.{◌≡◌, true, List, ℕ, ◌+◌, ◌*◌, ◌≤◌, length}
use Rattle.model.specs.declared.Place.{Place}
use Rattle.model.specs.Edition.{Edition}
use Rattle.model.specs.Cap.{is_cnode}
use Rattle.model.specs.Tables.{Tables, read, write}
use Rattle.model.specs.Operations.{Done}
use Rattle.model.specs.Request.{applied}
use Rattle.lookup.specs.Ready.{Usable}

-- row k lies in the table
abbrev pub InTable : List ℕ → ℕ → Type 0
InTable t k = k * 8 + 8 ≤ length t

-- a place whose root, where it is a CNode, is one of the table's
abbrev pub Reached : List ℕ → Place → Type 0
Reached t p = is_cnode p.root ≡ true → Usable t p.root

-- the tables after what was done
abbrev pub after : Edition → Tables → Done → Tables
after E t d = write E (applied (read E t) d).state

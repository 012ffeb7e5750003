-- The columns of the table: the places of a row's words.
use Rattle.std.specs.Prelude.{ℕ}
use Rattle.table.specs.declared.Column.{Column}
use Rattle.table.specs.declared.Column.TheVariants.{Kind, Address, Size, Third, Fourth, Next, Last, Depth}

abbrev pub at : Column → ℕ
at Kind = 0
at Address = 1
at Size = 2
at Third = 3
at Fourth = 4
at Next = 5
at Last = 6
at Depth = 7

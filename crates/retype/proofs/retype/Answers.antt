-- `retype::retype` meets its contract: a refusal of the tests stores nothing, and otherwise the memory is allotted.
-- Assumes nothing.
use Rattle.std.proofs.Common.{rules}
use Rattle.retype.proofs.Served.{first_vacant, retype_refused, retype_allotted}
use Rattle.retype.proofs.retype.Goals as goal

pub allot-requires : goal.allot-requires
allot-requires c = first_vacant _ _ _ c.requires _ c.in_ok-first.ensures

pub returns-in_err-first : goal.returns-in_err-first
returns-in_err-first c = search (rules, retype_refused _ _ _ c.requires _ c.in_err-first.ensures)

pub returns : goal.returns
returns c = retype_allotted _ _ _ c.requires _ c.in_ok-first.ensures _ c.allot.ensures

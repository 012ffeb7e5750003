-- `retype::allot` meets its contract: a refusal stores nothing, and the stores of `lay_out` carry the request out.
-- Assumes nothing.
use Rattle.std.proofs.Common.{rules}
use Rattle.retype.proofs.Allotment.{bounded, layable, allot_refused, allot_done}
use Rattle.retype.proofs.allot.Goals as goal

pub memory_for-requires : goal.memory_for-requires
memory_for-requires c = bounded _ _ _ _ c.requires _ _ c.cap_at-u.ensures c.start-from.ensures

pub lay_out-requires : goal.lay_out-requires
lay_out-requires c =
    layable _ _ _ _ c.requires _ _ c.cap_at-u.ensures c.start-from.ensures _ c.in_ok-at.ensures

pub returns-in_err-at : goal.returns-in_err-at
returns-in_err-at c =
    search (rules, allot_refused _ _ _ _ c.requires _ _ c.cap_at-u.ensures c.start-from.ensures _ c.in_err-at.ensures)

pub returns : goal.returns
returns c =
    allot_done _ _ _ _ c.requires _ _ c.cap_at-u.ensures c.start-from.ensures _ c.in_ok-at.ensures _ c.lay_out.ensures

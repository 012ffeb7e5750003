-- `retype::laying::link_new` meets its contract. The loop's invariant: what is left of the run, put after the row that was linked last, is the whole
-- run. Assumes nothing.
use Prim.Native.Nat.{◌-◌}
use Rattle.model.specs.Stores.{linked_run}
use Rattle.retype.specs.Laid.{new_rows}
use Rattle.retype.proofs.Run.{Laying}
use Rattle.retype.proofs.laying.link_new.Given as goal

abbrev pub invariant-loop-k : goal.invariant-loop-k
invariant-loop-k l =
    Laying l.next l.depth l.q (linked_run l.fn.t l.fn.after.0 l.next (new_rows l.q l.depth l.fn.first.0 l.fn.address.0 l.q.window)) l.t l.last l.k l.at (l.k-end - l.k)

-- `removal::delete` meets its contract: nothing goes from an empty row, a row that nothing follows goes alone, and from any other the marks
-- spread. Assumes nothing.
use mathlib.Core.Path.{sym, ◌∙◌}
use Rattle.removal.specs.Removing.{occupied}
use Rattle.removal.proofs.Nodes.{nodes, found_at}
use Rattle.removal.proofs.Removed.{removes_target}
use Rattle.removal.proofs.Cutting.{removes_none, removes_one}
use Rattle.removal.proofs.delete.Goals as goal

pub returns-then-is : goal.returns-then-is
returns-then-is c = removes_none _ c.requires.formed _ (found_at _ c.requires.formed _ c.cap_at.ensures c.is.ensures c.if-is.true)

pub goes_alone-requires-clause-few : goal.goes_alone-requires-clause-few
goes_alone-requires-clause-few c = (nodes _ c.requires.formed).few

pub cut-requires-clause-occupied : goal.cut-requires-clause-occupied
unfolding occupied
cut-requires-clause-occupied c = rw (found_at _ c.requires.formed _ c.cap_at.ensures c.is.ensures c.if-is.false)

pub returns-then-goes_alone : goal.returns-then-goes_alone
returns-then-goes_alone c =
    let there = found_at _ c.requires.formed _ c.cap_at.ensures c.is.ensures c.if-is.false in
    removes_one _ c.requires.formed _ there (sym c.goes_alone.ensures ∙ c.if-goes_alone.true) _ c.cut.ensures

pub of-going-requires : goal.of-going-requires
of-going-requires c = nodes _ c.requires.formed

pub sweep-requires-clause-waiting : goal.sweep-requires-clause-waiting
sweep-requires-clause-waiting c = c.mark_row.ensures.waiting 0 c.of-going.ensures.waiting

pub returns : goal.returns
returns c = removes_target _ c.requires.formed _ c.of-going.ensures.started c.mark_row.ensures _ _ c.sweep.ensures

-- Each turn draws the next row of the list.
use Rattle.std.proofs.Common.{rules}
use Rattle.console.proofs.Drawing.{next_drawn}
use Rattle.console.proofs.Writing.{nothing, ◌then◌}
use Rattle.console.proofs.tree.draw.Goals as goal

pub loop-init : goal.loop-init
loop-init g c = (_, nothing _, search rules)

pub loop-preserved : goal.loop-preserved
loop-preserved g c =
    let (before, drawn, rest) = c.loop.invariant in
    (_, drawn then c.draw_row.ensures, next_drawn c.args.table.now _ before c.args.count c.loop.counter c.loop.row _ c.next_row-row.ensures (search rules) rest)

-- A hit is a row, and a miss what `missed_word` makes of it.
use mathlib.Core.Path.{refl}
use Rattle.std.proofs.Common.{rules}
use Rattle.model.specs.Request.{or_fault}
use Rattle.lookup.proofs.Finding.{finds}
use Rattle.lookup.proofs.SlotTable.named.Goals as goal

pub returns : goal.returns
unfolding or_fault
returns c =
    finds _ _ _ _ c.args.self.now.ready c.requires (or_fault c.args.at) (λ k. refl) _ (λ e r told. search rules) _ c.lookup.ensures _ c.map_err.ensures.cases

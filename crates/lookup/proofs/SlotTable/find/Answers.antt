-- A hit is a row, and a miss what `missed_place` makes of it.
use mathlib.Core.Path.{refl}
use Rattle.std.proofs.Common.{rules}
use Rattle.model.specs.Edition.{edition32}
use Rattle.model.specs.Operations.{slot_of}
use Rattle.lookup.proofs.Finding.{finds}
use Rattle.lookup.proofs.SlotTable.find.Goals as goal

pub returns : goal.returns
unfolding slot_of
returns c =
    finds _ _ _ _ c.args.self.now.ready c.requires (slot_of edition32 c.args.p.source) (λ k. refl) _ (λ e r told. search rules) _ c.lookup.ensures _ c.map_err.ensures.cases

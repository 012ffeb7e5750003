-- The table has its length, and a fresh host's words are stored.
use Rattle.std.specs.Prelude.{◌≡◌}
use mathlib.Core.Path.{sym}
use Rattle.zhvanirek_core.proofs.BootAnswers.{table_long, fresh_host}
use Rattle.zhvanirek_core.proofs.boot.Goals as goal

pub fill-requires : goal.fill-requires
fill-requires c = let same : c.in-Some.memory.m ≡ c.args.m = c.in-Some.ensures in rw same at (table_long _ _ (sym c.if-not-fits.ensures))

pub returns : goal.returns
returns c =
    let same : c.in-Some.memory.m ≡ c.args.m = c.in-Some.ensures in
    rw c.fill.ensures
    (fresh_host _ _ _ (rw same at c.in-Some.memory.in_range) (rw same at (sym c.if-not-takes_radix.ensures)) (rw same at (sym c.if-not-fits.ensures)))

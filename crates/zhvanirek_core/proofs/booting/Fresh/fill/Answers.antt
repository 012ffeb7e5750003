-- Words below j are the written table's: each turn stores the next.
use Rattle.std.specs.Prelude.{◌≡◌, length}
use mathlib.Core.Path.{sym, ◌∙◌}
use native.Mathlib.Omega.{arith}
use lib.Seq.{ext_get_or}
use Rattle.zhvanirek_core.specs.Booting.{boot_table}
use Rattle.zhvanirek_core.proofs.BootRows.{length_boot}
use Rattle.zhvanirek_core.proofs.booting.Fresh.fill.Goals as goal

pub returns : goal.returns
returns c =
    let long : length c.loop-j.table ≡ length (boot_table _ _) = c.loop-j.invariant.1 ∙ c.requires ∙ sym (length_boot _ _) in
    ext_get_or 0 _ _ long (λ i l. c.loop-j.invariant.2 i (omega arith))

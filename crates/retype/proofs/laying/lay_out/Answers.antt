-- `retype::laying::lay_out` meets its contract: the watermark stored, then the run of new rows, then the count.
-- Assumes nothing.
use Rattle.retype.proofs.Making.{laid}
use Rattle.retype.proofs.laying.lay_out.Goals as goal

pub returns : goal.returns
returns c =
    laid _ _ _ _ _ c.requires _ _ _ _ _ _ _ _ c.word.ensures c.word-next.ensures c.word-depth.ensures c.exponent-e.ensures c.from.ensures c.from-2.ensures
    c.put.ensures c.link_new.ensures

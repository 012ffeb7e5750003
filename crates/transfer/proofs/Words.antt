-- What well-formed tables hold, and what Copy, Move and Rotate store in them.
use Prim.Native.Nat.{ℕ, ◌≤◌, ◌<◌}
use mathlib.Core.Path.{◌≡◌}
use mathlib.Core.Bool.{true}
use mathlib.Core.List.{List}
use native.Mathlib.Omega.{arith}
use lib.ListN.{get_or}
use Rattle.model.specs.Edition.{edition32, most_rows}
use Rattle.model.specs.Cap.{is_untyped}
use Rattle.model.specs.Tables.{Tables, cap_of, word, lent}
use Rattle.model.specs.Rules.{well_formed}
use Rattle.model.specs.Operations.{full, fresh}
use Rattle.model.specs.Stores.{moved_tables, exchanged_tables}
use Rattle.model.proofs.Words.WellFormed.{roomy32}
use Rattle.model.proofs.Words.Bounds.{count_small, depth_small, size_small, row_below}
use Rattle.model.proofs.Transfer.Copied.{copied_tables, write_copied}
use Rattle.model.proofs.Transfer.Relocated.{write_relocated}
use Rattle.model.proofs.Transfer.Turned.{write_turned, write_exchanged}
use Rattle.transfer.specs.declared.turns.Turn.{Turn}
use Rattle.transfer.specs.declared.ways.Way.{Way}
use Rattle.transfer.specs.Places.{after}
use Rattle.transfer.specs.Turns.{turned, Turns}
use Rattle.transfer.specs.Ways.{copied, relocated, Open, Along}

-- ---- what they hold

module _ (t control : List ℕ) (w : Way) (along : Along (lent t control) w) where
  pub count_words : get_or control 3 0 ≤ most_rows
  count_words = count_small _ along.formed

  pub depth_words : word t w.from.0 7 < most_rows
  depth_words = depth_small _ along.formed _ along.way.held

  pub size_words : is_untyped (cap_of t w.from.0) ≡ true → (cap_of t w.from.0).size ≤ 31
  size_words untyped = omega (arith, size_small _ along.formed _ along.way.from_in untyped)

-- ---- what is stored

module _ (t : Tables) (w : Way) where
  pub copied_words : Along t w → after edition32 t (copied edition32 w) ≡ copied_tables t w.from.0 w.to.0 (full edition32) (fresh w.cap)
  unfolding copied
  copied_words along =
      let way = along.way in
      write_copied edition32 roomy32 t along.formed _ _ (full edition32) (fresh w.cap) way.held way.free (row_below t along.formed _ way.to_in)

  pub relocated_words : well_formed edition32 t ≡ true → Open t.table w → after edition32 t (relocated w) ≡ moved_tables edition32 t w.from.0 w.to.0 w.cap
  unfolding relocated
  relocated_words formed way = write_relocated edition32 roomy32 t formed _ _ _ way.held way.free (row_below t formed _ way.to_in)

module _ (t : Tables) (w : Turn) (turns : Turns t w) where
  -- the destination is the source
  pub exchanged_words : w.rows.to.0 ≡ w.rows.from.0 → after edition32 t (turned w) ≡ exchanged_tables t w.rows.from.0 w.rows.mid.0 w.pivot w.source
  unfolding turned
  exchanged_words same =
      let able = turns.turnable in
      rw same (write_exchanged edition32 roomy32 t turns.formed _ _ able.apart able.held able.pivoted w.pivot w.source)

  -- the destination is free
  pub turned_words : (w.rows.to.0 ≡ w.rows.from.0 → ⊥)
      → after edition32 t (turned w) ≡ moved_tables edition32 (moved_tables edition32 t w.rows.mid.0 w.rows.to.0 w.pivot) w.rows.from.0 w.rows.mid.0 w.source
  unfolding turned
  turned_words other =
      let able = turns.turnable in
      write_turned edition32 roomy32 t turns.formed _ _ able.apart able.held able.pivoted w.pivot w.source _ (able.free other)
      (row_below t turns.formed _ turns.inside.to_in)

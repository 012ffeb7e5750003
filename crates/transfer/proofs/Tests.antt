-- Copy, Move and Rotate are their tests and what is done after them.
use Rattle.std.specs.Prelude.{Ok}
use mathlib.Core.Path.{◌≡◌}
use Prim.Native.Nat.{ℕ}
use mathlib.Core.Bool.{true}
use Rattle.model.specs.declared.Change.{Change}
use Rattle.model.specs.declared.Place.{Place}
use Rattle.model.specs.Edition.{Edition, edition32}
use Rattle.model.specs.Check.{◌>>=◌, ◌>>◌}
use Rattle.model.specs.Tree.{Forest, cap_at}
use Rattle.model.specs.Tables.{Tables, cap_of, read}
use Rattle.model.specs.Rules.{well_formed}
use Rattle.model.specs.Operations.{find, vacant, present, copy, move, rotate}
use Rattle.model.proofs.Words.WellFormed.{roomy32}
use Rattle.model.proofs.Words.Caps.{caps_read}
use Rattle.model.proofs.Outcome.{bind_bind, then_bind}
use Rattle.transfer.specs.Turns.{three_rows, turn_caps, turn, turned}
use Rattle.transfer.specs.Ways.{free_slot, held_slot, way, copied, copy_along, relocated}

-- ---- on any edition and forest

module _ (E : Edition) (f : Forest) (dest source : Place) where
  copy_is : (how : Change) → copy E f dest source how ≡ (way E (cap_at f) dest source how >>= copy_along E f)
  unfolding copy way free_slot held_slot copy_along copied find vacant present ◌>>=◌ ◌>>◌
  copy_is how = simp (bind_bind, then_bind)

  move_is : (how : Change) → move E f dest source how ≡ (way E (cap_at f) dest source how >>= λ w. Ok (relocated w))
  unfolding move way free_slot held_slot relocated find vacant present ◌>>=◌ ◌>>◌
  move_is how = simp (bind_bind, then_bind)

  rotate_is : (pivot : Place) (datum pivot_datum : ℕ)
      → rotate E f dest pivot source datum pivot_datum
      ≡ (three_rows E (cap_at f) dest pivot source >>= λ rs. turn E (cap_at f) rs pivot source datum pivot_datum >>= λ w. Ok (turned w))
  unfolding rotate three_rows turn turn_caps turned find present ◌>>=◌ ◌>>◌
  rotate_is pivot datum pivot_datum = simp (bind_bind, then_bind)

-- ---- on the words of well-formed tables

module _ (t : Tables) (e : well_formed edition32 t ≡ true) (dest source : Place) where
  abbrev forest : Forest
  forest = (read edition32 t).forest

  pub copy_in_words : (how : Change) → copy edition32 forest dest source how ≡ (way edition32 (cap_of t.table) dest source how >>= copy_along edition32 forest)
  copy_in_words how = rw (caps_read edition32 roomy32 t e) (copy_is edition32 forest dest source how)

  pub move_in_words : (how : Change) → move edition32 forest dest source how ≡ (way edition32 (cap_of t.table) dest source how >>= λ w. Ok (relocated w))
  move_in_words how = rw (caps_read edition32 roomy32 t e) (move_is edition32 forest dest source how)

  pub rotate_in_words : (pivot : Place) (datum pivot_datum : ℕ)
      → rotate edition32 forest dest pivot source datum pivot_datum
      ≡ (three_rows edition32 (cap_of t.table) dest pivot source >>= λ rs. turn edition32 (cap_of t.table) rs pivot source datum pivot_datum >>= λ w. Ok (turned w))
  rotate_in_words pivot datum pivot_datum = rw (caps_read edition32 roomy32 t e) (rotate_is edition32 forest dest source pivot datum pivot_datum)

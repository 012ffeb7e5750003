-- What the operations are asked on, and what those with the same roots share.
use Rattle.std.specs.Prelude.{◌≡◌, ℕ, ◌+◌, ◌*◌, ◌≤◌, true, false, List, length}
use Rattle.model.specs.declared.Change.{Change}
use Rattle.model.specs.declared.Change.TheVariants.{Masked, Minted, Kept, Mutated}
use Rattle.model.specs.declared.Place.{Place}
use Rattle.model.specs.Edition.{edition32}
use Rattle.model.specs.Tree.{Forest, cap_at}
use Rattle.model.specs.Check.{Check, ◌>>=◌}
use Rattle.model.specs.Tables.{Tables}
use Rattle.model.specs.Rules.{well_formed}
use Rattle.model.specs.Operations.{Done, copy, move}
use Rattle.model.specs.Request.{row_named, place}

-- tables that keep the rules, and a service in a row of the table
pub record Served (t : Tables) (k : ℕ) : Type 0 where
  pub formed : well_formed edition32 t ≡ true
  pub in_table : k * 8 + 8 ≤ length t.table

-- Copy and Mint mask or mint, Move and Mutate keep or mutate
abbrev pub transfer : Change → Forest → (dest source : Place) → Check Done
transfer (Masked rights) f dest source = copy edition32 f dest source (Masked rights)
transfer (Minted rights datum) f dest source = copy edition32 f dest source (Minted rights datum)
transfer Kept f dest source = move edition32 f dest source Kept
transfer (Mutated datum) f dest source = move edition32 f dest source (Mutated datum)

-- Copy, Mint, Move and Mutate name their source's root in word 4
unfoldable pub two_places : (operation : Forest → (dest source : Place) → Check Done) → Forest → (caller : ℕ) → (message : List ℕ) → (k : ℕ) → Check Done
two_places operation f caller message k = do
  root ← row_named edition32 f caller message 4
  operation f (place (cap_at f k) message 2 false) (place (cap_at f root) message 5 true)

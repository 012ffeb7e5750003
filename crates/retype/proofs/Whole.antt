-- Retype is its tests up to the first slot, then the allotment.
use Rattle.std.specs.Prelude.{Ok, Err}
use Prim.Native.Nat.{ℕ, zero, suc, ◌+◌}
use mathlib.Core.Path.{◌≡◌, refl, ap}
use mathlib.Core.Bool.{Bool, not, ◌||◌}
use Rattle.model.specs.Edition.{Edition}
use Rattle.model.specs.declared.Place.{Place}
use Rattle.model.specs.declared.Retyping.{Retyping}
use Rattle.model.specs.Cap.{is_empty}
use Rattle.model.specs.Check.{Check, ◌>>=◌, ◌>>◌}
use Rattle.model.specs.Tree.{Forest, cap_at}
use Rattle.model.specs.Operations.{find, node, any_taken, start, allot, retype}
use Rattle.retype.specs.Window.{sized, node_by, window_in, taken_by, vacant_in, first_slot}
use Rattle.model.proofs.Outcome.{bind_bind, then_bind}
use Rattle.model.proofs.Steps.{bind_ok}

then_then : {A B C : Type 0} (c : Check A) (d : Check B) (e : Check C) → ((c >> d) >> e) ≡ (c >> (d >> e))
unfolding ◌>>◌
then_then (Ok a) d e = refl
then_then (Err r) d e = refl

-- a row is taken in the tree where it is in the table
pub taken_by_lem : (f : Forest) (k n : ℕ) → any_taken f k n ≡ taken_by (cap_at f) k n
unfolding any_taken taken_by
taken_by_lem f k zero = refl
taken_by_lem f k (suc n) = ap (λ (b : Bool). not (is_empty (cap_at f k)) || b) (taken_by_lem f (k + 1) n)

node_by_lem : (E : Edition) (f : Forest) (p : Place) → node E f p ≡ node_by E (cap_at f) p
unfolding node node_by find
node_by_lem E f p = refl

pub retype_by : (E : Edition) (f : Forest) (k : ℕ) (q : Retyping) → retype E f k q ≡ (first_slot E (cap_at f) q >>= allot E k (cap_at f k) (start f k (cap_at f k)) q)
unfolding retype first_slot sized vacant_in window_in
retype_by E f k q = simp (then_bind, then_then, bind_bind, bind_ok, node_by_lem, taken_by_lem)

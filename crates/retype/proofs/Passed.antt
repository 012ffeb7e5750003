-- What is known where Retype's tests have passed.
use Rattle.std.specs.Prelude.{Ok, Err}
use Prim.Native.Nat.{ℕ, ◌+◌, ◌-◌, ◌*◌, ◌≤◌}
use mathlib.Core.Path.{◌≡◌, sym}
use mathlib.Core.Bool.{Bool, true, false}
use mathlib.Core.List.{List}
use native.Mathlib.Omega.{arith}
use lib.Dec.{eqb}
use lib.ListN.{length}
use borrow.Author.Tests.{leb-false, ltb-false, eqb-false, not-false}
use Rattle.model.specs.Edition.{edition32}
use Rattle.model.specs.declared.Cap.{Cap}
use Rattle.model.specs.declared.Retyping.{Retyping}
use Rattle.model.specs.declared.Place.{Place}
use Rattle.model.specs.Cap.{is_cnode, first_row, slots}
use Rattle.model.specs.Check.{Check, ◌>>=◌}
use Rattle.model.specs.Operations.{slot_of}
use Rattle.model.specs.Lookup.{lookup}
use Rattle.model.specs.Tables.{cap_of}
use Rattle.model.proofs.Booleans.{or_none}
use Rattle.model.proofs.Steps.{never, through}
use Rattle.lookup.specs.Ready.{Ready, Usable}
use Rattle.retype.specs.Window.{node_by, window_in}

-- the window lies in the slots of the node n, from row k on
pub record Placed (n : Cap) (q : Retyping) (k : ℕ) : Type 0 where
  pub node : is_cnode n ≡ true
  pub first : k ≡ first_row edition32 n + q.offset
  pub least : 1 ≤ q.window
  pub most : q.window ≤ 256
  pub fits : q.offset + q.window ≤ slots n

pub window_placed : (n : Cap) (q : Retyping) (k : ℕ) → window_in edition32 n q ≡ Ok k → Placed n q k
unfolding window_in
window_placed n q k e =
    let (node, a) = through _ _ _ k e in
    let (reached, b) = through _ _ _ k a in
    let (fair, c) = through _ _ _ k b in
    let (wide, d) = through _ _ _ k c in
    let w = or_none _ _ fair in
    let some : q.window ≡ 0 → ⊥ = eqb-false _ 0 w.0 in
    record {
      node = not-false _ node;
      first = cc;
      least = omega arith;
      most = ltb-false 256 q.window w.1;
      fits = omega (arith, leb-false (slots n) q.offset reached, ltb-false (slots n - q.offset) q.window wide);
    }

-- a CNode that a place names is usable
pub node_usable : (t : List ℕ) (p : Place) (n : Cap) → Ready t → (is_cnode p.root ≡ true → Usable t p.root)
    → ◌≡◌ {A = Check Cap} (Ok n) (node_by edition32 (cap_of t) p) → is_cnode n ≡ true → Usable t n
unfolding node_by ◌>>=◌
node_usable t p n ready usable = go (eqb p.depth 0) (slot_of edition32 p.source (lookup edition32 (cap_of t) p.root p.index p.depth))
  where
    go : (b : Bool) (s : Check ℕ) → ◌≡◌ {A = Check Cap} (Ok n) (elim b [ true ↦ Ok p.root | false ↦ s >>= λ k. Ok (cap_of t k) ]) → is_cnode n ≡ true → Usable t n
    go true s h = let same : n ≡ p.root = cc in rw same usable
    go false (Ok k) h = let same : n ≡ cap_of t k = cc in rw same (ready.nodes k)
    go false (Err a) h = absurd (never a n (sym h))

-- the window lies in the table
pub window_inside : (t : List ℕ) (n : Cap) (q : Retyping) (k : ℕ) → (is_cnode n ≡ true → Usable t n) → ◌≡◌ {A = Check ℕ} (Ok k) (window_in edition32 n q) → (k + q.window) * 8 ≤ length t
window_inside t n q k usable e =
    let w = window_placed n q k (sym e) in
    omega (arith, (usable w.node).inside, w.first, w.fits)

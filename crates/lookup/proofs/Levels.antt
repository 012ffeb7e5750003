-- What one level of `descend` comes to, a law for each way out, over any edition and any `caps`; and what a loop over the levels keeps.
-- Assumes nothing.
use Rattle.std.specs.Prelude.{Ok, Err}
use Prim.Native.Nat.{ℕ, zero, suc, ◌+◌, ◌-◌, ◌*◌, ◌/◌, ◌^◌, ◌≤◌, ◌<◌}
use mathlib.Core.Path.{◌≡◌, sym, ◌∙◌}
use mathlib.Core.Bool.{true, false}
use mathlib.Core.List.{List}
use native.Mathlib.Nat.{mod-lt}
use native.Mathlib.Omega.{arith}
use lib.ListN.{length}
use lib.Pow.{pow_pos}
use borrow.Author.Tests.{lt-ltb, le-ltb, eq-eqb, ne_eqb}
use Rattle.model.specs.Edition.{Edition, edition32}
use Rattle.model.specs.declared.Cap.{Cap}
use Rattle.model.specs.declared.Failure.TheVariants.{DepthMismatch, GuardMismatch}
use Rattle.model.specs.Check.{Looked}
use Rattle.model.specs.declared.Miss.TheVariants.{Failed}
use Rattle.model.specs.Cap.{is_cnode, first_row, slots}
use Rattle.model.specs.Tables.{cap_of}
use Rattle.model.specs.Lookup.{field, guard_missed, taken, picked, descend}
use Rattle.lookup.specs.Ready.{Usable}

-- the slot that a usable CNode picks lies in the table
pub picked_inside : (t : List ℕ) (c : Cap) (address left : ℕ) → Usable t c → picked edition32 c address left * 8 + 8 ≤ length t
unfolding picked field slots
picked_inside t c address left u =
    let small : field address (left - c.fourth) c.size < slots c = mod-lt (address / 2 ^ (left - c.fourth - c.size)) (pow_pos c.size) in
    let within : (first_row edition32 c + slots c) * 8 ≤ length t = u.inside in
    omega arith

-- ---- one level

module _ (E : Edition) (caps : ℕ → Cap) (c : Cap) (address left : ℕ) where
  -- a level whose answer does not hang on the levels below
  abbrev pub Ends : Looked → Type 0
  Ends r = (n : ℕ) → descend E caps (suc n) c address left ≡ r

  abbrev pub GoesOn : Cap → ℕ → Type 0
  GoesOn next rest = (n : ℕ) → descend E caps (suc n) c address left ≡ descend E caps n next address rest

  pub guard_missed_lem : guard_missed c address left ≡ true → Ends (Err (Failed (GuardMismatch left c.third c.fourth)))
  unfolding descend
  guard_missed_lem h n = simp (descend, h)

  module _ (met : guard_missed c address left ≡ false) where
    pub too_deep : left < taken c → Ends (Err (Failed (DepthMismatch left (taken c))))
    unfolding descend
    too_deep h n = simp (descend, met, lt-ltb left (taken c) h)

    module _ (row : ℕ) (there : row ≡ picked E c address left) where
      pub done : left ≡ taken c → Ends (Ok (record { 0 = row }))
      unfolding descend
      done h n = simp (descend, met, le-ltb left (taken c) (omega arith), eq-eqb left (taken c) h, there)

      module _ (more : taken c < left) where
        pub no_node : is_cnode (caps row) ≡ false → Ends (Err (Failed (DepthMismatch (left - taken c) 0)))
        unfolding descend
        no_node h n =
            let not_last : left ≡ taken c → ⊥ = omega arith in
            let h' : is_cnode (caps (picked E c address left)) ≡ false = rw there at h in
            simp (descend, met, le-ltb left (taken c) (omega arith), ne_eqb left (taken c) not_last, h')

        pub node : is_cnode (caps row) ≡ true → GoesOn (caps row) (left - taken c)
        unfolding descend
        node h n =
            let not_last : left ≡ taken c → ⊥ = omega arith in
            let h' : is_cnode (caps (picked E c address left)) ≡ true = rw there at h in
            simp (there, descend, met, le-ltb left (taken c) (omega arith), ne_eqb left (taken c) not_last, h')

-- ---- level by level

-- from `node`, with `left` bits left and enough levels, the lookup comes to `answer`
pub record Going (t : List ℕ) (address : ℕ) (answer : Looked) (node : Cap) (left : ℕ) : Type 0 where
  pub usable : Usable t node
  pub some : 1 ≤ left
  pub most : left ≤ 32
  pub levels : ℕ
  pub enough : left ≤ levels
  pub same : descend edition32 (cap_of t) levels node address left ≡ answer

module _ {t : List ℕ} {address : ℕ} {answer : Looked} {node : Cap} {left : ℕ} (g : Going t address answer node left) where
  -- there is a level to take, and n after it
  abbrev Level : ℕ → Type 0
  Level n = (left ≤ suc n) × (descend edition32 (cap_of t) (suc n) node address left ≡ answer)

  next_level : (n : ℕ) × Level n
  next_level = go g.levels g.enough g.same
    where
      go : (m : ℕ) → left ≤ m → descend edition32 (cap_of t) m node address left ≡ answer → (n : ℕ) × Level n
      go zero h e = absurd (omega (arith, g.some))
      go (suc n) h e = (n, (h, e))

  pub ends : {r : Looked} → Ends edition32 (cap_of t) node address left r → r ≡ answer
  ends e = sym (e next_level.0) ∙ next_level.1.1

  pub goes_on : {next : Cap} {rest : ℕ} → GoesOn edition32 (cap_of t) node address left next rest → Usable t next → 1 ≤ rest → rest < left
      → Going t address answer next rest
  goes_on e u h l =
      record {
        usable = u;
        some = h;
        most = omega (arith, g.most);
        levels = next_level.0;
        enough = omega (arith, next_level.1.0);
        same = sym (e next_level.0) ∙ next_level.1.1;
      }

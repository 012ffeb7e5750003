-- What the laws ask of an edition's figures, and the sizes of objects that follow from them.
use Prim.Native.Nat.{suc, zero, ℕ, ◌*◌, ◌+◌, ◌^◌, ◌≤◌}
use mathlib.Core.Path.{ap, refl, ◌∙◌, ◌≡◌}
use mathlib.Core.Bool.{true}
use native.Mathlib.Omega.{arith}
use lib.Dec.{lit≤}
use lib.ListN.{get_or}
use lib.Pow.{pow-add}
use borrow.Author.Tests.{eqb-true}
use Rattle.model.specs.declared.Cap.{Cap}
use Rattle.model.specs.Edition.{Edition, edition32}
use Rattle.model.specs.Cap.{bytes, exponent, is_cnode, is_untyped, slots}

-- figures that make sense together
pub record Sane (E : Edition) : Type 0 where
  pub of_cnode : get_or E.sizes 4 0 ≡ E.slot  -- a CNode is as large as its slots
  pub of_untyped : get_or E.sizes 0 0 ≡ 0
  pub least : 4 ≤ E.least_untyped  -- watermarks are multiples of 16
  pub grain : (object : ℕ) → object ≤ 5 → (object ≡ 0 → ⊥) → 4 ≤ get_or E.sizes object 0
  pub radix : E.greatest_size ≤ E.bits
  pub span : E.greatest_m ≤ suc E.greatest_size  -- Retype takes the size of any Untyped
  pub guard : 8 ≤ E.bits  -- a boot CNode's radix is at most 8
  pub first : E.least_untyped ≤ 4 + E.slot  -- the first of Boot's untypeds is at least that large
  pub most : E.greatest_m ≤ 19 + E.slot  -- Boot's untypeds fit into a boot CNode of radix 4

grain32 : (object : ℕ) → object ≤ 5 → (object ≡ 0 → ⊥) → 4 ≤ get_or edition32.sizes object 0
grain32 zero h n = absurd (n refl)
grain32 (suc zero) h n = lit≤ tt
grain32 (suc (suc zero)) h n = lit≤ tt
grain32 (suc (suc (suc zero))) h n = lit≤ tt
grain32 (suc (suc (suc (suc zero)))) h n = lit≤ tt
grain32 (suc (suc (suc (suc (suc zero))))) h n = lit≤ tt
grain32 (suc (suc (suc (suc (suc (suc n)))))) h m = absurd (omega arith)

pub sane32 : Sane edition32
sane32 = record { of_cnode = refl; of_untyped = refl; least = lit≤ tt; grain = grain32; radix = lit≤ tt; span = lit≤ tt; guard = lit≤ tt; first = lit≤ tt; most = lit≤ tt }

module _ {E : Edition} (sane : Sane E) (c : Cap) where
  pub bytes_cnode : is_cnode c ≡ true → bytes E c ≡ slots c * 2 ^ E.slot
  unfolding is_cnode bytes exponent slots
  bytes_cnode t =
      let k = eqb-true c.kind 5 t in
      let s = sane.of_cnode in
      rw k (ap (λ n. 2 ^ n) (let r : get_or E.sizes 4 0 + c.size ≡ c.size + E.slot = omega arith in r) ∙ pow-add 2 c.size E.slot)

  pub bytes_untyped : is_untyped c ≡ true → bytes E c ≡ 2 ^ c.size
  unfolding is_untyped bytes exponent
  bytes_untyped t =
      let k = eqb-true c.kind 1 t in
      let s = sane.of_untyped in
      rw k (ap (λ n. 2 ^ n) (let r : get_or E.sizes 0 0 + c.size ≡ c.size = omega arith in r))

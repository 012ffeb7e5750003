-- The memory of an Untyped in well-formed tables, allotted: what comes of the request, and that the stores which carry it out are possible.
use Rattle.model.specs.declared.Refusal.{Refusal}
use Rattle.std.specs.Prelude.{Ok, Err}
use Prim.Native.Nat.{ℕ, ◌+◌, ◌-◌, ◌*◌, ◌/◌, ◌^◌, ◌≤◌}
use mathlib.Core.Path.{◌≡◌, sym, ap, ◌∙◌, subst}
use mathlib.Core.Bool.{Bool, true, false, cond}
use native.Mathlib.Omega.{arith}
use lib.ListN.{get_or}
use borrow.Author.Tests.{ltb-false}
use Rattle.model.specs.Edition.{Edition, edition32}
use Rattle.model.specs.declared.Refusal.TheVariants.{NotEnoughMemory}
use Rattle.model.specs.declared.Cap.{Cap}
use Rattle.model.specs.declared.Retyping.{Retyping}
use Rattle.model.specs.Cap.{is_empty, bytes, exponent}
use Rattle.model.specs.Check.{Check, refuse, ◌>>=◌}
use Rattle.model.specs.Tables.{Tables, rows, word, cap_of, read, write}
use Rattle.model.specs.Tree.{Forest, has_children, cap_at}
use Rattle.model.specs.Operations.{any_taken, start, allot, allotted, align_up}
use Rattle.model.specs.Request.{applied, carried_out}
use Rattle.model.proofs.Words.WellFormed.{roomy32, write_read}
use Rattle.model.proofs.Words.Caps.{caps_read}
use Rattle.model.proofs.Words.Descendants.{children_test}
use Rattle.model.proofs.Kept.Allowed.{untyped_filled}
use Rattle.model.proofs.Words.Held.{held_at, held_fits}
use Rattle.model.proofs.Outcome.{comes_refused, comes_done, then_bind}
use Rattle.model.proofs.Retype.Allotted.{write_allotted}
use Rattle.table.specs.Children.{deeper_next}
use Rattle.retype.specs.Allotting.{memory_for, Bounded, Vacant, allotting}
use Rattle.retype.specs.Laid.{unit, laid_out, Layable}
use Rattle.retype.specs.Window.{taken_by}
use Rattle.retype.proofs.Bytes.{bytes_small, at_small, objects_most}
use Rattle.model.proofs.Steps.{through}
use Rattle.retype.proofs.Whole.{taken_by_lem}
use Rattle.retype.proofs.Untyped.{Small, small}

-- the memory's test, then the deed
allot_by : (E : Edition) (k : ℕ) (u : Cap) (from : ℕ) (q : Retyping) (first : ℕ) → allot E k u from q first ≡ (memory_for E u from q >>= λ at. Ok (allotted E k u at q first))
unfolding allot memory_for ◌>>=◌
allot_by E k u from q first = sym (then_bind (refuse (NotEnoughMemory (bytes E u - from)) _) (Ok (align_up from (exponent E q.object q.size))) (λ at. Ok (allotted E k u at q first)))

module _ (t : Tables) (k : ℕ) (q : Retyping) (first : ℕ) (v : Vacant t k q first) where
  forest : Forest
  forest = (read edition32 t).forest

  filled : is_empty (cap_of t.table k) ≡ false
  filled = untyped_filled (cap_of t.table k) v.untyped

  caps : cap_of t.table ≡ cap_at forest
  unfolding forest
  caps = caps_read edition32 roomy32 t v.formed

  children : has_children forest k ≡ deeper_next t.table k
  unfolding forest deeper_next
  children =
      subst (λ (w : Tables). has_children (read edition32 t).forest k ≡ deeper_next w.table k) (write_read edition32 roomy32 t v.formed)
      (children_test edition32 (read edition32 t) (held_fits edition32 roomy32 t v.formed) k (held_at edition32 roomy32 t v.formed k filled))

  vacant : any_taken forest first q.window ≡ false
  vacant = taken_by_lem forest first q.window ∙ ap (λ (c : ℕ → Cap). taken_by c first q.window) (sym caps) ∙ v.free

  sizes : Small t k
  sizes = small t v.formed k v.untyped v.in_table

  module _ (u : Cap) (from : ℕ) (is : u ≡ cap_of t.table k) (starts : from ≡ cond (deeper_next t.table k) u.third 0) where
    allotting_is : allotting k first q forest ≡ (memory_for edition32 u from q >>= λ at. Ok (allotted edition32 k u at q first))
    unfolding start
    allotting_is =
        let cap : cap_at forest k ≡ u = ap (λ (c : ℕ → Cap). c k) (sym caps) ∙ sym is in
        let from_is : cond (has_children forest k) u.third 0 ≡ from = ap (λ (b : Bool). cond b u.third 0) children ∙ sym starts in
        rw (cap, from_is) (allot_by edition32 k u from q first)

    pub allot_refused : (a : Refusal) → ◌≡◌ {A = Check ℕ} (Err a) (memory_for edition32 u from q) → record { answer = Err a; tables = t } ≡ carried_out edition32 t (allotting k first q)
    unfolding forest ◌>>=◌
    allot_refused a e = comes_refused edition32 t (allotting k first q) a (allotting_is ∙ rw (sym e))

    pub allot_done : (at : ℕ) → ◌≡◌ {A = Check ℕ} (Ok at) (memory_for edition32 u from q) → (t' : Tables) → t' ≡ laid_out t k first at q → record { answer = Ok q.window; tables = t' } ≡ carried_out edition32 t (allotting k first q)
    unfolding forest ◌>>=◌ laid_out allotted cap_of
    allot_done at e t' stores =
        let low : first + q.window ≤ rows edition32 (get_or t.control 0 0) = omega (arith, v.rows, sizes.long) in
        let words : write edition32 (applied (read edition32 t) (allotted edition32 k (cap_of t.table k) at q first)).state ≡ laid_out t k first at q =
        write_allotted edition32 roomy32 t v.formed k (cap_of t.table k) at q first filled vacant low in
        comes_done edition32 t (allotting k first q) (allotted edition32 k (cap_of t.table k) at q first) t' (allotting_is ∙ rw (sym e, is)) (stores ∙ sym words)

    pub bounded : Bounded u from q
    bounded = record { known = v.known; small = rw is sizes.size; inside = inside; some = v.some }
      where
        start_inside : (b : Bool) → from ≡ cond b u.third 0 → from ≤ bytes edition32 u
        start_inside true h = rw h (rw is sizes.mark)
        start_inside false h = omega arith

        inside : from ≤ bytes edition32 u
        inside = start_inside (deeper_next t.table k) starts

    pub layable : (at : ℕ) → ◌≡◌ {A = Check ℕ} (Ok at) (memory_for edition32 u from q) → Layable t k first at q
    unfolding memory_for cap_of
    layable at e =
        let (few, rest) = through _ _ _ at (sym e) in
        let x : ℕ = exponent edition32 q.object q.size in
        let fits : q.window ≤ (bytes edition32 u - from) / 2 ^ x = ltb-false _ _ few in
        let is_at : align_up from x ≡ at = cc in
        let most : bytes edition32 u ≤ 32768 = bytes_small u bounded.small in
        let objects : q.window * unit q ≤ bytes edition32 u - from = objects_most (bytes edition32 u - from) x q.window fits in
        let begins : align_up from x ≤ 65536 = at_small (bytes edition32 u) from x q.window most bounded.inside bounded.some fits in
        let place : word t.table k 1 ≤ 65536 = sizes.place in
        record {
          room = record { known = v.known; in_table = v.in_table; rows = v.rows; few = omega (arith, v.rows, sizes.long, sizes.few); named = omega arith };
          depth = sizes.depth;
          count = sizes.count;
          end = omega arith;
        }

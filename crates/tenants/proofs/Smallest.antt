-- Estates and removals are the smallest sets that document 01 names: the model's laws, said of tables.
-- Assumes nothing.
use Prim.Native.Nat.{ℕ, ◌<◌}
use mathlib.Core.Path.{◌≡◌}
use mathlib.Core.Bool.{true}
use mathlib.Core.List.{List}
use Rattle.model.specs.Edition.{Edition}
use Rattle.model.specs.Tree.{Entry}
use Rattle.model.specs.Tables.{Tables, read, rows}
use Rattle.model.specs.Removal.{removed}
use Rattle.model.specs.Tenants.{estate_in}
use Rattle.model.proofs.Members.{has_member, member_has}
use Rattle.model.proofs.Kept.Removal.{removed_least, removed_start, removed_swept}
use Rattle.model.proofs.Separation.Estates.{estate_brings, estate_least, estate_root}
use Rattle.tenants.specs.Smallest.{SmallestEstate, SmallestRemoval}

pub smallest_estate : (E : Edition) (t : Tables) (root : ℕ) → root < rows E (read E t).m → SmallestEstate E t root
smallest_estate E t root l =
    let f = (read E t).forest in let n = rows E (read E t).m in
    record {
      holds = has_member (estate_root E f n root l);
      closed = λ j k h m b. has_member (estate_brings E f n root j k h (member_has j (estate_in E t root) m) b);
      least = λ set r closed k m. estate_least E f n root (λ k. set k ≡ true) closed r k (member_has k (estate_in E t root) m);
    }

pub smallest_removal : (E : Edition) (es : List Entry) (start : List ℕ) → SmallestRemoval E es start
smallest_removal E es start =
    record {
      holds = λ e p m. has_member (removed_start E es start e p (member_has e.row start m));
      swept = λ n e p q h all. has_member (removed_swept E es start n e p q h (λ d r s. member_has d.row (removed E es start) (all d r s)));
      least = λ set s swept k m. removed_least E es start (λ k. set k ≡ true) swept (λ k h. s k (has_member h)) k (member_has k (removed E es start) m);
    }

-- A check that goes on and one that stops. As rewrites: with `steps` and its definition named at a function, each way out of it is found.
use Rattle.std.specs.Prelude.{Ok, Err}
use mathlib.Core.Path.{◌≡◌, refl}
use mathlib.Core.Bool.{Bool, true, false}
use borrow.Author.Tests.{tests}
use Rattle.model.specs.declared.Refusal.{Refusal}
use Rattle.model.specs.Check.{Check, refuse, ◌>>=◌, ◌>>◌}

pub bind_ok : {A B : Type 0} (a : A) (f : A → Check B) → (Ok a >>= f) ≡ f a
unfolding ◌>>=◌
bind_ok a f = refl

pub bind_err : {A B : Type 0} (r : Refusal) (f : A → Check B) → (Err r >>= f) ≡ Err r
unfolding ◌>>=◌
bind_err r f = refl

pub then_ok : {A : Type 0} (u : Unit {0}) (c : Check A) → (Ok u >> c) ≡ c
unfolding ◌>>◌
then_ok u c = refl

pub then_err : {A : Type 0} (r : Refusal) (c : Check A) → ◌>>◌ {A = Unit {0}} (Err r) c ≡ Err r
unfolding ◌>>◌
then_err r c = refl

pub stop : (r : Refusal) (b : Bool) → b ≡ true → refuse r b ≡ Err r
unfolding refuse
stop r b h = rw h

pub pass : (r : Refusal) (b : Bool) → b ≡ false → refuse r b ≡ Ok tt
unfolding refuse
pass r b h = rw h

pub ruleset steps = (bind_ok, bind_err, then_ok, then_err, stop, pass, tests)

-- ---- what is known where a check went through

pub never : {A : Type 0} (r : Refusal) (x : A) → ◌≡◌ {A = Check A} (Err r) (Ok x) → ⊥
never r x e = cc

-- a test that passed, and what came after it
pub through : {A : Type 0} (r : Refusal) (b : Bool) (rest : Check A) (x : A) → (refuse r b >> rest) ≡ Ok x → (b ≡ false) × (rest ≡ Ok x)
unfolding refuse ◌>>◌
through r true rest x e = absurd (never r x e)
through r false rest x e = (refl, e)

pub bound : {A B : Type 0} (c : Check A) (f : A → Check B) (x : B) → (c >>= f) ≡ Ok x → (a : A) × (c ≡ Ok a) × (f a ≡ Ok x)
unfolding ◌>>=◌
bound (Ok a) f x e = (a, refl, e)
bound (Err r) f x e = absurd (never r x e)

pub then_passed : {A B : Type 0} (c : Check A) (d : Check B) (x : B) → (c >> d) ≡ Ok x → (a : A) × (c ≡ Ok a) × (d ≡ Ok x)
unfolding ◌>>◌
then_passed (Ok a) d x e = (a, refl, e)
then_passed (Err r) d x e = absurd (never r x e)

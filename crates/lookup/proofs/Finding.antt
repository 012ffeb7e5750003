-- What a lookup gives, with a refusal in the place of a miss, is found as the definitions say, and a row that is found lies in the table.
-- Assumes nothing.
use Prim.Native.Nat.{ℕ}
use mathlib.Core.Path.{◌≡◌, sym, ap, ◌∙◌, subst}
use mathlib.Core.Bool.{true}
use mathlib.Core.List.{List}
use Rattle.std.specs.Prelude.{Result, Ok, Err, MatchResult}
use Rattle.std.specs.Result.{IsErrAnd}
use Rattle.model.specs.Edition.{edition32}
use Rattle.model.specs.declared.Cap.{Cap}
use Rattle.model.specs.declared.Miss.{Miss}
use Rattle.model.specs.declared.Refusal.{Refusal}
use Rattle.model.specs.declared.Row.{Row}
use Rattle.model.specs.Cap.{is_cnode}
use Rattle.model.specs.Check.{Check, Looked}
use Rattle.model.specs.Tables.{cap_of}
use Rattle.model.specs.Lookup.{lookup}
use Rattle.model.proofs.Steps.{never}
use Rattle.lookup.specs.Finds.{Finds}
use Rattle.lookup.specs.Ready.{Ready, Usable}
use Rattle.lookup.proofs.InTable.{found_in_table}

-- `told` is what the definition makes of a lookup, and `Tells` what the code makes of a miss
module _ (t : List ℕ) (root : Cap) (address depth : ℕ) (ready : Ready t) (usable : is_cnode root ≡ true → Usable t root) (told : Looked → Check ℕ)
    (hit : (k : Row) → told (Ok k) ≡ Ok k.0) (Tells : Miss → Refusal → Type 0) (missed : (e : Miss) (r : Refusal) → Tells e r → told (Err e) ≡ Err r) where
  pub finds : (l : Looked) → l ≡ lookup edition32 (cap_of t) root address depth → (r : Result Row Refusal)
      → MatchResult l (λ k. r ≡ Ok k) (λ e. IsErrAnd r (Tells e)) → Finds t (told (lookup edition32 (cap_of t) root address depth)) r
  finds (Ok k) e r is =
      subst (Finds t (told (lookup edition32 (cap_of t) root address depth))) (sym is)
      (record {
        is = sym (ap told (sym e) ∙ hit k);
        inside = λ i at. let same : k ≡ i = cc in found_in_table t ready root usable address depth i (sym e ∙ ap Ok same);
      })
  finds (Err m) e (Ok j) is = absurd is
  finds (Err m) e (Err r) is = record { is = sym (ap told (sym e) ∙ missed m r is); inside = λ i at. absurd (never r i at) }

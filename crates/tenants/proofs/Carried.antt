-- What comes of a request on well-formed tables, by what is done on the state that they stand for.
-- Assumes nothing.
use Rattle.model.specs.Check.{Answer}
use Rattle.std.specs.Prelude.{Ok}
use Prim.Native.Nat.{ℕ}
use mathlib.Core.Path.{ap, ◌∙◌, ◌≡◌}
use mathlib.Core.Bool.{true}
use mathlib.Core.List.{List}
use Rattle.model.specs.Edition.{Edition}
use Rattle.model.specs.Tree.{Forest, edit}
use Rattle.model.specs.Check.{Check, ◌>>=◌}
use Rattle.model.specs.Tables.{State, Tables, read, write}
use Rattle.model.specs.Rules.{well_formed}
use Rattle.model.specs.Operations.{Done}
use Rattle.model.specs.Request.{applied, carried_out, concluded, request, served}
use Rattle.model.proofs.Kept.Figures.{Sane}
use Rattle.model.proofs.Kept.Serving.{served_good}
use Rattle.model.proofs.Words.ReadWrite.{read_write}
use Rattle.model.proofs.Words.WellFormed.{Roomy, good_fits, good_read}

module _ (E : Edition) (t : Tables) (wf : well_formed E t ≡ true) where
  abbrev pub f : Forest
  f = (read E t).forest

  -- the answer that a check comes to
  abbrev pub answered : Check Done → Answer
  answered c = (concluded E t (c >>= λ d. Ok (applied (read E t) d))).answer

  pub answer_is : (caller : ℕ) (message : List ℕ) → (request E t caller message).answer ≡ answered (served E f caller message)
  unfolding request carried_out
  answer_is caller message = rw wf

  tables_are : (caller : ℕ) (message : List ℕ) (d : Done) → served E f caller message ≡ Ok d → (request E t caller message).tables ≡ write E (applied (read E t) d).state
  unfolding request carried_out concluded ◌>>=◌
  tables_are caller message d e = rw (wf, e)

  -- the state after what was done
  pub read_after : Roomy E → Sane E → (caller : ℕ) (message : List ℕ) (d : Done) → served E f caller message ≡ Ok d → (read E (request E t caller message).tables).forest ≡ edit d.deed f
  unfolding applied
  read_after law sane caller message d e =
      ap (λ (u : Tables). (read E u).forest) (tables_are caller message d e)
      ∙ ap (λ (s : State). s.forest) (read_write E (applied (read E t) d).state (good_fits E law (applied (read E t) d).state (served_good sane (good_read E law t wf) caller message e)))

-- The kinds by their numbers.
use Rattle.std.specs.Prelude.{◌≡◌, ℕ, ◌<◌, Result, MatchResult, Option, Some, None, cond, eqb}
use Rattle.model.specs.declared.Kind.{Kind}
use Rattle.model.specs.declared.Kind.TheVariants.{Empty, Untyped, Tcb, Endpoint, Notification, CNode, Frame}
use Rattle.model.specs.declared.NoKind.{NoKind}

-- the word of a kind
abbrev pub number : Kind → ℕ
number Empty = 0
number Untyped = 1
number Tcb = 2
number Endpoint = 3
number Notification = 4
number CNode = 5
number Frame = 6

-- the kind with this number, or that no kind has it
abbrev pub Numbers : ℕ → Result Kind NoKind → Type 0
Numbers n r = MatchResult r (λ kind. number kind ≡ n) (λ e. (e.0 ≡ n) × (6 < n))

-- the kind of the objects of a type
unfoldable pub of_object : ℕ → Option Kind
of_object object =
    cond (eqb object 0) (Some Untyped)
    (cond (eqb object 1) (Some Tcb)
    (cond (eqb object 2) (Some Endpoint)
    (cond (eqb object 3) (Some Notification)
    (cond (eqb object 4) (Some CNode)
    (cond (eqb object 5) (Some Frame)
    None)))))

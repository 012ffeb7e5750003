-- The lines of an answer, of a row and of the tables, put together from what is written piece by piece.
use Rattle.std.specs.Prelude.{◌≡◌, ◌≢◌, ℕ, zero, suc, ◌+◌, ◌-◌, ◌*◌, ◌<◌, Bool, true, false, ◌&&◌, eqb, MatchBool, List, [], ◌∷◌, ◌++◌, length, get_or, take, drop}
use Rattle.std.specs.List.{AllWithin, HoldsAt}
use mathlib.Core.Path.{refl, sym, ap, ◌∙◌}
use native.Mathlib.Omega.{arith}
use lib.Seq.{take_all}
use borrow.Author.Tests.{eq-eqb, ne_eqb}
use Rattle.console.specs.Writing.{ascii, decimal, spaced}
use Rattle.console.specs.Show.{answer_text, row_words, all_zero, row_text}

-- ---- an answer

pub answer_line : (words : List ℕ) → length words ≡ 6 → answer_text words ≡ decimal (get_or words 0 0) ++ spaced (take 5 (drop 1 words)) ++ ascii "\n"
answer_line [] h = absurd (omega arith)
answer_line (w ∷ ws) h = rw (take_all 5 ws (omega arith))

-- ---- a row

each_zero : (ws : List ℕ) → ((k d : ℕ) → k < length ws → get_or ws k d ≡ 0) → true ≡ all_zero ws
each_zero [] h = refl
each_zero (w ∷ ws) h = rw (eq-eqb w 0 (h 0 0 (omega arith))) (each_zero ws (λ k d l. h (suc k) d (omega arith)))

some_other : (ws : List ℕ) (k : ℕ) → k < length ws → (get_or ws k 0 ≡ 0 → ⊥) → false ≡ all_zero ws
some_other [] k l n = absurd (omega arith)
some_other (w ∷ ws) zero l n = rw (ne_eqb w 0 n)
some_other (w ∷ ws) (suc k) l n = rw (sym (some_other ws k (omega arith) n)) (and_none (eqb w 0))
  where
    and_none : (b : Bool) → false ≡ b && false
    and_none true = refl
    and_none false = refl

-- a test that says of each word that it is 0, or of one that it is not
pub zeros_tested : (ws : List ℕ) (r : Bool) → MatchBool r (AllWithin (λ (w : ℕ). w ≡ 0) ws 0 (length ws)) ((k : ℕ) × (k < length ws) × HoldsAt (λ (w : ℕ). w ≢ 0) ws k) → r ≡ all_zero ws
zeros_tested ws true each = each_zero ws (λ k d l. each k d (omega arith) l)
zeros_tested ws false (k, l, other) = some_other ws k l (other 0)

-- from the row's first word to its last
abbrev part : List ℕ → ℕ → List ℕ
part t k = take (k * 8 + 8 - k * 8) (drop (k * 8) t)

part_is : (t : List ℕ) (k : ℕ) → part t k ≡ row_words t k
part_is t k =
    let eight : k * 8 + 8 - k * 8 ≡ 8 = omega arith in
    rw eight

-- a row of zeros is passed over
pub row_hidden : (t : List ℕ) (k : ℕ) → all_zero (part t k) ≡ true → row_text t k ≡ []
unfolding row_text
row_hidden t k z = rw (sym (ap all_zero (part_is t k)) ∙ z)

-- another is a line
pub row_line : (t : List ℕ) (k : ℕ) → all_zero (part t k) ≡ false → row_text t k ≡ ascii "row " ++ decimal k ++ spaced (part t k) ++ ascii "\n"
unfolding row_text
row_line t k z = rw (part_is t k, sym (ap all_zero (part_is t k)) ∙ z)

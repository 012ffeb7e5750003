-- Writing a text and then another is writing both; what `io` prints of a number is its decimal text, and numbers with a space before each, one more at a time.
use Rattle.std.specs.Prelude.{◌≡◌, ℕ, zero, suc, ◌+◌, ◌*◌, ◌/◌, ◌%◌, ◌^◌, ◌<◌, ◌≤◌, Bool, true, false, ltb, List, [], ◌∷◌, ◌++◌, length, get_or, take}
use mathlib.Core.Path.{refl, sym, ap, ◌∙◌}
use mathlib.Core.List.{append_assoc, append-nil}
use native.Mathlib.Omega.{arith}
use native.Mathlib.Nat.{one-le-pow, zero-lt-suc}
use native.Mathlib.Numerals.{add-one, unary_clauses}
use lib.Seq.{take-suc}
use borrow.Author.Tests.{lt-ltb, ltb-true, ltb-false}
use Rattle.io.specs.Digits.{last_digits, IsDigitCount}
use Rattle.console.specs.Writing.{Page, byte_on, wrote, under, Writes, decimal, decimal_within, spaced, ascii}
use Rattle.console.specs.declared.output.Pen.{Pen}
use Rattle.console.proofs.Decimal.{glyph_is}

-- ---- numbers

pub spaced_append : (a b : List ℕ) → spaced (a ++ b) ≡ spaced a ++ spaced b
spaced_append [] b = refl
spaced_append (n ∷ a) b = rw (spaced_append a b) (simp append_assoc)

-- one number more
pub spaced_more : (ns : List ℕ) (i : ℕ) → i < length ns → spaced (take (i + 1) ns) ≡ spaced (take i ns) ++ ascii " " ++ decimal (get_or ns i 0)
spaced_more ns i h = rw (add-one, take-suc ns i 0, spaced_append) (simp (append_assoc, append-nil))

-- what `io` prints of one digit
digit_printed : (n k : ℕ) → n < 10 → IsDigitCount 10 1 n k → last_digits 10 k n ≡ (48 + n) ∷ []
digit_printed n zero h f = absurd (omega (arith, f.0))
digit_printed n (suc zero) h f =
    let whole : n % 10 ≡ n = omega arith in
    rw (whole, lt-ltb n 10 h)
digit_printed n (suc (suc j)) h f =
    let large : 10 ^ j * 10 ≤ n = simp unary_clauses at (f.2 (omega arith)) in
    absurd (omega (arith, one-le-pow j 10 (zero-lt-suc 9)))

-- and of any number
within_printed : (most n k : ℕ) → n ≤ most → IsDigitCount 10 1 n k → last_digits 10 k n ≡ decimal_within most n
within_printed zero n k h f = digit_printed n k (omega arith) f
within_printed (suc most) n k h f = go (ltb n 10) refl k f (within_printed most (n / 10))
  where
    go : (small : Bool) → ltb n 10 ≡ small → (k : ℕ) → IsDigitCount 10 1 n k → ((j : ℕ) → n / 10 ≤ most → IsDigitCount 10 1 (n / 10) j → last_digits 10 j (n / 10) ≡ decimal_within most (n / 10)) → last_digits 10 k n ≡ decimal_within (suc most) n
    go true p k f front = rw p (digit_printed n k (ltb-true n 10 p) f)
    go false p zero f front = absurd (omega (arith, f.0))
    go false p (suc zero) f front = absurd (omega (arith, f.1, ltb-false n 10 p))
    go false p (suc (suc j)) f front =
        let large : 10 ^ j * 10 ≤ n = simp unary_clauses at (f.2 (omega arith)) in
        let low : 10 ^ j ≤ n / 10 = omega arith in
        rw (p, glyph_is n, front (suc j) (omega (arith, ltb-false n 10 p)) (omega arith, omega (arith, f.1), λ l. simp unary_clauses low))

pub printed : (n k : ℕ) → IsDigitCount 10 1 n k → last_digits 10 k n ≡ decimal n
unfolding decimal
printed n k f = within_printed n n k (omega arith) f

-- ---- what is written

-- one byte more
pub take_more : (text : List ℕ) (i : ℕ) → i < length text → take (i + 1) text ≡ take i text ++ (get_or text i 0 ∷ [])
take_more text i h = rw (add-one, take-suc text i 0)

-- a text and then another
pub wrote_append : (p : Page) (s t : List ℕ) → wrote p (s ++ t) ≡ wrote (wrote p s) t
unfolding wrote
wrote_append p [] t = refl
wrote_append p (b ∷ s) t = wrote_append (byte_on p b) s t

infixl 20 ◌then◌
pub ◌then◌ : {W : Type 0} {PAGE : ℕ} {pen pen' pen'' : Pen W PAGE} {s t : List ℕ} → Writes pen s pen' → Writes pen' t pen'' → Writes pen (s ++ t) pen''
◌then◌ {pen = pen} {s = s} {t = t} v w =
    record {
      page = w.page ∙ ap (λ (p : Page). wrote p t) v.page ∙ sym (wrote_append (under pen) s t);
      lost = λ l. w.lost (v.lost l);
    }

-- nothing is written
pub nothing : {W : Type 0} {PAGE : ℕ} (pen : Pen W PAGE) → Writes pen [] pen
unfolding wrote
nothing pen = record { page = refl; lost = λ l. l }

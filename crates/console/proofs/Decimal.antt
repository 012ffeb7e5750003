-- Reading a number byte by byte gives the number that the digits stand for, and no number where a byte is no digit or a word does not hold
-- it: a number only grows by further digits. And a number that is printed in decimal is read back.
use Rattle.std.specs.Prelude.{◌≡◌, ℕ, zero, suc, ◌+◌, ◌/◌, ◌%◌, ◌<◌, ◌≤◌, Bool, true, false, cond, ◌&&◌, ltb, leb, List, [], ◌∷◌, ◌++◌, None, Some}
use mathlib.Core.Path.{refl, ◌∙◌}
use native.Mathlib.Omega.{arith}
use native.Mathlib.Nat.{mod-lt, div-add-mod'}
use borrow.Author.Tests.{le-leb, lt-ltb, le-ltb, ltb-true, ltb-false}
use Rattle.model.proofs.Booleans.{and_left, and_right, and_intro}
use Rattle.io.specs.Digits.{hex_digit_ascii}
use Rattle.console.specs.Decimal.{is_digit, more, with_byte, value_from}
use Rattle.console.specs.Writing.{decimal, decimal_within}
use Rattle.std.specs.declared.option.Option.{Option}

-- the bytes read one after the other, after what was read before
abbrev pub read_from : Option ℕ → List ℕ → Option ℕ
read_from r [] = r
read_from (Some n) (b ∷ bs) = read_from (with_byte n b) bs
read_from None (b ∷ bs) = None

-- every byte is a digit
abbrev pub all_digits : List ℕ → Bool
all_digits [] = true
all_digits (b ∷ bs) = is_digit b && all_digits bs

-- further digits make no number less
grows : (n : ℕ) (bs : List ℕ) → n ≤ value_from n bs
grows n [] = omega arith
grows n (b ∷ bs) =
    let longer : more n b ≤ value_from (more n b) bs = grows (more n b) bs in
    omega arith

-- from no number nothing is read
none_stays : (bs : List ℕ) → read_from None bs ≡ None
none_stays [] = refl
none_stays (b ∷ bs) = refl

-- a conjunction with a test that fails
and_false : (a : Bool) → a && false ≡ false
and_false true = refl
and_false false = refl

-- what is read after a number that a word holds
abbrev Read : ℕ → List ℕ → Type 0
Read n bs = read_from (Some n) bs ≡ cond (all_digits bs && ltb (value_from n bs) 4294967296) (Some (value_from n bs)) None

pub reads : (n : ℕ) (bs : List ℕ) → n < 4294967296 → Read n bs
unfolding with_byte
reads n [] h = rw (lt-ltb n 4294967296 h)
reads n (b ∷ bs) h = go (is_digit b) refl (ltb (more n b) 4294967296) refl (reads (more n b) bs)
  where
    go : (d : Bool) → is_digit b ≡ d → (s : Bool) → ltb (more n b) 4294967296 ≡ s → (more n b < 4294967296 → Read (more n b) bs) → Read n (b ∷ bs)
    go false p s q later = rw p (none_stays bs)
    go true p true q later = rw (p, q) (later (ltb-true _ _ q))
    go true p false q later =
        let large : 4294967296 ≤ value_from (more n b) bs = omega (arith, grows (more n b) bs, ltb-false (more n b) 4294967296 q) in
        rw (p, q, le-ltb _ _ large, and_false) (none_stays bs)

-- a digit more at the end
value_end : (n : ℕ) (bs : List ℕ) (b : ℕ) → value_from n (bs ++ (b ∷ [])) ≡ more (value_from n bs) b
value_end n [] b = refl
value_end n (a ∷ bs) b = value_end (more n a) bs b

all_end : (bs : List ℕ) (b : ℕ) → all_digits bs ≡ true → is_digit b ≡ true → all_digits (bs ++ (b ∷ [])) ≡ true
all_end [] b p q = rw q
all_end (a ∷ bs) b p q = and_intro {b = is_digit a} (and_left (is_digit a) (all_digits bs) p) (all_end bs b (and_right (is_digit a) (all_digits bs) p) q)

-- the last digit of a number, printed
pub glyph_is : (n : ℕ) → hex_digit_ascii (n % 10) ≡ 48 + n % 10
glyph_is n = rw (lt-ltb (n % 10) 10 (mod-lt n (omega arith)))

digit_is : (d : ℕ) → d < 10 → is_digit (48 + d) ≡ true
digit_is d h = and_intro {b = leb 48 (48 + d)} (le-leb 48 (48 + d) (omega arith)) (le-leb (48 + d) 57 (omega arith))

-- what is printed are digits
printed_digits : (most n : ℕ) → n ≤ most → all_digits (decimal_within most n) ≡ true
printed_digits zero n h = rw (digit_is n (omega arith))
printed_digits (suc most) n h = go (ltb n 10) refl (printed_digits most (n / 10))
  where
    go : (small : Bool) → ltb n 10 ≡ small → (n / 10 ≤ most → all_digits (decimal_within most (n / 10)) ≡ true) → all_digits (decimal_within (suc most) n) ≡ true
    go true p front = rw (p, digit_is n (ltb-true n 10 p))
    go false p front = rw p (all_end (decimal_within most (n / 10)) (48 + n % 10) (front (omega (arith, ltb-false n 10 p))) (digit_is (n % 10) (mod-lt n (omega arith))))

-- and stand for the number
printed_value : (most n : ℕ) → n ≤ most → value_from 0 (decimal_within most n) ≡ n
printed_value zero n h = omega arith
printed_value (suc most) n h = go (ltb n 10) refl (printed_value most (n / 10))
  where
    go : (small : Bool) → ltb n 10 ≡ small → (n / 10 ≤ most → value_from 0 (decimal_within most (n / 10)) ≡ n / 10) → value_from 0 (decimal_within (suc most) n) ≡ n
    go true p front = rw p (omega arith)
    go false p front =
        let whole : value_from 0 (decimal_within most (n / 10)) ≡ n / 10 = front (omega (arith, ltb-false n 10 p)) in
        rw p (value_end 0 (decimal_within most (n / 10)) (48 + n % 10) ∙ rw whole (omega (arith, div-add-mod' n 10)))

-- a number that is printed is read back
pub read_back : (n : ℕ) → n < 4294967296 → read_from (Some 0) (decimal n) ≡ Some n
unfolding decimal
read_back n w = reads 0 (decimal_within n n) (omega arith) ∙ rw (printed_digits n n (omega arith), printed_value n n (omega arith), lt-ltb n 4294967296 w)

-- Numbers in decimal, as the console reads them: byte by byte, from the left.
use Rattle.std.specs.Prelude.{ℕ, ◌+◌, ◌-◌, ◌*◌, Bool, cond, ◌&&◌, List, [], ◌∷◌, None, Some, nat_le, nat_lt}
use Rattle.std.specs.declared.option.Option.{Option}

-- a byte is a digit, `0` to `9`
abbrev pub is_digit : ℕ → Bool
is_digit b = nat_le 48 b && nat_le b 57

-- a number n with a further digit
abbrev pub more : ℕ → ℕ → ℕ
more n b = n * 10 + (b - 48)

-- what one more byte makes of a number: no number where it is no digit, or where a word does not hold it
unfoldable pub with_byte : ℕ → ℕ → Option ℕ
with_byte n b = cond (is_digit b && nat_lt (more n b) 4294967296) (Some (more n b)) None

-- the number that digits stand for, read after a number n
abbrev pub value_from : ℕ → List ℕ → ℕ
value_from n [] = n
value_from n (b ∷ bs) = value_from (more n b) bs

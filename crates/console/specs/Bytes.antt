-- What is kept of a line, byte by byte.
use Rattle.std.specs.Prelude.{ℕ, ◌+◌, ◌*◌, Bool, true, false, cond, ◌||◌, None, Some, ◌==◌, nat_lt, replicate, slice_set}
use Rattle.std.specs.declared.option.Option.{Option}
use Rattle.console.specs.declared.line.Line.{Line}
use Rattle.console.specs.declared.line.Place.{Place}
use Rattle.console.specs.declared.line.Place.TheVariants.{Start, Comment, Lead, Word, Gap, Number}
use Rattle.console.specs.Decimal.{with_byte}

-- ---- one field changed

abbrev pub placed : Place → Line → Line
placed p l = record { place = p; held = l.held; bad = l.bad; key = l.key; value = l.value; count = l.count; numbers = l.numbers }

abbrev pub with_held : Bool → Line → Line
with_held h l = record { place = l.place; held = h; bad = l.bad; key = l.key; value = l.value; count = l.count; numbers = l.numbers }

abbrev pub spoilt : Line → Line
spoilt l = record { place = l.place; held = l.held; bad = true; key = l.key; value = l.value; count = l.count; numbers = l.numbers }

abbrev pub with_key : ℕ → Line → Line
with_key k l = record { place = l.place; held = l.held; bad = l.bad; key = k; value = l.value; count = l.count; numbers = l.numbers }

abbrev pub with_value : ℕ → Line → Line
with_value v l = record { place = l.place; held = l.held; bad = l.bad; key = l.key; value = v; count = l.count; numbers = l.numbers }

-- one number more
abbrev pub with_number : ℕ → Line → Line
with_number n l =
    record { place = l.place; held = l.held; bad = l.bad; key = l.key; value = l.value; count = l.count + 1; numbers = slice_set l.numbers l.count n }

-- ---- bytes that are no blanks

-- one more byte of the first word; it has at most seven
unfoldable pub spelled : Line → ℕ → Line
spelled l b = placed Word (cond (nat_lt l.key 0x1_00_00_00_00_00_00_00) (with_key (l.key * 256 + b) l) (spoilt l))

abbrev pub valued : Option ℕ → Line → Line
valued (Some n) l = with_value n l
valued None l = spoilt l

-- one more byte of a number
unfoldable pub counted : Line → ℕ → Line
counted l b = placed Number (valued (with_byte l.value b) l)

abbrev pub lettered_at : Place → Line → ℕ → Line
lettered_at Start l b = cond (b == 35) (placed Comment l) (spelled l b)
lettered_at Comment l b = l
lettered_at Lead l b = spelled l b
lettered_at Word l b = spelled l b
lettered_at Gap l b = counted l b
lettered_at Number l b = counted l b

-- a byte that is no blank: `#` at the start begins a comment, which lasts to the line's end
unfoldable pub lettered : Line → ℕ → Line
lettered l b = lettered_at l.place l b

-- ---- blanks

-- a number is whole; a line has at most 17
unfoldable pub noted : Line → Line
noted l = placed Gap (with_value 0 (cond (nat_lt l.count 17) (with_number l.value l) (spoilt l)))

-- a space or a tabulator
abbrev pub is_blank : ℕ → Bool
is_blank b = b == 32 || b == 9

abbrev pub blanked_at : Place → Line → Line
blanked_at Start l = placed Lead l
blanked_at Comment l = l
blanked_at Lead l = l
blanked_at Word l = placed Gap l
blanked_at Gap l = l
blanked_at Number l = noted l

-- a blank
unfoldable pub blanked : Line → Line
blanked l = blanked_at l.place l

-- ---- a byte, and the end

-- something comes after a carriage return that was held: it belongs to the line
unfoldable pub released : Line → Line
released l = cond l.held (with_held false (lettered l 13)) l

-- one more byte; a carriage return is held
unfoldable pub stepped : Line → ℕ → Line
stepped l b = cond (b == 13) (with_held true (released l)) (cond (is_blank b) (blanked (released l)) (lettered (released l) b))

abbrev pub ended_at : Place → Line → Line
ended_at Start l = l
ended_at Comment l = l
ended_at Lead l = l
ended_at Word l = l
ended_at Gap l = l
ended_at Number l = noted l

-- the line is whole: a number at its end is kept
unfoldable pub ended : Line → Line
ended l = ended_at l.place l

-- a line of no bytes
abbrev pub fresh : Line
fresh = record { place = Start; held = false; bad = false; key = 1; value = 0; count = 0; numbers = replicate 17 0 }

abbrev pub is_before_words : Place → Bool
is_before_words Start = true
is_before_words Comment = true
is_before_words Lead = true
is_before_words Word = false
is_before_words Gap = false
is_before_words Number = false

-- a line of blanks, or a comment
abbrev pub says_nothing : Line → Bool
says_nothing l = is_before_words l.place

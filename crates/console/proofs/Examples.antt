-- Lines of the console's language, and what they ask for.
use Rattle.std.specs.Prelude.{◌≡◌, ℕ, List, [], ◌∷◌, None, Some, Ok, Err, take}
use Rattle.std.specs.declared.option.Option.{Option}
use Rattle.std.specs.declared.result.Result.{Result}
use Prim.Native.String.{String}
use mathlib.Core.Path.{refl}
use Rattle.console.specs.declared.asking.BadLine.{BadLine}
use Rattle.console.specs.declared.asking.Command.{Command}
use Rattle.console.specs.declared.asking.Command.TheVariants.{Boot, Size, Control, Ask, Show}
use Rattle.console.specs.declared.line.Line.{Line}
use Rattle.console.specs.Decimal.{with_byte}
use Rattle.console.specs.Writing.{ascii}
use Rattle.console.specs.Bytes.{fresh, spelled, counted, lettered, noted, blanked, released, stepped, ended}
use Rattle.console.specs.Asking.{by_key, command_of}

-- the bytes of a line, one after the other
abbrev kept_from : Line → List ℕ → Line
kept_from l [] = l
kept_from l (b ∷ bs) = kept_from (stepped l b) bs

-- a whole line
abbrev read : String → Line
read line = ended (kept_from fresh (ascii line))

abbrev asks : String → Result (Option Command) BadLine
asks line = command_of (read line)

abbrev numbers : String → List ℕ
numbers line = take (read line).count (read line).numbers

-- a word and its numbers, with blanks between them and around them, and a carriage return at the end
commands :
    (asks "boot 10 4" ≡ Ok (Some Boot))
    × (asks "  size\t\t512  " ≡ Ok (Some Size))
    × (asks "ask 7" ≡ Ok (Some Ask))
    × (asks "control 1 2 3 4294967295" ≡ Ok (Some Control))
    × (asks "show\r" ≡ Ok (Some Show))
unfolding with_byte spelled counted lettered noted blanked released stepped ended by_key command_of
commands = (refl, refl, refl, refl, refl)

-- their numbers
their_numbers :
    (numbers "boot 10 4" ≡ 10 ∷ 4 ∷ [])
    × (numbers "  size\t\t512  " ≡ 512 ∷ [])
    × (numbers "ask 7" ≡ 7 ∷ [])
    × (numbers "control 1 2 3 4294967295" ≡ 1 ∷ 2 ∷ 3 ∷ 4294967295 ∷ [])
    × (numbers "show\r" ≡ [])
unfolding with_byte spelled counted lettered noted blanked released stepped ended by_key command_of
their_numbers = (refl, refl, refl, refl, refl)

-- too few numbers or too many, another word, a number that is none or too great, a carriage return inside, a comment behind a blank
refused :
    (asks "boot 10" ≡ Err (record {}))
    × (asks "bootstrap 10 4" ≡ Err (record {}))
    × (asks "BOOT 10 4" ≡ Err (record {}))
    × (asks "size 4294967296" ≡ Err (record {}))
    × (asks "size 1O" ≡ Err (record {}))
    × (asks "size -1" ≡ Err (record {}))
    × (asks "show 0" ≡ Err (record {}))
    × (asks "show\r " ≡ Err (record {}))
    × (asks " # show" ≡ Err (record {}))
    × (asks "ask" ≡ Err (record {}))
unfolding with_byte spelled counted lettered noted blanked released stepped ended by_key command_of
refused = (refl, refl, refl, refl, refl, refl, refl, refl, refl, refl)

-- blank lines and comments
passed_over :
    (asks "" ≡ Ok None)
    × (asks "  \t" ≡ Ok None)
    × (asks "# boot 10 4" ≡ Ok None)
unfolding with_byte spelled counted lettered noted blanked released stepped ended by_key command_of
passed_over = (refl, refl, refl)

-- What a whole line asks for, by the key of its first word and the count of its numbers.
use Rattle.std.specs.Prelude.{ℕ, ◌+◌, ◌*◌, Bool, cond, List, [], ◌∷◌, None, Some, Ok, Err, ◌==◌, nat_le}
use Prim.Native.String.{String}
use Rattle.std.specs.declared.option.Option.{Option}
use Rattle.std.specs.declared.result.Result.{Result}
use Rattle.console.specs.declared.asking.BadLine.{BadLine}
use Rattle.console.specs.declared.asking.Command.{Command}
use Rattle.console.specs.declared.asking.Command.TheVariants.{Boot, Size, Control, Row, Ask, Show, Tree, Estate}
use Rattle.console.specs.declared.line.Line.{Line}
use Rattle.console.specs.Bytes.{says_nothing}
use Rattle.console.specs.Writing.{ascii}

-- a key with the bytes of a text after it, as digits to the base 256
abbrev pub key_after : ℕ → List ℕ → ℕ
key_after k [] = k
key_after k (b ∷ bs) = key_after (k * 256 + b) bs

-- the key of a word: 1, and then its bytes
abbrev pub key : String → ℕ
key word = key_after 1 (ascii word)

-- a command, if the line has as many numbers as it takes
abbrev pub if_so : Bool → Command → Option Command
if_so fits command = cond fits (Some command) None

unfoldable pub by_key : (key : ℕ) → (count : ℕ) → Option Command
by_key k n =
    cond (k == (key "boot")) (if_so (n == 2) Boot)
    (cond (k == (key "size")) (if_so (n == 1) Size)
    (cond (k == (key "control")) (if_so (n == 4) Control)
    (cond (k == (key "row")) (if_so (n == 9) Row)
    (cond (k == (key "ask")) (if_so (nat_le 1 n) Ask)
    (cond (k == (key "show")) (if_so (n == 0) Show)
    (cond (k == (key "tree")) (if_so (n == 0) Tree)
    (cond (k == (key "estate")) (if_so (n == 1) Estate)
    None)))))))

-- that command, else a bad line
abbrev pub or_bad : Option Command → Result (Option Command) BadLine
or_bad (Some command) = Ok (Some command)
or_bad None = Err (record {})

-- nothing, where the line is blank or a comment
unfoldable pub command_of : Line → Result (Option Command) BadLine
command_of l = cond (says_nothing l) (Ok None) (cond l.bad (Err (record {})) (or_bad (by_key l.key l.count)))

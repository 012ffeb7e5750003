-- What a line does to the tables and the control words, how many words are lent after it, and what it writes.
use Rattle.std.specs.Prelude.{◌≡◌, ℕ, ◌+◌, ◌*◌, Bool, true, false, cond, ◌&&◌, List, [], ◌∷◌, ◌++◌, None, Some, Ok, Err, length, take, drop, replicate, nat_le, slice_index, slice_range}
use Rattle.std.specs.declared.option.Option.{Option}
use Rattle.std.specs.declared.result.Result.{Result}
use Rattle.model.specs.Edition.{edition32}
use Rattle.model.specs.Rules.{m_in_range, well_formed}
use Rattle.model.specs.Tables.{Tables, lent, rows}
use Rattle.model.specs.Request.{Outcome, boot, request, six_words}
use Rattle.console.specs.declared.asking.BadLine.{BadLine}
use Rattle.console.specs.declared.asking.Command.{Command}
use Rattle.console.specs.declared.asking.Command.TheVariants.{Boot, Size, Control, Row, Ask, Show, Tree, Estate}
use Rattle.console.specs.declared.output.Pen.{Pen}
use Rattle.console.specs.Writing.{Writes, ascii}
use Rattle.console.specs.Show.{answer_text, show_text}
use Rattle.console.specs.Drawn.{tree_text}

-- ---- what is kept from line to line

-- the words of the table, of which the first `count` are lent, and the control words
pub record Lending : Type 0 where
  pub table : List ℕ
  pub control : List ℕ
  pub count : ℕ

abbrev pub lending : (table control : List ℕ) → (count : ℕ) → Lending
lending t c n = record { table = t; control = c; count = n }

-- what is lent
abbrev pub tables : Lending → Tables
tables s = lent (take s.count s.table) s.control

-- other tables in the place of those that are lent
abbrev pub with_tables : Lending → Tables → Lending
with_tables s t = record { table = t.table ++ drop s.count s.table; control = t.control; count = s.count }

-- the first n words of the table become 0 and are lent
abbrev pub lend : Lending → ℕ → Lending
lend s n = record { table = replicate n 0 ++ drop n s.table; control = s.control; count = n }

-- ---- what comes of a line

pub record Reply : Type 0 where
  pub after : Lending
  pub text : List ℕ

abbrev pub says : Lending → (text : List ℕ) → Reply
says s t = record { after = s; text = t }

-- what the core answers on the lent tables
abbrev pub answers : Lending → Outcome → Reply
answers s o = says (with_tables s o.tables) (answer_text (six_words o.answer))

-- no more is lent than there is
abbrev pub within : Lending → Reply → Reply
within s r = cond (nat_le s.count (length s.table)) r (says s [])

-- the words of a table for an m in Boot's range, else 0
abbrev pub words_for : (m : ℕ) → ℕ
words_for m = cond (m_in_range edition32 m) (8 * rows edition32 m) 0

-- so, if the table has as many
abbrev pub lend_if : Lending → ℕ → Lending
lend_if s n = cond (nat_le n (length s.table)) (lend s n) s

-- for an m in Boot's range the lent table becomes a zero table of the length that fits
unfoldable pub fitted : Lending → (m : ℕ) → Lending
fitted s m = cond (m_in_range edition32 m) (lend_if s (words_for m)) s

-- Boot, on what is lent
unfoldable pub boot_lent : Lending → (m r : ℕ) → Reply
boot_lent s m r = within s (answers s (boot edition32 (tables s) m r))

-- `boot M R`
unfoldable pub on_boot : Lending → (m r : ℕ) → Reply
on_boot s m r = boot_lent (fitted s m) m r

-- `size N`
unfoldable pub on_size : Lending → (n : ℕ) → Reply
on_size s n = cond (nat_le n (length s.table)) (says (lend (lending s.table (replicate 4 0) s.count) n) (ascii "ok\n")) (says s (ascii "bad\n"))

-- `control A B C D`
unfoldable pub on_control : Lending → (control : List ℕ) → Reply
on_control s control = says (lending s.table control s.count) (ascii "ok\n")

-- `row K A B C D E F G H`
unfoldable pub on_row : Lending → (k : ℕ) → (words : List ℕ) → Reply
on_row s k words =
    cond (nat_le (k * 8 + 8) s.count && nat_le (k * 8 + 8) (length s.table))
    (says (lending (take (k * 8) s.table ++ (words ++ drop (k * 8 + 8) s.table)) s.control s.count) (ascii "ok\n"))
    (says s (ascii "bad\n"))

-- `ask CALLER W0 W1 ..`
unfoldable pub on_ask : Lending → (caller : ℕ) → (message : List ℕ) → Reply
on_ask s caller message = within s (answers s (request edition32 (tables s) caller message))

-- the words after the first of a line's numbers, of which there are `count`
unfoldable pub on_ask_line : Lending → (numbers : List ℕ) → (count : ℕ) → Reply
on_ask_line s ns n = cond (nat_le 1 n && nat_le n (length ns)) (on_ask s (slice_index ns 0) (slice_range ns 1 n)) (says s (ascii "bad\n"))

-- `show`
unfoldable pub on_show : Lending → Reply
on_show s = within s (says s (show_text (take s.count s.table) s.control))

-- `tree`, of tables that are well-formed
unfoldable pub on_tree : Lending → Reply
on_tree s = within s (says s (cond (well_formed edition32 (tables s)) (tree_text (take s.count s.table) (slice_index s.control 2) (slice_index s.control 3)) (ascii "bad\n")))

-- a command with the first `count` of a line's 17 numbers; `estate` changes nothing
unfoldable pub reply : Command → Lending → (numbers : List ℕ) → (count : ℕ) → Reply
reply Boot s ns n = on_boot s (slice_index ns 0) (slice_index ns 1)
reply Size s ns n = on_size s (slice_index ns 0)
reply Control s ns n = on_control s (slice_index ns 0 ∷ slice_index ns 1 ∷ slice_index ns 2 ∷ slice_index ns 3 ∷ [])
reply Row s ns n = on_row s (slice_index ns 0) (take 8 (drop 1 ns))
reply Ask s ns n = on_ask_line s ns n
reply Show s ns n = on_show s
reply Tree s ns n = on_tree s
reply Estate s ns n = says s []

-- what is written is said above; what `estate` writes is not
abbrev pub is_told : Command → Bool
is_told Boot = true
is_told Size = true
is_told Control = true
is_told Row = true
is_told Ask = true
is_told Show = true
is_told Tree = true
is_told Estate = false

-- a line by what it asks for
abbrev pub line_reply : Result (Option Command) BadLine → Lending → (numbers : List ℕ) → (count : ℕ) → Reply
line_reply (Ok (Some command)) s ns n = reply command s ns n
line_reply (Ok None) s ns n = says s []
line_reply (Err bad) s ns n = says s (ascii "bad\n")

abbrev pub line_told : Result (Option Command) BadLine → Bool
line_told (Ok (Some command)) = is_told command
line_told (Ok None) = true
line_told (Err bad) = true

-- ---- promises

-- from what is kept and a pen to what is kept then and the pen after the text
pub record Replies {W : Type 0} {PAGE : ℕ} (r : Reply) (s' : Lending) (pen pen' : Pen W PAGE) : Type 0 where
  pub after : s' ≡ r.after
  pub said : Writes pen r.text pen'

-- the same, where what is written is told
pub record Obeys {W : Type 0} {PAGE : ℕ} (told : Bool) (r : Reply) (s' : Lending) (pen pen' : Pen W PAGE) : Type 0 where
  pub after : s' ≡ r.after
  pub said : told ≡ true → Writes pen r.text pen'

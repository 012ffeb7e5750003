-- The derivation tree as text, for a person: a line for each listed row, indented by its depth.
use Rattle.std.specs.Prelude.{ℕ, zero, suc, ◌+◌, ◌*◌, ◌^◌, cond, ◌||◌, List, [], ◌++◌, length, ◌==◌, nat_le, nat_lt}
use Prim.Native.String.{String}
use Rattle.model.specs.declared.Cap.{Cap}
use Rattle.model.specs.Tables.{word, cap_of}
use Rattle.console.specs.Writing.{ascii, decimal}

-- the row after a row in the list; a row out of the table is its own
abbrev pub next_row : (table : List ℕ) → (k : ℕ) → ℕ
next_row t k = cond (nat_le (k * 8 + 8) (length t)) (word t k 5) k

-- two spaces for each depth
abbrev pub indent : (depth : ℕ) → List ℕ
indent zero = []
indent (suc d) = indent d ++ ascii "  "

-- a name and a number
abbrev pub named : String → ℕ → List ℕ
named name n = ascii name ++ decimal n

-- the name of a kind
unfoldable pub kind_text : (kind : ℕ) → List ℕ
kind_text k =
    cond (k == 1) (ascii "Untyped")
    (cond (k == 2) (ascii "TCB")
    (cond (k == 3) (ascii "Endpoint")
    (cond (k == 4) (ascii "Notification")
    (cond (k == 5) (ascii "CNode")
    (ascii "Frame")))))

-- rights: write 1, read 2, grant 4
unfoldable pub rights_name : (rights : ℕ) → List ℕ
rights_name r =
    cond (r == 0) (ascii "none")
    (cond (r == 1) (ascii "write")
    (cond (r == 2) (ascii "read")
    (cond (r == 3) (ascii "write+read")
    (cond (r == 4) (ascii "grant")
    (cond (r == 5) (ascii "write+grant")
    (cond (r == 6) (ascii "read+grant")
    (ascii "write+read+grant")))))))

abbrev pub rights_text : (rights : ℕ) → List ℕ
rights_text r = ascii " rights " ++ rights_name r

-- the bytes of an Untyped, from its size
abbrev pub bytes_text : (size : ℕ) → List ℕ
bytes_text size = ascii " bytes " ++ cond (nat_lt size 64) (decimal (2 ^ size)) []

-- the badge and the rights of an Endpoint or a Notification
abbrev pub badge_text : Cap → List ℕ
badge_text c = named " badge " c.third ++ rights_text c.fourth

-- what a capability holds beside its kind and address
unfoldable pub details_text : Cap → List ℕ
details_text c =
    cond (c.kind == 1) (bytes_text c.size ++ named " watermark " c.third)
    (cond (c.kind == 2) []
    (cond (c.kind == 3 || c.kind == 4) (badge_text c)
    (cond (c.kind == 5) (named " radix " c.size ++ named " guard " c.third ++ named " size " c.fourth)
    (rights_text c.fourth))))

abbrev pub cap_text : Cap → List ℕ
cap_text c = kind_text c.kind ++ named " address " c.address.0 ++ details_text c ++ ascii "\n"

-- the line of a row of the table
unfoldable pub drawn_row : (table : List ℕ) → (k : ℕ) → List ℕ
drawn_row t k = cond (nat_le (k * 8 + 8) (length t)) (indent (word t k 7) ++ named "row " k ++ ascii " " ++ cap_text (cap_of t k)) []

-- n rows of the list, from row k on
abbrev pub drawn_rows : (table : List ℕ) → (n k : ℕ) → List ℕ
drawn_rows t zero k = []
drawn_rows t (suc n) k = drawn_row t k ++ drawn_rows t n (next_row t k)

-- the listed rows from the head on, and `end`
abbrev pub tree_text : (table : List ℕ) → (head count : ℕ) → List ℕ
tree_text t head count = drawn_rows t count head ++ ascii "end\n"

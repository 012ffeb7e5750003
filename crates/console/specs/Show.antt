-- An answer and the tables as text.
use Rattle.std.specs.Prelude.{ℕ, zero, suc, ◌*◌, ◌/◌, Bool, true, cond, ◌&&◌, List, [], ◌∷◌, ◌++◌, length, take, drop, ◌==◌}
use Rattle.console.specs.Writing.{ascii, decimal, spaced}

-- numbers as a line, with a space between two
abbrev pub answer_text : (words : List ℕ) → List ℕ
answer_text [] = ascii "\n"
answer_text (w ∷ ws) = decimal w ++ spaced ws ++ ascii "\n"

-- the eight words of row k
abbrev pub row_words : (table : List ℕ) → (k : ℕ) → List ℕ
row_words t k = take 8 (drop (k * 8) t)

-- all words are 0
abbrev pub all_zero : List ℕ → Bool
all_zero [] = true
all_zero (w ∷ ws) = w == 0 && all_zero ws

-- row k as a line, if a word of it is not 0
unfoldable pub row_text : (table : List ℕ) → (k : ℕ) → List ℕ
row_text t k = cond (all_zero (row_words t k)) [] (ascii "row " ++ decimal k ++ spaced (row_words t k) ++ ascii "\n")

-- the first n rows
abbrev pub rows_text : (table : List ℕ) → (n : ℕ) → List ℕ
rows_text t zero = []
rows_text t (suc n) = rows_text t n ++ row_text t n

-- the control words, each row with a word that is not 0, and `end`
unfoldable pub show_text : (table control : List ℕ) → List ℕ
show_text t c = ascii "control" ++ spaced c ++ ascii "\n" ++ rows_text t (length t / 8) ++ ascii "end\n"

-- Text that is written: what it does to a pen's page and to the pen's place on it.
use Rattle.std.specs.Prelude.{◌≡◌, ℕ, zero, suc, ◌+◌, ◌/◌, ◌%◌, true, false, cond, List, [], ◌∷◌, ◌++◌, length, nat_lt, slice_set, take}
use Rattle.std.specs.declared.option.Option.{Option}
use Rattle.std.specs.Io.KnownBytes.{Appends}
use Prim.Native.Char.{code}
use Prim.Native.String.{String, [] as none, ◌∷◌ as ◌then◌}
use Rattle.console.specs.declared.output.Pen.{Pen}

-- ---- text

-- the bytes of a text in ASCII
abbrev pub ascii : String → List ℕ
ascii none = []
ascii (c then s) = code c ∷ ascii s

-- n in decimal, by at most `most` divisions
abbrev pub decimal_within : (most n : ℕ) → List ℕ
decimal_within zero n = (48 + n) ∷ []
decimal_within (suc most) n = cond (nat_lt n 10) ((48 + n) ∷ []) (decimal_within most (n / 10) ++ ((48 + n % 10) ∷ []))

-- n in decimal
unfoldable pub decimal : ℕ → List ℕ
decimal n = decimal_within n n

-- numbers, with a space before each
abbrev pub spaced : List ℕ → List ℕ
spaced [] = []
spaced (n ∷ ns) = ascii " " ++ decimal n ++ spaced ns

-- ---- the page

-- the page's bytes, and the place where the next byte goes
pub record Page : Type 0 where
  pub out : List ℕ
  pub at : ℕ

-- where the page is full it is handed on, and the pen starts at 0 again
abbrev pub place : Page → ℕ
place p = cond (nat_lt p.at (length p.out)) p.at 0

-- one byte: it goes to the pen's place; an empty page takes nothing
unfoldable pub byte_on : Page → ℕ → Page
byte_on p b =
    cond (nat_lt 0 (length p.out))
    (record { out = slice_set p.out (place p) b; at = place p + 1 })
    (record { out = p.out; at = 0 })

-- the bytes of a text, one after the other
unfoldable pub wrote : Page → (text : List ℕ) → Page
wrote p [] = p
wrote p (b ∷ bs) = wrote (byte_on p b) bs

-- ---- promises

-- the page under a pen
abbrev pub under : {W : Type 0} {PAGE : ℕ} → Pen W PAGE → Page
under pen = record { out = pen.page; at = pen.at }

-- With a pen a text is written. Whether a write fails is the operating system's, but a failure is not forgotten.
pub record Writes {W : Type 0} {PAGE : ℕ} (pen : Pen W PAGE) (text : List ℕ) (pen' : Pen W PAGE) : Type 0 where
  pub page : under pen' ≡ wrote (under pen) text
  pub lost : pen.lost ≡ true → pen'.lost ≡ true

-- The page is handed on: where nothing is lost, the writer holds its bytes up to the pen's place after what it held.
pub record HandsOn {W : Type 0} {PAGE : ℕ} (contents : W → Option (List ℕ)) (pen pen' : Pen W PAGE) : Type 0 where
  pub page : pen'.page ≡ pen.page
  pub start : pen'.at ≡ 0
  pub lost : pen.lost ≡ true → pen'.lost ≡ true
  pub handed : pen'.lost ≡ false → Appends (contents pen.writer) (contents pen'.writer) (take pen.at pen.page)

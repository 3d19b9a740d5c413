-- What the exported functions answer, by the definitions of the crates below. Definitions alone.
use Rattle.std.specs.Prelude.{Option, Some, None, ℕ, ◌^◌, ◌≤◌, ◌<◌, ◌≡◌, Bool, true, false, cond, ◌&&◌, List, [], ◌∷◌, ◌⊎◌, length, leb, ltb}
use Rattle.std.proofs.lemmas.List.Edits.{sets}
use Rattle.scan.specs.Marks.{starts_at, seek}
use Rattle.scan.specs.Posts.{Appended, Begun}
use Rattle.utf8.specs.White.{Trimmed, WordAt, NextWord}
use Rattle.numerals.specs.Numerals.{numeral_of}
use Rattle.numerals.specs.declared.Whole.{Whole}

-- the answer for no place and no length
abbrev pub none : ℕ
none = 0xFFFF_FFFF_FFFF_FFFF

-- ---- marks
-- the first place of the mark from p on, or none; an empty mark has none
abbrev pub first_of : List ℕ → List ℕ → ℕ → ℕ
first_of m s p = cond (ltb 0 (length m) && ltb (seek m s p) (length s)) (seek m s p) none

-- the mark stands at a place of the text, or at its end
abbrev pub stands_at : List ℕ → List ℕ → ℕ → Bool
stands_at m s p = leb p (length s) && starts_at s p m

-- ---- places
-- the table's first two cells are set to a start and an end, and say where something is
pub record Span (Is : ℕ → ℕ → Type 0) (t t' : List ℕ) : Type 0 where
  pub start : ℕ
  pub end : ℕ
  pub is : Is start end
  pub laid : t' ≡ sets t 0 (start ∷ end ∷ [])

-- so where the answer is true, else there is a reason, and the table is as it was
abbrev pub SpanOr : (ℕ → ℕ → Type 0) → Type 0 → List ℕ → List ℕ → Bool → Type 0
SpanOr Is Why t t' true = Span Is t t'
SpanOr Is Why t t' false = Why × (t' ≡ t)

abbrev pub Trims : List ℕ → List ℕ → List ℕ → Bool → Type 0
Trims s t t' r = SpanOr (Trimmed s) (length t < 2) t t' r

abbrev pub FindsWord : List ℕ → ℕ → List ℕ → List ℕ → Bool → Type 0
FindsWord s p t t' r = SpanOr (WordAt s p) ((length t < 2) ⊎ (length s < p) ⊎ NextWord s p None) t t' r

-- ---- numbers
-- the number that is asked for: none where the radix, the largest value or the table will not do
abbrev pub asked : List ℕ → ℕ → ℕ → Bool → List ℕ → Option Whole
asked s radix most minus t =
    cond (leb 2 radix && leb radix 36 && ltb most (2 ^ 63) && ltb 0 (length t)) (numeral_of s radix most minus) None

-- 0: no number, 1: a number, 2: a negative one
abbrev pub sign_of : Option Whole → ℕ
sign_of (Some w) = cond w.negative 2 1
sign_of None = 0

abbrev pub size_of : Option Whole → List ℕ
size_of (Some w) = w.magnitude ∷ []
size_of None = []

-- the answer is the number's sign, and its size stands in the table's first cell
pub record Numbered (n : Option Whole) (t t' : List ℕ) (r : ℕ) : Type 0 where
  pub is : r ≡ sign_of n
  pub laid : t' ≡ sets t 0 (size_of n)

-- ---- references and escapes
abbrev pub code_of : Option ℕ → ℕ
code_of (Some c) = c
code_of None = 0xFFFF_FFFF

-- where the next byte goes, or none
abbrev pub end_or : Option ℕ → ℕ
end_or (Some n) = n
end_or None = none

-- w stands at the table's start, and the answer is its length, where the table has as many cells as it wants; else the answer is none,
-- and the table is as it was
pub record Filled (wants : ℕ) (w t t' : List ℕ) (r : ℕ) : Type 0 where
  pub whole : wants ≤ length t → Appended w 0 t t' r
  pub short : length t < wants → (r ≡ none) × (t' ≡ t)

-- the same of what is written part by part: where it does not fit, a beginning of it stands at the table's start
pub record FilledInPart (w t t' : List ℕ) (r : ℕ) : Type 0 where
  pub whole : length w ≤ length t → Appended w 0 t t' r
  pub short : length t < length w → (r ≡ none) × Begun w 0 t t'

-- ---- answers that fill cells
-- Where it will do, the answer is n and the cells stand at the table's start; else it is a refusal, and the table is as it was.
pub record Answered {A : Type 0} (will : Bool) (n : ℕ) (cells : List A) (refusal : ℕ) (t t' : List A) (r : ℕ) : Type 0 where
  pub is : r ≡ cond will n refusal
  pub laid : t' ≡ sets t 0 (cond will cells [])

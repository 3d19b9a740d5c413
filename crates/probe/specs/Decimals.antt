-- What the functions on decimals and sizes answer. Definitions alone.
use Rattle.std.specs.Prelude.{Result, Ok, Err, ℕ, ◌≤◌, ◌<◌, ◌≡◌, Bool, cond, ◌&&◌, List, [], ◌∷◌, length, leb, Float}
use Rattle.std.proofs.lemmas.List.Edits.{sets}
use Rattle.std.specs.Float.{binary64}
use Rattle.decimals.specs.declared.read.Digits.{Digits}
use Rattle.decimals.specs.declared.size.Size.{Size}
use Rattle.decimals.specs.Floats.{value_in_of}
use Rattle.decimals.specs.Size.{size_of, spelling}
use Rattle.decimals.specs.declared.read.DecimalError.{DecimalError}

-- the limits and the table will do
abbrev pub will_read : ℕ → ℕ → List ℕ → Bool
will_read digits decimals t = leb 3 (length t) && leb digits 18 && leb decimals 0xFFFF_FFFF

-- 0: no decimal, 1: a decimal, 2: one past the limits
abbrev pub kind_of : Result Digits DecimalError → ℕ
kind_of (Ok d) = 1
kind_of (Err DecimalError.Invalid) = 0
kind_of (Err DecimalError.Beyond) = 2

-- a decimal's digits, how many stand behind the point, and 1 for a minus
abbrev pub digit_cells : Digits → List ℕ
digit_cells d = d.digits ∷ d.scale ∷ cond d.negative 1 0 ∷ []

abbrev pub decimal_cells : Result Digits DecimalError → List ℕ
decimal_cells (Ok d) = digit_cells d
decimal_cells (Err DecimalError.Invalid) = []
decimal_cells (Err DecimalError.Beyond) = []

-- its f64
abbrev pub float_cells : Result Digits DecimalError → List Float
float_cells (Ok d) = value_in_of binary64 d.negative d.digits d.scale ∷ []
float_cells (Err DecimalError.Invalid) = []
float_cells (Err DecimalError.Beyond) = []

-- ---- sizes
abbrev pub text_of : Size → List ℕ
text_of z = spelling z.negative z.digits z.scale

-- where the spelling fits, it stands at the start of the bytes b, and the f32 in the first cell; else the answer is 3, and both are as they were
pub record SizePut (z : Size) (b b' : List ℕ) (t t' : List Float) (r : ℕ) : Type 0 where
  pub whole : length (text_of z) ≤ length b → (r ≡ 1) × (b' ≡ sets b 0 (text_of z)) × (t' ≡ sets t 0 (z.value ∷ []))
  pub short : length b < length (text_of z) → (r ≡ 3) × (b' ≡ b) × (t' ≡ t)

abbrev pub SizeOr : Result Digits DecimalError → List ℕ → List ℕ → List Float → List Float → ℕ → Type 0
SizeOr (Ok d) b b' t t' r = SizePut (size_of d) b b' t t' r
SizeOr (Err DecimalError.Invalid) b b' t t' r = (r ≡ 0) × (b' ≡ b) × (t' ≡ t)
SizeOr (Err DecimalError.Beyond) b b' t t' r = (r ≡ 2) × (b' ≡ b) × (t' ≡ t)

-- so where there is a cell
pub record Sized (d : Result Digits DecimalError) (b b' : List ℕ) (t t' : List Float) (r : ℕ) : Type 0 where
  pub cell : 0 < length t → SizeOr d b b' t t' r
  pub none : length t ≡ 0 → (r ≡ 3) × (b' ≡ b) × (t' ≡ t)

-- how many bytes the spelling has, at most 18; else 0
abbrev pub width_of : Result Digits DecimalError → ℕ
width_of (Ok d) = cond (leb (length (text_of (size_of d))) 18) (length (text_of (size_of d))) 0
width_of (Err DecimalError.Invalid) = 0
width_of (Err DecimalError.Beyond) = 0

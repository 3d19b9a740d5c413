-- What the functions on queries answer: the cells of an answer. Definitions alone.
use Rattle.queries.specs.Reply.{Reply}
use Rattle.std.specs.Prelude.{Ok, Err, ℕ, ◌≤◌, ◌<◌, ◌≡◌, Bool, cond, List, [], ◌∷◌, length, replicate, Float}
use Rattle.std.proofs.lemmas.List.Edits.{sets}
use Rattle.colors.specs.declared.read.Rgba.{Rgba}
use Rattle.decimals.specs.declared.size.Size.{Size}
use Rattle.track.specs.declared.strings.Span.{Span}
use Rattle.track.specs.declared.values.Align.{Align}
use Rattle.track.specs.declared.values.Look.{Look}
use Rattle.track.specs.Tables.{span, zero_float}
use Rattle.styles.specs.Cells.{blank_look}
use Rattle.queries.specs.declared.query.Resolved.{Resolved}
use Rattle.told.specs.Told.{told}

abbrev pub flag_cell : Bool → ℕ
flag_cell b = cond b 1 0

abbrev pub align_cell : Align → ℕ
align_cell Align.Start = 0
align_cell Align.Center = 1
align_cell Align.End = 2
align_cell Align.Left = 3
align_cell Align.Right = 4

-- the place of a refusal; 1 for a style; how many ids; the style's name
abbrev pub start_cells : ℕ → ℕ → ℕ → Span → List ℕ
start_cells place style ids name = place ∷ style ∷ ids ∷ name.place ∷ name.len ∷ []

abbrev pub color_cells : ℕ → Rgba → List ℕ
color_cells has c = has ∷ c.r ∷ c.g ∷ c.b ∷ c.a ∷ []

abbrev pub family_cells : ℕ → Span → List ℕ
family_cells has x = has ∷ x.place ∷ x.len ∷ []

abbrev pub size_cells : (has minus : ℕ) → Size → List ℕ
size_cells has minus z = has ∷ minus ∷ z.digits ∷ z.scale ∷ []

-- what a style says, from cells 5, 15 and 22 on
abbrev pub colors_laid : List ℕ → Look → List ℕ
colors_laid out x = sets (sets out 5 (color_cells (flag_cell x.has_color) x.color)) 10 (color_cells (flag_cell x.has_back) x.back)

abbrev pub font_laid : List ℕ → Look → List ℕ
font_laid out x =
    sets (sets out 15 (family_cells (flag_cell x.has_family) x.family)) 18
    (size_cells (flag_cell x.has_size) (flag_cell x.size.negative) x.size)

abbrev pub flags_laid : List ℕ → Look → List ℕ
flags_laid out x =
    sets out 22 (flag_cell x.bold ∷ flag_cell x.italic ∷ flag_cell x.underline ∷ flag_cell x.strike ∷ align_cell x.align ∷ [])

-- ---- an answer
pub record AnswerPut (place style ids : ℕ) (name : Span) (look : Look) (out out' : List ℕ) (size size' : List Float) : Type 0 where
  pub cells : out' ≡ flags_laid (font_laid (colors_laid (sets out 0 (start_cells place style ids name)) look) look) look
  pub float : size' ≡ sets size 0 (look.size.value ∷ [])

-- its number, 0 if it has none; and its cells. Where there is no style, its part says nothing.
abbrev pub ToldAs : Reply → (out out' : List ℕ) → (size size' : List Float) → ℕ → Type 0
ToldAs (Ok (Resolved.Style a)) out out' size size' r = (r ≡ 0) × AnswerPut 0 1 a.ids a.name a.look out out' size size'
ToldAs (Ok (Resolved.NoStyle n)) out out' size size' r = (r ≡ 0) × AnswerPut 0 0 n (span 0 0) blank_look out out' size size'
ToldAs (Err x) out out' size size' r = (r ≡ x.number) × AnswerPut x.place 0 0 (span 0 0) blank_look out out' size size'

-- ---- to a caller in C
-- no room for the answer: "1. A lent table is shorter than its fixed length."
pub record NoRoom (lent left out out' : List ℕ) (size size' : List Float) (r : ℕ) : Type 0 where
  pub is : r ≡ told 1 0
  pub ids : left ≡ replicate (length lent) 0
  pub cells : out' ≡ replicate (length out) 0
  pub floats : size' ≡ replicate (length size) zero_float

-- what the query promises of its answer, which stands in the cells and the float; its number is told
pub record AnswersIn (promise : Reply → List ℕ → Type 0) (left out out' : List ℕ) (size size' : List Float) (r : ℕ) : Type 0 where
  pub answer : Reply
  pub promised : promise answer left
  pub number : ℕ
  pub is : r ≡ told number 0
  pub stands : ToldAs answer (replicate (length out) 0) out' (replicate (length size) zero_float) size' number

-- 27 cells and a float are lent for the answer
pub record AnswersInC (promise : Reply → List ℕ → Type 0) (lent left out out' : List ℕ) (size size' : List Float) (r : ℕ) : Type 0 where
  pub room : 27 ≤ length out → 1 ≤ length size → AnswersIn promise left out out' size size' r
  pub no_cells : length out < 27 → NoRoom lent left out out' size size' r
  pub no_float : length size < 1 → NoRoom lent left out out' size size' r

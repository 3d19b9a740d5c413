-- What a region says of itself by its kept attributes (the Rust's `apply_tts_attrs` on them). Definitions alone.
-- textDecoration is not among them: `REGION_ATTR_ORDER` has it not.
use Rattle.std.specs.Prelude.{Result, Ok, Err, ℕ, Bool, false, ◌||◌, List, take, eqb}
use Prim.Native.String.{String}
use Rattle.std.proofs.Math.Option.{Option, none, some}
use Rattle.scan.specs.Bytes.{digit_byte, run_length_of}
use Rattle.scan.specs.Names.{same_bytes_of, same_folded}
pub use Rattle.scan.specs.Text.{ascii}
use Rattle.utf8.specs.White.{trimmed}
use Rattle.colors.specs.declared.read.Rgba.{Rgba}
use Rattle.colors.specs.Colors.{color_in}
use Rattle.colors.specs.Colors as colors
use Rattle.decimals.specs.declared.size.Size.{Size}
use Rattle.decimals.specs.Decimal.{decimal_of}
use Rattle.decimals.specs.Decimal as decimal
use Rattle.decimals.specs.Size.{size_of}
use Rattle.names.specs.declared.tables.Listed.{Listed}
use Rattle.names.specs.Lists.{name_of}
use Rattle.track.specs.declared.values.Align.{Align}
use Rattle.track.specs.Alignment.{align_word}
use Rattle.track.specs.Track.{Bytes, Look, Extra}
use Rattle.records.specs.Find.{first_that}
use Rattle.decimals.specs.declared.read.DecimalError.{DecimalError}
use Rattle.colors.specs.declared.read.ColorError.{ColorError}
use Rattle.decimals.specs.declared.read.Digits.{Digits}

-- an answer, or document 01's number of what refuses it
pub data Read (A : Type 0) : Type 0 where
  is : A → Read A
  refused : ℕ → Read A

abbrev pub next : {A B : Type 0} → Read A → (A → Read B) → Read B
next (is x) f = f x
next (refused n) f = refused n

-- ---- the value of the first kept attribute of this name; S stands for its bytes, or where they stand
abbrev pub value_from : {S : Type 0} → Option (Extra S) → Option S
value_from none = none
value_from (some x) = some x.value

abbrev pub is_named : {S : Type 0} → String → Extra S → Bool
is_named name x = same_bytes_of (name_of Listed.RegionAttr x.number) (ascii name)

unfoldable pub value_of : {S : Type 0} → String → List (Extra S) → Option S
unfolding first_that
value_of name extras = value_from (first_that (is_named name) extras)

-- ---- values
abbrev pub color_read : Result Rgba ColorError → Read (Option Rgba)
color_read (Ok c) = is (some c)
color_read (Err ColorError.Invalid) = is none
color_read (Err ColorError.Cut) = refused (colors.number_of (Err ColorError.Cut))

abbrev pub color_of : Option Bytes → Read (Option Rgba)
color_of none = is none
color_of (some v) = color_read (color_in v)

abbrev pub size_read : Result Digits DecimalError → Read (Option Size)
size_read (Ok d) = is (some (size_of d))
size_read (Err DecimalError.Invalid) = is none
size_read (Err DecimalError.Beyond) = refused (decimal.number_of (Err DecimalError.Beyond))

-- the digits and points that the value begins with
abbrev pub size_byte : ℕ → Bool
size_byte b = digit_byte b || eqb b 46

abbrev pub size_in : Option Bytes → Read (Option Size)
size_in none = is none
size_in (some v) = size_read (decimal_of (take (run_length_of size_byte v) v) 6 10)

-- the value is this word, in any letter case
abbrev pub is_word : String → Option Bytes → Bool
is_word word none = false
is_word word (some v) = same_folded v (ascii word)

-- white space around the word does not count
abbrev pub align_in : Option Bytes → Align
align_in none = Align.Start
align_in (some v) = align_word (trimmed v)

-- colour, background and size are read in this order: the first that is refused is the answer
unfoldable pub own_values : List (Extra Bytes) → Read (Look Bytes)
unfolding value_of
own_values e =
    next (color_of (value_of "tts:color" e)) λ color.
    next (color_of (value_of "tts:backgroundColor" e)) λ back.
    next (size_in (value_of "tts:fontSize" e)) λ size.
    is (record {
      color = color;
      back = back;
      family = value_of "tts:fontFamily" e;
      size = size;
      bold = is_word "bold" (value_of "tts:fontWeight" e);
      italic = is_word "italic" (value_of "tts:fontStyle" e) || is_word "oblique" (value_of "tts:fontStyle" e);
      underline = false;
      strike = false;
      align = align_in (value_of "tts:textAlign" e);
    })

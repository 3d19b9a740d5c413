-- Steps of the program that writes named styles: nothing here need be believed. z are the strings.
use Rattle.std.specs.Prelude.{Option, Some, None, ℕ, ◌+◌, ◌*◌, ◌≤◌, ◌<◌, ◌≡◌, true, cond, List, [], ◌++◌, length, Float}
use Rattle.scan.specs.Part.{string_at}
use Rattle.entities.specs.Escape.{escaped}
use Rattle.colors.specs.Written.{rgba_text}
use Rattle.decimals.specs.Size.{spelling}
use Rattle.names.specs.declared.tables.Listed.TheVariants.{StyleExtra}
use Rattle.track.specs.declared.values.Align.{Align}
use Rattle.track.specs.declared.values.Look.{Look}
use Rattle.track.specs.Track.{Bytes}
use Rattle.track.specs.Tables.{Tables, cell, style_at}
use Rattle.track.specs.Meaning.{bytes_at, is_color}
use Rattle.records.specs.Find.{Named}
use Rattle.scan.specs.Text.{ascii}
use Rattle.written.specs.Attributes.{size_text}
use Rattle.writer.specs.Puts.{quoted}
use Rattle.writer.specs.Rows.{over, extra_text, ExtrasReady}

-- ---- values, in the order in which they are written
abbrev pub LookWithin : List ℕ → Look → Type 0
LookWithin z x = (x.has_family ≡ true → x.family.place + x.family.len ≤ length z) × (x.has_size ≡ true → x.size.scale ≤ 10)

unfoldable pub look_text : List ℕ → Look → Bytes
unfolding escaped rgba_text spelling
look_text z x =
    cond x.has_color (quoted (ascii " tts:color=\"") (rgba_text x.color)) []
    ++ (cond x.has_back (quoted (ascii " tts:backgroundColor=\"") (rgba_text x.back)) []
    ++ (cond x.has_family (quoted (ascii " tts:fontFamily=\"") (escaped true (bytes_at z x.family))) []
    ++ cond x.has_size (quoted (ascii " tts:fontSize=\"") (size_text x.size)) []))

abbrev pub align_text : Align → Bytes
align_text Align.Start = []
align_text Align.Center = ascii " tts:textAlign=\"center\""
align_text Align.End = ascii " tts:textAlign=\"end\""
align_text Align.Left = ascii " tts:textAlign=\"left\""
align_text Align.Right = ascii " tts:textAlign=\"right\""

unfoldable pub flags_text : Look → Bytes
flags_text x =
    cond x.bold (ascii " tts:fontWeight=\"bold\"") []
    ++ (cond x.italic (ascii " tts:fontStyle=\"italic\"") []
    ++ (cond x.underline (ascii " tts:textDecoration=\"underline\"") []
    ++ align_text x.align))

-- ---- what equal names share: of the row that is found the chain, cells 2 and 3, and the extras, cells 25 and 26
unfoldable pub chain_text : List ℕ → List ℕ → Option ℕ → Bytes
unfolding escaped cell string_at
chain_text t z None = []
chain_text t z (Some j) = quoted (ascii " style=\"") (escaped true (string_at z (cell 27 t j 2) (cell 27 t j 3)))

unfoldable pub kept_text : List ℕ → List ℕ → List ℕ → Option ℕ → Bytes
unfolding cell over extra_text
kept_text t e z None = []
kept_text t e z (Some j) = over (extra_text StyleExtra e z) (cell 27 t j 26) (cell 27 t j 25)

abbrev pub ChainsWithin : List ℕ → List ℕ → ℕ → Type 0
ChainsWithin t z n = (j : ℕ) → j < n → cell 27 t j 2 + cell 27 t j 3 ≤ length z

abbrev pub KeptReady : List ℕ → List ℕ → List ℕ → ℕ → Type 0
KeptReady t e z n = (j : ℕ) → j < n → ExtrasReady StyleExtra e z (cell 27 t j 25) (cell 27 t j 26)

-- ---- what the program asks
-- row i can be read
pub record StyleRow (t : List ℕ) (f : List Float) (z : List ℕ) (i : ℕ) : Type 0 where
  pub row : i * 27 + 27 ≤ length t
  pub size : i + 1 ≤ length f
  pub color : is_color t (i * 27 + 4) ≡ true
  pub back : is_color t (i * 27 + 9) ≡ true
  pub look : LookWithin z (style_at t f i).look

-- the first n rows can be written
pub record StylesReady (T : Tables) (n : ℕ) : Type 0 where
  pub named : Named T.styles T.strings 27 n
  pub chains : ChainsWithin T.styles T.strings n
  pub kept : KeptReady T.styles T.extras T.strings n
  pub rows : (i : ℕ) → i < n → StyleRow T.styles T.sizes T.strings i

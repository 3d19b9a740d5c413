-- Steps of the program that writes the start tag of tt, the head and the whole: nothing here need be believed. p are the parameters, e the
-- extras, z the strings.
use Rattle.std.specs.Prelude.{ℕ, zero, suc, ◌+◌, ◌*◌, ◌≤◌, ◌<◌, ◌≡◌, Bool, true, false, cond, not, ◌&&◌, ◌||◌, List, [], ◌++◌, length, get_or, eqb}
use Rattle.scan.specs.Part.{string_at}
use Rattle.entities.specs.Escape.{escaped}
use Rattle.names.specs.declared.tables.Listed.{Listed}
use Rattle.names.specs.declared.tables.Listed.TheVariants.{StyleExtra, InlineExtra, RegionAttr, InlineModelled, Imsc1Extension}
use Rattle.names.specs.Numbers.{contains_name, is_in}
use Rattle.track.specs.Track.{Bytes, Style, Region}
use Rattle.track.specs.Tables.{Tables, cell, param_at, param_count, style_count, region_count, cue_count}
use Rattle.track.specs.Meaning.{bytes_at}
use Rattle.records.specs.Find.{is_empty}
use Rattle.scan.specs.Text.{ascii}
use Rattle.written.specs.Attributes.{contains}
use Rattle.written.specs.Written.{styling_lines, layout_lines}
use Rattle.writer.specs.Puts.{quoted}
use Rattle.writer.specs.Rows.{over, extra_text, ExtrasReady}
use Rattle.writer.specs.Cues.{CuesReady}
use Rattle.document.specs.Styles.{StylesReady}
use Rattle.document.specs.Regions.{RegionsReady}

-- one of n rows from row i on passes the test
unfoldable pub some_row : (ℕ → Bool) → (n i : ℕ) → Bool
some_row p zero i = false
some_row p (suc n) i = p i || some_row p n (i + 1)

-- ---- parameters
-- row i can be written
pub record ParamReady (p z : List ℕ) (i : ℕ) : Type 0 where
  pub row : i * 4 + 4 ≤ length p
  pub name : (param_at p i).name.place + (param_at p i).name.len ≤ length z
  pub value : (param_at p i).value.place + (param_at p i).value.len ≤ length z

abbrev pub ParamsReady : List ℕ → List ℕ → ℕ → Type 0
ParamsReady p z n = (i : ℕ) → i < n → ParamReady p z i

-- is it one of IMSC 1?
unfoldable pub imsc_row : List ℕ → List ℕ → ℕ → Bool
unfolding is_in param_at
imsc_row p z i = contains_name Imsc1Extension (bytes_at z (param_at p i).name)

-- is it one of IMSC 1, or is it not, as the flag says?
abbrev pub flagged : Bool → Bool → Bool
flagged flag b = cond flag b (not b)

abbrev pub prefix_text : Bool → Bytes
prefix_text imsc = cond imsc (ascii " ittp:") (ascii " ttp:")

unfoldable pub param_text : List ℕ → List ℕ → ℕ → Bytes
unfolding imsc_row escaped
param_text p z i =
    prefix_text (imsc_row p z i)
    ++ (bytes_at z (param_at p i).name ++ quoted (ascii "=\"") (escaped true (bytes_at z (param_at p i).value)))

-- ---- the namespace itts
-- the first name of a list that has the prefix: the last two of three lists have
abbrev pub itts_from : Listed → ℕ
itts_from StyleExtra = 44
itts_from InlineExtra = 45
itts_from RegionAttr = 51
itts_from InlineModelled = 6
itts_from Imsc1Extension = 3

-- the extra in row i
unfoldable pub itts_one : Listed → List ℕ → List ℕ → ℕ → Bool
unfolding contains extra_text
itts_one list e z i = contains (ascii "itts:") (extra_text list e z i)

-- extras in n rows from row `first` on
unfoldable pub itts_rows : Listed → List ℕ → List ℕ → (first n : ℕ) → Bool
unfolding contains over extra_text
itts_rows list e z first n = contains (ascii "itts:") (over (extra_text list e z) n first)

-- the extras of row i, whose first row and number stand in two cells from cell `at` on
unfoldable pub itts_row : Listed → List ℕ → List ℕ → List ℕ → (w at i : ℕ) → Bool
unfolding cell itts_rows
itts_row list t e z w at i = itts_rows list e z (cell w t i at) (cell w t i (at + 1))

pub record OwnersReady (list : Listed) (t e z : List ℕ) (w at n : ℕ) : Type 0 where
  pub rows : n * w ≤ length t
  pub two : at + 2 ≤ w
  pub extras : (i : ℕ) → i < n → ExtrasReady list e z (cell w t i at) (cell w t i (at + 1))

unfoldable pub itts_text : Tables → Bool
unfolding some_row itts_row
itts_text T =
    some_row (itts_row StyleExtra T.styles T.extras T.strings 27 25) (style_count T.head) 0
    || some_row (itts_row RegionAttr T.regions T.extras T.strings 4 2) (region_count T.head) 0
    || some_row (itts_row InlineExtra T.cues T.extras T.strings 11 9) (cue_count T.head) 0

-- ---- the start tag of tt
unfoldable pub lang_text : List ℕ → List ℕ → Bytes
unfolding escaped
lang_text h z =
    cond (eqb (get_or h 5 0) 1) (quoted (ascii " xml:lang=\"") (escaped true (string_at z (get_or h 6 0) (get_or h 7 0)))) (ascii " xml:lang=\"en\"")

-- what stands between the two namespaces that are always declared and the parameters
unfoldable pub namespaces : Tables → Bytes
unfolding some_row imsc_row itts_text
namespaces T =
    cond (some_row (λ (i : ℕ). flagged false (imsc_row T.params T.strings i)) (param_count T.head) 0)
    (ascii " xmlns:ttp=\"http://www.w3.org/ns/ttml#parameter\"") []
    ++ (cond (some_row (λ (i : ℕ). flagged true (imsc_row T.params T.strings i)) (param_count T.head) 0)
    (ascii " xmlns:ittp=\"http://www.w3.org/ns/ttml/profile/imsc1#parameter\"") []
    ++ cond (itts_text T) (ascii " xmlns:itts=\"http://www.w3.org/ns/ttml/profile/imsc1#styling\"") [])

unfoldable pub root_text : Tables → Bytes
unfolding namespaces over param_text lang_text
root_text T =
    ascii "<tt xmlns=\"http://www.w3.org/ns/ttml\" xmlns:tts=\"http://www.w3.org/ns/ttml#styling\""
    ++ (namespaces T ++ (over (param_text T.params T.strings) (param_count T.head) 0 ++ (lang_text T.head T.strings ++ ascii ">\n")))

pub record RootReady (T : Tables) : Type 0 where
  pub head : 10 ≤ length T.head
  pub params : ParamsReady T.params T.strings (param_count T.head)
  pub styles : OwnersReady StyleExtra T.styles T.extras T.strings 27 25 (style_count T.head)
  pub regions : OwnersReady RegionAttr T.regions T.extras T.strings 4 2 (region_count T.head)
  pub cues : OwnersReady InlineExtra T.cues T.extras T.strings 11 9 (cue_count T.head)
  pub lang : eqb (get_or T.head 5 0) 1 ≡ true → get_or T.head 6 0 + get_or T.head 7 0 ≤ length T.strings

-- ---- the head
unfoldable pub head_text : List (Style Bytes) → List (Region Bytes) → Bytes
unfolding styling_lines layout_lines
head_text l m =
    cond (is_empty l && is_empty m) [] (ascii "  <head>\n" ++ (styling_lines l ++ (layout_lines m ++ ascii "  </head>\n")))

-- ---- the whole
pub record WholeReady (T : Tables) : Type 0 where
  pub root : RootReady T
  pub styles : StylesReady T (style_count T.head)
  pub regions : RegionsReady T (region_count T.head)
  pub cues : CuesReady T (cue_count T.head)

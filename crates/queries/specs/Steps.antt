-- What the inner functions of the queries ask and ensure; no part of what a reader of the promise must believe.
--     e are the extras, z the strings, k the number of a name in REGION_ATTR_ORDER; n rows from row i on
use Rattle.queries.specs.Reply.{Reply}
use Rattle.std.specs.Prelude as rust
use Rattle.std.specs.Prelude.{Some, None, Result, Ok, Err, ⊤, ℕ, zero, suc, ◌+◌, ◌*◌, ◌≤◌, ◌<◌, ◌≡◌}
use Rattle.std.specs.Prelude.{Bool, true, false, cond, ◌||◌, List, [], length, get_or, take, replicate, eqb, leb}
use Rattle.std.proofs.Math.Option.{Option, none, some}
use Rattle.scan.specs.Names.{same_folded}
use Rattle.scan.specs.Bytes.{run_length_of}
use Rattle.colors.specs.declared.read.Rgba.{Rgba}
use Rattle.colors.specs.Colors.{color_in}
use Rattle.decimals.specs.declared.size.Size.{Size}
use Rattle.decimals.specs.Decimal.{decimal_of}
use Rattle.track.specs.declared.strings.Span.{Span}
use Rattle.track.specs.declared.values.Look as values
use Rattle.track.specs.Track.{Bytes, Look, Extra, Style, Region}
use Rattle.track.specs.Tables.{Tables, span, rows_from}
use Rattle.track.specs.Meaning.{is_utf8, bytes_at, given, look_in_of, region_in}
use Rattle.track.specs.Check as track
use Rattle.records.specs.Find.{Named, find_region}
use Rattle.styles.specs.declared.apply.Walk.{Walk}
use Rattle.styles.specs.Resolve.{Resolution, resolve}
use Rattle.styles.specs.Own.{Read, is, refused, ascii, value_of, color_read, size_read, size_byte, align_in, own_values}
use Rattle.styles.specs.Queries.{nothing, with_own, region_found}
use Rattle.styles.specs.Cells.{no_color, no_size_of, Tidy}
unfoldable pub use Rattle.queries.specs.Places.{blank_part}
use Rattle.queries.specs.Places.{extras_of, extras_at, part_at}
use Rattle.queries.specs.declared.own.Value.{Value}
use Rattle.queries.specs.declared.own.Paint.{Paint}
use Rattle.queries.specs.declared.own.Measure.{Measure}
use Rattle.queries.specs.declared.region.Part.{Part}
use Rattle.queries.specs.declared.query.Resolved.{Resolved}
use Rattle.decimals.specs.declared.read.DecimalError.{DecimalError}
use Rattle.colors.specs.declared.read.ColorError.{ColorError}
use Rattle.tree.specs.declared.answers.Refusal.{Refusal}

-- ---- rows of extras
abbrev pub no_value_of : Value
no_value_of = record { has = false; span = span 0 0 }

unfoldable pub value_at : List ℕ → (k n i : ℕ) → Value
value_at e k zero i = no_value_of
value_at e k (suc n) i =
    cond (eqb (get_or e (i * 3) 0) k) (record { has = true; span = span (get_or e (i * 3 + 1) 0) (get_or e (i * 3 + 2) 0) })
    (value_at e k n (i + 1))

-- its bytes, where there is one; or none
abbrev pub bytes_in : (e z : List ℕ) → (k n i : ℕ) → Bytes
bytes_in e z k n i = bytes_at z (value_at e k n i).span

abbrev pub value_in_of : (e z : List ℕ) → (k n i : ℕ) → Option Bytes
value_in_of e z k n i = given (value_at e k n i).has (bytes_in e z k n i)

-- a string stands among the strings
pub record SpanIn (z : List ℕ) (x : Span) : Type 0 where
  pub within : x.place + x.len ≤ length z
  pub few : x.place + x.len ≤ 65536

pub record HasExtras (e z : List ℕ) (first many : ℕ) : Type 0 where
  pub rows : (first + many) * 3 ≤ length e
  pub small : first + many ≤ 8192
  pub values : (i : ℕ) → first ≤ i → i < first + many → SpanIn z (span (get_or e (i * 3 + 1) 0) (get_or e (i * 3 + 2) 0))

-- ---- values
abbrev pub says : Bytes → Option Bytes → Bool
says word none = false
says word (some v) = same_folded v word

abbrev pub color_as : rust.Option Paint → Read (Option Rgba)
color_as (Some x) = is (given x.has x.color)
color_as None = color_read (Err ColorError.Cut)

abbrev pub TidyColor : rust.Option Paint → Type 0
TidyColor (Some x) = x.has ≡ false → x.color ≡ no_color
TidyColor None = Unit {0}

pub record ColorPost (v : Bytes) (r : rust.Option Paint) : Type 0 where
  pub is : color_as r ≡ color_read (color_in v)
  pub tidy : TidyColor r

abbrev pub size_as : rust.Option Measure → Read (Option Size)
size_as (Some x) = is (given x.has x.size)
size_as None = size_read (Err DecimalError.Beyond)

abbrev pub TidySize : rust.Option Measure → Type 0
TidySize (Some x) = x.has ≡ false → x.size ≡ no_size_of
TidySize None = Unit {0}

pub record SizePost (v : Bytes) (r : rust.Option Measure) : Type 0 where
  pub is : size_as r ≡ size_read (decimal_of (take (run_length_of size_byte v) v) 6 10)
  pub tidy : TidySize r

abbrev pub own_look : (e z : List ℕ) → (first many : ℕ) → Paint → Paint → Measure → values.Look
own_look e z first many color back size = record {
  has_color = color.has;
  color = color.color;
  has_back = back.has;
  back = back.color;
  has_family = (value_at e 15 many first).has;
  family = (value_at e 15 many first).span;
  has_size = size.has;
  size = size.size;
  bold = says (ascii "bold") (value_in_of e z 22 many first);
  italic = says (ascii "italic") (value_in_of e z 20 many first) || says (ascii "oblique") (value_in_of e z 20 many first);
  underline = false;
  strike = false;
  align = align_in (value_in_of e z 39 many first);
}

abbrev pub own_as : List ℕ → Result values.Look ℕ → Read (Look Bytes)
own_as z (Ok l) = is (look_in_of z l)
own_as z (Err n) = refused n

abbrev pub TidyOwn : Result values.Look ℕ → Type 0
TidyOwn (Ok l) = Tidy l
TidyOwn (Err n) = 0 < n

-- the family stands where the attribute's value does
abbrev pub FamilyAt : List (Extra Span) → Result values.Look ℕ → Type 0
FamilyAt extras (Ok l) = value_of "tts:fontFamily" extras ≡ given l.has_family l.family
FamilyAt extras (Err n) = Unit {0}

pub record OwnPost (e z : List ℕ) (first many : ℕ) (r : Result values.Look ℕ) : Type 0 where
  pub is : own_as z r ≡ own_values (extras_of e z first many)
  pub tidy : TidyOwn r
  pub family : FamilyAt (extras_at e first many) r

-- ---- regions; r is their table
pub record HasRegions (r e z : List ℕ) (n : ℕ) : Type 0 where
  pub named : Named r z 4 n
  pub extras : (i : ℕ) → i < n → HasExtras e z (get_or r (i * 4 + 2) 0) (get_or r (i * 4 + 3) 0)

abbrev pub region_tables : (r e z : List ℕ) → Tables
region_tables r e z = record {
  head = [];
  params = [];
  styles = [];
  regions = r;
  cues = [];
  times = [];
  segments = [];
  sizes = [];
  extras = e;
  strings = z;
  texts = [];
}

abbrev pub regions_of : (r e z : List ℕ) → ℕ → List (Region Bytes)
regions_of r e z n = rows_from (region_in (region_tables r e z)) n 0

abbrev pub part_as : List ℕ → List (Style Bytes) → Result Part ℕ → Read Resolution
part_as z styles (Ok x) = is (with_own (resolve styles (bytes_at z x.chain)) (look_in_of z x.look))
part_as z styles (Err n) = refused n

abbrev pub PartWithin : List ℕ → Result Part ℕ → Type 0
PartWithin z (Ok x) = SpanIn z x.chain × Tidy x.look
PartWithin z (Err n) = 0 < n

abbrev pub part_read : Result Part ℕ → Read Part
part_read (Ok x) = is x
part_read (Err n) = refused n

-- the answer of a region, whatever the styles; and the part itself
pub record PartPost (z : List ℕ) (answer : List (Style Bytes) → Read Resolution) (part : Read Part) (r : Result Part ℕ) : Type 0 where
  pub is : (styles : List (Style Bytes)) → part_as z styles r ≡ answer styles
  pub within : PartWithin z r
  pub placed : part ≡ part_read r

abbrev pub RegionPost : (r e z : List ℕ) → (n : ℕ) → Bytes → Result Part ℕ → Type 0
RegionPost r e z n id x = PartPost z (λ styles. region_found styles (find_region id (regions_of r e z n))) (part_at r e z n id) x

abbrev pub CueRegionPost : (r e z : List ℕ) → (n : ℕ) → Bool → Span → Result Part ℕ → Type 0
CueRegionPost r e z n has id x =
    PartPost z (λ styles. cond has (region_found styles (find_region (bytes_at z id) (regions_of r e z n))) (is nothing))
    (cond has (part_at r e z n (bytes_at z id)) (is blank_part)) x

-- ---- the numbers that come first
unfoldable pub check_rest : Bytes → Result ⊤ Refusal → Result ⊤ Refusal
check_rest text c = cond (leb (length text) 65536) (cond (is_utf8 text) c (track.refused_as_of 3)) (track.refused_as_of 2)

abbrev pub is_short : Result ⊤ Refusal → Bool
is_short (Ok tt) = false
is_short (Err r) = eqb r.number 1

unfoldable pub check_text : Bytes → Result ⊤ Refusal → Result ⊤ Refusal
unfolding check_rest
check_text text c = cond (is_short c) (track.refused_as_of 1) (check_rest text c)

unfoldable pub query_check : Bytes → Tables → Result ⊤ Refusal
unfolding check_text track.check_of
query_check text T = check_text text (track.check_of T)

-- ---- the end
abbrev pub refused_as_of : ℕ → Reply
refused_as_of n = Err (record { number = n; place = 0 })

abbrev pub answer_of : Span → Walk → Reply
answer_of name w = cond w.found (Ok (Resolved.Style (record { name = name; look = w.look; ids = w.count }))) (Ok (Resolved.NoStyle w.count))

abbrev pub FinishPost : Span → rust.Option Walk → (t t' : List ℕ) → Reply → Type 0
FinishPost name (Some w) t t' r = (r ≡ answer_of name w) × (t' ≡ t)
FinishPost name None t t' r = (r ≡ refused_as_of 18) × (t' ≡ replicate (length t) 0)

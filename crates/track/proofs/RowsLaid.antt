-- Parameters, regions and styles are read back from their rows. Assumes nothing.
--     flag_is, optional-read, color-read, size-read, align_read    what a row has cells for: the test and the value
--     optional-long, size-long, style_long                        how many cells
--     four, on                                                    parts of a row, and their places
--     param_read, region_read, style_read                         a row
use Prim.Native.Nat.{ℕ, ◌+◌, ◌*◌, ◌<◌}
use mathlib.Core.Path.{◌≡◌, refl, ◌∙◌}
use mathlib.Core.Bool.{Bool, true, false, not, cond}
use mathlib.Core.List.{List, ◌++◌}
use native.Mathlib.Omega.{arith}
use native.Mathlib.Nat.{add-zero}
use lib.ListN.{length, get_or, length-append}
use lib.Dec.{eqb, leb}
use lib.Ieee.{Float}
use borrow.Author.Tests.{lt-ltb}
use Rattle.colors.specs.declared.read.Rgba.{Rgba}
use Rattle.decimals.specs.declared.size.Size.{Size}
use Rattle.track.specs.declared.strings.Span.{Span}
use Rattle.track.specs.declared.values.Param.{Param}
use Rattle.track.specs.declared.values.Align.{Align}
use Rattle.track.specs.declared.values.Look.{Look}
use Rattle.track.specs.declared.values.Style.{Style}
use Rattle.track.specs.Tables.{Tables, cell, span, optional, size_cell, param_at, region_at, style_at, color_at, size_at, align_at, look_at}
use Rattle.track.specs.Meaning.{is_optional, is_byte, are_three, is_color, is_size_at, is_flag, is_param, is_region, is_style, style_strings}
use Rattle.track.specs.Meaning.{style_values, style_flags, bytes_at, given, look_in_of, region_in, style_in}
use Rattle.track.specs.Layout.{flag, span_cells, optional_cells, color_cells, size_cells, size_value, style_size, align_cell, param_cells}
use Rattle.track.specs.Layout.{region_cells, flag_cells, look_cells, style_cells, PlacedStyle, PlacedRegion}
use Rattle.track.specs.Placing.{WithinIf, ColorIf, SizeIf, ParamFits, RegionFits, StyleFits}
use Rattle.track.specs.Shown.{shown_param, shown_region, shown_style, shown_chain}
use Rattle.track.proofs.ShownLaws.{param_in}
use Rattle.track.proofs.ReadBack.{Reads, reads_first, reads_rest}
use Rattle.track.proofs.ExtrasLaid.{cells_of, extras_read}
use Rattle.track.proofs.Packed.{sign_is}

-- ---- values
pub flag_is : (b : Bool) → (is_flag (flag b) ≡ true) × (eqb (flag b) 1 ≡ b)
unfolding is_flag
flag_is true = (refl, refl)
flag_is false = (refl, refl)

pub optional-long : (b : Bool) (x : Span) → length (optional_cells b x) ≡ 3
optional-long true x = refl
optional-long false x = refl

color-long : (b : Bool) (c : Rgba) → length (color_cells b c) ≡ 5
unfolding color_cells
color-long true c = refl
color-long false c = refl

pub size-long : (b : Bool) (s : Size) → length (size_cells b s) ≡ 3
unfolding size_cells
size-long true s = refl
size-long false s = refl

-- a string that may be absent, which begins at place p: its test, and its value
pub record OptionalRead (t : List ℕ) (p : ℕ) (z w : List ℕ) (b : Bool) (x : Span) : Type 0 where
  pub fits : is_optional w (get_or t p 0) (get_or t (p + 1) 0) (get_or t (p + 2) 0) ≡ true
  pub bytes : given (eqb (get_or t p 0) 1) (bytes_at z (optional (get_or t p 0) (get_or t (p + 1) 0) (get_or t (p + 2) 0))) ≡ given b (bytes_at z x)
  pub bare : given (eqb (get_or t p 0) 1) (bytes_at z (span (get_or t (p + 1) 0) (get_or t (p + 2) 0))) ≡ given b (bytes_at z x)
  pub there : given (eqb (get_or t p 0) 1) (optional (get_or t p 0) (get_or t (p + 1) 0) (get_or t (p + 2) 0)) ≡ given b x

-- a size
pub record SizeRead (t : List ℕ) (p : ℕ) (v : Float) (b : Bool) (s : Size) : Type 0 where
  pub fits : is_size_at (get_or t p 0) (get_or t (p + 1) 0) (get_or t (p + 2) 0) v ≡ true
  pub is : given (not (eqb (get_or t p 0) 0)) (size_at (get_or t p 0) (get_or t (p + 1) 0) (get_or t (p + 2) 0) v) ≡ given b s
  pub bare :
      given (not (eqb (get_or t p 0) 0)) (record { value = v; negative = eqb (get_or t p 0) 2; digits = get_or t (p + 1) 0; scale = get_or t (p + 2) 0 })
      ≡ given b s

module _ (t : List ℕ) (p : ℕ) where
  -- what the first of some cells says
  first_cell : (c : List ℕ) → Reads 0 t p c → 0 < length c → get_or t p 0 ≡ get_or c 0 0
  first_cell c h l = let e : p + 0 ≡ p = add-zero p in rw e at (h 0 l)

  pub optional-read : (z w : List ℕ) (b : Bool) (x : Span) → Reads 0 t p (optional_cells b x) → WithinIf w b x → OptionalRead t p z w b x
  unfolding is_optional optional
  optional-read z w true x h f =
      let a : get_or t p 0 ≡ 1 = first_cell (optional_cells true x) h (omega arith) in
      let b : get_or t (p + 1) 0 ≡ x.place = h 1 (omega arith) in
      let c : get_or t (p + 2) 0 ≡ x.len = h 2 (omega arith) in
      record { fits = rw (a, b, c) (f refl); bytes = rw (a, b, c); bare = rw (a, b, c); there = rw (a, b, c) }
  optional-read z w false x h f =
      let a : get_or t p 0 ≡ 0 = first_cell (optional_cells false x) h (omega arith) in
      record { fits = rw a; bytes = rw a; bare = rw a; there = rw a }

  pub color-read : (b : Bool) (c : Rgba) → Reads 0 t p (color_cells b c) → ColorIf b c
      → (is_color t p ≡ true) × (given (eqb (get_or t p 0) 1) (color_at t p) ≡ given b c)
  unfolding color_cells is_color are_three is_byte color_at
  color-read true c h f =
      let a : get_or t p 0 ≡ 1 = first_cell (color_cells true c) h (omega arith) in
      let r : get_or t (p + 1) 0 ≡ c.r = h 1 (omega arith) in
      let g : get_or t (p + 2) 0 ≡ c.g = h 2 (omega arith) in
      let b : get_or t (p + 3) 0 ≡ c.b = h 3 (omega arith) in
      let d : get_or t (p + 4) 0 ≡ c.a = h 4 (omega arith) in
      let e : p + 1 + 1 ≡ p + 2 = omega arith in
      let e' : p + 1 + 2 ≡ p + 3 = omega arith in
      let y = f refl in
      rw (a, e, e', r, g, b, d, lt-ltb c.r 256 y.0, lt-ltb c.g 256 y.1, lt-ltb c.b 256 y.2, lt-ltb c.a 256 y.3) (refl, refl)
  color-read false c h f =
      let a : get_or t p 0 ≡ 0 = first_cell (color_cells false c) h (omega arith) in
      rw a (refl, refl)

  pub size-read : (v : Float) (b : Bool) (s : Size) → v ≡ size_value b s → Reads 0 t p (size_cells b s) → SizeIf b s → SizeRead t p v b s
  unfolding size_cells is_size_at size_at
  size-read v true s e h f =
      let a : get_or t p 0 ≡ cond s.negative 2 1 = first_cell (size_cells true s) h (omega arith) in
      let b : get_or t (p + 1) 0 ≡ s.digits = h 1 (omega arith) in
      let c : get_or t (p + 2) 0 ≡ s.scale = h 2 (omega arith) in
      let q = sign_is s.negative in
      record { fits = rw (a, b, c, e, q.0, q.1, q.2) (f refl); is = rw (a, b, c, e, q.0, q.1); bare = rw (a, b, c, e, q.0, q.1) }
  size-read v false s e h f =
      let a : get_or t p 0 ≡ 0 = first_cell (size_cells false s) h (omega arith) in
      record { fits = rw a; is = rw a; bare = rw a }

pub align_read : (a : Align) → (leb (align_cell a) 4 ≡ true) × (align_at (align_cell a) ≡ a)
unfolding align_cell align_at
align_read Align.Start = (refl, refl)
align_read Align.Center = (refl, refl)
align_read Align.End = (refl, refl)
align_read Align.Left = (refl, refl)
align_read Align.Right = (refl, refl)

-- ---- rows
module _ (T : Tables) (z : List ℕ) where
  pub param_read : (i : ℕ) (x : Param) → Reads 0 T.params (i * 4) (param_cells x) → ParamFits z x
      → (is_param T.params z i ≡ true) × (param_in T i ≡ shown_param T.strings x)
  unfolding param_cells is_param cell param_in param_at shown_param
  param_read i x h f =
      let a : cell 4 T.params i 0 ≡ x.name.place = h 0 (omega arith) in
      let b : cell 4 T.params i 1 ≡ x.name.len = h 1 (omega arith) in
      let c : cell 4 T.params i 2 ≡ x.value.place = h 2 (omega arith) in
      let d : cell 4 T.params i 3 ≡ x.value.len = h 3 (omega arith) in
      (rw (a, b, c, d, f.name, f.value, f.letters), rw (a, b, c, d))

  pub region_read : (i : ℕ) (x : PlacedRegion) → Reads 0 T.regions (i * 4) (region_cells x.region)
      → Reads 0 T.extras (x.region.extras.first * 3) (cells_of x.extras) → RegionFits z x
      → (is_region T.regions T.extras z i ≡ true) × (region_in T i ≡ shown_region T.strings x)
  unfolding region_cells is_region cell region_in region_at shown_region
  region_read i x h r f =
      let a : cell 4 T.regions i 0 ≡ x.region.id.place = h 0 (omega arith) in
      let b : cell 4 T.regions i 1 ≡ x.region.id.len = h 1 (omega arith) in
      let c : cell 4 T.regions i 2 ≡ x.region.extras.first = h 2 (omega arith) in
      let d : cell 4 T.regions i 3 ≡ x.region.extras.count = h 3 (omega arith) in
      let q = extras_read T z 53 x.region.extras x.extras f.extras r in
      (rw (a, b, c, d, f.id) q.0, rw (a, b, c, d, q.1))

-- the parts of a style's row, which begins at place p
record Parts (t : List ℕ) (p : ℕ) (x : Style) : Type 0 where
  pub name : (get_or t p 0 ≡ x.name.place) × (get_or t (p + 0) 0 ≡ x.name.place) × (get_or t (p + 1) 0 ≡ x.name.len)
  pub chain : (get_or t (p + 2) 0 ≡ x.chain.place) × (get_or t (p + 3) 0 ≡ x.chain.len)
  pub color : Reads 0 t (p + 4) (color_cells x.look.has_color x.look.color)
  pub back : Reads 0 t (p + 9) (color_cells x.look.has_back x.look.back)
  pub family : Reads 0 t (p + 14) (optional_cells x.look.has_family x.look.family)
  pub size : Reads 0 t (p + 17) (size_cells x.look.has_size x.look.size)
  pub flags :
      (get_or t (p + 20) 0 ≡ flag x.look.bold) × (get_or t (p + 21) 0 ≡ flag x.look.italic) × (get_or t (p + 22) 0 ≡ flag x.look.underline)
      × (get_or t (p + 23) 0 ≡ flag x.look.strike) × (get_or t (p + 24) 0 ≡ align_cell x.look.align)
  pub extras : (get_or t (p + 25) 0 ≡ x.extras.first) × (get_or t (p + 26) 0 ≡ x.extras.count)

-- parts of a row, one after the other
module _ (t : List ℕ) (p : ℕ) where
  pub four : (j k l : ℕ) (a b c d : List ℕ) → length a ≡ j → length b ≡ k → length c ≡ l → Reads 0 t p (a ++ b ++ c ++ d)
      → Reads 0 t p a × Reads 0 t (p + j) b × Reads 0 t (p + (j + k)) c × Reads 0 t (p + (j + k + l)) d
  four j k l a b c d ea eb ec h =
      let m : length (a ++ b) ≡ j + k = length-append a b ∙ omega arith in
      let n : length (a ++ b ++ c) ≡ j + k + l = length-append (a ++ b) c ∙ omega arith in
      let f : Reads 0 t p (a ++ b ++ c) = reads_first 0 t p (a ++ b ++ c) d h in
      let g : Reads 0 t p (a ++ b) = reads_first 0 t p (a ++ b) c f in (
        reads_first 0 t p a b g,
        reads_rest 0 t p a b g (p + j) (omega arith),
        reads_rest 0 t p (a ++ b) c f (p + (j + k)) (omega arith),
        reads_rest 0 t p (a ++ b ++ c) d h (p + (j + k + l)) (omega arith),
      )

  three : (a b c : List ℕ) → length a ≡ 4 → length b ≡ 21 → Reads 0 t p (a ++ b ++ c) → Reads 0 t p a × Reads 0 t (p + 4) b × Reads 0 t (p + 25) c
  three a b c i j h =
      let m : length (a ++ b) ≡ 25 = length-append a b ∙ omega arith in
      let f : Reads 0 t p (a ++ b) = reads_first 0 t p (a ++ b) c h in
      (reads_first 0 t p a b f, reads_rest 0 t p a b f (p + 4) (omega arith), reads_rest 0 t p (a ++ b) c h (p + 25) (omega arith))

-- what stands before the flags
abbrev parts_before : Look → List ℕ
parts_before x =
    color_cells x.has_color x.color ++ color_cells x.has_back x.back ++ optional_cells x.has_family x.family
    ++ size_cells x.has_size x.size

before-long : (x : Look) → length (parts_before x) ≡ 16
before-long x = rw (
  length-append,
  length-append,
  length-append,
  color-long x.has_color x.color,
  color-long x.has_back x.back,
  optional-long x.has_family x.family,
  size-long x.has_size x.size,
)

look-long : (x : Look) → length (look_cells x) ≡ 21
unfolding look_cells flag_cells
look-long x = length-append (parts_before x) (flag_cells x) ∙ rw (before-long x)

pub style_long : (x : Style) → length (style_cells x) ≡ 27
unfolding style_cells
style_long x = let a = span_cells x.name ++ span_cells x.chain in
    rw (length-append (a ++ look_cells x.look), length-append a, look-long x.look)

look-parts : (t : List ℕ) (p : ℕ) (x : Look) → Reads 0 t p (look_cells x)
    → Reads 0 t p (color_cells x.has_color x.color) × Reads 0 t (p + 5) (color_cells x.has_back x.back)
    × Reads 0 t (p + 10) (optional_cells x.has_family x.family) × Reads 0 t (p + 13) (size_cells x.has_size x.size)
unfolding look_cells
look-parts t p x w =
    let h = reads_first 0 t p (parts_before x) (flag_cells x) w in
    four t p 5 5 3 (color_cells x.has_color x.color) (color_cells x.has_back x.back) (optional_cells x.has_family x.family)
    (size_cells x.has_size x.size) (color-long x.has_color x.color) (color-long x.has_back x.back)
    (optional-long x.has_family x.family) h

-- a place, counted on
pub on : (p a b c : ℕ) → a + b ≡ c → p + a + b ≡ p + c
on p a b c e = omega arith

flags_read : (t : List ℕ) (p : ℕ) (x : Look) → Reads 0 t (p + 4) (look_cells x)
    → (get_or t (p + 20) 0 ≡ flag x.bold) × (get_or t (p + 21) 0 ≡ flag x.italic) × (get_or t (p + 22) 0 ≡ flag x.underline)
    × (get_or t (p + 23) 0 ≡ flag x.strike) × (get_or t (p + 24) 0 ≡ align_cell x.align)
unfolding look_cells flag_cells
flags_read t p x w =
    let h = reads_rest 0 t (p + 4) (parts_before x) (flag_cells x) w (p + 20) (omega (arith, before-long x)) in (
      rw (on p 20 0 20 refl) at (h 0 (omega arith)),
      rw (on p 20 1 21 refl) at (h 1 (omega arith)),
      rw (on p 20 2 22 refl) at (h 2 (omega arith)),
      rw (on p 20 3 23 refl) at (h 3 (omega arith)),
      rw (on p 20 4 24 refl) at (h 4 (omega arith)),
    )

parts : (t : List ℕ) (p : ℕ) (x : Style) → Reads 0 t p (style_cells x) → Parts t p x
unfolding style_cells
parts t p x h =
    let a = span_cells x.name ++ span_cells x.chain in
    let q = three t p a (look_cells x.look) _ refl (look-long x.look) h in
    let l = look-parts t (p + 4) x.look q.1 in
    let e = q.2 in
    let ha = q.0 in
    record {
      name = (first_cell t p a ha (omega arith), ha 0 (omega arith), ha 1 (omega arith));
      chain = (ha 2 (omega arith), ha 3 (omega arith));
      color = l.0;
      back = rw (on p 4 5 9 refl) at l.1;
      family = rw (on p 4 10 14 refl) at l.2;
      size = rw (on p 4 13 17 refl) at l.3;
      flags = flags_read t p x.look q.1;
      extras = (rw (on p 25 0 25 refl) at (e 0 (omega arith)), rw (on p 25 1 26 refl) at (e 1 (omega arith)));
    }

module _ (T : Tables) (z : List ℕ) (i : ℕ) (x : PlacedStyle) (h : Reads 0 T.styles (i * 27) (style_cells x.style)) (f : StyleFits z x) where
  q : Parts T.styles (i * 27) x.style
  q = parts T.styles (i * 27) x.style h

  q_family : OptionalRead T.styles (i * 27 + 14) T.strings z x.style.look.has_family x.style.look.family
  q_family = optional-read T.styles (i * 27 + 14) T.strings z x.style.look.has_family x.style.look.family q.family f.family

  strings-fit : style_strings T.styles z (i * 27) ≡ true
  unfolding style_strings
  strings-fit =
      rw (
        q.name.0,
        q.name.2,
        q.chain.0,
        q.chain.1,
        f.name,
        f.chain,
        ← (on (i * 27) 14 1 15 refl),
        ← (on (i * 27) 14 2 16 refl),
      )
      q_family.fits

  flags_fit : style_flags T.styles (i * 27) ≡ true
  unfolding style_flags
  flags_fit =
      let s = x.style.look in
      rw (
        q.flags.0,
        q.flags.1,
        q.flags.2,
        q.flags.3,
        q.flags.4,
        (flag_is s.bold).0,
        (flag_is s.italic).0,
        (flag_is s.underline).0,
        (flag_is s.strike).0,
      )
      (align_read s.align).0

  module _ (e : size_cell T.sizes i ≡ style_size x) where
    q_size : SizeRead T.styles (i * 27 + 17) (size_cell T.sizes i) x.style.look.has_size x.style.look.size
    q_size = size-read T.styles (i * 27 + 17) (size_cell T.sizes i) x.style.look.has_size x.style.look.size e q.size
        f.size

    values_fit : style_values T.styles (size_cell T.sizes i) (i * 27) ≡ true
    unfolding style_values
    values_fit =
        rw (
          (color-read T.styles (i * 27 + 4) _ _ q.color f.color).0,
          (color-read T.styles (i * 27 + 9) _ _ q.back f.back).0,
          ← (on (i * 27) 17 1 18 refl),
          ← (on (i * 27) 17 2 19 refl),
        )
        q_size.fits

    module _ (r : Reads 0 T.extras (x.style.extras.first * 3) (cells_of x.extras)) where
      style_fits : is_style T.styles T.sizes T.extras z i ≡ true
      unfolding is_style
      style_fits = rw (strings-fit, values_fit, flags_fit, q.extras.0, q.extras.1)
          (extras_read T z 46 x.style.extras x.extras f.extras r).0

      style_means : style_in T i ≡ shown_style T.strings x
      unfolding style_in style_at look_at cell shown_style shown_chain look_in_of
      style_means =
          let s = x.style.look in
          rw (
            q.name.1,
            q.name.2,
            q.chain.0,
            q.chain.1,
            (color-read T.styles (i * 27 + 4) _ _ q.color f.color).1,
            (color-read T.styles (i * 27 + 9) _ _ q.back f.back).1,
            ← (on (i * 27) 14 1 15 refl),
            ← (on (i * 27) 14 2 16 refl),
            q_family.bytes,
            ← (on (i * 27) 17 1 18 refl),
            ← (on (i * 27) 17 2 19 refl),
            q_size.is,
            q.flags.0,
            q.flags.1,
            q.flags.2,
            q.flags.3,
            q.flags.4,
            (flag_is s.bold).1,
            (flag_is s.italic).1,
            (flag_is s.underline).1,
            (flag_is s.strike).1,
            (align_read s.align).1,
            q.extras.0,
            q.extras.1,
            (extras_read T z 46 x.style.extras x.extras f.extras r).1,
          )

      pub style_read : (is_style T.styles T.sizes T.extras z i ≡ true) × (style_in T i ≡ shown_style T.strings x)
      style_read = (style_fits, style_means)

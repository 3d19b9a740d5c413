-- What a region says of itself. Assumes nothing.
--     color-read, size-read, align_read         an absent value reads as an empty one
--     own-cut, own-cut_back, own-beyond, own-all     the ways through `own_values`
use Rattle.std.specs.Prelude as rust
use Rattle.std.specs.Prelude.{Some, None, Ok, Err}
use Prim.Native.Nat.{ℕ, ◌≤◌, ◌<◌}
use mathlib.Core.Path.{◌≡◌, refl, sym, ◌∙◌}
use mathlib.Core.Bool.{Bool, true, false}
use mathlib.Core.List.{List, []}
use mathlib.Core.Option.{Option, none, some}
use native.Mathlib.Omega.{arith}
use native.Mathlib.Nat.{zero-sub, zero-add}
use lib.ListN.{length, get_or, take}
use Rattle.scan.specs.Bytes.{run_length_of, run_end_of}
use Rattle.scan.proofs.Runs.{run-here, run_out, run_length}
use Rattle.scan.specs.Part.{string_at}
use Rattle.scan.specs.Names.{same_bytes_of, same_folded}
use Rattle.utf8.specs.White.{trimmed, white_end}
use Rattle.scan.proofs.Every.{by-test}
use Rattle.colors.specs.declared.read.Rgba.{Rgba}
use Rattle.colors.specs.Colors.{color, color_in}
use Rattle.colors.specs.Named.{named_in}
use Rattle.decimals.specs.declared.size.Size.{Size}
use Rattle.decimals.specs.Decimal.{decimal_of}
use Rattle.decimals.specs.Size.{size_of}
use Rattle.decimals.specs.declared.read.Digits.{Digits}
use Rattle.decimals.proofs.Tests.{no}
use Rattle.track.specs.Alignment.{align_word}
use Rattle.track.specs.declared.values.Align.{Align}
use Rattle.track.specs.declared.values.Look as values
use Rattle.track.specs.Track.{Bytes, Extra}
use Rattle.track.specs.Meaning.{bytes_at, given, look_in_of}
use Rattle.styles.specs.Own.{is, ascii, value_of, color_read, color_of, size_read, size_byte, size_in, is_word, align_in, own_values}
use Rattle.styles.specs.Cells.{no_color, no_size_of}
use Rattle.queries.specs.declared.own.Value.{Value}
use Rattle.queries.specs.declared.own.Paint.{Paint}
use Rattle.queries.specs.declared.own.Measure.{Measure}
use Rattle.queries.specs.Places.{extras_of, extras_at}
use Rattle.queries.specs.Steps.{
  value_at,
  bytes_in,
  value_in_of,
  SpanIn,
  HasExtras,
  says,
  color_as,
  ColorPost,
  size_as,
  SizePost,
  own_look,
  OwnPost,
}
use Rattle.queries.proofs.Numbered.{once_at, value-named, value-placed, value-absent, value-within}
use Rattle.decimals.specs.declared.read.DecimalError.{DecimalError}
use Rattle.colors.specs.declared.read.ColorError.{ColorError}

no_bytes : (z : List ℕ) → string_at z 0 0 ≡ []
unfolding string_at
no_bytes z = refl

no_trim : trimmed [] ≡ []
unfolding trimmed
no_trim = rw (zero-sub (white_end [] 0))

no-color : color_read (color_in []) ≡ is none
unfolding color_in color named_in same_folded
no-color = rw no_trim

no_size : size_read (decimal_of (take (run_length_of size_byte []) []) 6 10) ≡ is none
unfolding decimal_of run_length_of same_folded
no_size = refl

no_align : align_word (trimmed []) ≡ Align.Start
unfolding same_folded
no_align = rw no_trim

module _ (e z : List ℕ) (k n i : ℕ) where
  absent : (value_at e k n i).has ≡ false → bytes_in e z k n i ≡ []
  absent h = rw (value-absent e k n i h) (no_bytes z)

  pub color-read : color_read (color_in (bytes_in e z k n i)) ≡ color_of (value_in_of e z k n i)
  color-read = by-test (value_at e k n i).has (λ h. rw h) (λ h. rw (h, absent h) no-color)

  pub size-read : size_read (decimal_of (take (run_length_of size_byte (bytes_in e z k n i)) (bytes_in e z k n i)) 6 10) ≡ size_in (value_in_of e z k n i)
  size-read = by-test (value_at e k n i).has (λ h. rw h) (λ h. rw (h, absent h) no_size)

  pub align_read : align_word (trimmed (bytes_in e z k n i)) ≡ align_in (value_in_of e z k n i)
  align_read = by-test (value_at e k n i).has (λ h. rw h) (λ h. rw (h, absent h) no_align)

module _ (e z : List ℕ) (i n : ℕ) where
  abbrev l : List (Extra Bytes)
  l = extras_of e z i n

  color-is : value_of "tts:color" l ≡ value_in_of e z 9 n i
  unfolding once_at same_bytes_of
  color-is = value-named "tts:color" 9 refl e z n i

  back_is : value_of "tts:backgroundColor" l ≡ value_in_of e z 1 n i
  unfolding once_at same_bytes_of
  back_is = value-named "tts:backgroundColor" 1 refl e z n i

  size_is : value_of "tts:fontSize" l ≡ value_in_of e z 19 n i
  unfolding once_at same_bytes_of
  size_is = value-named "tts:fontSize" 19 refl e z n i

  family_is : value_of "tts:fontFamily" l ≡ value_in_of e z 15 n i
  unfolding once_at same_bytes_of
  family_is = value-named "tts:fontFamily" 15 refl e z n i

  family_at : value_of "tts:fontFamily" (extras_at e i n) ≡ given (value_at e 15 n i).has (value_at e 15 n i).span
  unfolding once_at same_bytes_of
  family_at = value-placed "tts:fontFamily" 15 refl e n i

  weight_is : value_of "tts:fontWeight" l ≡ value_in_of e z 22 n i
  unfolding once_at same_bytes_of
  weight_is = value-named "tts:fontWeight" 22 refl e z n i

  font-style_is : value_of "tts:fontStyle" l ≡ value_in_of e z 20 n i
  unfolding once_at same_bytes_of
  font-style_is = value-named "tts:fontStyle" 20 refl e z n i

  align_is : value_of "tts:textAlign" l ≡ value_in_of e z 39 n i
  unfolding once_at same_bytes_of
  align_is = value-named "tts:textAlign" 39 refl e z n i

  pub chain_is : value_of "style" l ≡ value_in_of e z 50 n i
  unfolding once_at same_bytes_of
  chain_is = value-named "style" 50 refl e z n i

  pub chain-at : value_of "style" (extras_at e i n) ≡ given (value_at e 50 n i).has (value_at e 50 n i).span
  unfolding once_at same_bytes_of
  chain-at = value-placed "style" 50 refl e n i

  says-word : (w : Prim.Native.String.String) (v : Option Bytes) → says (ascii w) v ≡ is_word w v
  says-word w none = refl
  says-word w (some v) = refl

  -- what is read first
  module _ (r : rust.Option Paint) (p : ColorPost (bytes_in e z 9 n i) r) where
    color-read_is : color_of (value_of "tts:color" l) ≡ color_as r
    color-read_is = rw color-is (sym (color-read e z 9 n i)) ∙ sym p.is

    pub own-cut : r ≡ None → OwnPost e z i n (Err 15)
    unfolding own_values
    own-cut h = record { is = rw (color-read_is, h); tidy = omega arith; family = tt }

    module _ (color : Paint) (h : r ≡ Some color) (s : rust.Option Paint) (q : ColorPost (bytes_in e z 1 n i) s) where
      back_read_is : color_of (value_of "tts:backgroundColor" l) ≡ color_as s
      back_read_is = rw back_is (sym (color-read e z 1 n i)) ∙ sym q.is

      pub own-cut_back : s ≡ None → OwnPost e z i n (Err 15)
      unfolding own_values
      own-cut_back g = record { is = rw (color-read_is, h, back_read_is, g); tidy = omega arith; family = tt }

      module _ (back : Paint) (g : s ≡ Some back) (t : rust.Option Measure) (o : SizePost (bytes_in e z 19 n i) t) where
        size-read_is : size_in (value_of "tts:fontSize" l) ≡ size_as t
        size-read_is = rw size_is (sym (size-read e z 19 n i)) ∙ sym o.is

        pub own-beyond : t ≡ None → OwnPost e z i n (Err 14)
        unfolding own_values
        own-beyond b = record { is = rw (color-read_is, h, back_read_is, g, size-read_is, b); tidy = omega arith; family = tt }

        pub own-all : (size : Measure) → t ≡ Some size → (x : values.Look) → x ≡ own_look e z i n color back size
            → OwnPost e z i n (Ok x)
        unfolding own_values look_in_of
        own-all size b x y = record {
          is = rw (
            y,
            color-read_is,
            h,
            back_read_is,
            g,
            size-read_is,
            b,
            family_is,
            weight_is,
            font-style_is,
            align_is,
            says-word "bold" (value_in_of e z 22 n i),
            says-word "italic" (value_in_of e z 20 n i),
            says-word "oblique" (value_in_of e z 20 n i),
          );
          tidy = rw y (record {
            color = rw h at p.tidy;
            back = rw g at q.tidy;
            family = value-absent e 15 n i;
            size = rw b at o.tidy;
          });
          family = rw y family_at;
        }

-- ---- one value
module _ (v : Bytes) where
  pub color-post : (c : Rgba) → color_in v ≡ Ok c → ColorPost v (Some (record { has = true; color = c }))
  color-post c h = record { is = rw h; tidy = λ e. no e }

  pub color-none : color_in v ≡ (Err ColorError.Invalid) → ColorPost v (Some (record { has = false; color = no_color }))
  color-none h = record { is = rw h; tidy = λ e. refl }

  pub color-cut : color_in v ≡ (Err ColorError.Cut) → ColorPost v None
  color-cut h = record { is = rw h; tidy = tt }

  module _ (n : ℕ) (k : n ≡ run_length_of size_byte v) where
    pub size-post : (d : Digits) (s : Size) → decimal_of (take n v) 6 10 ≡ Ok d → s ≡ size_of d
        → SizePost v (Some (record { has = true; size = s }))
    size-post d s h e = let g = rw k at h in record { is = rw (g, e); tidy = λ x. no x }

    pub size_none : decimal_of (take n v) 6 10 ≡ (Err DecimalError.Invalid) → (s : Size) → s ≡ no_size_of → SizePost v (Some (record {
      has = false;
      size =
          s;
    }))
    size_none h s e = let g = rw k at h in record { is = rw g; tidy = λ x. e }

    pub size-beyond : decimal_of (take n v) 6 10 ≡ (Err DecimalError.Beyond) → SizePost v None
    size-beyond h = let g = rw k at h in record { is = rw g; tidy = tt }

module _ (t : ℕ → Bool) (s : List ℕ) (i : ℕ) (e : run_end_of t s 0 ≡ run_end_of t s i) where
  lead : run_end_of t s i ≡ i → i ≡ run_length_of t s
  lead w = sym (e ∙ w) ∙ (run_length t s 0 (omega arith) ∙ zero-add (run_length_of t s))

  pub lead_here : i < length s → t (get_or s i 0) ≡ false → i ≡ run_length_of t s
  lead_here h w = lead (run-here t s i h w)

  pub lead_end : length s ≤ i → i ≡ run_length_of t s
  lead_end h = lead (run_out t s i h)

module _ (e z : List ℕ) (k n i : ℕ) (v : Value) (is-value : v ≡ value_at e k n i) where
  pub value_in : HasExtras e z i n → SpanIn z v.span
  value_in h = rw is-value (value-within e z k n i h.values)

  pub said_none : (w : Bytes) → v.has ≡ false → false ≡ says w (value_in_of e z k n i)
  said_none w h = let g = rw is-value at h in rw g

  pub said_some : (w : Bytes) (r : Bool) → v.has ≡ true → r ≡ same_folded (bytes_at z v.span) w → r ≡ says w (value_in_of e z k n i)
  said_some w r h q = let g = rw is-value at h in rw g (rw is-value at q)

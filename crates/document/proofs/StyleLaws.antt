-- Named styles as they are written. Assumes nothing.
--     style_is, style_writes         one, and of what the program has read
--     styling_none, styling_some     their part of the head
--     row_within                     the row that is found
use Rattle.std.specs.Prelude.{Option, Some, None, ⊤}
use Prim.Native.Nat.{ℕ, zero, suc, ◌+◌, ◌*◌, ◌≤◌, ◌<◌}
use mathlib.Core.Path.{◌≡◌, refl, ap, ◌∙◌}
use mathlib.Core.Bool.{Bool, true, false, cond, not}
use mathlib.Core.List.{List, [], ◌++◌, append-nil, append_assoc}
use native.Mathlib.Omega.{arith}
use lib.ListN.{length, get_or}
use lib.Dec.{eqb}
use borrow.Author.Tests.{not-true}
use Rattle.entities.specs.Escape.{escaped}
use Rattle.colors.specs.declared.read.Rgba.{Rgba}
use Rattle.colors.specs.Written.{rgba_text}
use Rattle.decimals.specs.declared.size.Size.{Size}
use Rattle.scan.proofs.Every.{both}
use Rattle.grammar.specs.Tree.{attr}
use Rattle.names.specs.declared.tables.Listed.TheVariants.{StyleExtra}
use Rattle.track.specs.declared.values.Align.{Align}
use Rattle.track.specs.declared.values.Look.{Look}
use Rattle.track.specs.declared.values.Style.{Style}
use Rattle.track.specs.Track.{Bytes}
use Rattle.track.specs.Track as track
use Rattle.track.specs.Tables.{Tables, cell, style_at, rows_from}
use Rattle.track.specs.Meaning.{bytes_at, style_in, look_in_of}
use Rattle.track.specs.Meaning as meaning
use Rattle.records.specs.Find.{is_named, first_with, find_chain, find_extras, chain_from, extras_from, found_in}
use Rattle.records.proofs.FoundRows.{with_first, chain_found, extras_found}
use Rattle.scan.specs.Text.{ascii}
use Rattle.written.specs.Attributes.{attrs_text, optional, extra_attrs, size_text, align_attrs, style_attrs}
use Rattle.written.specs.Written.{style_text, lines, styling_lines}
use Rattle.written.proofs.Values.{rgba-itself, size-itself}
use Rattle.writer.specs.declared.buffer.Out.{Out}
use Rattle.writer.specs.Puts.{quoted, Writes}
use Rattle.writer.proofs.AttrLaws.{attrs-joined, attrs-last, attrs-one, attrs-given, attrs-optional, attrs-extras}
use Rattle.document.specs.Styles.{look_text, align_text, flags_text, chain_text, kept_text, StylesReady}

-- ---- what is found
module _ (t z name : List ℕ) (needed n j : ℕ) (e : first_with t z name 27 needed n 0 ≡ Some j) where
  pub row_within : j < n
  row_within = let a = (with_first t z name 27 n needed j e).within in omega arith

  row_has : eqb (get_or t (j * 27 + needed) 0) 0 ≡ false
  row_has =
      not-true (eqb (get_or t (j * 27 + needed) 0) 0)
      (both {a = not (eqb (get_or t (j * 27 + needed) 0) 0)} {b = is_named t z name (j * 27)} (with_first t z name 27 n needed j e).passes).0

module _ (T : Tables) (name : Bytes) (n : ℕ) where
  abbrev chain_row_lem : Option ℕ
  chain_row_lem = first_with T.styles T.strings name 27 3 n 0

  abbrev kept_row_lem : Option ℕ
  kept_row_lem = first_with T.styles T.strings name 27 26 n 0

  chain_row : (f : Option ℕ) → chain_row_lem ≡ f → attrs_text (optional (attr (ascii "style")) (chain_from (found_in (style_in T) f))) ≡ chain_text T.styles
      T.strings f
  unfolding chain_text style_in style_at cell optional attrs_text
  chain_row None e = refl
  chain_row (Some j) e = rw (row_has T.styles T.strings name 3 n j e) (append-nil _)

  chain_attrs : attrs_text (optional (attr (ascii "style")) (find_chain name (rows_from (style_in T) n 0))) ≡ chain_text T.styles T.strings chain_row_lem
  chain_attrs = rw (chain_found T name n) (chain_row chain_row_lem refl)

  kept_row : (f : Option ℕ) → attrs_text (extra_attrs StyleExtra (extras_from (found_in (style_in T) f))) ≡ kept_text T.styles T.extras T.strings f
  unfolding kept_text style_in style_at cell extra_attrs attrs_text
  kept_row None = refl
  kept_row (Some j) = attrs-extras T StyleExtra (cell 27 T.styles j 26) (cell 27 T.styles j 25)

  kept_attrs : attrs_text (extra_attrs StyleExtra (find_extras name (rows_from (style_in T) n 0))) ≡ kept_text T.styles T.extras T.strings kept_row_lem
  kept_attrs = rw (extras_found T name n) (kept_row kept_row_lem)

-- ---- values that are escaped as themselves
color-attr : (k : Bytes) (b : Bool) (c : Rgba)
    → attrs_text (optional (λ (x : Rgba). attr k (rgba_text x)) (meaning.given b c)) ≡ cond b
    (ascii " " ++ (k ++ (ascii "=\"" ++ (rgba_text c ++ ascii "\"")))) []
color-attr k b c = attrs-optional (λ (x : Rgba). attr k (rgba_text x)) b c ∙ rw (rgba-itself c) refl

size-attr : (b : Bool) (s : Size)
    → attrs_text (optional (λ (x : Size). attr (ascii "tts:fontSize") (size_text x)) (meaning.given b s)) ≡ cond b
    (quoted (ascii " tts:fontSize=\"") (size_text s)) []
size-attr b s = attrs-optional (λ (x : Size). attr (ascii "tts:fontSize") (size_text x)) b s ∙ rw (size-itself s) refl

align_attr : (a : Align) → attrs_text (align_attrs a) ≡ align_text a
unfolding attrs_text escaped
align_attr Align.Start = refl
align_attr Align.Center = refl
align_attr Align.End = refl
align_attr Align.Left = refl
align_attr Align.Right = refl

-- ---- a style
regroup : (a b c₁ c₂ c₃ c₄ d₁ d₂ d₃ d₄ e f : Bytes)
    → (a ++ (b ++ (c₁ ++ (c₂ ++ (c₃ ++ (c₄ ++ (d₁ ++ (d₂ ++ (d₃ ++ (d₄ ++ e)))))))))) ++ f
    ≡ a ++ (b ++ ((c₁ ++ (c₂ ++ (c₃ ++ c₄))) ++ ((d₁ ++ (d₂ ++ (d₃ ++ d₄))) ++ (e ++ f))))
regroup a b c₁ c₂ c₃ c₄ d₁ d₂ d₃ d₄ e f = simp append_assoc

module _ (T : Tables) (n i : ℕ) where
  abbrev all : List (track.Style Bytes)
  all = rows_from (style_in T) n 0

  abbrev opening : Style → Bytes
  opening x = quoted (ascii "<style xml:id=\"") (escaped true (bytes_at T.strings x.name))

  abbrev chain : Style → Bytes
  chain x = chain_text T.styles T.strings (first_with T.styles T.strings (bytes_at T.strings x.name) 27 3 n 0)

  abbrev kept : Style → Bytes
  kept x = kept_text T.styles T.extras T.strings (first_with T.styles T.strings (bytes_at T.strings x.name) 27 26 n 0)

  abbrev color : Bool → Rgba → Bytes
  color b c = cond b (quoted (ascii " tts:color=\"") (rgba_text c)) []

  abbrev back : Bool → Rgba → Bytes
  back b c = cond b (quoted (ascii " tts:backgroundColor=\"") (rgba_text c)) []

  abbrev whole : Style → Bytes
  whole x = opening x ++ (chain x ++ (look_text T.strings x.look ++ (flags_text x.look ++ (kept x ++ ascii "/>"))))

  pub style_is : style_text all (style_in T i) ≡ whole (style_at T.styles T.sizes i)
  unfolding style_text style_attrs style_in look_in_of look_text flags_text escaped
  style_is =
      let x : Style = style_at T.styles T.sizes i in
      let l : Look = x.look in
      let z : Bytes = T.strings in
      let name : Bytes = bytes_at z x.name in
      ap (λ (w : Bytes). (ascii "<style" ++ w) ++ ascii "/>")
      (attrs-joined _ _ _ _ (attrs-one (attr (ascii "xml:id") name))
      (attrs-joined _ _ _ _ (chain_attrs T name n)
      (attrs-joined _ _ _ _ (color-attr (ascii "tts:color") l.has_color l.color)
      (attrs-joined _ _ _ _ (color-attr (ascii "tts:backgroundColor") l.has_back l.back)
      (attrs-joined _ _ _ _ (attrs-optional (attr (ascii "tts:fontFamily")) l.has_family (bytes_at z l.family))
      (attrs-joined _ _ _ _ (size-attr l.has_size l.size)
      (attrs-joined _ _ _ _ (attrs-given l.bold (attr (ascii "tts:fontWeight") (ascii "bold")))
      (attrs-joined _ _ _ _ (attrs-given l.italic (attr (ascii "tts:fontStyle") (ascii "italic")))
      (attrs-joined _ _ _ _ (attrs-given l.underline (attr (ascii "tts:textDecoration") (ascii "underline")))
      (attrs-joined _ _ _ _ (align_attr l.align)
      (attrs-last _ _ (kept_attrs T name n))))))))))))
      ∙ regroup (opening x) (chain x) (color l.has_color l.color) (back l.has_back l.back)
      (cond l.has_family (quoted (ascii " tts:fontFamily=\"") (escaped true (bytes_at z l.family))) [])
      (cond l.has_size (quoted (ascii " tts:fontSize=\"") (size_text l.size)) [])
      (cond l.bold (ascii " tts:fontWeight=\"bold\"") []) (cond l.italic (ascii " tts:fontStyle=\"italic\"") [])
      (cond l.underline (ascii " tts:textDecoration=\"underline\"") []) (align_text l.align) (kept x) (ascii "/>")

  pub style_writes : (x : Style) → x ≡ style_at T.styles T.sizes i → (o o' : Out) (r : Option ⊤) → Writes (whole x) o o' r
      → Writes (style_text all (style_in T i)) o o' r
  style_writes x e o o' r p = rw style_is (rw e at p)

-- ---- all of them
pub styling_none : (f : ℕ → track.Style Bytes) (n : ℕ) → n ≡ 0 → styling_lines (rows_from f n 0) ≡ []
unfolding styling_lines rows_from
styling_none f n e = rw e refl

pub styling_some : (f : ℕ → track.Style Bytes) (n : ℕ) → (n ≡ 0 → ⊥)
    → styling_lines (rows_from f n 0) ≡ ascii "    <styling>\n" ++ (lines (style_text (rows_from f n 0)) (rows_from f n 0) ++ ascii "    </styling>\n")
unfolding styling_lines rows_from
styling_some f zero h = absurd (h refl)
styling_some f (suc n) h = refl

-- a name stands within the strings
pub name_within : (T : Tables) (n : ℕ) → StylesReady T n → (i : ℕ) → i < n
    → (style_at T.styles T.sizes i).name.place + (style_at T.styles T.sizes i).name.len ≤ length T.strings
unfolding style_at cell
name_within T n r i h = let q : i * 27 + 0 ≡ i * 27 = omega arith in rw q (r.named.within i h)

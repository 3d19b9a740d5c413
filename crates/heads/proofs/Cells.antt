-- The rows of styles and regions, and what is evaluated of them. Assumes nothing.
--     style_row, style_float, region_row       rows by value are those of the layout
--     bind_assoc, style_is                     a style by its look
--     style_taken, style_full, style_refused   a style with its limit
--     region_taken, region_full                a region with its limit
--     rows-small, emptied-small                what the writers of rows ask
--     styled, placed, style_made               what the functions ensure
use Rattle.std.specs.Prelude as rust
use Rattle.std.specs.Prelude.{Some, None, Result, Ok, Err}
use Prim.Native.Nat.{ℕ, suc, ◌+◌, ◌*◌, ◌≤◌, ◌<◌, ◌^◌}
use mathlib.Core.Path.{◌≡◌, refl, sym, ap, ◌∙◌}
use mathlib.Core.Bool.{Bool, true, false}
use mathlib.Core.List.{List, [], ◌∷◌, ◌++◌}
use mathlib.Core.Option.{Option, some}
use native.Mathlib.Omega.{arith}
use lib.Dec.{eqb}
use lib.Seq.{sets}
use lib.Ieee.{Float}
use lib.ListN.{length, drop, length-take, length-drop}
use borrow.Author.Tests.{ne_eqb, le-leb, lt-leb}
use Rattle.scan.specs.Part.{string_at}
use Rattle.scan.proofs.Every.{by-test}
use Rattle.derivation.proofs.RunLaws.{string_is}
use Rattle.colors.specs.declared.read.Rgba.{Rgba}
use Rattle.decimals.specs.declared.size.Size.{Size}
use Rattle.tree.specs.declared.answers.Refusal.{Refusal}
use Rattle.track.specs.declared.strings.Span.{Span}
use Rattle.track.specs.declared.values.Rows.{Rows}
use Rattle.track.specs.declared.values.Look as declared
use Rattle.track.specs.Track.{Extra, Look, Style}
use Rattle.track.specs.Layout.{is_some, size_or, span_cells, rows_cells, optional_cells, color_cells, size_cells, flag_cells, look_cells}
use Rattle.track.specs.Layout.{style_cells, size_value, region_cells}
use Rattle.records.specs.Posts.{SmallSpan, SmallRows, AddPost, ValuePost}
use Rattle.xml.specs.Reading.{Placed}
use Rattle.meaning.specs.Words.{ascii}
use Rattle.meaning.specs.Answers.{Answer, is, refused, ◌>>=◌, within}
use Rattle.meaning.specs.Nodes.{Attr, valued, id_of}
use Rattle.meaning.specs.Kinds.{with_places}
use Rattle.meaning.specs.Styling.{chain_in, color_of, style_of, region_of}
use Rattle.laid.specs.Laid.{span_of, option_span, color_or, rows_after, laid_look, laid_style, laid_region}
use Rattle.styling.specs.Posts.{given, span_in, chain_span, look_in_of, turned, style_size, sized_look, backed_look, colored_look, look_answer}
use Rattle.extras.specs.Kept.{rows_from, Lists}
use Rattle.heads.specs.Rows.{emptied, style_of_look, Styled, style_within, NamedMade, StyleMade, region_with, region_within}
use Rattle.heads.specs.Rows as heads

-- ---- strings
long : (z : List ℕ) (p n : ℕ) → p + n ≤ length z → length (string_at z p n) ≡ n
long z p n h = ap length (string_is z p n) ∙ omega (arith, length-take n (drop p z), length-drop p z)

span-back : (z : List ℕ) (s : Span) → s.place + s.len ≤ length z → span_of (span_in z s) ≡ s
span-back z s h = rw (long z s.place s.len h)

chain_back : (z : List ℕ) (c : Span) → c.place + c.len ≤ length z → option_span (chain_span z c) ≡ emptied c
chain_back z c h = by-test (eqb c.len 0) (λ e. rw e) (λ e. rw e (span-back z c h))

rows-after : {A : Type 0} (at : ℕ) (l : List A) → rows_after at l ≡ rows_from at (length l)
unfolding rows_after
rows-after at [] = refl
rows-after at (x ∷ l) = rw (ne_eqb (suc (length l)) 0 (λ e. omega arith))

-- ---- a look
color-cells : (b : Bool) (c : Rgba) → color_cells (is_some (given b c)) (color_or (given b c)) ≡ color_cells b c
unfolding color_cells
color-cells true c = refl
color-cells false c = refl

size-cells : (b : Bool) (s : Size) → size_cells (is_some (given b s)) (size_or (given b s)) ≡ size_cells b s
unfolding size_cells
size-cells true s = refl
size-cells false s = refl

family-cells : (z : List ℕ) (b : Bool) (s : Span) → s.place + s.len ≤ length z
    → optional_cells (is_some (given b (span_in z s))) (option_span (given b (span_in z s))) ≡ optional_cells b s
family-cells z true s h = rw (long z s.place s.len h)
family-cells z false s h = refl

look-cells : (z : List ℕ) (x : declared.Look) → x.family.place + x.family.len ≤ length z → look_cells (laid_look (look_in_of z x)) ≡ look_cells x
unfolding look_cells laid_look flag_cells
look-cells z x h =
    let a = color-cells x.has_color x.color in
    let b = color-cells x.has_back x.back in
    rw (a, b, family-cells z x.has_family x.family h, size-cells x.has_size x.size)

pub style_float : (z : List ℕ) (x : declared.Look)
    → size_value x.has_size x.size ≡ size_value (laid_look (look_in_of z x)).has_size (laid_look (look_in_of z x)).size
unfolding laid_look
style_float z x = by x.has_size x.size
  where
    by : (b : Bool) (s : Size) → size_value b s ≡ size_value (is_some (given b s)) (size_or (given b s))
    by true s = refl
    by false s = refl

-- ---- a style
abbrev parts : Span → Span → List ℕ → Rows → List ℕ
parts a c k r = span_cells a ++ span_cells c ++ k ++ rows_cells r

module _ (z : List ℕ) (l : List (Attr Placed)) (name c : Span) (look : declared.Look) (at : ℕ) (rows : Rows) where
  abbrev s : Style Placed
  s = style_of_look (span_in z name) l (look_in_of z look)

  pub style_row : name.place + name.len ≤ length z → c.place + c.len ≤ length z → look.family.place + look.family.len ≤ length z
      → chain_span z c ≡ chain_in with_places (valued with_places (ascii "style") l) → rows ≡ rows_from at (length s.extras)
      → style_cells (record { name = name; chain = emptied c; look = look; extras = rows }) ≡ style_cells (laid_style at s).style
  unfolding style_cells laid_style
  style_row a b d e f =
      ap (λ x. parts x (emptied c) (look_cells look) rows) (sym (span-back z name a))
      ∙ (ap (λ x. parts (span_of (span_in z name)) x (look_cells look) rows) (sym (chain_back z c b) ∙ ap option_span e)
      ∙ (ap (λ x. parts (span_of (span_in z name)) (option_span s.chain) x rows) (sym (look-cells z look d))
      ∙ ap (parts (span_of (span_in z name)) (option_span s.chain) (look_cells (laid_look (look_in_of z look)))) (f ∙ sym (rows-after at s.extras))))

-- ---- what is evaluated
pub bind_assoc : {A B C : Type 0} (a : Answer A) (f : A → Answer B) (g : B → Answer C) → ((a >>= f) >>= g) ≡ (a >>= λ x. f x >>= g)
bind_assoc (is x) f g = refl
bind_assoc (refused n p) f g = refl

module _ (id : Placed) (l : List (Attr Placed)) where
  abbrev pub made : Look Placed → Answer (Style Placed)
  made look = is (style_of_look id l look)

  pub style_is : look_answer l >>= made ≡ style_of with_places id l
  unfolding style_of
  style_is = by_color (color_of with_places (ascii "tts:color") l)
    where
      by_back : (color : Option Rgba) (b : Answer (Option Rgba))
          → ((b >>= backed_look l color) >>= made) ≡ (b >>= λ back. style_size l >>= λ size. sized_look l color back size >>= made)
      by_back color (is back) = bind_assoc (style_size l) (sized_look l color back) made
      by_back color (refused n p) = refl

      by_color : (c : Answer (Option Rgba))
          → ((c >>= colored_look l) >>= made)
          ≡ (c >>= λ color. color_of with_places (ascii "tts:backgroundColor") l >>= λ back. style_size l >>= λ size.
          sized_look l color back size >>= made)
      by_color (is color) = by_back color (color_of with_places (ascii "tts:backgroundColor") l)
      by_color (refused n p) = refl

  module _ (place n : ℕ) where
    looked : (a : Answer (Look Placed)) → a ≡ look_answer l → ((a >>= made) >>= λ s. within 256 (n + 1) place s) ≡ style_within id l place n
    looked a h =
        ap (λ (x : Answer (Style Placed)). x >>= λ s. within 256 (n + 1) place s) (ap (λ (b : Answer (Look Placed)). b >>= made) h ∙ style_is)

    pub style_taken : (look : Look Placed) → is look ≡ look_answer l → n < 256 → style_within id l place n ≡ is (style_of_look id l look)
    style_taken look h w = sym (looked (is look) h) ∙ rw (le-leb (n + 1) 256 (omega arith))

    pub style_full : (look : Look Placed) → is look ≡ look_answer l → 256 ≤ n → style_within id l place n ≡ refused 13 place
    style_full look h w = sym (looked (is look) h) ∙ rw (lt-leb (n + 1) 256 (omega arith))

    pub style_refused : (r : Refusal) → turned r ≡ look_answer l → style_within id l place n ≡ turned r
    style_refused r h = sym (looked (turned r) h)

    -- ---- a region
    pub region_taken : n < 256 → region_within id l place n ≡ is (region_with id l)
    unfolding region_of
    region_taken w = rw (le-leb (n + 1) 256 (omega arith))

    pub region_full : 256 ≤ n → region_within id l place n ≡ refused 13 place
    unfolding region_of
    region_full w = rw (lt-leb (n + 1) 256 (omega arith))

pub region_row : (z : List ℕ) (l : List (Attr Placed)) (id : Span) (at : ℕ) (rows : Rows) → id.place + id.len ≤ length z
    → rows ≡ rows_from at (length (region_with (span_in z id) l).extras)
    → region_cells (record { id = id; extras = rows }) ≡ region_cells (laid_region at (region_with (span_in z id) l)).region
unfolding region_cells laid_region
region_row z l id at rows h e =
    ap (λ x. span_cells x ++ rows_cells rows) (sym (span-back z id h))
    ∙ ap (λ x. span_cells (span_of (span_in z id)) ++ rows_cells x) (e ∙ sym (rows-after at (region_with (span_in z id) l).extras))

-- ---- what the writers of rows ensure
added_row : (w : ℕ) (row t t' : List ℕ) (n : ℕ) (r : rust.Option ℕ) → n < 256 → AddPost 256 w row t t' n r → t' ≡ sets t (n * w) row
added_row w row t t' n (Some m) h x = x.2
added_row w row t t' n None h x = absurd (omega (arith, x.0))

added_float : (row t t' : List ℕ) (n : ℕ) (v : Float) (f f' : List Float) (r : rust.Option ℕ) → n < 256 → AddPost 256 27 row t t' n r
    → ValuePost n v f f' r → f' ≡ sets f n (v ∷ [])
added_float row t t' n v f f' (Some m) h x y = y
added_float row t t' n v f f' None h x y = absurd (omega (arith, x.0))

pub rows-small : {xs : List (Extra Placed)} {at : ℕ} {t t' : List ℕ} (r : Rows) → Lists xs at t t' r → (many : ℕ) → r.count ≤ many
    → at + many < 2 ^ 32 → SmallRows r
rows-small {xs} {at} r x many b h =
    let n : ℕ = length xs in
    let e : r ≡ rows_from at n = x.rows in
    let w : n ≤ many = omega (arith, b, x.count) in
    by-test (eqb n 0) (λ q. rw (e, q) (omega arith, omega arith)) (λ q. rw (e, q) (omega arith, omega arith))

pub emptied-small : (z : List ℕ) (c : Span) → c.place + c.len ≤ length z → length z < 2 ^ 32 → SmallSpan (emptied c)
emptied-small z c h w = by-test (eqb c.len 0) (λ q. rw q (omega arith, omega arith)) (λ q. rw q (omega arith, omega arith))

module _ (z : List ℕ) (l : List (Attr Placed)) (name c k : Span) (look : declared.Look) (at : ℕ) (rows : Rows) (n : ℕ) where
  abbrev it : Style Placed
  it = style_of_look (span_in z name) l (look_in_of z look)

  pub styled : (t t' : List ℕ) (f f' : List Float) (e e' : List ℕ) → name.place + name.len ≤ length z → c.place + c.len ≤ length z
      → look.family.place + look.family.len ≤ length z → chain_span z c ≡ chain_in with_places (valued with_places (ascii "style") l)
      → k ≡ emptied c → Lists it.extras at e e' rows → n < 256 → (r : rust.Option ℕ)
      → AddPost 256 27 (style_cells (record { name = name; chain = k; look = look; extras = rows })) t t' n r
      → ValuePost n (size_value look.has_size look.size) f f' r → Styled it n at t t' f f' e e' rows.count
  unfolding laid_style
  styled t t' f f' e e' a b d g q x h r y w =
      let row = style_cells (record { name = name; chain = k; look = look; extras = rows }) in
      let same = ap (λ (i : Span). style_cells (record { name = name; chain = i; look = look; extras = rows })) q in
      let v = size_value look.has_size look.size in
      record {
        count = x.count;
        row = added_row 27 row t t' n r h y ∙ ap (sets t (n * 27)) (same ∙ style_row z l name c look at rows a b d g x.rows);
        float = added_float row t t' n v f f' r h y w ∙ ap (λ (i : Float). sets f n (i ∷ [])) (style_float z look);
        rows = x.laid;
      }

pub placed : (z : List ℕ) (l : List (Attr Placed)) (id : Span) (at : ℕ) (rows : Rows) (n : ℕ) (t t' e e' : List ℕ)
    → id.place + id.len ≤ length z → Lists (region_with (span_in z id) l).extras at e e' rows → n < 256 → (r : rust.Option ℕ)
    → AddPost 256 4 (region_cells (record { id = id; extras = rows })) t t' n r
    → heads.Placed (region_with (span_in z id) l) n at t t' e e' rows.count
placed z l id at rows n t t' e e' a x h r y = record {
  count = x.count;
  row =
      added_row 4 (region_cells (record { id = id; extras = rows })) t t' n r h y ∙ ap (sets t (n * 4)) (region_row z l id at rows a x.rows);
  rows = x.laid;
}

-- with an id
pub style_made : (id : Placed) (l : List (Attr Placed)) (place n at : ℕ) (t t' : List ℕ) (f f' : List Float) (e e' : List ℕ)
    → id_of with_places l ≡ some id → (r : Result (rust.Option ℕ) Refusal) → NamedMade id l place n at t t' f f' e e' r → StyleMade l place n at t t' f f' e e' r
style_made id l place n at t t' f f' e e' h (Ok (Some m)) x = (id, h, x)
style_made id l place n at t t' f f' e e' h (Ok None) x = absurd x
style_made id l place n at t t' f f' e e' h (Err r) x = (id, h, x)

-- The times, colours, sizes and nesting of a text's track are those of a track. Assumes nothing.
--     Values                       what is asked of the values: no table is spoken of
--     track_values, cue-values     a tree in which at most 64 elements stand one inside the other gives a track, or a cue, of such values
--     depth-by                     the nesting of segments does not depend on their strings
--     sum_fits                     a time that is not refused is an i64
use Rattle.std.specs.Prelude.{Result, Ok, Err}
use Prim.Native.Nat.{ℕ, ◌+◌, ◌-◌, ◌*◌, ◌^◌, ◌≤◌, ◌<◌}
use mathlib.Core.Path.{◌≡◌, refl}
use mathlib.Core.Bool.{Bool, true, false, cond, ◌&&◌}
use mathlib.Core.List.{List, [], ◌∷◌, ◌++◌}
use mathlib.Core.Option.{Option, none, some}
use native.Mathlib.Omega.{arith}
use native.Mathlib.Nat.{max-le}
use lib.ListN.{length}
use lib.IntN.{ℤ, pos, negsuc, ◌+ℤ◌}
use borrow.Author.Tests.{ltb-true}
use Rattle.scan.proofs.Every.{by-test}
use Rattle.times.specs.declared.offset.TimingCtx.{TimingCtx}
use Rattle.times.specs.Sums.{is_i64, checked}
use Rattle.colors.specs.declared.read.Rgba.{Rgba}
use Rattle.colors.specs.Colors.{color_in}
use Rattle.decimals.specs.declared.size.Size.{Size}
use Rattle.track.specs.Track.{Bytes, Style, Wrapper, Segments, Cue, Track, no_segments, one_segment, segment_rows, is_bare_font, joined, wrapped}
use Rattle.track.specs.Track as track
use Rattle.track.specs.Placing.{All, SizeFits, TimeFits, depth}
use Rattle.track.proofs.ReadBack.{all_join}
use Rattle.records.specs.Find.{is_empty}
use Rattle.grammar.specs.Scan.{run}
use Rattle.meaning.specs.Words.{ascii, up_to_last}
use Rattle.meaning.specs.Answers.{Answer, within}
use Rattle.meaning.specs.Nodes.{Strings, Attr, Nodes, nil, text, element, Element, named, first_element, attribute, valued, says, read_from}
use Rattle.meaning.specs.Nodes.{reading, id_of}
use Rattle.meaning.specs.Tracks.{segments_by}
use Rattle.meaning.specs.Space.{Space, collapse, preserve, space_of, Before, last_of, Inline, a_break, a_span, unknown, inline_of, after}
use Rattle.meaning.specs.Space.{text_in_of, seen, trimmed_space, ended}
use Rattle.meaning.specs.Timing.{time_of, sum, or_zero, end_of, lasting_to, is_seq}
use Rattle.meaning.specs.Styling.{color_answer, size_answer, size_decimal, number_byte, wrap_if, color_wrap, font_wrap, color_of, style_of, region_of}
use Rattle.meaning.specs.Styling.{is_modelled, wrappers_of, is_strike, is_underline, is_italic, is_bold}
use Rattle.meaning.specs.Inline.{span_of, dissolved, paragraph_of, stamped, text_segment, counted, segments_in, content_of}
use Rattle.meaning.specs.Cues.{Timed, a_div, a_p, unknown, Line, later, timed_of, made_in, styled, cue_of_p, p_of, div_of, cues_in}
use Rattle.meaning.specs.Meaning.{params_of, rate_of, inside, listed, body_of, timing, track_in, track_from, track_of}
use Rattle.meaning.specs.Meaning.{stop_of, cue_in, cue_from, cue_of}
use Rattle.meaning.proofs.Within.{Holds, holds_is, holds_refused, bind, any, within-holds}
use Rattle.laid.proofs.Colors.{Channels, color-bytes, size-read}
use Rattle.laid.proofs.Strings.{IfSome}
use Rattle.decimals.specs.declared.read.DecimalError.{DecimalError}
use Rattle.colors.specs.declared.read.ColorError.{ColorError}
use Rattle.decimals.specs.declared.read.Digits.{Digits}

-- ---- values

module _ {S : Type 0} where
  pub record StyleValues (x : Style S) : Type 0 where
    pub color : IfSome Channels x.look.color
    pub back : IfSome Channels x.look.back
    pub size : SizeFits x.look.size

  abbrev pub WrapperValues : Wrapper S → Type 0
  WrapperValues track.bold = Unit {0}
  WrapperValues track.italic = Unit {0}
  WrapperValues track.underline = Unit {0}
  WrapperValues track.strike = Unit {0}
  WrapperValues (track.color c) = (c.r < 256) × (c.g < 256) × (c.b < 256)
  WrapperValues (track.font a s) = SizeFits s

  abbrev pub SegmentValues : Segments S → Type 0
  SegmentValues track.done = Unit {0}
  SegmentValues (track.text s x) = SegmentValues x
  SegmentValues (track.break x) = SegmentValues x
  SegmentValues (track.timestamp z x) = TimeFits z × SegmentValues x
  SegmentValues (track.wrap w c x) = WrapperValues w × SegmentValues c × SegmentValues x

  pub record CueValues (x : Cue S) : Type 0 where
    pub segments : SegmentValues x.segments
    pub nested : depth x.segments ≤ 512

  pub record Values (t : Track S) : Type 0 where
    pub styles : All StyleValues t.styles
    pub cues : All CueValues t.cues

pub depth-by : {S T : Type 0} (h : S → T) (x : Segments S) → depth (segments_by h x) ≡ depth x
unfolding depth segments_by
depth-by h track.done = refl
depth-by h (track.text s x) = rw (depth-by h x)
depth-by h (track.break x) = rw (depth-by h x)
depth-by h (track.timestamp z x) = rw (depth-by h x)
depth-by h (track.wrap w c x) = rw (depth-by h c, depth-by h x)

-- at most d elements stand one inside the other
abbrev pub Inner : {S : Type 0} → ℕ → Nodes S → Type 0
Inner d nil = Unit {0}
Inner d (text at s f) = Inner d f
Inner d (element at n l c f) = (1 ≤ d) × Inner (d - 1) c × Inner d f

pub inner_more : {S : Type 0} (d e : ℕ) → d ≤ e → (f : Nodes S) → Inner d f → Inner e f
inner_more d e h nil g = tt
inner_more d e h (text at s f) g = inner_more d e h f g
inner_more d e h (element at n l c f) g =
    (omega (arith, h, g.0), inner_more (d - 1) (e - 1) (omega (arith, h)) c g.1, inner_more d e h f g.2)

-- ---- segments

module _ {S : Type 0} where
  -- good values, at most n deep
  abbrev Good : ℕ → Segments S → Type 0
  Good n track.done = Unit {0}
  Good n (track.text s x) = (1 ≤ n) × Good n x
  Good n (track.break x) = (1 ≤ n) × Good n x
  Good n (track.timestamp z x) = (1 ≤ n) × TimeFits z × Good n x
  Good n (track.wrap w c x) = (1 ≤ n) × WrapperValues w × Good (n - 1) c × Good n x

  good_values : (n : ℕ) (x : Segments S) → Good n x → SegmentValues x
  good_values n track.done g = tt
  good_values n (track.text s x) g = good_values n x g.1
  good_values n (track.break x) g = good_values n x g.1
  good_values n (track.timestamp z x) g = (g.1, good_values n x g.2)
  good_values n (track.wrap w c x) g = (g.1, good_values (n - 1) c g.2, good_values n x g.3)

  good_depth : (n : ℕ) (x : Segments S) → Good n x → depth x ≤ n
  unfolding depth
  good_depth n track.done g = omega arith
  good_depth n (track.text s x) g = max-le g.0 (good_depth n x g.1)
  good_depth n (track.break x) g = max-le g.0 (good_depth n x g.1)
  good_depth n (track.timestamp z x) g = max-le g.0 (good_depth n x g.2)
  good_depth n (track.wrap w c x) g = max-le (omega (arith, g.0, good_depth (n - 1) c g.2)) (good_depth n x g.3)

  good_more : (n m : ℕ) → n ≤ m → (x : Segments S) → Good n x → Good m x
  good_more n m h track.done g = tt
  good_more n m h (track.text s x) g = (omega (arith, h, g.0), good_more n m h x g.1)
  good_more n m h (track.break x) g = (omega (arith, h, g.0), good_more n m h x g.1)
  good_more n m h (track.timestamp z x) g = (omega (arith, h, g.0), g.1, good_more n m h x g.2)
  good_more n m h (track.wrap w c x) g =
      (omega (arith, h, g.0), g.1, good_more (n - 1) (m - 1) (omega (arith, h)) c g.2, good_more n m h x g.3)

  joined-good : (n : ℕ) (c d : Segments S) → Good n c → Good n d → Good n (joined c d)
  unfolding joined
  joined-good n track.done d h g = g
  joined-good n (track.text s c) d h g = (h.0, joined-good n c d h.1 g)
  joined-good n (track.break c) d h g = (h.0, joined-good n c d h.1 g)
  joined-good n (track.timestamp z c) d h g = (h.0, h.1, joined-good n c d h.2 g)
  joined-good n (track.wrap w e c) d h g = (h.0, h.1, h.2, joined-good n c d h.3 g)

  -- at most n wrappers, of good values
  abbrev Few : ℕ → List (Wrapper S) → Type 0
  Few n [] = Unit {0}
  Few n (w ∷ l) = (1 ≤ n) × WrapperValues w × Few (n - 1) l

  few_append : (n m : ℕ) (a b : List (Wrapper S)) → Few n a → Few m b → Few (n + m) (a ++ b)
  few_append n m [] b h g = few_more m (n + m) (omega arith) b g
    where
      few_more : (n m : ℕ) → n ≤ m → (a : List (Wrapper S)) → Few n a → Few m a
      few_more n m h [] g = tt
      few_more n m h (w ∷ a) g = (omega (arith, h, g.0), g.1, few_more (n - 1) (m - 1) (omega (arith, h)) a g.2)
  few_append n m (w ∷ a) b h g =
      let e : n - 1 + m ≡ n + m - 1 = omega (arith, h.0) in
      (omega (arith, h.0), h.1, rw e at (few_append (n - 1) m a b h.2 g))

  wrapped-good : (n m : ℕ) (ws : List (Wrapper S)) (c : Segments S) → Few n ws → Good m c → Good (n + m) (wrapped ws c)
  unfolding wrapped
  wrapped-good n m [] c h g = good_more m (n + m) (omega arith) c g
  wrapped-good n m (w ∷ ws) c h g =
      let e : n - 1 + m ≡ n + m - 1 = omega (arith, h.0) in
      (omega (arith, h.0), h.1, rw e at (wrapped-good (n - 1) m ws c h.2 g), tt)

  span-good : (n : ℕ) (ws : List (Wrapper S)) (c : Segments S) → Few 6 ws → Good n c → Good (6 + n) (span_of ws c)
  unfolding span_of
  span-good n [] c h g = by-test (one_segment c)
      (λ t. rw t (good_more n (6 + n) (omega arith) c g))
      (λ t. rw t (omega arith, tt, good_more n (6 + n - 1) (omega arith) c g, tt))
  span-good n (w ∷ ws) c h g = wrapped-good 6 n (w ∷ ws) c h g

  dissolved-good : (n : ℕ) (c : Segments S) → Good n c → Good n (dissolved c)
  dissolved-good n track.done g = g
  dissolved-good n (track.text s x) g = g
  dissolved-good n (track.break x) g = g
  dissolved-good n (track.timestamp z x) g = g
  dissolved-good n (track.wrap w c x) g = by-test (is_bare_font w && no_segments x)
      (λ t. rw t (good_more (n - 1) n (omega arith) c g.2))
      (λ t. rw t g)

  paragraph-good : (n : ℕ) (ws : List (Wrapper S)) (c : Segments S) → Few 6 ws → Good n c → Good (6 + n) (paragraph_of ws c)
  unfolding paragraph_of
  paragraph-good n [] c h g = good_more n (6 + n) (omega arith) (dissolved c) (dissolved-good n c g)
  paragraph-good n (w ∷ ws) c h g = wrapped-good 6 n (w ∷ ws) c h g

  stamped-good : (n : ℕ) → 1 ≤ n → (begin : Option ℤ) (z : ℤ) (c : Segments S) → TimeFits z → Good n c → Good n (stamped begin z c)
  stamped-good n h none z c f g = g
  stamped-good n h (some b) z c f g = (h, f, g)

  cond_good : (n : ℕ) (b : Bool) (c d : Segments S) → Good n c → Good n d → Good n (cond b c d)
  cond_good n true c d h g = h
  cond_good n false c d h g = g

  wrap-if : (b : Bool) (w : Wrapper S) → WrapperValues w → Few 1 (wrap_if b w)
  wrap-if true w h = (omega arith, h, tt)
  wrap-if false w h = tt

  font-wrap : (a : Option S) (s : Option Size) → SizeFits s → Few 1 (font_wrap a s)
  font-wrap none none h = tt
  font-wrap none (some z) h = (omega arith, h, tt)
  font-wrap (some a) s h = (omega arith, h, tt)

-- ---- what is read

-- a sum of times that is not refused is an i64
i64_fits : (z : ℤ) → is_i64 z ≡ true → TimeFits z
unfolding is_i64
i64_fits (pos n) h = ltb-true n (2 ^ 63) h
i64_fits (negsuc n) h = ltb-true n (2 ^ 63) h

pub sum_fits : (e : ℕ) (a b : ℤ) → Holds TimeFits (sum e a b)
unfolding sum checked
sum_fits e a b = by-test (is_i64 (a +ℤ b))
    (λ t. rw t (holds_is TimeFits (a +ℤ b) (i64_fits (a +ℤ b) t)))
    (λ t. rw t (holds_refused TimeFits 16 e))

module _ {S : Type 0} (k : Strings S) where
  color-read : (a : ℕ) (v : Bytes) (x : Result Rgba ColorError) → color_in v ≡ x → Holds (IfSome Channels) (color_answer a x)
  color-read a v (Ok c) e = holds_is _ (some c) (color-bytes v e)
  color-read a v (Err ColorError.Invalid) e = holds_is _ none tt
  color-read a v (Err ColorError.Cut) e = holds_refused _ _ a

  from-color : (o : Option (Attr S)) → Holds (IfSome Channels) (read_from k (λ a v. color_answer a (color_in v)) o)
  from-color none = holds_is _ none tt
  from-color (some x) = color-read x.at (k.bytes x.value) (color_in (k.bytes x.value)) refl

  color-holds : (name : Bytes) (l : List (Attr S)) → Holds (IfSome Channels) (color_of k name l)
  unfolding color_of reading
  color-holds name l = from-color (attribute k name l)

  decimal-read : (a : ℕ) (v : Bytes) (x : Result Digits DecimalError) → size_decimal v ≡ x → Holds SizeFits (size_answer a x)
  decimal-read a v (Ok d) e = holds_is _ (some _) (size-read v e)
  decimal-read a v (Err DecimalError.Invalid) e = holds_is _ none tt
  decimal-read a v (Err DecimalError.Beyond) e = holds_refused _ _ a

  from-size : (part : Bytes → Bytes) (o : Option (Attr S)) → Holds SizeFits (read_from k (λ a v. size_answer a (size_decimal (part v))) o)
  from-size part none = holds_is _ none tt
  from-size part (some x) = decimal-read x.at (part (k.bytes x.value)) (size_decimal (part (k.bytes x.value))) refl

  size_holds : (part : Bytes → Bytes) (l : List (Attr S))
      → Holds SizeFits (reading k (ascii "tts:fontSize") l (λ a v. size_answer a (size_decimal (part v))))
  unfolding reading
  size_holds part l = from-size part (attribute k (ascii "tts:fontSize") l)

  style-values : (id : S) (l : List (Attr S)) → Holds StyleValues (style_of k id l)
  unfolding style_of
  style-values id l =
      bind (IfSome Channels) _ (color_of k (ascii "tts:color") l) _ (color-holds (ascii "tts:color") l) λ color c.
      bind (IfSome Channels) _ (color_of k (ascii "tts:backgroundColor") l) _ (color-holds (ascii "tts:backgroundColor") l) λ back b.
      bind SizeFits _ (reading k (ascii "tts:fontSize") l (λ a v. size_answer a (size_decimal (run number_byte v)))) _
      (size_holds (run number_byte) l) λ size s.
      holds_is _ _ (record { color = c; back = b; size = s })

  color-wrap : (o : Option Rgba) → IfSome Channels o → Few 1 (color_wrap {S = S} o)
  color-wrap none h = tt
  color-wrap (some c) h = (omega arith, (h.0, h.1, h.2), tt)

  wrappers_few : (l : List (Attr S)) → Holds (Few 6) (wrappers_of k l)
  unfolding wrappers_of
  wrappers_few l =
      bind SizeFits _ (reading k (ascii "tts:fontSize") l (λ a v. size_answer a (size_decimal (up_to_last number_byte v)))) _
      (size_holds (up_to_last number_byte) l) λ size s.
      bind (IfSome Channels) _ (color_of k (ascii "tts:color") l) _ (color-holds (ascii "tts:color") l) λ color c.
      let font = font_wrap (valued k (ascii "tts:fontFamily") l) size in
      let strike = wrap_if {S = S} (says k (ascii "tts:textDecoration") is_strike l) track.strike in
      let under = wrap_if {S = S} (says k (ascii "tts:textDecoration") is_underline l) track.underline in
      let italic = wrap_if {S = S} (says k (ascii "tts:fontStyle") is_italic l) track.italic in
      let bold = wrap_if {S = S} (says k (ascii "tts:fontWeight") is_bold l) track.bold in
      holds_is _ _
      (few_append 5 1 (font ++ color_wrap color ++ strike ++ under ++ italic) bold
      (few_append 4 1 (font ++ color_wrap color ++ strike ++ under) italic
      (few_append 3 1 (font ++ color_wrap color ++ strike) under
      (few_append 2 1 (font ++ color_wrap color) strike
      (few_append 1 1 font (color_wrap color)
      (font-wrap (valued k (ascii "tts:fontFamily") l) size s)
      (color-wrap color c))
      (wrap-if (says k (ascii "tts:textDecoration") is_strike l) track.strike tt))
      (wrap-if (says k (ascii "tts:textDecoration") is_underline l) track.underline tt))
      (wrap-if (says k (ascii "tts:fontStyle") is_italic l) track.italic tt))
      (wrap-if (says k (ascii "tts:fontWeight") is_bold l) track.bold tt))

  -- ---- content

  text-good : (n : ℕ) → 1 ≤ n → (s : S) → Good n (text_segment k s)
  text-good n h s = by-test (is_empty (k.bytes s)) (λ t. rw t tt) (λ t. rw t (h, tt))

  trimmed-good : (n : ℕ) (c : Segments S) → Good n c → Good n (trimmed_space k c)
  unfolding trimmed_space
  trimmed-good n track.done g = tt
  trimmed-good n (track.text s x) g = (g.0, trimmed-good n x g.1)
  trimmed-good n (track.break x) g = (g.0, trimmed-good n x g.1)
  trimmed-good n (track.timestamp z x) g = (g.0, g.1, trimmed-good n x g.2)
  trimmed-good n (track.wrap w c x) g =
      (g.0, g.1, cond_good (n - 1) (seen k x) c (trimmed_space k c) g.2 (trimmed-good (n - 1) c g.2), trimmed-good n x g.3)

  ended-good : (space : Space) (n : ℕ) (c : Segments S) → Good n c → Good n (ended k space c)
  ended-good collapse n c g = trimmed-good n c g
  ended-good preserve n c g = g

  counted-good : (n place made : ℕ) (c : Segments S) → Good n c → Holds (Good n) (counted place made c)
  counted-good n place made c g = within-holds (Good n) 16384 (made + segment_rows c) place c (λ w. g)

  -- six wrappers for each element that a text may stand inside
  abbrev levels : ℕ → ℕ
  levels d = 6 * d + 1

  module _ (ctx : TimingCtx) where
    abbrev Inside : Nodes S → Type 0
    Inside f = (d : ℕ) → Inner d f → (base : ℤ) (space : Space) (before : Before) (made : ℕ) (earlier : Segments S) → Good (levels d) earlier
        → Holds (Good (levels d)) (segments_in k ctx base space before made earlier f)

    inside-element : (at : ℕ) (n : S) (l : List (Attr S)) (c f : Nodes S) → Inside c → Inside f → (r : Inline) → inline_of k n ≡ r
        → Inside (element at n l c f)
    unfolding segments_in
    inside-element at n l c f inner rest a_break e d g base space before made earlier h =
        rw (e, segments_in)
        (bind (Good (levels d)) (Good (levels d)) (counted at made (joined (ended k space earlier) (track.break track.done))) _
        (counted-good (levels d) at made (joined (ended k space earlier) (track.break track.done))
        (joined-good (levels d) (ended k space earlier) (track.break track.done)
        (ended-good space (levels d) earlier h) (omega arith, tt)))
        λ given x. rest d g.2 base space none made given x)
    inside-element at n l c f inner rest a_span e d g base space before made earlier h =
        let P = Good (levels d) in
        rw (e, segments_in)
        (any P (time_of k ctx at (ascii "begin") l) _ λ begin.
        bind TimeFits P (sum at base (or_zero begin)) _ (sum_fits at base (or_zero begin)) λ from t.
        bind (Good (levels (d - 1))) P (segments_in k ctx from (space_of k space l) before (made + segment_rows earlier) track.done c) _
        (inner (d - 1) g.1 from (space_of k space l) before (made + segment_rows earlier) track.done tt) λ content x.
        bind (Few 6) P (wrappers_of k l) _ (wrappers_few l) λ wrappers w.
        let span = span_of wrappers content in
        let one = stamped begin from span in
        bind P P (counted at made (joined earlier one)) _
        (counted-good (levels d) at made (joined earlier one) (joined-good (levels d) earlier one h
        (stamped-good (levels d) (omega arith) begin from span t
        (good_more (6 + levels (d - 1)) (levels d) (omega (arith, g.0)) span (span-good (levels (d - 1)) wrappers content w x))))) λ given y.
        rest d g.2 base space (after k before c) made given y)
    inside-element at n l c f inner rest unknown e d g base space before made earlier h =
        rw (e, segments_in)
        (bind (Good (levels (d - 1))) (Good (levels d)) (segments_in k ctx base space before (made + segment_rows earlier) track.done c) _
        (inner (d - 1) g.1 base space before (made + segment_rows earlier) track.done tt) λ content x.
        rest d g.2 base space (after k before c) made (joined earlier content)
        (joined-good (levels d) earlier content h (good_more (levels (d - 1)) (levels d) (omega arith) content x)))

    nodes-inside : (f : Nodes S) → Inside f
    unfolding segments_in
    nodes-inside nil d g base space before made earlier h = holds_is _ earlier h
    nodes-inside (text at s f) d g base space before made earlier h =
        let one = text_segment k (text_in_of k space before s) in
        bind (Good (levels d)) (Good (levels d)) (counted at made (joined earlier one)) _
        (counted-good (levels d) at made (joined earlier one)
        (joined-good (levels d) earlier one h (text-good (levels d) (omega arith) (text_in_of k space before s))))
        λ given x. nodes-inside f d g base space (last_of before (k.bytes s)) made given x
    nodes-inside (element at n l c f) d g base space before made earlier h =
        inside-element at n l c f (nodes-inside c) (nodes-inside f) (inline_of k n) refl d g base space before made earlier h

    content_good : (d : ℕ) (base : ℤ) (space : Space) (made : ℕ) (c : Nodes S) → Inner d c
        → Holds (Good (levels d)) (content_of k ctx base space made c)
    unfolding content_of
    content_good d base space made c g =
        bind (Good (levels d)) (Good (levels d)) (segments_in k ctx base space none made track.done c) _
        (nodes-inside c d g base space none made track.done tt)
        λ given x. holds_is _ (ended k space given) (ended-good space (levels d) given x)

    styled-good : (n place made : ℕ) (l : List (Attr S)) (c : Segments S) (v : Bool) → is_modelled k l ≡ v → Good n c
        → Holds (Good (6 + n)) (styled k ctx place made l c)
    unfolding styled
    styled-good n place made l c false e g = rw (e, styled) (holds_is _ c (good_more n (6 + n) (omega arith) c g))
    styled-good n place made l c true e g =
        rw (e, styled) (bind (Few 6) (Good (6 + n)) (wrappers_of k l) _ (wrappers_few l)
        λ wrappers w. counted-good (6 + n) place made (paragraph_of wrappers c) (paragraph-good n wrappers c w g))

    -- ---- cues

    good_cue : (n : ℕ) → n ≤ 512 → (y : Cue S) → Good n y.segments → CueValues y
    good_cue n h y g = record { segments = good_values n y.segments g; nested = omega (arith, h, good_depth n y.segments g) }

    p_values : (d : ℕ) → d ≤ 64 → (reference : ℤ) (space : Space) (cues : List (Cue S)) (at : ℕ) (l : List (Attr S)) (c : Nodes S) → Inner d c
        → Holds CueValues (cue_of_p k ctx reference space cues at l c)
    unfolding cue_of_p
    p_values d few reference space cues at l c g =
        any _ (time_of k ctx at (ascii "begin") l) _ λ begin.
        any _ (time_of k ctx at (ascii "end") l) _ λ end.
        any _ (time_of k ctx at (ascii "dur") l) _ λ dur.
        any _ (sum at reference (or_zero begin)) _ λ start.
        any _ (end_of at reference start end dur) _ λ stop.
        bind (Good (levels d)) _ (content_of k ctx start (space_of k space l) (made_in cues) c) _
        (content_good d start (space_of k space l) (made_in cues) c g) λ content x.
        bind (Good (6 + levels d)) _ (styled k ctx at (made_in cues) l content) _
        (styled-good (levels d) at (made_in cues) l content (is_modelled k l) refl x) λ segments y.
        within-holds _ 2048 (length cues + 1) at _ (λ w. good_cue (6 + levels d) (omega (arith, few)) _ y)

    abbrev LineValues : Line S → Type 0
    LineValues y = All CueValues y.cues

    line_values : (d : ℕ) → d ≤ 64 → (reference : ℤ) (space : Space) (cues : List (Cue S)) (at : ℕ) (l : List (Attr S)) (c : Nodes S) → Inner d c
        → All CueValues cues → Holds LineValues (p_of k ctx reference space cues at l c)
    unfolding p_of
    line_values d few reference space cues at l c g h =
        bind CueValues _ (cue_of_p k ctx reference space cues at l c) _ (p_values d few reference space cues at l c g)
        λ y x. holds_is _ _ (all_join CueValues cues (y ∷ []) h (x, tt))

    div_values : (reference : ℤ) (at : ℕ) (l : List (Attr S)) (children : ℤ → Answer (Line S)) → ((start : ℤ) → Holds LineValues (children start))
        → Holds LineValues (div_of k ctx reference at l children)
    unfolding div_of
    div_values reference at l children h =
        any _ (time_of k ctx at (ascii "begin") l) _ λ begin.
        any _ (sum at reference (or_zero begin)) _ λ start.
        bind LineValues _ (children start) _ (h start) λ inner g.
        any _ (time_of k ctx at (ascii "dur") l) _ λ dur.
        any _ (lasting_to at start dur inner.end) _ λ end.
        holds_is _ _ g

    abbrev Cues : Nodes S → Type 0
    Cues f = (d : ℕ) → d ≤ 64 → Inner d f → (seq : Bool) (space : Space) (begin reference latest : ℤ) (cues : List (Cue S)) → All CueValues cues
        → Holds LineValues (cues_in k ctx seq space begin reference latest cues f)

    cues_element : (at : ℕ) (n : S) (l : List (Attr S)) (c f : Nodes S) → Cues c → Cues f → (r : Timed) → timed_of k n ≡ r → Cues (element at n l c f)
    unfolding cues_in
    cues_element at n l c f inner rest a_div e d few g seq space begin reference latest cues h =
        rw (e, cues_in)
        (bind LineValues _ (div_of k ctx reference at l (λ start. cues_in k ctx (is_seq k l) (space_of k space l) start start start cues c)) _
        (div_values reference at l _ (λ start. inner (d - 1) (omega (arith, few)) g.1 (is_seq k l) (space_of k space l) start start start cues h))
        λ line x. rest d few g.2 seq space begin (cond seq line.end begin) (later latest line.end) line.cues x)
    cues_element at n l c f inner rest a_p e d few g seq space begin reference latest cues h =
        rw (e, cues_in)
        (bind LineValues _ (p_of k ctx reference space cues at l c) _
        (line_values (d - 1) (omega (arith, few)) reference space cues at l c g.1 h)
        λ line x. rest d few g.2 seq space begin (cond seq line.end begin) (later latest line.end) line.cues x)
    cues_element at n l c f inner rest unknown e d few g seq space begin reference latest cues h =
        rw (e, cues_in)
        (bind LineValues _ (cues_in k ctx seq (space_of k space l) reference reference reference cues c) _
        (inner (d - 1) (omega (arith, few)) g.1 seq (space_of k space l) reference reference reference cues h)
        λ line x. rest d few g.2 seq space begin (cond seq line.end begin) (later latest line.end) line.cues x)

    cues_inside : (f : Nodes S) → Cues f
    unfolding cues_in
    cues_inside nil d few g seq space begin reference latest cues h = holds_is _ _ h
    cues_inside (text at s f) d few g seq space begin reference latest cues h = cues_inside f d few g seq space begin reference latest cues h
    cues_inside (element at n l c f) d few g seq space begin reference latest cues h =
        cues_element at n l c f (cues_inside c) (cues_inside f) (timed_of k n) refl d few g seq space begin reference latest cues h

  -- ---- the whole

  module _ (d : ℕ) (few : d ≤ 64) where
    abbrev ElementInner : Element S → Type 0
    ElementInner e = Inner d e.content

    first_inner : (name : Bytes) (f : Nodes S) → Inner d f → IfSome ElementInner (first_element k name f)
    unfolding first_element
    first_inner name nil g = tt
    first_inner name (text at s f) g = first_inner name f g
    first_inner name (element at n l c f) g = by-test (named k name n)
        (λ t. rw t (inner_more (d - 1) d (omega arith) c g.1))
        (λ t. rw t (first_inner name f g.2))

    listed-element : (name : Bytes) (at : ℕ) (s : S) (l : List (Attr S)) (c f : Nodes S)
        → ((n : ℕ) → Holds (All StyleValues) (listed k name (style_of k) n f)) → (v : Option S) → cond (named k name s) (id_of k l) none ≡ v
        → (n : ℕ) → Holds (All StyleValues) (listed k name (style_of k) n (element at s l c f))
    unfolding listed
    listed-element name at s l c f rest none e n = rw (e, listed) (rest n)
    listed-element name at s l c f rest (some id) e n =
        rw (e, listed)
        (bind StyleValues _ (style_of k id l) _ (style-values id l) λ made m.
        bind StyleValues _ (within 256 (n + 1) at made) _ (within-holds _ 256 (n + 1) at made (λ w. m)) λ one o.
        bind (All StyleValues) _ (listed k name (style_of k) (n + 1) f) _ (rest (n + 1)) λ more r.
        holds_is _ _ (o, r))

    listed-values : (name : Bytes) (f : Nodes S) (n : ℕ) → Holds (All StyleValues) (listed k name (style_of k) n f)
    unfolding listed
    listed-values name nil n = holds_is _ [] tt
    listed-values name (text at s f) n = listed-values name f n
    listed-values name (element at s l c f) n =
        listed-element name at s l c f (listed-values name f) (cond (named k name s) (id_of k l) none) refl n

    body_values : (ctx : TimingCtx) (space : Space) (e : Option (Element S)) → IfSome ElementInner e
        → Holds (All CueValues) (body_of k ctx space e)
    unfolding body_of
    body_values ctx space none g = holds_is _ [] tt
    body_values ctx space (some e) g =
        any _ (time_of k ctx e.at (ascii "begin") e.attrs) _ λ offset.
        bind (LineValues ctx) _
        (cues_in k ctx (is_seq k e.attrs) (space_of k space e.attrs) (or_zero offset) (or_zero offset) (or_zero offset) [] e.content) _
        (cues_inside ctx e.content d few g (is_seq k e.attrs) (space_of k space e.attrs) (or_zero offset) (or_zero offset) (or_zero offset) [] tt)
        λ line x. holds_is _ _ x

    element-values : (e : Element S) → ElementInner e → Holds Values (track_in k e)
    unfolding track_in
    element-values e g =
        let head = inside k (ascii "head") e.content in
        any _ (within 64 (length (params_of k e.attrs)) e.at (params_of k e.attrs)) _ λ params.
        any _ (rate_of k (ascii "frameRate") e.attrs) _ λ frame.
        any _ (rate_of k (ascii "tickRate") e.attrs) _ λ tick.
        bind (All StyleValues) _ (listed k (ascii "style") (style_of k) 0 (inside k (ascii "styling") head)) _
        (listed-values (ascii "style") (inside k (ascii "styling") head) 0) λ styles s.
        any _ (listed k (ascii "region") (region_of k) 0 (inside k (ascii "layout") head)) _ λ regions.
        bind (All CueValues) _
        (body_of k (timing frame tick) (space_of k collapse e.attrs) (first_element k (ascii "body") e.content)) _
        (body_values (timing frame tick) (space_of k collapse e.attrs) (first_element k (ascii "body") e.content)
        (first_inner (ascii "body") e.content g)) λ cues c.
        holds_is _ _ (record { styles = s; cues = c })

    track-from : (e : Option (Element S)) → IfSome ElementInner e → Holds Values (track_from k e)
    track-from none g = holds_refused _ 12 0
    track-from (some e) g = element-values e g

    pub track_values : (f : Nodes S) → Inner d f → Holds Values (track_of k f)
    unfolding track_of
    track_values f g = track-from (first_element k (ascii "tt") f) (first_inner (ascii "tt") f g)

    -- ---- the single cue

    single-values : (e : Element S) → ElementInner e → Holds CueValues (cue_in k e)
    unfolding cue_in
    single-values e g =
        any _ (time_of k (timing none none) e.at (ascii "begin") e.attrs) _ λ begin.
        any _ (time_of k (timing none none) e.at (ascii "end") e.attrs) _ λ end.
        any _ (stop_of k e.at (or_zero begin) end e.attrs) _ λ stop.
        bind (Good (levels d)) _ (content_of k (timing none none) (pos 0) (space_of k collapse e.attrs) 0 e.content) _
        (content_good (timing none none) d (pos 0) (space_of k collapse e.attrs) 0 e.content g) λ content x.
        holds_is _ _ (good_cue (timing none none) (levels d) (omega (arith, few)) _ x)

    cue-from : (e : Option (Element S)) → IfSome ElementInner e → Holds CueValues (cue_from k e)
    cue-from none g = holds_refused _ 12 0
    cue-from (some e) g = single-values e g

    pub cue-values : (f : Nodes S) → Inner d f → Holds CueValues (cue_of k f)
    unfolding cue_of
    cue-values f g = cue-from (first_element k (ascii "p") f) (first_inner (ascii "p") f g)

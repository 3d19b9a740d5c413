-- A tree that means no track, or no cue, meets a number from 12 to 16. Assumes nothing.
--     whole_numbers, single-numbers
use Rattle.std.specs.Prelude as rust
use Rattle.std.specs.Prelude.{Some, None, Result, Ok, Err}
use Prim.Native.Nat.{ℕ, ◌+◌, ◌≤◌}
use mathlib.Core.Path.{◌≡◌, refl}
use mathlib.Core.Bool.{Bool, true, false, cond}
use mathlib.Core.List.{List, []}
use mathlib.Core.Option.{Option, none, some}
use native.Mathlib.Omega.{arith}
use lib.ListN.{length}
use lib.Dec.{leb}
use lib.IntN.{ℤ, pos, ◌+ℤ◌}
use Rattle.scan.proofs.Every.{by-test}
use Rattle.utf8.specs.White.{trimmed}
use Rattle.times.specs.declared.offset.TimingCtx.{TimingCtx}
use Rattle.times.specs.Sums.{checked}
use Rattle.times.specs.Expressions.{time_in, time_decimal}
use Rattle.colors.specs.Colors.{color_in}
use Rattle.scan.specs.Names.{same_bytes_of, after_first_colon}
use Rattle.track.specs.Track.{Bytes, Segments, Cue, segment_rows, joined}
use Rattle.track.specs.Track as track
use Rattle.records.specs.Find.{first_that}
use Rattle.grammar.specs.Scan.{run}
use Rattle.xml.specs.Reading.{Placed}
use Rattle.meaning.specs.Words.{ascii, up_to_last, only}
use Rattle.meaning.specs.Answers.{Answer, is, refused, ◌>>=◌, answered, within}
use Rattle.meaning.specs.Nodes.{Strings, Attr, Nodes, nil, text, element, Element, named, first_element, attribute, read_from, reading, id_of}
use Rattle.meaning.specs.Space.{Space, collapse, space_of, Before, last_of, Inline, a_break, a_span, unknown, inline_of, after, text_in_of, ended}
use Rattle.meaning.specs.Timing.{time_answer, time_of, sum_answer, sum, or_zero, end_of, lasting_to, is_seq}
use Rattle.meaning.specs.Styling.{color_answer, size_answer, size_decimal, number_byte, color_of, style_of, region_of, is_modelled, wrappers_of}
use Rattle.meaning.specs.Inline.{span_of, paragraph_of, stamped, text_segment, counted, segments_in, content_of}
use Rattle.meaning.specs.Cues.{Timed, a_div, a_p, unknown, Line, later, timed_of, made_in, styled, cue_of_p, p_of, div_of, cues_in}
use Rattle.meaning.specs.Meaning.{rate_answer, is_param, params_of, rate_of, inside, listed, body_of, timing, track_in, track_from, track_of}
use Rattle.meaning.specs.Meaning.{stop_of, cue_in, cue_from, cue_of}
use Rattle.meaning.specs.Kinds.{with_places}
use Rattle.laid.specs.Laid.{whole, alone, single}
use Rattle.decimals.specs.declared.read.DecimalError.{DecimalError}
use Rattle.times.specs.declared.offset.TimeError.{TimeError}
use Rattle.colors.specs.declared.read.ColorError.{ColorError}
use Rattle.decimals.specs.declared.read.Digits.{Digits}
use Rattle.colors.specs.declared.read.Rgba.{Rgba}

-- ---- answers

pub record Numbered {A : Type 0} (m : Answer A) : Type 0 where
  pub within : (n p : ℕ) → m ≡ refused n p → (12 ≤ n) × (n ≤ 16)

numbered_is : {A : Type 0} (a : A) → Numbered (is a)
numbered_is {A} a = record { within = λ n p e. absurd (apart n p e) }
  where
    apart : (n p : ℕ) → ◌≡◌ {A = Answer A} (is a) (refused n p) → ⊥
    apart n p e = let z : ◌≡◌ {A = ℕ} 0 1 = cc in omega arith

numbered_refused : {A : Type 0} (i q : ℕ) → 12 ≤ i → i ≤ 16 → Numbered {A = A} (refused i q)
numbered_refused {A} i q h g = record { within = λ n p e. let x = same n p e in (omega (arith, x), omega (arith, x)) }
  where
    same : (n p : ℕ) → ◌≡◌ {A = Answer A} (refused i q) (refused n p) → i ≡ n
    same n p e = cc

bind : {A B : Type 0} (m : Answer A) (c : A → Answer B) → Numbered m → ((a : A) → Numbered (c a)) → Numbered (m >>= c)
bind (is a) c h k = k a
bind (refused n p) c h k = let w = h.within n p refl in numbered_refused n p w.0 w.1

numbered_within : {A : Type 0} (limit n place : ℕ) (x : A) → Numbered (within limit n place x)
numbered_within limit n place x = by-test (leb n limit)
    (λ t. rw t (numbered_is x))
    (λ t. rw t (numbered_refused 13 place (omega arith) (omega arith)))

numbered_sum : (e : ℕ) (a b : ℤ) → Numbered (sum e a b)
unfolding sum
numbered_sum e a b = by (checked (a +ℤ b))
  where
    by : (x : rust.Option ℤ) → Numbered (sum_answer e x)
    by (Some z) = numbered_is z
    by None = numbered_refused 16 e (omega arith) (omega arith)

numbered_end : (e : ℕ) (reference start : ℤ) (end dur : Option ℤ) → Numbered (end_of e reference start end dur)
unfolding end_of
numbered_end e reference start (some z) dur = numbered_sum e reference z
numbered_end e reference start none (some d) = numbered_sum e start d
numbered_end e reference start none none = numbered_is start

numbered_lasting : (e : ℕ) (start : ℤ) (dur : Option ℤ) (children : ℤ) → Numbered (lasting_to e start dur children)
unfolding lasting_to
numbered_lasting e start (some d) children = numbered_sum e start d
numbered_lasting e start none children = numbered_is children

numbered_time : (e a : ℕ) (x : Result ℤ TimeError) → Numbered (time_answer e a x)
numbered_time e a (Ok z) = numbered_is (some z)
numbered_time e a (Err TimeError.Invalid) = numbered_is none
numbered_time e a (Err TimeError.Beyond) = numbered_refused 14 a (omega arith) (omega arith)
numbered_time e a (Err TimeError.LongFraction) = numbered_refused 15 a (omega arith) (omega arith)
numbered_time e a (Err TimeError.Overflow) = numbered_refused 16 e (omega arith) (omega arith)

numbered_color : (a : ℕ) (x : Result Rgba ColorError) → Numbered (color_answer a x)
numbered_color a (Ok c) = numbered_is (some c)
numbered_color a (Err ColorError.Invalid) = numbered_is none
numbered_color a (Err ColorError.Cut) = numbered_refused 15 a (omega arith) (omega arith)

numbered_size : (a : ℕ) (x : Result Digits DecimalError) → Numbered (size_answer a x)
numbered_size a (Ok d) = numbered_is (some _)
numbered_size a (Err DecimalError.Invalid) = numbered_is none
numbered_size a (Err DecimalError.Beyond) = numbered_refused 14 a (omega arith) (omega arith)

numbered_rate : (a : ℕ) (x : Result Digits DecimalError) → Numbered (rate_answer a x)
numbered_rate a (Ok d) = numbered_is (some _)
numbered_rate a (Err DecimalError.Invalid) = numbered_is none
numbered_rate a (Err DecimalError.Beyond) = numbered_refused 14 a (omega arith) (omega arith)

-- ---- elements

module _ {S : Type 0} (k : Strings S) where
  numbered_from : {A : Type 0} (read : ℕ → Bytes → Answer (Option A)) → ((a : ℕ) (v : Bytes) → Numbered (read a v)) → (o : Option (Attr S))
      → Numbered (read_from k read o)
  numbered_from read h none = numbered_is none
  numbered_from read h (some x) = h x.at (k.bytes x.value)

  time-numbers : (ctx : TimingCtx) (e : ℕ) (name : Bytes) (l : List (Attr S)) → Numbered (time_of k ctx e name l)
  unfolding time_of reading
  time-numbers ctx e name l =
      numbered_from (λ a v. time_answer e a (time_in v ctx)) (λ a v. numbered_time e a (time_in v ctx)) (attribute k name l)

  color-numbers : (name : Bytes) (l : List (Attr S)) → Numbered (color_of k name l)
  unfolding color_of reading
  color-numbers name l = numbered_from (λ a v. color_answer a (color_in v)) (λ a v. numbered_color a (color_in v)) (attribute k name l)

  size-numbers : (part : Bytes → Bytes) (l : List (Attr S))
      → Numbered (reading k (ascii "tts:fontSize") l (λ a v. size_answer a (size_decimal (part v))))
  unfolding reading
  size-numbers part l =
      numbered_from (λ a v. size_answer a (size_decimal (part v))) (λ a v. numbered_size a (size_decimal (part v)))
      (attribute k (ascii "tts:fontSize") l)

  rate-numbers : (name : Bytes) (l : List (Attr S)) → Numbered (rate_of k name l)
  unfolding rate_of
  rate-numbers name l =
      numbered_from (λ a v. rate_answer a (time_decimal (trimmed v))) (λ a v. numbered_rate a (time_decimal (trimmed v)))
      (first_that (λ (x : Attr S). same_bytes_of (after_first_colon (k.bytes x.name)) name) (only (is_param k) l))

  style_numbers : (id : S) (l : List (Attr S)) → Numbered (style_of k id l)
  unfolding style_of
  style_numbers id l =
      bind (color_of k (ascii "tts:color") l) _ (color-numbers (ascii "tts:color") l) λ color.
      bind (color_of k (ascii "tts:backgroundColor") l) _ (color-numbers (ascii "tts:backgroundColor") l) λ back.
      bind (reading k (ascii "tts:fontSize") l (λ a v. size_answer a (size_decimal (run number_byte v)))) _ (size-numbers (run number_byte) l) λ size.
      numbered_is _

  region_numbers : (id : S) (l : List (Attr S)) → Numbered (region_of k id l)
  unfolding region_of
  region_numbers id l = numbered_is _

  wrapper_numbers : (l : List (Attr S)) → Numbered (wrappers_of k l)
  unfolding wrappers_of
  wrapper_numbers l =
      bind (reading k (ascii "tts:fontSize") l (λ a v. size_answer a (size_decimal (up_to_last number_byte v)))) _ (size-numbers (up_to_last number_byte) l)
      λ size.
      bind (color_of k (ascii "tts:color") l) _ (color-numbers (ascii "tts:color") l) λ color.
      numbered_is _

  -- ---- content and cues

  counted-numbers : (place made : ℕ) (c : Segments S) → Numbered (counted place made c)
  counted-numbers place made c = numbered_within 16384 (made + segment_rows c) place c

  module _ (ctx : TimingCtx) where
    abbrev Inside : Nodes S → Type 0
    Inside f = (base : ℤ) (space : Space) (before : Before) (made : ℕ) (earlier : Segments S)
        → Numbered (segments_in k ctx base space before made earlier f)

    inside-element : (at : ℕ) (n : S) (l : List (Attr S)) (c f : Nodes S) → Inside c → Inside f → (r : Inline) → inline_of k n ≡ r
        → Inside (element at n l c f)
    unfolding segments_in
    inside-element at n l c f inner rest a_break e base space before made earlier =
        rw (e, segments_in)
        (bind (counted at made (joined (ended k space earlier) (track.break track.done))) _
        (counted-numbers at made (joined (ended k space earlier) (track.break track.done)))
        λ given. rest base space none made given)
    inside-element at n l c f inner rest a_span e base space before made earlier =
        rw (e, segments_in)
        (bind (time_of k ctx at (ascii "begin") l) _ (time-numbers ctx at (ascii "begin") l) λ begin.
        bind (sum at base (or_zero begin)) _ (numbered_sum at base (or_zero begin)) λ from.
        bind (segments_in k ctx from (space_of k space l) before (made + segment_rows earlier) track.done c) _
        (inner from (space_of k space l) before (made + segment_rows earlier) track.done) λ content.
        bind (wrappers_of k l) _ (wrapper_numbers l) λ wrappers.
        let one = stamped begin from (span_of wrappers content) in
        bind (counted at made (joined earlier one)) _ (counted-numbers at made (joined earlier one)) λ given.
        rest base space (after k before c) made given)
    inside-element at n l c f inner rest unknown e base space before made earlier =
        rw (e, segments_in)
        (bind (segments_in k ctx base space before (made + segment_rows earlier) track.done c) _
        (inner base space before (made + segment_rows earlier) track.done)
        λ content. rest base space (after k before c) made (joined earlier content))

    nodes-inside : (f : Nodes S) → Inside f
    unfolding segments_in
    nodes-inside nil base space before made earlier = numbered_is earlier
    nodes-inside (text at s f) base space before made earlier =
        let one = text_segment k (text_in_of k space before s) in
        bind (counted at made (joined earlier one)) _ (counted-numbers at made (joined earlier one))
        λ given. nodes-inside f base space (last_of before (k.bytes s)) made given
    nodes-inside (element at n l c f) base space before made earlier =
        inside-element at n l c f (nodes-inside c) (nodes-inside f) (inline_of k n) refl base space before made earlier

    content_numbers : (base : ℤ) (space : Space) (made : ℕ) (c : Nodes S) → Numbered (content_of k ctx base space made c)
    unfolding content_of
    content_numbers base space made c =
        bind (segments_in k ctx base space none made track.done c) _ (nodes-inside c base space none made track.done)
        λ given. numbered_is (ended k space given)

    styled-numbers : (place made : ℕ) (l : List (Attr S)) (c : Segments S) (v : Bool) → is_modelled k l ≡ v → Numbered (styled k ctx place made l c)
    unfolding styled
    styled-numbers place made l c false e = rw (e, styled) (numbered_is c)
    styled-numbers place made l c true e =
        rw (e, styled) (bind (wrappers_of k l) _ (wrapper_numbers l) λ wrappers. counted-numbers place made (paragraph_of wrappers c))

    p_numbers : (reference : ℤ) (space : Space) (cues : List (Cue S)) (at : ℕ) (l : List (Attr S)) (c : Nodes S)
        → Numbered (cue_of_p k ctx reference space cues at l c)
    unfolding cue_of_p
    p_numbers reference space cues at l c =
        bind (time_of k ctx at (ascii "begin") l) _ (time-numbers ctx at (ascii "begin") l) λ begin.
        bind (time_of k ctx at (ascii "end") l) _ (time-numbers ctx at (ascii "end") l) λ end.
        bind (time_of k ctx at (ascii "dur") l) _ (time-numbers ctx at (ascii "dur") l) λ dur.
        bind (sum at reference (or_zero begin)) _ (numbered_sum at reference (or_zero begin)) λ start.
        bind (end_of at reference start end dur) _ (numbered_end at reference start end dur) λ stop.
        bind (content_of k ctx start (space_of k space l) (made_in cues) c) _ (content_numbers start (space_of k space l) (made_in cues) c) λ content.
        bind (styled k ctx at (made_in cues) l content) _ (styled-numbers at (made_in cues) l content (is_modelled k l) refl) λ segments.
        numbered_within 2048 (length cues + 1) at _

    line_numbers : (reference : ℤ) (space : Space) (cues : List (Cue S)) (at : ℕ) (l : List (Attr S)) (c : Nodes S)
        → Numbered (p_of k ctx reference space cues at l c)
    unfolding p_of
    line_numbers reference space cues at l c =
        bind (cue_of_p k ctx reference space cues at l c) _ (p_numbers reference space cues at l c) λ y. numbered_is _

    div_numbers : (reference : ℤ) (at : ℕ) (l : List (Attr S)) (children : ℤ → Answer (Line S)) → ((start : ℤ) → Numbered (children start))
        → Numbered (div_of k ctx reference at l children)
    unfolding div_of
    div_numbers reference at l children h =
        bind (time_of k ctx at (ascii "begin") l) _ (time-numbers ctx at (ascii "begin") l) λ begin.
        bind (sum at reference (or_zero begin)) _ (numbered_sum at reference (or_zero begin)) λ start.
        bind (children start) _ (h start) λ inner.
        bind (time_of k ctx at (ascii "dur") l) _ (time-numbers ctx at (ascii "dur") l) λ dur.
        bind (lasting_to at start dur inner.end) _ (numbered_lasting at start dur inner.end) λ end.
        numbered_is _

    abbrev Cues : Nodes S → Type 0
    Cues f = (seq : Bool) (space : Space) (begin reference latest : ℤ) (cues : List (Cue S))
        → Numbered (cues_in k ctx seq space begin reference latest cues f)

    cues_element : (at : ℕ) (n : S) (l : List (Attr S)) (c f : Nodes S) → Cues c → Cues f → (r : Timed) → timed_of k n ≡ r → Cues (element at n l c f)
    unfolding cues_in
    cues_element at n l c f inner rest a_div e seq space begin reference latest cues =
        rw (e, cues_in)
        (bind (div_of k ctx reference at l (λ start. cues_in k ctx (is_seq k l) (space_of k space l) start start start cues c)) _
        (div_numbers reference at l _ (λ start. inner (is_seq k l) (space_of k space l) start start start cues))
        λ line. rest seq space begin (cond seq line.end begin) (later latest line.end) line.cues)
    cues_element at n l c f inner rest a_p e seq space begin reference latest cues =
        rw (e, cues_in)
        (bind (p_of k ctx reference space cues at l c) _ (line_numbers reference space cues at l c)
        λ line. rest seq space begin (cond seq line.end begin) (later latest line.end) line.cues)
    cues_element at n l c f inner rest unknown e seq space begin reference latest cues =
        rw (e, cues_in)
        (bind (cues_in k ctx seq (space_of k space l) reference reference reference cues c) _
        (inner seq (space_of k space l) reference reference reference cues)
        λ line. rest seq space begin (cond seq line.end begin) (later latest line.end) line.cues)

    cues_numbers : (f : Nodes S) → Cues f
    unfolding cues_in
    cues_numbers nil seq space begin reference latest cues = numbered_is _
    cues_numbers (text at s f) seq space begin reference latest cues = cues_numbers f seq space begin reference latest cues
    cues_numbers (element at n l c f) seq space begin reference latest cues =
        cues_element at n l c f (cues_numbers c) (cues_numbers f) (timed_of k n) refl seq space begin reference latest cues

  -- ---- the whole

  module _ {A : Type 0} (make : S → List (Attr S) → Answer A) (h : (id : S) (l : List (Attr S)) → Numbered (make id l)) where
    listed-element : (name : Bytes) (at : ℕ) (s : S) (l : List (Attr S)) (c f : Nodes S) → ((n : ℕ) → Numbered (listed k name make n f))
        → (v : Option S) → cond (named k name s) (id_of k l) none ≡ v → (n : ℕ) → Numbered (listed k name make n (element at s l c f))
    unfolding listed
    listed-element name at s l c f rest none e n = rw (e, listed) (rest n)
    listed-element name at s l c f rest (some id) e n =
        rw (e, listed)
        (bind (make id l) _ (h id l) λ made.
        bind (within 256 (n + 1) at made) _ (numbered_within 256 (n + 1) at made) λ one.
        bind (listed k name make (n + 1) f) _ (rest (n + 1)) λ more.
        numbered_is _)

    listed-numbers : (name : Bytes) (f : Nodes S) (n : ℕ) → Numbered (listed k name make n f)
    unfolding listed
    listed-numbers name nil n = numbered_is _
    listed-numbers name (text at s f) n = listed-numbers name f n
    listed-numbers name (element at s l c f) n =
        listed-element name at s l c f (listed-numbers name f) (cond (named k name s) (id_of k l) none) refl n

  body_numbers : (ctx : TimingCtx) (space : Space) (e : Option (Element S)) → Numbered (body_of k ctx space e)
  unfolding body_of
  body_numbers ctx space none = numbered_is _
  body_numbers ctx space (some e) =
      bind (time_of k ctx e.at (ascii "begin") e.attrs) _ (time-numbers ctx e.at (ascii "begin") e.attrs) λ offset.
      bind (cues_in k ctx (is_seq k e.attrs) (space_of k space e.attrs) (or_zero offset) (or_zero offset) (or_zero offset) [] e.content) _
      (cues_numbers ctx e.content (is_seq k e.attrs) (space_of k space e.attrs) (or_zero offset) (or_zero offset) (or_zero offset) [])
      λ line. numbered_is _

  element-numbers : (e : Element S) → Numbered (track_in k e)
  unfolding track_in
  element-numbers e =
      let head = inside k (ascii "head") e.content in
      bind (within 64 (length (params_of k e.attrs)) e.at (params_of k e.attrs)) _
      (numbered_within 64 (length (params_of k e.attrs)) e.at (params_of k e.attrs)) λ params.
      bind (rate_of k (ascii "frameRate") e.attrs) _ (rate-numbers (ascii "frameRate") e.attrs) λ frame.
      bind (rate_of k (ascii "tickRate") e.attrs) _ (rate-numbers (ascii "tickRate") e.attrs) λ tick.
      bind (listed k (ascii "style") (style_of k) 0 (inside k (ascii "styling") head)) _
      (listed-numbers (style_of k) style_numbers (ascii "style") (inside k (ascii "styling") head) 0) λ styles.
      bind (listed k (ascii "region") (region_of k) 0 (inside k (ascii "layout") head)) _
      (listed-numbers (region_of k) region_numbers (ascii "region") (inside k (ascii "layout") head) 0) λ regions.
      bind (body_of k (timing frame tick) (space_of k collapse e.attrs) (first_element k (ascii "body") e.content)) _
      (body_numbers (timing frame tick) (space_of k collapse e.attrs) (first_element k (ascii "body") e.content)) λ cues.
      numbered_is _

  track-from : (e : Option (Element S)) → Numbered (track_from k e)
  track-from none = numbered_refused 12 0 (omega arith) (omega arith)
  track-from (some e) = element-numbers e

  stop_numbers : (at : ℕ) (start : ℤ) (end : Option ℤ) (l : List (Attr S)) → Numbered (stop_of k at start end l)
  stop_numbers at start (some z) l = numbered_is z
  stop_numbers at start none l =
      bind (time_of k (timing none none) at (ascii "dur") l) _ (time-numbers (timing none none) at (ascii "dur") l)
      λ dur. numbered_end at start start none dur

  single-cue : (e : Element S) → Numbered (cue_in k e)
  unfolding cue_in
  single-cue e =
      let ctx = timing none none in
      bind (time_of k ctx e.at (ascii "begin") e.attrs) _ (time-numbers ctx e.at (ascii "begin") e.attrs) λ begin.
      bind (time_of k ctx e.at (ascii "end") e.attrs) _ (time-numbers ctx e.at (ascii "end") e.attrs) λ end.
      bind (stop_of k e.at (or_zero begin) end e.attrs) _ (stop_numbers e.at (or_zero begin) end e.attrs) λ stop.
      bind (content_of k ctx (pos 0) (space_of k collapse e.attrs) 0 e.content) _
      (content_numbers ctx (pos 0) (space_of k collapse e.attrs) 0 e.content) λ content.
      numbered_is _

  cue-from : (e : Option (Element S)) → Numbered (cue_from k e)
  cue-from none = numbered_refused 12 0 (omega arith) (omega arith)
  cue-from (some e) = single-cue e

pub whole_numbers : (f : Nodes Placed) → Numbered (whole f)
unfolding track_of
whole_numbers f = track-from with_places (first_element with_places (ascii "tt") f)

numbered_alone : (m : Answer (Cue Placed)) → Numbered m → Numbered (answered alone m)
numbered_alone (is x) h = numbered_is _
numbered_alone (refused n p) h = let w = h.within n p refl in numbered_refused n p w.0 w.1

pub single-numbers : (f : Nodes Placed) → Numbered (single f)
unfolding cue_of
single-numbers f = numbered_alone (cue_of with_places f) (cue-from with_places (first_element with_places (ascii "p") f))

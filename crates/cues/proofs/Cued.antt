-- A p as a cue. Assumes nothing.
--     p_untimed, p_unsegmented, p_full, p_is             what a p means, by the answers to its times, its segments and its limit
--     content_more, segments_no, segments_of             what `collect_segments` ensures
--     rows-small, part_small, full_of, cue_added                  what `add_paragraph` ensures
--     p_row, p_attrs, p_segments, p_kept, p_after        what the parts of a p ask
--     no_times, no-segments, cued                        what `collect_paragraph` ensures, by the answers
use Rattle.std.specs.Option.{ok_or, unwrap_or}
use Rattle.std.specs.Option as has
use Rattle.std.specs.Prelude.{Option, Some, None, Result, Ok, Err}
use Prim.Native.Nat.{ℕ, ◌+◌, ◌-◌, ◌*◌, ◌≤◌, ◌<◌, ◌^◌}
use mathlib.Core.Path.{◌≡◌, refl, sym, ap, ◌∙◌}
use mathlib.Core.Bool.{Bool}
use mathlib.Core.List.{List, [], ◌∷◌, ◌++◌}
use native.Mathlib.Omega.{arith}
use lib.IntN.{ℤ}
use lib.Dec.{eqb}
use lib.ListN.{length}
use lib.Seq.{sets}
use borrow.Author.Tests.{le-leb, lt-leb}
use Rattle.scan.proofs.Every.{by-test}
use Rattle.times.specs.declared.offset.TimingCtx.{TimingCtx}
use Rattle.tree.specs.declared.answers.Refusal.{Refusal}
use Rattle.tree.specs.Trees.{Forest, attr_spans, spans, InOrder}
use Rattle.tree.specs.Trees as placed
use Rattle.tree.proofs.Places.{in_lower, in_first, in_rest}
use Rattle.track.specs.declared.strings.Span.{Span}
use Rattle.track.specs.declared.values.Rows.{Rows}
use Rattle.track.specs.declared.values.Cue as declared
use Rattle.track.specs.Track.{Extra, Segments, Cue}
use Rattle.track.specs.Layout.{cue_cells}
use Rattle.records.specs.Siblings.{later}
use Rattle.records.specs.Posts.{SmallSpan, SmallRows, AddPost, TimesPost}
use Rattle.xml.specs.declared.find.Element.{Element}
use Rattle.xml.specs.Find.{Owned, element_row}
use Rattle.xml.specs.Reading.{Placed}
use Rattle.xml.proofs.FindLaws.{holds_elem}
use Rattle.meaning.specs.Answers.{Answer, is, refused, ◌>>=◌, within}
use Rattle.meaning.specs.Words.{ascii}
use Rattle.meaning.specs.Nodes.{Attr, Nodes, valued}
use Rattle.meaning.specs.Kinds.{with_places, attrs_in, nodes_in}
use Rattle.meaning.specs.Space.{Space, space_of, is_preserve}
use Rattle.meaning.specs.Timing.{time_of, sum, or_zero, end_of}
use Rattle.meaning.specs.Styling.{inline_extras}
use Rattle.meaning.specs.Inline.{content_of}
use Rattle.meaning.specs.Cues.{made_in, styled, cue_of_p, p_of}
use Rattle.meaning.specs.Cues as meaning
use Rattle.styling.specs.declared.space.WsMode.{WsMode}
use Rattle.styling.specs.Posts.{HasRows, OfRows, turned, space_in}
use Rattle.extras.specs.Kept.{rows_from, Lists}
use Rattle.content.specs.declared.collect.Run.{Run}
use Rattle.content.specs.Steps.{Content, ContentPost}
use Rattle.content.proofs.Standings.{standing-count, laid_same}
use Rattle.cues.specs.declared.lines.Line.{Line}
use Rattle.intervals.specs.declared.Interval.{Interval}
use Rattle.intervals.specs.Steps.{stopping, interval_from, ended_from, begun_from, interval_of}
use Rattle.cues.specs.Steps.{onward, StyledGiven, nowhere, PartIs}
use Rattle.cues.specs.Steps.{CueTables, Base, Child, AsksChild, ParagraphPost}
use Rattle.cues.specs.Steps.{segments_of_p, AsksSegments, Segmented, SegmentsPost, cue_row, CueAdded, CueOutcome}
use Rattle.cues.proofs.Lined.{cue_with, blank_from, blank-later, blank-onward, cue-row, next_frame, lined_frame, wide_cells}
use Rattle.cues.proofs.Lined.{Next, lined_more}

-- ---- what a p means

-- a step more in front of one that is split
push : {A B C : Type 0} (a : Answer A) (f : A → Answer B) (g : B → Answer C) (k : A → Answer C) → ((x : A) → k x ≡ (f x >>= g))
    → (a >>= k) ≡ ((a >>= f) >>= g)
push (is x) f g k h = h x
push (refused n p) f g k h = refl

module _ (ctx : TimingCtx) (reference : ℤ) (inherited : Space) (cues : List (Cue Placed)) (at : ℕ) (l : List (Attr Placed)) (c : Nodes Placed) where
  abbrev cue : Interval → Segments Placed → Cue Placed
  cue when f = record {
    start = when.start;
    end = when.end;
    style = valued with_places (ascii "style") l;
    region = valued with_places (ascii "region") l;
    preserve = is_preserve (space_of with_places inherited l);
    extras = inline_extras with_places l;
    segments = f;
  }

  -- its cue within the limit; its line
  abbrev limited : Interval → Segments Placed → Answer (Cue Placed)
  limited when f = within 2048 (length cues + 1) at (cue when f)

  abbrev close : Cue Placed → Answer (meaning.Line Placed)
  close x = is (record { cues = cues ++ (x ∷ []); end = x.end })

  -- its segments
  abbrev inside : Interval → Answer (Segments Placed)
  inside when =
      content_of with_places ctx when.start (space_of with_places inherited l) (made_in cues) c >>= styled with_places ctx at (made_in cues) l

  -- its cue, with its times known
  abbrev timed : Interval → Answer (Cue Placed)
  timed when = inside when >>= limited when

  styled-cue : (when : Interval)
      → (content_of with_places ctx when.start (space_of with_places inherited l) (made_in cues) c
      >>= λ f. styled with_places ctx at (made_in cues) l f >>= limited when) ≡ timed when
  styled-cue when =
      push (content_of with_places ctx when.start (space_of with_places inherited l) (made_in cues) c) (styled with_places ctx at (made_in cues) l)
      (limited when) _ (λ f. refl)

  cue_split : cue_of_p with_places ctx reference inherited cues at l c ≡ (interval_of ctx at reference l >>= timed)
  unfolding cue_of_p
  cue_split =
      push (time_of with_places ctx at (ascii "begin") l) (λ begin. begun_from ctx at reference begin l) timed _ (λ begin.
      push (time_of with_places ctx at (ascii "end") l) (λ end. ended_from ctx at reference begin end l) timed _ (λ end.
      push (time_of with_places ctx at (ascii "dur") l) (interval_from at reference begin end) timed _ (λ dur.
      push (sum at reference (or_zero begin)) (stopping at reference end dur) timed _ (λ start.
      push (end_of at reference start end dur) (λ stop. is (record { start = start; end = stop })) timed _ (λ stop.
      styled-cue (record { start = start; end = stop }))))))

  abbrev meant : Answer (meaning.Line Placed)
  meant = p_of with_places ctx reference inherited cues at l c

  p_split : meant ≡ (interval_of ctx at reference l >>= timed >>= close)
  unfolding p_of
  p_split = ap (λ (a : Answer (Cue Placed)). a >>= close) cue_split

  pub p_untimed : (q : Refusal) → turned q ≡ interval_of ctx at reference l → meant ≡ turned q
  p_untimed q e = p_split ∙ rw (← e)

  module _ (when : Interval) (e : is when ≡ interval_of ctx at reference l) (mode : WsMode) (m : space_in mode ≡ space_of with_places inherited l) where
    p_timed : meant ≡ (segments_of_p ctx mode at (made_in cues) when.start l c >>= limited when >>= close)
    p_timed = p_split ∙ rw (← e, m)

    pub p_unsegmented : (q : Refusal) → segments_of_p ctx mode at (made_in cues) when.start l c ≡ turned q → meant ≡ turned q
    p_unsegmented q s = p_timed ∙ rw s

    module _ (f : Segments Placed) (s : segments_of_p ctx mode at (made_in cues) when.start l c ≡ is f) where
      pub p_full : 2048 ≤ length cues → meant ≡ refused 13 at
      p_full g = p_timed ∙ rw (s, lt-leb (length cues + 1) 2048 (omega arith))

      pub p_is : length cues < 2048 → meant ≡ is (record { cues = cues ++ (cue_with when mode l f ∷ []); end = when.end })
      p_is g = p_timed ∙ rw (s, le-leb (length cues + 1) 2048 (omega arith), m)

-- ---- its segments

module _ {t u z : List ℕ} {k : ℕ} {e : Element} {first : ℕ} {s y : List ℕ} (a : AsksSegments t u z k e first s y) (start : ℤ)
    (ctx : TimingCtx) (ws : WsMode) (s' y' : List ℕ) where
  pub content_more : (run : Run) → ContentPost t u z (k + 1) e.end first start ctx ws s y s' y' (Ok run)
      → (first ≤ run.rows) × (run.rows ≤ 16384)
  content_more run post =
      let x = post a.content.frame a.content.content in
      (omega (arith, standing-count x.standing), x.few)

  pub segments_no : (q : Refusal) → ContentPost t u z (k + 1) e.end first start ctx ws s y s' y' (Err q)
      → SegmentsPost t u z k e start ctx ws first s y s' y' (Err q)
  segments_no q post w x l o = rw (post w x)

  pub segments_of : (run : Run) → ContentPost t u z (k + 1) e.end first start ctx ws s y s' y' (Ok run) → (s'' : List ℕ) (r : Result ℕ Refusal)
      → OfRows u z e.first e.many (λ l. (ctx : TimingCtx)
      → StyledGiven (styled with_places ctx e.place first l) first run.rows s' s'' r)
      → SegmentsPost t u z k e start ctx ws first s y s'' y' r
  segments_of run post s'' (Ok n) given w x l o =
      let c = post w x in
      let d = given l o ctx w.pre (later (run.rows - first) w.rest) c.segments c.standing.rows in
      record {
        few = d.few;
        segments = d.segments;
        means = rw c.means d.means;
        end = run.rows;
        after = omega (arith, standing-count c.standing);
        most = c.few;
        rows = d.rows;
        hi = c.hi;
        below = c.below;
        texts = laid_same d.same c.standing.texts;
      }
  segments_of run post s'' (Err q) given w x l o =
      let c = post w x in
      rw c.means (given l o ctx w.pre (later (run.rows - first) w.rest) c.segments c.standing.rows)

-- ---- its cue

-- what `add_cue` asks of the rows of its extras, and of its strings
pub rows-small : {xs : List (Extra Placed)} {at : ℕ} {t t' : List ℕ} (r : Rows) → Lists xs at t t' r → (many : ℕ) → r.count ≤ many
    → at + many < 2 ^ 32 → SmallRows r
rows-small {xs} {at} r x many b h =
    let n : ℕ = length xs in
    let e : r ≡ rows_from at n = x.rows in
    let w : n ≤ many = omega (arith, b, x.count) in
    by-test (eqb n 0) (λ q. rw (e, q) (omega arith, omega arith)) (λ q. rw (e, q) (omega arith, omega arith))

pub part_small : {z name : List ℕ} {l : List (Attr Placed)} (r : Option Span) → PartIs z name l r → length z < 2 ^ 32 → SmallSpan (unwrap_or r nowhere)
part_small r x h = (omega (arith, x.within), omega (arith, x.within))

-- the refusal where there is no room
pub full_of : {q q' : Refusal} (a : Option ℕ) → Err q ≡ ok_or a q' → a ≡ None → q ≡ q'
full_of {q} {q'} a e n =
    let v : ◌≡◌ {A = Result ℕ Refusal} (Err q) (Err q') = e ∙ ap (λ x. ok_or x q') n in
    cc

-- the row as `add_paragraph` makes it is the p's
module _ (place many : ℕ) (when : Interval) (ws : WsMode) (line : Line) (rows : ℕ) (l : List (Attr Placed)) where
  abbrev made : (style region : Option Span) (preserve : Bool) (kept : Rows) → declared.Cue
  made style region preserve kept = record {
    start = when.start;
    end = when.end;
    has_style = has.is_some style;
    style = unwrap_or style nowhere;
    has_region = has.is_some region;
    region = unwrap_or region nowhere;
    preserve = preserve;
    segments = record { first = line.rows; count = rows - line.rows };
    extras = kept;
  }

  pub cue_added : {z x x' : List ℕ} (style region : Option Span) (preserve : Bool) (kept : Rows) (c c' : List ℕ) (m m' : List ℤ) (n : ℕ)
      → PartIs z (ascii "style") l style → PartIs z (ascii "region") l region → preserve ≡ is_preserve (space_in ws)
      → Lists (inline_extras with_places l) line.extras x x' kept → kept.count ≤ many
      → AddPost 2048 11 (cue_cells (made style region preserve kept)) c c' line.cues (Some n)
      → TimesPost (line.cues * 2) when.start when.end m m' (Some n)
      → CueAdded place many when ws line rows c c' m m' x x' l
      (record { cues = n; rows = rows; extras = line.extras + kept.count; end = when.end })
  cue_added style region preserve kept c c' m m' n s r p k few g h =
      let row : made style region preserve kept ≡ cue_row when ws line rows l = rw (s.has, s.span, r.has, r.span, p, k.rows) in
      record {
        few = g.0;
        kept = omega (arith, k.count);
        is = rw (g.1, k.count);
        in-cues = g.2 ∙ ap (λ (i : declared.Cue). sets c (line.cues * 11) (cue_cells i)) row;
        in_times = h;
        in_extras = k.laid;
      }

-- ---- what the parts of a p ask

own-placed : (hi p n : ℕ) (l : List placed.Attr) (c : Forest) (limit : ℕ) → InOrder hi (spans (placed.elem p n l c placed.nil)) limit
    → InOrder hi (spans c) limit
unfolding spans
own-placed hi p n l c limit i =
    in_lower (spans c) hi (p + 1 + n) limit (omega (arith, i.0))
    (in_first (spans c) [] (p + 1 + n) limit (in_rest (attr_spans l) (spans c ++ []) (p + 1 + n) limit i.1))

pub p_row : {t u z : List ℕ} {k : ℕ} {line : Line} {T : CueTables} → AsksChild t u z k line T → k * 6 + 6 ≤ length t
p_row a = (holds_elem a.child.holds).room

module _ {t u z : List ℕ} {k : ℕ} {line : Line} {T : CueTables} (a : AsksChild t u z k line T) (e : Element) (row : e ≡ element_row t k) where
  module _ {b : Base} {limit : ℕ} (x : Child b limit t u z k line T) where
    place_is : e.place ≡ x.place
    place_is = ap (λ (v : Element). v.place) (row ∙ (holds_elem x.holds).cells)

    many_is : e.many ≡ length x.attrs
    many_is = ap (λ (v : Element). v.many) (row ∙ (holds_elem x.holds).cells)

    owned : Owned u z e.first e.many x.attrs
    owned = rw (row ∙ (holds_elem x.holds).cells) (holds_elem x.holds).owned

    abbrev content-of : Content (next_frame b limit x.hi x.earlier T.texts) t u z (k + 1) e.end line.rows T.segments T.texts
    content-of = record {
      own = x.own + length x.attrs;
      forest = x.content;
      holds = (holds_elem x.holds).inside;
      rows = sym (ap (λ (v : Element). v.end) (row ∙ (holds_elem x.holds).cells));
      placed = own-placed x.hi x.place x.len x.attrs x.content limit x.placed;
      standing = lined_frame x.standing limit;
    }

  pub p_attrs : HasRows u z e.first e.many
  p_attrs = (a.child.attrs, owned a.child)

  pub p_segments : AsksSegments t u z k e line.rows T.segments T.texts
  p_segments = record {
    row = p_row a;
    attrs = p_attrs;
    content = record {
      roomy = a.spacious.roomy;
      few = omega (arith, a.child.standing.made, a.child.standing.few_rows);
      frame = next_frame a.base a.limit a.child.hi a.child.earlier T.texts;
      content = content-of a.child;
    };
  }

  pub p_kept : line.extras + e.many ≤ 8192
  p_kept = omega (arith, many_is a.child, a.child.room)

  -- the rows of its segments
  pub p_after : (start : ℤ) (ctx : TimingCtx) (ws : WsMode) (s' y' : List ℕ) (n : ℕ)
      → SegmentsPost t u z k e start ctx ws line.rows T.segments T.texts s' y' (Ok n) → (line.rows ≤ n) × (n ≤ 16384)
  p_after start ctx ws s' y' n post =
      let x = post _ (content-of a.child) a.child.attrs (owned a.child) in
      (omega (arith, x.rows.count), x.few)

  -- ---- what a p ensures

  module _ (reference : ℤ) (ctx : TimingCtx) (ws : WsMode) (T' : CueTables) where
    pub no_times : (q : Refusal) → OfRows u z e.first e.many (λ l. turned q ≡ interval_of ctx e.place reference l)
        → ParagraphPost t u z k reference ctx ws line T T' (Err q)
    no_times q h b limit x =
        p_untimed ctx reference (space_in ws) x.earlier x.place (attrs_in z x.attrs) (nodes_in z x.content) q
        (rw (place_is x) at (h x.attrs (owned x)))

    module _ (when : Interval) (timed : OfRows u z e.first e.many (λ l. is when ≡ interval_of ctx e.place reference l)) (mode : WsMode)
        (modes : OfRows u z e.first e.many (λ l. space_in mode ≡ space_of with_places (space_in ws) l)) where
      -- what `collect_segments` ensured
      abbrev Post : Result ℕ Refusal → Type 0
      Post r = SegmentsPost t u z k e when.start ctx mode line.rows T.segments T.texts T'.segments T'.texts r

      -- its attributes and its content
      module _ {b : Base} {limit : ℕ} (x : Child b limit t u z k line T) where
        abbrev l : List (Attr Placed)
        l = attrs_in z x.attrs

        abbrev c : Nodes Placed
        c = nodes_in z x.content

        when_is : is when ≡ interval_of ctx x.place reference l
        when_is = rw (place_is x) at (timed x.attrs (owned x))

        same_segments : segments_of_p ctx mode x.place (made_in x.earlier) when.start l c
            ≡ segments_of_p ctx mode e.place line.rows when.start l c
        same_segments = rw (place_is x, x.standing.made)

      pub no-segments : (q : Refusal) → Post (Err q) → ParagraphPost t u z k reference ctx ws line T T' (Err q)
      no-segments q post b limit x =
          p_unsegmented ctx reference (space_in ws) x.earlier x.place (l x) (c x) when (when_is x) mode (modes x.attrs (owned x)) q
          (same_segments x ∙ post _ (content-of x) x.attrs (owned x))

      -- its segments stand, and its cue is added
      module _ (n : ℕ) (post : Post (Ok n)) where
        module _ {b : Base} {limit : ℕ} (x : Child b limit t u z k line T) where
          abbrev it : Segmented (next_frame b limit x.hi x.earlier T.texts) line.rows T'.segments T'.texts
              (segments_of_p ctx mode e.place line.rows when.start (l x) (c x)) n
          it = post _ (content-of x) x.attrs (owned x)

          rest-is : onward it.end n (later (it.end - line.rows) (blank_from b (made_in x.earlier))) ≡ blank_from b n
          rest-is =
              let st = x.standing in
              ap (λ (i : ℕ). onward it.end n (later (it.end - line.rows) (blank_from b i))) (sym st.made)
              ∙ (ap (onward it.end n) (blank-later b line.rows it.end it.after it.most)
              ∙ blank-onward b line.rows it.end it.after it.most n (omega (arith, it.rows.count))
              (wide_cells st 98304 a.spacious.roomy.wide))

          abbrev the_cue : Cue Placed
          the_cue = cue_with when mode (l x) it.segments

          next : {r : Line} → CueAdded e.place e.many when mode line n T.cues T'.cues T.times T'.times T.extras T'.extras (l x) r
              → Next x.standing the_cue n it.hi T'
          next d = record {
            few = d.few;
            most = it.few;
            in-cues = d.in-cues ∙ ap (λ (i : declared.Cue). sets T.cues (line.cues * 11) (cue_cells i))
                (cue-row when mode line n (l x) it.segments it.rows.count);
            in_times = d.in_times;
            in_rows = rw rest-is at it.rows;
            in_extras = d.in_extras;
            in_texts = it.texts;
          }

        pub cued : (r : Result Line Refusal)
            → OfRows u z e.first e.many
            (λ l. CueOutcome e.place e.many when mode line n T.cues T'.cues T.times T'.times T.extras T'.extras l r)
            → ParagraphPost t u z k reference ctx ws line T T' r
        cued (Ok r) h b limit x =
            let d = h x.attrs (owned x) in
            rw d.is (record {
              cues = x.earlier ++ (the_cue x ∷ []);
              means = p_is ctx reference (space_in ws) x.earlier x.place (l x) (c x) when (when_is x) mode (modes x.attrs (owned x))
                  (it x).segments (same_segments x ∙ (it x).means) (omega (arith, d.few, x.standing.many));
              hi = (it x).hi;
              below = (it x).below;
              standing = lined_more x.standing (the_cue x) z a.spacious n (it x).hi T' (next x d) when.end;
              few = omega (arith, d.kept, many_is x);
            })
        cued (Err q) h b limit x =
            let d = h x.attrs (owned x) in
            rw (d.1, place_is x)
            (p_full ctx reference (space_in ws) x.earlier x.place (l x) (c x) when (when_is x) mode (modes x.attrs (owned x))
            (it x).segments (same_segments x ∙ (it x).means) (omega (arith, d.0, x.standing.many)))

-- A p that is a single cue: its tables are those of a track of that cue alone. Assumes nothing.
--     cue_timed, times_no, times_are   what it means, its times first
--     cue_as, first-no, first-is       the first p
--     row-added, times_added           a row more where there is none
--     content_asks, content_no         its content, as it is asked for; refused
--     alone-asks, alone-laid           its row and the head
use Rattle.std.specs.Prelude as rust
use Rattle.std.specs.Prelude.{Some, None, Result, Ok, Err, ⊤}
use Prim.Native.Nat.{ℕ, ◌+◌}
use mathlib.Core.Path.{◌≡◌, refl, sym, ap, subst, ◌∙◌}
use mathlib.Core.List.{List, [], ◌∷◌, ◌++◌}
use mathlib.Core.Option.{Option, none, some}
use native.Mathlib.Omega.{arith}
use lib.IntN.{ℤ, pos}
use lib.ListN.{length, replicate, length-append}
use lib.Seq.{sets}
use Rattle.times.specs.declared.offset.TimingCtx.{TimingCtx}
use Rattle.tree.specs.declared.answers.Refusal.{Refusal}
use Rattle.track.specs.Track.{Segments, Cue, segment_rows}
use Rattle.track.specs.Tables.{Tables, lengths}
use Rattle.track.specs.Layout.{each, preorder, filled, joined_cells, head_cells, all_segments}
use Rattle.track.specs.Layout as placing
use Rattle.track.proofs.SegmentsLaid.{rows-many}
use Rattle.records.specs.Siblings.{Stands}
use Rattle.records.specs.Posts.{head_row, head_of, AddPost, TimesPost}
use Rattle.records.proofs.RowLaws.{head_laid}
use Rattle.xml.specs.declared.find.Element as found
use Rattle.xml.specs.Find.{OfSiblings, element_row, find_row}
use Rattle.xml.specs.Reading.{Placed}
use Rattle.meaning.specs.Answers.{Answer, is, refused, ◌>>=◌}
use Rattle.meaning.specs.Words.{ascii}
use Rattle.meaning.specs.Nodes.{Attr, Element}
use Rattle.meaning.specs.Kinds.{with_places, attrs_in, nodes_in}
use Rattle.meaning.specs.Space.{collapse, space_of}
use Rattle.meaning.specs.Timing.{time_of, sum, or_zero, end_of, lasting_to}
use Rattle.meaning.specs.Inline.{content_of}
use Rattle.meaning.specs.Cues.{made_in}
use Rattle.meaning.specs.Meaning.{timing, stop_of, cue_in, cue_of}
use Rattle.laid.specs.Laid.{laid_of, laid_styles, laid_regions, laid_cues, laid_cue, rows_after, texts_of, total, alone}
use Rattle.styling.specs.declared.space.WsMode.{WsMode}
use Rattle.styling.specs.Posts.{OfRows, space_in, turned}
use Rattle.extras.specs.Kept.{placed_cells}
use Rattle.inline.specs.Stood.{spans_in}
use Rattle.content.specs.declared.collect.Run.{Run}
use Rattle.content.specs.Steps.{Roomy, Frame, Content, AsksContent, Left, ContentPost}
use Rattle.intervals.specs.declared.Interval.{Interval}
use Rattle.intervals.specs.Steps.{timed_said, single_from, single_of}
use Rattle.cues.specs.Steps.{CueTables, five, Spacious, Base, Lined, no_line}
use Rattle.cues.specs.Elements.{Tree, Elem, element_in}
use Rattle.cues.proofs.Lined.{blank_from, before, next_frame, blank-later, lined_frame, Next, lined_more}
use Rattle.cues.proofs.Blanks.{filled-from, Blank, lined_none}
use Rattle.cues.proofs.Elements.{elem-cells, elem-owned, elem-none, elem-found, elem-inside, elem-order}
use Rattle.single.specs.Steps.{cue_rest, CueReady, CueLaid, CueOutcome, cue_with, timed_cue, alone_row, alone_head, AloneAsks, Alone}

-- ---- its times first

bind_on : {A B C : Type 0} (m : Answer A) (f : A → Answer B) (g : B → Answer C) → ((m >>= f) >>= g) ≡ (m >>= λ a. f a >>= g)
bind_on (is a) f g = refl
bind_on (refused i q) f g = refl

module _ (p : Element Placed) where
  abbrev bare : TimingCtx
  bare = timing none none

  -- once it has begun; once it has an end or none
  from_end : (start : ℤ) (end : Option ℤ) (d : Answer (Option ℤ)) → time_of with_places bare p.at (ascii "dur") p.attrs ≡ d
      → (stop_of with_places p.at start end p.attrs >>= λ stop. timed_cue (record { start = start; end = stop }) p)
      ≡ (single_from bare p.at start end p.attrs >>= λ when. timed_cue when p)
  unfolding end_of lasting_to
  from_end start (some z) d e = refl
  from_end start none (refused i q) e = rw e
  from_end start none (is none) e = rw e
  from_end start none (is (some t)) e = rw e (sym (bind_on (sum p.at start t) _ _))

  from-begin : (begin : Option ℤ) (m : Answer (Option ℤ))
      → (m >>= λ end. stop_of with_places p.at (or_zero begin) end p.attrs >>= λ stop. timed_cue (record { start = or_zero begin; end = stop }) p)
      ≡ ((m >>= λ end. single_from bare p.at (or_zero begin) end p.attrs) >>= λ when. timed_cue when p)
  from-begin begin (is end) = from_end (or_zero begin) end _ refl
  from-begin begin (refused i q) = refl

  from_start : (m : Answer (Option ℤ)) (n : Answer (Option ℤ))
      → (m >>= λ begin. n >>= λ end. stop_of with_places p.at (or_zero begin) end p.attrs >>= λ stop.
      timed_cue (record { start = or_zero begin; end = stop }) p)
      ≡ ((m >>= λ begin. is (or_zero begin)) >>= λ start. n >>= λ end. single_from bare p.at start end p.attrs) >>= λ when. timed_cue when p
  from_start (is begin) n = from-begin begin n
  from_start (refused i q) n = refl

  pub cue_timed : cue_in with_places p ≡ (single_of bare p.at p.attrs >>= λ when. timed_cue when p)
  unfolding cue_in
  cue_timed = from_start (time_of with_places bare p.at (ascii "begin") p.attrs) (time_of with_places bare p.at (ascii "end") p.attrs)

module _ {t u z : List ℕ} {k : ℕ} (x : Elem t u z k) {e : found.Element} (row : e ≡ element_row t k) {ctx : TimingCtx}
    (no-rates : ctx ≡ timing none none) where
  -- when its times are asked for
  interval_said : (r : Result Interval Refusal) → OfRows u z e.first e.many (λ l. timed_said r ≡ single_of ctx e.place l)
      → timed_said r ≡ single_of (timing none none) x.place (attrs_in z x.attrs)
  interval_said r o =
      let p : e.place ≡ x.place = ap (λ (w : found.Element). w.place) (elem-cells x row) in
      o x.attrs (elem-owned x row) ∙ rw (no-rates, p)

  pub times_no : (q : Refusal) → OfRows u z e.first e.many (λ l. timed_said (Err q) ≡ single_of ctx e.place l)
      → cue_in with_places (element_in x) ≡ turned q
  times_no q o = cue_timed (element_in x) ∙ rw (← (interval_said (Err q) o))

  pub times_are : (when : Interval) → OfRows u z e.first e.many (λ l. timed_said (Ok when) ≡ single_of ctx e.place l)
      → cue_in with_places (element_in x) ≡ timed_cue when (element_in x)
  times_are when o = cue_timed (element_in x) ∙ rw (← (interval_said (Ok when) o))

-- the same outcome
pub cue_as : {m n : Answer (Cue Placed)} (z : List ℕ) (T T' : Tables) (r : Result ⊤ Refusal) → m ≡ n → CueOutcome n z T T' r → CueOutcome m z T T' r
cue_as z T T' r e o = subst (λ (v : Answer (Cue Placed)). CueOutcome v z T T' r) (sym e) o

-- ---- the first p

module _ {t u z : List ℕ} {n : ℕ} (x : Tree t u z n) {r : rust.Option ℕ} (o : OfSiblings t 0 n (λ f. r ≡ find_row z (ascii "p") 0 f)) where
  pub first-no : r ≡ None → cue_of with_places (nodes_in z x.forest) ≡ refused 12 0
  unfolding cue_of
  first-no e = rw (elem-none x (ascii "p") o e)

  pub first-is : {k : ℕ} (e : r ≡ Some k)
      → cue_of with_places (nodes_in z x.forest) ≡ cue_in with_places (element_in (elem-found x (ascii "p") o e).element)
  unfolding cue_of
  first-is e = rw (elem-found x (ascii "p") o e).is

-- ---- its row and the head are those of the layout

module _ (when : Interval) (rows : ℕ) (l : List (Attr Placed)) (f : Segments Placed) (many : rows ≡ segment_rows (spans_in f)) where
  row_laid : alone_row when rows l ≡ (laid_cue 0 0 (cue_with when l f)).cue
  unfolding laid_cue rows_after
  row_laid = rw many

  head_is : (m : ℕ) → alone_head rows m ≡ head_of (laid_of (alone (cue_with when l f))) m m
  unfolding laid_of alone head_of each laid_styles laid_regions laid_cues laid_cue total all_segments
  head_is m =
      let n : rows ≡ length (preorder (spans_in f) ++ []) = rw length-append (omega (arith, many, rows-many (spans_in f))) in
      rw n

-- the first row of a table is added
module _ (row c c' : List ℕ) where
  pub row-added : (r : rust.Option ℕ) → AddPost 2048 11 row c c' 0 r → c' ≡ sets c 0 row
  row-added (Some n) p = p.2
  row-added None p = absurd (omega (arith, p.0))

  pub times_added : (a b : ℤ) (m m' : List ℤ) (r : rust.Option ℕ) → AddPost 2048 11 row c c' 0 r → TimesPost 0 a b m m' r → m' ≡ sets m 0 (a ∷ b ∷ [])
  times_added a b m m' (Some n) p q = q
  times_added a b m m' None p q = absurd (omega (arith, p.0))

-- ---- the tables

module _ (h c : List ℕ) (m : List ℤ) (g y : List ℕ) {z : List ℕ} (ready : CueReady z (cue_rest h c m g y)) where
  abbrev T : Tables
  T = cue_rest h c m g y

  -- no cue has extras, so that any list serves as their table
  abbrev base : Base
  base = record { lengths = lengths T; extras = y; rows = 0 }

  abbrev lent : CueTables
  lent = five c m g y y

  roomy : Roomy z g y
  roomy = record {
    wide = ready.segments;
    texts = omega (arith, ready.short, ready.texts);
    small = omega (arith, ready.short);
  }

  blank : Blank base lent
  blank =
      let zero = ready.zero in
      record { cues = zero.cues; times = zero.times; segments = zero.segments; extras = refl; texts = zero.texts }

  spacious : Spacious z lent
  spacious = record {
    roomy = roomy;
    cues = ready.cues;
    times = ready.times;
    extras = omega (arith, ready.texts);
  }

  none_yet : Lined base 0 [] (no_line 0) lent
  none_yet = lined_none blank

  abbrev frame : Frame
  frame = next_frame base (length z) 0 [] y

  module _ {t u : List ℕ} {k : ℕ} (x : Elem t u z k) {e : found.Element} (row : e ≡ element_row t k) where
    abbrev content : Content frame t u z (k + 1) e.end 0 g y
    content = record {
      own = x.own + length x.attrs;
      forest = x.content;
      holds = elem-inside x;
      rows = rw (elem-cells x row);
      placed = elem-order x;
      standing = lined_frame none_yet (length z);
    }

    pub content_asks : AsksContent t u z (k + 1) e.end 0 g y
    content_asks = record {
      roomy = roomy;
      few = omega arith;
      frame = frame;
      content = content;
    }

    abbrev attrs : List (Attr Placed)
    attrs = attrs_in z x.attrs

    module _ (ctx : TimingCtx) (ws : WsMode) (no-rates : ctx ≡ timing none none) (mode : space_in ws ≡ space_of with_places collapse attrs) where
      -- what its content means, as it is read
      as_read : content_of with_places ctx (pos 0) (space_in ws) 0 (nodes_in z x.content)
          ≡ content_of with_places (timing none none) (pos 0) (space_of with_places collapse attrs) 0 (nodes_in z x.content)
      as_read = rw (no-rates, mode)

      module _ (s' y' : List ℕ) where
        abbrev Post : Result Run Refusal → Type 0
        Post r = ContentPost t u z (k + 1) e.end 0 (pos 0) ctx ws g y s' y' r

        pub content_no : (q : Refusal) → Post (Err q) → (when : Interval) {s'' y'' : List ℕ} → s'' ≡ replicate (length g) 0
            → y'' ≡ replicate (length y) 0 → CueOutcome (timed_cue when (element_in x)) z T (cue_rest h c m s'' y'') (Err q)
        content_no q p when a b =
            let w = sym as_read ∙ p frame content in
            let zero = ready.zero in (
              rw w,
              record {
                head = zero.head;
                params = refl;
                styles = refl;
                regions = refl;
                cues = zero.cues;
                times = zero.times;
                segments = a;
                sizes = refl;
                extras = refl;
                texts = b;
              },
            )

        pub alone-asks : (run : Run) → Post (Ok run) → AloneAsks z run.rows h c m
        alone-asks run p = record {
          short = ready.short;
          few = (p frame content).few;
          in_head = ready.head;
          in-cues = ready.cues;
          in_times = ready.times;
        }

        module _ (run : Run) (p : Post (Ok run)) (when : Interval) where
          left : Left frame 0 s' y' (content_of with_places ctx (pos 0) (space_in ws) 0 (nodes_in z x.content)) run
          left = p frame content

          abbrev cue : Cue Placed
          cue = cue_with when attrs left.segments

          many : run.rows ≡ segment_rows (spans_in left.segments)
          many = omega (arith, left.standing.rows.count)

          rows-stand : Stands (before base []) (blank_from base run.rows) 0 run.rows (spans_in left.segments) s'
          unfolding made_in
          rows-stand =
              subst (λ (w : List ℕ). Stands (before base []) w 0 run.rows (spans_in left.segments) s')
              (blank-later base 0 run.rows (omega arith) left.few) left.standing.rows

          module _ (h' c' : List ℕ) (m' : List ℤ) (put : Alone z when run.rows attrs h h' c c' m m') where
            abbrev after : CueTables
            after = record { cues = c'; times = m'; segments = s'; extras = y; texts = y' }

            next : Next none_yet cue run.rows left.hi after
            unfolding placed_cells
            next = record {
              few = omega arith;
              most = left.few;
              in-cues = put.in-cues ∙ rw (row_laid when run.rows attrs left.segments many);
              in_times = put.in_times;
              in_rows = rows-stand;
              in_extras = refl;
              in_texts = left.standing.texts;
            }

            lined : Lined base left.hi (cue ∷ []) (record { cues = 1; rows = run.rows; extras = 0; end = when.end }) after
            lined = lined_more none_yet cue z spacious run.rows left.hi after next when.end

            head_filled : h' ≡ filled (length h) (head_cells (laid_of (alone cue)) (length z) (length z))
            head_filled =
                let cells = head_cells (laid_of (alone cue)) (length z) (length z) in
                let e : head_row (alone_head run.rows (length z)) ≡ cells =
                ap head_row (head_is when run.rows attrs left.segments many (length z)) ∙ head_laid (laid_of (alone cue)) (length z) (length z) in
                let ten : length cells ≡ 10 = ap length (sym e) in
                filled-from (length h) ready.zero.head e (omega (arith, ten, ready.head)) put.in_head

            pub alone-laid : CueLaid (timed_cue when (element_in x)) z T (cue_rest h' c' m' s' y')
            unfolding laid_of alone each joined_cells laid_styles laid_regions laid_cues laid_cue rows_after total placing.style_extras placing.region_extras
                placing.cue_extras placing.lay_extras texts_of
            alone-laid = record {
              cue = cue;
              means = rw (sym as_read ∙ left.means);
              plain = refl;
              laid = record {
                head = head_filled;
                params = refl;
                styles = refl;
                regions = refl;
                cues = lined.in-cues;
                times = lined.in_times;
                segments = lined.in_cells;
                sizes = refl;
                extras = refl;
                texts = lined.in_texts;
              };
            }

-- What the readers of nodes answer is what the nodes mean. Assumes nothing.
--     bind_is, bind_no, no_size, row-end          steps of an answer; siblings without rows; the row after a node
--     given-came                                  a node that gives segments, or number 13
--     text-came, break-came, unknown-came         by kinds of nodes
--     span-refused, span-inside, span-came        a span, as far as it is read
--     came_end                                    a list of siblings that is read to its end
--     node_row, node_end, text-asks, break-asks, node-attrs, own-asks     what a node's entry says of its row
--     Along, along_start, along_asks, along_step, along_fail, along_done  the loop over siblings
--     content_asks, content_no, content_ready, content_left               the content of a p
use Rattle.std.specs.Prelude as rust
use Rattle.std.specs.Prelude.{Some, None, Result, Ok, Err}
use Rattle.std.specs.Option.{unwrap_or}
use Rattle.std.specs.Option as has
use Prim.Native.Nat.{ℕ, suc, ◌+◌, ◌-◌, ◌*◌, ◌≤◌, ◌<◌}
use mathlib.Core.Path.{◌≡◌, refl, sym, ap, ◌∙◌, subst}
use mathlib.Core.Bool.{Bool, true, false}
use mathlib.Core.List.{List, [], ◌++◌}
use mathlib.Core.Option.{Option, none, some}
use native.Mathlib.Omega.{arith}
use native.Mathlib.Nat.{add-zero}
use lib.IntN.{ℤ, pos, negsuc, ◌+ℤ◌}
use mir.Syntax.{w64}
use mir.Val.{SFits}
use Rattle.times.specs.Sums.{checked}
use Rattle.times.proofs.Summing.{checked-fits}
use lib.ListN.{length, get_or}
use lib.Dec.{eqb}
use borrow.Author.Tests.{eqb-true, le-leb, lt-leb}
use Rattle.scan.proofs.Every.{by-test}
use Rattle.scan.specs.Part.{string_at}
use Rattle.times.specs.declared.offset.TimingCtx.{TimingCtx}
use Rattle.tree.specs.declared.answers.Refusal.{Refusal}
use Rattle.tree.specs.Trees.{Forest, size, attr_spans, spans, InOrder}
use Rattle.tree.specs.Trees as placed
use Rattle.tree.proofs.Places.{in_lower, in_whole}
use Rattle.track.specs.Track.{Wrapper, Segments, segment_rows, joined}
use Rattle.track.specs.Track as track
use Rattle.track.specs.Layout.{is_some}
use Rattle.records.specs.Siblings.{later}
use Rattle.xml.specs.declared.find.Element.{Element}
use Rattle.xml.specs.Find.{named, Holds, is_element, HasRow, element_row, TextAt}
use Rattle.xml.specs.Reading.{Placed}
use Rattle.xml.proofs.Lays.{in_split}
use Rattle.xml.proofs.FindLaws.{holds_text, holds_section, holds_elem, siblings_of, has_row, is-element_text, is-element_section, is-element_elem}
use Rattle.meaning.specs.Answers.{Answer, is, refused, ◌>>=◌}
use Rattle.meaning.specs.Words.{ascii}
use Rattle.meaning.specs.Nodes.{Nodes, nil, text, element}
use Rattle.meaning.specs.Nodes as nodes
use Rattle.meaning.specs.Kinds.{with_places, nodes_in, attrs_in}
use Rattle.meaning.specs.Space.{space_of, Before, last_of, a_break, a_span, unknown, inline_of, after, text_in_of, ended}
use Rattle.meaning.specs.Timing.{time_of, sum, sum_answer, or_zero}
use Rattle.meaning.specs.Styling.{wrappers_of}
use Rattle.meaning.specs.Inline.{counted, text_segment, stamped, span_of, segments_in, content_of}
use Rattle.meaning.proofs.Laws.{after_text, after-break, after-span, after-unknown}
use Rattle.meaning.proofs.Laws.{inside-end, inside-text, inside-break, inside-span, inside-unknown}
use Rattle.styling.specs.declared.space.WsMode.{WsMode}
use Rattle.styling.specs.Posts.{HasRows, OfRows, space_in}
use Rattle.inline.specs.Texts.{edge}
use Rattle.inline.specs.Trims.{Ready}
use Rattle.inline.specs.Wraps.{stamped_if}
use Rattle.inline.proofs.Spanning.{stamped-if}
use Rattle.inline.proofs.TrimStands.{rows-ready}
use Rattle.content.specs.declared.collect.Run.{Run}
use Rattle.content.specs.Steps.{Roomy, Frame, Standing, Given, node_place, TextGiven, BreakGiven, SpanGiven, beginning, begin_from}
use Rattle.content.specs.Steps.{Entry, meant, behind, Came, Outcome, AsksNode, NodePost, Asks, Post, Content, AsksContent, ContentPost, Ends}
use Rattle.content.proofs.Giving.{ended-standing}
use Rattle.content.proofs.Standings.{rows-together, standing-count, own_frame, standing-own, standing-join}

-- the place of a text; of a section
text-place : (t : List ℕ) (k : ℕ) → get_or t (k * 6) 0 ≡ 1 → node_place t k ≡ get_or t (k * 6 + 2) 0
unfolding node_place
text-place t k e = rw e

section-place : (t : List ℕ) (k : ℕ) → get_or t (k * 6) 0 ≡ 3 → node_place t k ≡ get_or t (k * 6 + 2) 0 - 9
unfolding node_place
section-place t k e = rw e

-- an element's strings: those of its content end where those of its later siblings begin
pub record Parts (hi : ℕ) (c g : Forest) (limit : ℕ) : Type 0 where
  pub mid : ℕ
  pub low : hi ≤ mid
  pub content : InOrder hi (spans c) mid
  pub rest : InOrder mid (spans g) limit

pub parts_of : (hi p m : ℕ) (l : List placed.Attr) (c g : Forest) (limit : ℕ) → InOrder hi (spans (placed.elem p m l c g)) limit → Parts hi c g limit
unfolding spans
parts_of hi p m l c g limit o =
    let a = in_split (attr_spans l) (spans c ++ spans g) (p + 1 + m) limit o.1 in
    let b = in_split (spans c) (spans g) a.mid limit a.rest in
    let x : p + 1 + m ≤ a.mid = in_whole (attr_spans l) (p + 1 + m) a.mid a.first in
    let y : a.mid ≤ b.mid = in_whole (spans c) a.mid b.mid b.first in
    let h : hi ≤ a.mid = omega (arith, o.0) in
    record { mid = b.mid; low = omega arith; content = in_lower (spans c) hi a.mid b.mid h b.first; rest = b.rest }

pub no_size : (f : Forest) → size f ≡ 0 → f ≡ placed.nil
unfolding size
no_size placed.nil e = refl
no_size (placed.text p m f) e = absurd (omega arith)
no_size (placed.section p m f) e = absurd (omega arith)
no_size (placed.elem p m l c f) e = absurd (omega arith)

never : {A : Type 0} → true ≡ false → A
never e = absurd (let z : ◌≡◌ {A = ℕ} 0 1 = cc in omega arith)

-- what an element is
module _ (z : List ℕ) (p m : ℕ) where
  abbrev name_in : Placed
  name_in = record { place = p; bytes = string_at z p m }

  inline_break : named (ascii "br") (string_at z p m) ≡ true → inline_of with_places name_in ≡ a_break
  unfolding inline_of nodes.named named
  inline_break e = rw e

  inline_span : named (ascii "br") (string_at z p m) ≡ false → named (ascii "span") (string_at z p m) ≡ true → inline_of with_places name_in ≡ a_span
  unfolding inline_of nodes.named named
  inline_span e h = rw (e, h)

  inline_unknown : named (ascii "br") (string_at z p m) ≡ false → named (ascii "span") (string_at z p m) ≡ false → inline_of with_places name_in ≡ unknown
  unfolding inline_of nodes.named named
  inline_unknown e h = rw (e, h)

pub element-kind : (t z name : List ℕ) (k : ℕ) → is_element t z name k ≡ true → get_or t (k * 6) 0 ≡ 2
unfolding is_element
element-kind t z name k e = by-test (eqb (get_or t (k * 6) 0) 2) (λ h. eqb-true (get_or t (k * 6) 0) 2 h) (λ h. never (sym (rw h at e)))

-- ---- when a span begins

-- its begin is said, and the sum is no overflow: it is b, or `base` where there is none
pub record Begun (place : ℕ) (base : ℤ) (m : Answer (Option ℤ)) (b : rust.Option ℤ) : Type 0 where
  pub begin : Option ℤ
  pub said : m ≡ is begin
  pub time : sum place base (or_zero begin) ≡ is (unwrap_or b base)
  pub has : has.is_some b ≡ is_some begin

is-not : {A B : Type 0} {b : B} {q : Refusal} → Ok b ≡ Err q → A
is-not e = absurd (let z : ◌≡◌ {A = ℕ} 0 1 = cc in omega arith)

-- nothing more
sum-none : (place : ℕ) (base : ℤ) → SFits w64 base → sum place base (pos 0) ≡ is base
unfolding sum
sum-none place base f = ap (sum_answer place) (ap checked (plus-none base) ∙ checked-fits base f.sfits)
  where
    plus-none : (z : ℤ) → z +ℤ pos 0 ≡ z
    plus-none (pos n) = rw (add-zero n)
    plus-none (negsuc n) = rw (le-leb 1 (suc n) (omega arith)) (ap negsuc (omega arith))

summed : (b : rust.Option ℤ) (base : ℤ) (a : Answer ℤ) → Ok b ≡ beginning a → (a ≡ is (unwrap_or b base)) × (has.is_some b ≡ true)
summed b base (is t) e =
    let v : b ≡ Some t = cc in
    rw v (refl, refl)
summed b base (refused i p) e = is-not e

pub begun : (place : ℕ) (base : ℤ) (m : Answer (Option ℤ)) (b : rust.Option ℤ) → SFits w64 base → Ok b ≡ begin_from place base m
    → Begun place base m b
begun place base (is (some z)) b f e =
    let r = summed b base (sum place base z) e in
    record { begin = some z; said = refl; time = r.0; has = r.1 }
begun place base (is none) b f e =
    let v : b ≡ None = cc in
    record { begin = none; said = refl; time = rw v (sum-none place base f); has = rw v }
begun place base (refused i p) b f e = is-not e

module _ {A : Type 0} (q : Refusal) where
  unsummed : (a : Answer ℤ) (go : ℤ → Answer A) → Err q ≡ beginning a → (a >>= go) ≡ refused q.number q.place
  unsummed (is t) go e = is-not (sym e)
  unsummed (refused i p) go e = let v : q ≡ record { number = i; place = p } = cc in rw v

  unbegun : (place : ℕ) (base : ℤ) (m : Answer (Option ℤ)) (go : Option ℤ → ℤ → Answer A) → Err q ≡ begin_from place base m
      → (m >>= λ o. sum place base (or_zero o) >>= go o) ≡ refused q.number q.place
  unbegun place base (is (some z)) go e = unsummed (sum place base z) (go (some z)) e
  unbegun place base (is none) go e = is-not (sym e)
  unbegun place base (refused i p) go e = let v : q ≡ record { number = i; place = p } = cc in rw v

-- ---- steps of an answer

pub bind_is : {A B : Type 0} {m : Answer A} {a : A} (go : A → Answer B) → m ≡ is a → (m >>= go) ≡ go a
bind_is go e = ap (λ v. v >>= go) e

pub bind_no : {A B : Type 0} {m : Answer A} {i p : ℕ} (go : A → Answer B) → m ≡ refused i p → (m >>= go) ≡ refused i p
bind_no go e = ap (λ v. v >>= go) e

counted_is : (place made : ℕ) (x : Segments Placed) → made + segment_rows x ≤ 16384 → counted place made x ≡ is x
counted_is place made x h = rw (le-leb (made + segment_rows x) 16384 h)

counted-no : (place made : ℕ) (x : Segments Placed) → 16384 < made + segment_rows x → counted place made x ≡ refused 13 place
counted-no place made x h = rw (lt-leb (made + segment_rows x) 16384 h)

-- ---- nodes that are read

module _ (w : Frame) (t u z : List ℕ) (base : ℤ) (ctx : TimingCtx) (ws : WsMode) where
  -- what nodes mean after `before` and `earlier`
  abbrev means : (first : ℕ) → Before → Segments Placed → Nodes Placed → Answer (Segments Placed)
  means first before earlier f = segments_in with_places ctx base (space_in ws) before first earlier f

  pub given-came : (next end first n hi hi' place : ℕ) (flag : Bool) (φ : Segments Placed → Segments Placed) (s y s' y' : List ℕ)
      (earlier : Segments Placed) (before : Before) (own : ℕ) (f : Forest) (m : Answer (Segments Placed)) (v : Before)
      → Holds t u z next own f → next + size f ≡ end → InOrder hi' (spans f) w.limit → Standing w hi first n earlier s y → flag ≡ edge before
      → m ≡ (counted place first (φ earlier) >>= λ g. means first before g (nodes_in z f)) → v ≡ after with_places before (nodes_in z f)
      → (r : Result Run Refusal) → Given place first n hi hi' flag φ s y s' y' r → Outcome w t u z next end first base ctx ws s' y' m v r
  given-came next end first n hi hi' place flag φ s y s' y' earlier before own f m v h e o st fl me ve (Ok r) g =
      let x = g.2 w earlier st in
      let fits = counted_is place first (φ earlier) (omega (arith, standing-count x, g.0)) in
      record {
        few = g.0;
        to = record {
          own = own;
          forest = f;
          holds = h;
          rows = e;
          hi = hi';
          placed = o;
          earlier = φ earlier;
          standing = x;
          before = before;
          flag = g.1 ∙ fl;
        };
        means = me ∙ bind_is _ fits;
        same = ve;
      }
  given-came next end first n hi hi' place flag φ s y s' y' earlier before own f m v h e o st fl me ve (Err q) g =
      rw (g.0, g.1) (me ∙ bind_no _ (counted-no place first (φ earlier) (g.2 w earlier st)))

  -- ---- a text or a section
  leaf_came : (kind k own end first hi at p m : ℕ) (run : Run) (g : Forest) (earlier : Segments Placed) (before : Before) (s y s' y' : List ℕ)
      (r : Result Run Refusal) → TextAt t u z kind k own p m g → k + 1 + size g ≡ end → hi ≤ p
      → InOrder (p + m) (spans g) w.limit
      → Standing w hi first run.rows earlier s y → run.boundary ≡ edge before → node_place t k ≡ at → TextGiven t z k ws run s y s' y' r
      → let f : Nodes Placed = text at (record { place = p; bytes = string_at z p m }) (nodes_in z g) in
      Outcome w t u z (get_or t (k * 6 + 1) 0) end first base ctx ws s' y' (means first before earlier f) (after with_places before f) r
  leaf_came kind k own end first hi at p m run g earlier before s y s' y' r a e low o st fl pl tg =
      let x : Placed = record { place = p; bytes = string_at z p m } in
      let q : hi ≤ get_or t (k * 6 + 2) 0 = rw a.row.place_is low in
      let given = rw (pl, a.row.place_is, a.row.len_is) at (tg first hi before q fl) in
      rw a.row.end_is
      (given-came (k + 1) end first run.rows hi (p + m) at (edge (last_of before x.bytes))
      (λ f. joined f (text_segment with_places (text_in_of with_places (space_in ws) before x))) s y s' y' earlier (last_of before x.bytes) own g _ _
      a.later e o st refl (inside-text with_places ctx base (space_in ws) before first earlier at x (nodes_in z g))
      (after_text with_places before at x (nodes_in z g)) r given)

  module _ (k own end first hi : ℕ) (run : Run) (earlier : Segments Placed) (before : Before) (s y : List ℕ) where
    -- what is known of a node's entry
    abbrev Facts : Forest → Type 0
    Facts f =
        Holds t u z k own f × (k + size f ≡ end) × InOrder hi (spans f) w.limit × Standing w hi first run.rows earlier s y
        × (run.boundary ≡ edge before)

    abbrev Gives : Forest → (s' y' : List ℕ) → Result Run Refusal → Type 0
    Gives f s' y' r =
        Outcome w t u z (get_or t (k * 6 + 1) 0) end first base ctx ws s' y' (means first before earlier (nodes_in z f)) (after with_places before
        (nodes_in z f))
        r

    module _ (s' y' : List ℕ) (r : Result Run Refusal) where
      pub text-came : (f : Forest) → Facts f → k < end → (get_or t (k * 6) 0 ≡ 2 → ⊥) → TextGiven t z k ws run s y s' y' r → Gives f s' y' r
      unfolding nodes_in size spans
      text-came placed.nil x j ne tg = absurd (omega (arith, x.1))
      text-came (placed.text p m g) x j ne tg =
          let a = holds_text x.0 in
          leaf_came 1 k own end first hi p p m run g earlier before s y s' y' r a (omega (arith, x.1)) x.2.0 x.2.1 x.3 x.4
          (text-place t k a.row.kind_is ∙ a.row.place_is) tg
      text-came (placed.section p m g) x j ne tg =
          let a = holds_section x.0 in
          leaf_came 3 k own end first hi (p - 9) p m run g earlier before s y s' y' r a (omega (arith, x.1)) x.2.0 x.2.1 x.3 x.4
          (section-place t k a.row.kind_is ∙ ap (λ v. v - 9) a.row.place_is) tg
      text-came (placed.elem p m l c g) x j ne tg = absurd (ne (holds_elem x.0).row.kind_is)

      -- ---- a break
      pub break-came : (f : Forest) → Facts f → k < end → (e : Element) → e ≡ element_row t k → is_element t z (ascii "br") k ≡ true
          → BreakGiven e.place first run.rows ws s y s' y' r → Gives f s' y' r
      unfolding nodes_in size
      break-came placed.nil x j e q b bg = absurd (omega (arith, x.1))
      break-came (placed.text p m g) x j e q b bg = never (sym b ∙ is-element_text z (ascii "br") x.0.stands)
      break-came (placed.section p m g) x j e q b bg = never (sym b ∙ is-element_section z (ascii "br") x.0.stands)
      break-came (placed.elem p m l c g) x j e q b bg =
          let a = holds_elem x.0 in
          let o = parts_of hi p m l c g w.limit x.2 in
          let at : e.place ≡ p = ap (λ (v : Element). v.place) (q ∙ a.cells) in
          let n = name_in z (p + 1) m in
          let i : inline_of with_places n ≡ a_break = inline_break z (p + 1) m (sym (is-element_elem z (ascii "br") x.0.stands) ∙ b) in
          rw a.row.end_is
          (given-came (k + 1 + size c) end first run.rows hi hi p true (λ f. joined (ended with_places (space_in ws) f)
          (track.break track.done)) s y s' y'
          earlier none (own + length l + length (placed.attrs_of c)) g _ _ a.later (omega (arith, x.1)) (in_lower (spans g) hi o.mid
          w.limit o.low o.rest) x.3 refl
          (inside-break with_places ctx base (space_in ws) before first earlier p n (attrs_in z l) (nodes_in z c) (nodes_in z g) i)
          (after-break with_places before p n (attrs_in z l) (nodes_in z c) (nodes_in z g) i) r (rw at at (bg hi)))

-- ---- a list of siblings that is read to its end

pub record Ended (w : Frame) (first : ℕ) (s y : List ℕ) (m : Answer (Segments Placed)) (v : Before) (r : Run) : Type 0 where
  pub few : r.rows ≤ 16384
  pub segments : Segments Placed
  pub means : m ≡ is segments
  pub hi : ℕ
  pub below : hi ≤ w.limit
  pub standing : Standing w hi first r.rows segments s y
  pub flag : r.boundary ≡ edge v

pub came_end : {w : Frame} {t u z : List ℕ} {end first : ℕ} {base : ℤ} {ctx : TimingCtx} {ws : WsMode} {s y : List ℕ}
    {m : Answer (Segments Placed)} {v : Before} {r : Run} → Came w t u z end end first base ctx ws s y m v r → Ended w first s y m v r
unfolding nodes_in spans after
came_end {w} {t} {u} {z} {end} {first} {base} {ctx} {ws} {s} {y} {m} {v} {r} c =
    let x = c.to in
    let none : x.forest ≡ placed.nil = no_size x.forest (omega (arith, x.rows)) in
    let me : m ≡ segments_in with_places ctx base (space_in ws) x.before first x.earlier nil = rw none at c.means in
    let ve : v ≡ x.before = rw none at c.same in
    let lo : x.hi ≤ w.limit = rw none at x.placed in
    record {
      few = c.few;
      segments = x.earlier;
      means = me ∙ inside-end with_places ctx base (space_in ws) x.before first x.earlier;
      hi = x.hi;
      below = lo;
      standing = x.standing;
      flag = x.flag ∙ ap edge (sym ve);
    }

-- ---- elements with a list of their own

module _ {w : Frame} {t u z : List ℕ} (k own end first hi : ℕ) (run : Run) (earlier : Segments Placed) (before : Before) (s y : List ℕ)
    (p m : ℕ) (l : List placed.Attr) (c g : Forest) (h : Holds t u z k own (placed.elem p m l c g)) (e : k + size (placed.elem p m l c g) ≡ end)
    (o : InOrder hi (spans (placed.elem p m l c g)) w.limit) (st : Standing w hi first run.rows earlier s y)
    (fl : run.boundary ≡ edge before) where
  abbrev parts : Parts hi c g w.limit
  parts = parts_of hi p m l c g w.limit o

  -- its content, a list of its own
  abbrev pub inner : Frame
  inner = own_frame st parts.mid

  abbrev pub inside : Entry inner t u z (k + 1) (k + 1 + size c) run.rows run.rows run.boundary s y
  inside = record {
    own = own + length l;
    forest = c;
    holds = (holds_elem h).inside;
    rows = refl;
    hi = hi;
    placed = parts.content;
    earlier = track.done;
    standing = standing-own st parts.mid;
    before = before;
    flag = fl;
  }

  abbrev behind-it : Before
  behind-it = after with_places before (nodes_in z c)

  -- what stands after it, where its content came to an end and φ of that stands there now
  came : (base : ℤ) (ctx : TimingCtx) (ws : WsMode) (hi' : ℕ) (f : Segments Placed) (s' y' : List ℕ) (r : Run) → r.rows ≤ 16384
      → hi' ≤ parts.mid → run.rows ≤ r.rows → Standing inner hi' run.rows r.rows f s' y' → r.boundary ≡ edge behind-it
      → (m : Answer (Segments Placed)) (v : Before)
      → m ≡ segments_in with_places ctx base (space_in ws) behind-it first (joined earlier f) (nodes_in z g)
      → v ≡ after with_places behind-it (nodes_in z g)
      → Came w t u z (k + 1 + size c) end first base ctx ws s' y' m v r
  unfolding size
  came base ctx ws hi' f s' y' r few below more st' fl' m v me ve = record {
    few = few;
    to = record {
      own = own + length l + length (placed.attrs_of c);
      forest = g;
      holds = (holds_elem h).later;
      rows = omega (arith, e);
      hi = hi';
      placed = in_lower (spans g) hi' parts.mid w.limit below parts.rest;
      earlier = joined earlier f;
      standing = standing-join st parts.mid r.rows hi' f s' y' more st';
      before = behind-it;
      flag = fl';
    };
    means = me;
    same = ve;
  }

  count : first + segment_rows earlier ≡ run.rows
  count = sym (standing-count st)

  module _ (base : ℤ) (ctx : TimingCtx) (ws : WsMode) where
    abbrev name : Placed
    name = name_in z (p + 1) m

    abbrev node : Nodes Placed
    node = element p name (attrs_in z l) (nodes_in z c) (nodes_in z g)

    abbrev all : Answer (Segments Placed)
    all = segments_in with_places ctx base (space_in ws) before first earlier node

    abbrev ItsOutcome : (s' y' : List ℕ) → Result Run Refusal → Type 0
    ItsOutcome s' y' r = Outcome w t u z (k + 1 + size c) end first base ctx ws s' y' all (after with_places before node) r

    -- what its content means
    at_count : (from : ℤ) (mode : WsMode) (m : Answer (Segments Placed)) → meant inside from ctx mode ≡ m
        → segments_in with_places ctx from (space_in mode) before (first + segment_rows earlier) track.done (nodes_in z c) ≡ m
    at_count from mode m e = ap (λ v. segments_in with_places ctx from (space_in mode) before v track.done (nodes_in z c)) count ∙ e

    -- ---- an unknown element
    unknown-elem : inline_of with_places name ≡ unknown → (s' y' : List ℕ) (r : Result Run Refusal)
        → Outcome inner t u z (k + 1 + size c) (k + 1 + size c) run.rows base ctx ws s' y' (meant inside base ctx ws) (behind inside) r
        → ItsOutcome s' y' r
    unknown-elem i s' y' (Ok r) a =
        let d = came_end a in
        came base ctx ws d.hi d.segments s' y' r d.few d.below (omega (arith, standing-count d.standing)) d.standing d.flag all
        (after with_places before node)
        (inside-unknown with_places ctx base (space_in ws) before first earlier p name (attrs_in z l) (nodes_in z c) (nodes_in z g) i
        ∙ bind_is _ (at_count base ws (is d.segments) d.means))
        (after-unknown with_places before p name (attrs_in z l) (nodes_in z c) (nodes_in z g) i)
    unknown-elem i s' y' (Err q) a =
        inside-unknown with_places ctx base (space_in ws) before first earlier p name (attrs_in z l) (nodes_in z c) (nodes_in z g) i
        ∙ bind_no _ (at_count base ws (refused q.number q.place) a)

    -- ---- a span
    module _ (i : inline_of with_places name ≡ a_span) where
      abbrev attrs : List (nodes.Attr Placed)
      attrs = attrs_in z l

      abbrev said : Answer (Option ℤ)
      said = time_of with_places ctx p (ascii "begin") attrs

      span-is : all ≡ (said >>= λ begin. sum p base (or_zero begin) >>= λ from.
          segments_in with_places ctx from (space_of with_places (space_in ws) attrs) before (first + segment_rows earlier) track.done
          (nodes_in z c) >>= λ content.
          wrappers_of with_places attrs >>= λ wrappers.
          counted p first (joined earlier (stamped begin from (span_of wrappers content))) >>= λ given.
          segments_in with_places ctx base (space_in ws) behind-it first given (nodes_in z g))
      span-is = inside-span with_places ctx base (space_in ws) before first earlier p name attrs (nodes_in z c) (nodes_in z g) i

      refused-begin : (q : Refusal) → Err q ≡ begin_from p base said → all ≡ refused q.number q.place
      refused-begin q b = span-is ∙ unbegun q p base said _ b

      module _ (b : rust.Option ℤ) (it : Begun p base said b) (mode : WsMode) (in-mode : space_in mode ≡ space_of with_places (space_in ws) attrs) where
        abbrev go_on : Segments Placed → Answer (Segments Placed)
        go_on given = segments_in with_places ctx base (space_in ws) behind-it first given (nodes_in z g)

        abbrev put_on : Segments Placed → List (Wrapper Placed) → Answer (Segments Placed)
        put_on content wrappers = counted p first (joined earlier (stamped it.begin (unwrap_or b base) (span_of wrappers content))) >>= go_on

        abbrev wrap-on : Segments Placed → Answer (Segments Placed)
        wrap-on content = wrappers_of with_places attrs >>= put_on content

        begun_is : all ≡ (segments_in with_places ctx (unwrap_or b base) (space_of with_places (space_in ws) attrs) before (first + segment_rows earlier) track.done
            (nodes_in z c) >>= wrap-on)
        begun_is = span-is ∙ bind_is _ it.said ∙ bind_is _ it.time

        content_is : (a : Answer (Segments Placed)) → meant inside (unwrap_or b base) ctx mode ≡ a
            → segments_in with_places ctx (unwrap_or b base) (space_of with_places (space_in ws) attrs) before (first + segment_rows earlier) track.done
            (nodes_in z c) ≡ a
        content_is a e =
            ap (λ v. segments_in with_places ctx (unwrap_or b base) v before (first + segment_rows earlier) track.done (nodes_in z c)) (sym in-mode)
            ∙ at_count (unwrap_or b base) mode a e

        refused-inside : (q : Refusal) → meant inside (unwrap_or b base) ctx mode ≡ refused q.number q.place → all ≡ refused q.number q.place
        refused-inside q x = begun_is ∙ bind_no wrap-on (content_is (refused q.number q.place) x)

        module _ (s' y' : List ℕ) (d' : Run)
            (d : Ended inner run.rows s' y' (meant inside (unwrap_or b base) ctx mode) (behind inside) d') (s'' : List ℕ) where
          read_is : all ≡ wrap-on d.segments
          read_is = begun_is ∙ bind_is wrap-on (content_is (is d.segments) d.means)

          module _ (wr : List (Wrapper Placed)) where
            abbrev left : Segments Placed
            left = stamped it.begin (unwrap_or b base) (span_of wr d.segments)

            left_is : stamped_if (has.is_some b) (unwrap_or b base) (span_of wr d.segments) ≡ left
            left_is = ap (λ v. stamped_if v (unwrap_or b base) (span_of wr d.segments)) it.has ∙ stamped-if it.begin (unwrap_or b base) (span_of wr d.segments)

          wrapped-is : (a : Answer (List (Wrapper Placed))) → wrappers_of with_places attrs ≡ a → (r : Result Run Refusal)
              → SpanGiven a p run.rows d'.rows d'.boundary (has.is_some b) (unwrap_or b base) s' y' s'' r → ItsOutcome s'' y' r
          wrapped-is (refused j v) x (Ok r) a = absurd (let z : ◌≡◌ {A = ℕ} 0 1 = cc in omega arith)
          wrapped-is (refused j v) x (Err q) a =
              let u : q ≡ record { number = j; place = v } = cc in
              rw u (read_is ∙ bind_no (put_on d.segments) x)
          wrapped-is (is wr) x (Ok r) a =
              let st' = rw (left_is wr) at ((a d.hi).2 inner d.segments d.standing) in
              let fits = counted_is p first (joined earlier (left wr))
              (omega (arith, standing-count st', count, (a d.hi).0, rows-together earlier (left wr))) in
              came base ctx ws d.hi (left wr) s'' y' r (a d.hi).0 d.below (omega (arith, standing-count st')) st' ((a
              d.hi).1 ∙ d.flag) all
              (after with_places before node) (read_is ∙ bind_is (put_on d.segments) x ∙ bind_is go_on fits)
              (after-span with_places before p name attrs (nodes_in z c) (nodes_in z g) i)
          wrapped-is (is wr) x (Err q) a =
              let over = rw (left_is wr) at ((a d.hi).2 inner d.segments d.standing) in
              let no = counted-no p first (joined earlier (left wr)) (omega (arith, count, over, rows-together earlier (left wr))) in
              rw ((a d.hi).0, (a d.hi).1) (read_is ∙ bind_is (put_on d.segments) x ∙ bind_no go_on no)

-- ---- the same of a node's entry

module _ (w : Frame) (t u z : List ℕ) (base : ℤ) (ctx : TimingCtx) (ws : WsMode) (k own end first hi : ℕ) (run : Run) (earlier : Segments Placed)
    (before : Before) (s y : List ℕ) (j : k < end) (e : Element) (row : e ≡ element_row t k) (nb : is_element t z
    (ascii "br") k ≡ false) where
  abbrev FactsOf : Forest → Type 0
  FactsOf f = Facts w t u z base ctx ws k own end first hi run earlier before s y f

  abbrev ResultOf : Forest → (s' y' : List ℕ) → Result Run Refusal → Type 0
  ResultOf f s' y' r = Gives w t u z base ctx ws k own end first hi run earlier before s y f s' y' r

  pub unknown-came : (f : Forest) → FactsOf f → get_or t (k * 6) 0 ≡ 2 → is_element t z (ascii "span") k ≡ false
      → (s' y' : List ℕ) (r : Result Run Refusal)
      → Post t u z (k + 1) e.end run base ctx ws s y s' y' r → ResultOf f s' y' r
  unfolding nodes_in size
  unknown-came placed.nil x kind ns s' y' r post = absurd (omega (arith, x.1))
  unknown-came (placed.text p m g) x kind ns s' y' r post = absurd (omega (arith, kind, (holds_text x.0).row.kind_is))
  unknown-came (placed.section p m g) x kind ns s' y' r post = absurd (omega (arith, kind, (holds_section x.0).row.kind_is))
  unknown-came (placed.elem p m l c g) x kind ns s' y' r post =
      let a = holds_elem x.0 in
      let post' = subst (λ (v : Element). Post t u z (k + 1) v.end run base ctx ws s y s' y' r) (row ∙ a.cells) post in
      let i = inline_unknown z (p + 1) m (sym (is-element_elem z (ascii "br") x.0.stands) ∙ nb)
      (sym (is-element_elem z (ascii "span") x.0.stands) ∙ ns) in
      rw a.row.end_is
      (unknown-elem k own end first hi run earlier before s y p m l c g x.0 x.1 x.2 x.3 x.4 base ctx ws i s' y' r
      (post' (inner k own end first hi run earlier before s y p m l c g x.0 x.1 x.2 x.3 x.4)
      (inside k own end first hi run earlier before s y p m l c g x.0 x.1 x.2 x.3 x.4)))

  module _ (sp : is_element t z (ascii "span") k ≡ true) where
    abbrev BeginsWith : Result (rust.Option ℤ) Refusal → Type 0
    BeginsWith b = OfRows u z e.first e.many (λ l. b ≡ begin_from e.place base (time_of with_places ctx e.place (ascii "begin") l))

    abbrev MeansNo : Forest → Refusal → Type 0
    MeansNo f q = segments_in with_places ctx base (space_in ws) before first earlier (nodes_in z f) ≡ refused q.number q.place

    pub span-refused : (f : Forest) → FactsOf f → (q : Refusal) → BeginsWith (Err q) → MeansNo f q
    unfolding nodes_in size
    span-refused placed.nil x q b = absurd (omega (arith, x.1))
    span-refused (placed.text p m g) x q b = never (sym sp ∙ is-element_text z (ascii "span") x.0.stands)
    span-refused (placed.section p m g) x q b = never (sym sp ∙ is-element_section z (ascii "span") x.0.stands)
    span-refused (placed.elem p m l c g) x q b =
        let a = holds_elem x.0 in
        let b' = rw (row ∙ a.cells) at b in
        let i = inline_span z (p + 1) m (sym (is-element_elem z (ascii "br") x.0.stands) ∙ nb)
        (sym (is-element_elem z (ascii "span") x.0.stands) ∙ sp) in
        refused-begin k own end first hi run earlier before s y p m l c g x.0 x.1 x.2 x.3 x.4 base ctx ws i q (b' l a.owned)

    module _ (b : rust.Option ℤ) (fits : SFits w64 base) (begins : BeginsWith (Ok b)) (mode : WsMode)
        (modes : OfRows u z e.first e.many (λ l. space_in mode ≡ space_of with_places (space_in ws) l)) (s' y' : List ℕ) where
      pub span-inside : (f : Forest) → FactsOf f → (q : Refusal) → Post t u z (k + 1) e.end run (unwrap_or b base) ctx mode s y s' y' (Err q)
          → MeansNo f q
      unfolding nodes_in size
      span-inside placed.nil x q post = absurd (omega (arith, x.1))
      span-inside (placed.text p m g) x q post = never (sym sp ∙ is-element_text z (ascii "span") x.0.stands)
      span-inside (placed.section p m g) x q post = never (sym sp ∙ is-element_section z (ascii "span") x.0.stands)
      span-inside (placed.elem p m l c g) x q post =
          let a = holds_elem x.0 in
          let b' = rw (row ∙ a.cells) at begins in
          let modes' = rw (row ∙ a.cells) at modes in
          let post' = subst (λ (v : Element). Post t u z (k + 1) v.end run (unwrap_or b base) ctx mode s y s' y' (Err q))
          (row ∙ a.cells) post in
          let i = inline_span z (p + 1) m (sym (is-element_elem z (ascii "br") x.0.stands) ∙ nb)
          (sym (is-element_elem z (ascii "span") x.0.stands) ∙ sp) in
          refused-inside k own end first hi run earlier before s y p m l c g x.0 x.1 x.2 x.3 x.4 base ctx ws i b
          (begun p base (time_of with_places ctx p (ascii "begin") (attrs_in z l)) b fits (b' l a.owned)) mode (modes' l a.owned) q
          (post' (inner k own end first hi run earlier before s y p m l c g x.0 x.1 x.2 x.3 x.4)
          (inside k own end first hi run earlier before s y p m l c g x.0 x.1 x.2 x.3 x.4))

      pub span-came : (f : Forest) → FactsOf f → (d : Run) → Post t u z (k + 1) e.end run (unwrap_or b base) ctx mode s y s' y' (Ok d)
          → (s'' : List ℕ) (r : Result Run Refusal)
          → OfRows u z e.first e.many (λ l. (v : List ℕ)
          → SpanGiven (wrappers_of with_places l) e.place run.rows d.rows d.boundary (has.is_some b) (unwrap_or b base) s' v s'' r)
          → ResultOf f s'' y' r
      unfolding nodes_in size
      span-came placed.nil x d post s'' r wraps = absurd (omega (arith, x.1))
      span-came (placed.text p m g) x d post s'' r wraps = never (sym sp ∙ is-element_text z (ascii "span") x.0.stands)
      span-came (placed.section p m g) x d post s'' r wraps = never (sym sp ∙ is-element_section z (ascii "span") x.0.stands)
      span-came (placed.elem p m l c g) x d post s'' r wraps =
          let a = holds_elem x.0 in
          let b' = rw (row ∙ a.cells) at begins in
          let modes' = rw (row ∙ a.cells) at modes in
          let post' = subst (λ (v : Element). Post t u z (k + 1) v.end run (unwrap_or b base) ctx mode s y s' y' (Ok d)) (row ∙ a.cells) post in
          let wraps' = rw (row ∙ a.cells) at wraps in
          let i = inline_span z (p + 1) m (sym (is-element_elem z (ascii "br") x.0.stands) ∙ nb)
          (sym (is-element_elem z (ascii "span") x.0.stands) ∙ sp) in
          let came = post' (inner k own end first hi run earlier before s y p m l c g x.0 x.1 x.2 x.3 x.4)
          (inside k own end first hi run earlier before s y p m l c g x.0 x.1 x.2 x.3 x.4) in
          rw a.row.end_is
          (wrapped-is k own end first hi run earlier before s y p m l c g x.0 x.1 x.2 x.3 x.4 base ctx ws i b
          (begun p base (time_of with_places ctx p (ascii "begin") (attrs_in z l)) b fits (b' l a.owned)) mode (modes' l a.owned) s' y' d
          (came_end came) s''
          (wrappers_of with_places (attrs_in z l)) refl r (wraps' l a.owned y'))

-- ---- what a node's entry says of its row

module _ {w : Frame} {t u z : List ℕ} {k end first n : ℕ} {boundary : Bool} {s y : List ℕ} (x : Entry w t u z k end first n boundary s y)
    (j : k < end) where
  pub node_row : HasRow t z k
  node_row = has_row (siblings_of x.holds) (omega (arith, x.rows))

pub row-end : (t u z : List ℕ) (k own end : ℕ) (f : Forest) → Holds t u z k own f → k + size f ≡ end → k < end
    → (k < get_or t (k * 6 + 1) 0) × (get_or t (k * 6 + 1) 0 ≤ end)
unfolding size
row-end t u z k own end placed.nil h e j = absurd (omega arith)
row-end t u z k own end (placed.text p m g) h e j = let q = (holds_text h).row.end_is in (omega (arith, q), omega (arith, q))
row-end t u z k own end (placed.section p m g) h e j = let q = (holds_section h).row.end_is in (omega (arith, q), omega (arith, q))
row-end t u z k own end (placed.elem p m l c g) h e j = let q = (holds_elem h).row.end_is in (omega (arith, q), omega (arith, q))

pub node_end : {w : Frame} {t u z : List ℕ} {k end first n : ℕ} {boundary : Bool} {s y : List ℕ}
    → Entry w t u z k end first n boundary s y → k < end → (k < get_or t (k * 6 + 1) 0) × (get_or t (k * 6 + 1) 0 ≤ end)
node_end {w} {t} {u} {z} {k} {end} x j = row-end t u z k x.own end x.forest x.holds x.rows j

text-within : (t u z : List ℕ) (k own end : ℕ) (f : Forest) → Holds t u z k own f → k + size f ≡ end → k < end → (get_or t (k * 6) 0 ≡ 2 → ⊥)
    → get_or t (k * 6 + 2) 0 + get_or t (k * 6 + 3) 0 ≤ length z
unfolding size
text-within t u z k own end placed.nil h e j ne = absurd (omega arith)
text-within t u z k own end (placed.text p m g) h e j ne = let a = holds_text h in rw (a.row.place_is, a.row.len_is) a.within
text-within t u z k own end (placed.section p m g) h e j ne = let a = holds_section h in rw (a.row.place_is, a.row.len_is) a.within
text-within t u z k own end (placed.elem p m l c g) h e j ne = absurd (ne (holds_elem h).row.kind_is)

pub text-asks : {w : Frame} {t u z : List ℕ} {k end first n : ℕ} {boundary : Bool} {s y : List ℕ}
    → Entry w t u z k end first n boundary s y → k < end → (get_or t (k * 6) 0 ≡ 2 → ⊥) → get_or t (k * 6 + 2) 0 + get_or t (k * 6 + 3) 0 ≤ length z
text-asks {w} {t} {u} {z} {k} {end} x j ne = text-within t u z k x.own end x.forest x.holds x.rows j ne

pub break-asks : {w : Frame} {hi first n : ℕ} {f : Segments Placed} {s y : List ℕ} → Standing w hi first n f s y
    → (first ≤ n) × Ready s y first n
break-asks {w} {hi} {first} {n} {f} {s} {y} h = (
  omega (arith, standing-count h),
  rows-ready w.pre (later (n - first) w.rest) s y first n f [] w.base w.lo hi h.rows.before h.rows.in_cells h.rows.count
      h.texts,
)

own-attrs : (t u z : List ℕ) (k own end : ℕ) (f : Forest) → Holds t u z k own f → k + size f ≡ end → k < end → get_or t (k * 6) 0 ≡ 2
    → HasRows u z (element_row t k).first (element_row t k).many
unfolding size
own-attrs t u z k own end placed.nil h e j kind = absurd (omega arith)
own-attrs t u z k own end (placed.text p m g) h e j kind = absurd (omega (arith, kind, (holds_text h).row.kind_is))
own-attrs t u z k own end (placed.section p m g) h e j kind = absurd (omega (arith, kind, (holds_section h).row.kind_is))
own-attrs t u z k own end (placed.elem p m l c g) h e j kind = let a = holds_elem h in rw a.cells (l, a.owned)

pub node-attrs : {t u z : List ℕ} {k first : ℕ} {run : Run} {s y : List ℕ} (e : Element) → AsksNode t u z k first run s y
    → get_or t (k * 6) 0 ≡ 2 → e ≡ element_row t k → HasRows u z e.first e.many
node-attrs {t} {u} {z} {k} e a kind row =
    let x = a.entry in
    rw row (own-attrs t u z k x.own a.end x.forest x.holds x.rows a.some kind)

inner_asks : (t u z : List ℕ) (w : Frame) (k own end first hi : ℕ) (run : Run) (earlier : Segments Placed) (before : Before) (s y : List ℕ)
    (f : Forest) → Holds t u z k own f → k + size f ≡ end → InOrder hi (spans f) w.limit → Standing w hi first run.rows earlier s y
    → run.boundary ≡ edge before → k < end → get_or t (k * 6) 0 ≡ 2 → Roomy z s y → run.rows ≤ 16384
    → Asks t u z (k + 1) (element_row t k).end run s y
unfolding size
inner_asks t u z w k own end first hi run earlier before s y placed.nil h e o st fl j kind roomy few = absurd (omega arith)
inner_asks t u z w k own end first hi run earlier before s y (placed.text p m g) h e o st fl j kind roomy few =
    absurd (omega (arith, kind, (holds_text h).row.kind_is))
inner_asks t u z w k own end first hi run earlier before s y (placed.section p m g) h e o st fl j kind roomy few =
    absurd (omega (arith, kind, (holds_section h).row.kind_is))
inner_asks t u z w k own end first hi run earlier before s y (placed.elem p m l c g) h e o st fl j kind roomy few =
    rw (holds_elem h).cells (record {
      roomy = roomy;
      few = few;
      frame = inner k own end first hi run earlier before s y p m l c g h e o st fl;
      entry = inside k own end first hi run earlier before s y p m l c g h e o st fl;
    })

pub element-end : (t : List ℕ) (k : ℕ) (e : Element) → e ≡ element_row t k → e.end ≡ get_or t (k * 6 + 1) 0
unfolding element_row
element-end t k e row = ap (λ (v : Element). v.end) row

pub own-asks : {t u z : List ℕ} {k first : ℕ} {run : Run} {s y : List ℕ} (e : Element) → AsksNode t u z k first run s y
    → get_or t (k * 6) 0 ≡ 2 → e ≡ element_row t k → Asks t u z (k + 1) e.end run s y
own-asks {t} {u} {z} {k} {first} {run} {s} {y} e a kind row =
    let x = a.entry in
    rw row (inner_asks t u z a.frame k x.own a.end first x.hi run x.earlier x.before s y x.forest x.holds x.rows
    x.placed
    x.standing x.flag a.some kind a.roomy a.few)

-- rows are added, not too many
pub post_more : {t u z : List ℕ} {from end : ℕ} {run : Run} {base : ℤ} {ctx : TimingCtx} {ws : WsMode} {s y s' y' : List ℕ} (d : Run)
    → Asks t u z from end run s y → Post t u z from end run base ctx ws s y s' y' (Ok d)
    → (run.rows ≤ d.rows) × (d.rows ≤ 16384)
post_more d a post =
    let x = came_end (post a.frame a.entry) in
    (omega (arith, standing-count x.standing), x.few)

-- ---- the loop over siblings

-- the siblings up to row k are read
pub record Along (t u z : List ℕ) (from end : ℕ) (run₀ : Run) (base : ℤ) (ctx : TimingCtx) (ws : WsMode) (s₀ y₀ : List ℕ) (k : ℕ) (run : Run)
    (s y : List ℕ) : Type 0 where
  pub low : from ≤ k
  pub same_cells : length s ≡ length s₀
  pub same_texts : length y ≡ length y₀
  pub few : run.rows ≤ 16384
  pub goes : (w : Frame) (x : Entry w t u z from end run₀.rows run₀.rows run₀.boundary s₀ y₀)
      → Came w t u z k end run₀.rows base ctx ws s y (meant x base ctx ws) (behind x) run

module _ {t u z : List ℕ} {from end : ℕ} {run₀ : Run} {base : ℤ} {ctx : TimingCtx} {ws : WsMode} {s₀ y₀ : List ℕ}
    (a : Asks t u z from end run₀ s₀ y₀) where
  pub along_start : Along t u z from end run₀ base ctx ws s₀ y₀ from run₀ s₀ y₀
  along_start = record {
    low = omega arith;
    same_cells = refl;
    same_texts = refl;
    few = a.few;
    goes = λ w x. record { few = a.few; to = x; means = refl; same = refl };
  }

  module _ {k : ℕ} {run : Run} {s y : List ℕ} (i : Along t u z from end run₀ base ctx ws s₀ y₀ k run s y) where
    still_roomy : Roomy z s y
    still_roomy = record {
      wide = omega (arith, i.same_cells, a.roomy.wide);
      texts = omega (arith, i.same_texts, a.roomy.texts);
      small = a.roomy.small;
    }

    pub along_asks : k < end → AsksNode t u z k run₀.rows run s y
    along_asks j = record {
      roomy = still_roomy;
      few = i.few;
      frame = a.frame;
      end = end;
      entry = (i.goes a.frame a.entry).to;
      some = j;
    }

    -- the row after node k
    pub along_next : k < end → (k < get_or t (k * 6 + 1) 0) × (get_or t (k * 6 + 1) 0 ≤ end)
    along_next j = node_end (i.goes a.frame a.entry).to j

    module _ (j : k < end) (s' y' : List ℕ) where
      pub along_step : {r : Run} → NodePost t u z k run₀.rows run base ctx ws s y s' y' (Ok r) → length s' ≡ length s
          → length y' ≡ length y
          → Along t u z from end run₀ base ctx ws s₀ y₀ (get_or t (k * 6 + 1) 0) r s' y'
      along_step post c₁ c₂ =
          record {
            low = omega (arith, i.low, (node_end (i.goes a.frame a.entry).to j).0);
            same_cells = c₁ ∙ i.same_cells;
            same_texts = c₂ ∙ i.same_texts;
            few = (post a.frame end (i.goes a.frame a.entry).to j).few;
            goes = λ w x.
                let c = post w end (i.goes w x).to j in
                record { few = c.few; to = c.to; means = (i.goes w x).means ∙ c.means; same = (i.goes w x).same ∙ c.same };
          }

      pub along_fail : {q : Refusal} → NodePost t u z k run₀.rows run base ctx ws s y s' y' (Err q)
          → Post t u z from end run₀ base ctx ws s₀ y₀ s' y' (Err q)
      along_fail post w x = (i.goes w x).means ∙ post w end (i.goes w x).to j

    pub along_done : end ≤ k → Post t u z from end run₀ base ctx ws s₀ y₀ s y (Ok run)
    along_done j w x =
        let c = i.goes w x in
        let e : k ≡ end = omega (arith, c.to.rows) in
        rw e at c

-- ---- the content of a p or of a single cue

abbrev start_run : ℕ → Run
start_run row = record { rows = row; boundary = true }

module _ {w : Frame} {t u z : List ℕ} {from end row : ℕ} {s y : List ℕ} (x : Content w t u z from end row s y) where
  abbrev pub content_entry : Entry w t u z from end row row true s y
  content_entry = record {
    own = x.own;
    forest = x.forest;
    holds = x.holds;
    rows = x.rows;
    hi = w.lo;
    placed = x.placed;
    earlier = track.done;
    standing = x.standing;
    before = none;
    flag = refl;
  }

pub content_asks : {t u z : List ℕ} {from end row : ℕ} {s y : List ℕ} → AsksContent t u z from end row s y
    → Asks t u z from end (start_run row) s y
content_asks a = record { roomy = a.roomy; few = a.few; frame = a.frame; entry = content_entry a.content }

pub content_no : {t u z : List ℕ} {from end row : ℕ} {s y : List ℕ} (base : ℤ) (ctx : TimingCtx) (ws : WsMode) (s' y' : List ℕ)
    (q : Refusal) → Post t u z from end (start_run row) base ctx ws s y s' y' (Err q) → (s'' y'' : List ℕ)
    → ContentPost t u z from end row base ctx ws s y s'' y'' (Err q)
unfolding content_of
content_no base ctx ws s' y' q post s'' y'' w x = bind_no _ (post w (content_entry x))

module _ {t u z : List ℕ} {from end row : ℕ} {base : ℤ} {ctx : TimingCtx} {ws : WsMode} {s y : List ℕ} where
  pub content_ready : (s' y' : List ℕ) (r : Run) → AsksContent t u z from end row s y
      → Post t u z from end (start_run row) base ctx ws s y s' y' (Ok r) → (row ≤ r.rows) × Ready s' y' row r.rows
  content_ready s' y' r a post = break-asks (came_end (post a.frame (content_entry a.content))).standing

  pub content_left : (s₁ s' y₁ y' : List ℕ) (r : Run) → Post t u z from end (start_run row) base ctx ws s y s₁ y₁ (Ok r)
      → Ends ws row r.rows s₁ y₁ s' y' → ContentPost t u z from end row base ctx ws s y s' y' (Ok r)
  unfolding content_of
  content_left s₁ s' y₁ y' r post e w x =
      let d = came_end (post w (content_entry x)) in
      record {
        few = d.few;
        segments = ended with_places (space_in ws) d.segments;
        means = bind_is _ d.means;
        hi = d.hi;
        below = d.below;
        standing = ended-standing ws d.hi row r.rows s₁ s' y₁ y' e w d.segments d.standing;
      }

-- The walk over timed elements: what the readers answer is what the elements mean. Assumes nothing.
--     cues_end, cues_text, cues_element                         `cues_in` by its nodes
--     div_is, body_is, timed_div, timed_p, timed_unknown        a div, the body, what an element is
--     child-row, child-room, child-end, child-is, child-attrs, child-said     what a child's row says
--     inner, inner_asks, container_came                         its content, and a container
--     div_refused, div_inside, div_came                         a div, as far as it is read
--     child-div, child-p, child-unknown                         a child by its name
--     headed, passed                                            the first of siblings is an element, or not
--     Walked, walked_start, walked_row, walked_next, walked_asks, walked_pass, walked_step, walked_fail, walked_done    the loop over siblings
--     max-later                                                 the later of two times
--     body_child, body_asks, body_none, body_refused, body_came                                                         the body
use Rattle.std.specs.Prelude as rust
use Rattle.std.specs.Prelude.{Some, None, Result, Ok, Err}
use Prim.Native.Nat.{ℕ, ◌+◌, ◌-◌, ◌*◌, ◌≤◌, ◌<◌}
use mathlib.Core.Path.{◌≡◌, refl, sym, ap, ◌∙◌, subst}
use mathlib.Core.Bool.{Bool, true, false, cond}
use mathlib.Core.List.{List, [], ◌++◌}
use mathlib.Core.Option.{Option, some}
use native.Mathlib.Omega.{arith}
use lib.IntN.{ℤ, pos, negsuc}
use lib.Dec.{ltb}
use borrow.Author.Tests.{ltb-true, ltb-false, le-ltb}
use Rattle.std.specs.Int.{int_max}
use Rattle.scan.proofs.Every.{by-test}
use lib.ListN.{length, get_or, length-append}
use Rattle.scan.specs.Part.{string_at}
use Rattle.times.specs.declared.offset.TimingCtx.{TimingCtx}
use Rattle.tree.specs.declared.answers.Refusal.{Refusal}
use Rattle.tree.specs.Trees.{Forest, size, attrs_of, Span, attr_spans, spans, InOrder}
use Rattle.tree.specs.Trees as placed
use Rattle.tree.proofs.Places.{in_lower, in_first, in_rest}
use Rattle.track.specs.Track.{Cue}
use Rattle.xml.specs.declared.find.Element.{Element}
use Rattle.xml.specs.Find.{named, Holds, OfSiblings, find_row, is_element, HasRow, element_row, ElementAt}
use Rattle.xml.specs.Reading.{Placed}
use Rattle.xml.proofs.Lays.{in_split}
use Rattle.xml.proofs.FindLaws.{holds_text, holds_section, holds_elem, holds_alone, siblings_of, has_row, is-element_elem}
use Rattle.meaning.specs.Answers.{Answer, is, refused, ◌>>=◌}
use Rattle.meaning.specs.Words.{ascii}
use Rattle.meaning.specs.Nodes.{Attr, Nodes, nil, text, element, first_element}
use Rattle.meaning.specs.Nodes as nodes
use Rattle.meaning.specs.Kinds.{with_places, attrs_in, nodes_in}
use Rattle.meaning.specs.Space.{space_of}
use Rattle.meaning.specs.Timing.{time_of, sum, or_zero, lasting_to, is_seq}
use Rattle.meaning.specs.Cues.{a_div, a_p, unknown, timed_of, div_of, cues_in, later}
use Rattle.meaning.specs.Cues as meaning
use Rattle.meaning.specs.Meaning.{body_of}
use Rattle.styling.specs.declared.space.WsMode.{WsMode}
use Rattle.styling.specs.Posts.{HasRows, OfRows, moment_said, space_in}
use Rattle.content.proofs.Reading.{bind_is, bind_no, no_size, row-end}
use Rattle.cues.specs.declared.lines.Line.{Line}
use Rattle.intervals.specs.Steps.{begin_from, start_from, end_from}
use Rattle.cues.specs.Steps.{CueTables, Spacious, Base, Lined, Child, Children, AsksChild, AsksCues}
use Rattle.cues.specs.Steps.{Came, Outcome, ParagraphPost, within, ContainerPost, div_in, DivPost, Closes, child_in, ElementPost}
use Rattle.cues.specs.Steps.{following, CuesPost, no_line, Bodies, AsksBody, BodyOutcome, BodyPost}
use Rattle.extras.proofs.Counts.{First, first_found, first-nothing, regroup}

-- ---- steps of an answer

bind_assoc : {A B C : Type 0} (m : Answer A) (f : A → Answer B) (g : B → Answer C) → (m >>= f >>= g) ≡ (m >>= λ a. f a >>= g)
bind_assoc (is a) f g = refl
bind_assoc (refused i p) f g = refl

-- ---- `cues_in` by its nodes

module _ (ctx : TimingCtx) (seq : Bool) (ws : WsMode) (begin reference latest : ℤ) (cues : List (Cue Placed)) where
  abbrev meant : Nodes Placed → Answer (meaning.Line Placed)
  meant f = cues_in with_places ctx seq (space_in ws) begin reference latest cues f

  pub cues_end : meant nil ≡ is (record { cues = cues; end = latest })
  unfolding cues_in
  cues_end = refl

  pub cues_text : (at : ℕ) (s : Placed) (f : Nodes Placed) → meant (text at s f) ≡ meant f
  unfolding cues_in
  cues_text at s f = refl

  pub cues_element : (at : ℕ) (n : Placed) (l : List (Attr Placed)) (c f : Nodes Placed)
      → meant (element at n l c f) ≡ (child_in ctx seq ws reference cues at n l c >>= λ line.
      cues_in with_places ctx seq (space_in ws) begin (following seq begin line.end) (later latest line.end) line.cues f)
  unfolding cues_in
  cues_element at n l c f = refl

-- ---- a div, the body, and what an element is

pub div_is : (ctx : TimingCtx) (reference : ℤ) (at : ℕ) (l : List (Attr Placed)) (children : ℤ → Answer (meaning.Line Placed))
    → div_of with_places ctx reference at l children ≡ (start_from ctx at reference l >>= λ start. children start >>= λ inner.
    end_from ctx at start inner.end l >>= λ end. is (record { cues = inner.cues; end = end }))
unfolding div_of
div_is ctx reference at l children = by (time_of with_places ctx at (ascii "begin") l)
  where
    done : meaning.Line Placed → ℤ → Answer (meaning.Line Placed)
    done inner end = is (record { cues = inner.cues; end = end })

    ended : ℤ → meaning.Line Placed → Answer (meaning.Line Placed)
    ended start inner = time_of with_places ctx at (ascii "dur") l >>= λ dur. lasting_to at start dur inner.end >>= done inner

    closed : ℤ → meaning.Line Placed → Answer (meaning.Line Placed)
    closed start inner = end_from ctx at start inner.end l >>= done inner

    ends : (start : ℤ) (m : Answer (meaning.Line Placed)) → (m >>= ended start) ≡ (m >>= closed start)
    ends start (is inner) = sym (bind_assoc (time_of with_places ctx at (ascii "dur") l) _ _)
    ends start (refused i p) = refl

    starts : (m : Answer ℤ) → (m >>= λ start. children start >>= ended start) ≡ (m >>= λ start. children start >>= closed start)
    starts (is start) = ends start (children start)
    starts (refused i p) = refl

    by : (m : Answer (Option ℤ))
        → (m >>= λ begin. sum at reference (or_zero begin) >>= λ start. children start >>= ended start)
        ≡ (m >>= (λ begin. sum at reference (or_zero begin)) >>= λ start. children start >>= closed start)
    by (is begin) = starts (sum at reference (or_zero begin))
    by (refused i p) = refl

pub body_is : (ctx : TimingCtx) (ws : WsMode) (e : nodes.Element Placed)
    → body_of with_places ctx (space_in ws) (some e) ≡ (begin_from ctx e.at e.attrs >>= λ begin.
    within ctx ws begin [] e.attrs e.content >>= λ line. is line.cues)
unfolding body_of
body_is ctx ws e = sym (bind_assoc (time_of with_places ctx e.at (ascii "begin") e.attrs) (λ begin. is (or_zero begin)) _)

module _ (z : List ℕ) (p n : ℕ) where
  abbrev name_in : Placed
  name_in = record { place = p; bytes = string_at z p n }

  pub timed_div : named (ascii "div") (string_at z p n) ≡ true → timed_of with_places name_in ≡ a_div
  unfolding timed_of nodes.named named
  timed_div e = rw e

  pub timed_p : named (ascii "div") (string_at z p n) ≡ false → named (ascii "p") (string_at z p n) ≡ true → timed_of with_places name_in ≡ a_p
  unfolding timed_of nodes.named named
  timed_p e h = rw (e, h)

  pub timed_unknown : named (ascii "div") (string_at z p n) ≡ false → named (ascii "p") (string_at z p n) ≡ false
      → timed_of with_places name_in ≡ unknown
  unfolding timed_of nodes.named named
  timed_unknown e h = rw (e, h)

-- ---- outcomes

-- the line's end does not count
lined_end : {b : Base} {hi : ℕ} {l : List (Cue Placed)} {r s : Line} {T : CueTables} → s.cues ≡ r.cues → s.rows ≡ r.rows → s.extras ≡ r.extras
    → Lined b hi l r T → Lined b hi l s T
lined_end c m e x = record {
  many = c ∙ x.many;
  made = m ∙ x.made;
  kept = e ∙ x.kept;
  few_cues = x.few_cues;
  few_rows = x.few_rows;
  in-cues = x.in-cues;
  in_times = x.in_times;
  in_cells = x.in_cells;
  in_extras = x.in_extras;
  in_texts = x.in_texts;
  order = x.order;
  room = x.room;
}

module _ (b : Base) (limit : ℕ) (line : Line) (T : CueTables) where
  -- of fewer attributes
  outcome_same : {many more : ℕ} {m m' : Answer (meaning.Line Placed)} (r : Result Line Refusal) → m' ≡ m → many ≤ more → Outcome b limit line many T m r
      → Outcome b limit line more T m' r
  outcome_same (Ok r) e h x = record {
    cues = x.cues;
    means = e ∙ x.means;
    hi = x.hi;
    below = x.below;
    standing = x.standing;
    few = omega (arith, x.few);
  }
  outcome_same (Err q) e h x = e ∙ x

-- ---- what a child's row says

module _ {b : Base} {limit : ℕ} {t u z : List ℕ} {k : ℕ} {line : Line} {T : CueTables} (x : Child b limit t u z k line T) where
  abbrev at_row : ElementAt t u z k x.own x.place x.len x.attrs x.content placed.nil
  at_row = holds_elem x.holds

  abbrev itself : Element
  itself = record {
    place = x.place;
    name_len = x.len;
    end = k + 1 + size x.content;
    first = x.own;
    many = length x.attrs;
  }

  pub child-row : HasRow t z k
  unfolding size
  child-row = has_row (siblings_of x.holds) (omega arith)

  pub child-room : k * 6 + 6 ≤ length t
  child-room = at_row.room

  pub child-end : get_or t (k * 6 + 1) 0 ≡ k + 1 + size x.content
  child-end = at_row.row.end_is

  module _ (e : Element) (row : e ≡ element_row t k) where
    pub child-is : e ≡ itself
    child-is = row ∙ at_row.cells

    pub child-attrs : HasRows u z e.first e.many
    child-attrs = rw child-is (x.attrs, at_row.owned)

    -- what is said of the attributes in its rows
    pub child-said : (holds : List (Attr Placed) → Type 0) → OfRows u z e.first e.many holds → holds (attrs_in z x.attrs)
    child-said holds h =
        let g = subst (λ (v : Element). OfRows u z v.first v.many holds) child-is h in
        g x.attrs at_row.owned

  -- ---- its content

  pub inner_order : InOrder x.hi (spans x.content) limit
  unfolding spans
  inner_order =
      let lo = x.place + 1 + x.len in
      let r = in_rest (attr_spans x.attrs) (spans x.content ++ []) lo limit x.placed.1 in
      in_lower (spans x.content) x.hi lo limit (omega (arith, x.placed.0)) (in_first (spans x.content) [] lo limit r)

  abbrev pub inner : Children b limit t u z (k + 1) (k + 1 + size x.content) line T
  inner = record {
    own = x.own + length x.attrs;
    forest = x.content;
    holds = at_row.inside;
    rows = refl;
    hi = x.hi;
    placed = inner_order;
    earlier = x.earlier;
    standing = x.standing;
    room = omega (arith, x.room);
  }

pub inner_asks : {t u z : List ℕ} {k : ℕ} {line : Line} {T : CueTables} (e : Element) → AsksChild t u z k line T → e ≡ element_row t k
    → AsksCues t u z (k + 1) e.end line T
inner_asks e a row =
    rw (child-is a.child e row) (record { spacious = a.spacious; base = a.base; limit = a.limit; children = inner a.child })

-- ---- containers, divs and children by their names

-- what is said of the attributes of an element: all of them; and which space they give
abbrev Says : (u z : List ℕ) → Element → (List (Attr Placed) → Type 0) → Type 0
Says u z e holds = OfRows u z e.first e.many holds

abbrev pub InMode : (u z : List ℕ) → Element → (ws mode : WsMode) → Type 0
InMode u z e ws mode = OfRows u z e.first e.many (λ l. space_in mode ≡ space_of with_places (space_in ws) l)

module _ (t u z : List ℕ) (k : ℕ) (ctx : TimingCtx) (ws : WsMode) (line : Line) (T T' : CueTables) (e : Element) (row : e ≡ element_row t k) where
  -- what the content of a child came to
  inner_post : (seq : Bool) (begin : ℤ) (mode : WsMode) (r : Result Line Refusal) → CuesPost t u z (k + 1) e.end seq begin ctx mode line T T' r
      → (b : Base) (limit : ℕ) (x : Child b limit t u z k line T) → Outcome b limit line (length (attrs_of x.content)) T'
      (cues_in with_places ctx seq (space_in mode) begin begin begin x.earlier (nodes_in z x.content)) r
  inner_post seq begin mode r post b limit x =
      let g = subst (λ (v : Element). CuesPost t u z (k + 1) v.end seq begin ctx mode line T T' r) (child-is x e row) post in
      g b limit (inner x)

  pub container_came : (seq : Bool) (begin : ℤ) (mode : WsMode) (r : Result Line Refusal) → Says u z e (λ l. seq ≡ is_seq with_places l) → InMode u z e ws mode
      → CuesPost t u z (k + 1) e.end seq begin ctx mode line T T' r → ContainerPost t u z k begin ctx ws line T T' r
  container_came seq begin mode r kinds modes post b limit x =
      let a = child-said x e row (λ l. seq ≡ is_seq with_places l) kinds in
      let m = child-said x e row (λ l. space_in mode ≡ space_of with_places (space_in ws) l) modes in
      outcome_same b limit line T' r (rw (a, m)) (omega arith) (inner_post seq begin mode r post b limit x)

  -- ---- a div
  module _ (reference : ℤ) where
    abbrev pub Starts : Result ℤ Refusal → Type 0
    Starts m = OfRows u z e.first e.many (λ l. moment_said m ≡ start_from ctx e.place reference l)

    module _ {b : Base} {limit : ℕ} (x : Child b limit t u z k line T) where
      abbrev attrs : List (Attr Placed)
      attrs = attrs_in z x.attrs

      abbrev children : ℤ → Answer (meaning.Line Placed)
      children start = within ctx ws start x.earlier attrs (nodes_in z x.content)

      abbrev all : Answer (meaning.Line Placed)
      all = div_in ctx ws reference x.earlier x.place attrs (nodes_in z x.content)

      abbrev close : ℤ → meaning.Line Placed → Answer (meaning.Line Placed)
      close start inner = end_from ctx x.place start inner.end attrs >>= λ end. is (record { cues = inner.cues; end = end })

      started : (m : Result ℤ Refusal) → Starts m → moment_said m ≡ start_from ctx x.place reference attrs
      started m h =
          let g = child-said x e row (λ l. moment_said m ≡ start_from ctx e.place reference l) h in
          rw (ap (λ (v : Element). v.place) (child-is x e row)) at g

      all_is : all ≡ (start_from ctx x.place reference attrs >>= λ start. children start >>= close start)
      all_is = div_is ctx reference x.place attrs children

    pub div_refused : (q : Refusal) → Starts (Err q) → DivPost t u z k reference ctx ws line T T' (Err q)
    div_refused q h b limit x = all_is x ∙ bind_no _ (sym (started x (Err q) h))

    module _ (start : ℤ) (h : Starts (Ok start)) where
      begun : {b : Base} {limit : ℕ} (x : Child b limit t u z k line T) → all x ≡ (children x start >>= close x start)
      begun x = all_is x ∙ bind_is _ (sym (started x (Ok start) h))

      pub div_inside : (q : Refusal) → ContainerPost t u z k start ctx ws line T T' (Err q)
          → DivPost t u z k reference ctx ws line T T' (Err q)
      div_inside q post b limit x = begun x ∙ bind_no _ (post b limit x)

      ended : {b : Base} {limit : ℕ} (x : Child b limit t u z k line T) (inner : Line) (r : Result Line Refusal)
          → Came b limit line (length x.attrs + length (attrs_of x.content)) T' (children x start) inner
          → Closes ctx x.place start inner (attrs x) r
          → Outcome b limit line (length x.attrs + length (attrs_of x.content)) T' (all x) r
      ended x inner (Ok r) c h = record {
        cues = c.cues;
        means = begun x ∙ bind_is (close x start) c.means ∙ bind_is _ h.0;
        hi = c.hi;
        below = c.below;
        standing = lined_end h.1 h.2 h.3 c.standing;
        few = omega (arith, c.few, h.3);
      }
      ended x inner (Err q) c h = begun x ∙ bind_is (close x start) c.means ∙ bind_no _ h

      pub div_came : (inner : Line) → ContainerPost t u z k start ctx ws line T T' (Ok inner)
          → (r : Result Line Refusal) → Says u z e (λ l. Closes ctx e.place start inner l r) → DivPost t u z k reference ctx ws line T T' r
      div_came inner post r closes b limit x =
          let g = child-said x e row (λ l. Closes ctx e.place start inner l r) closes in
          let at = ap (λ (v : Element). v.place) (child-is x e row) in
          ended x inner r (post b limit x) (subst (λ v. Closes ctx v start inner (attrs_in z x.attrs) r) at g)

-- a child by its name
module _ (t u z : List ℕ) (k : ℕ) (ctx : TimingCtx) (ws : WsMode) (line : Line) (T T' : CueTables) (seq : Bool) (reference : ℤ) (r : Result Line Refusal) where
  its_name : (name : List ℕ) (h : Bool) → is_element t z name k ≡ h → {b : Base} {limit : ℕ} (x : Child b limit t u z k line T)
      → named name (string_at z (x.place + 1) x.len) ≡ h
  its_name name h e x = sym (is-element_elem z name x.holds.stands) ∙ e

  pub child-div : is_element t z (ascii "div") k ≡ true → DivPost t u z k reference ctx ws line T T' r
      → ElementPost t u z k seq reference ctx ws line T T' r
  child-div d post b limit x =
      let i = timed_div z (x.place + 1) x.len (its_name (ascii "div") true d x) in
      outcome_same b limit line T' r (rw (i, child_in)) (omega arith) (post b limit x)

  module _ (nd : is_element t z (ascii "div") k ≡ false) where
    pub child-p : is_element t z (ascii "p") k ≡ true → ParagraphPost t u z k reference ctx ws line T T' r
        → ElementPost t u z k seq reference ctx ws line T T' r
    child-p d post b limit x =
        let i = timed_p z (x.place + 1) x.len (its_name (ascii "div") false nd x) (its_name (ascii "p") true d x) in
        outcome_same b limit line T' r (rw (i, child_in)) (omega arith) (post b limit x)

    pub child-unknown : is_element t z (ascii "p") k ≡ false → (e : Element) → e ≡ element_row t k → (mode : WsMode) → InMode u z e ws mode
        → CuesPost t u z (k + 1) e.end seq reference ctx mode line T T' r → ElementPost t u z k seq reference ctx ws line T T' r
    child-unknown d e row mode modes post b limit x =
        let i = timed_unknown z (x.place + 1) x.len (its_name (ascii "div") false nd x) (its_name (ascii "p") false d x) in
        let m = child-said x e row (λ l. space_in mode ≡ space_of with_places (space_in ws) l) modes in
        outcome_same b limit line T' r (rw (i, child_in) (rw m)) (omega arith)
        (inner_post t u z k ctx ws line T T' e row seq reference mode r post b limit x)

-- ---- the loop over siblings

-- the first of siblings is an element, and the others stand after it
pub record Headed {b : Base} {limit : ℕ} {t u z : List ℕ} {k end : ℕ} {line : Line} {T : CueTables} (x : Children b limit t u z k end line T)
    : Type 0 where
  pub mid : ℕ
  pub child : Child b mid t u z k line T
  pub others : Forest
  pub forest_is : x.forest ≡ placed.elem child.place child.len child.attrs child.content others
  pub earlier_is : child.earlier ≡ x.earlier
  pub own : ℕ
  pub holds : Holds t u z (get_or t (k * 6 + 1) 0) own others
  pub rows : get_or t (k * 6 + 1) 0 + size others ≡ end
  pub order : InOrder mid (spans others) limit

module _ {b : Base} {limit : ℕ} {t u z : List ℕ} {k end : ℕ} {line : Line} {T : CueTables} (own hi : ℕ) (earlier : List (Cue Placed))
    (st : Lined b hi earlier line T) where
  abbrev of_forest : (f : Forest) → Holds t u z k own f → k + size f ≡ end → InOrder hi (spans f) limit
      → line.extras + length (attrs_of f) ≤ 8192 → Children b limit t u z k end line T
  of_forest f h e o m = record {
    own = own;
    forest = f;
    holds = h;
    rows = e;
    hi = hi;
    placed = o;
    earlier = earlier;
    standing = st;
    room = m;
  }

  head_of : (f : Forest) (h : Holds t u z k own f) (e : k + size f ≡ end) (o : InOrder hi (spans f) limit)
      (m : line.extras + length (attrs_of f) ≤ 8192) → k < end → get_or t (k * 6) 0 ≡ 2 → Headed (of_forest f h e o m)
  unfolding size spans attrs_of
  head_of placed.nil h e o m j kind = absurd (omega arith)
  head_of (placed.text p n g) h e o m j kind = absurd (omega (arith, kind, (holds_text h).row.kind_is))
  head_of (placed.section p n g) h e o m j kind = absurd (omega (arith, kind, (holds_section h).row.kind_is))
  head_of (placed.elem p n l c g) h e o m j kind =
      let a = holds_elem h in
      let inside : List Span = attr_spans l ++ (spans c ++ []) in
      let o' : InOrder (p + 1 + n) (inside ++ spans g) limit = rw (← (regroup (attr_spans l) (spans c) (spans g))) o.1 in
      let w = in_split inside (spans g) (p + 1 + n) limit o' in
      record {
        mid = w.mid;
        child = record {
          own = own;
          place = p;
          len = n;
          attrs = l;
          content = c;
          holds = holds_alone h;
          hi = hi;
          placed = (o.0, w.first);
          earlier = earlier;
          standing = st;
          room = omega (arith, simp length-append at m);
        };
        others = g;
        forest_is = refl;
        earlier_is = refl;
        own = own + length l + length (attrs_of c);
        holds = rw a.row.end_is a.later;
        rows = rw a.row.end_is (omega arith);
        order = w.rest;
      }

headed : {b : Base} {limit : ℕ} {t u z : List ℕ} {k end : ℕ} {line : Line} {T : CueTables} (x : Children b limit t u z k end line T)
    → k < end → get_or t (k * 6) 0 ≡ 2 → Headed x
headed x j kind = head_of x.own x.hi x.earlier x.standing x.forest x.holds x.rows x.placed x.room j kind

head_many : {b : Base} {limit : ℕ} {t u z : List ℕ} {k end : ℕ} {line : Line} {T : CueTables} {x : Children b limit t u z k end line T}
    (h : Headed x) → length (attrs_of x.forest) ≡ length h.child.attrs + length (attrs_of h.child.content) + length (attrs_of h.others)
unfolding attrs_of
head_many h = rw h.forest_is (simp length-append (omega arith))

-- the first of siblings is a text or a section, and the others stand after it
pub record Passed {b : Base} {limit : ℕ} {t u z : List ℕ} {k end : ℕ} {line : Line} {T : CueTables} (x : Children b limit t u z k end line T)
    : Type 0 where
  pub others : Forest
  pub own : ℕ
  pub holds : Holds t u z (get_or t (k * 6 + 1) 0) own others
  pub rows : get_or t (k * 6 + 1) 0 + size others ≡ end
  pub order : InOrder x.hi (spans others) limit
  pub many : length (attrs_of x.forest) ≡ length (attrs_of others)
  pub same : (ctx : TimingCtx) (seq : Bool) (ws : WsMode) (begin reference latest : ℤ) (cues : List (Cue Placed))
      → cues_in with_places ctx seq (space_in ws) begin reference latest cues (nodes_in z x.forest)
      ≡ cues_in with_places ctx seq (space_in ws) begin reference latest cues (nodes_in z others)

module _ {b : Base} {limit : ℕ} {t u z : List ℕ} {k end : ℕ} {line : Line} {T : CueTables} (own hi : ℕ) (earlier : List (Cue Placed))
    (st : Lined b hi earlier line T) where
  passed_of : (f : Forest) (h : Holds t u z k own f) (e : k + size f ≡ end) (o : InOrder hi (spans f) limit)
      (m : line.extras + length (attrs_of f) ≤ 8192) → k < end → (get_or t (k * 6) 0 ≡ 2 → ⊥) → Passed (of_forest own hi earlier st f h e o m)
  unfolding size spans attrs_of nodes_in
  passed_of placed.nil h e o m j ne = absurd (omega arith)
  passed_of (placed.text p n g) h e o m j ne =
      let a = holds_text h in
      record {
        others = g;
        own = own;
        holds = rw a.row.end_is a.later;
        rows = rw a.row.end_is (omega arith);
        order = in_lower (spans g) hi (p + n) limit (omega (arith, o.0)) o.1;
        many = refl;
        same = λ ctx seq ws begin reference latest cues. cues_text ctx seq ws begin reference latest cues p (name_in z p n) (nodes_in z g);
      }
  passed_of (placed.section p n g) h e o m j ne =
      let a = holds_section h in
      record {
        others = g;
        own = own;
        holds = rw a.row.end_is a.later;
        rows = rw a.row.end_is (omega arith);
        order = in_lower (spans g) hi (p + n) limit (omega (arith, o.0)) o.1;
        many = refl;
        same = λ ctx seq ws begin reference latest cues. cues_text ctx seq ws begin reference latest cues (p - 9) (name_in z p n) (nodes_in z g);
      }
  passed_of (placed.elem p n l c g) h e o m j ne = absurd (ne (holds_elem h).row.kind_is)

passed : {b : Base} {limit : ℕ} {t u z : List ℕ} {k end : ℕ} {line : Line} {T : CueTables} (x : Children b limit t u z k end line T)
    → k < end → (get_or t (k * 6) 0 ≡ 2 → ⊥) → Passed x
passed x j ne = passed_of x.own x.hi x.earlier x.standing x.forest x.holds x.rows x.placed x.room j ne

-- how long the tables are
pub record SameLengths (T T' : CueTables) : Type 0 where
  pub cues : length T'.cues ≡ length T.cues
  pub times : length T'.times ≡ length T.times
  pub segments : length T'.segments ≡ length T.segments
  pub extras : length T'.extras ≡ length T.extras
  pub texts : length T'.texts ≡ length T.texts

pub lengths-refl : (T : CueTables) → SameLengths T T
lengths-refl T = record { cues = refl; times = refl; segments = refl; extras = refl; texts = refl }

pub lengths-then : {A B C : CueTables} → SameLengths A B → SameLengths B C → SameLengths A C
lengths-then x y = record {
  cues = y.cues ∙ x.cues;
  times = y.times ∙ x.times;
  segments = y.segments ∙ x.segments;
  extras = y.extras ∙ x.extras;
  texts = y.texts ∙ x.texts;
}

still_spacious : {z : List ℕ} {T T' : CueTables} → SameLengths T T' → Spacious z T → Spacious z T'
still_spacious x s = record {
  roomy = record {
    wide = omega (arith, x.segments, s.roomy.wide);
    texts = omega (arith, x.texts, s.roomy.texts);
    small = s.roomy.small;
  };
  cues = omega (arith, x.cues, s.cues);
  times = omega (arith, x.times, s.times);
  extras = omega (arith, x.extras, s.extras);
}

module _ (t u z : List ℕ) (from end : ℕ) (seq : Bool) (begin : ℤ) (ctx : TimingCtx) (ws : WsMode) (line : Line) (T₀ : CueTables) where
  abbrev means : (reference latest : ℤ) → List (Cue Placed) → Forest → Answer (meaning.Line Placed)
  means reference latest cues f = cues_in with_places ctx seq (space_in ws) begin reference latest cues (nodes_in z f)

  -- from x on the siblings up to row k are read
  pub record Reached {b : Base} {limit : ℕ} (x : Children b limit t u z from end line T₀) (k : ℕ) (s : Line) (latest reference : ℤ) (T : CueTables)
      : Type 0 where
    pub to : Children b limit t u z k end s T
    pub same : means begin begin x.earlier x.forest ≡ means reference latest to.earlier to.forest
    pub few : s.extras + length (attrs_of to.forest) ≤ line.extras + length (attrs_of x.forest)

  pub record Walked (k : ℕ) (s : Line) (latest reference : ℤ) (T : CueTables) : Type 0 where
    pub low : from ≤ k
    pub lengths : SameLengths T₀ T
    pub goes : (b : Base) (limit : ℕ) (x : Children b limit t u z from end line T₀) → Reached x k s latest reference T

  pub walked_start : Walked from line begin begin T₀
  walked_start = record {
    low = omega arith;
    lengths = lengths-refl T₀;
    goes = λ b limit x. record { to = x; same = refl; few = omega arith };
  }

module _ {t u z : List ℕ} {from end : ℕ} {seq : Bool} {begin : ℤ} {ctx : TimingCtx} {ws : WsMode} {line : Line} {T₀ : CueTables}
    (a : AsksCues t u z from end line T₀) {k : ℕ} {s : Line} {latest reference : ℤ} {T : CueTables}
    (i : Walked t u z from end seq begin ctx ws line T₀ k s latest reference T) where
  abbrev WalkedTo : ℕ → Line → (latest reference : ℤ) → CueTables → Type 0
  WalkedTo k s latest reference T = Walked t u z from end seq begin ctx ws line T₀ k s latest reference T

  abbrev meant_here : (reference latest : ℤ) → List (Cue Placed) → Forest → Answer (meaning.Line Placed)
  meant_here reference latest cues f = cues_in with_places ctx seq (space_in ws) begin reference latest cues (nodes_in z f)

  abbrev here : Children a.base a.limit t u z k end s T
  here = (i.goes a.base a.limit a.children).to

  -- row k stands in the table, and the row after its node
  pub walked_row : k < end → k * 6 + 6 ≤ length t
  walked_row j = (has_row (siblings_of here.holds) (omega (arith, here.rows))).row

  pub walked_next : k < end → (k < get_or t (k * 6 + 1) 0) × (get_or t (k * 6 + 1) 0 ≤ end)
  walked_next j = row-end t u z k here.own end here.forest here.holds here.rows j

  pub walked_asks : k < end → get_or t (k * 6) 0 ≡ 2 → AsksChild t u z k s T
  walked_asks j kind =
      let h = headed here j kind in
      record { spacious = still_spacious i.lengths a.spacious; base = a.base; limit = h.mid; child = h.child }

  module _ (j : k < end) where
    -- ---- a text or a section is passed over
    pub walked_pass : (get_or t (k * 6) 0 ≡ 2 → ⊥) → WalkedTo (get_or t (k * 6 + 1) 0) s latest reference T
    walked_pass ne = record {
      low = omega (arith, i.low, (walked_next j).0);
      lengths = i.lengths;
      goes = λ b limit x.
          let g = i.goes b limit x in
          let p = passed g.to j ne in
          record {
            to = record {
              own = p.own;
              forest = p.others;
              holds = p.holds;
              rows = p.rows;
              hi = g.to.hi;
              placed = p.order;
              earlier = g.to.earlier;
              standing = g.to.standing;
              room = omega (arith, g.to.room, p.many);
            };
            same = g.same ∙ p.same ctx seq ws begin reference latest g.to.earlier;
            few = omega (arith, g.few, p.many);
          };
    }

    module _ (kind : get_or t (k * 6) 0 ≡ 2) where
      element-is : {b : Base} {limit : ℕ} (x : Children b limit t u z from end line T₀) → (h : Headed (i.goes b limit x).to)
          → meant_here begin begin x.earlier x.forest
          ≡ (child_in ctx seq ws reference h.child.earlier h.child.place (name_in z (h.child.place + 1) h.child.len)
          (attrs_in z h.child.attrs) (nodes_in z h.child.content) >>= λ v.
          meant_here (following seq begin v.end) (later latest v.end) v.cues h.others)
      unfolding nodes_in
      element-is {b} {limit} x h =
          let g = i.goes b limit x in
          let c = h.child in
          g.same ∙ ap (meant_here reference latest g.to.earlier) h.forest_is
          ∙ ap (λ v. meant_here reference latest v (placed.elem c.place c.len c.attrs c.content h.others)) (sym h.earlier_is)
          ∙ cues_element ctx seq ws begin reference latest c.earlier c.place (name_in z (c.place + 1) c.len) (attrs_in z c.attrs)
          (nodes_in z c.content) (nodes_in z h.others)

      pub walked_step : {r : Line} (T' : CueTables) → SameLengths T T' → ElementPost t u z k seq reference ctx ws s T T' (Ok r)
          → WalkedTo (get_or t (k * 6 + 1) 0) r (later latest r.end) (following seq begin r.end) T'
      walked_step {r} T' same post = record {
        low = omega (arith, i.low, (walked_next j).0);
        lengths = lengths-then i.lengths same;
        goes = λ b limit x.
            let g = i.goes b limit x in
            let h = headed g.to j kind in
            let c = post b h.mid h.child in
            let n = head_many h in
            record {
              to = record {
                own = h.own;
                forest = h.others;
                holds = h.holds;
                rows = h.rows;
                hi = c.hi;
                placed = in_lower (spans h.others) c.hi h.mid limit c.below h.order;
                earlier = c.cues;
                standing = c.standing;
                room = omega (arith, g.to.room, c.few, n);
              };
              same = element-is x h ∙ bind_is _ c.means;
              few = omega (arith, g.few, c.few, n);
            };
      }

      pub walked_fail : {q : Refusal} (T' : CueTables) → ElementPost t u z k seq reference ctx ws s T T' (Err q)
          → CuesPost t u z from end seq begin ctx ws line T₀ T' (Err q)
      walked_fail T' post b limit x =
          let h = headed (i.goes b limit x).to j kind in
          element-is x h ∙ bind_no _ (post b h.mid h.child)

  pub walked_done : end ≤ k
      → CuesPost t u z from end seq begin ctx ws line T₀ T (Ok (record { cues = s.cues; rows = s.rows; extras = s.extras; end = latest }))
  unfolding nodes_in spans attrs_of
  walked_done j b limit x =
      let g = i.goes b limit x in
      let none : g.to.forest ≡ placed.nil = no_size g.to.forest (omega (arith, g.to.rows)) in
      let low : InOrder g.to.hi [] limit = rw none at g.to.placed in
      record {
        cues = g.to.earlier;
        means = g.same ∙ ap (meant_here reference latest g.to.earlier) none ∙ cues_end ctx seq ws begin reference latest g.to.earlier;
        hi = g.to.hi;
        below = low;
        standing = lined_end refl refl refl g.to.standing;
        few = omega (arith, g.few);
      }

-- ---- the body

module _ {b : Base} {limit : ℕ} {t u z : List ℕ} {from end rows : ℕ} {T : CueTables} (x : Bodies b limit t u z from end rows T) where
  abbrev body_row : rust.Option ℕ
  body_row = find_row z (ascii "body") from x.forest

  abbrev body_meant : TimingCtx → WsMode → Answer (List (Cue Placed))
  body_meant ctx ws = body_of with_places ctx (space_in ws) (first_element with_places (ascii "body") (nodes_in z x.forest))

  -- what the search for a row answered
  found-is : (r : rust.Option ℕ) → OfSiblings t from end (λ f. r ≡ find_row z (ascii "body") from f) → body_row ≡ r
  found-is r h = sym (h x.own x.forest x.holds.stands x.size)

  module _ {k : ℕ} (h : OfSiblings t from end (λ f. Some k ≡ find_row z (ascii "body") from f)) where
    pub its_row : First t u z (ascii "body") from x.forest k
    its_row = first_found x.forest x.holds (found-is (Some k) h)

    abbrev pub body_child : Child b limit t u z k (no_line rows) T
    body_child =
        let y = its_row in
        record {
          own = y.first;
          place = y.place;
          len = y.len;
          attrs = y.attrs;
          content = y.content;
          holds = y.holds;
          hi = 0;
          placed = y.placed 0 limit x.placed;
          earlier = [];
          standing = x.standing;
          room = omega (arith, x.room, y.many);
        }

pub body_asks : {t u z : List ℕ} {from end rows k : ℕ} {T : CueTables} (a : AsksBody t u z from end rows T)
    → OfSiblings t from end (λ f. Some k ≡ find_row z (ascii "body") from f) → AsksChild t u z k (no_line rows) T
body_asks a h = record { spacious = a.spacious; base = a.base; limit = a.limit; child = body_child a.bodies h }

module _ (t u z : List ℕ) (from end : ℕ) (ctx : TimingCtx) (ws : WsMode) (rows : ℕ) (T : CueTables) where
  pub body_none : OfSiblings t from end (λ f. None ≡ find_row z (ascii "body") from f)
      → BodyPost t u z from end ctx ws rows T T (Ok (no_line rows))
  unfolding body_of
  body_none h b limit x = record {
    cues = [];
    means = ap (body_of with_places ctx (space_in ws)) (first-nothing z (ascii "body") from x.forest (found-is x None h));
    hi = 0;
    below = omega arith;
    standing = x.standing;
  }

  module _ (k : ℕ) (h : OfSiblings t from end (λ f. Some k ≡ find_row z (ascii "body") from f)) (e : Element) (row : e ≡ element_row t k) where
    abbrev pub Begins : Result ℤ Refusal → Type 0
    Begins m = OfRows u z e.first e.many (λ l. moment_said m ≡ begin_from ctx e.place l)

    module _ {b : Base} {limit : ℕ} (x : Bodies b limit t u z from end rows T) where
      abbrev its_attrs : List (Attr Placed)
      its_attrs = attrs_in z (body_child x h).attrs

      abbrev its_children : ℤ → Answer (meaning.Line Placed)
      its_children begin = within ctx ws begin [] its_attrs (nodes_in z (body_child x h).content)

      body_begins : (m : Result ℤ Refusal) → Begins m → body_meant x ctx ws ≡ (moment_said m >>= λ begin. its_children begin >>= λ line. is line.cues)
      body_begins m g =
          let y = body_child x h in
          let s = child-said y e row (λ l. moment_said m ≡ begin_from ctx e.place l) g in
          let s' : moment_said m ≡ begin_from ctx y.place its_attrs = rw (ap (λ (v : Element). v.place) (child-is y e row)) at s in
          ap (body_of with_places ctx (space_in ws)) (its_row x h).is
          ∙ body_is ctx ws (record { at = y.place; attrs = its_attrs; content = nodes_in z y.content })
          ∙ ap (λ v. v >>= λ begin. its_children begin >>= λ line. is line.cues) (sym s')

    pub body_refused : (T' : CueTables) (q : Refusal) → Begins (Err q) → BodyPost t u z from end ctx ws rows T T' (Err q)
    body_refused T' q g b limit x = body_begins x (Err q) g

    module _ (T' : CueTables) (begin : ℤ) (g : Begins (Ok begin)) where
      body_outcome : {b : Base} {limit : ℕ} (x : Bodies b limit t u z from end rows T) (many : ℕ) (r : Result Line Refusal)
          → Outcome b limit (no_line rows) many T' (its_children x begin) r → BodyOutcome b limit T' (body_meant x ctx ws) r
      body_outcome x many (Ok r) c = record {
        cues = c.cues;
        means = body_begins x (Ok begin) g ∙ bind_is _ c.means;
        hi = c.hi;
        below = c.below;
        standing = c.standing;
      }
      body_outcome x many (Err q) c = body_begins x (Ok begin) g ∙ bind_no _ c

      pub body_came : (r : Result Line Refusal) → ContainerPost t u z k begin ctx ws (no_line rows) T T' r → BodyPost t u z from end ctx ws rows T T' r
      body_came r post b limit x =
          let y = body_child x h in
          body_outcome x (length y.attrs + length (attrs_of y.content)) r (post b limit y)

-- ---- the later of two times, as `max` says it

either-way : (a b : ℕ) (x y : ℤ) → (a ≡ b → x ≡ y) → cond (ltb b a) x y ≡ cond (ltb a b) y x
either-way a b x y same = by-test (ltb a b)
    (λ h. let l : a < b = ltb-true a b h in rw (h, le-ltb b a (omega arith)))
    (λ h. by-test (ltb b a) (λ k. rw (h, k))
    (λ k. let e : a ≡ b = omega (arith, ltb-false a b h, ltb-false b a k) in
    rw (h, k) (sym (same e))))

pub max-later : (a b : ℤ) → int_max a b ≡ later a b
unfolding later
max-later (pos a) (pos b) = either-way a b (pos a) (pos b) (ap pos)
max-later (pos a) (negsuc b) = refl
max-later (negsuc a) (pos b) = refl
max-later (negsuc a) (negsuc b) = either-way b a (negsuc a) (negsuc b) (λ e. ap negsuc (sym e))

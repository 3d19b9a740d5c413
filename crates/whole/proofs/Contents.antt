-- The content of tt: what its head and its body leave is a track but for its parameters. Assumes nothing.
--     lang_found, lang_none                     its language
--     Counts, whole-filled                      the head of the track
--     head_asks, heads_no, body_asks, body_no   its head and its body, as they are asked for; refused
--     HeadBlank, BodyBlank, cleared-as          what they have written is cleared
--     whole-asks, content_laid                  all of it
use Rattle.std.specs.Prelude.{Some, None, Result, Ok, Err}
use Prim.Native.Nat.{ℕ, ◌+◌, ◌≤◌}
use mathlib.Core.Path.{◌≡◌, refl, sym, ap, subst, ◌∙◌}
use mathlib.Core.List.{List, []}
use native.Mathlib.Omega.{arith}
use lib.IntN.{ℤ, pos}
use lib.Ieee.{Float}
use lib.ListN.{length, replicate, length-append}
use Rattle.times.specs.declared.offset.TimingCtx.{TimingCtx}
use Rattle.tree.specs.declared.answers.Refusal.{Refusal}
use Rattle.scan.specs.Names.{same_folded}
use Rattle.tree.specs.Trees.{Forest, attrs_of}
use Rattle.track.specs.Track.{Param, Style, Region, Cue}
use Rattle.track.specs.Tables.{Tables, lengths, zero_float}
use Rattle.track.specs.Layout.{is_some, span_or, filled, head_cells}
use Rattle.records.specs.Posts.{head_row, head_of}
use Rattle.records.proofs.RowLaws.{head_laid}
use Rattle.records.proofs.Storing.{optional-wide}
use Rattle.records.proofs.Beside.{each-length}
use Rattle.xml.specs.declared.find.Element as found
use Rattle.xml.specs.Find.{element_row}
use Rattle.xml.specs.Reading.{Placed}
use Rattle.xml.proofs.PassForests.{string_long}
use Rattle.meaning.specs.Answers.{Answer}
use Rattle.meaning.specs.Words.{ascii}
use Rattle.meaning.specs.Nodes.{Attr, first_element}
use Rattle.meaning.specs.Kinds.{with_places, attrs_in, nodes_in}
use Rattle.meaning.specs.Space.{collapse, space_of}
use Rattle.meaning.specs.Tracks.{option_by}
use Rattle.meaning.specs.Cues.{made_in}
use Rattle.meaning.specs.Meaning.{lang_of, body_of}
use Rattle.laid.specs.Laid.{laid_param, laid_of, style_extras, region_extras}
use Rattle.laid.proofs.Fitting.{styles_many, regions_many, cues_many, segments_many}
use Rattle.styling.specs.declared.space.WsMode.{WsMode}
use Rattle.xml.specs.declared.find.Attribute.{Attribute}
use Rattle.styling.specs.Posts.{space_in, turned, FoundFits}
use Rattle.extras.specs.Counts.{attrs_named}
use Rattle.extras.proofs.Counts.{attrs-apart}
use Rattle.inline.specs.Stood.{span_in}
use Rattle.params.specs.Named.{found_in}
use Rattle.heads.specs.declared.collect.Heads.{Heads}
use Rattle.heads.specs.Steps.{Children, four, Cleared, AsksHead, Headed, HeadPost, inside_head, in_head_of}
use Rattle.heads.proofs.Joining.{head_stops, apart_of}
use Rattle.promised.proofs.Promises.{RestZero}
use Rattle.cues.specs.declared.lines.Line.{Line}
use Rattle.cues.specs.Steps.{CueTables, five, Spacious, Base, Lined, no_line, Bodies, AsksBody, Bodied, BodyPost}
use Rattle.cues.specs.Elements.{Elem, element_in}
use Rattle.cues.proofs.Blanks.{filled-from, Blank, lined_none}
use Rattle.cues.proofs.Elements.{elem-cells, elem-inside, elem-order}
use Rattle.blank.specs.Steps.{rest}
use Rattle.whole.specs.Steps.{head_base, Ready, LangIs, whole_head, HeadAsks, HeadPut, track_of_parts, content_means, ContentLaid}

-- ---- its language

pub lang_found : (z : List ℕ) (l : List (Attr Placed)) (h : Attribute) → FoundFits z (Some h) → found_in z (Some h) ≡ lang_of with_places l
    → LangIs z l (Some (record { place = h.place; len = h.len }))
lang_found z l h f e =
    let long = string_long z h.place h.len f in
    record { has = rw (← e); span = rw (← e, long); within = f }

pub lang_none : (z : List ℕ) (l : List (Attr Placed)) → found_in z None ≡ lang_of with_places l
    → LangIs z l None
lang_none z l e = record { has = rw (← e); span = rw (← e); within = omega arith }

-- ---- the head of the track

-- as many of each as there are
module _ (params : List (Param Placed)) (styles : List (Style Placed)) (regions : List (Region Placed)) (cues : List (Cue Placed)) where
  pub record Counts (count : ℕ) (hd : Heads) (line : Line) : Type 0 where
    pub many_params : length params ≡ count
    pub many_styles : hd.styles ≡ length styles
    pub many_regions : hd.regions ≡ length regions
    pub many_cues : line.cues ≡ length cues
    pub many_rows : line.rows ≡ made_in cues

  whole-head : (z : List ℕ) (l : List (Attr Placed)) {count : ℕ} {hd : Heads} {line : Line} → Counts count hd line
      → whole_head z count hd line l ≡ head_of (laid_of (track_of_parts l params styles regions cues)) (length z) (length z)
  unfolding laid_of head_of
  whole-head z l n =
      let before = style_extras styles + region_extras regions in
      let a = each-length laid_param params ∙ n.many_params in
      let b = styles_many 0 styles ∙ sym n.many_styles in
      let c = regions_many (style_extras styles) regions ∙ sym n.many_regions in
      let d = cues_many before 0 cues ∙ sym n.many_cues in
      let e = segments_many before 0 cues ∙ sym n.many_rows in
      rw (a, b, c, d, e)

  pub whole-filled : (z : List ℕ) (l : List (Attr Placed)) {count : ℕ} {hd : Heads} {line : Line} {h h' : List ℕ} → Counts count hd line
      → h ≡ replicate (length h) 0 → 10 ≤ length h → HeadPut z count hd line l h h'
      → h' ≡ filled (length h) (head_cells (laid_of (track_of_parts l params styles regions cues)) (length z) (length z))
  whole-filled z l {count} {hd} {line} {h} {h'} n blank long put =
      let k = laid_of (track_of_parts l params styles regions cues) in
      let e : head_row (whole_head z count hd line l) ≡ head_cells k (length z) (length z) =
      ap head_row (whole-head z l n) ∙ head_laid k (length z) (length z) in
      let ten : length (head_cells k (length z) (length z)) ≡ 10 =
      ap length (sym e) ∙ rw length-append (rw (optional-wide (is_some (lang_of with_places l)) (span_or (option_by span_in (lang_of with_places l))))) in
      filled-from (length h) blank e (omega (arith, ten, long)) put.in_head

-- ---- its head

head_body : (z : List ℕ) (f : Forest) → attrs_named z (ascii "head") f + attrs_named z (ascii "body") f ≤ length (attrs_of f)
unfolding same_folded
head_body z f = attrs-apart z (ascii "head") (ascii "body") (apart_of (ascii "head") (ascii "body") refl) f

module _ (h s r c : List ℕ) (m : List ℤ) (g : List ℕ) (f : List Float) (ex y : List ℕ) where
  -- beside any parameters
  abbrev tables : List ℕ → Tables
  tables p = rest h p s r c m g f ex y

  -- what its head and its body write is cleared, and nothing else was written
  pub record HeadBlank (s' r' : List ℕ) (f' : List Float) (ex' : List ℕ) : Type 0 where
    pub styles : s' ≡ replicate (length s) 0
    pub regions : r' ≡ replicate (length r) 0
    pub sizes : f' ≡ replicate (length f) zero_float
    pub extras : ex' ≡ replicate (length ex) 0

  pub record BodyBlank (c' : List ℕ) (m' : List ℤ) (g' y' : List ℕ) : Type 0 where
    pub cues : c' ≡ replicate (length c) 0
    pub times : m' ≡ replicate (length m) (pos 0)
    pub segments : g' ≡ replicate (length g) 0
    pub texts : y' ≡ replicate (length y) 0

  module _ {z p₀ : List ℕ} (ready : Ready z (tables p₀)) where
    pub body_blank : BodyBlank c m g y
    body_blank =
        let a = ready.zero in
        record { cues = a.cues; times = a.times; segments = a.segments; texts = a.texts }

    pub cleared-as : {s' r' c' : List ℕ} {m' : List ℤ} {g' : List ℕ} {f' : List Float} {ex' y' : List ℕ} → HeadBlank s' r' f' ex'
        → BodyBlank c' m' g' y' → (p : List ℕ) → p ≡ replicate (length p) 0 → RestZero (lengths (tables p)) (rest h p s' r' c' m' g' f' ex' y')
    cleared-as a b p e = record {
      head = ready.zero.head;
      params = e;
      styles = a.styles;
      regions = a.regions;
      cues = b.cues;
      times = b.times;
      segments = b.segments;
      sizes = a.sizes;
      extras = a.extras;
      texts = b.texts;
    }

  module _ {t u z : List ℕ} {p₀ : List ℕ} (ready : Ready z (tables p₀)) {k : ℕ} (x : Elem t u z k) {e : found.Element}
      (row : e ≡ element_row t k) where
    abbrev children : Children t u z (k + 1) e.end
    children = record {
      own = x.own + length x.attrs;
      forest = x.content;
      holds = elem-inside x;
      rows = rw (elem-cells x row);
    }

    cleared : (p : List ℕ) → Cleared (lengths (tables p)) (four s r f ex)
    cleared p =
        let a = ready.zero in
        record { styles = a.styles; regions = a.regions; sizes = a.sizes; extras = a.extras }

    pub head_asks : AsksHead t u z (k + 1) e.end (four s r f ex)
    head_asks =
        let a = ready.long in
        record {
          small = omega (arith, ready.short);
          long_styles = a.styles;
          long_regions = a.regions;
          long_sizes = a.sizes;
          long_extras = a.extras;
          lengths = lengths (tables p₀);
          cleared = cleared p₀;
          children = children;
          room = omega (arith, x.few);
        }

    module _ (s' r' : List ℕ) (f' : List Float) (ex' : List ℕ) where
      abbrev Heads_said : Result Heads Refusal → Type 0
      Heads_said w = HeadPost inside_head in_head_of t u z (k + 1) e.end (four s r f ex) (four s' r' f' ex') w

      pub heads_no : (q : Refusal) → Heads_said (Err q) → (params : List (Param Placed)) (ctx : TimingCtx)
          → content_means params ctx (element_in x) ≡ turned q
      heads_no q w params ctx = head_stops (inside_head (nodes_in z x.content)) _ q (w (lengths (tables p₀)) (cleared p₀) children)

      module _ (hd : Heads) (w : Heads_said (Ok hd)) (same_extras : length ex' ≡ length ex) where
        headed : (p : List ℕ)
            → Headed (lengths (tables p)) (inside_head (nodes_in z x.content)) (in_head_of z x.content) (four s' r' f' ex') hd
        headed p = w (lengths (tables p)) (cleared p) children

        -- ---- its body
        abbrev base : List ℕ → Base
        base p = head_base (lengths (tables p)) (headed p).styles (headed p).regions

        abbrev lent : CueTables
        lent = five c m g ex' y

        spacious : Spacious z lent
        spacious =
            let a = ready.long in
            record {
              roomy = record {
                wide = a.segments;
                texts = omega (arith, ready.short, a.texts);
                small = omega (arith, ready.short);
              };
              cues = a.cues;
              times = a.times;
              extras = omega (arith, same_extras, a.extras);
            }

        none_yet : (p : List ℕ) → Lined (base p) 0 [] (no_line hd.extras) lent
        none_yet p =
            let a = ready.zero in
            let b : Blank (base p) lent = record {
              cues = a.cues;
              times = a.times;
              segments = a.segments;
              extras = (headed p).in_extras;
              texts = a.texts;
            } in
            subst (λ (n : ℕ). Lined (base p) 0 [] (no_line n) lent) (sym (headed p).kept) (lined_none b)

        abbrev bodies : (p : List ℕ) → Bodies (base p) (length z) t u z (k + 1) e.end hd.extras lent
        bodies p =
            record {
              own = x.own + length x.attrs;
              forest = x.content;
              holds = elem-inside x;
              size = rw (elem-cells x row);
              placed = elem-order x;
              within = omega (arith, ready.short, ready.long.texts);
              standing = none_yet p;
              room = omega (arith, head_body z x.content, (headed p).within, x.few);
            }

        pub body_asks : AsksBody t u z (k + 1) e.end hd.extras lent
        body_asks = record { spacious = spacious; base = base p₀; limit = length z; bodies = bodies p₀ }

        abbrev attrs : List (Attr Placed)
        attrs = attrs_in z x.attrs

        module _ (ctx : TimingCtx) (ws : WsMode) (mode : space_in ws ≡ space_of with_places collapse attrs) (after : CueTables) where
          abbrev Body_said : Result Line Refusal → Type 0
          Body_said a = BodyPost t u z (k + 1) e.end ctx ws hd.extras lent after a

          -- what its body means
          abbrev meant : Answer (List (Cue Placed))
          meant = body_of with_places ctx (space_of with_places collapse attrs) (first_element with_places (ascii "body") (nodes_in z x.content))

          as_read : body_of with_places ctx (space_in ws) (first_element with_places (ascii "body") (nodes_in z x.content)) ≡ meant
          as_read = rw mode

          pub body_no : (q : Refusal) → Body_said (Err q) → (params : List (Param Placed))
              → content_means params ctx (element_in x) ≡ turned q
          body_no q b params =
              rw ((headed p₀).means_styles, (headed p₀).means_regions, sym as_read ∙ b (base p₀) (length z) (bodies p₀))

          module _ (line : Line) (b : Body_said (Ok line)) where
            bodied : (p : List ℕ) → Bodied (base p) (length z) after
                (body_of with_places ctx (space_in ws) (first_element with_places (ascii "body") (nodes_in z x.content))) line
            bodied p = b (base p) (length z) (bodies p)

            pub whole-asks : (count : ℕ) → count ≤ 64 → HeadAsks z count hd line h
            whole-asks count few =
                let a = headed p₀ in
                let n = (bodied p₀).standing in
                record {
                  short = ready.short;
                  few = few;
                  few_styles = omega (arith, a.count_styles, a.few_styles);
                  few_regions = omega (arith, a.count_regions, a.few_regions);
                  few_cues = omega (arith, n.many, n.few_cues);
                  few_rows = omega (arith, n.made, n.few_rows);
                  in_head = ready.long.head;
                }

            pub content_laid : (p : List ℕ) (params : List (Param Placed)) {count : ℕ} {h' : List ℕ} → length params ≡ count
                → HeadPut z count hd line attrs h h'
                → ContentLaid (content_means params ctx (element_in x)) params z (tables p) (rest h' p s' r' after.cues after.times
                after.segments f' after.extras after.texts)
            content_laid p params many put =
                let a = headed p in
                let b = bodied p in
                let n : Counts params a.styles a.regions b.cues _ hd line = record {
                  many_params = many;
                  many_styles = a.count_styles;
                  many_regions = a.count_regions;
                  many_cues = b.standing.many;
                  many_rows = b.standing.made;
                } in
                record {
                  track = track_of_parts attrs params a.styles a.regions b.cues;
                  means = rw (a.means_styles, a.means_regions, sym as_read ∙ b.means);
                  same = refl;
                  head = whole-filled params a.styles a.regions b.cues z attrs n ready.zero.head ready.long.head put;
                  styles = a.in_styles;
                  regions = a.in_regions;
                  sizes = a.in_sizes;
                  hi = b.hi;
                  line = line;
                  cues = b.standing;
                }

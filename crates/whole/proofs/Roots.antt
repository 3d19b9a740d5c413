-- tt: its parameters and its content make a track. Assumes nothing.
--     track_steps                           what it means, step by step
--     params_full, rates_no                 as far as it is read
--     many_params, few_params, tt-laid      its content with its parameters
--     tt-no, params_cleared                 a number, and its parameters cleared
--     root_no, root_is, track_as            the first tt
use Rattle.std.specs.Prelude as rust
use Rattle.std.specs.Prelude.{Some, None, Result, Ok, Err, ⊤}
use Prim.Native.Nat.{ℕ, ◌≤◌}
use mathlib.Core.Path.{◌≡◌, refl, sym, ap, subst, ◌∙◌}
use mathlib.Core.List.{List, [], ◌∷◌}
use mathlib.Core.Option.{Option}
use native.Mathlib.Omega.{arith}
use lib.IntN.{ℤ}
use lib.Ieee.{Float}
use lib.ListN.{length, replicate}
use borrow.Author.Tests.{le-leb, lt-leb}
use Rattle.times.specs.declared.offset.TimingCtx.{TimingCtx}
use Rattle.tree.specs.declared.answers.Refusal.{Refusal}
use Rattle.track.specs.Track.{Param, Track}
use Rattle.track.specs.Tables.{Tables, Lengths, lengths}
use Rattle.track.specs.Layout.{each, filled, filled_sizes, joined_cells, head_cells, param_cells, style_cells, region_cells, style_size}
use Rattle.records.proofs.RowLaws.{joined_length, param_wide}
use Rattle.records.proofs.Beside.{each-length}
use Rattle.xml.specs.declared.find.Element as found
use Rattle.xml.specs.Find.{OfSiblings, element_row, find_row}
use Rattle.xml.specs.Reading.{Placed}
use Rattle.meaning.specs.Answers.{Answer, is, refused, ◌>>=◌, within}
use Rattle.meaning.specs.Words.{ascii}
use Rattle.meaning.specs.Nodes.{Attr, Element}
use Rattle.meaning.specs.Kinds.{with_places, attrs_in, nodes_in}
use Rattle.meaning.specs.Meaning.{params_of, rate_of, timing, track_in, track_of}
use Rattle.laid.specs.Laid.{laid_param, laid_of, laid_styles, laid_regions, texts_of, style_extras, whole}
use Rattle.styling.specs.Posts.{OfRows, turned}
use Rattle.params.specs.Named.{timing_said, timing_of}
use Rattle.params.specs.Rows.{placed_params, Collects}
use Rattle.promised.proofs.Promises.{RestZero, RestLaid}
use Rattle.cues.specs.Elements.{Tree, Elem, element_in}
use Rattle.cues.specs.Steps.{Lined}
use Rattle.cues.specs.declared.lines.Line.{Line}
use Rattle.cues.proofs.Blanks.{filled-from}
use Rattle.cues.proofs.Elements.{elem-cells, elem-owned, elem-none, elem-found}
use Rattle.blank.specs.Steps.{rest}
use Rattle.whole.specs.Steps.{in_cues, head_base, Ready, Outcome, content_means, ContentOutcome}

-- the tables of a track from those of its head and of its cues
rest-laid : (n : Lengths) (m : ℕ) (t : Track Placed) {T : Tables} {hi : ℕ} {line : Line} → T.head ≡ filled n.head (head_cells (laid_of t) m m)
    → T.params ≡ filled n.params (joined_cells param_cells (laid_of t).params)
    → T.styles ≡ filled n.styles (joined_cells (λ x. style_cells x.style) (laid_styles 0 t.styles))
    → T.regions ≡ filled n.regions (joined_cells (λ x. region_cells x.region) (laid_regions (style_extras t.styles) t.regions))
    → T.sizes ≡ filled_sizes n.sizes (each style_size (laid_styles 0 t.styles))
    → Lined (head_base n t.styles t.regions) hi t.cues line (in_cues T) → RestLaid n m t T
unfolding laid_of texts_of
rest-laid n m t h p s r f l = record {
  head = h;
  params = p;
  styles = s;
  regions = r;
  cues = l.in-cues;
  times = l.in_times;
  segments = l.in_cells;
  sizes = f;
  extras = l.in_extras;
  texts = l.in_texts;
}

-- ---- what it means, step by step

abbrev limited : (at : ℕ) → List (Attr Placed) → Answer (List (Param Placed))
limited at l = within 64 (length (params_of with_places l)) at (params_of with_places l)

by_rates : {A B : Type 0} (m : Answer A) (a b : Answer (Option Float)) (go : A → TimingCtx → Answer B)
    → (m >>= λ params. a >>= λ frame. b >>= λ tick. go params (timing frame tick))
    ≡ (m >>= λ params. (a >>= λ frame. b >>= λ tick. is (timing frame tick)) >>= λ ctx. go params ctx)
by_rates (is params) (is frame) (is tick) go = refl
by_rates (is params) (is frame) (refused i q) go = refl
by_rates (is params) (refused i q) b go = refl
by_rates (refused i q) a b go = refl

pub track_steps : (tt : Element Placed) → track_in with_places tt
    ≡ (limited tt.at tt.attrs >>= λ params. timing_of tt.attrs >>= λ ctx. content_means params ctx tt)
unfolding track_in
track_steps tt =
    by_rates (limited tt.at tt.attrs) (rate_of with_places (ascii "frameRate") tt.attrs) (rate_of with_places (ascii "tickRate") tt.attrs)
    (λ params ctx. content_means params ctx tt)

-- ---- its parameters

params_cells : (l : List (Param Placed)) → placed_params l ≡ joined_cells param_cells (each laid_param l)
unfolding placed_params joined_cells param_cells each laid_param
params_cells [] = refl
params_cells (x ∷ l) = rw (params_cells l)

params_laid : (l : List (Param Placed)) (p p' : List ℕ) (n : ℕ) → Collects l p p' (Some n) → p ≡ replicate (length p) 0 → 256 ≤ length p
    → p' ≡ filled (length p) (joined_cells param_cells (each laid_param l))
params_laid l p p' n c blank long =
    let k = joined_length param_cells 4 param_wide (each laid_param l) in
    let j = each-length laid_param l in
    filled-from (length p) blank (params_cells l) (omega (arith, k, j, c.0, c.1, long)) c.2

-- they are cleared, and all else is blank
pub params_cleared : {n : Lengths} {h p s r c : List ℕ} {m : List ℤ} {g : List ℕ} {f : List Float} {e y : List ℕ}
    → RestZero n (rest h p s r c m g f e y) → {p' : List ℕ} → p' ≡ replicate n.params 0 → RestZero n (rest h p' s r c m g f e y)
params_cleared z b = record {
  head = z.head;
  params = b;
  styles = z.styles;
  regions = z.regions;
  cues = z.cues;
  times = z.times;
  segments = z.segments;
  sizes = z.sizes;
  extras = z.extras;
  texts = z.texts;
}

module _ {t u z : List ℕ} {k : ℕ} (x : Elem t u z k) {e : found.Element} (row : e ≡ element_row t k) where
  abbrev attrs : List (Attr Placed)
  attrs = attrs_in z x.attrs

  abbrev Collected : (p p' : List ℕ) → rust.Option ℕ → Type 0
  Collected p p' a = OfRows u z e.first e.many (λ l. Collects (params_of with_places l) p p' a)

  abbrev Timed : Result TimingCtx Refusal → Type 0
  Timed r = OfRows u z e.first e.many (λ l. timing_said r ≡ timing_of l)

  place_is : e.place ≡ x.place
  place_is = ap (λ (w : found.Element). w.place) (elem-cells x row)

  -- there are too many
  pub params_full : (p p' : List ℕ) → Collected p p' None → track_in with_places (element_in x) ≡ refused 13 e.place
  params_full p p' o =
      let c = o x.attrs (elem-owned x row) in
      track_steps (element_in x) ∙ (rw (lt-leb (length (params_of with_places attrs)) 64 c.0, place_is))

  module _ (p p' : List ℕ) (n : ℕ) (o : Collected p p' (Some n)) where
    collected : Collects (params_of with_places attrs) p p' (Some n)
    collected = o x.attrs (elem-owned x row)

    pub many_params : length (params_of with_places attrs) ≡ n
    many_params = sym collected.0

    pub few_params : n ≤ 64
    few_params = collected.1

    after-params : track_in with_places (element_in x) ≡ (timing_of attrs >>= λ ctx. content_means (params_of with_places attrs) ctx (element_in x))
    after-params =
        track_steps (element_in x) ∙ (rw (le-leb (length (params_of with_places attrs)) 64 (omega (arith, many_params, few_params))))

    -- a rate is refused
    pub rates_no : (q : Refusal) → Timed (Err q) → track_in with_places (element_in x) ≡ turned q
    rates_no q r = after-params ∙ (rw (← (r x.attrs (elem-owned x row))))

    module _ (ctx : TimingCtx) (r : Timed (Ok ctx)) where
      content-means : track_in with_places (element_in x) ≡ content_means (params_of with_places attrs) ctx (element_in x)
      content-means = after-params ∙ (rw (← (r x.attrs (elem-owned x row))))

      -- ---- with its content
      module _ (h s q c : List ℕ) (m : List ℤ) (g : List ℕ) (f : List Float) (ex y : List ℕ) (ready : Ready z (rest h p s q c m g f ex y))
          (h' s' q' c' : List ℕ) (m' : List ℤ) (g' : List ℕ) (f' : List Float) (ex' y' : List ℕ) where
        abbrev before : Tables
        before = rest h p s q c m g f ex y

        abbrev Read : Result ⊤ Refusal → Type 0
        Read a =
            ContentOutcome (content_means (params_of with_places attrs) ctx (element_in x)) (params_of with_places attrs) z before
            (rest h' p s' q' c' m' g' f' ex' y') a

        pub tt-laid : Read (Ok tt)
            → Outcome (track_in with_places (element_in x)) z before (rest h' p' s' q' c' m' g' f' ex' y') (Ok tt)
        unfolding laid_of
        tt-laid w =
            let params = params_laid (params_of with_places attrs) p p' n collected ready.zero.params ready.long.params in
            record {
              track = w.track;
              means = content-means ∙ w.means;
              laid = rest-laid (lengths before) (length z) w.track w.head (rw w.same params) w.styles w.regions w.sizes w.cues;
            }

        pub tt-no : (i : Refusal) → Read (Err i) → {p'' : List ℕ} → p'' ≡ replicate (length p) 0
            → Outcome (track_in with_places (element_in x)) z before (rest h' p'' s' q' c' m' g' f' ex' y') (Err i)
        tt-no i w e = (content-means ∙ w.0, params_cleared (w.1 ready.zero.params) e)

-- ---- the first tt

module _ {t u z : List ℕ} {n : ℕ} (x : Tree t u z n) {r : rust.Option ℕ} (o : OfSiblings t 0 n (λ f. r ≡ find_row z (ascii "tt") 0 f)) where
  pub root_no : r ≡ None → whole (nodes_in z x.forest) ≡ refused 12 0
  unfolding track_of
  root_no e = rw (elem-none x (ascii "tt") o e)

  pub root_is : {k : ℕ} (e : r ≡ Some k)
      → whole (nodes_in z x.forest) ≡ track_in with_places (element_in (elem-found x (ascii "tt") o e).element)
  unfolding track_of
  root_is e = rw (elem-found x (ascii "tt") o e).is

pub track_as : {m n : Answer (Track Placed)} (z : List ℕ) (T T' : Tables) (r : Result ⊤ Refusal) → m ≡ n → Outcome n z T T' r → Outcome m z T T' r
track_as z T T' r e o = subst (λ (v : Answer (Track Placed)). Outcome v z T T' r) (sym e) o

-- The first styling, layout and head: what is read of its content is what its siblings mean. Assumes nothing.
--     found_first, first-row                           the element that `find_element` answers
--     styles_inside, styles_found, styles_nothing      the first styling
--     regions_inside, regions_found, regions_nothing   the first layout
--     head_inside, head_found, head_nothing            the first head
use Rattle.std.specs.Prelude.{Option, Some, None, Result, Ok, Err}
use Prim.Native.Nat.{ℕ, ◌+◌, ◌*◌, ◌≤◌}
use mathlib.Core.Path.{◌≡◌, refl, sym, ap, ◌∙◌, subst}
use mathlib.Core.List.{List, []}
use native.Mathlib.Omega.{arith}
use lib.ListN.{length}
use lib.Ieee.{Float}
use Rattle.tree.specs.Trees.{Forest}
use Rattle.track.specs.Tables.{Lengths}
use Rattle.track.specs.Layout as placing
use Rattle.xml.specs.declared.find.Element.{Element}
use Rattle.xml.specs.Find.{OfSiblings, find_row, element_row}
use Rattle.xml.proofs.FindLaws.{holds_elem}
use Rattle.meaning.specs.Answers.{Answer, is}
use Rattle.meaning.specs.Words.{ascii}
use Rattle.meaning.specs.Nodes.{Nodes, nil, first_element}
use Rattle.meaning.specs.Kinds.{with_places, nodes_in}
use Rattle.meaning.specs.Meaning.{content_from, inside, listed}
use Rattle.xml.specs.Reading.{Placed}
use Rattle.extras.specs.Counts.{attrs_named}
use Rattle.extras.proofs.Counts.{First, first_found, first-nothing, attrs-few}
use Rattle.laid.specs.Laid.{laid_styles, laid_regions, total}
use Rattle.heads.specs.Steps.{Children, in_all, in_styling, in_layout, in_head_of, Outcome}
use Rattle.heads.specs.Steps.{extras_of_style, listed_styles, styles_in, StylesStand, AsksStyles, StylesPost}
use Rattle.heads.specs.Steps.{extras_of_region, listed_regions, regions_in, RegionsStand, AsksRegions, RegionsPost}
use Rattle.heads.specs.Steps.{alone, inside_head, AsksHead, HeadTables, HeadOutcome, HeadPost}
use Rattle.heads.proofs.Standing.{styles_none, regions_none}
use Rattle.tree.specs.declared.answers.Refusal.{Refusal}
use Rattle.heads.specs.declared.collect.Count.{Count}
use Rattle.heads.specs.declared.collect.Heads.{Heads}

-- ---- what `find_element` answers
abbrev Finds : (t z name : List ℕ) (from end : ℕ) → Option ℕ → Type 0
Finds t z name from end r = OfSiblings t from end (λ f. r ≡ find_row z name from f)

module _ {t u z : List ℕ} {from end : ℕ} (name : List ℕ) (x : Children t u z from end) where
  pub found_first : (k : ℕ) → Finds t z name from end (Some k) → First t u z name from x.forest k
  found_first k w = first_found x.forest x.holds (sym (w x.own x.forest x.holds.stands x.rows))

  inside-nothing : Finds t z name from end None → inside with_places name (nodes_in z x.forest) ≡ nil
  unfolding inside
  inside-nothing w = ap content_from (first-nothing z name from x.forest (sym (w x.own x.forest x.holds.stands x.rows)))

module _ {t u z name : List ℕ} {from : ℕ} {f : Forest} {k : ℕ} (y : First t u z name from f k) where
  pub first-row : k * 6 + 6 ≤ length t
  first-row = (holds_elem y.holds).room

  first-inside : inside with_places name (nodes_in z f) ≡ nodes_in z y.content
  unfolding inside
  first-inside = ap content_from y.is

  abbrev first-children : (e : Element) → e ≡ element_row t k → Children t u z (k + 1) e.end
  first-children e row = record {
    own = y.first + length y.attrs;
    forest = y.content;
    holds = (holds_elem y.holds).inside;
    rows = sym (ap (λ (v : Element). v.end) (row ∙ (holds_elem y.holds).cells));
  }

  first-few : in_all z y.content ≤ attrs_named z name f
  first-few = omega (arith, y.many)

-- ---- lists
module _ {A : Type 0} (extras : A → ℕ) (rows : ℕ) (Standing : List A → Type 0) where
  -- the same, of more attributes
  outcome_more : (m m' : Answer (List A)) (many many' : ℕ) → m' ≡ m → many ≤ many' → (r : Result Count Refusal) → Outcome extras m rows many Standing r
      → Outcome extras m' rows many' Standing r
  outcome_more m m' many many' e h (Ok r) o = record {
    all = o.all;
    means = e ∙ o.means;
    count = o.count;
    few = o.few;
    kept = o.kept;
    within = omega (arith, o.within);
    standing = o.standing;
  }
  outcome_more m m' many many' e h (Err q) o = e ∙ o

  outcome_none : (m : Answer (List A)) (many : ℕ) → m ≡ is [] → Standing []
      → Outcome extras m rows many Standing (Ok (record { rows = 0; extras = rows }))
  unfolding total
  outcome_none m many e s = record {
    all = [];
    means = e;
    count = refl;
    few = omega arith;
    kept = omega arith;
    within = omega arith;
    standing = s;
  }

-- ---- the first styling
module _ {t u z : List ℕ} {from end : ℕ} {s : List ℕ} {f : List Float} {e : List ℕ} where
  pub styles_inside : (a : AsksStyles in_styling t u z from end s f e) (k : ℕ) (v : Element) → v ≡ element_row t k
      → Finds t z (ascii "styling") from end (Some k) → AsksStyles in_all t u z (k + 1) v.end s f e
  styles_inside a k v row w =
      let y = found_first (ascii "styling") a.children k w in
      record {
        small = a.small;
        long_styles = a.long_styles;
        long_sizes = a.long_sizes;
        long_extras = a.long_extras;
        lengths = a.lengths;
        none = a.none;
        children = first-children y v row;
        room = omega (arith, first-few y, a.room);
      }

  module _ (s' : List ℕ) (f' : List Float) (e' : List ℕ) where
    pub styles_found : (k : ℕ) (v : Element) → v ≡ element_row t k → Finds t z (ascii "styling") from end (Some k) → (r : Result Count Refusal)
        → StylesPost listed_styles in_all t u z (k + 1) v.end s s' f f' e e' r → StylesPost styles_in in_styling t u z from end s s' f f' e e' r
    styles_found k v row w r p n st x =
        let y = found_first (ascii "styling") x k w in
        outcome_more extras_of_style 0 (λ l. StylesStand n e l s' f' e') _ _ _ _ (ap listed_styles (first-inside y)) (first-few y) r
        (p n st (first-children y v row))

  pub styles_nothing : Finds t z (ascii "styling") from end None
      → StylesPost styles_in in_styling t u z from end s s f f e e (Ok (record { rows = 0; extras = 0 }))
  unfolding listed
  styles_nothing w n st x =
      outcome_none extras_of_style 0 (λ l. StylesStand n e l s f e) _ _ (ap listed_styles (inside-nothing (ascii "styling") x w)) st

-- ---- the first layout
module _ {t u z : List ℕ} {from end rows : ℕ} {s e : List ℕ} where
  pub regions_inside : (a : AsksRegions in_layout t u z from end rows s e) (k : ℕ) (v : Element) → v ≡ element_row t k
      → Finds t z (ascii "layout") from end (Some k) → AsksRegions in_all t u z (k + 1) v.end rows s e
  regions_inside a k v row w =
      let y = found_first (ascii "layout") a.children k w in
      record {
        small = a.small;
        long_regions = a.long_regions;
        long_extras = a.long_extras;
        lengths = a.lengths;
        none = a.none;
        children = first-children y v row;
        room = omega (arith, first-few y, a.room);
      }

  module _ (s' e' : List ℕ) where
    pub regions_found : (k : ℕ) (v : Element) → v ≡ element_row t k → Finds t z (ascii "layout") from end (Some k) → (r : Result Count Refusal)
        → RegionsPost listed_regions in_all t u z (k + 1) v.end rows s s' e e' r → RegionsPost regions_in in_layout t u z from end rows s s' e e' r
    regions_found k v row w r p n st x =
        let y = found_first (ascii "layout") x k w in
        outcome_more extras_of_region rows (λ l. RegionsStand n rows e l s' e') _ _ _ _ (ap listed_regions (first-inside y)) (first-few y) r
        (p n st (first-children y v row))

  pub regions_nothing : Finds t z (ascii "layout") from end None
      → RegionsPost regions_in in_layout t u z from end rows s s e e (Ok (record { rows = 0; extras = rows }))
  unfolding listed
  regions_nothing w n st x =
      outcome_none extras_of_region rows (λ l. RegionsStand n rows e l s e) _ _ (ap listed_regions (inside-nothing (ascii "layout") x w)) st

-- ---- the first head
headed_more : (n : Lengths) (g : Nodes Placed) (T : HeadTables) (many many' : ℕ) → many ≤ many' → (r : Result Heads Refusal) → HeadOutcome n g many T r
    → HeadOutcome n g many' T r
headed_more n g T many many' h (Ok r) y = record {
  styles = y.styles;
  regions = y.regions;
  means_styles = y.means_styles;
  means_regions = y.means_regions;
  count_styles = y.count_styles;
  count_regions = y.count_regions;
  few_styles = y.few_styles;
  few_regions = y.few_regions;
  kept = y.kept;
  within = omega (arith, y.within);
  in_styles = y.in_styles;
  in_regions = y.in_regions;
  in_sizes = y.in_sizes;
  in_extras = y.in_extras;
}
headed_more n g T many many' h (Err q) y = y

module _ {t u z : List ℕ} {from end : ℕ} {T : HeadTables} where
  pub head_inside : (a : AsksHead t u z from end T) (k : ℕ) (v : Element) → v ≡ element_row t k → Finds t z (ascii "head") from end (Some k)
      → AsksHead t u z (k + 1) v.end T
  head_inside a k v row w =
      let y = found_first (ascii "head") a.children k w in
      record {
        small = a.small;
        long_styles = a.long_styles;
        long_regions = a.long_regions;
        long_sizes = a.long_sizes;
        long_extras = a.long_extras;
        lengths = a.lengths;
        cleared = a.cleared;
        children = first-children y v row;
        room = omega (arith, first-few y, attrs-few z (ascii "head") a.children.forest, a.room);
      }

  pub head_found : (T' : HeadTables) (k : ℕ) (v : Element) → v ≡ element_row t k → Finds t z (ascii "head") from end (Some k) → (r : Result Heads Refusal)
      → HeadPost alone in_all t u z (k + 1) v.end T T' r → HeadPost inside_head in_head_of t u z from end T T' r
  head_found T' k v row w r p n c x =
      let y = found_first (ascii "head") x k w in
      subst (λ (g : Nodes Placed). HeadOutcome n g (in_head_of z x.forest) T' r) (sym (first-inside y))
      (headed_more n (nodes_in z y.content) T' (in_all z y.content) (in_head_of z x.forest) (first-few y) r (p n c (first-children y v row)))

  -- without a head
  pub head_nothing : Finds t z (ascii "head") from end None
      → HeadPost inside_head in_head_of t u z from end T T (Ok (record { styles = 0; regions = 0; extras = 0 }))
  unfolding inside first_element listed total laid_regions placing.region_extras
  head_nothing w n c x =
      let no : StylesStand n T.extras [] T.styles T.sizes T.extras = styles_none c.styles c.sizes in
      let none : RegionsStand n 0 T.extras [] T.regions T.extras = regions_none c.regions in
      subst (λ (g : Nodes Placed). HeadOutcome n g (in_head_of z x.forest) T (Ok (record { styles = 0; regions = 0; extras = 0 })))
      (sym (inside-nothing (ascii "head") x w)) (record {
        styles = [];
        regions = [];
        means_styles = refl;
        means_regions = refl;
        count_styles = refl;
        count_regions = refl;
        few_styles = omega arith;
        few_regions = omega arith;
        kept = refl;
        within = omega arith;
        in_styles = no.in_styles;
        in_regions = none.in_regions;
        in_sizes = no.in_sizes;
        in_extras = no.in_extras ∙ ap (λ b. placing.style_extras b (laid_styles 0 [])) c.extras;
      })

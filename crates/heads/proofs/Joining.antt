-- The styles and the regions of a head, together what its content means. Assumes nothing.
--     head_stops                                  a head that is refused, in `track_in`
--     apart_of                                    an element has one name
--     asks_styles, asks_regions                   what is asked of the one and then of the other
--     head_styles, head_regions, head_both        the answer
use Rattle.std.specs.Prelude.{Ok, Err}
use Prim.Native.Nat.{ℕ, ◌+◌, ◌≤◌}
use mathlib.Core.Path.{◌≡◌, refl, sym, ap, ◌∙◌}
use mathlib.Core.Bool.{true, false, true≢false}
use mathlib.Core.List.{List, []}
use native.Mathlib.Omega.{arith}
use lib.ListN.{length}
use lib.Ieee.{Float}
use Rattle.scan.specs.Names.{lower, same_folded, after_last_colon}
use Rattle.scan.proofs.Naming.{same_folded-sym}
use Rattle.names.proofs.Entries.{not_so, folded_trans}
use Rattle.tree.specs.declared.answers.Refusal.{Refusal}
use Rattle.tree.specs.Trees.{Forest}
use Rattle.track.specs.Track.{Style, Region}
use Rattle.track.specs.Tables.{Lengths}
use Rattle.track.specs.Layout.{filled, joined_cells, region_cells}
use Rattle.track.specs.Layout as placing
use Rattle.xml.specs.Find.{named}
use Rattle.xml.specs.Reading.{Placed}
use Rattle.meaning.specs.Answers.{Answer, is, refused, ◌>>=◌}
use Rattle.meaning.specs.Words.{ascii}
use Rattle.meaning.specs.Nodes.{Nodes}
use Rattle.meaning.specs.Kinds.{nodes_in}
use Rattle.laid.specs.Laid.{laid_styles, laid_regions, style_extras}
use Rattle.styling.specs.Posts.{turned}
use Rattle.extras.proofs.Counts.{attrs-few, attrs-apart}
use Rattle.heads.specs.declared.collect.Count.{Count}
use Rattle.heads.specs.Steps.{in_all, in_styling, in_layout, styles_in, StylesStand, AsksStyles, StylesPost}
use Rattle.heads.specs.Steps.{regions_in, AsksRegions, RegionsPost, alone, paired, head_of, four, Cleared, AsksHead, HeadPost}
use Rattle.heads.proofs.Standing.{styles_none, regions_none}

-- ---- one answer after the other
stops : {A B : Type 0} (a : Answer A) (go : A → Answer B) (q : Refusal) → a ≡ turned q → (a >>= go) ≡ turned q
stops a go q e = ap (λ v. v >>= go) e

goes : {A B : Type 0} (a : Answer A) (go : A → Answer B) (x : A) → a ≡ is x → (a >>= go) ≡ go x
goes a go x e = ap (λ v. v >>= go) e

-- two of which one is refused, whatever is done with both
either_stops : {A B C : Type 0} (a : Answer A) (b : Answer B) (go : A → B → Answer C) (q : Refusal) → paired a b ≡ turned q
    → (a >>= λ x. b >>= go x) ≡ turned q
either_stops (refused n p) b go q e = let i : n ≡ q.number = cc in let j : p ≡ q.place = cc in rw (i, j)
either_stops (is x) (refused n p) go q e = let i : n ≡ q.number = cc in let j : p ≡ q.place = cc in rw (i, j)
either_stops (is x) (is y) go q e = absurd (let z : ◌≡◌ {A = ℕ} 0 1 = cc in omega arith)

-- what comes after the head in `track_in`
pub head_stops : {C : Type 0} (f : Nodes Placed) (go : List (Style Placed) → List (Region Placed) → Answer C) (q : Refusal) → head_of f ≡ turned q
    → (styles_in f >>= λ ss. regions_in f >>= go ss) ≡ turned q
head_stops f go q e = either_stops (styles_in f) (regions_in f) go q e

-- ---- an element has one name
pub apart_of : (a b : List ℕ) → same_folded a b ≡ false → (n : List ℕ) → named a n ≡ true → named b n ≡ false
unfolding named
apart_of a b d n e =
    let x = after_last_colon n in
    not_so (same_folded x b) (λ g. true≢false (sym (folded_trans a x b (same_folded-sym x a e) g) ∙ d))

styling_layout : (z : List ℕ) (f : Forest) → in_styling z f + in_layout z f ≤ in_all z f
unfolding same_folded lower
styling_layout z f = attrs-apart z (ascii "styling") (ascii "layout") (apart_of (ascii "styling") (ascii "layout") refl) f

module _ {t u z : List ℕ} {from end : ℕ} {s r : List ℕ} {f : List Float} {e : List ℕ} (a : AsksHead t u z from end (four s r f e)) where
  -- nothing stands in the tables
  no_styles : (n : Lengths) → Cleared n (four s r f e) → StylesStand n e [] s f e
  no_styles n c = styles_none c.styles c.sizes

  pub asks_styles : AsksStyles in_styling t u z from end s f e
  asks_styles = record {
    small = a.small;
    long_styles = a.long_styles;
    long_sizes = a.long_sizes;
    long_extras = a.long_extras;
    lengths = a.lengths;
    none = no_styles a.lengths a.cleared;
    children = a.children;
    room = omega (arith, attrs-few z (ascii "styling") a.children.forest, a.room);
  }

  -- the styles are refused: nothing is said of the tables
  pub head_styles : (q : Refusal) → StylesPost styles_in in_styling t u z from end s s f f e e (Err q)
      → HeadPost alone in_all t u z from end (four s r f e) (four s r f e) (Err q)
  head_styles q p n c x = stops (styles_in (nodes_in z x.forest)) _ q (p n (no_styles n c) x)

  module _ {s' : List ℕ} {f' : List Float} {e' : List ℕ} (c : Count)
      (p : StylesPost styles_in in_styling t u z from end s s' f f' e e' (Ok c)) where
    pub asks_regions : length e' ≡ length e → AsksRegions in_layout t u z from end c.extras r e'
    asks_regions h =
        let x = p a.lengths (no_styles a.lengths a.cleared) a.children in
        record {
          small = a.small;
          long_regions = a.long_regions;
          long_extras = omega (arith, a.long_extras, h);
          lengths = a.lengths;
          none = regions_none a.cleared.regions;
          children = a.children;
          room = omega (arith, styling_layout z a.children.forest, x.within, a.room);
        }

    -- the regions are refused
    pub head_regions : (q : Refusal) → RegionsPost regions_in in_layout t u z from end c.extras r r e' e' (Err q)
        → HeadPost alone in_all t u z from end (four s r f e) (four s r f e) (Err q)
    head_regions q w n k x =
        let y = p n (no_styles n k) x in
        let g = nodes_in z x.forest in
        let both : List (Style Placed) → Answer (List (Style Placed) × List (Region Placed)) = λ ss. regions_in g >>= λ rs. is (ss, rs) in
        goes (styles_in g) both y.all y.means ∙ stops (regions_in g) (λ rs. is (y.all, rs)) q (w n (regions_none k.regions) x)

    pub head_both : (r' e'' : List ℕ) (d : Count) → RegionsPost regions_in in_layout t u z from end c.extras r r' e' e'' (Ok d)
        → HeadPost alone in_all t u z from end (four s r f e) (four s' r' f' e'')
        (Ok (record { styles = c.rows; regions = d.rows; extras = d.extras }))
    head_both r' e'' d w n k x =
        let y = p n (no_styles n k) x in
        let v = w n (regions_none k.regions) x in
        let rows : c.extras ≡ style_extras y.all = omega (arith, y.kept) in
        let start = ap (λ (b : List ℕ). placing.style_extras b (laid_styles 0 y.all)) k.extras in
        record {
          styles = y.all;
          regions = v.all;
          means_styles = y.means;
          means_regions = v.means;
          count_styles = y.count;
          count_regions = v.count;
          few_styles = y.few;
          few_regions = v.few;
          kept = omega (arith, y.kept, v.kept);
          within = omega (arith, y.within, v.within, styling_layout z x.forest);
          in_styles = y.standing.in_styles;
          in_regions =
              v.standing.in_regions
              ∙ ap (λ (i : ℕ). filled n.regions (joined_cells (λ b. region_cells b.region) (laid_regions i v.all))) rows;
          in_sizes = y.standing.in_sizes;
          in_extras =
              v.standing.in_extras
              ∙ ap (λ (i : ℕ). placing.region_extras e' (laid_regions i v.all)) rows
              ∙ ap (λ (b : List ℕ). placing.region_extras b (laid_regions (style_extras y.all) v.all)) (y.standing.in_extras ∙ start);
        }

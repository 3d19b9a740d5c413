-- What `build_style` and `build_region` ensure is one turn of the loops over styles and regions. Assumes nothing.
--     style_turn, region_turn
use Rattle.std.specs.Prelude.{Option, Some, None, Result, Ok, Err}
use Prim.Native.Nat.{ℕ, ◌+◌, ◌≤◌}
use mathlib.Core.Path.{◌≡◌}
use mathlib.Core.List.{List}
use native.Mathlib.Omega.{arith}
use lib.ListN.{length}
use lib.Ieee.{Float}
use Rattle.names.specs.declared.tables.Listed.{Listed}
use Rattle.tree.specs.Trees as placed
use Rattle.track.specs.Track.{Style, Region}
use Rattle.track.specs.Tables.{Lengths}
use Rattle.xml.specs.Find.{Owned}
use Rattle.xml.specs.Reading.{Placed}
use Rattle.meaning.specs.Answers.{is, within}
use Rattle.meaning.specs.Words.{ascii}
use Rattle.meaning.specs.Nodes.{Attr}
use Rattle.meaning.specs.Kinds.{with_places, attrs_in}
use Rattle.meaning.specs.Styling.{style_of, region_of}
use Rattle.meaning.proofs.Within.{holds_is, any, bind, within-holds}
use Rattle.styling.specs.Posts.{look_answer}
use Rattle.extras.proofs.Keeping.{few_extras}
use Rattle.heads.specs.Rows.{style_of_look, style_within, StyleMade, region_with, region_within, RegionMade}
use Rattle.heads.specs.Steps.{extras_of_style, extras_of_region, StylesStand, RegionsStand}
use Rattle.heads.proofs.Cells.{style_is}
use Rattle.heads.proofs.Standing.{styles_grown, regions_grown}
use Rattle.heads.proofs.Turns.{within-limit, Turn}
use Rattle.tree.specs.declared.answers.Refusal.{Refusal}

-- ---- no more extras than attributes
module _ (u z : List ℕ) (first many : ℕ) (l : List placed.Attr) (y : Owned u z first many l) (id : Placed) (place n : ℕ) where
  abbrev its : List (Attr Placed)
  its = attrs_in z l

  few_style : (x : Style Placed) → style_within id its place n ≡ is x → length x.extras ≤ many
  few_style x e =
      let few : Style Placed → Type 0 = λ v. length v.extras ≤ many in
      let all = any few (look_answer its) (λ look. is (style_of_look id its look)) (λ look. holds_is few (style_of_look id its look)
      (few_extras Listed.StyleExtra y)) in
      let w = bind few few (style_of with_places id its) (λ s. within 256 (n + 1) place s) (rw (style_is id its) at all)
      (λ v h. within-holds few 256 (n + 1) place v (λ i. h)) in
      w.holds x e

  few_region : (x : Region Placed) → region_within id its place n ≡ is x → length x.extras ≤ many
  unfolding region_of
  few_region x e =
      let few : Region Placed → Type 0 = λ v. length v.extras ≤ many in
      let w = within-holds few 256 (n + 1) place (region_with id its) (λ i. few_extras Listed.RegionAttr y) in
      w.holds x e

-- ---- one turn
module _ {u z : List ℕ} {first many : ℕ} {l : List placed.Attr} (y : Owned u z first many l) (L : Lengths) (place n at : ℕ) where
  abbrev attrs : List (Attr Placed)
  attrs = attrs_in z l

  module _ (e₀ s s' : List ℕ) (f f' : List Float) (e e' : List ℕ) (a : 6912 ≤ length s) (b : 256 ≤ length f) where
    abbrev StyleTurn : Result (Option ℕ) Refusal → Type 0
    StyleTurn r =
        Turn (ascii "style") (style_of with_places) extras_of_style 0 n at (λ d. StylesStand L e₀ d s f e) (λ d. StylesStand L e₀ d s' f' e') many place
        attrs r

    pub style_turn : (r : Result (Option ℕ) Refusal) → StyleMade attrs place n at s s' f f' e e' r → StyleTurn r
    style_turn (Ok (Some m)) w =
        let x = w.2.0 in
        let made = w.2.1 in
        let few = within-limit (ascii "style") (style_of with_places) extras_of_style w.0 attrs place n x made in (
          w.0,
          w.1,
          (
            x,
            made,
            w.2.2.count,
            omega (arith, w.2.2.count, few_style u z first many l y w.0 place n x made),
            λ d len k st. styles_grown L e₀ d x at m s s' f f' e e' a b (omega (arith, len)) k st (rw len w.2.2),
          ),
        )
    style_turn (Ok None) w = (w.0, λ d st. rw (w.1, w.2, w.3) st)
    style_turn (Err q) w = (w.0, w.1, w.2.0)

  module _ (rows : ℕ) (e₀ s s' e e' : List ℕ) (a : 1024 ≤ length s) where
    abbrev RegionTurn : Result (Option ℕ) Refusal → Type 0
    RegionTurn r =
        Turn (ascii "region") (region_of with_places) extras_of_region rows n at (λ d. RegionsStand L rows e₀ d s e) (λ d. RegionsStand L rows e₀ d s' e')
        many place attrs r

    pub region_turn : (r : Result (Option ℕ) Refusal) → RegionMade attrs place n at s s' e e' r → RegionTurn r
    region_turn (Ok (Some m)) w =
        let x = w.2.0 in
        let made = w.2.1 in
        let few = within-limit (ascii "region") (region_of with_places) extras_of_region w.0 attrs place n x made in (
          w.0,
          w.1,
          (
            x,
            made,
            w.2.2.count,
            omega (arith, w.2.2.count, few_region u z first many l y w.0 place n x made),
            λ d len k st. regions_grown L rows e₀ d x at m s s' e e' a (omega (arith, len)) k st (rw len w.2.2),
          ),
        )
    region_turn (Ok None) w = (w.0, λ d st. rw (w.1, w.2) st)
    region_turn (Err q) w = (w.0, w.1, w.2)

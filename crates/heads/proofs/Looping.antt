-- The loops over styles and regions. Assumes nothing.
--     StylesAlong, styles_start, styles_row, styles_next                            styles up to row k are read
--     style_rows, style_asks, styles_few                                            what is asked of the next
--     styles_passed, styles_skipped, styles_taken                                   one turn
--     styles_refused, styles_done                                                   the answer
--     RegionsAlong, regions_start, and so on                                        the same of regions
use Rattle.std.specs.Prelude.{Option, Some, None, Result, Ok, Err}
use Prim.Native.Nat.{ℕ, ◌+◌, ◌*◌, ◌≤◌, ◌<◌, ◌^◌}
use mathlib.Core.Path.{◌≡◌, refl, ◌∙◌}
use mathlib.Core.Bool.{true, false}
use mathlib.Core.List.{List, []}
use native.Mathlib.Omega.{arith}
use lib.ListN.{length, get_or}
use lib.Ieee.{Float}
use Rattle.tree.specs.declared.answers.Refusal.{Refusal}
use Rattle.track.specs.Tables.{Lengths}
use Rattle.xml.specs.declared.find.Element.{Element}
use Rattle.xml.specs.Find.{is_element, HasRow, element_row}
use Rattle.meaning.specs.Words.{ascii}
use Rattle.meaning.specs.Kinds.{with_places}
use Rattle.meaning.specs.Styling.{style_of, region_of}
use Rattle.styling.specs.Posts.{HasRows, OfRows}
use Rattle.heads.specs.Rows.{StyleMade, RegionMade}
use Rattle.heads.specs.Steps.{Children, in_all, listed_styles, extras_of_style, StylesStand, AsksStyles, StylesPost}
use Rattle.heads.specs.Steps.{listed_regions, extras_of_region, RegionsStand, AsksRegions, RegionsPost}
use Rattle.heads.proofs.Turns.{
  Turn,
  Along,
  along_start,
  along_row,
  along_next,
  along_attrs,
  along_room,
  along_passed,
  along_skipped,
  along_taken,
  along_refused,
  along_done,
}
use Rattle.heads.proofs.Making.{style_turn, region_turn}
use Rattle.heads.specs.declared.collect.Count.{Count}

-- ---- styles
pub record StylesAlong (t u z : List ℕ) (from end : ℕ) (s₀ : List ℕ) (f₀ : List Float) (e₀ : List ℕ) (k n at : ℕ) (s : List ℕ) (f : List Float)
    (e : List ℕ) : Type 0 where
  pub same_styles : length s ≡ length s₀
  pub same_sizes : length f ≡ length f₀
  pub same_extras : length e ≡ length e₀
  pub goes : (L : Lengths) → StylesStand L e₀ [] s₀ f₀ e₀ → (x : Children t u z from end)
      → Along (ascii "style") (style_of with_places) extras_of_style t u z end 0 x.forest k n at (λ d. StylesStand L e₀ d s f e)

module _ {t u z : List ℕ} {from end : ℕ} {s₀ : List ℕ} {f₀ : List Float} {e₀ : List ℕ} (a : AsksStyles in_all t u z from end s₀ f₀ e₀) where
  abbrev StylesAt : (k n at : ℕ) (s : List ℕ) (f : List Float) (e : List ℕ) → Type 0
  StylesAt k n at s f e = StylesAlong t u z from end s₀ f₀ e₀ k n at s f e

  abbrev StylesAnswer : (s : List ℕ) (f : List Float) (e : List ℕ) → Result Count Refusal → Type 0
  StylesAnswer s f e r = StylesPost listed_styles in_all t u z from end s₀ s f₀ f e₀ e r

  pub styles_start : StylesAt from 0 0 s₀ f₀ e₀
  styles_start = record {
    same_styles = refl;
    same_sizes = refl;
    same_extras = refl;
    goes = λ L st x. along_start (ascii "style") (style_of with_places) extras_of_style x st;
  }

  module _ {k n at : ℕ} {s : List ℕ} {f : List Float} {e : List ℕ} (i : StylesAt k n at s f e) where
    -- for what the caller knows
    its_styles : Along (ascii "style") (style_of with_places) extras_of_style t u z end 0 a.children.forest k n at
        (λ d. StylesStand a.lengths e₀ d s f e)
    its_styles = i.goes a.lengths a.none a.children

    pub styles_row : k < end → HasRow t z k
    styles_row j = along_row its_styles j

    pub styles_next : k < end → (k < get_or t (k * 6 + 1) 0) × (get_or t (k * 6 + 1) 0 ≤ end)
    styles_next j = along_next its_styles j

    pub styles_done : end ≤ k → StylesAnswer s f e (Ok (record { rows = n; extras = at }))
    styles_done j L st x = along_done (i.goes L st x) j

    module _ (j : k < end) where
      pub styles_passed : is_element t z (ascii "style") k ≡ false → StylesAt (get_or t (k * 6 + 1) 0) n at s f e
      styles_passed w = record {
        same_styles = i.same_styles;
        same_sizes = i.same_sizes;
        same_extras = i.same_extras;
        goes = λ L st x. along_passed (i.goes L st x) j w;
      }

      module _ (w : is_element t z (ascii "style") k ≡ true) (v : Element) (row : v ≡ element_row t k) where
        style_room : at + v.many ≤ 8192
        style_room = omega (arith, along_room its_styles j w v row, a.room)

        pub style_rows : HasRows u z v.first v.many
        style_rows = along_attrs its_styles j w v row

        pub style_asks : (length z < 2 ^ 32) × (at + v.many < 2 ^ 32) × ((at + v.many) * 3 ≤ length e) × (6912 ≤ length s) × (256 ≤ length f)
        style_asks = (
          a.small,
          omega (arith, style_room),
          omega (arith, style_room, a.long_extras, i.same_extras),
          omega (arith, a.long_styles, i.same_styles),
          omega (arith, a.long_sizes, i.same_sizes),
        )

        module _ (s' : List ℕ) (f' : List Float) (e' : List ℕ) where
          abbrev StyleGives : Result (Option ℕ) Refusal → Type 0
          StyleGives r = OfRows u z v.first v.many (λ l. StyleMade l v.place n at s s' f f' e e' r)

          style_turn_of : (L : Lengths) (r : Result (Option ℕ) Refusal) → StyleGives r
              → OfRows u z v.first v.many (λ l. Turn (ascii "style") (style_of with_places) extras_of_style 0 n at (λ d. StylesStand L e₀ d s f e)
              (λ d. StylesStand L e₀ d s' f' e') v.many v.place l r)
          style_turn_of L r g l y = style_turn y L v.place n at e₀ s s' f f' e e' style_asks.3 style_asks.4 r (g l y)

          module _ (p : length s' ≡ length s) (q : length f' ≡ length f) (o : length e' ≡ length e) where
            pub styles_skipped : StyleGives (Ok None) → StylesAt (get_or t (k * 6 + 1) 0) n at s' f' e'
            styles_skipped g = record {
              same_styles = p ∙ i.same_styles;
              same_sizes = q ∙ i.same_sizes;
              same_extras = o ∙ i.same_extras;
              goes = λ L st x. along_skipped (i.goes L st x) j w v row (λ d. StylesStand L e₀ d s' f' e') (style_turn_of L (Ok None) g);
            }

            pub styles_taken : (m : ℕ) → StyleGives (Ok (Some m)) → StylesAt (get_or t (k * 6 + 1) 0) (n + 1) (at + m) s' f' e'
            styles_taken m g = record {
              same_styles = p ∙ i.same_styles;
              same_sizes = q ∙ i.same_sizes;
              same_extras = o ∙ i.same_extras;
              goes = λ L st x. along_taken (i.goes L st x) j w v row (λ d. StylesStand L e₀ d s' f' e') m (style_turn_of L (Ok (Some m)) g);
            }

          pub styles_refused : (q : Refusal) → StyleGives (Err q) → StylesAnswer s' f' e' (Err q)
          styles_refused q g L st x =
              along_refused (i.goes L st x) j w v row (λ d. StylesStand L e₀ d s' f' e') q (style_turn_of L (Err q) g)

          -- the counts fit
          pub styles_few : (m : ℕ) → StyleGives (Ok (Some m)) → (n < 256) × (at + m ≤ 8192)
          styles_few m g =
              let x = along_taken its_styles j w v row (λ d. StylesStand a.lengths e₀ d s' f' e') m (style_turn_of a.lengths (Ok (Some m)) g) in
              (omega (arith, x.few), omega (arith, x.room, a.room))

-- ---- regions, after so many rows of extras
pub record RegionsAlong (t u z : List ℕ) (from end rows : ℕ) (s₀ e₀ : List ℕ) (k n at : ℕ) (s e : List ℕ) : Type 0 where
  pub same_regions : length s ≡ length s₀
  pub same_extras : length e ≡ length e₀
  pub goes : (L : Lengths) → RegionsStand L rows e₀ [] s₀ e₀ → (x : Children t u z from end)
      → Along (ascii "region") (region_of with_places) extras_of_region t u z end rows x.forest k n at (λ d. RegionsStand L rows e₀ d s e)

module _ {t u z : List ℕ} {from end rows : ℕ} {s₀ e₀ : List ℕ} (a : AsksRegions in_all t u z from end rows s₀ e₀) where
  abbrev RegionsAt : (k n at : ℕ) (s e : List ℕ) → Type 0
  RegionsAt k n at s e = RegionsAlong t u z from end rows s₀ e₀ k n at s e

  abbrev RegionsAnswer : (s e : List ℕ) → Result Count Refusal → Type 0
  RegionsAnswer s e r = RegionsPost listed_regions in_all t u z from end rows s₀ s e₀ e r

  pub regions_start : RegionsAt from 0 rows s₀ e₀
  regions_start = record {
    same_regions = refl;
    same_extras = refl;
    goes = λ L st x. along_start (ascii "region") (region_of with_places) extras_of_region x st;
  }

  module _ {k n at : ℕ} {s e : List ℕ} (i : RegionsAt k n at s e) where
    its_regions : Along (ascii "region") (region_of with_places) extras_of_region t u z end rows a.children.forest k n at
        (λ d. RegionsStand a.lengths rows e₀ d s e)
    its_regions = i.goes a.lengths a.none a.children

    pub regions_row : k < end → HasRow t z k
    regions_row j = along_row its_regions j

    pub regions_next : k < end → (k < get_or t (k * 6 + 1) 0) × (get_or t (k * 6 + 1) 0 ≤ end)
    regions_next j = along_next its_regions j

    pub regions_done : end ≤ k → RegionsAnswer s e (Ok (record { rows = n; extras = at }))
    regions_done j L st x = along_done (i.goes L st x) j

    module _ (j : k < end) where
      pub regions_passed : is_element t z (ascii "region") k ≡ false → RegionsAt (get_or t (k * 6 + 1) 0) n at s e
      regions_passed w = record {
        same_regions = i.same_regions;
        same_extras = i.same_extras;
        goes = λ L st x. along_passed (i.goes L st x) j w;
      }

      module _ (w : is_element t z (ascii "region") k ≡ true) (v : Element) (row : v ≡ element_row t k) where
        region_room : at + v.many ≤ 8192
        region_room = omega (arith, along_room its_regions j w v row, a.room)

        pub region_rows : HasRows u z v.first v.many
        region_rows = along_attrs its_regions j w v row

        pub region_asks : (length z < 2 ^ 32) × (at + v.many < 2 ^ 32) × ((at + v.many) * 3 ≤ length e) × (1024 ≤ length s)
        region_asks = (
          a.small,
          omega (arith, region_room),
          omega (arith, region_room, a.long_extras, i.same_extras),
          omega (arith, a.long_regions, i.same_regions),
        )

        module _ (s' e' : List ℕ) where
          abbrev RegionGives : Result (Option ℕ) Refusal → Type 0
          RegionGives r = OfRows u z v.first v.many (λ l. RegionMade l v.place n at s s' e e' r)

          region_turn_of : (L : Lengths) (r : Result (Option ℕ) Refusal) → RegionGives r
              → OfRows u z v.first v.many (λ l. Turn (ascii "region") (region_of with_places) extras_of_region rows n at
              (λ d. RegionsStand L rows e₀ d s e) (λ d. RegionsStand L rows e₀ d s' e') v.many v.place l r)
          region_turn_of L r g l y = region_turn y L v.place n at rows e₀ s s' e e' region_asks.3 r (g l y)

          module _ (p : length s' ≡ length s) (o : length e' ≡ length e) where
            pub regions_skipped : RegionGives (Ok None) → RegionsAt (get_or t (k * 6 + 1) 0) n at s' e'
            regions_skipped g = record {
              same_regions = p ∙ i.same_regions;
              same_extras = o ∙ i.same_extras;
              goes = λ L st x. along_skipped (i.goes L st x) j w v row (λ d. RegionsStand L rows e₀ d s' e') (region_turn_of L (Ok None) g);
            }

            pub regions_taken : (m : ℕ) → RegionGives (Ok (Some m)) → RegionsAt (get_or t (k * 6 + 1) 0) (n + 1) (at + m) s' e'
            regions_taken m g = record {
              same_regions = p ∙ i.same_regions;
              same_extras = o ∙ i.same_extras;
              goes = λ L st x. along_taken (i.goes L st x) j w v row (λ d. RegionsStand L rows e₀ d s' e') m (region_turn_of L (Ok (Some m)) g);
            }

          pub regions_refused : (q : Refusal) → RegionGives (Err q) → RegionsAnswer s' e' (Err q)
          regions_refused q g L st x =
              along_refused (i.goes L st x) j w v row (λ d. RegionsStand L rows e₀ d s' e') q (region_turn_of L (Err q) g)

          pub regions_few : (m : ℕ) → RegionGives (Ok (Some m)) → (n < 256) × (at + m ≤ 8192)
          regions_few m g =
              let x = along_taken its_regions j w v row (λ d. RegionsStand a.lengths rows e₀ d s' e') m
              (region_turn_of a.lengths (Ok (Some m)) g) in
              (omega (arith, x.few), omega (arith, x.room, a.room))

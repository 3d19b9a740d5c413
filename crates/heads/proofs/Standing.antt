-- The tables of styles and regions grow by a row. Assumes nothing.
--     cells-kept                          extras in rows, as the layout has them
--     styles_none, regions_none           nothing stands in tables of zeros
--     styles_grown, regions_grown         one more
use Prim.Native.Nat.{ℕ, ◌+◌, ◌-◌, ◌*◌, ◌≤◌, ◌<◌}
use mathlib.Core.Path.{◌≡◌, refl, sym, ap, ◌∙◌}
use mathlib.Core.List.{List, [], ◌∷◌, ◌++◌}
use native.Mathlib.Omega.{arith}
use native.Mathlib.Nat.{sub-zero}
use lib.ListN.{length, replicate, length-append, length-replicate}
use lib.Seq.{sets}
use lib.Ieee.{Float}
use Rattle.track.specs.Track.{Extra, Style, Region}
use Rattle.track.specs.Tables.{Lengths, zero_float}
use Rattle.track.specs.Layout.{each, filled, filled_sizes, joined_cells, extra_cells, lay_extras, style_cells, style_size, region_cells}
use Rattle.track.specs.Layout.{PlacedStyle, PlacedRegion}
use Rattle.track.specs.Layout as placing
use Rattle.records.proofs.RowLaws.{joined_length, row-added, style_wide, region_wide}
use Rattle.records.proofs.Beside.{each-length, style_size_added}
use Rattle.xml.specs.Reading.{Placed}
use Rattle.laid.specs.Laid.{laid_extra, rows_after, laid_style, laid_styles, laid_region, laid_regions, total}
use Rattle.extras.specs.Kept.{placed_cells}
use Rattle.heads.specs.Rows.{Styled}
use Rattle.heads.specs.Rows as heads
use Rattle.heads.specs.Steps.{extras_of_style, extras_of_region, StylesStand, RegionsStand}

-- ---- rows of placed styles or regions: `lay n x` is the row of x, whose extras stand from row n on
module _ {A B : Type 0} (extras : A → ℕ) (lay : ℕ → A → B) (laid : ℕ → List A → List B) (none : (n : ℕ) → laid n [] ≡ [])
    (more : (n : ℕ) (x : A) (l : List A) → laid n (x ∷ l) ≡ lay n x ∷ laid (n + extras x) l) where
  laid-length : (l : List A) (n : ℕ) → length (laid n l) ≡ length l
  laid-length [] n = rw (none n)
  laid-length (x ∷ l) n = rw (more n x l) (omega (arith, laid-length l (n + extras x)))

  laid_one : (l : List A) (n : ℕ) (x : A) → laid n (l ++ (x ∷ [])) ≡ laid n l ++ (lay (n + total extras l) x ∷ [])
  unfolding total
  laid_one [] n x = let e : n + 0 ≡ n = omega arith in rw (more n x [], none n, none (n + extras x), e)
  laid_one (y ∷ l) n x =
      let e : n + extras y + total extras l ≡ n + (extras y + total extras l) = omega arith in
      rw (more n y (l ++ (x ∷ [])), more n y l, laid_one l (n + extras y) x, e)

-- extras, list after list
module _ {B : Type 0} (fold : List ℕ → List B → List ℕ) (step : List ℕ → B → List ℕ) (none : (t : List ℕ) → fold t [] ≡ t)
    (more : (t : List ℕ) (x : B) (l : List B) → fold t (x ∷ l) ≡ fold (step t x) l) where
  fold_one : (l : List B) (t : List ℕ) (x : B) → fold t (l ++ (x ∷ [])) ≡ step (fold t l) x
  fold_one [] t x = rw (more t x [], none (step t x), none t)
  fold_one (y ∷ l) t x = rw (more t y (l ++ (x ∷ [])), more t y l) (fold_one l (step t y) x)

placed-cells : (xs : List (Extra Placed)) → joined_cells extra_cells (each laid_extra xs) ≡ placed_cells xs
unfolding joined_cells extra_cells each laid_extra placed_cells
placed-cells [] = refl
placed-cells (x ∷ xs) = rw (placed-cells xs)

pub cells-kept : (t : List ℕ) (at : ℕ) (xs : List (Extra Placed))
    → lay_extras t (rows_after at xs) (each laid_extra xs) ≡ sets t (at * 3) (placed_cells xs)
unfolding lay_extras rows_after joined_cells each placed_cells
cells-kept t at [] = refl
cells-kept t at (x ∷ xs) = ap (sets t (at * 3)) (placed-cells (x ∷ xs))

-- ---- tables that are filled up
module _ {A : Type 0} (d : A) where
  -- a table with room left is no longer than it should be
  filled-long : (n : ℕ) (l t : List A) → t ≡ l ++ replicate (n - length l) d → length l < length t → length t ≤ n
  filled-long n l t e h = omega (arith, ap length e, length-append l (replicate (n - length l) d), length-replicate (n - length l) d)

-- ---- styles
styles_length : (l : List (Style Placed)) (n : ℕ) → length (laid_styles n l) ≡ length l
unfolding laid_styles
styles_length l n = laid-length extras_of_style laid_style laid_styles (λ n. refl) (λ n x l. refl) l n

styles_one : (l : List (Style Placed)) (n : ℕ) (x : Style Placed)
    → laid_styles n (l ++ (x ∷ [])) ≡ laid_styles n l ++ (laid_style (n + total extras_of_style l) x ∷ [])
unfolding laid_styles
styles_one l n x = laid_one extras_of_style laid_style laid_styles (λ n. refl) (λ n x l. refl) l n x

style_extras_one : (l : List PlacedStyle) (t : List ℕ) (x : PlacedStyle)
    → placing.style_extras t (l ++ (x ∷ [])) ≡ lay_extras (placing.style_extras t l) x.style.extras x.extras
unfolding placing.style_extras
style_extras_one l t x =
    fold_one placing.style_extras (λ t y. lay_extras t y.style.extras y.extras) (λ t. refl) (λ t y l. refl) l t x

abbrev style_row_lem : PlacedStyle → List ℕ
style_row_lem x = style_cells x.style

pub styles_none : {n : Lengths} {s e : List ℕ} {f : List Float} → s ≡ replicate n.styles 0 → f ≡ replicate n.sizes zero_float
    → StylesStand n e [] s f e
unfolding laid_styles joined_cells each placing.style_extras
styles_none a b = record { in_styles = a ∙ rw sub-zero; in_sizes = b ∙ rw sub-zero; in_extras = refl }

module _ (n : Lengths) (e₀ : List ℕ) (l : List (Style Placed)) (x : Style Placed) (at m : ℕ) where
  pub styles_grown : (s s' : List ℕ) (f f' : List Float) (e e' : List ℕ) → 6912 ≤ length s → 256 ≤ length f → length l < 256
      → at ≡ 0 + total extras_of_style l → StylesStand n e₀ l s f e → Styled x (length l) at s s' f f' e e' m
      → StylesStand n e₀ (l ++ (x ∷ [])) s' f' e'
  unfolding laid_style
  styles_grown s s' f f' e e' a b h k st y =
      let p = laid_styles 0 l in
      let q = laid_style at x in
      let len : length p ≡ length l = styles_length l 0 in
      let one : laid_styles 0 (l ++ (x ∷ [])) ≡ p ++ (q ∷ []) = styles_one l 0 x ∙ ap (λ (i : ℕ). p ++ (laid_style i x ∷ [])) (sym k) in
      let wide : (v : PlacedStyle) → length (style_row_lem v) ≡ 27 = λ v. style_wide v.style in
      let used : length (joined_cells style_row_lem p) ≡ length p * 27 = joined_length style_row_lem 27 wide p in
      let long : 6912 ≤ n.styles = omega (arith, filled-long 0 n.styles (joined_cells style_row_lem p) s st.in_styles (omega arith)) in
      let sizes : length (each style_size p) ≡ length p = each-length style_size p in
      let room : 256 ≤ n.sizes = omega (arith, filled-long zero_float n.sizes (each style_size p) f st.in_sizes (omega arith)) in
      record {
        in_styles =
            y.row
            ∙ rw (← len, st.in_styles) (row-added style_row_lem 27 wide n.styles p q (omega arith))
            ∙ ap (λ v. filled n.styles (joined_cells style_row_lem v)) (sym one);
        in_sizes =
            y.float
            ∙ rw (← len, st.in_sizes) (style_size_added n.sizes p q (omega arith))
            ∙ ap (λ v. filled_sizes n.sizes (each style_size v)) (sym one);
        in_extras =
            y.rows
            ∙ rw st.in_extras (sym (style_extras_one p e₀ q ∙ cells-kept (placing.style_extras e₀ p) at x.extras))
            ∙ ap (placing.style_extras e₀) (sym one);
      }

-- ---- regions
regions_length : (l : List (Region Placed)) (n : ℕ) → length (laid_regions n l) ≡ length l
unfolding laid_regions
regions_length l n = laid-length extras_of_region laid_region laid_regions (λ n. refl) (λ n x l. refl) l n

regions_one : (l : List (Region Placed)) (n : ℕ) (x : Region Placed)
    → laid_regions n (l ++ (x ∷ [])) ≡ laid_regions n l ++ (laid_region (n + total extras_of_region l) x ∷ [])
unfolding laid_regions
regions_one l n x = laid_one extras_of_region laid_region laid_regions (λ n. refl) (λ n x l. refl) l n x

region_extras_one : (l : List PlacedRegion) (t : List ℕ) (x : PlacedRegion)
    → placing.region_extras t (l ++ (x ∷ [])) ≡ lay_extras (placing.region_extras t l) x.region.extras x.extras
unfolding placing.region_extras
region_extras_one l t x =
    fold_one placing.region_extras (λ t y. lay_extras t y.region.extras y.extras) (λ t. refl) (λ t y l. refl) l t x

abbrev region_row_lem : PlacedRegion → List ℕ
region_row_lem x = region_cells x.region

pub regions_none : {n : Lengths} {rows : ℕ} {s e : List ℕ} → s ≡ replicate n.regions 0 → RegionsStand n rows e [] s e
unfolding laid_regions joined_cells placing.region_extras
regions_none a = record { in_regions = a ∙ rw sub-zero; in_extras = refl }

module _ (n : Lengths) (rows : ℕ) (e₀ : List ℕ) (l : List (Region Placed)) (x : Region Placed) (at m : ℕ) where
  pub regions_grown : (s s' e e' : List ℕ) → 1024 ≤ length s → length l < 256 → at ≡ rows + total extras_of_region l
      → RegionsStand n rows e₀ l s e → heads.Placed x (length l) at s s' e e' m → RegionsStand n rows e₀ (l ++ (x ∷ [])) s' e'
  unfolding laid_region
  regions_grown s s' e e' a h k st y =
      let p = laid_regions rows l in
      let q = laid_region at x in
      let len : length p ≡ length l = regions_length l rows in
      let one : laid_regions rows (l ++ (x ∷ [])) ≡ p ++ (q ∷ []) =
      regions_one l rows x ∙ ap (λ (i : ℕ). p ++ (laid_region i x ∷ [])) (sym k) in
      let wide : (v : PlacedRegion) → length (region_row_lem v) ≡ 4 = λ v. region_wide v.region in
      let used : length (joined_cells region_row_lem p) ≡ length p * 4 = joined_length region_row_lem 4 wide p in
      let long : 1024 ≤ n.regions = omega (arith, filled-long 0 n.regions (joined_cells region_row_lem p) s st.in_regions (omega arith)) in
      record {
        in_regions =
            y.row
            ∙ rw (← len, st.in_regions) (row-added region_row_lem 4 wide n.regions p q (omega arith))
            ∙ ap (λ v. filled n.regions (joined_cells region_row_lem v)) (sym one);
        in_extras =
            y.rows
            ∙ rw st.in_extras (sym (region_extras_one p e₀ q ∙ cells-kept (placing.region_extras e₀ p) at x.extras))
            ∙ ap (placing.region_extras e₀) (sym one);
      }

-- Extras that were laid into their table are read back from it. Assumes nothing.
--     cells_of        the cells of extras
--     extras_read    those of one element: the test and the value
--     laid-long      the table of a layout keeps its length
--     Sits, Stays, laid-extras    and has those of every element
use Prim.Native.Nat.{ℕ, ◌+◌, ◌*◌, ◌≤◌}
use mathlib.Core.Path.{◌≡◌, refl, ap, ◌∙◌}
use mathlib.Core.Bool.{true}
use mathlib.Core.List.{List, [], ◌∷◌, ◌++◌}
use mathlib.Core.Logic.{◌⊎◌, inl, inr}
use native.Mathlib.Omega.{arith}
use lib.ListN.{length}
use lib.Seq.{length-sets}
use borrow.Author.Tests.{lt-ltb, le-leb}
use Rattle.track.specs.declared.values.Extra.{Extra}
use Rattle.track.specs.declared.values.Rows.{Rows}
use Rattle.track.specs.Tables.{Tables, cell, rows_from, extra_at}
use Rattle.track.specs.Meaning.{is_extra, are_extras, has_extras}
use Rattle.track.specs.Layout.{joined_cells, each, extra_cells, lay_extras, style_extras, region_extras, cue_extras, Placed, PlacedStyle}
use Rattle.track.specs.Layout.{PlacedRegion, PlacedCue}
use Rattle.track.specs.Shown.{shown_extra}
use Rattle.track.specs.Placing.{All, Rising, ExtrasFit, Laid, laid_style, laid_region, laid_cue, laid, Apart, AllApart}
use Rattle.track.proofs.ShownLaws.{extras_in_lem}
use Rattle.track.proofs.ReadBack.{Reads, reads_rest, reads_set, reads_kept}

-- the cells of extras
abbrev pub cells_of : List Extra → List ℕ
cells_of l = joined_cells extra_cells l

cells-many : (l : List Extra) → length (cells_of l) ≡ length l * 3
unfolding joined_cells extra_cells
cells-many [] = refl
cells-many (x ∷ l) = omega (arith, cells-many l)

module _ (T : Tables) (z : List ℕ) (most : ℕ) where
  list_read : (l : List Extra) (least i : ℕ) → Reads 0 T.extras (i * 3) (cells_of l) → Rising z most least l
      → (are_extras T.extras z most least (length l) i ≡ true) × (extras_in_lem T.extras T.strings (length l) i ≡ each (shown_extra T.strings) l)
  unfolding joined_cells extra_cells are_extras is_extra rows_from each shown_extra extra_at cell
  list_read [] least i h r = (refl, refl)
  list_read (x ∷ l) least i h r =
      let a : cell 3 T.extras i 0 ≡ x.number = h 0 (omega arith) in
      let b : cell 3 T.extras i 1 ≡ x.value.place = h 1 (omega arith) in
      let c : cell 3 T.extras i 2 ≡ x.value.len = h 2 (omega arith) in
      let q = list_read l (x.number + 1) (i + 1) (reads_rest 0 T.extras (i * 3) (extra_cells x) (cells_of l) h ((i + 1) * 3) (omega arith))
      r.3 in
      (rw (a, b, c, le-leb least x.number r.0, lt-ltb x.number most r.1, r.2, q.0), rw (a, b, c, q.1))

  pub extras_read : (x : Rows) (l : List Extra) → ExtrasFit z most x l → Reads 0 T.extras (x.first * 3) (cells_of l)
      → (has_extras T.extras z most x.first x.count ≡ true)
      × (extras_in_lem T.extras T.strings x.count x.first ≡ each (shown_extra T.strings) l)
  unfolding has_extras
  extras_read x l f h =
      let q = list_read l 0 x.first h f.rising in
      (rw (le-leb (x.first + x.count) 8192 f.room, f.many) q.0, rw f.many q.1)

-- ---- all lists, one after the other
lay_all : List ℕ → List Laid → List ℕ
lay_all t [] = t
lay_all t (x ∷ l) = lay_all (lay_extras t x.rows x.extras) l

lay-append : (a b : List Laid) (t : List ℕ) → lay_all t (a ++ b) ≡ lay_all (lay_all t a) b
unfolding lay_all
lay-append [] b t = refl
lay-append (x ∷ a) b t = lay-append a b _

lay-styles : (l : List PlacedStyle) (t : List ℕ) → style_extras t l ≡ lay_all t (each laid_style l)
unfolding style_extras lay_all each laid_style
lay-styles [] t = refl
lay-styles (x ∷ l) t = lay-styles l _

lay-regions : (l : List PlacedRegion) (t : List ℕ) → region_extras t l ≡ lay_all t (each laid_region l)
unfolding region_extras lay_all each laid_region
lay-regions [] t = refl
lay-regions (x ∷ l) t = lay-regions l _

lay-cues : (l : List PlacedCue) (t : List ℕ) → cue_extras t l ≡ lay_all t (each laid_cue l)
unfolding cue_extras lay_all each laid_cue
lay-cues [] t = refl
lay-cues (x ∷ l) t = lay-cues l _

-- as many rows as extras, and within the table
abbrev pub Sits : Laid → Type 0
Sits x = (x.rows.count ≡ length x.extras) × (x.rows.first + x.rows.count ≤ 8192)

-- what one element's rows hold
abbrev pub Stays : List ℕ → Laid → Type 0
Stays t x = Reads 0 t (x.rows.first * 3) (cells_of x.extras)

-- rows apart, as cells
tripled : (p m q n a b : ℕ) → a ≡ m * 3 → b ≡ n * 3 → (p + m ≤ q) ⊎ (q + n ≤ p) → (p * 3 + a ≤ q * 3) ⊎ (q * 3 + b ≤ p * 3)
tripled p m q n a b e f (inl h) = inl (omega arith)
tripled p m q n a b e f (inr h) = inr (omega arith)

stays : (l : List Laid) (t : List ℕ) (x : Laid) → Sits x → All (λ y. Apart x.rows y.rows) l → All Sits l → Stays t x → Stays (lay_all t l) x
unfolding lay_all lay_extras
stays [] t x e a s r = r
stays (y ∷ l) t x e a s r =
    let cx = cells_of x.extras in
    let cy = cells_of y.extras in
    let m : length cx ≡ x.rows.count * 3 = cells-many x.extras ∙ rw e.0 in
    let n : length cy ≡ y.rows.count * 3 = cells-many y.extras ∙ rw s.0.0 in
    stays l _ x e a.1 s.1
    (reads_kept t cy cx (y.rows.first * 3) (x.rows.first * 3) (λ g h. tripled _ _ _ _ _ _ m n (a.0 (omega arith) (omega arith))) r)

all_stay : (l : List Laid) (t : List ℕ) → 24576 ≤ length t → All Sits l → AllApart l → All (Stays (lay_all t l)) l
unfolding lay_all lay_extras
all_stay [] t e s a = tt
all_stay (x ∷ l) t e s a =
    let m : length (cells_of x.extras) ≡ length x.extras * 3 = cells-many x.extras in
    let t' : List ℕ = lay_extras t x.rows x.extras in (
      stays l t' x s.0 a.0 s.1 (reads_set t (cells_of x.extras) (x.rows.first * 3) (omega (arith, s.0.0, s.0.1))),
      all_stay l t' (omega (arith, length-sets t (x.rows.first * 3) (cells_of x.extras))) s.1 a.1,
    )

lay-long : (l : List Laid) (t : List ℕ) → length (lay_all t l) ≡ length t
unfolding lay_all lay_extras
lay-long [] t = refl
lay-long (x ∷ l) t = lay-long l _ ∙ length-sets t (x.rows.first * 3) (cells_of x.extras)

-- the table of a layout
module _ (k : Placed) (t : List ℕ) where
  abbrev pub extras_laid_lem : List ℕ
  extras_laid_lem = cue_extras (region_extras (style_extras t k.styles) k.regions) k.cues

  lay-laid : extras_laid_lem ≡ lay_all t (laid k)
  unfolding laid
  lay-laid =
      let a = each laid_style k.styles in
      let b = each laid_region k.regions in
      let c = each laid_cue k.cues in
      rw (
        lay-styles k.styles t,
        lay-regions k.regions (lay_all t a),
        lay-cues k.cues (lay_all (lay_all t a) b),
        lay-append a (b ++ c) t,
        lay-append b c (lay_all t a),
      )

  pub laid-long : length extras_laid_lem ≡ length t
  laid-long = ap length lay-laid ∙ lay-long (laid k) t

  pub laid-extras : 24576 ≤ length t → All Sits (laid k) → AllApart (laid k) → All (Stays extras_laid_lem) (laid k)
  laid-extras e s a = rw lay-laid (all_stay (laid k) t e s a)

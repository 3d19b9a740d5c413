-- Pieces stored side by side are one run of cells; and how many cells the parts of a row have. Assumes nothing.
use Prim.Native.Nat.{ℕ, suc, ◌+◌}
use mathlib.Core.Bool.{Bool, true, false, cond}
use mathlib.Core.List.{List, [], ◌∷◌, ◌++◌}
use mathlib.Core.Path.{◌≡◌, refl, ap}
use native.Mathlib.Omega.{arith}
use lib.ListN.{length, set, length-append}
use lib.Seq.{sets}
use Rattle.scan.proofs.Stores.{sets_on}
use Rattle.colors.specs.declared.read.Rgba.{Rgba}
use Rattle.decimals.specs.declared.size.Size.{Size}
use Rattle.track.specs.declared.strings.Span.{Span}
use Rattle.track.specs.declared.segments.Font.{Font}
use Rattle.track.specs.declared.values.Look.{Look}
use Rattle.track.specs.Layout.{span_cells, optional_cells, color_cells, size_cells, flag_cells, look_cells, font_cells}

-- the table t with the k cells a from cell i on is t'
pub record Wrote (t : List ℕ) (i k : ℕ) (a t' : List ℕ) : Type 0 where
  pub is : t' ≡ sets t i a
  pub wide : length a ≡ k

pub first : (t : List ℕ) (i : ℕ) (a : List ℕ) {t' : List ℕ} {k : ℕ} → t' ≡ sets t i a → length a ≡ k → Wrote t i k a t'
first t i a e h = record { is = e; wide = h }

-- b after a
pub then : {t a t' t'' : List ℕ} {i k m : ℕ} → Wrote t i k a t' → (b : List ℕ) → t'' ≡ sets t' (i + k) b → length b ≡ m → Wrote t i (k + m) (a ++ b) t''
then {t} {a} {t'} {t''} {i} {k} {m} w b e h =
    let l : length a ≡ k = w.wide in
    record {
      is = sets_on a b t t' t'' i (i + k) w.is e (omega arith);
      wide = rw length-append (omega arith);
    }

-- a cell after a
pub then_cell : {t a t' : List ℕ} {i k x y : ℕ} → Wrote t i k a t' → x ≡ y → Wrote t i (k + 1) (a ++ (y ∷ [])) (set t' (i + k) x)
then_cell {t} {a} {t'} {i} {k} {x} {y} w e = then w (y ∷ []) (ap (λ (z : ℕ). set t' (i + k) z) e) refl

-- two cells after a
pub then_two : {t a t' : List ℕ} {i k x y x' y' : ℕ} → Wrote t i k a t' → x ≡ y → x' ≡ y'
    → Wrote t i (k + 2) (a ++ (y ∷ y' ∷ [])) (set (set t' (i + k) x) (i + (k + 1)) x')
then_two {t} {a} {t'} {i} {k} {x} {y} {x'} {y'} w e e' =
    let next : i + (k + 1) ≡ suc (i + k) = omega arith in
    then w (y ∷ y' ∷ []) (rw (e, e', next)) refl

pub optional-wide : (b : Bool) (x : Span) → length (optional_cells b x) ≡ 3
optional-wide true x = refl
optional-wide false x = refl

pub color-wide : (b : Bool) (c : Rgba) → length (color_cells b c) ≡ 5
unfolding color_cells
color-wide true c = refl
color-wide false c = refl

pub size-wide : (b : Bool) (s : Size) → length (size_cells b s) ≡ 3
unfolding size_cells
size-wide true s = refl
size-wide false s = refl

pub look-wide : (x : Look) → length (look_cells x) ≡ 21
unfolding look_cells flag_cells
look-wide x =
    simp length-append (rw (
      color-wide x.has_color x.color,
      color-wide x.has_back x.back,
      optional-wide x.has_family x.family,
      size-wide x.has_size x.size,
    ))

pub family_wide : (b : Bool) (x : Span) → length (cond b (span_cells x) (0 ∷ 0 ∷ [])) ≡ 2
family_wide true x = refl
family_wide false x = refl

pub font-wide : (x : Font) → length (font_cells x) ≡ 4
unfolding font_cells
font-wide x = rw (length-append, family_wide x.has_family x.family)

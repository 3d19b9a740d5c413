-- What is absent stays zero. Assumes nothing.
--     tidy_blank, tidy_over, tidy_style      a style that says nothing, one over another, and one in a row
use Prim.Native.Nat.{ℕ, ◌+◌, ◌*◌}
use mathlib.Core.Path.{◌≡◌, refl}
use mathlib.Core.Bool.{Bool, true, false, cond, ◌||◌}
use mathlib.Core.List.{List}
use lib.ListN.{get_or}
use lib.Dec.{eqb}
use lib.Ieee.{Float}
use borrow.Author.Tests.{not-false}
use Rattle.decimals.proofs.Tests.{no}
use Rattle.track.specs.declared.values.Look.{Look}
use Rattle.track.specs.Tables.{cell, optional, color_at, size_at, size_cell, look_at, style_at}
use Rattle.styles.specs.Cells.{overlaid, blank_look, Tidy}

over-absent : {A : Type 0} (b c : Bool) (x y none : A) → (b ≡ false → x ≡ none) → (c ≡ false → y ≡ none) → (c || b) ≡ false → cond c y x ≡ none
over-absent b true x y none h k e = no e
over-absent b false x y none h k e = h e

pub tidy_over : (x y : Look) → Tidy x → Tidy y → Tidy (overlaid x y)
unfolding overlaid
tidy_over x y h k = record {
  color = over-absent x.has_color y.has_color x.color y.color _ h.color k.color;
  back = over-absent x.has_back y.has_back x.back y.back _ h.back k.back;
  family = over-absent x.has_family y.has_family x.family y.family _ h.family k.family;
  size = over-absent x.has_size y.has_size x.size y.size _ h.size k.size;
}

pub tidy_blank : Tidy blank_look
unfolding blank_look
tidy_blank = record { color = λ h. refl; back = λ h. refl; family = λ h. refl; size = λ h. refl }

pub tidy_look : (t : List ℕ) (v : Float) (i : ℕ) → Tidy (look_at t v i)
unfolding look_at color_at optional size_at
tidy_look t v i = record {
  color = λ h. rw h;
  back = λ h. rw h;
  family = λ h. rw h;
  size = λ h. let e : eqb (get_or t (i + 17) 0) 0 ≡ true = not-false _ h in rw e;
}

pub tidy_style : (t : List ℕ) (f : List Float) (i : ℕ) → Tidy (style_at t f i).look
unfolding style_at cell
tidy_style t f i = tidy_look t (size_cell f i) (i * 27)

-- Laws of overlays: the Rust lays each answer over a new style, which changes nothing. Assumes nothing.
use Prim.Native.Nat.{ℕ}
use mathlib.Core.Path.{◌≡◌, refl}
use mathlib.Core.Bool.{Bool, true, false, ◌||◌}
use mathlib.Core.List.{List}
use mathlib.Core.Option.{Option, none, some}
use Rattle.track.specs.declared.values.Align.{Align}
use Rattle.track.specs.Layout.{is_some}
use Rattle.track.specs.Meaning.{given, look_in_of}
use Rattle.track.specs.Track.{Bytes, Look}
use Rattle.track.specs.declared.values.Look as values
use Rattle.styles.specs.Values.{blank, or_else, align_over, overlay, unstyled}
use Rattle.styles.specs.Cells.{is_plain}

pub blank-unstyled : unstyled blank ≡ true
unfolding unstyled blank
blank-unstyled = refl

above_none : {A : Type 0} (x : Option A) → or_else none x ≡ x
above_none none = refl
above_none (some x) = refl

above_start : (x : Align) → align_over Align.Start x ≡ x
above_start Align.Start = refl
above_start Align.Center = refl
above_start Align.End = refl
above_start Align.Left = refl
above_start Align.Right = refl

above_false : (b : Bool) → (b || false) ≡ b
above_false true = refl
above_false false = refl

pub over-blank : (x : Look Bytes) → overlay blank x ≡ x
unfolding overlay blank
over-blank x =
    rw (
      above_none x.color,
      above_none x.back,
      above_none x.family,
      above_none x.size,
      above_false x.bold,
      above_false x.italic,
      above_false x.underline,
      above_false x.strike,
      above_start x.align,
    )

given-some : {A : Type 0} (b : Bool) (x : A) → is_some (given b x) ≡ b
given-some true x = refl
given-some false x = refl

-- what the program tests is what is meant
pub plain-unstyled : (z : List ℕ) (x : values.Look) → is_plain x ≡ unstyled (look_in_of z x)
unfolding is_plain unstyled look_in_of
plain-unstyled z x =
    rw (
      given-some x.has_family _,
      given-some x.has_size x.size,
      given-some x.has_color x.color,
      given-some x.has_back x.back,
    )

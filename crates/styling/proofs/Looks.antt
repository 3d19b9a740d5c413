-- A style's look, part by part. Assumes nothing.
--     look-sized, size-refused       the size
--     look-backed, back_refused      the background
--     look-colored, color-refused    the colour
use mathlib.Core.Path.{◌≡◌, ap}
use mathlib.Core.List.{List}
use mathlib.Core.Option.{Option}
use Rattle.colors.specs.declared.read.Rgba.{Rgba}
use Rattle.decimals.specs.declared.size.Size.{Size}
use Rattle.tree.specs.declared.answers.Refusal.{Refusal}
use Rattle.xml.specs.Reading.{Placed}
use Rattle.meaning.specs.Words.{ascii}
use Rattle.meaning.specs.Answers.{Answer, is, ◌>>=◌}
use Rattle.meaning.specs.Nodes.{Attr}
use Rattle.meaning.specs.Kinds.{with_places}
use Rattle.meaning.specs.Styling.{color_of}
use Rattle.styling.specs.Posts.{turned, style_size, sized_look, backed_look, colored_look, look_answer}

module _ (l : List (Attr Placed)) where
  pub look-sized : (color back : Option Rgba) (size : Option Size) → is size ≡ style_size l → sized_look l color back size ≡ backed_look l color back
  look-sized color back size h = ap (λ (a : Answer (Option Size)). a >>= sized_look l color back) h

  pub size-refused : (color back : Option Rgba) (r : Refusal) → turned r ≡ style_size l → turned r ≡ backed_look l color back
  size-refused color back r h = ap (λ (a : Answer (Option Size)). a >>= sized_look l color back) h

  pub look-backed : (color back : Option Rgba) → is back ≡ color_of with_places (ascii "tts:backgroundColor") l
      → backed_look l color back ≡ colored_look l color
  look-backed color back h = ap (λ (a : Answer (Option Rgba)). a >>= backed_look l color) h

  pub back_refused : (color : Option Rgba) (r : Refusal) → turned r ≡ color_of with_places (ascii "tts:backgroundColor") l
      → turned r ≡ colored_look l color
  back_refused color r h = ap (λ (a : Answer (Option Rgba)). a >>= backed_look l color) h

  pub look-colored : (color : Option Rgba) → is color ≡ color_of with_places (ascii "tts:color") l → colored_look l color ≡ look_answer l
  look-colored color h = ap (λ (a : Answer (Option Rgba)). a >>= colored_look l) h

  pub color-refused : (r : Refusal) → turned r ≡ color_of with_places (ascii "tts:color") l → turned r ≡ look_answer l
  color-refused r h = ap (λ (a : Answer (Option Rgba)). a >>= colored_look l) h

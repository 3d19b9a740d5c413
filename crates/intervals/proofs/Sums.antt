-- A sum of times as `add_times` answers it, and what is made of a time that was asked for.
--     summed    the times stand in 64 bits, and are read back from them
--     lasting   from a container's dur on
use Prim.Native.Nat.{ℕ}
use mathlib.Core.Path.{◌≡◌, ap, ap₂, ◌∙◌}
use mathlib.Core.List.{List}
use mathlib.Core.Option.{Option}
use lib.IntN.{ℤ}
use mir.Syntax.{w64}
use mir.Val.{SFits, to_z, of_z}
use mir.Facts.{to_z-of_z}
use Rattle.times.specs.declared.offset.TimingCtx.{TimingCtx}
use Rattle.xml.specs.Reading.{Placed}
use Rattle.meaning.specs.Answers.{Answer, ◌>>=◌}
use Rattle.meaning.specs.Words.{ascii}
use Rattle.meaning.specs.Nodes.{Attr}
use Rattle.meaning.specs.Kinds.{with_places}
use Rattle.meaning.specs.Timing.{time_of, sum, lasting_to}
use Rattle.intervals.specs.Steps.{end_from}

pub summed : (m : Answer ℤ) (place : ℕ) (a b : ℤ) → SFits w64 a → SFits w64 b → m ≡ sum place (to_z w64 (of_z w64 a)) (to_z w64 (of_z w64 b))
    → m ≡ sum place a b
summed m place a b f g e = e ∙ ap₂ (sum place) (to_z-of_z f) (to_z-of_z g)

pub lasting : (ctx : TimingCtx) (place : ℕ) (start children : ℤ) (l : List (Attr Placed)) (m : Answer (Option ℤ))
    → m ≡ time_of with_places ctx place (ascii "dur") l → (m >>= λ dur. lasting_to place start dur children) ≡ end_from ctx place start children l
lasting ctx place start children l m e = ap (λ (x : Answer (Option ℤ)). x >>= λ dur. lasting_to place start dur children) e

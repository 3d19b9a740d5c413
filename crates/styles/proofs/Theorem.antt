-- The resolution answers as document 01 says: exactly the ids reached, each once; no style exactly if none of them names one. Assumes nothing.
use mathlib.Core.Path.{◌≡◌, refl}
use mathlib.Core.Bool.{Bool, true, false, cond}
use mathlib.Core.Logic.{inl, inr}
use mathlib.Core.Option.{none, some}
use mathlib.Core.List.Memᴰ
use mathlib.Core.List.{List}
use Rattle.decimals.proofs.Tests.{no}
use Rattle.utf8.specs.White.{words}
use Rattle.track.specs.Track.{Bytes, Look, Style}
use Rattle.records.specs.Find.{find_style}
use Rattle.styles.specs.Reaches.{◌∈◌, parents, Reaches, named, parent, empty, Exactly}
use Rattle.styles.specs.Resolve.{Walked, start, walk, answered, resolve, Answers}
use Rattle.styles.proofs.Members.{same_count}
use Rattle.styles.proofs.Walks.{Walks, takes, keeps_distinct, stays_within, closes, misses, finds_none}
use Rattle.styles.proofs.Equations.{walk-walks}

module _ (styles : List (Style Bytes)) (value : Bytes) where
  end : Walked
  end = walk styles (words value) start

  whole : Walks styles (words value) start end
  unfolding end
  whole = walk-walks styles (words value) start

  none_first : {X : Type 0} (a : Bytes) → a ∈ start.visited → X
  unfolding start
  none_first a m = absurd (Memᴰ.not-nil m)

  -- a parent of an id that is visited is visited
  onward : (a b : Bytes) → a ∈ end.visited → b ∈ parents styles a → b ∈ end.visited
  onward a b m k = elim (closes styles whole a m) [ inl n ↦ none_first a n | inr f ↦ f b k ]

  visits : {a : Bytes} → Reaches styles value a → a ∈ end.visited
  visits {a} (named m) = takes styles whole a m
  visits {a} (parent {a = b} d m) = onward b a (visits d) m

  visited_exactly : Exactly (Reaches styles value) end.visited
  unfolding start
  visited_exactly = record {
    all = λ a d. visits d;
    only = stays_within styles (Reaches styles value) (λ a b d m. parent d m) whole (λ a m. named m) (λ a m. none_first a m);
    once = keeps_distinct styles whole empty;
  }

  -- ---- styles
  is_none : (b : Bool) (x : Look Bytes) → cond b (some x) none ≡ none → b ≡ false
  is_none true x e = absurd (not_none x e)
    where
      not_none : (x : Look Bytes) → some x ≡ none → ⊥
      not_none x e = let z : ◌≡◌ {A = Bool} true false = cc in no z
  is_none false x e = refl

  unnamed : end.found ≡ false → (a : Bytes) → Reaches styles value a → find_style a styles ≡ none
  unnamed h a d = elim ((misses styles whole h).since a (visits d)) [ inl n ↦ none_first a n | inr u ↦ u ]

  unfound : ((a : Bytes) → Reaches styles value a → find_style a styles ≡ none) → end.found ≡ false
  unfolding start
  unfound h = finds_none styles whole refl (λ a m. h a (visited_exactly.only a m))

  pub resolve-answers : Answers styles value (resolve styles value)
  unfolding resolve answered end
  resolve-answers = record {
    ids_reached = visited_exactly;
    count = λ others e. same_count end.visited others visited_exactly e;
    no_style = (λ h. unnamed (is_none end.found end.look h), λ h. rw (unfound h));
  }

-- The walk as a relation, with no bound in it, and what it does. Assumes nothing.
--     Walks                              the rule of document 01, one step to a constructor
--     own-visited                        a style's own values add no id
--     grows, takes, keeps_distinct       what was visited stays; the ids asked for are visited; none twice
--     stays_within                       only ids of the value and their parents are visited
--     closes                             the parents of a new id are visited
--     misses, finds_none                 no style is met exactly if no new id names one
use mathlib.Core.Path.{◌≡◌, refl, sym, ◌∙◌}
use mathlib.Core.Bool.{true, false}
use mathlib.Core.Logic.{◌⊎◌, inl, inr}
use mathlib.Core.Option.{Option, none, some}
use mathlib.Core.List.Memᴰ
use mathlib.Core.List.{List, [], ◌∷◌}
use Rattle.names.specs.Numbers.{is_in}
use Rattle.decimals.proofs.Tests.{no}
use Rattle.track.specs.Track.{Bytes, Style}
use Rattle.records.specs.Find.{find_style}
use Rattle.styles.specs.Reaches.{◌∈◌, parents, Distinct}
use Rattle.styles.specs.Resolve.{Walked, meet, applied, own}
use Rattle.styles.proofs.Members.{is_in-member, fresh-member, distinct_last}

module _ (styles : List (Style Bytes)) where
  pub data Walks : List Bytes → Walked → Walked → Type 0 where
    done : {w r : Walked} → r ≡ w → Walks [] w r
    again : {a : Bytes} {ids : List Bytes} {w r : Walked} → is_in a w.visited ≡ true → Walks ids w r → Walks (a ∷ ids) w r
    first : {a : Bytes} {ids : List Bytes} {w m r : Walked} → is_in a w.visited ≡ false
        → Walks (parents styles a) (meet a w) m → Walks ids (own styles a m) r → Walks (a ∷ ids) w r

  applied-visited : (w : Walked) (x : Option (Style Bytes)) → (applied w x).visited ≡ w.visited
  applied-visited w none = refl
  applied-visited w (some x) = refl

  pub own-visited : (a : Bytes) (w : Walked) → (own styles a w).visited ≡ w.visited
  unfolding own
  own-visited a w = applied-visited w (find_style a styles)

  -- ---- ids
  met : (a : Bytes) (w : Walked) → a ∈ (meet a w).visited
  unfolding meet
  met a w = Memᴰ.append_right w.visited (Memᴰ.head refl)

  met-after : (a : Bytes) {b : Bytes} (w : Walked) → b ∈ w.visited → b ∈ (meet a w).visited
  unfolding meet
  met-after a w m = Memᴰ.append_left (a ∷ []) m

  met-cases : (a : Bytes) {b : Bytes} (w : Walked) → b ∈ (meet a w).visited → (b ≡ a) ⊎ (b ∈ w.visited)
  unfolding meet
  met-cases a {b} w m = swapped (Memᴰ.append_cases w.visited m)
    where
      swapped : (b ∈ w.visited) ⊎ (b ∈ (a ∷ [])) → (b ≡ a) ⊎ (b ∈ w.visited)
      swapped (inl k) = inr k
      swapped (inr k) = inl (Memᴰ.eq_of_singleton k)

  own-after : (a : Bytes) {b : Bytes} (w : Walked) → b ∈ w.visited → b ∈ (own styles a w).visited
  own-after a w m = rw (own-visited a w) m

  own-before : (a : Bytes) {b : Bytes} (w : Walked) → b ∈ (own styles a w).visited → b ∈ w.visited
  own-before a w m = rw (own-visited a w) at m

  pub grows : {ids : List Bytes} {w r : Walked} → Walks ids w r → (b : Bytes) → b ∈ w.visited → b ∈ r.visited
  grows (done e) b m = rw e m
  grows (again e d) b m = grows d b m
  grows (first {a = a} {w = w} {m = mid} e d k) b m = grows k b (own-after a mid (grows d b (met-after a w m)))

  pub takes : {ids : List Bytes} {w r : Walked} → Walks ids w r → (b : Bytes) → b ∈ ids → b ∈ r.visited
  takes (done _) b m = elim m [ ]
  takes (again {a = a} {w = w} e d) b (Memᴰ.head p) = grows d b (Memᴰ.cast p (is_in-member a w.visited e))
  takes (again e d) b (Memᴰ.tail m) = takes d b m
  takes (first {a = a} {w = w} {m = mid} e d k) b (Memᴰ.head p) = grows k b (own-after a mid (grows d b (Memᴰ.cast p (met a w))))
  takes (first e d k) b (Memᴰ.tail m) = takes k b m

  pub keeps_distinct : {ids : List Bytes} {w r : Walked} → Walks ids w r → Distinct w.visited → Distinct r.visited
  unfolding meet
  keeps_distinct (done e) u = rw e u
  keeps_distinct (again e d) u = keeps_distinct d u
  keeps_distinct (first {a = a} {w = w} {m = m} e d k) u =
      keeps_distinct k (rw (own-visited a m) (keeps_distinct d (distinct_last (fresh-member a w.visited e) u)))

  -- what holds of an id and so of its parents
  module _ (P : Bytes → Type 0) (closed : (a b : Bytes) → P a → b ∈ parents styles a → P b) where
    pub stays_within : {ids : List Bytes} {w r : Walked} → Walks ids w r → ((b : Bytes) → b ∈ ids → P b)
        → ((b : Bytes) → b ∈ w.visited → P b) → (b : Bytes) → b ∈ r.visited → P b
    stays_within (done e) h g b m = g b (rw e at m)
    stays_within (again e d) h g b m = stays_within d (λ x k. h x (Memᴰ.tail k)) g b m
    stays_within (first {a = a} {w = w} {m = mid} e d k) h g b m =
        let p : P a = h a (Memᴰ.head refl) in
        stays_within k (λ x n. h x (Memᴰ.tail n))
        (λ x n. stays_within d (λ y o. closed a y p o) (λ y o. elim (met-cases a w o) [ inl q ↦ rw q p | inr q ↦ g y q ]) x (own-before a mid n)) b m

  abbrev pub Closed : List Bytes → List Bytes → Bytes → Type 0
  Closed before after a = (a ∈ before) ⊎ ((b : Bytes) → b ∈ parents styles a → b ∈ after)

  -- an id that is visited now was so before, or its parents are visited too
  pub closes : {ids : List Bytes} {w r : Walked} → Walks ids w r → (a : Bytes) → a ∈ r.visited → Closed w.visited r.visited a
  closes (done e) a m = inl (rw e at m)
  closes (again e d) a m = closes d a m
  closes (first {a = c} {w = w} {m = mid} {r = r} e d k) a m = late (λ n. closes d a n) (closes k a m)
    where
      later : (b : Bytes) → b ∈ mid.visited → b ∈ r.visited
      later b n = grows k b (own-after c mid n)

      early : Closed (meet c w).visited mid.visited a → Closed w.visited r.visited a
      early (inl n) = elim (met-cases c w n) [ inl q ↦ inr (λ b o. later b (takes d b (rw q at o))) | inr q ↦ inl q ]
      early (inr f) = inr (λ b o. later b (f b o))

      late : (a ∈ mid.visited → Closed (meet c w).visited mid.visited a) → Closed (own styles c mid).visited r.visited a
          → Closed w.visited r.visited a
      late h (inl n) = early (h (own-before c mid n))
      late h (inr f) = inr f

  -- ---- styles
  abbrev pub Unnamed : Bytes → Type 0
  Unnamed a = find_style a styles ≡ none

  -- only an id without a style adds none
  applied-none : (w : Walked) (x : Option (Style Bytes)) → (applied w x).found ≡ false → (x ≡ none) × (w.found ≡ false)
  applied-none w none h = (refl, h)
  applied-none w (some x) h = no h

  own-none : (a : Bytes) (w : Walked) → (own styles a w).found ≡ false → Unnamed a × (w.found ≡ false)
  unfolding own
  own-none a w h = applied-none w (find_style a styles) h

  own-adds_none : (a : Bytes) (w : Walked) → Unnamed a → w.found ≡ false → (own styles a w).found ≡ false
  unfolding own
  own-adds_none a w h f = rw h f

  met-found : (a : Bytes) (w : Walked) → (meet a w).found ≡ w.found
  unfolding meet
  met-found a w = refl

  -- w has met no style, and no id of v but those of w names one
  pub record Missed (w : Walked) (v : List Bytes) : Type 0 where
    pub before : w.found ≡ false
    pub since : (a : Bytes) → a ∈ v → (a ∈ w.visited) ⊎ Unnamed a

  pub misses : {ids : List Bytes} {w r : Walked} → Walks ids w r → r.found ≡ false → Missed w r.visited
  unfolding meet
  misses (done e) h = record { before = rw e at h; since = λ a m. inl (rw e at m) }
  misses (again e d) h = misses d h
  misses (first {a = c} {w = w} {m = mid} {r = r} e d k) h = go (misses k h) (λ g. misses d g)
    where
      go : Missed (own styles c mid) r.visited → (mid.found ≡ false → Missed (meet c w) mid.visited) → Missed w r.visited
      go l f =
          let o : Unnamed c × (mid.found ≡ false) = own-none c mid l.before in
          let q : Missed (meet c w) mid.visited = f o.1 in
          record { before = sym (met-found c w) ∙ q.before; since = λ a m. late a (l.since a m) }
        where
          early : (a : Bytes) → Unnamed c → (a ∈ (meet c w).visited) ⊎ Unnamed a → (a ∈ w.visited) ⊎ Unnamed a
          early a u (inl n) = elim (met-cases c w n) [ inl p ↦ inr (rw p u) | inr p ↦ inl p ]
          early a u (inr x) = inr x

          late : (a : Bytes) → (a ∈ (own styles c mid).visited) ⊎ Unnamed a → (a ∈ w.visited) ⊎ Unnamed a
          late a (inl n) =
              let o : Unnamed c × (mid.found ≡ false) = own-none c mid l.before in
              early a o.0 ((f o.1).since a (own-before c mid n))
          late a (inr x) = inr x

  pub finds_none : {ids : List Bytes} {w r : Walked} → Walks ids w r → w.found ≡ false → ((a : Bytes) → a ∈ r.visited → Unnamed a) → r.found ≡
      false
  finds_none (done e) h u = rw e h
  finds_none (again e d) h u = finds_none d h u
  finds_none (first {a = c} {w = w} {m = mid} e d k) h u =
      let v : (a : Bytes) → a ∈ mid.visited → Unnamed a = λ a m. u a (grows k a (own-after c mid m)) in
      finds_none k (own-adds_none c mid (v c (grows d c (met c w))) (finds_none d (met-found c w ∙ h) v)) u

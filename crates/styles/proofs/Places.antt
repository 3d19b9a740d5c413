-- The walk with places. Assumes nothing.
--     rows-count, ids_length, distinct_rows    how many rows; none twice
--     visits_walks                 a word, then those after it
--     walks_only, resolves_only    it has one outcome at most
use Rattle.std.specs.Prelude.{None}
use Prim.Native.Nat.{ℕ, zero, suc, ◌+◌}
use mathlib.Core.Path.{◌≡◌, refl, sym, ap, ◌∙◌}
use mathlib.Core.Bool.{true, false}
use mathlib.Core.List.Memᴰ
use mathlib.Core.List.{List, [], ◌∷◌}
use native.Mathlib.Omega.{arith}
use lib.ListN.{length}
use lib.Ieee.{Float}
use Rattle.utf8.specs.White.{words_from, WordAt, NextWord}
use Rattle.utf8.proofs.WhiteLaws.{words_from-after}
use Rattle.decimals.proofs.Tests.{no}
use Rattle.scan.specs.Part.{part}
use Rattle.track.specs.declared.values.Look.{Look}
use Rattle.track.specs.Track.{Bytes}
use Rattle.track.specs.Tables.{rows_from}
use Rattle.styles.specs.Reaches.{◌∈◌, Distinct, empty, fresh}
use Rattle.styles.specs.Ids.{Row, bytes_of, names_of, row_at, rows_in, ids_in}
use Rattle.styles.specs.Places.{within, WalkedAt, chain_at, own_at, meet_at, is_visited, Walks, none, again, first, Joined, Resolves}
use Rattle.styles.specs.Steps as steps
use Rattle.styles.specs.Steps.{Visits}

rows-length : {A : Type 0} (f : ℕ → A) (n i : ℕ) → length (rows_from f n i) ≡ n
unfolding rows_from
rows-length f zero i = refl
rows-length f (suc n) i = ap suc (rows-length f n (i + 1))

pub rows-count : (t : List ℕ) (n : ℕ) → length (rows_in t n) ≡ n
unfolding rows_in
rows-count t n = rows-length (row_at t) n 0

names-length : (x z : List ℕ) (l : List Row) → length (names_of x z l) ≡ length l
unfolding names_of
names-length x z [] = refl
names-length x z (a ∷ l) = ap suc (names-length x z l)

pub ids_length : (x z t : List ℕ) (n : ℕ) → length (ids_in x z t n) ≡ n
ids_length x z t n = names-length x z (rows_in t n) ∙ rows-count t n

-- rows whose names are distinct are
module _ (x z : List ℕ) where
  name_member : (a : Row) (l : List Row) → a ∈ l → bytes_of x z a ∈ names_of x z l
  unfolding names_of
  name_member a [] m = elim m [ ]
  name_member a (b ∷ l) (Memᴰ.head e) = Memᴰ.head (ap (bytes_of x z) e)
  name_member a (b ∷ l) (Memᴰ.tail m) = Memᴰ.tail (name_member a l m)

  pub distinct_rows : (l : List Row) → Distinct (names_of x z l) → Distinct l
  unfolding names_of
  distinct_rows [] d = empty
  distinct_rows (a ∷ l) (fresh h d) = fresh (λ m. h (name_member a l m)) (distinct_rows l d)

-- ---- the next word
not_some : {A : Type 0} {a : Bytes} {l : List Bytes} → [] ≡ a ∷ l → A
not_some e = let z : ◌≡◌ {A = ℕ} 0 1 = cc in absurd (omega arith)

module _ {y : Bytes} {p : ℕ} where
  pub words-next : {a e : ℕ} → WordAt y p a e → words_from y p [] ≡ part a e y ∷ words_from y e []
  words-next {a} {e} h = h.next [] ∙ words_from-after y e (part a e y ∷ [])

  word_none : {A : Type 0} {a e : ℕ} → NextWord y p None → WordAt y p a e → A
  word_none h k = not_some (sym (h []) ∙ words-next k)

  module _ {a e b d : ℕ} (h : WordAt y p a e) (k : WordAt y p b d) where
    word-starts : b ≡ a
    word-starts = k.starts ∙ sym h.starts

    word-ends : d ≡ e
    word-ends = k.ends ∙ (rw word-starts (sym h.ends))

-- ---- one outcome
module _ (x s : List ℕ) (f : List Float) (z : List ℕ) (n : ℕ) where
  pub visits_walks : {r : Row} {p a e : ℕ} {w m v : WalkedAt} → WordAt (bytes_of x z r) p a e → Visits x s f z n (within r a e) w m
      → Walks x s f z n r e m v → Walks x s f z n r p w v
  visits_walks k (steps.again h q) d = again k h (rw q at d)
  visits_walks k (steps.first h c q) d = first k h c (rw q at d)

  module _ {r : Row} {p : ℕ} {w v u : WalkedAt} where
    none_only : NextWord (bytes_of x z r) p None → v ≡ w → Walks x s f z n r p w u → v ≡ u
    none_only h e (none k q) = e ∙ sym q
    none_only h e (again k i d) = word_none h k
    none_only h e (first k i c d) = word_none h k

    module _ {a e : ℕ} (h : WordAt (bytes_of x z r) p a e) (onward : Walks x s f z n r e w u → v ≡ u) where
      again-only : is_visited x z (within r a e) w ≡ true → Walks x s f z n r p w u → v ≡ u
      again-only i (none k q) = word_none k h
      again-only i (again k j d) = onward (rw (word-ends h k) at d)
      again-only i (first k j c d) = no (sym i ∙ (rw (word-starts h k, word-ends h k) at j))

    module _ {a e : ℕ} {m : WalkedAt} (h : WordAt (bytes_of x z r) p a e)
        (upward : (l : WalkedAt) → Walks x s f z n (chain_at s z n (bytes_of x z (within r a e))) 0 (meet_at (within r a e) w) l → l ≡ m)
        (onward : Walks x s f z n r e (own_at s f z n (bytes_of x z (within r a e)) m) u → v ≡ u) where
      first-only : is_visited x z (within r a e) w ≡ false → Walks x s f z n r p w u → v ≡ u
      first-only i (none k q) = word_none k h
      first-only i (again k j d) = no (sym (rw (word-starts h k, word-ends h k) at j) ∙ i)
      first-only i (first k j c d) =
          let q = upward _ (rw (word-starts h k, word-ends h k) at c) in
          onward (rw (word-starts h k, word-ends h k, q) at d)

  pub walks_only : {r : Row} {p : ℕ} {w v u : WalkedAt} → Walks x s f z n r p w v → Walks x s f z n r p w u → v ≡ u
  walks_only (none h e) d = none_only h e d
  walks_only (again h i c) d = again-only h (λ b. walks_only c b) i d
  walks_only (first h i m c) d = first-only h (λ l b. sym (walks_only m b)) (λ b. walks_only c b) i d

  joined-only : {one two : Row} {v u : WalkedAt} → Joined x s f z n one two v → Joined x s f z n one two u → v ≡ u
  joined-only a b =
      let g : b.below ≡ a.below = walks_only b.its_style a.its_style in
      let h : b.all ≡ a.all = walks_only (rw g at b.its_ids) a.its_ids in
      a.is ∙ sym (b.is ∙ rw (g, h))

  pub resolves_only : {one two : Row} {look : Look} {v u : WalkedAt} → Resolves x s f z n one two look v → Resolves x s f z n one two look u → v ≡ u
  resolves_only a b =
      let g : b.below ≡ a.below = joined-only b.joined a.joined in
      let h : b.above ≡ a.above = walks_only b.second a.second in
      a.is ∙ sym (b.is ∙ rw (g, h))

-- The walk over the words of a value, as the program goes along it. Assumes nothing.
--     walk-longer, met-longer                      the walk adds ids
--     grown_none, grown_more                       rows that were added
--     Along, along_start, along_step, along_done, along_full      where the program is
--     word_end, word-within, full-in               a word of a chain that is a part of some bytes
--     chain_length, chain_here                     a chain where it stands
use Rattle.std.specs.Prelude.{None}
use Prim.Native.Nat.{ℕ, ◌+◌, ◌-◌, ◌≤◌, ◌<◌}
use mathlib.Core.Path.{◌≡◌, refl, ap, ◌∙◌}
use mathlib.Core.Logic.{inl, inr}
use mathlib.Core.List.{List, [], ◌∷◌}
use native.Mathlib.Omega.{arith}
use lib.ListN.{length, length-append, length-take, length-drop}
use lib.Ieee.{Float}
use Rattle.scan.specs.Part.{part, string_at}
use Rattle.utf8.specs.White.{words, words_from, WordAt, NextWord}
use Rattle.utf8.proofs.WhiteLaws.{words_from-after}
use Rattle.track.specs.Track.{Bytes, Style}
use Rattle.track.specs.declared.strings.Span.{Span}
use Rattle.styles.specs.declared.apply.Walk.{Walk}
use Rattle.styles.specs.Resolve.{Walked, meet, walk}
use Rattle.styles.specs.Cells.{Tidy}
use Rattle.styles.specs.Ids.{Row, bytes_of, Held}
use Rattle.styles.specs.Places as places
use Rattle.styles.specs.Places.{within, WalkedAt}
use Rattle.styles.specs.Steps.{styles_in, state_in, state_at, Grown, Over, Visits, Applies, Overflows}
use Rattle.styles.proofs.Walks.{Walks, done, again, first, own-visited}
use Rattle.styles.proofs.Equations.{walk-walks}
use Rattle.styles.proofs.Places.{visits_walks}
use Rattle.styles.proofs.Forgetting.{walk-cons, word-part, part-is, visit_is}

-- ---- the walk
module _ (styles : List (Style Bytes)) where
  met-length : (a : Bytes) (w : Walked) → length (meet a w).visited ≡ length w.visited + 1
  unfolding meet
  met-length a w = length-append w.visited (a ∷ [])

  longer : {ids : List Bytes} {w r : Walked} → Walks styles ids w r → length w.visited ≤ length r.visited
  longer (done e) = rw e (omega arith)
  longer (again e d) = longer d
  longer (first {a = a} {w = w} {m = m} e d k) = omega (arith, met-length a w, longer d, ap length (own-visited styles a m), longer k)

  pub walk-longer : (ids : List Bytes) (w : Walked) → length w.visited ≤ length (walk styles ids w).visited
  walk-longer ids w = longer (walk-walks styles ids w)

  pub met-longer : (a : Bytes) (ids : List Bytes) (w : Walked) → length w.visited < length (walk styles ids (meet a w)).visited
  met-longer a ids w = omega (arith, met-length a w, walk-longer ids (meet a w))

-- ---- rows
pub grown_none : (x z t heads : List ℕ) (n : ℕ) → Held x z t heads n → Grown x z t t heads n n
grown_none x z t heads n h = record { more = omega arith; kept = refl; held = h; behind = λ k l. refl }

pub grown_more : (x z t t₁ t₂ h₁ h₂ : List ℕ) (n n₁ n₂ : ℕ) → Grown x z t t₁ h₁ n n₁ → Grown x z t₁ t₂ h₂ n₁ n₂ → Grown x z t t₂ h₂ n n₂
grown_more x z t t₁ t₂ h₁ h₂ n n₁ n₂ a b = record {
  more = omega (arith, a.more, b.more);
  kept = b.kept ∙ a.kept;
  held = b.held;
  behind = λ k l. b.behind k l ∙ a.behind k (omega (arith, b.more));
}

pub over-kept : (t t' : List ℕ) (ids : List Bytes) → length t' ≡ length t → Over t' ids → Over t ids
over-kept t t' ids e (inl h) = inl (omega arith)
over-kept t t' ids e (inr h) = inr h

pub over-longer : (t : List ℕ) (ids more : List Bytes) → length ids ≤ length more → Over t ids → Over t more
over-longer t ids more l (inl h) = inl (omega arith)
over-longer t ids more l (inr h) = inr (omega arith)

-- ---- words
pub part_length : (z : List ℕ) (p q : ℕ) → p ≤ q → q ≤ length z → length (part p q z) ≡ q - p
part_length z p q h l = simp (length-take, length-drop) (omega arith)

-- ---- along the words of a chain, which stands at c
module _ (x s : List ℕ) (f : List Float) (z : List ℕ) (n : ℕ) (chain : Bytes) (t₀ : List ℕ) (w₀ : Walk) (c : Row) where
  abbrev from_start : List ℕ → Walked
  from_start e = walk (styles_in s f e z n) (words chain) (state_in x z t₀ w₀)

  pub record Along (p : ℕ) (t heads : List ℕ) (w : Walk) : Type 0 where
    pub place : p ≤ length chain
    pub grown : Grown x z t₀ t heads w₀.count w.count
    pub tidy : Tidy w₀.look → Tidy w.look
    pub goes : (e : List ℕ) → from_start e ≡ walk (styles_in s f e z n) (words_from chain p []) (state_in x z t w)
    pub placed : (v : WalkedAt) → places.Walks x s f z n c p (state_at t w) v → places.Walks x s f z n c 0 (state_at t₀ w₀) v

  pub along_start : (heads : List ℕ) → Held x z t₀ heads w₀.count → Along 0 t₀ heads w₀
  unfolding words
  along_start heads h = record {
    place = omega arith;
    grown = grown_none x z t₀ heads w₀.count h;
    tidy = λ k. k;
    goes = λ e. refl;
    placed = λ v d. d;
  }

  module _ (p : ℕ) (t heads : List ℕ) (w : Walk) (here : Along p t heads w) where
    pub along_done : bytes_of x z c ≡ chain → NextWord chain p None → places.Walks x s f z n c 0 (state_at t₀ w₀) (state_at t w)
    along_done is h = here.placed (state_at t w) (places.none (rw is h) refl)

    module _ (a q : ℕ) (next : WordAt chain p a q) where
      word : Bytes
      word = part a q chain

      onward : words_from chain p [] ≡ word ∷ words_from chain q []
      unfolding word
      onward = next.next [] ∙ words_from-after chain q (word ∷ [])

      later : (e : List ℕ) → from_start e ≡ walk (styles_in s f e z n) (words_from chain q []) (walk (styles_in s f e z n) (part a q chain ∷ [])
          (state_in x z t w))
      unfolding word
      later e = here.goes e ∙ rw onward (walk-cons (styles_in s f e z n) (part a q chain) (words_from chain q []) (state_in x z t w))

      word-here : bytes_of x z c ≡ chain → part a q chain ≡ bytes_of x z (within c a q)
      word-here is = rw (← is) (part-is x z c p a q (rw is next))

      pub along_step : bytes_of x z c ≡ chain → (t' heads' : List ℕ) (r : Walk)
          → Applies (Visits x s f z n (within c a q)) x z t t' heads' w r → Along q t' heads' r
      along_step is t' heads' r h = record {
        place = next.within_text;
        grown = grown_more x z t₀ t t' heads heads' w₀.count w.count r.count here.grown h.grown;
        tidy = λ k. h.tidy (here.tidy k);
        goes = λ e. later e ∙ rw (word-here is, visit_is x s f e z n h.is);
        placed = λ v d. here.placed v (visits_walks x s f z n (rw is next) h.is d);
      }

      pub along_full : (t' heads' : List ℕ) → Overflows x s f z n (part a q chain ∷ []) t t' heads' w → (e : List ℕ) → Over t₀ (from_start e).visited
      along_full t' heads' h e =
          over-kept t₀ t (from_start e).visited here.grown.kept
          (over-longer t (walk (styles_in s f e z n) (part a q chain ∷ []) (state_in x z t w)).visited (from_start e).visited
          (rw (later e) (walk-longer (styles_in s f e z n) (words_from chain q []) (walk (styles_in s f e z n) (part a q chain ∷ []) (state_in x z t w))))
          (h.over e))

-- ---- the same where the chain is a part of some bytes y, and its word is applied as a part of those
module _ (x s : List ℕ) (f : List Float) (z : List ℕ) (n : ℕ) (y : List ℕ) (from to : ℕ) (t₀ : List ℕ) (w₀ : Walk) (c : Row)
    (order : from ≤ to) (fits : to ≤ length y)
    (p : ℕ) (t heads : List ℕ) (w : Walk) (here : Along x s f z n (part from to y) t₀ w₀ c p t heads w)
    (a q : ℕ) (next : WordAt (part from to y) p a q) (t' heads' : List ℕ)
  where
    word-is : part a q (part from to y) ≡ string_at y (from + a) (q - a)
    word-is = word-part y from to a q (omega (arith, next.some_byte)) (omega (arith, next.within_text, part_length y from to order fits))

    pub word_end : from + a + (q - a) ≤ to
    word_end = omega (arith, next.some_byte, next.within_text, part_length y from to order fits)

    pub word-within : from + a + (q - a) ≤ length y
    word-within = omega (arith, next.some_byte, next.within_text, part_length y from to order fits)

    pub full-in : Overflows x s f z n (string_at y (from + a) (q - a) ∷ []) t t' heads' w
        → (e : List ℕ) → Over t₀ (walk (styles_in s f e z n) (words (part from to y)) (state_in x z t₀ w₀)).visited
    full-in h = along_full x s f z n (part from to y) t₀ w₀ c p t heads w here a q next t' heads' (rw (← word-is) at h)

-- ---- a chain's own place
pub chain_length : (c : Span) → c.place + c.len - c.place ≡ c.len
chain_length c = omega arith

pub chain_here : (z : List ℕ) (c : Span) → string_at z c.place (c.place + c.len - c.place) ≡ part c.place (c.place + c.len) z
unfolding string_at
chain_here z c = ap (λ (k : ℕ). string_at z c.place k) (chain_length c)

-- With its places forgotten, the walk with places is the walk of `Resolve`. Assumes nothing.
--     walk_none, walk-cons     the walk of `Resolve`, an id at a time
--     word-part, part-is       a word of a part is a part of the whole
--     meets, parents-at        an id visited, and its parents
--     forgets, visit_is        the words of a string from a place on; one id
use Rattle.std.specs.Prelude.{Option, Some, None}
use Prim.Native.Nat.{ℕ, zero, suc, ◌+◌, ◌-◌, ◌≤◌}
use mathlib.Core.Path.{◌≡◌, refl, sym, ap, ◌∙◌}
use mathlib.Core.Bool.{true, false}
use mathlib.Core.List.{List, [], ◌∷◌}
use native.Mathlib.Omega.{arith}
use native.Mathlib.Nat.{sub-zero, zero-sub, suc-sub-suc}
use lib.ListN.{take, drop, length-take}
use lib.Seq.{take-take, drop-drop}
use lib.Ieee.{Float}
use Rattle.scan.specs.Part.{part, string_at}
use Rattle.utf8.specs.White.{words, words_from, WordAt}
use Rattle.track.specs.Track.{Bytes, Style}
use Rattle.track.specs.Tables.{style_at}
use Rattle.records.specs.Find.{first_row, first_with}
use Rattle.records.proofs.FoundRows.{style_found}
use Rattle.styles.specs.Reaches.{parents}
use Rattle.styles.specs.Resolve.{Walked, meet, own, each, walk}
use Rattle.styles.specs.Ids.{source_of, Row, bytes_of, names_of}
use Rattle.styles.specs.Places.{within, WalkedAt, forget, meet_at, chain_at, own_at, is_visited, Walks, none, again, first}
use Rattle.styles.specs.Steps as steps
use Rattle.styles.specs.Steps.{bare, styles_in, Visits}
use Rattle.styles.proofs.Equations.{walk_is}
use Rattle.styles.proofs.Search.{names-append}
use Rattle.styles.proofs.Lookups.{look-over, row-look, chain_row, chain_none}
use Rattle.styles.proofs.Places.{words-next}

module _ (styles : List (Style Bytes)) where
  pub walk_none : (w : Walked) → walk styles [] w ≡ w
  walk_none w = (walk_is styles).none w

  pub walk-cons : (a : Bytes) (ids : List Bytes) (w : Walked) → walk styles (a ∷ ids) w ≡ walk styles ids (walk styles (a ∷ []) w)
  unfolding walk each
  walk-cons a ids w = refl

-- ---- words
drop_take : (a m : ℕ) (l : List ℕ) → drop a (take m l) ≡ take (m - a) (drop a l)
drop_take zero m l = rw (sub-zero m)
drop_take (suc a) zero l = rw (zero-sub (suc a))
drop_take (suc a) (suc m) [] = sym (empty (suc m - suc a))
  where
    empty : (k : ℕ) → take {A = ℕ} k [] ≡ []
    empty zero = refl
    empty (suc k) = refl
drop_take (suc a) (suc m) (x ∷ l) = rw (suc-sub-suc m a) (drop_take a m l)

pub word-part : (z : List ℕ) (p q a e : ℕ) → a ≤ e → e ≤ q - p → part a e (part p q z) ≡ string_at z (p + a) (e - a)
unfolding string_at
word-part z p q a e h l =
    let k : p + a + (e - a) - (p + a) ≡ e - a = omega arith in
    let m : e - a ≤ q - p - a = omega arith in
    rw (drop_take a (q - p) (drop p z), take-take (e - a) (q - p - a) (drop a (drop p z)) m, drop-drop a p z, k)

module _ (x z : List ℕ) where
  pub part-is : (r : Row) (p a e : ℕ) → WordAt (bytes_of x z r) p a e → part a e (bytes_of x z r) ≡ bytes_of x z (within r a e)
  unfolding string_at
  part-is r p a e h =
      let y : List ℕ = source_of x z r.source in
      let l = length-take (r.place + r.len - r.place) (drop r.place y) in
      word-part y r.place (r.place + r.len) a e (omega (arith, h.some_byte)) (omega (arith, h.within_text, l))

  pub meets : (a : Row) (w : WalkedAt) → forget x z (meet_at a w) ≡ meet (bytes_of x z a) (forget x z w)
  unfolding meet_at meet names_of
  meets a w = rw (names-append x z w.visited (a ∷ []))

-- ---- the walk
module _ (x s : List ℕ) (f : List Float) (e z : List ℕ) (n : ℕ) where
  abbrev styles : List (Style Bytes)
  styles = styles_in s f e z n

  pub parents-at : (name : Bytes) → parents styles name ≡ words (bytes_of x z (chain_at s z n name))
  unfolding chain_at
  parents-at name = go (first_with s z name 27 3 n 0) refl
    where
      go : (o : Option ℕ) → first_with s z name 27 3 n 0 ≡ o → parents styles name ≡ words (bytes_of x z (chain_at s z n name))
      go (Some i) h = rw h (chain_row s f e z n name i h)
      go None h = rw h (chain_none s f e z n name h)

  owns : (name : Bytes) (w : WalkedAt) → forget x z (own_at s f z n name w) ≡ own styles name (forget x z w)
  unfolding own_at own
  owns name w = go (first_row s z name 27 n 0) refl
    where
      go : (o : Option ℕ) → first_row s z name 27 n 0 ≡ o → forget x z (own_at s f z n name w) ≡ own styles name (forget x z w)
      go (Some i) h =
          rw (style_found (bare s f e z) name n, h, row-look s f e z n name i, look-over z w.look (style_at s f i).look)
      go None h = rw (style_found (bare s f e z) name n, h)

  -- one id
  module _ (a : Row) (w : WalkedAt) where
    seen : is_visited x z a w ≡ true → walk styles (bytes_of x z a ∷ []) (forget x z w) ≡ forget x z w
    seen h = (walk_is styles).again (bytes_of x z a) [] (forget x z w) h ∙ walk_none styles (forget x z w)

    new : (m : WalkedAt) → is_visited x z a w ≡ false
        → walk styles (words (bytes_of x z (chain_at s z n (bytes_of x z a)))) (forget x z (meet_at a w)) ≡ forget x z m
        → walk styles (bytes_of x z a ∷ []) (forget x z w) ≡ forget x z (own_at s f z n (bytes_of x z a) m)
    new m h k =
        let name = bytes_of x z a in
        (walk_is styles).first name [] (forget x z w) h
        ∙ (walk_none styles _ ∙ rw (parents-at name, ← (meets x z a w), k) (sym (owns name m)))

  next_word : (r : Row) (p a d : ℕ) (w : WalkedAt) → WordAt (bytes_of x z r) p a d
      → walk styles (words_from (bytes_of x z r) p []) (forget x z w)
      ≡ walk styles (words_from (bytes_of x z r) d []) (walk styles (bytes_of x z (within r a d) ∷ []) (forget x z w))
  next_word r p a d w k =
      rw (words-next k, part-is x z r p a d k) (walk-cons styles (bytes_of x z (within r a d)) (words_from (bytes_of x z r) d []) (forget x z w))

  pub forgets : {r : Row} {p : ℕ} {w v : WalkedAt} → Walks x s f z n r p w v
      → walk styles (words_from (bytes_of x z r) p []) (forget x z w) ≡ forget x z v
  unfolding words
  forgets {w = w} (none h q) = rw (h [], q) (walk_none styles (forget x z w))
  forgets {r} {p} {w = w} (again {a = a} {e = d} k h c) = next_word r p a d w k ∙ rw (seen (within r a d) w h) (forgets c)
  forgets {r} {p} {w = w} (first {a = a} {e = d} {m = m} k h u c) = next_word r p a d w k ∙ rw (new (within r a d) w m h (forgets u)) (forgets c)

  pub visit_is : {a : Row} {w v : WalkedAt} → Visits x s f z n a w v → walk styles (bytes_of x z a ∷ []) (forget x z w) ≡ forget x z v
  unfolding words
  visit_is {a} {w} (steps.again h q) = seen a w h ∙ ap (forget x z) (sym q)
  visit_is {a} {w} (steps.first {m = m} h c q) = new a w m h (forgets c) ∙ ap (forget x z) (sym q)

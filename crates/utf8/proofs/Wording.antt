-- `words` are the words as defined: maximal runs without white space, in order. Assumes nothing.
--     words_are, words-only   the words of a text are its words, and nothing else is
use Prim.Native.Nat.{ℕ, zero, suc, ◌+◌, ◌-◌, ◌≤◌, ◌<◌}
use mathlib.Core.Path.{◌≡◌, refl, sym, ap, subst, ◌∙◌}
use mathlib.Core.List.{List, [], ◌∷◌, ◌++◌, append_assoc, append-nil}
use native.Mathlib.Omega.{arith}
use native.Mathlib.Nat.{add-zero, sub-zero}
use lib.ListN.{length, take, drop, length-append, length-drop, take-append-drop}
use lib.Seq.{take-append_seam, take-append-le, take_all, drop-length, drop-append-add, drop-append-le}
use lib.Dec.{eqb, ltb}
use borrow.Author.Tests.{eqb-true, eqb-false, ltb-true, ltb-false}
use Rattle.scan.specs.Part.{part}
use Rattle.utf8.specs.WhiteSpace.{WhiteCharacter, WhiteSpace, Bare, Parted, ends, white, Splits, no_word, word}
use Rattle.utf8.specs.Steps.{WhiteEnd, white_at, white_end, word_end_of, words_from}
use Rattle.utf8.specs.White.{words, WordAt}
use Rattle.scan.proofs.Every.{by-test}
use Rattle.utf8.proofs.WhiteLaws.{white_end-here, white_end-out, white_end-low, white_end-high, white_end-stops, word_end-here}
use Rattle.utf8.proofs.WhiteLaws.{word_end-on, word_end-out}
use Rattle.utf8.proofs.WhiteLaws.{word_end-high, word_end-stops, word_end-some, words_from-none, words_from-next, words_from-after}
use Rattle.scan.proofs.Splits.{whole_part}
use Rattle.utf8.proofs.Trimming.{there, part-long, white-part, Path, end_path, path_end, path_space, space_path}
use Rattle.utf8.proofs.Trimming.{part_join, stops_before}

-- ---- where a word ends
module _ (s : List ℕ) where
  word-inside : (n p i : ℕ) → length s ≤ p + n → p ≤ i → i < word_end_of s p → i < length s → white_at s i ≡ 0
  word-inside zero p i b h g l = absurd (omega arith)
  word-inside (suc n) p i b h g l =
      by-test (eqb (white_at s p) 0)
      (λ t.
      let z = eqb-true (white_at s p) 0 t in
      by-test (eqb i p) (λ u. rw (eqb-true i p u) z)
      (λ u. word-inside n (p + 1) i (omega arith) (omega (arith, eqb-false i p u)) (rw (word_end-on s p (omega arith) z) at g) l))
      (λ t. absurd (omega (arith, word_end-here s p (omega arith) (eqb-false (white_at s p) 0 t))))

  module _ (e : ℕ) (h : e ≤ length s) (stop : e < length s → white_at s e ≡ 0 → ⊥) where
    word-here : word_end_of s e ≡ e
    word-here =
        by-test (ltb e (length s)) (λ t. let l = ltb-true e (length s) t in word_end-here s e l (stop l))
        (λ t. word_end-out s e (ltb-false e (length s) t))

    word-to : (n p : ℕ) → e ≤ p + n → p ≤ e → ((i : ℕ) → p ≤ i → i < e → white_at s i ≡ 0) → word_end_of s p ≡ e
    word-to zero p b g f = let z : p ≡ e = omega arith in rw z word-here
    word-to (suc n) p b g f =
        by-test (eqb p e) (λ t. rw (eqb-true p e t) word-here)
        (λ t.
        let l : p < e = omega (arith, eqb-false p e t) in
        word_end-on s p (omega arith) (f p (omega arith) l) ∙ word-to n (p + 1) (omega arith) (omega arith) (λ i k m. f i (omega arith) m))

-- ---- the words from a place on are words
module _ (s : List ℕ) where
  to_end : (p : ℕ) → part p (length s) s ≡ drop p s
  to_end p = take_all (length s - p) (drop p s) (simp length-drop (omega arith))

  parted : (e : ℕ) → e ≤ length s → (e < length s → white_at s e ≡ 0 → ⊥) → Parted (drop e s)
  parted e h stop =
      by-test (ltb e (length s))
      (λ t.
      let k : ℕ = white_at s e in
      subst Parted (take-append-drop k (drop e s))
      (white (take k (drop e s)) (drop k (drop e s)) (white-part s e k h refl (stop (ltb-true e (length s) t)))))
      (λ t. let z : e ≡ length s = omega (arith, ltb-false e (length s) t) in rw (z, drop-length s) ends)

  bare : (a e : ℕ) → a < e → e ≤ length s → ((i : ℕ) → a ≤ i → i < e → white_at s i ≡ 0) → Bare (part a e s)
  bare a e h g f =
      let long : length (part a e s) ≡ e - a = part-long s a e (omega arith) g in
      let front : length (part 0 a s) ≡ a = part-long s 0 a (omega arith) (omega arith) ∙ sub-zero a in
      let parts : s ≡ part 0 a s ++ (part a e s ++ part e (length s) s) =
      sym (whole_part s) ∙ part_join s 0 a (length s) (omega arith) (omega arith)
      ∙ ap (λ x. part 0 a s ++ x) (part_join s a e (length s) (omega arith) g) in
      record {
        some_byte = omega arith;
        no_white = λ x c y k q.
            let l : length x + (length c + length y) ≡ e - a = sym (simp length-append at (ap length q)) ∙ long in
            let w : s ≡ (part 0 a s ++ x) ++ (c ++ (y ++ part e (length s) s)) = parts ∙ rw q (simp append_assoc) in
            let m : length (part 0 a s ++ x) ≡ a + length x = simp length-append (omega (arith, front)) in
            let b = k.formed.some_byte in
            omega (
              arith,
              b,
              there s (part 0 a s ++ x) c (y ++ part e (length s) s) (a + length x) w m k,
              f (a + length x) (omega arith)
                  (omega (arith, b)),
            );
      }

  words_last : (p : ℕ) → p ≤ length s → length s ≤ white_end s p → Splits (drop p s) (words_from s p [])
  words_last p h g =
      let z : white_end s p ≡ length s = omega (arith, white_end-high s p h) in
      let w : WhiteSpace (drop p s) = rw (z, to_end p) at (path_space s (end_path s p h) h) in
      rw (words_from-none s p [] g) (no_word w)

  words_more : (p : ℕ) → p ≤ length s → white_end s p < length s → ((e : ℕ) → p < e → e ≤ length s → Splits (drop e s) (words_from s e []))
      → Splits (drop p s) (words_from s p [])
  words_more p h l rec =
      let a : ℕ = white_end s p in
      let e : ℕ = word_end_of s a in
      let low = white_end-low s p in
      let g : e ≤ length s = word_end-high s a (omega arith) in
      let some : a < e = word_end-some s a l (white_end-stops s p l) in
      let parts : drop p s ≡ part p a s ++ (part a e s ++ drop e s) =
      sym (to_end p) ∙ part_join s p a (length s) low (omega arith)
      ∙ ap (λ x. part p a s ++ x) (part_join s a e (length s) (omega arith) g ∙ rw (to_end e)) in
      let inside : (i : ℕ) → a ≤ i → i < e → white_at s i ≡ 0 = λ i k m. word-inside s (length s) a i (omega arith) k m (omega arith) in
      rw (parts, words_from-next s p [] l, words_from-after s e (part a e s ∷ []))
      (word (path_space s (end_path s p h) h) (bare a e some g inside) (parted e g (word_end-stops s a)) (rec e (omega arith) g))

  words-from : (n p : ℕ) → length s ≤ p + n → p ≤ length s → Splits (drop p s) (words_from s p [])
  words-from zero p b h = words_last p h (omega (arith, white_end-low s p))
  words-from (suc n) p b h =
      by-test (ltb (white_end s p) (length s))
      (λ t. words_more p h (ltb-true (white_end s p) (length s) t) (λ e k m. words-from n e (omega arith) m))
      (λ t. words_last p h (ltb-false (white_end s p) (length s) t))

  pub words_are : Splits s (words s)
  unfolding words
  words_are = words-from (length s) 0 (omega arith) (omega arith)

-- ---- nothing else is
module _ (c a w r : List ℕ) (white-a : WhiteSpace a) (x : Bare w) (y : Parted r) where
  text : List ℕ
  text = c ++ (a ++ (w ++ r))

  abbrev from : ℕ
  from = length c + length a

  abbrev to : ℕ
  to = length c + length a + length w

  text-is : text ≡ ((c ++ a) ++ w) ++ r
  unfolding text
  text-is = simp append_assoc

  long : length text ≡ length c + length a + length w + length r
  unfolding text
  long = simp length-append (omega arith)

  front : length ((c ++ a) ++ w) ≡ to
  front = simp length-append

  from-word : (j : ℕ) → drop (from + j) text ≡ drop j (w ++ r)
  unfolding text
  from-word j =
      let l : length (c ++ a) ≡ from = length-append c a in
      let i : c ++ (a ++ (w ++ r)) ≡ (c ++ a) ++ (w ++ r) = sym (append_assoc c a (w ++ r)) in
      rw (i, ← l) (drop-append-add (c ++ a) (w ++ r) j)

  stop : to < length text → white_at text to ≡ 0 → ⊥
  stop = at_stop y text-is long
    where
      at_stop : {r : List ℕ} → Parted r → text ≡ ((c ++ a) ++ w) ++ r → length text ≡ length c + length a + length w + length r → to < length text
          → white_at text to ≡ 0 → ⊥
      at_stop ends e l h z = omega arith
      at_stop (white v t f) e l h z = omega (arith, f.formed.some_byte, there text ((c ++ a) ++ w) v t to e front f)

  word-bare : (i : ℕ) → from ≤ i → i < to → white_at text i ≡ 0
  word-bare i h g =
      let k : ℕ = white_at text i in
      let j : ℕ = i - from in
      let m : from + j ≡ i = omega arith in
      let fits : i + k ≤ to = stops_before text i to g (omega (arith, long)) stop in
      by-test (eqb k 0) (λ z. eqb-true k 0 z)
      (λ z.
      let d : drop i text ≡ drop j w ++ r = rw m at (from-word j ∙ drop-append-le j w r (omega arith)) in
      let l : length (drop j w) ≡ length w - j = length-drop j w in
      let one : WhiteCharacter (take k (drop i text)) = white-part text i k (omega (arith, long)) refl (eqb-false k 0 z) in
      let two : WhiteCharacter (take k (drop j w)) = rw (d, take-append-le k (drop j w) r (omega arith)) at one in
      let parts : w ≡ take j w ++ (take k (drop j w) ++ drop k (drop j w)) = rw (take-append-drop k (drop j w)) (sym (take-append-drop j w)) in
      absurd (x.no_white (take j w) (take k (drop j w)) (drop k (drop j w)) two parts))

  word-starts : white_end text (length c) ≡ from
  unfolding text
  word-starts =
      path_end text (space_path c (w ++ r) white-a)
      ∙ white_end-here text from (omega (arith, long, x.some_byte)) (word-bare from (omega arith) (omega (arith, x.some_byte)))

  word-ends : word_end_of text from ≡ to
  word-ends = word-to text to (omega (arith, long)) stop (length w) from (omega arith) (omega arith) word-bare

  the_word : part from to text ≡ w
  the_word =
      let m : to - from ≡ length w = omega arith in
      let d : drop from text ≡ w ++ r = rw (add-zero from) at (from-word 0) in
      rw (m, d) (take-append_seam w r)

  words-first : (ws : List (List ℕ)) → words_from (((c ++ a) ++ w) ++ r) (length ((c ++ a) ++ w)) [] ≡ ws → words_from text (length c) [] ≡ w ∷ ws
  words-first ws e =
      let l : white_end text (length c) < length text = omega (arith, word-starts, long, x.some_byte) in
      let n = words_from-next text (length c) [] l in
      let q : words_from text to [] ≡ ws = rw (← text-is, front) at e in
      rw (word-starts, word-ends, the_word) at n ∙ (words_from-after text to (w ∷ []) ∙ rw q)

words_of : (c : List ℕ) {x : List ℕ} {ws : List (List ℕ)} → Splits x ws → words_from (c ++ x) (length c) [] ≡ ws
unfolding text
words_of c (no_word {s = x} v) =
    let p : Path (c ++ x) (length c) (length c + length x) = rw (append-nil x) at (space_path c [] v) in
    let z = path_end (c ++ x) p ∙ white_end-out (c ++ x) (length c + length x) (omega (arith, length-append c x)) in
    words_from-none (c ++ x) (length c) [] (omega (arith, z, length-append c x))
words_of c (word {a} {w} {s = r} {ws} v x y rest) = words-first c a w r v x y ws (words_of ((c ++ a) ++ w) rest)

pub words-only : (s : List ℕ) (ws : List (List ℕ)) → Splits s ws → words s ≡ ws
unfolding words
words-only s ws v = words_of [] v

-- ---- what `next_word` ensures
pub word_at : (s : List ℕ) (p a e : ℕ) → WhiteEnd s p a → e ≡ word_end_of s a → a < length s → WordAt s p a e
word_at s p a e w h l =
    let low : p ≤ length s = omega (arith, w.after) in
    let some : a < e = rw h (word_end-some s a l (w.stops l)) in
    let high : e ≤ length s = rw h (word_end-high s a w.within_text) in
    record {
      starts = w.is;
      ends = h;
      after = w.after;
      some_byte = some;
      within_text = high;
      passed = rw w.is (path_space s (end_path s p low) low);
      bare = bare s a e some high (λ i k m. word-inside s (length s) a i (omega arith) k (rw h at m) (omega arith));
      parted = rw h (parted s (word_end_of s a) (rw h at high) (word_end-stops s a));
      next = λ ws. rw (h, w.is) (words_from-next s p ws (rw w.is at l));
    }

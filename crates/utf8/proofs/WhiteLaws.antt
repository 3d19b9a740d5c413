-- Laws of white space and of words. Assumes nothing.
use Prim.Native.Nat.{ℕ, zero, suc, ◌+◌, ◌-◌, ◌≤◌, ◌<◌}
use mathlib.Core.Path.{◌≡◌, refl, sym, ◌∙◌}
use mathlib.Core.Bool.{Bool, true, false, cond, ◌&&◌, true≢false}
use mathlib.Core.List.{List, [], ◌∷◌, ◌++◌, append_assoc, append-nil}
use native.Mathlib.Omega.{arith}
use native.Mathlib.Nat.{sub-zero, zero-sub, suc-sub-suc}
use lib.ListN.{length, get_or}
use lib.Seq.{take-length}
use lib.Dec.{eqb, leb, ltb}
use borrow.Author.Tests.{eqb-true, eqb-false, leb-true, leb-false, ltb-true, ltb-false, lt-ltb, le-ltb, eq-eqb, ne_eqb, le-leb, lt-leb}
use Rattle.std.specs.Prelude.{nat_eq}
use Rattle.std.specs.List.{list_any}
use Rattle.scan.specs.Loop.{Next, halt, more, loop}
use Rattle.scan.specs.Part.{part}
use Rattle.scan.proofs.Loop.{loop-out, loop-halt, loop-more}
use Rattle.utf8.specs.Utf8.{sequence_at, char_at}
use Rattle.scan.proofs.Every.{by-test}
use Rattle.utf8.proofs.Utf8Laws.{sequence-within, sequence-ascii}
use Rattle.utf8.specs.WhiteSpace.{white_space, is_among, is_white}
use Rattle.utf8.specs.Steps.{white_at, ends_with, white_before, white_turn, white_end, white_back, white_start, word_turn, word_end_of, words_turn}
use Rattle.utf8.specs.Steps.{words_from}
use Rattle.utf8.specs.White.{trimmed}

-- ---- a number in a list, as std's test tells
pub among : (b : ℕ) (cs : List ℕ) → list_any (λ c. nat_eq c b) cs ≡ is_among b cs
unfolding is_among
among b [] = refl
among b (c ∷ cs) =
    by-test (eqb b c) (λ e. rw (e, eq-eqb c b (sym (eqb-true b c e)))) (λ e. rw (e, ne_eqb c b (λ z. eqb-false b c e (sym z)), among b cs))

-- no number of a list stands between two
abbrev apart : ℕ → ℕ → List ℕ → Bool
apart low high [] = true
apart low high (c ∷ cs) = cond (ltb low c && ltb c high) false (apart low high cs)

is_among-apart : (low high b : ℕ) (cs : List ℕ) → low < b → b < high → apart low high cs ≡ true → is_among b cs ≡ false
unfolding is_among
is_among-apart low high b [] l h t = refl
is_among-apart low high b (c ∷ cs) l h t = by-test (ltb low c && ltb c high) between (λ w. off w (is_among-apart low high b cs l h (rw w at t)))
  where
    between : ltb low c && ltb c high ≡ true → is_among b (c ∷ cs) ≡ false
    between w = absurd (true≢false (sym (rw w at t)))

    off : ltb low c && ltb c high ≡ false → is_among b cs ≡ false → is_among b (c ∷ cs) ≡ false
    off w r = rw (ne_eqb b c (λ e. true≢false (rw (lt-ltb low c (omega arith), lt-ltb c high (omega arith)) at w))) r

-- the visible ASCII characters are no white space
pub is_white-visible : (c : ℕ) → 0x20 < c → c < 0x80 → is_white c ≡ false
unfolding is_white
is_white-visible c l h = is_among-apart 0x20 0x80 c white_space l h refl

-- ---- a white-space character at a place
module _ (s : List ℕ) (p w : ℕ) (e : w ≡ sequence_at s p) where
  pub white_at-none : w ≡ 0 → white_at s p ≡ 0
  unfolding white_at
  white_at-none z = rw (← e, z)

  pub white_at-other : is_white (char_at s p w) ≡ false → white_at s p ≡ 0
  unfolding white_at
  white_at-other f = by-test (eqb w 0) (λ z. rw (← e, z)) (λ z. rw (← e, z, f))

  pub white_at-white : (w ≡ 0 → ⊥) → is_white (char_at s p w) ≡ true → white_at s p ≡ w
  unfolding white_at
  white_at-white n t = rw (← e, ne_eqb w 0 n, t)

-- a visible ASCII character is none
pub white_at-visible : (s : List ℕ) (p : ℕ) → p < length s → 0x20 < get_or s p 0 → get_or s p 0 < 0x80 → white_at s p ≡ 0
unfolding char_at
white_at-visible s p h l g = white_at-other s p 1 (sequence-ascii s p h (omega arith)).is (is_white-visible (get_or s p 0) l g)

-- a space is one
pub white_at-space : (s : List ℕ) (p : ℕ) → p < length s → get_or s p 0 ≡ 0x20 → white_at s p ≡ 1
unfolding char_at is_white is_among
white_at-space s p h e =
    white_at-white s p 1 (sequence-ascii s p h (omega arith)).is (λ z. omega arith) (rw e)

-- it lies within the text
pub white_at-within : (s : List ℕ) (p : ℕ) → p ≤ length s → p + white_at s p ≤ length s
unfolding white_at
white_at-within s p h =
    by-test (eqb (sequence_at s p) 0) (λ z. rw z (omega arith))
    (λ z. by-test (is_white (char_at s p (sequence_at s p))) (λ t. rw (z, t) (sequence-within s p h)) (λ t. rw (z, t) (omega arith)))

-- ---- one that ends at a place
module _ (s : List ℕ) (e : ℕ) where
  pub ends_with_here : (k n : ℕ) → 0 < n → k ≤ e → white_at s (e - k) ≡ k → ends_with s e k n ≡ k
  unfolding ends_with
  ends_with_here k zero z h w = absurd (omega arith)
  ends_with_here k (suc n) z h w = rw (le-leb k e h, eq-eqb (white_at s (e - k)) k w)

  pub ends_with_on : (k n : ℕ) → 0 < n → (white_at s (e - k) ≡ k → ⊥) → ends_with s e k n ≡ ends_with s e (k + 1) (n - 1)
  unfolding ends_with
  ends_with_on k zero z w = absurd (omega arith)
  ends_with_on k (suc n) z w =
      let m : suc n - 1 ≡ n = omega arith in
      by-test (leb k e) (λ t. rw (t, ne_eqb (white_at s (e - k)) k w, m)) (λ t. rw (t, m))

  pub ends_with_short : (k n : ℕ) → e < k → ends_with s e k n ≡ 0
  unfolding ends_with
  ends_with_short k zero h = refl
  ends_with_short k (suc n) h = rw (lt-leb k e h) (ends_with_short (k + 1) n (omega arith))

  pub ends_with_out : (k n : ℕ) → n ≤ 0 → ends_with s e k n ≡ 0
  unfolding ends_with
  ends_with_out k zero h = refl
  ends_with_out k (suc n) h = absurd (omega arith)

  ends_with_low : (k n : ℕ) → ends_with s e k n ≤ e
  unfolding ends_with
  ends_with_low k zero = omega arith
  ends_with_low k (suc n) =
      by-test (leb k e) (λ t. by-test (eqb (white_at s (e - k)) k) (λ u. rw (t, u) (leb-true k e t)) (λ u. rw (t, u) (ends_with_low (k + 1) n)))
      (λ t. rw t (ends_with_low (k + 1) n))

  pub white_before-low : white_before s e ≤ e
  unfolding white_before
  white_before-low = ends_with_low 1 4

-- ---- a loop that answers the place where it halts
data Turned (len : ℕ) (f : ℕ → Unit {0} → Next (Unit {0}) ℕ) (Stop : ℕ → Type 0) (i : ℕ) : Type 0 where
  stop : f i tt ≡ halt i → Stop i → Turned len f Stop i
  step : (q : ℕ) → f i tt ≡ more q tt → i < q → q ≤ len → Turned len f Stop i

record Placed (len : ℕ) (Stop : ℕ → Type 0) (p r : ℕ) : Type 0 where
  after : p ≤ r
  within_text : r ≤ len
  stops : r < len → Stop r

module _ (len : ℕ) (f : ℕ → Unit {0} → Next (Unit {0}) ℕ) (Stop : ℕ → Type 0) (turned : (i : ℕ) → i < len → Turned len f Stop i) where
  place : ℕ → ℕ
  place i = loop len f (λ i x. i) i tt

  placed_out : (i : ℕ) → len ≤ i → i ≤ len → Placed len Stop i (place i)
  unfolding place
  placed_out i g h = rw (loop-out len f (λ i x. i) i tt g) (record { after = omega arith; within_text = h; stops = λ l. absurd (omega arith) })

  placed_turn : (i : ℕ) → i < len → ((q : ℕ) → i < q → q ≤ len → Placed len Stop q (place q)) → Turned len f Stop i → Placed len Stop i (place i)
  unfolding place
  placed_turn i h k (stop e t) =
      rw (loop-halt len f (λ i x. i) i tt i h e) (record { after = omega arith; within_text = omega arith; stops = λ l. t })
  placed_turn i h k (step q e l g) =
      let r : Placed len Stop q (place q) = k q l g in
      rw (loop-more len f (λ i x. i) i tt q tt h e l) (record { after = omega arith; within_text = r.within_text; stops = r.stops })

  placed : (n i : ℕ) → len ≤ i + n → i ≤ len → Placed len Stop i (place i)
  placed zero i b h = placed_out i (omega arith) h
  placed (suc n) i b h =
      by-test (ltb i len) (λ t. placed_turn i (ltb-true i len t) (λ q l g. placed n q (omega arith) g) (turned i (ltb-true i len t)))
      (λ t. placed_out i (ltb-false i len t) h)

-- ---- white space from a place on
module _ (s : List ℕ) (p : ℕ) where
  pub white_end-here : p < length s → white_at s p ≡ 0 → white_end s p ≡ p
  unfolding white_end
  white_end-here h e = loop-halt (length s) (white_turn s) (λ i x. i) p tt p h (rw e)

  pub white_end-on : p < length s → (white_at s p ≡ 0 → ⊥) → white_end s p ≡ white_end s (p + white_at s p)
  unfolding white_end
  white_end-on h e = loop-more (length s) (white_turn s) (λ i x. i) p tt (p + white_at s p) tt h (rw (ne_eqb (white_at s p) 0 e)) (omega (arith, e))

  pub white_end-out : length s ≤ p → white_end s p ≡ p
  unfolding white_end
  white_end-out h = loop-out (length s) (white_turn s) (λ i x. i) p tt h

-- what the definition says of itself, with no code
white_turned : (s : List ℕ) (i : ℕ) → i < length s → Turned (length s) (white_turn s) (λ r. white_at s r ≡ 0) i
white_turned s i h =
    by-test (eqb (white_at s i) 0) (λ t. stop (rw t) (eqb-true (white_at s i) 0 t))
    (λ t. step (i + white_at s i) (rw t) (omega (arith, eqb-false (white_at s i) 0 t)) (white_at-within s i (omega arith)))

white_end-placed : (s : List ℕ) (p : ℕ) → p ≤ length s → Placed (length s) (λ r. white_at s r ≡ 0) p (white_end s p)
unfolding white_end place
white_end-placed s p h = placed (length s) (white_turn s) (λ r. white_at s r ≡ 0) (white_turned s) (length s) p (omega arith) h

pub white_end-low : (s : List ℕ) (p : ℕ) → p ≤ white_end s p
white_end-low s p = by-test (leb p (length s)) (λ t. (white_end-placed s p (leb-true p (length s) t)).after)
    (λ t. omega (arith, white_end-out s p (omega (arith, leb-false p (length s) t))))

pub white_end-high : (s : List ℕ) (p : ℕ) → p ≤ length s → white_end s p ≤ length s
white_end-high s p h = (white_end-placed s p h).within_text

pub white_end-stops : (s : List ℕ) (p : ℕ) → white_end s p < length s → white_at s (white_end s p) ≡ 0
white_end-stops s p h = (white_end-placed s p (omega (arith, white_end-low s p))).stops h

-- ---- white space that ends at a place
module _ (s : List ℕ) where
  white_back-skip : (e k : ℕ) → white_back s e k ≡ white_back s (e - k) 0
  unfolding white_back
  white_back-skip zero k = rw (zero-sub k)
  white_back-skip (suc e) zero = rw (sub-zero (suc e))
  white_back-skip (suc e) (suc k) = rw (suc-sub-suc e k) (white_back-skip e k)

  pub white_back-zero : (e : ℕ) → e ≡ 0 → white_back s e 0 ≡ e
  unfolding white_back
  white_back-zero e z = rw z

  pub white_back-here : (e : ℕ) → white_before s e ≡ 0 → white_back s e 0 ≡ e
  unfolding white_back
  white_back-here zero w = refl
  white_back-here (suc e) w = rw w

  pub white_back-on : (e : ℕ) → (white_before s e ≡ 0 → ⊥) → white_back s e 0 ≡ white_back s (e - white_before s e) 0
  unfolding white_back
  white_back-on zero w = rw (zero-sub (white_before s zero))
  white_back-on (suc e) w =
      let m : suc e - white_before s (suc e) ≡ e - (white_before s (suc e) - 1) = omega (arith, w) in
      rw (m, ne_eqb (white_before s (suc e)) 0 w) (white_back-skip e (white_before s (suc e) - 1))

  white_back-low : (e k : ℕ) → white_back s e k ≤ e
  unfolding white_back
  white_back-low zero k = omega arith
  white_back-low (suc e) (suc k) = omega (arith, white_back-low e k)
  white_back-low (suc e) zero = by-test (eqb (white_before s (suc e)) 0) (λ t. rw t (omega arith))
      (λ t. rw t (omega (arith, white_back-low e (white_before s (suc e) - 1))))

  pub white_start-low : white_start s ≤ length s
  unfolding white_start
  white_start-low = white_back-low (length s) 0

-- ---- a word
module _ (s : List ℕ) (p : ℕ) where
  pub word_end-here : p < length s → (white_at s p ≡ 0 → ⊥) → word_end_of s p ≡ p
  unfolding word_end_of
  word_end-here h e = loop-halt (length s) (word_turn s) (λ i x. i) p tt p h (rw (ne_eqb (white_at s p) 0 e))

  pub word_end-on : p < length s → white_at s p ≡ 0 → word_end_of s p ≡ word_end_of s (p + 1)
  unfolding word_end_of
  word_end-on h e = loop-more (length s) (word_turn s) (λ i x. i) p tt (p + 1) tt h (rw e) (omega arith)

  pub word_end-out : length s ≤ p → word_end_of s p ≡ p
  unfolding word_end_of
  word_end-out h = loop-out (length s) (word_turn s) (λ i x. i) p tt h

word_turned : (s : List ℕ) (i : ℕ) → i < length s → Turned (length s) (word_turn s) (λ r. white_at s r ≡ 0 → ⊥) i
word_turned s i h =
    by-test (eqb (white_at s i) 0) (λ t. step (i + 1) (rw t) (omega arith) (omega arith))
    (λ t. stop (rw t) (eqb-false (white_at s i) 0 t))

word_end-placed : (s : List ℕ) (p : ℕ) → p ≤ length s → Placed (length s) (λ r. white_at s r ≡ 0 → ⊥) p (word_end_of s p)
unfolding word_end_of place
word_end-placed s p h = placed (length s) (word_turn s) (λ r. white_at s r ≡ 0 → ⊥) (word_turned s) (length s) p (omega arith) h

module _ (s : List ℕ) (p : ℕ) where
  pub word_end-low : p ≤ word_end_of s p
  word_end-low = by-test (leb p (length s)) (λ t. (word_end-placed s p (leb-true p (length s) t)).after)
      (λ t. omega (arith, word_end-out s p (omega (arith, leb-false p (length s) t))))

  pub word_end-high : p ≤ length s → word_end_of s p ≤ length s
  word_end-high h = (word_end-placed s p h).within_text

  pub word_end-stops : word_end_of s p < length s → white_at s (word_end_of s p) ≡ 0 → ⊥
  word_end-stops h = (word_end-placed s p (omega (arith, word_end-low))).stops h

-- a word has some byte
pub word_end-some : (s : List ℕ) (p : ℕ) → p < length s → white_at s p ≡ 0 → p < word_end_of s p
word_end-some s p h e = omega (arith, word_end-on s p h e, word_end-low s (p + 1))

-- ---- the words from a place on
module _ (s : List ℕ) (p : ℕ) (ws : List (List ℕ)) where
  pub words_from-none : length s ≤ white_end s p → words_from s p ws ≡ ws
  unfolding words_from
  words_from-none h =
      by-test (ltb p (length s))
      (λ t. loop-halt (length s) (words_turn s) (λ i ws. ws) p ws ws (ltb-true p (length s) t) (rw (le-ltb (white_end s p) (length s) h)))
      (λ t. loop-out (length s) (words_turn s) (λ i ws. ws) p ws (ltb-false p (length s) t))

  pub words_from-next : white_end s p < length s
      → words_from s p ws ≡ words_from s (word_end_of s (white_end s p)) (ws ++ (part (white_end s p) (word_end_of s (white_end s p)) s ∷ []))
  unfolding words_from
  words_from-next h =
      loop-more (length s) (words_turn s) (λ i ws. ws) p ws (word_end_of s (white_end s p))
      (ws ++ (part (white_end s p) (word_end_of s (white_end s p)) s ∷ [])) (omega (arith, white_end-low s p)) (rw (lt-ltb (white_end s p) (length s) h))
      (omega (arith, white_end-low s p, word_end-some s (white_end s p) h (white_end-stops s p h)))

words-none : (s : List ℕ) (p : ℕ) (ws : List (List ℕ)) → length s ≤ white_end s p → words_from s p ws ≡ ws ++ words_from s p []
words-none s p ws o = words_from-none s p ws o ∙ rw (words_from-none s p [] o) (sym (append-nil ws))

words-move : (s : List ℕ) (n p : ℕ) (ws : List (List ℕ)) → length s ≤ p + n → words_from s p ws ≡ ws ++ words_from s p []
words-move s zero p ws b = words-none s p ws (omega (arith, white_end-low s p))
words-move s (suc n) p ws b =
    by-test (ltb (white_end s p) (length s))
    (λ t. goes (ltb-true (white_end s p) (length s) t) (λ l vs. words-move s n (word_end_of s (white_end s p)) vs l))
    (λ t. words-none s p ws (ltb-false (white_end s p) (length s) t))
  where
    goes : white_end s p < length s
        → (length s ≤ word_end_of s (white_end s p) + n → (vs : List (List ℕ))
        → words_from s (word_end_of s (white_end s p)) vs ≡ vs ++ words_from s (word_end_of s (white_end s p)) []) → words_from s p ws ≡ ws ++ words_from s p []
    goes h k =
        let r = k (omega (arith, white_end-low s p, word_end-some s (white_end s p) h (white_end-stops s p h))) in
        let w : List ℕ = part (white_end s p) (word_end_of s (white_end s p)) s in
        rw (words_from-next s p [] h, r (w ∷ []))
        (words_from-next s p ws h ∙ (r (ws ++ (w ∷ [])) ∙ append_assoc ws (w ∷ []) (words_from s (word_end_of s (white_end s p)) [])))

-- the words before a place stand first
pub words_from-after : (s : List ℕ) (p : ℕ) (ws : List (List ℕ)) → words_from s p ws ≡ ws ++ words_from s p []
words_from-after s p ws = words-move s (length s) p ws (omega arith)

-- ---- the text without the white space at its ends
pub trimmed-none : trimmed [] ≡ []
unfolding trimmed
trimmed-none = rw (white_end-out [] 0 (omega arith))

pub trimmed-all : (s : List ℕ) → 0 < length s → white_at s 0 ≡ 0 → white_before s (length s) ≡ 0 → trimmed s ≡ s
unfolding trimmed white_start
trimmed-all s h a b = rw (white_end-here s 0 h a, white_back-here s (length s) b, sub-zero (length s)) (take-length s)

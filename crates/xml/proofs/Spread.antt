-- Strings laid in order over zeros: the table is zeros, a string, zeros, a string, and so on; where each is UTF-8, so is the table.
-- Assumes nothing.
--     Each, each-join                  it holds of each of a list
--     lay-spread, used_part            the table, and its part up to a place
--     spread_utf8                      it is UTF-8
--     starts_clean                     a text in UTF-8 does not begin inside a character
use Prim.Native.Nat.{ℕ, ◌+◌, ◌-◌, ◌≤◌, ◌<◌}
use mathlib.Core.Path.{◌≡◌, refl, sym, ap, ◌∙◌}
use mathlib.Core.Bool.{true}
use mathlib.Core.List.{List, [], ◌∷◌, ◌++◌, append_assoc, append-nil}
use native.Mathlib.Omega.{arith}
use native.Mathlib.Nat.{zero-add}
use lib.ListN.{length, get_or, take, replicate, length-append, length-replicate, get_or-replicate, replicate-append-replicate, get_or-append}
use lib.Seq.{sets, sets-eq, take_at, drop_at, get_or-append-add}
use lib.Dec.{ltb}
use borrow.Author.Tests.{ltb-true, ltb-false}
use Rattle.utf8.specs.Utf8.{Utf8, empty, sequence, boundary, ◌to◌}
use Rattle.scan.proofs.Every.{by-test}
use Rattle.utf8.proofs.Utf8Laws.{in_range, no_row, utf8_append, utf8_ascii}
use Rattle.utf8.proofs.Boundaries.{boundary_start, boundary_end, boundary-below, boundary-above}
use Rattle.xml.specs.Reading.{Placed, lay}
use Rattle.xml.proofs.Lays.{Ordered, ordered_whole}

abbrev pub Each : {A : Type 0} → (A → Type 0) → List A → Type 0
Each P [] = Unit {0}
Each P (x ∷ l) = P x × Each P l

pub each-join : {A : Type 0} (P : A → Type 0) (a b : List A) → Each P a → Each P b → Each P (a ++ b)
each-join P [] b h g = g
each-join P (x ∷ a) b h g = (h.0, each-join P a b h.1 g)

pub ordered_higher : (l : List Placed) (lo m hi : ℕ) → m ≤ hi → Ordered lo l m → Ordered lo l hi
ordered_higher [] lo m hi h o = omega (arith, o)
ordered_higher (x ∷ l) lo m hi h o = (o.0, ordered_higher l (x.place + length x.bytes) m hi h o.1)

-- ---- the table as one list

unfoldable pub spread : (lo hi : ℕ) → List Placed → List ℕ
spread lo hi [] = replicate (hi - lo) 0
spread lo hi (x ∷ l) = replicate (x.place - lo) 0 ++ (x.bytes ++ spread (x.place + length x.bytes) hi l)

module _ (a w : List ℕ) (p n : ℕ) (h : length a ≤ p) (g : p + length w ≤ length a + n) where
  abbrev gap : ℕ
  gap = p - length a

  abbrev room-left : ℕ
  room-left = length a + n - (p + length w)

  abbrev ahead : List ℕ
  ahead = a ++ replicate gap 0

  front_long : length ahead ≡ p
  front_long = length-append a (replicate gap 0) ∙ (ap (λ k. length a + k) (length-replicate {A = ℕ} gap 0) ∙ omega (arith, h))

  zeros-split : a ++ replicate n 0 ≡ ahead ++ (replicate (length w) 0 ++ replicate room-left 0)
  zeros-split =
      let e : gap + (length w + room-left) ≡ n = omega (arith, h, g) in
      sym (append_assoc a (replicate gap 0) (replicate (length w) 0 ++ replicate room-left 0)
      ∙ ap (λ r. a ++ r) (ap (λ r. replicate gap 0 ++ r) (replicate-append-replicate (length w) room-left 0)
      ∙ (replicate-append-replicate gap (length w + room-left) 0 ∙ ap (λ k. replicate k 0) e)))

  one_laid : sets (a ++ replicate n 0) p w ≡ (ahead ++ w) ++ replicate room-left 0
  one_laid =
      let c : List ℕ = replicate (length w) 0 in
      let r : List ℕ = replicate room-left 0 in
      let k : length c ≡ length w = length-replicate {A = ℕ} (length w) 0 in
      let q : length (ahead ++ c) ≡ p + length w = length-append ahead c ∙ omega (arith, front_long, k) in
      let room : p + length w ≤ length (ahead ++ (c ++ r)) = omega (arith, length-append ahead (c ++ r), length-append c r, front_long, k) in
      rw zeros-split
      (sets-eq w (ahead ++ (c ++ r)) p room
      ∙ rw (take_at ahead (c ++ r) p front_long, ← (append_assoc ahead c r), drop_at (ahead ++ c) r (p + length w) q))

pub lay-spread : (l : List Placed) (a : List ℕ) (n : ℕ) → Ordered (length a) l (length a + n)
    → lay (a ++ replicate n 0) l ≡ a ++ spread (length a) (length a + n) l
unfolding lay spread
lay-spread [] a n o = let e : length a + n - length a ≡ n = omega arith in rw e
lay-spread (x ∷ l) a n o =
    let w = x.bytes in
    let p = x.place in
    let g : p + length w ≤ length a + n = ordered_whole l (p + length w) (length a + n) o.1 in
    let z : List ℕ = replicate (p - length a) 0 in
    let a' = (a ++ z) ++ w in
    let n' = length a + n - (p + length w) in
    let q : length a' ≡ p + length w = length-append (a ++ z) w ∙ ap (λ k. k + length w) (front_long a w p n o.0 g) in
    let e : p + length w + n' ≡ length a + n = omega (arith, g) in
    let s = spread (p + length w) (length a + n) l in
    let more : Ordered (length a') l (length a' + n') = rw (q, e) o.1 in
    let made : lay (a' ++ replicate n' 0) l ≡ a' ++ s = rw (q, e) at (lay-spread l a' n' more) in
    rw (one_laid a w p n o.0 g) (made ∙ (append_assoc (a ++ z) w s ∙ append_assoc a z (w ++ s)))

-- the part up to hi of a longer table
pub spread_more : (l : List Placed) (lo hi m : ℕ) → Ordered lo l hi → hi ≤ m → spread lo m l ≡ spread lo hi l ++ replicate (m - hi) 0
unfolding spread
spread_more [] lo hi m o h =
    let e : hi - lo + (m - hi) ≡ m - lo = omega (arith, o) in
    sym (replicate-append-replicate {A = ℕ} (hi - lo) (m - hi) 0 ∙ ap (λ (k : ℕ). replicate k 0) e)
spread_more (x ∷ l) lo hi m o h =
    let w = x.bytes in
    let z : List ℕ = replicate (x.place - lo) 0 in
    let s = spread (x.place + length w) hi l in
    let r : List ℕ = replicate (m - hi) 0 in
    rw (spread_more l (x.place + length w) hi m o.1 h) (ap (λ (v : List ℕ). z ++ v) (sym (append_assoc w s r)) ∙ sym (append_assoc z (w ++ s) r))

spread_long : (l : List Placed) (lo hi : ℕ) → Ordered lo l hi → length (spread lo hi l) ≡ hi - lo
unfolding spread
spread_long [] lo hi o = length-replicate {A = ℕ} (hi - lo) 0
spread_long (x ∷ l) lo hi o =
    let w = x.bytes in
    let z : List ℕ = replicate (x.place - lo) 0 in
    let s = spread (x.place + length w) hi l in
    omega (
      arith,
      length-append z (w ++ s),
      length-append w s,
      length-replicate {A = ℕ} (x.place - lo) 0,
      spread_long l (x.place + length w) hi o.1,
      o.0,
      ordered_whole l (x.place + length w) hi o.1,
    )

pub laid-spread : (l : List Placed) (hi m : ℕ) → Ordered 0 l hi → hi ≤ m → lay (replicate m 0) l ≡ spread 0 m l
laid-spread l hi m o h = rw (zero-add m) at (lay-spread l [] m (rw (zero-add m) (ordered_higher l 0 hi m h o)))

pub used_part : (l : List Placed) (hi m : ℕ) → Ordered 0 l hi → hi ≤ m → take hi (lay (replicate m 0) l) ≡ spread 0 hi l
used_part l hi m o h =
    let long : length (spread 0 hi l) ≡ hi = omega (arith, spread_long l 0 hi o) in
    rw (laid-spread l hi m o h, spread_more l 0 hi m o h) (take_at (spread 0 hi l) (replicate (m - hi) 0) hi long)

pub zeros-utf8 : (n : ℕ) → Utf8 (replicate n 0)
zeros-utf8 n = utf8_ascii (replicate n 0) (λ i h. rw (get_or-replicate {A = ℕ} n i 0 0 (omega (arith, h, length-replicate {A = ℕ} n 0))) (omega arith))

abbrev pub IsUtf8 : Placed → Type 0
IsUtf8 x = Utf8 x.bytes

pub spread_utf8 : (l : List Placed) (lo hi : ℕ) → Each IsUtf8 l → Utf8 (spread lo hi l)
unfolding spread
spread_utf8 [] lo hi h = zeros-utf8 (hi - lo)
spread_utf8 (x ∷ l) lo hi h = utf8_append (zeros-utf8 (x.place - lo)) (utf8_append h.0 (spread_utf8 l (x.place + length x.bytes) hi h.1))

-- a text in UTF-8 does not begin inside a character
pub starts_clean : (a b : List ℕ) → Utf8 b → boundary (a ++ b) (length a) ≡ true
starts_clean a [] empty = boundary_end (a ++ []) (length a) (ap length (sym (append-nil a)))
starts_clean a v (sequence {w} {s} f u) = by-test (ltb 0 (length a))
    (λ t. inside (ltb-true _ _ t))
    (λ t. boundary_start (a ++ (w ++ s)) (length a) (omega (arith, ltb-false 0 (length a) t)))
  where
    long : length (a ++ (w ++ s)) ≡ length a + (length w + length s)
    long = length-append a (w ++ s) ∙ ap (λ k. length a + k) (length-append w s)

    byte : get_or (a ++ (w ++ s)) (length a) 0 ≡ get_or w 0 0
    byte =
        let e : length a + 0 ≡ length a = omega arith in
        (rw e at (get_or-append-add a (w ++ s) 0 0)) ∙ get_or-append w s 0 0 f.some_byte

    inside : 0 < length a → boundary (a ++ (w ++ s)) (length a) ≡ true
    inside h = by-test (ltb (get_or w 0 0) 0x80)
        (λ t. boundary-below (a ++ (w ++ s)) (length a) (λ e. omega (arith, h, e)) (omega (arith, long, f.some_byte)) (rw byte (ltb-true _ _ t)))
        (λ t. by-test (ltb 0xBF (get_or w 0 0))
        (λ r. boundary-above (a ++ (w ++ s)) (length a) (λ e. omega (arith, h, e)) (omega (arith, long, f.some_byte)) (rw byte (ltb-true _ _ r)))
        (λ r. absurd (omega (
          arith,
          f.some_byte,
          f.whole,
          no_row w 0 (0x80 to 0xBF) refl (in_range (get_or w 0 0) 0x80 0xBF (ltb-false (get_or w 0 0) 0x80 t) (ltb-false 0xBF (get_or w 0 0) r)),
        ))))

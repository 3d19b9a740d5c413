-- Reading cells back, in a table of any kind of cell. Assumes nothing.
--     Reads, AllAt                                        cells from a place on; a fact about each row
--     reads_here, reads_after, reads_first, reads_rest    what is read from a place on: in a list where it stands, and its parts
--     reads_set, reads_kept                               what was stored, and what stands where nothing was
--     rows_at, row-cell, at_both, rows-mean               rows of w cells, one after the other; their cells, tests and values
--     all_append, all_each, all_join, each_all, all_both  lists of facts
--     joined-append, each_append, joined-many, each-many  lists of cells
use Prim.Native.Nat.{ℕ, zero, suc, ◌+◌, ◌-◌, ◌*◌, ◌≤◌, ◌<◌}
use mathlib.Core.Path.{◌≡◌, refl, sym, ap, ◌∙◌}
use mathlib.Core.Bool.{Bool, true}
use mathlib.Core.List.{List, [], ◌∷◌, ◌++◌, append_assoc}
use mathlib.Core.Logic.{◌⊎◌, inl, inr}
use native.Mathlib.Omega.{arith}
use native.Mathlib.Nat.{zero-add, add_assoc}
use lib.ListN.{length, get_or, drop, replicate, length-append, get_or-append}
use lib.Seq.{sets, get_or-append-add, get_or-take, get_or-drop}
use Rattle.scan.proofs.Stores.{sets_part, sets_other}
use Rattle.track.specs.Tables.{cell, rows_from}
use Rattle.track.specs.Meaning.{all_rows}
use Rattle.track.specs.Layout.{joined_cells, each, filled}
use Rattle.track.specs.Placing.{All}

-- the cells c stand in t from place p on; d is what is read past the end
abbrev pub Reads : {A : Type 0} → A → List A → ℕ → List A → Type 0
Reads d t p c = (k : ℕ) → k < length c → get_or t (p + k) d ≡ get_or c k d

module _ {A : Type 0} (d : A) where
  pub reads_here : (c e : List A) → Reads d (c ++ e) 0 c
  reads_here c e k h = rw (zero-add k) (get_or-append c e d k h)

  -- after p cells
  pub reads_after : (b c e : List A) (p : ℕ) → p ≡ length b → Reads d (b ++ (c ++ e)) p c
  reads_after b c e p q k h = rw q (get_or-append-add b (c ++ e) k d ∙ get_or-append c e d k h)

  module _ (t : List A) (p : ℕ) (a b : List A) (h : Reads d t p (a ++ b)) where
    pub reads_first : Reads d t p a
    reads_first k l = h k (rw length-append (omega arith)) ∙ get_or-append a b d k l

    pub reads_rest : (q : ℕ) → q ≡ p + length a → Reads d t q b
    reads_rest q e k l =
        rw (e, add_assoc p (length a) k) (h (length a + k) (rw length-append (omega arith)) ∙ get_or-append-add a b k d)

pub reads_set : (t w : List ℕ) (p : ℕ) → p + length w ≤ length t → Reads 0 (sets t p w) p w
reads_set t w p h k l =
    sym (get_or-drop p (sets t p w) k 0) ∙ (sym (get_or-take (length w) (drop p (sets t p w)) k 0 l)
    ∙ ap (λ (x : List ℕ). get_or x k 0) (sets_part w t p h))

pub reads_kept :
    (t w c : List ℕ) (q p : ℕ) → (0 < length c → 0 < length w → (p + length c ≤ q) ⊎ (q + length w ≤ p)) → Reads 0 t p c → Reads 0 (sets t q w) p c
reads_kept t [] c q p h r k l = r k l
reads_kept t (x ∷ w) c q p h r k l = sets_other (x ∷ w) t q (p + k) (go (h (omega arith) (omega arith))) ∙ r k l
  where
    go : (p + length c ≤ q) ⊎ (q + suc (length w) ≤ p) → (p + k < q) ⊎ (q + suc (length w) ≤ p + k)
    go (inl g) = inl (omega arith)
    go (inr g) = inr (omega arith)

-- ---- rows
-- a fact about each of a list, the first being number i
abbrev pub AllAt : {A : Type 0} → (ℕ → A → Type 0) → ℕ → List A → Type 0
AllAt P i [] = Unit {0}
AllAt P i (x ∷ l) = P i x × AllAt P (i + 1) l

pub rows_at : {A : Type 0} (w : ℕ) (f : A → List ℕ) → ((x : A) → length (f x) ≡ w) → (t : List ℕ) (l : List A) (i : ℕ)
    → Reads 0 t (i * w) (joined_cells f l) → AllAt (λ i x. Reads 0 t (i * w) (f x)) i l
unfolding joined_cells
rows_at w f e t [] i h = tt
rows_at w f e t (x ∷ l) i h =
    let n : length (f x) ≡ w = e x in
    let z : (i + 1) * w ≡ i * w + w = omega arith in
    let m = joined_cells f l in
    (reads_first 0 t (i * w) (f x) m h, rows_at w f e t l (i + 1) (reads_rest 0 t (i * w) (f x) m h ((i + 1) * w) (omega arith)))

-- the i-th of them
at_get : {A : Type 0} (P : ℕ → A → Type 0) (d : A) (l : List A) (k i : ℕ) → AllAt P k l → i < length l → P (k + i) (get_or l i d)
at_get P d [] k i h g = absurd (omega arith)
at_get P d (x ∷ l) k zero h g = let e : k + 0 ≡ k = omega arith in rw e h.0
at_get P d (x ∷ l) k (suc i) h g = let e : k + suc i ≡ k + 1 + i = omega arith in rw e (at_get P d l (k + 1) i h.1 (omega arith))

-- cell j of row i, in a table that is filled up
pub row-cell : {A : Type 0} (w : ℕ) (f : A → List ℕ) → ((x : A) → length (f x) ≡ w) → (d : A) (n : ℕ) (l : List A) (i j : ℕ) → i < length l → j < w
    → cell w (filled n (joined_cells f l)) i j ≡ get_or (f (get_or l i d)) j 0
unfolding cell
row-cell w f e d n l i j h g =
    let t = filled n (joined_cells f l) in
    let c : 0 * w ≡ 0 = omega arith in
    let r : Reads 0 t (0 * w) (joined_cells f l) = rw c (reads_here 0 (joined_cells f l) (replicate (n - length (joined_cells f l)) 0)) in
    let z : 0 + i ≡ i = zero-add i in
    let q : Reads 0 t (i * w) (f (get_or l i d)) = rw z at (at_get (λ i x. Reads 0 t (i * w) (f x)) d l 0 i (rows_at w f e t l 0 r) h) in
    let m : length (f (get_or l i d)) ≡ w = e (get_or l i d) in
    q j (omega arith)

pub at_both : {A : Type 0} (P Q : ℕ → A → Type 0) (l : List A) (i : ℕ) → AllAt P i l → AllAt Q i l → AllAt (λ i x. P i x × Q i x) i l
at_both P Q [] i h g = tt
at_both P Q (x ∷ l) i h g = ((h.0, g.0), at_both P Q l (i + 1) h.1 g.1)

-- the test p and the value v of rows, where they are known of each
module _ {A B : Type 0} (P : ℕ → A → Type 0) (Q : A → Type 0) (p : ℕ → Bool) (v : ℕ → B) (s : A → B) where
  pub rows-mean :
      ((i : ℕ) (x : A) → P i x → Q x → (p i ≡ true) × (v i ≡ s x)) → (l : List A) (i : ℕ) → AllAt P i l → All Q l
      → (all_rows p (length l) i ≡ true) × (rows_from v (length l) i ≡ each s l)
  unfolding all_rows rows_from each
  rows-mean f [] i h g = (refl, refl)
  rows-mean f (x ∷ l) i h g =
      let a = f i x h.0 g.0 in
      let r = rows-mean f l (i + 1) h.1 g.1 in
      (rw a.0 r.0, rw (a.1, r.1))

-- ---- lists of facts
pub all_append : {A : Type 0} (P : A → Type 0) (a b : List A) → All P (a ++ b) → All P a × All P b
all_append P [] b h = (tt, h)
all_append P (x ∷ a) b h = let r = all_append P a b h.1 in ((h.0, r.0), r.1)

pub all_each : {A B : Type 0} (P : B → Type 0) (f : A → B) (l : List A) → All P (each f l) → All (λ x. P (f x)) l
unfolding each
all_each P f [] h = tt
all_each P f (x ∷ l) h = (h.0, all_each P f l h.1)

pub all_join : {A : Type 0} (P : A → Type 0) (a b : List A) → All P a → All P b → All P (a ++ b)
all_join P [] b h g = g
all_join P (x ∷ a) b h g = (h.0, all_join P a b h.1 g)

pub each_all : {A B : Type 0} (P : B → Type 0) (Q : A → Type 0) (f : A → B) → ((x : A) → Q x → P (f x)) → (l : List A) → All Q l → All P (each f l)
unfolding each
each_all P Q f g [] h = tt
each_all P Q f g (x ∷ l) h = (g x h.0, each_all P Q f g l h.1)

pub all_both : {A : Type 0} (P Q : A → Type 0) (l : List A) → All P l → All Q l → All (λ x. P x × Q x) l
all_both P Q [] h g = tt
all_both P Q (x ∷ l) h g = ((h.0, g.0), all_both P Q l h.1 g.1)

-- ---- lists of cells
pub joined-append : {A : Type 0} (f : A → List ℕ) (a b : List A) → joined_cells f (a ++ b) ≡ joined_cells f a ++ joined_cells f b
unfolding joined_cells
joined-append f [] b = refl
joined-append f (x ∷ a) b = rw (joined-append f a b, append_assoc)

pub each_append : {A B : Type 0} (f : A → B) (a b : List A) → each f (a ++ b) ≡ each f a ++ each f b
unfolding each
each_append f [] b = refl
each_append f (x ∷ a) b = rw (each_append f a b)

pub each-many : {A B : Type 0} (f : A → B) (l : List A) → length (each f l) ≡ length l
unfolding each
each-many f [] = refl
each-many f (x ∷ l) = omega (arith, each-many f l)

pub joined-many : {A : Type 0} (w : ℕ) (f : A → List ℕ) → ((x : A) → length (f x) ≡ w) → (l : List A) → length (joined_cells f l) ≡ length l * w
unfolding joined_cells
joined-many w f e [] = omega arith
joined-many w f e (x ∷ l) =
    let n : length (joined_cells f l) ≡ length l * w = joined-many w f e l in
    let m : length (f x) ≡ w = e x in
    let k : suc (length l) * w ≡ w + length l * w = omega arith in
    length-append (f x) (joined_cells f l) ∙ omega arith

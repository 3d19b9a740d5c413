-- Laws of lent tables. Assumes nothing.
--     sets_append, set_sets, sets_before, sets_on      runs of stores, one after the other and one before the other
--     sets_over, sets_halves                           runs that overlap
--     sets_none, sets_one, sets_two, sets_three        runs of up to three cells
--     sets_part, sets_other                            a run read back
--     Cleared, cleared-none, cleared_more, cleared-all a loop that clears
--     Copied, copied_none, copied_more, copied_all     a loop that copies
--     appended_kept, appended_on                       pieces written one after the other
--     wrote_number   the number and the values of the answer
--     begun_kept, begun_on, begun_first, begun_none, in_part, wrote_on, wrote_full   the same where there was no room for all
use Rattle.std.specs.Prelude.{Option, Some, None}
use Prim.Native.Nat.{ℕ, zero, suc, ◌+◌, ◌-◌, ◌≤◌, ◌<◌}
use mathlib.Core.Path.{◌≡◌, refl, sym, ap, ◌∙◌}
use mathlib.Core.List.{List, [], ◌∷◌, ◌++◌, append-nil, append_assoc}
use mathlib.Core.Logic.{◌⊎◌, inl, inr, ◌↔◌}
use native.Mathlib.Omega.{arith}
use native.Mathlib.Nat.{add-zero, add-suc, suc-add}
use native.Mathlib.Numerals.{add-one, add-two}
use lib.ListN.{length, get_or, set, take, drop, replicate, length-set, length-append, length-drop, take-append-drop, drop_of_length-le}
use lib.Seq.{sets, set_comm, sets-eq, length-sets, length-take-le, take-suc, take-length, take-append_seam, take-append-le, take-append-add, drop_at}
use lib.Seq.{get_or-set_other, set-set}
use Rattle.scan.specs.Posts.{written_number, written_values, Appended, Wrote, Begun, WroteInPart}

-- what is stored after a run
pub sets_append : (a b t : List ℕ) (i : ℕ) → sets (sets t i a) (i + length a) b ≡ sets t i (a ++ b)
sets_append [] b t i = rw (add-zero i)
sets_append (x ∷ a) b t i = rw (add-suc i (length a), ← (suc-add i (length a))) (sets_append a b (set t i x) (suc i))

-- a store before a run
pub set_sets : (b t : List ℕ) (i j x : ℕ) → i < j → set (sets t j b) i x ≡ sets (set t i x) j b
set_sets [] t i j x h = refl
set_sets (y ∷ b) t i j x h =
    set_sets b (set t j y) i (suc j) x (omega arith) ∙ ap (λ (l : List ℕ). sets l (suc j) b) (set_comm t j i y x (omega arith))

-- a run that ends where a later run began
pub sets_before : (a b t : List ℕ) (i : ℕ) → sets (sets t (i + length a) b) i a ≡ sets t i (a ++ b)
sets_before [] b t i = rw (add-zero i)
sets_before (x ∷ a) b t i =
    rw (set_sets b t i (i + suc (length a)) x (omega arith), add-suc i (length a), ← (suc-add i (length a))) (sets_before a b (set t i x) (suc i))

-- the same, of lists that are known by equations
pub sets_on : (a b t t' t'' : List ℕ) (i j : ℕ) → t' ≡ sets t i a → t'' ≡ sets t' j b → j ≡ i + length a → t'' ≡ sets t i (a ++ b)
sets_on a b t t' t'' i j e f w = f ∙ rw (w, e) (sets_append a b t i)

-- a run over a shorter one
pub sets_over : (a b t : List ℕ) (i : ℕ) → length a ≤ length b → sets (sets t i a) i b ≡ sets t i b
sets_over [] b t i h = refl
sets_over (x ∷ a) [] t i h = absurd (omega arith)
sets_over (x ∷ a) (y ∷ b) t i h =
    ap (λ (l : List ℕ). sets l (suc i) b) (set_sets a (set t i x) i (suc i) y (omega arith) ∙ rw (set-set t i x y))
    ∙ sets_over a b (set t i y) (suc i) (omega arith)

-- a run after one whose end it covers
sets_lap : (a b t : List ℕ) (i k : ℕ) → k ≤ length b → sets (sets t i (a ++ take k b)) (i + length a) b ≡ sets t i (a ++ b)
sets_lap a b t i k h =
    let l : length (take k b) ≤ length b = omega (arith, length-take-le k b h) in
    ap (λ (v : List ℕ). sets v (i + length a) b) (sym (sets_append a (take k b) t i))
    ∙ sets_over (take k b) b (sets t i a) (i + length a) l
    ∙ sets_append a b t i

-- the first h cells of a run and its last h, which are all of it
pub sets_halves : (w t t' t'' : List ℕ) (i h r : ℕ) → h ≤ length w → length w ≤ h + h → r ≡ length w - h
    → t' ≡ sets t i (take h w) → t'' ≡ sets t' (i + r) (take (length w - r) (drop r w)) → t'' ≡ sets t i w
sets_halves w t t' t'' i h r l m q f g =
    let n : length (take r w) ≡ r = length-take-le r w (omega arith) in
    let j : h ≡ length (take r w) + (h - r) = omega (arith, n) in
    let e : take h w ≡ take r w ++ take (h - r) (drop r w) =
    ap (λ (v : List ℕ). take h v) (sym (take-append-drop r w)) ∙ ap (λ (k : ℕ). take k (take r w ++ drop r w)) j
    ∙ take-append-add (take r w) (drop r w) (h - r) in
    g ∙ ap (λ (v : List ℕ). sets t' (i + r) v) (ap (λ (k : ℕ). take k (drop r w)) (sym (length-drop r w)) ∙ take-length (drop r w))
    ∙ ap (λ (v : List ℕ). sets v (i + r) (drop r w)) (f ∙ ap (λ (v : List ℕ). sets t i v) e)
    ∙ ap (λ (k : ℕ). sets (sets t i (take r w ++ take (h - r) (drop r w))) (i + k) (drop r w)) (sym n)
    ∙ sets_lap (take r w) (drop r w) t i (h - r) (omega (arith, length-drop r w))
    ∙ ap (λ (v : List ℕ). sets t i v) (take-append-drop r w)

-- ---- runs of up to three cells
module _ (t : List ℕ) (a : ℕ) where
  pub sets_none : (w : List ℕ) → length w ≡ 0 → t ≡ sets t a w
  sets_none [] e = refl
  sets_none (x ∷ w) e = absurd (omega arith)

  pub sets_one : (w : List ℕ) → length w ≡ 1 → set t a (get_or w 0 0) ≡ sets t a w
  sets_one [] e = absurd (omega arith)
  sets_one (x ∷ []) e = refl
  sets_one (x ∷ y ∷ w) e = absurd (omega arith)

  pub sets_two : (w : List ℕ) → length w ≡ 2 → set (set t a (get_or w 0 0)) (a + 1) (get_or w 1 0) ≡ sets t a w
  sets_two [] e = absurd (omega arith)
  sets_two (x ∷ []) e = absurd (omega arith)
  sets_two (x ∷ y ∷ []) e = rw (add-one a)
  sets_two (x ∷ y ∷ z ∷ w) e = absurd (omega arith)

  pub sets_three : (w : List ℕ) → length w ≡ 3 → set (set (set t a (get_or w 0 0)) (a + 1) (get_or w 1 0)) (a + 2) (get_or w 2 0) ≡ sets t a w
  sets_three [] e = absurd (omega arith)
  sets_three (x ∷ []) e = absurd (omega arith)
  sets_three (x ∷ y ∷ []) e = absurd (omega arith)
  sets_three (x ∷ y ∷ z ∷ []) e = rw (add-one a, add-two a)
  sets_three (x ∷ y ∷ z ∷ v ∷ w) e = absurd (omega arith)

-- ---- a run read back
-- what was stored
pub sets_part : (w t : List ℕ) (i : ℕ) → i + length w ≤ length t → take (length w) (drop i (sets t i w)) ≡ w
sets_part w t i h =
    let e : drop i (sets t i w) ≡ w ++ drop (i + length w) t = rw (sets-eq w t i h, append_assoc)
    (drop_at (take i t) (w ++ drop (i + length w) t) i (length-take-le i t (omega arith))) in
    rw e (take-append_seam w (drop (i + length w) t))

-- and what was not
pub sets_other : (w t : List ℕ) (i k : ℕ) → (k < i) ⊎ (i + length w ≤ k) → get_or (sets t i w) k 0 ≡ get_or t k 0
sets_other [] t i k h = refl
sets_other (x ∷ w) t i k (inl h) = sets_other w (set t i x) (suc i) k (inl (omega arith)) ∙ get_or-set_other t i k x 0 (λ e. omega arith)
sets_other (x ∷ w) t i k (inr h) = sets_other w (set t i x) (suc i) k (inr (omega arith)) ∙ get_or-set_other t i k x 0 (λ e. omega arith)

-- ---- a loop that clears: of the table t the first i cells are z
pub record Cleared {A : Type 0} (z : A) (t : List A) (i : ℕ) (t' : List A) : Type 0 where
  pub within : i ≤ length t
  pub is : t' ≡ replicate i z ++ drop i t
  pub kept : length t' ≡ length t

fill : {A : Type 0} (z : A) (i : ℕ) (t : List A) → i < length t → set (replicate i z ++ drop i t) i z ≡ replicate (suc i) z ++ drop (suc i) t
fill z i [] h = absurd (omega arith)
fill z zero (x ∷ t) h = refl
fill z (suc i) (x ∷ t) h = rw (fill z i t (omega arith))

module _ {A : Type 0} (z : A) (t : List A) where
  pub cleared-none : Cleared z t 0 t
  cleared-none = record { within = omega arith; is = refl; kept = refl }

  pub cleared_more : (t' : List A) (i : ℕ) → Cleared z t i t' → i < length t → Cleared z t (i + 1) (set t' i z)
  cleared_more t' i c h =
      record {
        within = omega arith;
        is = rw (c.is, add-one i) (fill z i t h);
        kept = simp length-set c.kept;
      }

  pub cleared-all : (t' : List A) (i : ℕ) → Cleared z t i t' → length t ≤ i → t' ≡ replicate (length t) z
  cleared-all t' i c h =
      let e : i ≡ length t = omega arith in
      c.is ∙ rw (drop_of_length-le t h, append-nil, e)

-- ---- a loop that copies: of the piece w the first i bytes stand in the table t from a place on
pub record Copied (w : List ℕ) (a : ℕ) (t : List ℕ) (i : ℕ) (t' : List ℕ) : Type 0 where
  pub some : i ≤ length w
  pub room : a + length w ≤ length t
  pub is : t' ≡ sets t a (take i w)
  pub kept : length t' ≡ length t

pub copied_none : (w t : List ℕ) (a : ℕ) → a + length w ≤ length t → Copied w a t 0 t
copied_none w t a h = record { some = omega arith; room = h; is = refl; kept = refl }

pub copied_more : (w t t' : List ℕ) (a i : ℕ) → Copied w a t i t' → i < length w → Copied w a t (i + 1) (set t' (a + i) (get_or w i 0))
copied_more w t t' a i c h =
    let l : length (take i w) ≡ i = length-take-le i w c.some in
    record {
      some = omega arith;
      room = c.room;
      is =
          rw (c.is, add-one i, take-suc w i 0 h)
          (ap (λ (k : ℕ). set (sets t a (take i w)) (a + k) (get_or w i 0)) (sym l) ∙ sets_append (take i w) (get_or w i 0 ∷ []) t a);
      kept = simp length-set c.kept;
    }

pub copied_all : (w t t' : List ℕ) (a i : ℕ) → Copied w a t i t' → length w ≤ i → t' ≡ sets t a w
copied_all w t t' a i c h =
    let e : i ≡ length w = omega arith in
    c.is ∙ rw (e, take-length w)

-- ---- pieces written one after the other
module _ {w : List ℕ} {a : ℕ} {t t' : List ℕ} where
  pub appended_kept : {n : ℕ} → Appended w a t t' n → length t' ≡ length t
  appended_kept p = rw p.laid (length-sets t a w)

  pub begun_kept : Begun w a t t' → length t' ≡ length t
  begun_kept b = rw b.laid (length-sets t a (take b.many w))

-- a piece after a piece
pub appended_on : {a b t t' t'' : List ℕ} {i j k : ℕ} → Appended a i t t' j → Appended b j t' t'' k → Appended (a ++ b) i t t'' k
appended_on {a} {b} {t} {t'} {t''} {i} {j} x y =
    record {
      next = simp length-append (omega (arith, x.next, y.next));
      within = omega (arith, y.within, appended_kept x);
      laid = sets_on a b t t' t'' i j x.laid y.laid x.next;
    }

-- a beginning of the second piece after the first
pub begun_on : {w x : List ℕ} {a n : ℕ} {t t' t'' : List ℕ} → Appended w a t t' n → Begun x n t' t'' → Begun (w ++ x) a t t''
begun_on {w} {x} {a} {n} {t} {t'} {t''} p b =
    record {
      many = length w + b.many;
      some = simp length-append (omega (arith, b.some));
      room = omega (arith, b.room, p.next, appended_kept p);
      laid = rw (take-append-add w x b.many) (sets_on w (take b.many x) t t' t'' a n p.laid b.laid p.next);
    }

-- a beginning of the first is one of both
pub begun_first : {w : List ℕ} {a : ℕ} {t t' : List ℕ} (x : List ℕ) → Begun w a t t' → Begun (w ++ x) a t t'
begun_first {w} {a} {t} {t'} x b =
    record {
      many = b.many;
      some = simp length-append (omega (arith, b.some));
      room = b.room;
      laid = rw (take-append-le b.many w x b.some) b.laid;
    }

pub begun_none : (w : List ℕ) (a : ℕ) (t t' : List ℕ) → a ≤ length t → t' ≡ t → Begun w a t t'
begun_none w a t t' h e = record { many = 0; some = omega arith; room = omega arith; laid = e }

-- what is written at once, as what is written part by part
-- it is refused with 18 exactly if there is no room, and else answers the place behind it
pub wrote_number : (w : List ℕ) (a : ℕ) (t t' : List ℕ) (r : Option ℕ) → WroteInPart w a t t' r
    → ((written_number r ≡ 18) ↔ (length t < a + length w)) × ((written_values r ≡ (a + length w) ∷ []) ↔ (a + length w ≤ length t))
wrote_number w a t t' (Some n) v = (
  (λ e. absurd (omega arith), λ h. absurd (omega (arith, v.next, v.within))),
  (λ e. omega (arith, v.next, v.within), λ h. ap (λ (k : ℕ). k ∷ []) v.next),
)
wrote_number w a t t' None v = (
  (λ e. v.0, λ h. refl),
  (λ e. let z : ◌≡◌ {A = ℕ} 0 1 = ap length e in absurd (omega arith), λ h. absurd (omega (arith, v.0))),
)

pub in_part : (w : List ℕ) (a : ℕ) (t t' : List ℕ) (r : Option ℕ) → a ≤ length t → Wrote w a t t' r → WroteInPart w a t t' r
in_part w a t t' (Some n) h v = v
in_part w a t t' None h v = (v.0, begun_none w a t t' h v.1)

module _ (w x : List ℕ) (a : ℕ) (t t' : List ℕ) where
  pub wrote_on : (n : ℕ) (t'' : List ℕ) (r : Option ℕ) → Appended w a t t' n → WroteInPart x n t' t'' r → WroteInPart (w ++ x) a t t'' r
  wrote_on n t'' (Some m) p v = appended_on p v
  wrote_on n t'' None p v = (simp length-append (omega (arith, v.0, p.next, appended_kept p)), begun_on p v.1)

  -- where a piece does not fit, no more does
  pub wrote_full : WroteInPart w a t t' None → WroteInPart (w ++ x) a t t' None
  wrote_full v = (simp length-append (omega (arith, v.0)), begun_first x v.1)

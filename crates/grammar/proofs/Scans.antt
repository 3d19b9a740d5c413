-- Laws of the scans. Assumes nothing.
--     run_past, run_only, past-stops, run_is, past_is      a longest run and what follows it, and that there is no other
--     prefix-begins, begins_prefix, not_prefix, prefix-not, prefix-cut   the test of a beginning
--     found, from_first, before-first, from-lacks, before-lacks   the first mark
--     beyond-is, up_to                       what follows the first mark
use mathlib.Core.Path.{◌≡◌, refl, sym, ap, ap₂, ◌∙◌, subst}
use Prim.Native.Nat.{ℕ, ◌≤◌}
use native.Mathlib.Omega.{arith}
use mathlib.Core.Bool.{Bool, true, false, cond, true≢false}
use mathlib.Core.List.{[], ◌∷◌, ◌++◌, append-nil, append_assoc, nil≢cons, tail-eq_of_cons-eq}
use lib.ListN.{length, drop, length-append}
use lib.Seq.{drop-append_seam}
use lib.Dec.{eqb}
use Rattle.grammar.specs.Words.{Bytes, Only, Stops, Begins, Lacks, UpTo, closed, unclosed}
use Rattle.grammar.specs.Scan.{run, past, prefix, from, before, beyond}
use Rattle.scan.proofs.Every.{both, by-test}
use Rattle.grammar.proofs.Tests.{not_both, eqb_same, eqb_eq}

-- ---- runs

pub run_past : (p : ℕ → Bool) (s : Bytes) → s ≡ run p s ++ past p s
unfolding run past
run_past p [] = refl
run_past p (a ∷ s) = let ih = run_past p s in by-test (p a) (λ e. rw e (ap (a ∷◌) ih)) (λ e. rw e)

pub run_only : (p : ℕ → Bool) (s : Bytes) → Only p (run p s)
unfolding run
run_only p [] = tt
run_only p (a ∷ s) = let ih = run_only p s in by-test (p a) (λ e. subst (λ b. Only p (cond b (a ∷ run p s) [])) (sym e) (e, ih)) (λ e. rw e tt)

pub past-stops : (p : ℕ → Bool) (s : Bytes) → Stops p (past p s)
unfolding past
past-stops p [] = tt
past-stops p (a ∷ s) = let ih = past-stops p s in by-test (p a) (λ e. rw e ih) (λ e. subst (λ b. Stops p (cond b (past p s) (a ∷ s))) (sym e) e)

-- they are the only such run and rest
pub run_is : (p : ℕ → Bool) (w after : Bytes) → Only p w → Stops p after → run p (w ++ after) ≡ w
unfolding run
run_is p [] [] o h = refl
run_is p [] (a ∷ s) o h = rw h
run_is p (a ∷ w) after o h = rw o.0 (ap (a ∷◌) (run_is p w after o.1 h))

pub past_is : (p : ℕ → Bool) (w after : Bytes) → Only p w → Stops p after → past p (w ++ after) ≡ after
unfolding past
past_is p [] [] o h = refl
past_is p [] (a ∷ s) o h = rw h
past_is p (a ∷ w) after o h = rw o.0 (past_is p w after o.1 h)

-- ---- marks

pub prefix-self : (m r : Bytes) → prefix m (m ++ r) ≡ true
prefix-self [] r = refl
prefix-self (a ∷ m) r = rw (eqb_same a) (prefix-self m r)

pub prefix-begins : (m s : Bytes) → prefix m s ≡ true → Begins m s
prefix-begins [] s e = (s, refl)
prefix-begins (a ∷ m) [] e = absurd (true≢false (sym e))
prefix-begins (a ∷ m) (b ∷ s) e =
    let k = both {a = eqb a b} {b = prefix m s} e in
    let ih = prefix-begins m s k.1 in
    (ih.0, ap₂ ◌∷◌ (sym (eqb_eq a b k.0)) ih.1)

pub begins_prefix : (m s : Bytes) → Begins m s → prefix m s ≡ true
begins_prefix m s h = rw h.1 (prefix-self m h.0)

pub not_prefix : (m s : Bytes) → (Begins m s → ⊥) → prefix m s ≡ false
not_prefix m s h = by-test (prefix m s) (λ e. absurd (h (prefix-begins m s e))) (λ e. e)

pub prefix-not : (m s : Bytes) → prefix m s ≡ false → Begins m s → ⊥
prefix-not m s e h = not_both (prefix m s) (begins_prefix m s h) e

-- whether m begins a string is settled by as many of its bytes as m has
pub prefix-cut : (m w s : Bytes) → length m ≤ length w → prefix m (w ++ s) ≡ prefix m w
prefix-cut [] w s h = refl
prefix-cut (a ∷ m) [] s h = absurd (omega (arith, h))
prefix-cut (a ∷ m) (b ∷ w) s h = rw (prefix-cut m w s (omega arith))

-- m is the only m in m
pub itself : (m : Bytes) → (x y : Bytes) → m ≡ x ++ (m ++ y) → y ≡ []
itself m x [] e = refl
itself m x (a ∷ y) e = absurd (omega (arith, simp length-append at (ap length e)))

pub before-from : (m s : Bytes) → s ≡ before m s ++ from m s
unfolding before from
before-from m [] = refl
before-from m (a ∷ s) = let ih = before-from m s in by-test (prefix m (a ∷ s)) (λ e. rw e) (λ e. rw e (ap (a ∷◌) ih))

pub nil-no_mark : (x s : Bytes) (a : ℕ) → ◌≡◌ {A = Bytes} [] (x ++ (a ∷ s)) → ⊥
nil-no_mark [] s a e = nil≢cons e
nil-no_mark (b ∷ x) s a e = nil≢cons e

-- what the scan for a mark finds: no mark at all, or the first
pub data Found (m s : Bytes) : Type 0 where
  nowhere : from m s ≡ [] → Lacks m s → Found m s
  at_first : (r : Bytes) → from m s ≡ m ++ r → ((x y : Bytes) → before m s ++ m ≡ x ++ (m ++ y) → y ≡ []) → Found m s

found-step : (b a : ℕ) (m s : Bytes) → prefix (b ∷ m) (a ∷ s) ≡ false → Found (b ∷ m) s → Found (b ∷ m) (a ∷ s)
unfolding from before
found-step b a m s e (nowhere f l) = nowhere (rw e f) k
  where
    k : Lacks (b ∷ m) (a ∷ s)
    k [] y q = prefix-not (b ∷ m) (a ∷ s) e (y, q)
    k (c ∷ x) y q = l x y (tail-eq_of_cons-eq q)
found-step b a m s e (at_first r f l) = at_first r (rw e f) (rw e k)
  where
    k : (x y : Bytes) → (a ∷ before (b ∷ m) s) ++ (b ∷ m) ≡ x ++ ((b ∷ m) ++ y) → y ≡ []
    k [] y q =
        absurd (prefix-not (b ∷ m) (a ∷ s) e (
          y ++ r,
          ap (a ∷◌) (before-from (b ∷ m) s ∙ ap (before (b ∷ m) s ++◌) f)
              ∙ sym (append_assoc (a ∷ before (b ∷ m) s) (b ∷ m) r) ∙ ap (◌++ r) q ∙ append_assoc (b ∷ m) y r,
        ))
    k (c ∷ x) y q = l x y (tail-eq_of_cons-eq q)

pub found : (b : ℕ) (m s : Bytes) → Found (b ∷ m) s
unfolding from before
found b m [] = nowhere refl (λ x y e. nil-no_mark x (m ++ y) b e)
found b m (a ∷ s) =
    let ih = found b m s in
    by-test (prefix (b ∷ m) (a ∷ s))
    (λ e. let h = prefix-begins (b ∷ m) (a ∷ s) e in at_first h.0 (rw e h.1) (rw e (itself (b ∷ m))))
    (λ e. found-step b a m s e ih)

-- the scan finds the first mark, where one is given
not_yet : (b a : ℕ) (m x s : Bytes) → ((u v : Bytes) → a ∷ (x ++ (b ∷ m)) ≡ u ++ ((b ∷ m) ++ v) → v ≡ [])
    → prefix (b ∷ m) (a ∷ ((x ++ (b ∷ m)) ++ s)) ≡ false
not_yet b a m x s f = not_prefix (b ∷ m) (a ∷ ((x ++ (b ∷ m)) ++ s)) k
  where
    k : Begins (b ∷ m) (a ∷ ((x ++ (b ∷ m)) ++ s)) → ⊥
    k h =
        let w : Bytes = a ∷ (x ++ (b ∷ m)) in
        let long : length (b ∷ m) ≤ length w = simp length-append (omega arith) in
        let g = prefix-begins (b ∷ m) w (sym (prefix-cut (b ∷ m) w s long) ∙ begins_prefix (b ∷ m) (w ++ s) h) in
        let z : g.0 ≡ [] = f [] g.0 g.1 in
        omega (arith, simp length-append at (ap length g.1), ap length z)

pub from_first : (b : ℕ) (m x s : Bytes) → ((u v : Bytes) → x ++ (b ∷ m) ≡ u ++ ((b ∷ m) ++ v) → v ≡ [])
    → from (b ∷ m) ((x ++ (b ∷ m)) ++ s) ≡ (b ∷ m) ++ s
unfolding from
from_first b m [] s f = rw (prefix-self (b ∷ m) s)
from_first b m (a ∷ x) s f = rw (not_yet b a m x s f) (from_first b m x s (λ u v e. f (a ∷ u) v (ap (a ∷◌) e)))

pub before-first : (b : ℕ) (m x s : Bytes) → ((u v : Bytes) → x ++ (b ∷ m) ≡ u ++ ((b ∷ m) ++ v) → v ≡ [])
    → before (b ∷ m) ((x ++ (b ∷ m)) ++ s) ≡ x
unfolding before
before-first b m [] s f = rw (prefix-self (b ∷ m) s)
before-first b m (a ∷ x) s f = rw (not_yet b a m x s f) (ap (a ∷◌) (before-first b m x s (λ u v e. f (a ∷ u) v (ap (a ∷◌) e))))

pub from-lacks : (m s : Bytes) → Lacks m s → from m s ≡ []
unfolding from
from-lacks m [] l = refl
from-lacks m (a ∷ s) l =
    rw (not_prefix m (a ∷ s) (λ h. l [] h.0 h.1)) (from-lacks m s (λ x y e. l (a ∷ x) y (ap (a ∷◌) e)))

pub before-lacks : (m s : Bytes) → Lacks m s → before m s ≡ s
before-lacks m s l = sym (before-from m s ∙ ap (before m s ++◌) (from-lacks m s l) ∙ append-nil (before m s))

pub beyond-is : (b : ℕ) (m after w : Bytes) → UpTo (b ∷ m) after w → beyond (b ∷ m) (w ++ after) ≡ after
unfolding beyond
beyond-is b m after w (closed c) =
    let g : (u v : Bytes) → c.front ++ (b ∷ m) ≡ u ++ ((b ∷ m) ++ v) → v ≡ [] = λ u v e. c.first u v (c.ends ∙ e) in
    ap (λ z. drop (length (b ∷ m)) (from (b ∷ m) (z ++ after))) c.ends
    ∙ ap (drop (length (b ∷ m))) (from_first b m c.front after g)
    ∙ drop-append_seam (b ∷ m) after
beyond-is b m after w (unclosed l) = ap (drop (length (b ∷ m))) (ap (from (b ∷ m)) (append-nil w) ∙ from-lacks (b ∷ m) w l)

pub up_to : (b : ℕ) (m s : Bytes) → (w : Bytes) × (s ≡ w ++ beyond (b ∷ m) s) × UpTo (b ∷ m) (beyond (b ∷ m) s) w
unfolding beyond
up_to b m s = go (found b m s)
  where
    go : Found (b ∷ m) s → (w : Bytes) × (s ≡ w ++ beyond (b ∷ m) s) × UpTo (b ∷ m) (beyond (b ∷ m) s) w
    go (nowhere f l) = rw f (s, sym (append-nil s), unclosed l)
    go (at_first r f l) =
        let d : drop (length (b ∷ m)) (from (b ∷ m) s) ≡ r = ap (drop (length (b ∷ m))) f ∙ drop-append_seam (b ∷ m) r in (
          before (b ∷ m) s ++ (b ∷ m),
          before-from (b ∷ m) s ∙ ap (before (b ∷ m) s ++◌) (f ∙ ap ((b ∷ m) ++◌) (sym d)) ∙ sym (append_assoc (before (b ∷ m) s) (b ∷ m) _),
          closed (record { front = before (b ∷ m) s; ends = refl; first = l }),
        )

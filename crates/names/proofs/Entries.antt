-- Laws of any list of names, from tests that are computed. Assumes nothing.
--     run-over                              a run of bytes over a name
--     distinct_at, apart_at                 a test over a list of names, at each entry
--     number-back, number-there, number-nowhere   what a number says of the name, and the name of the number
--     in_there, in_back                     the same of bytes that are looked for
use Rattle.std.specs.Prelude.{Some, None}
use Prim.Native.Nat.{ℕ, zero, suc, ◌+◌, ◌<◌}
use mathlib.Core.Path.{◌≡◌, refl, sym, ap, ◌∙◌}
use mathlib.Core.Bool.{Bool, true, false, not, ◌&&◌, ◌||◌, false≢true, true≢false}
use mathlib.Core.List.{List, [], ◌∷◌, ◌++◌}
use native.Mathlib.Omega.{arith}
use native.Mathlib.Nat.{add-zero, add-suc, suc-add, zero-add}
use lib.ListN.{length, get_or}
use borrow.Author.Tests.{not-true}
use Rattle.scan.specs.Bytes.{run_length_of}
use Rattle.scan.specs.Names.{same_bytes_of, same_folded}
pub use Rattle.scan.specs.Every.{every}
pub use Rattle.scan.proofs.Every.{both, every-at, every-as}
use Rattle.scan.proofs.Naming.{same_eq, same_refl, folded_map, map_folded, same_folded-sym}
use Rattle.names.specs.Numbers.{number_from, is_in}

-- what is not true is false
pub not_so : (t : Bool) → (t ≡ true → ⊥) → t ≡ false
not_so true h = absurd (h refl)
not_so false h = refl

pub folded_trans : (a b c : List ℕ) → same_folded a b ≡ true → same_folded b c ≡ true → same_folded a c ≡ true
folded_trans a b c e f = map_folded a c (folded_map a b e ∙ folded_map b c f)

-- ---- tests over a list of names
-- a run of bytes that pass a test goes on behind bytes that all pass it
pub run-over : (t : ℕ → Bool) (n rest : List ℕ) → every t n ≡ true → run_length_of t (n ++ rest) ≡ length n + run_length_of t rest
unfolding run_length_of
run-over t [] rest e = sym (zero-add (run_length_of t rest))
run-over t (b ∷ n) rest e =
    let here : t b ≡ true = (both {b = every t n} e).0 in
    rw (here, run-over t n rest (both {a = t b} e).1) (sym (suc-add (length n) (run_length_of t rest)))

abbrev pub differs : List ℕ → List ℕ → Bool
differs n m = not (same_folded n m)

-- none is one of the later ones
abbrev pub distinct : List (List ℕ) → Bool
distinct [] = true
distinct (n ∷ ns) = every (differs n) ns && distinct ns

-- none is one of the others
abbrev pub apart : List (List ℕ) → List (List ℕ) → Bool
apart ms ns = every (λ (m : List ℕ). every (differs m) ns) ms

folded_sym_false : (a b : List ℕ) → same_folded a b ≡ false → same_folded b a ≡ false
folded_sym_false a b e = not_so (same_folded b a) (λ f. true≢false (sym (same_folded-sym b a f) ∙ e))

pub distinct_at : (ns : List (List ℕ)) → distinct ns ≡ true → (i j : ℕ) → i < length ns → j < length ns → (i ≡ j → ⊥)
    → same_folded (get_or ns i []) (get_or ns j []) ≡ false
distinct_at [] e i j h l ne = absurd (omega arith)
distinct_at (n ∷ ns) e zero zero h l ne = absurd (ne refl)
distinct_at (n ∷ ns) e zero (suc j) h l ne = not-true _ (every-at (differs n) ns [] (both {b = distinct ns} e).0 j (omega arith))
distinct_at (n ∷ ns) e (suc i) zero h l ne =
    folded_sym_false n (get_or ns i []) (not-true _ (every-at (differs n) ns [] (both {b = distinct ns} e).0 i (omega arith)))
distinct_at (n ∷ ns) e (suc i) (suc j) h l ne =
    distinct_at ns (both {a = every (differs n) ns} e).1 i j (omega arith) (omega arith) (λ q. ne (ap suc q))

pub apart_at : (ms ns : List (List ℕ)) → apart ms ns ≡ true → (i j : ℕ) → i < length ms → j < length ns
    → same_folded (get_or ms i []) (get_or ns j []) ≡ false
apart_at ms ns e i j h l =
    not-true _ (every-at (differs (get_or ms i [])) ns [] (every-at (λ (m : List ℕ). every (differs m) ns) ms [] e i h) j l)

-- ---- what an answer says
-- the number r counts from k on, and the name s is the one with that number
pub record Numbered (k : ℕ) (s : List ℕ) (ns : List (List ℕ)) (r : ℕ) : Type 0 where
  pub offset : ℕ
  pub counts : r ≡ k + offset
  pub within : offset < length ns
  pub same : same_folded s (get_or ns offset []) ≡ true

pub at_eq : {a b : ℕ} → Some a ≡ Some b → a ≡ b
at_eq e = cc

pub nothing-at : {a : ℕ} {X : Type 0} → None ≡ Some a → X
nothing-at e = absurd (let z : ◌≡◌ {A = ℕ} 0 1 = cc in omega arith)

pub number-back : (k : ℕ) (s : List ℕ) (ns : List (List ℕ)) (r : ℕ) → number_from k s ns ≡ Some r → Numbered k s ns r
unfolding number_from
number-back k s [] r e = nothing-at e
number-back k s (n ∷ ns) r e = by (same_folded s n) refl (number-back (suc k) s ns r)
  where
    by : (t : Bool) → same_folded s n ≡ t → (number_from (suc k) s ns ≡ Some r → Numbered (suc k) s ns r) → Numbered k s (n ∷ ns) r
    by true f g = record { offset = 0; counts = sym (at_eq (rw f at e)) ∙ sym (add-zero k); within = omega arith; same = f }
    by false f g =
        let w = g (rw f at e) in
        record {
          offset = suc w.offset;
          counts = w.counts ∙ suc-add k w.offset
              ∙ sym (add-suc k w.offset);
          within = omega (arith, w.within);
          same = w.same;
        }

-- among names that are distinct, whatever is the i-th but for the case of letters has the number i
pub number-there : (k : ℕ) (s : List ℕ) (ns : List (List ℕ)) → distinct ns ≡ true → (i : ℕ) → i < length ns → same_folded s (get_or ns i []) ≡ true
    → number_from k s ns ≡ Some (k + i)
unfolding number_from
number-there k s [] e i h f = absurd (omega arith)
number-there k s (n ∷ ns) e zero h f = rw (f, add-zero k)
number-there k s (n ∷ ns) e (suc i) h f =
    rw (other, add-suc k i, ← (suc-add k i)) (number-there (suc k) s ns (both {a = every (differs n) ns} e).1 i (omega arith) f)
  where
    apart_here : same_folded n (get_or ns i []) ≡ false
    apart_here = not-true _ (every-at (differs n) ns [] (both {b = distinct ns} e).0 i (omega arith))

    other : same_folded s n ≡ false
    other = not_so (same_folded s n) (λ g. true≢false (sym (folded_trans n s (get_or ns i []) (same_folded-sym s n g) f) ∙ apart_here))

-- a name that is none of them has no number
pub number-nowhere : (k : ℕ) (s : List ℕ) (ns : List (List ℕ)) → every (differs s) ns ≡ true → number_from k s ns ≡ None
unfolding number_from
number-nowhere k s [] e = refl
number-nowhere k s (n ∷ ns) e =
    rw (not-true (same_folded s n) (both {b = every (differs s) ns} e).0) (number-nowhere (suc k) s ns (both {a = differs s n} e).1)

pub in_there : (ns : List (List ℕ)) (i : ℕ) → i < length ns → is_in (get_or ns i []) ns ≡ true
unfolding is_in
in_there [] i h = absurd (omega arith)
in_there (n ∷ ns) zero h = rw (same_refl n)
in_there (n ∷ ns) (suc i) h = rw (in_there ns i (omega arith)) (or_true (same_bytes_of (get_or ns i []) n))
  where
    or_true : (t : Bool) → (t || true) ≡ true
    or_true true = refl
    or_true false = refl

pub in_back : (s : List ℕ) (ns : List (List ℕ)) → is_in s ns ≡ true → (i : ℕ) × (i < length ns) × (s ≡ get_or ns i [])
unfolding is_in
in_back s [] e = absurd (false≢true e)
in_back s (n ∷ ns) e = by (same_bytes_of s n) refl (in_back s ns)
  where
    by : (t : Bool) → same_bytes_of s n ≡ t → (is_in s ns ≡ true → (i : ℕ) × (i < length ns) × (s ≡ get_or ns i []))
        → (i : ℕ) × (i < suc (length ns)) × (s ≡ get_or (n ∷ ns) i [])
    by true f g = (0, omega arith, same_eq s n f)
    by false f g =
        let w = g (rw f at e) in
        (suc w.0, omega (arith, w.1), w.2)

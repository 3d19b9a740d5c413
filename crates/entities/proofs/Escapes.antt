-- Laws of escaped text. Assumes nothing.
--     way                            how a byte is written, by cases
--     plain-rest, escape_rest        of a byte that is no `&`, `<` or `>`
--     escaped-append, escaped-run    a text in two parts; a run of bytes that stand for themselves, and what follows it
--     Escaping, starts, goes, full, last   the loop that writes a text piece by piece
use Rattle.std.specs.Prelude.{Option, None}
use Prim.Native.Nat.{ℕ, suc, ◌+◌, ◌-◌, ◌≤◌, ◌<◌, min}
use mathlib.Core.Path.{◌≡◌, refl, sym, ap, ◌∙◌}
use mathlib.Core.Bool.{Bool, true, false, cond, not, ◌&&◌, false≢true, and-eq-true_iff}
use mathlib.Core.List.{List, [], ◌∷◌, ◌++◌, append-nil, append_assoc}
use native.Mathlib.Omega.{arith}
use native.Mathlib.Numerals.{add-one}
use lib.ListN.{length, get_or, drop, length-take, length-drop, drop_of_length-le, take-append-drop}
use lib.Seq.{length-sets, drop-drop, drop-cons, get_or-take, get_or-drop}
use lib.Dec.{eqb}
use borrow.Author.Tests.{eqb-true, eqb-false, ne_eqb, not-false}
use Rattle.scan.specs.Part.{part}
use Rattle.scan.specs.Posts.{Ends, Appended, Wrote, WroteInPart}
use Rattle.scan.proofs.Runs.{run-all, run_on, ends-here, ends-out}
use Rattle.scan.proofs.Stores.{appended_on, in_part, wrote_on, wrote_full}
use Rattle.entities.specs.Escape.{plain, escape_byte, escaped}
use Rattle.entities.specs.Steps.{escaped_run}

-- ---- a byte
module _ (q : Bool) (b : ℕ) (a : b ≡ 38 → ⊥) (l : b ≡ 60 → ⊥) (g : b ≡ 62 → ⊥) where
  pub plain-rest : plain q b ≡ not (q && eqb b 34)
  unfolding plain
  plain-rest = rw (ne_eqb b 38 a, ne_eqb b 60 l, ne_eqb b 62 g)

  pub escape_rest : escape_byte q b ≡ cond (q && eqb b 34) (38 ∷ 113 ∷ 117 ∷ 111 ∷ 116 ∷ 59 ∷ []) (b ∷ [])
  unfolding escape_byte
  escape_rest = rw (ne_eqb b 38 a, ne_eqb b 60 l, ne_eqb b 62 g)

  pub escape_quote : plain q b ≡ false → escape_byte q b ≡ 38 ∷ 113 ∷ 117 ∷ 111 ∷ 116 ∷ 59 ∷ []
  escape_quote e = rw (escape_rest, not-false (q && eqb b 34) (sym plain-rest ∙ e))

pub plain-quote : (q : Bool) → plain q 34 ≡ not q
unfolding plain
plain-quote true = refl
plain-quote false = refl

pub plain_other : (q : Bool) (b : ℕ) → (b ≡ 38 → ⊥) → (b ≡ 60 → ⊥) → (b ≡ 62 → ⊥) → (b ≡ 34 → ⊥) → plain q b ≡ true
plain_other true b a l g h = rw (plain-rest true b a l g, ne_eqb b 34 h)
plain_other false b a l g h = plain-rest false b a l g

-- it is one of the four, or is written as it is
pub data Way (q : Bool) (b : ℕ) : Type 0 where
  amp : b ≡ 38 → Way q b
  lt : b ≡ 60 → Way q b
  gt : b ≡ 62 → Way q b
  quot : b ≡ 34 → q ≡ true → Way q b
  self : (b ≡ 38 → ⊥) → plain q b ≡ true → escape_byte q b ≡ b ∷ [] → Way q b

pub way : (q : Bool) (b : ℕ) → Way q b
way q b = by (eqb b 38) (eqb b 60) (eqb b 62) (q && eqb b 34) refl refl refl refl
  where
    by : (t u v w : Bool) → eqb b 38 ≡ t → eqb b 60 ≡ u → eqb b 62 ≡ v → q && eqb b 34 ≡ w → Way q b
    by true u v w e f g h = amp (eqb-true b 38 e)
    by false true v w e f g h = lt (eqb-true b 60 f)
    by false false true w e f g h = gt (eqb-true b 62 g)
    by false false false true e f g h =
        let p : (q ≡ true) × (eqb b 34 ≡ true) = (and-eq-true_iff q (eqb b 34)).0 h in quot (eqb-true b 34 p.1) p.0
    by false false false false e f g h =
        let a : b ≡ 38 → ⊥ = eqb-false b 38 e in
        let l : b ≡ 60 → ⊥ = eqb-false b 60 f in
        let r : b ≡ 62 → ⊥ = eqb-false b 62 g in
        self a (plain-rest q b a l r ∙ rw h) (escape_rest q b a l r ∙ rw h)

pub plain-self : (q : Bool) (b : ℕ) → plain q b ≡ true → escape_byte q b ≡ b ∷ []
unfolding plain escape_byte
plain-self q b e =
    elim (way q b) [
      | amp w ↦ absurd (false≢true (rw w at e))
      | lt w ↦ absurd (false≢true (rw w at e))
      | gt w ↦ absurd (false≢true (rw w at e))
      | quot w v ↦ absurd (false≢true (rw (w, v) at e))
      | self a p w ↦ w
    ]

-- ---- a text
pub escaped-cons : (q : Bool) (b : ℕ) (s : List ℕ) → escaped q (b ∷ s) ≡ escape_byte q b ++ escaped q s
unfolding escaped
escaped-cons q b s = refl

pub escaped-append : (q : Bool) (a b : List ℕ) → escaped q (a ++ b) ≡ escaped q a ++ escaped q b
unfolding escaped
escaped-append q [] b = refl
escaped-append q (x ∷ a) b = rw (escaped-append q a b, append_assoc)

-- bytes that stand for themselves
pub escaped-plain : (q : Bool) (w : List ℕ) → ((k : ℕ) → k < length w → plain q (get_or w k 0) ≡ true) → escaped q w ≡ w
unfolding escaped
escaped-plain q [] h = refl
escaped-plain q (b ∷ w) h = rw (plain-self q b (h 0 (omega arith)), escaped-plain q w (λ k l. h (suc k) (omega arith)))

module _ (q : Bool) (s : List ℕ) (i e : ℕ) (r : Ends (plain q) s i e) where
  pub escaped-part : escaped q (part i e s) ≡ part i e s
  escaped-part = escaped-plain q (part i e s) (λ k h. by k (simp (length-take, length-drop) at h))
    where
      by : (k : ℕ) → k < min (e - i) (length s - i) → plain q (get_or (part i e s) k 0) ≡ true
      by k h =
          rw (get_or-take (e - i) (drop i s) k 0 (omega arith), get_or-drop i s k 0) (run-all (plain q) s i (i + k) (omega arith) (omega (arith, r.is)))

  pub escaped-run : escaped q (drop i s) ≡ part i e s ++ escaped q (drop e s)
  escaped-run =
      let l : i + (e - i) ≡ e = omega (arith, r.after) in
      ap (escaped q) (sym (take-append-drop (e - i) (drop i s)))
      ∙ (escaped-append q (part i e s) (drop (e - i) (drop i s)) ∙ rw (escaped-part, drop-drop, l))

  pub escaped-run_on : e < length s → escaped q (drop i s) ≡ escaped_run q s i e ++ escaped q (drop (e + 1) s)
  escaped-run_on h = rw (escaped-run, drop-cons s e 0 h, escaped-cons, add-one, append_assoc)

  pub escaped-run_out : length s ≤ e → escaped q (drop i s) ≡ part i e s
  unfolding escaped
  escaped-run_out h = rw (escaped-run, drop_of_length-le s h, append-nil)

-- ---- the loop: what is written for s up to its place i stands in the table t from a place on, up to n
pub record Escaping (q : Bool) (s : List ℕ) (a : ℕ) (t : List ℕ) (i n : ℕ) (t' : List ℕ) : Type 0 where
  pub done : List ℕ
  pub put : Appended done a t t' n
  pub is : done ++ escaped q (drop i s) ≡ escaped q s
  pub place : i ≤ length s
  pub kept : length t' ≡ length t

pub starts : (q : Bool) (s : List ℕ) (a : ℕ) (t : List ℕ) → a ≤ length t → Escaping q s a t 0 a t
starts q s a t h =
    record {
      done = [];
      put = record { next = omega arith; within = h; laid = refl };
      is = refl;
      place = omega arith;
      kept = refl;
    }

module _ (q : Bool) (s : List ℕ) (a : ℕ) (t : List ℕ) (i n : ℕ) (t' : List ℕ) (e : ℕ) (t'' : List ℕ) (g : Escaping q s a t i n t')
    (r : Ends (plain q) s i e) where
  -- a run and the byte after it
  all : e < length s → g.done ++ escaped_run q s i e ++ escaped q (drop (e + 1) s) ≡ escaped q s
  all h = rw (append_assoc, ← (escaped-run_on q s i e r h)) g.is

  pub goes : (m : ℕ) → e < length s → Appended (escaped_run q s i e) n t' t'' m → Escaping q s a t (e + 1) m t''
  goes m h p =
      record {
        done = g.done ++ escaped_run q s i e;
        put = appended_on g.put p;
        is = all h;
        place = omega arith;
        kept = rw (p.laid, length-sets) g.kept;
      }

  pub full : e < length s → WroteInPart (escaped_run q s i e) n t' t'' None → WroteInPart (escaped q s) a t t'' None
  full h v =
      let x = escaped_run q s i e in
      rw (← (all h)) (wrote_full (g.done ++ x) (escaped q (drop (e + 1) s)) a t t'' (wrote_on g.done x a t t' n t'' None g.put v))

  -- the last run
  pub last : (o : Option ℕ) → length s ≤ e → Wrote (part i e s) n t' t'' o → WroteInPart (escaped q s) a t t'' o
  last o h v =
      let f : n ≤ length t' = omega (arith, g.put.within, g.kept) in
      rw (← g.is, escaped-run_out q s i e r h) (wrote_on g.done (part i e s) a t t' n t'' o g.put (in_part (part i e s) n t' t'' o f v))

pub ruleset run_ends = (run_on, ends-here, ends-out)

-- Laws of texts with references. Assumes nothing.
--     decoded_from-skip, decoded-nil, decoded-byte, decoded-to, decoded-literal   one step of the definition
--     decoded-append, decoded-plain              what has no `&`
--     decoded-run, run-mark                      such a run within a text, and the `&` after it
--     decoded-short                              what is read is never longer than the text
--     stepped_to, stepped_literal                one `&` passed
--     Decoding                                   what the program has written so far
use Rattle.std.specs.Prelude.{Option, Some, None}
use Prim.Native.Nat.{ℕ, zero, suc, ◌+◌, ◌-◌, ◌≤◌, ◌<◌}
use mathlib.Core.Path.{◌≡◌, refl, sym, ap, ◌∙◌}
use mathlib.Core.Bool.{Bool, true, false}
use mathlib.Core.List.{List, [], ◌∷◌, ◌++◌, append-nil, append_assoc}
use native.Mathlib.Omega.{arith}
use native.Mathlib.Numerals.{add-one}
use lib.ListN.{length, get_or, drop, set, length-append, length-drop, take-append-drop, drop_of_length-le}
use lib.Seq.{sets, length-sets, drop-cons, drop-drop, get_or-drop, get_or-take, length-take-le}
use lib.Dec.{eqb}
use borrow.Author.Tests.{ne_eqb, eqb-true, eqb-false, not-true, not-false}
use Rattle.scan.specs.Bytes.{other}
use Rattle.scan.specs.Part.{part}
use Rattle.scan.specs.Posts.{Ends, Appended}
use Rattle.scan.proofs.Runs.{run-all}
use Rattle.scan.proofs.Stores.{sets_on}
use Rattle.utf8.specs.Utf8.{encode}
use Rattle.utf8.proofs.Utf8Laws.{encode-short}
use Rattle.entities.specs.Reference.{name_length, reference}
use Rattle.entities.specs.Steps.{RefersTo, Stepped}
use Rattle.entities.specs.Decode.{decoded_from, decoded}
use Rattle.entities.proofs.Enough.{taken, reference_run, reference-run, length_run}
use Rattle.entities.proofs.References.{Referred, reference-inv}

-- ---- one step
pub decoded_from-skip : (k : ℕ) (s : List ℕ) → decoded_from k s ≡ decoded (drop k s)
unfolding decoded_from decoded
decoded_from-skip zero s = refl
decoded_from-skip (suc k) [] = refl
decoded_from-skip (suc k) (b ∷ s) = decoded_from-skip k s

pub decoded-nil : decoded [] ≡ []
unfolding decoded
decoded-nil = refl

pub decoded-byte : (b : ℕ) (s : List ℕ) → (b ≡ 38 → ⊥) → decoded (b ∷ s) ≡ b ∷ decoded s
unfolding decoded
decoded-byte b s n = rw (ne_eqb b 38 n)

pub decoded-to : (s : List ℕ) {c : ℕ} → reference s ≡ Some c → decoded (38 ∷ s) ≡ encode c ++ decoded (drop (name_length s + 1) s)
unfolding decoded
decoded-to s {c} e = rw e (ap (λ (l : List ℕ). encode c ++ l) (decoded_from-skip (name_length s + 1) s))

pub decoded-literal : (s : List ℕ) → reference s ≡ None → decoded (38 ∷ s) ≡ 38 ∷ decoded s
unfolding decoded
decoded-literal s e = rw e

-- a reference by the bytes that the program takes
pub decoded-taken : (s : List ℕ) {c : ℕ} → reference_run s ≡ Some c → decoded (38 ∷ s) ≡ encode c ++ decoded (drop (taken s + 1) s)
decoded-taken s {c} e =
    let r : reference s ≡ Some c = reference-run s ∙ e in
    decoded-to s r ∙ rw (length_run s (reference-inv s r).ends)

-- ---- no `&`
pub decoded-append : (a b : List ℕ) → ((k : ℕ) → k < length a → get_or a k 0 ≡ 38 → ⊥) → decoded (a ++ b) ≡ a ++ decoded b
decoded-append [] b n = refl
decoded-append (x ∷ a) b n =
    decoded-byte x (a ++ b) (n 0 (omega arith)) ∙ ap (λ (l : List ℕ). x ∷ l) (decoded-append a b (λ k h. n (suc k) (omega arith)))

pub decoded-plain : (s : List ℕ) → ((k : ℕ) → k < length s → get_or s k 0 ≡ 38 → ⊥) → decoded s ≡ s
decoded-plain s n =
    ap decoded (sym (append-nil s)) ∙ (decoded-append s [] n ∙ (ap (λ (l : List ℕ). s ++ l) decoded-nil ∙ append-nil s))

-- ---- the length
short : (k : ℕ) (s : List ℕ) → length (decoded_from k s) ≤ length s - k
unfolding decoded_from
short k [] = omega arith
short (suc k) (b ∷ s) = omega (arith, short k s)
short zero (b ∷ s) = omega (arith, by (eqb b 38) refl (λ k. short k s))
  where
    referring : (x : Option ℕ) → reference s ≡ x → ((k : ℕ) → length (decoded_from k s) ≤ length s - k) → eqb b 38 ≡ true
        → length (decoded_from zero (b ∷ s)) ≤ suc (length s)
    referring (Some c) e rec t =
        let w : Referred s c = reference-inv s e in
        rw (t, e, length-append) (omega (arith, encode-short c, rec (name_length s + 1), w.long, w.within))
    referring None e rec t = rw (t, e) (omega (arith, rec 0))

    by : (t : Bool) → eqb b 38 ≡ t → ((k : ℕ) → length (decoded_from k s) ≤ length s - k) → length (decoded_from zero (b ∷ s)) ≤ suc (length s)
    by true t rec = referring (reference s) refl rec t
    by false t rec = rw t (omega (arith, rec 0))

pub decoded-short : (s : List ℕ) → length (decoded s) ≤ length s
unfolding decoded
decoded-short s = let l : length (decoded_from 0 s) ≤ length s = omega (arith, short 0 s) in l

-- ---- within a text
part_length : (s : List ℕ) (i e : ℕ) → e ≤ length s → length (part i e s) ≡ e - i
part_length s i e h = length-take-le (e - i) (drop i s) (simp length-drop (omega arith))

-- a run without `&`
pub decoded-run : (s : List ℕ) (i e : ℕ) → Ends (other 38) s i e → decoded (drop i s) ≡ part i e s ++ decoded (drop e s)
decoded-run s i e w =
    ap decoded whole ∙ decoded-append (part i e s) (drop e s) plain
  where
    whole : drop i s ≡ part i e s ++ drop e s
    whole =
        let z : i + (e - i) ≡ e = omega (arith, w.after) in
        let d : drop (e - i) (drop i s) ≡ drop e s = rw (drop-drop, z) in
        sym (take-append-drop (e - i) (drop i s)) ∙ rw d

    plain : (k : ℕ) → k < length (part i e s) → get_or (part i e s) k 0 ≡ 38 → ⊥
    plain k h x =
        let l : length (part i e s) ≡ e - i = part_length s i e w.within in
        let g : k < e - i = omega arith in
        let y : get_or s (i + k) 0 ≡ 38 = sym (get_or-take (e - i) (drop i s) k 0 g ∙ get_or-drop i s k 0) ∙ x in
        let m : i + k < e = omega arith in
        eqb-false (get_or s (i + k) 0) 38 (not-true _ (run-all (other 38) s i (i + k) (omega arith) (rw w.is at m))) y

-- and the `&` where it ends
pub run-mark : (s : List ℕ) (i e : ℕ) → Ends (other 38) s i e → e < length s → get_or s e 0 ≡ 38
run-mark s i e w h = eqb-true (get_or s e 0) 38 (not-false _ (w.stops h))

-- one `&`
module _ (s : List ℕ) (p at : ℕ) (t t' : List ℕ) (h : p < length s) (e : get_or s p 0 ≡ 38) where
  at_mark : drop p s ≡ 38 ∷ drop (p + 1) s
  at_mark = drop-cons s p 0 h ∙ rw (e, add-one p)

  pub stepped_to : (c q n : ℕ) → RefersTo s (p + 1) c q → Appended (encode c) at t t' n → Stepped s p at t t' q n
  stepped_to c q n r w =
      record {
        piece = encode c;
        next = w.next;
        laid = w.laid;
        is = ap decoded at_mark ∙ (decoded-to (drop (p + 1) s) r.is ∙ rw (drop-drop, ← r.next));
        shorter = omega (arith, encode-short c, r.long);
        after = omega (arith, r.long);
        within = r.within;
      }

  pub stepped_literal : reference (drop (p + 1) s) ≡ None → t' ≡ set t at 38 → Stepped s p at t t' (p + 1) (at + 1)
  stepped_literal u w =
      record {
        piece = 38 ∷ [];
        next = refl;
        laid = w;
        is = ap decoded at_mark ∙ decoded-literal (drop (p + 1) s) u;
        shorter = omega arith;
        after = omega arith;
        within = omega arith;
      }

-- ---- what is written so far: the text is read up to `from`, and what was read stands in the table t from a place on, up to `to`
pub record Decoding (s : List ℕ) (at : ℕ) (t : List ℕ) (from to : ℕ) (t' : List ℕ) : Type 0 where
  pub done : List ℕ
  pub place : to ≡ at + length done
  pub laid : t' ≡ sets t at done
  pub rest : decoded s ≡ done ++ decoded (drop from s)
  pub short : length done ≤ from
  pub within : from ≤ length s
  pub kept : length t' ≡ length t

pub decoding_start : (s : List ℕ) (at : ℕ) (t : List ℕ) → Decoding s at t 0 at t
decoding_start s at t =
    record { done = []; place = omega arith; laid = refl; rest = refl; short = omega arith; within = omega arith; kept = refl }

module _ (s : List ℕ) (at : ℕ) (t : List ℕ) (from to : ℕ) (t' : List ℕ) (d : Decoding s at t from to t') where
  -- one more piece, of the text up to q
  on : (piece t'' : List ℕ) (q n : ℕ) → n ≡ to + length piece → t'' ≡ sets t' to piece → decoded (drop from s) ≡ piece ++ decoded (drop q s)
      → from + length piece ≤ q → q ≤ length s → Decoding s at t q n t''
  on piece t'' q n next laid is shorter within =
      let l : length (d.done ++ piece) ≡ length d.done + length piece = length-append d.done piece in
      record {
        done = d.done ++ piece;
        place = omega (arith, l, d.place);
        laid = sets_on d.done piece t t' t'' at to d.laid laid d.place;
        rest = d.rest ∙ rw (is, append_assoc);
        short = omega (arith, l, d.short);
        within = within;
        kept = ap length laid ∙ (length-sets t' to piece ∙ d.kept);
      }

  pub decoding_run : (e n : ℕ) (t'' : List ℕ) → Ends (other 38) s from e → Appended (part from e s) to t' t'' n → Decoding s at t e n t''
  decoding_run e n t'' w a =
      let l : length (part from e s) ≡ e - from = part_length s from e w.within in
      on (part from e s) t'' e n a.next a.laid (decoded-run s from e w) (omega (arith, l, w.after)) w.within

  pub decoding_step : (q n : ℕ) (t'' : List ℕ) → Stepped s from to t' t'' q n → Decoding s at t q n t''
  decoding_step q n t'' w = on w.piece t'' q n w.next w.laid w.is w.shorter w.within

  -- there is room for what is left
  pub decoding_left : at + length s ≤ length t → to + (length s - from) ≤ length t'
  decoding_left r = omega (arith, d.place, d.short, d.within, d.kept)

  pub decoding_room : at + length s ≤ length t → (e : ℕ) → Ends (other 38) s from e → to + length (part from e s) ≤ length t'
  decoding_room r e w = rw (part_length s from e w.within) (omega (arith, decoding_left r, w.within))

  pub decoding_done : at + length s ≤ length t → length s ≤ from → Appended (decoded s) at t t' to
  decoding_done r h =
      let e : decoded s ≡ d.done = d.rest ∙ (rw (drop_of_length-le s h, decoded-nil, append-nil)) in
      rw e (record { next = d.place; within = omega (arith, d.place, d.short, d.within); laid = d.laid })

-- Rows moved toward the end of a table, each as a block of six cells. Assumes nothing.
use Prim.Native.Nat.{ℕ, suc, ◌+◌, ◌-◌, ◌*◌, ◌≤◌, ◌<◌}
use mathlib.Core.Path.{◌≡◌, sym, ap, ◌∙◌}
use mathlib.Core.List.{List, [], ◌∷◌, ◌++◌}
use mathlib.Core.Logic.{inl}
use native.Mathlib.Omega.{arith}
use native.Mathlib.Nat.{sub_self}
use lib.ListN.{length, get_or}
use lib.Seq.{sets, drop-cons}
use Rattle.scan.specs.Part.{part}
use Rattle.scan.proofs.Stores.{sets_before, sets_other}

-- a part begins with its first cell
part-more : (t : List ℕ) (k e : ℕ) → k < e → e ≤ length t → part k e t ≡ get_or t k 0 ∷ part (suc k) e t
part-more t k e h g =
    let n : e - k ≡ suc (e - suc k) = omega arith in
    rw (n, drop-cons t k 0 (omega arith))

abbrev six : List ℕ → ℕ → List ℕ
six t k = get_or t k 0 ∷ get_or t (k + 1) 0 ∷ get_or t (k + 2) 0 ∷ get_or t (k + 3) 0 ∷ get_or t (k + 4) 0 ∷ get_or t (k + 5) 0 ∷ []

-- ... and with its first row
part-row : (t : List ℕ) (k e : ℕ) → k + 6 ≤ e → e ≤ length t → part k e t ≡ six t k ++ part (k + 6) e t
part-row t k e h g =
    let a : suc k ≡ k + 1 = omega arith in
    let b : suc (k + 1) ≡ k + 2 = omega arith in
    let c : suc (k + 2) ≡ k + 3 = omega arith in
    let d : suc (k + 3) ≡ k + 4 = omega arith in
    let f : suc (k + 4) ≡ k + 5 = omega arith in
    let i : suc (k + 5) ≡ k + 6 = omega arith in
    rw a at (part-more t k e (omega arith) g)
    ∙ ap (λ l. get_or t k 0 ∷ l) (rw b at (part-more t (k + 1) e (omega arith) g)
    ∙ ap (λ l. get_or t (k + 1) 0 ∷ l) (rw c at (part-more t (k + 2) e (omega arith) g)
    ∙ ap (λ l. get_or t (k + 2) 0 ∷ l) (rw d at (part-more t (k + 3) e (omega arith) g)
    ∙ ap (λ l. get_or t (k + 3) 0 ∷ l) (rw f at (part-more t (k + 4) e (omega arith) g)
    ∙ ap (λ l. get_or t (k + 4) 0 ∷ l) (rw i at (part-more t (k + 5) e (omega arith) g))))))

pub part-six : (t : List ℕ) (k : ℕ) → k + 6 ≤ length t → part k (k + 6) t ≡ six t k
part-six t k h = let z : k + 6 - (k + 6) ≡ 0 = omega arith in rw z at (part-row t k (k + 6) (omega arith) h)

-- ---- the loop: of the rows up to `end` those from row i on are moved by `by` rows
pub record RowsMoved (t : List ℕ) (end by i : ℕ) (t' : List ℕ) : Type 0 where
  pub low : i ≤ end
  pub room : (end + by) * 6 ≤ length t
  pub is : t' ≡ sets t ((i + by) * 6) (part (i * 6) (end * 6) t)

pub rows_none : (t : List ℕ) (end by : ℕ) → (end + by) * 6 ≤ length t → RowsMoved t end by end t
rows_none t end by h = record { low = omega arith; room = h; is = rw (sub_self (end * 6)) }

pub row_moved : (t t' t'' : List ℕ) (end by i j : ℕ) → RowsMoved t end by i t' → i ≡ suc j → length t' ≡ length t
    → t'' ≡ sets t' ((j + by) * 6) (part (j * 6) (j * 6 + 6) t') → RowsMoved t end by j t''
row_moved t t' t'' end by i j m e long w =
    let k = j * 6 in
    let b = part (i * 6) (end * 6) t in
    let next : k + 6 ≡ i * 6 = omega arith in
    let to : (j + by) * 6 + 6 ≡ (i + by) * 6 = omega arith in
    let kept : (n : ℕ) → n < i * 6 → get_or t' n 0 ≡ get_or t n 0 = λ n h. rw m.is (sets_other b t ((i + by) * 6) n (inl (omega arith))) in
    let row : part k (k + 6) t' ≡ six t k =
    part-six t' k (omega (arith, m.low, m.room))
    ∙ rw (
      kept k (omega arith),
      kept (k + 1) (omega arith),
      kept (k + 2) (omega arith),
      kept (k + 3) (omega arith),
      kept (k + 4) (omega arith),
      kept (k + 5) (omega arith),
    ) in
    record {
      low = omega (arith, m.low);
      room = m.room;
      is =
          w ∙ ap (sets t' ((j + by) * 6)) row
          ∙ ap (λ (l : List ℕ). sets l ((j + by) * 6) (six t k)) (m.is ∙ ap (λ (n : ℕ). sets t n b) (sym to))
          ∙ sets_before (six t k) b t ((j + by) * 6)
          ∙ ap (sets t ((j + by) * 6)) (sym (rw next at (part-row t k (end * 6) (omega (arith, m.low)) (omega (arith, m.room)))));
    }

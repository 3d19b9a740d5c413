-- A loop that fills the rest of a row with zeros. Assumes nothing.
use Prim.Native.Nat.{ℕ, zero, suc, ◌+◌, ◌-◌, ◌≤◌, ◌<◌}
use mathlib.Core.Path.{◌≡◌, refl, ap}
use mathlib.Core.List.{List, [], ◌∷◌, ◌++◌}
use native.Mathlib.Omega.{arith}
use native.Mathlib.Nat.{sub_self}
use lib.ListN.{length, set, replicate, length-set, length-replicate}
use lib.Seq.{sets}
use Rattle.scan.proofs.Stores.{sets_append}

-- of the cells b up to n of the row at a place, those before i are 0
pub record Zeroed (t : List ℕ) (at b n i : ℕ) (t' : List ℕ) : Type 0 where
  pub from : b ≤ i
  pub most : i ≤ n
  pub room : at + n ≤ length t
  pub is : t' ≡ sets t (at + b) (replicate (i - b) 0)
  pub kept : length t' ≡ length t

pub zeroed_none : (t : List ℕ) (at b n : ℕ) → b ≤ n → at + n ≤ length t → Zeroed t at b n b t
zeroed_none t at b n h g = record { from = omega arith; most = h; room = g; is = rw (sub_self b); kept = refl }

-- one zero more
zeros-more : (n : ℕ) → ◌++◌ {A = ℕ} (replicate n 0) (0 ∷ []) ≡ replicate (suc n) 0
zeros-more zero = refl
zeros-more (suc n) = ap (λ (l : List ℕ). 0 ∷ l) (zeros-more n)

module _ (t : List ℕ) (at b n i : ℕ) (t' : List ℕ) (z : Zeroed t at b n i t') where
  pub zeroed_more : i < n → Zeroed t at b n (i + 1) (set t' (at + i) 0)
  zeroed_more h =
      let k = i - b in
      let p : List ℕ = replicate k 0 in
      let l : at + i ≡ at + b + length p = omega (arith, z.from, length-replicate {A = ℕ} k 0) in
      let e : i + 1 - b ≡ suc k = omega (arith, z.from) in
      record {
        from = omega (arith, z.from);
        most = omega arith;
        room = z.room;
        is = rw (z.is, l, e, ← (zeros-more k)) (sets_append p (0 ∷ []) t (at + b));
        kept = simp length-set z.kept;
      }

  pub zeroed_all : n ≤ i → t' ≡ sets t (at + b) (replicate (n - b) 0)
  zeroed_all h = let e : i ≡ n = omega (arith, z.most) in rw e at z.is

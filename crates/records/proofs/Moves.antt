-- Cells moved toward the start of a table. Assumes nothing.
use Prim.Native.Nat.{ℕ, suc, ◌+◌, ◌-◌, ◌≤◌, ◌<◌}
use mathlib.Core.Path.{◌≡◌, refl, sym, ◌∙◌}
use mathlib.Core.List.{List, [], ◌∷◌}
use native.Mathlib.Omega.{arith}
use native.Mathlib.Nat.{sub_self}
use lib.ListN.{length, get_or, set, take, drop, length-set, length-drop}
use lib.Seq.{sets, take-suc, length-take-le, get_or-set_other, get_or-drop}
use Rattle.records.specs.Siblings.{pulled}
use Rattle.records.proofs.SegmentRows.{sets_after}

module _ {A : Type 0} where
  -- a cell after a run
  pub read_after : (b t : List A) (i k : ℕ) (d : A) → i + length b ≤ k → get_or (sets t i b) k d ≡ get_or t k d
  read_after [] t i k d h = refl
  read_after (x ∷ b) t i k d h = read_after b (set t i x) (suc i) k d (omega arith) ∙ get_or-set_other t i k x d (λ e. omega arith)

  -- ---- the loop: of the cells from `at + by` up to `end` those before i are moved by `by` places
  pub record Pulled (t : List A) (at end by i : ℕ) (t' : List A) : Type 0 where
    pub from : at + by ≤ i
    pub most : i ≤ end
    pub room : end ≤ length t
    pub is : t' ≡ pulled at i by t
    pub kept : length t' ≡ length t

  pub pulled-none : (t : List A) (at end by : ℕ) → at + by ≤ end → end ≤ length t → Pulled t at end by (at + by) t
  pulled-none t at end by h g = record { from = omega arith; most = h; room = g; is = rw (sub_self (at + by)); kept = refl }

  pub pulled-more : (t t' : List A) (at end by i : ℕ) (d : A) → Pulled t at end by i t' → i < end
      → Pulled t at end by (i + 1) (set t' (i - by) (get_or t' i d))
  pulled-more t t' at end by i d m h =
      let k = i - (at + by) in
      let rest : List A = drop (at + by) t in
      let run : List A = take k rest in
      let long : k < length rest = rw length-drop (omega (arith, m.from, m.room)) in
      let l : length run ≡ k = length-take-le k rest (omega arith) in
      let place : i - by ≡ at + length run = omega (arith, m.from) in
      let next : i + 1 - (at + by) ≡ suc k = omega (arith, m.from) in
      let back : at + by + k ≡ i = omega (arith, m.from) in
      let same : get_or t i d ≡ get_or rest k d = rw back at (sym (get_or-drop (at + by) t k d)) in
      let read : get_or t' i d ≡ get_or rest k d = rw m.is (read_after run t at i d (omega (arith, m.from))) ∙ same in
      record {
        from = omega (arith, m.from);
        most = omega arith;
        room = m.room;
        is = rw (read, m.is, next, take-suc rest k d long, place) (sets_after run (get_or rest k d ∷ []) t at);
        kept = simp length-set m.kept;
      }

  pub pulled-all : (t t' : List A) (at end by i : ℕ) → Pulled t at end by i t' → end ≤ i → t' ≡ pulled at end by t
  pulled-all t t' at end by i m h = let e : i ≡ end = omega (arith, m.most) in rw e at m.is

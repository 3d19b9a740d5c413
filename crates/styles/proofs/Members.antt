-- Lists of ids: members, none twice, how many. Assumes nothing.
--     is_in-member, member-is_in, fresh-member     the test and the relation
--     distinct_last                              a list without repetition takes one more at its end
--     same_count                                 two lists that hold exactly the same, each once, are equally long
use Prim.Native.Nat.{suc, ◌≤◌}
use mathlib.Core.Path.{◌≡◌, refl, sym, ap, ◌∙◌}
use mathlib.Core.Bool.{true, false}
use mathlib.Core.Logic.{◌⊎◌, inl, inr}
use mathlib.Core.List.Memᴰ
use mathlib.Core.List.{
  List,
  [],
  ◌∷◌,
  ◌++◌,
  Memᴰ,
}
use native.Mathlib.Omega.{arith}
use lib.ListN.{length}
use Rattle.scan.specs.Names.{same_bytes_of}
use Rattle.scan.proofs.Naming.{same_eq, same_refl}
use Rattle.names.specs.Numbers.{is_in}
use Rattle.scan.proofs.Every.{by-test}
use Rattle.decimals.proofs.Tests.{no}
use Rattle.track.specs.Track.{Bytes}
use Rattle.styles.specs.Reaches.{◌∈◌, Distinct, empty, fresh, Exactly}

pub is_in-member : (a : Bytes) (l : List Bytes) → is_in a l ≡ true → a ∈ l
unfolding is_in
is_in-member a [] h = no (sym h)
is_in-member a (x ∷ l) h =
    by-test (same_bytes_of a x) (λ e. Memᴰ.head (same_eq a x e)) (λ e. Memᴰ.tail (is_in-member a l (rw e at h)))

pub member-is_in : (a : Bytes) (l : List Bytes) → a ∈ l → is_in a l ≡ true
unfolding is_in
member-is_in a [] m = elim m [ ]
member-is_in a (x ∷ l) (Memᴰ.head e) = rw (e, same_refl x)
member-is_in a (x ∷ l) (Memᴰ.tail m) = by-test (same_bytes_of a x) (λ e. rw e) (λ e. rw e (member-is_in a l m))

pub fresh-member : (a : Bytes) (l : List Bytes) → is_in a l ≡ false → a ∈ l → ⊥
fresh-member a l h m = no (sym (member-is_in a l m) ∙ h)

module _ {A : Type 0} where
  pub distinct_last : {a : A} {l : List A} → (a ∈ l → ⊥) → Distinct l → Distinct (l ++ (a ∷ []))
  distinct_last h empty = fresh Memᴰ.not-nil empty
  distinct_last {a} h (fresh {a = x} {l = l} g d) =
      fresh {a = x} (λ (m : x ∈ (l ++ (a ∷ []))). elim (Memᴰ.append_cases l m) [
        | inl k ↦ g k
        | inr k ↦ h (Memᴰ.head (sym
            (Memᴰ.eq_of_singleton k)))
      ])
      (distinct_last (λ m. h (Memᴰ.tail m)) d)

  -- a list without one of its members: one shorter, and all others are still there
  record Without (a : A) (l r : List A) : Type 0 where
    shorter : length l ≡ suc (length r)
    others : (x : A) → x ∈ l → (x ≡ a) ⊎ (x ∈ r)

  without : {a : A} {l : List A} → a ∈ l → (r : List A) × Without a l r
  without {a} (Memᴰ.head {x = x} {xs = l} e) = (l, record { shorter = refl; others = λ y m. rest y m })
    where
      rest : (y : A) → y ∈ (x ∷ l) → (y ≡ a) ⊎ (y ∈ l)
      rest y (Memᴰ.head d) = inl (d ∙ sym e)
      rest y (Memᴰ.tail m) = inr m
  without {a} (Memᴰ.tail {x = x} {xs = l} m) = longer (without m)
    where
      longer : (r : List A) × Without a l r → (r : List A) × Without a (x ∷ l) r
      longer (r, o) = (x ∷ r, record { shorter = ap suc o.shorter; others = λ y k. rest y k })
        where
          pass : {y : A} → (y ≡ a) ⊎ (y ∈ r) → (y ≡ a) ⊎ (y ∈ (x ∷ r))
          pass (inl e) = inl e
          pass (inr k) = inr (Memᴰ.tail k)

          rest : (y : A) → y ∈ (x ∷ l) → (y ≡ a) ⊎ (y ∈ (x ∷ r))
          rest y (Memᴰ.head d) = inr (Memᴰ.head d)
          rest y (Memᴰ.tail k) = pass (o.others y k)

  pub no_longer : (l r : List A) → Distinct l → ((x : A) → x ∈ l → x ∈ r) → length l ≤ length r
  no_longer [] r d h = omega arith
  no_longer (a ∷ l) r (fresh g d) h = go (without (h a (Memᴰ.head refl))) (no_longer l)
    where
      go : (s : List A) × Without a r s → ((s : List A) → Distinct l → ((x : A) → x ∈ l → x ∈ s) → length l ≤ length s) → length (a ∷ l) ≤ length r
      go (s, o) k = omega (
        arith,
        o.shorter,
        k s d (λ x m. elim (o.others x (h x (Memᴰ.tail m))) [
          | inl e ↦ absurd (g (Memᴰ.cast (sym e) m))
          | inr n ↦ n
        ]),
      )

  pub same_count : {P : A → Type 0} (l r : List A) → Exactly P l → Exactly P r → length l ≡ length r
  same_count l r e f =
      let a : length l ≤ length r = no_longer l r e.once (λ x m. f.all x (e.only x m)) in
      let b : length r ≤ length l = no_longer r l f.once (λ x m. e.all x (f.only x m)) in
      omega arith

-- `walk` is the walk: the result that the relation has, by the equations of `IsWalk`, which nothing else meets. Assumes nothing.
--     left                       how many styles have a name that is not visited: it falls with each chain that is opened
--     walk-walks, walk-only      the walk has a result, `walk` gives it, and it has no other
--     walk_is, is-walk           `walk` meets the equations; what meets them is `walk`
use Prim.Native.Nat.{ℕ, zero, suc, ◌≤◌, ◌<◌}
use mathlib.Core.Path.{◌≡◌, refl, sym, ◌∙◌}
use mathlib.Core.Bool.{Bool, true, false, cond, ◌&&◌, and-false}
use mathlib.Core.Logic.{◌⊎◌, inl, inr}
use mathlib.Core.Option.{none}
use mathlib.Core.List.Memᴰ
use mathlib.Core.List.{List, [], ◌∷◌, ◌++◌}
use native.Mathlib.Omega.{arith}
use lib.ListN.{length}
use Rattle.scan.specs.Names.{same_bytes_of}
use Rattle.scan.proofs.Naming.{same_eq}
use Rattle.scan.proofs.Every.{by-test}
use Rattle.names.specs.Numbers.{is_in}
use Rattle.track.specs.Track.{Bytes, Style}
use Rattle.track.specs.Layout.{is_some}
use Rattle.records.specs.Find.{first_that, find_chain}
use Rattle.styles.specs.Reaches.{◌∈◌, parents}
use Rattle.styles.specs.Resolve.{Walked, meet, own, IsWalk, each, visit_as, visit_by, walk}
use Rattle.styles.proofs.Members.{is_in-member, member-is_in}
use Rattle.styles.proofs.Walks.{Walks, done, again, first, own-visited, grows}

unfoldable pub left : List (Style Bytes) → List Bytes → ℕ
left [] v = 0
left (x ∷ l) v = cond (is_in x.name v) (left l v) (suc (left l v))

pub left_all : (l : List (Style Bytes)) (v : List Bytes) → left l v ≤ length l
unfolding left
left_all [] v = omega arith
left_all (x ∷ l) v = by-test (is_in x.name v) (λ e. rw e (omega (arith, left_all l v))) (λ e. rw e (omega (arith, left_all l v)))

-- more is visited
module _ (v w : List Bytes) (h : (a : Bytes) → a ∈ v → a ∈ w) where
  still : (a : Bytes) → is_in a v ≡ true → is_in a w ≡ true
  still a e = member-is_in a w (h a (is_in-member a v e))

  pub left_less : (l : List (Style Bytes)) → left l w ≤ left l v
  unfolding left
  left_less [] = omega arith
  left_less (x ∷ l) =
      by-test (is_in x.name v) (λ e. rw (e, still x.name e) (left_less l))
      (λ e. by-test (is_in x.name w) (λ f. rw (e, f) (omega (arith, left_less l))) (λ f. rw (e, f) (omega (arith, left_less l))))

-- an id is visited that was not: it has no chain, or a style less is left
module _ (a : Bytes) (v : List Bytes) (new : is_in a v ≡ false) where
  abbrev chained : Style Bytes → Bool
  chained x = is_some x.chain && same_bytes_of x.name a

  more : (b : Bytes) → b ∈ v → b ∈ (v ++ (a ∷ []))
  more b m = Memᴰ.append_left (a ∷ []) m

  in_more : is_in a (v ++ (a ∷ [])) ≡ true
  in_more = member-is_in a (v ++ (a ∷ [])) (Memᴰ.append_right v (Memᴰ.head refl))

  left_falls : (l : List (Style Bytes)) → (first_that chained l ≡ none) ⊎ (left l (v ++ (a ∷ [])) < left l v)
  unfolding left first_that
  left_falls [] = inl refl
  left_falls (x ∷ l) =
      by-test (same_bytes_of x.name a)
      (λ e.
      let p : x.name ≡ a = same_eq x.name a e in
      inr (rw (p, new, in_more) (omega (arith, left_less v (v ++ (a ∷ [])) more l))))
      (λ e. rest e (left_falls l))
    where
      rest : same_bytes_of x.name a ≡ false → (first_that chained l ≡ none) ⊎ (left l (v ++ (a ∷ [])) < left l v)
          → (first_that chained (x ∷ l) ≡ none) ⊎ (left (x ∷ l) (v ++ (a ∷ [])) < left (x ∷ l) v)
      rest e (inl q) = inl (rw (e, and-false (is_some x.chain), q))
      rest e (inr q) =
          inr (by-test (is_in x.name v) (λ f. rw (f, still v (v ++ (a ∷ [])) more x.name f) q)
          (λ f. by-test (is_in x.name (v ++ (a ∷ []))) (λ g. rw (f, g) (omega arith)) (λ g. rw (f, g) (omega arith))))

  pub parents-or_less : (l : List (Style Bytes)) → (parents l a ≡ []) ⊎ (left l (v ++ (a ∷ [])) < left l v)
  unfolding parents find_chain
  parents-or_less l = elim (left_falls l) [ inl q ↦ inl (rw q) | inr q ↦ inr q ]

module _ (styles : List (Style Bytes)) where
  abbrev pub left_in : Walked → ℕ
  left_in w = left styles w.visited

  pub open_less : (a : Bytes) (w : Walked) → is_in a w.visited ≡ false → (parents styles a ≡ []) ⊎ (left_in (meet a w) < left_in w)
  unfolding meet
  open_less a w h = parents-or_less a w.visited h styles

  pub walked_less : {ids : List Bytes} {w r : Walked} → Walks styles ids w r → left_in r ≤ left_in w
  walked_less {w = w} {r = r} d = left_less w.visited r.visited (grows styles d) styles

  met_less : (a : Bytes) (w : Walked) → left_in (meet a w) ≤ left_in w
  unfolding meet
  met_less a w = left_less w.visited (w.visited ++ (a ∷ [])) (λ b m. Memᴰ.append_left (a ∷ []) m) styles

  own-left : (a : Bytes) (w : Walked) → left_in (own styles a w) ≡ left_in w
  own-left a w = rw (own-visited styles a w)

  -- ---- the bounded walk has the result, where the bound is enough
  Enough : ℕ → Type 0
  Enough n = (ids : List Bytes) (w : Walked) → left_in w < n → Walks styles ids w (each styles (visit_by styles n) ids w)

  module _ (n : ℕ) (ih : Enough n) where
    parents-walk : (a : Bytes) (w : Walked) → left_in w < suc n → (parents styles a ≡ []) ⊎ (left_in (meet a w) < left_in w)
        → Walks styles (parents styles a) (meet a w) (each styles (visit_by styles n) (parents styles a) (meet a w))
    unfolding each Enough
    parents-walk a w l (inl e) = rw e (done refl)
    parents-walk a w l (inr e) = ih (parents styles a) (meet a w) (omega arith)

    each-walks : Enough (suc n)
    unfolding each visit_by visit_as Enough
    each-walks [] w l = done refl
    each-walks (a ∷ ids) w l =
        by-test (is_in a w.visited) (λ e. rw e (again e (each-walks ids w l)))
        (λ e.
        let m : Walked = each styles (visit_by styles n) (parents styles a) (meet a w) in
        let d : Walks styles (parents styles a) (meet a w) m = parents-walk a w l (open_less a w e) in
        rw e (first e d (each-walks ids (own styles a m) (omega (arith, own-left a m, walked_less d, met_less a w)))))

  enough : (n : ℕ) → Enough n
  unfolding Enough
  enough zero ids w l = absurd (omega arith)
  enough (suc n) ids w l = each-walks n (enough n) ids w l

  -- ---- and there is no other
  only : {ids : List Bytes} {w r : Walked} → Walks styles ids w r → (n : ℕ) → left_in w < n → each styles (visit_by styles n) ids w ≡ r
  unfolding each visit_by visit_as
  only (done e) n l = sym e
  only (again e d) zero l = absurd (omega arith)
  only (again e d) (suc n) l = rw e (only d (suc n) l)
  only (first e d k) zero l = absurd (omega arith)
  only (first {a = a} {ids = ids} {w = w} {m = m} {r = r} e d k) (suc n) l =
      rw (e, mid (only d n) (only d (suc n)) (open_less a w e)) (only k (suc n) (omega (arith, own-left a m, walked_less d, met_less a w)))
    where
      none_open : (p : List Bytes) → p ≡ [] → each styles (visit_by styles (suc n)) p (meet a w) ≡ m → each styles (visit_by styles n) p (meet a w) ≡ m
      none_open p q h = rw q (rw q at h)

      mid : (left_in (meet a w) < n → each styles (visit_by styles n) (parents styles a) (meet a w) ≡ m)
          → (left_in (meet a w) < suc n → each styles (visit_by styles (suc n)) (parents styles a) (meet a w) ≡ m)
          → (parents styles a ≡ []) ⊎ (left_in (meet a w) < left_in w) → each styles (visit_by styles n) (parents styles a) (meet a w) ≡ m
      mid f g (inl q) = none_open (parents styles a) q (g (omega (arith, met_less a w)))
      mid f g (inr q) = f (omega arith)

  -- ---- with no bound
  few : (w : Walked) → left_in w < suc (length styles)
  few w = omega (arith, left_all styles w.visited)

  pub walk-walks : (ids : List Bytes) (w : Walked) → Walks styles ids w (walk styles ids w)
  unfolding walk Enough
  walk-walks ids w = enough (suc (length styles)) ids w (few w)

  pub walk-only : {ids : List Bytes} {w r : Walked} → Walks styles ids w r → walk styles ids w ≡ r
  unfolding walk
  walk-only {w = w} d = only d (suc (length styles)) (few w)

  pub walk_is : IsWalk styles (walk styles)
  walk_is = record {
    none = λ w. walk-only (done refl);
    again = λ a ids w e. walk-only (again e (walk-walks ids w));
    first = λ a ids w e. walk-only (first e (walk-walks (parents styles a) (meet a w)) (walk-walks ids (own styles a (walk styles (parents styles
        a) (meet a w)))));
  }

  module _ (f : List Bytes → Walked → Walked) (is : IsWalk styles f) where
    follows : {ids : List Bytes} {w r : Walked} → Walks styles ids w r → f ids w ≡ r
    follows {w = w} (done e) = is.none w ∙ sym e
    follows (again {a = a} {ids = ids} {w = w} e d) = is.again a ids w e ∙ follows d
    follows (first {a = a} {ids = ids} {w = w} e d k) = is.first a ids w e ∙ rw (follows d) (follows k)

    pub is-walk : (ids : List Bytes) (w : Walked) → f ids w ≡ walk styles ids w
    is-walk ids w = follows (walk-walks ids w)

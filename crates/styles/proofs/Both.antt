-- The ids of two values, each once: a walk over the second that goes on from the ids of the first adds what the second alone would give, less
-- what is there. So a program needs no marks: it resolves each value by itself, and then both in one list. Assumes nothing.
--     others-member, member-others       what is left out
--     both-exactly                       exactly the ids that the one or the other reaches, each once
--     both-ids                           the walk that goes on
use Prim.Native.Nat.{◌≤◌}
use mathlib.Core.Path.{◌≡◌, refl, sym, ◌∙◌}
use mathlib.Core.Bool.{true, false}
use mathlib.Core.Logic.{◌⊎◌, inl, inr}
use mathlib.Core.List.Memᴰ
use mathlib.Core.List.{
  List,
  [],
  ◌∷◌,
  ◌++◌,
  append_assoc,
  append-nil,
}
use lib.ListN.{length}
use Rattle.utf8.specs.White.{words}
use Rattle.scan.proofs.Every.{by-test}
use Rattle.names.specs.Numbers.{is_in}
use Rattle.track.specs.Track.{Bytes, Style}
use Rattle.styles.specs.Reaches.{◌∈◌, parents, parent, Distinct, empty, fresh, Exactly}
use Rattle.styles.specs.Resolve.{Walked, start, meet, own, walk, answered, resolve}
use Rattle.styles.specs.Queries.{others}
use Rattle.styles.proofs.Members.{is_in-member, member-is_in, fresh-member, no_longer}
use Rattle.styles.proofs.Walks.{Walks, done, again, first, own-visited}
use Rattle.styles.proofs.Equations.{walk-walks, walk_is}
use Rattle.styles.proofs.Theorem.{resolve-answers}

-- ---- what is left out
module _ (r : List Bytes) where
  pub others-append : (l m : List Bytes) → others r (l ++ m) ≡ others r l ++ others r m
  unfolding others
  others-append [] m = refl
  others-append (a ∷ l) m = by-test (is_in a r) (λ e. rw e (others-append l m)) (λ e. rw (e, others-append l m))

  others-one : (l : List Bytes) (a : Bytes) → is_in a r ≡ true → others r (l ++ (a ∷ [])) ≡ others r l
  unfolding others
  others-one l a e = others-append l (a ∷ []) ∙ rw e (append-nil (others r l))

  others-more : (l : List Bytes) (a : Bytes) → is_in a r ≡ false → others r (l ++ (a ∷ [])) ≡ others r l ++ (a ∷ [])
  unfolding others
  others-more l a e = others-append l (a ∷ []) ∙ rw e

  pub others-member : (a : Bytes) (l : List Bytes) → a ∈ others r l → (a ∈ l) × (is_in a r ≡ false)
  unfolding others
  others-member a [] m = absurd (Memᴰ.not-nil m)
  others-member a (b ∷ l) m = by-test (is_in b r) (λ e. later (others-member a l (rw e at m))) (λ e. here e (λ k. others-member a l k) (rw e at m))
    where
      later : (a ∈ l) × (is_in a r ≡ false) → (a ∈ (b ∷ l)) × (is_in a r ≡ false)
      later p = (Memᴰ.tail p.0, p.1)

      here : is_in b r ≡ false → (a ∈ others r l → (a ∈ l) × (is_in a r ≡ false)) → a ∈ (b ∷ others r l) → (a ∈ (b ∷ l)) × (is_in a r ≡ false)
      here e k (Memᴰ.head q) = (Memᴰ.head q, rw q e)
      here e k (Memᴰ.tail n) = later (k n)

  pub member-others : (a : Bytes) (l : List Bytes) → is_in a r ≡ false → a ∈ l → a ∈ others r l
  unfolding others
  member-others a [] e m = elim m [ ]
  member-others a (b ∷ l) e (Memᴰ.head q) = let f : is_in b r ≡ false = rw q at e in rw f (Memᴰ.head q)
  member-others a (b ∷ l) e (Memᴰ.tail m) =
      by-test (is_in b r) (λ f. rw f (member-others a l e m)) (λ f. rw f (Memᴰ.tail (member-others a l e m)))

  distinct_others : {l : List Bytes} → Distinct l → Distinct (others r l)
  unfolding others
  distinct_others empty = empty
  distinct_others (fresh {a = a} {l = l} h d) =
      by-test (is_in a r) (λ e. rw e (distinct_others d)) (λ e. rw e (fresh (λ m. h (others-member a l m).0) (distinct_others d)))

distinct_append : {l m : List Bytes} → Distinct l → Distinct m → ((a : Bytes) → a ∈ l → a ∈ m → ⊥) → Distinct (l ++ m)
distinct_append empty d h = d
distinct_append {m = m} (fresh {a = a} {l = l} g c) d h =
    fresh {a = a} (λ (k : a ∈ (l ++ m)). elim (Memᴰ.append_cases l k) [ inl x ↦ g x | inr x ↦ h a (Memᴰ.head refl) x ])
    (distinct_append c d (λ b x y. h b (Memᴰ.tail x) y))

pub both-exactly : {P Q : Bytes → Type 0} (l m : List Bytes) → Exactly P l → Exactly Q m → Exactly (λ (a : Bytes). P a ⊎ Q a) (l ++ others l m)
both-exactly {P} {Q} l m p q = record {
  all = λ a o. elim o [ inl x ↦ Memᴰ.append_left (others l m) (p.all a x) | inr y ↦ second a (q.all a y) ];
  only = λ a k. elim (Memᴰ.append_cases l k) [ inl x ↦ inl (p.only a x) | inr y ↦ inr (q.only a (others-member l a m y).0) ];
  once = distinct_append p.once (distinct_others l q.once) (λ a x y. fresh-member a l (others-member l a m y).1 x);
}
  where
    second : (a : Bytes) → a ∈ m → a ∈ (l ++ others l m)
    second a k = by-test (is_in a l) (λ e. Memᴰ.append_left (others l m) (is_in-member a l e)) (λ e. Memᴰ.append_right l (member-others l a m e k))

-- not fewer than those of the second
pub both-longer : (styles : List (Style Bytes)) (value second : Bytes)
    → length (resolve styles second).ids ≤ length ((resolve styles value).ids ++ others (resolve styles value).ids (resolve styles second).ids)
both-longer styles value second =
    let l = (resolve styles value).ids in
    let m = (resolve styles second).ids in
    let e = both-exactly l m (resolve-answers styles value).ids_reached (resolve-answers styles second).ids_reached in
    no_longer m (l ++ others l m) (resolve-answers styles second).ids_reached.once
    (λ a k. e.all a (inr ((resolve-answers styles second).ids_reached.only a k)))

-- ---- the walk that goes on
module _ (styles : List (Style Bytes)) (r : List Bytes) (closed : (a b : Bytes) → a ∈ r → b ∈ parents styles a → b ∈ r) where
  -- v is at the ids r and what w has visited besides
  abbrev Beside : Walked → Walked → Type 0
  Beside w v = v.visited ≡ r ++ others r w.visited

  known : (w v : Walked) → Beside w v → (a : Bytes) → a ∈ r → is_in a v.visited ≡ true
  known w v p a m = rw p (member-is_in a (r ++ others r w.visited) (Memᴰ.append_left (others r w.visited) m))

  known_too : (w v : Walked) → Beside w v → (a : Bytes) → is_in a w.visited ≡ true → is_in a v.visited ≡ true
  known_too w v p a e =
      by-test (is_in a r) (λ f. known w v p a (is_in-member a r f))
      (λ f. rw p (member-is_in a (r ++ others r w.visited) (Memᴰ.append_right r (member-others r a w.visited f (is_in-member a w.visited e)))))

  unknown : (w v : Walked) → Beside w v → (a : Bytes) → is_in a w.visited ≡ false → is_in a r ≡ false → is_in a v.visited ≡ false
  unknown w v p a e f =
      by-test (is_in a v.visited)
      (λ g. absurd (elim (Memᴰ.append_cases r (rw p at (is_in-member a v.visited g))) [
        | inl x ↦ fresh-member a r f x
        | inr y ↦ fresh-member
            a w.visited e (others-member r a w.visited y).0
      ]))
      (λ g. g)

  all_known : (ids : List Bytes) (v : Walked) → ((a : Bytes) → a ∈ ids → is_in a v.visited ≡ true) → walk styles ids v ≡ v
  all_known [] v h = (walk_is styles).none v
  all_known (a ∷ ids) v h = (walk_is styles).again a ids v (h a (Memᴰ.head refl)) ∙ all_known ids v (λ b m. h b (Memᴰ.tail m))

  met-known : (a : Bytes) (w v : Walked) → is_in a r ≡ true → Beside w v → Beside (meet a w) v
  unfolding meet
  met-known a w v e p = rw (others-one r w.visited a e) p

  met-unknown : (a : Bytes) (w v : Walked) → is_in a r ≡ false → Beside w v → Beside (meet a w) (meet a v)
  unfolding meet
  met-unknown a w v e p = rw (p, others-more r w.visited a e) (append_assoc r (others r w.visited) (a ∷ []))

  own-beside : (a : Bytes) (m v : Walked) → Beside m v → Beside (own styles a m) v
  own-beside a m v p = rw (own-visited styles a m) p

  beside : {ids : List Bytes} {w m : Walked} → Walks styles ids w m → (v : Walked) → Beside w v → Beside m (walk styles ids v)
  beside (done {w = w} {r = m} e) v p = rw ((walk_is styles).none v, e) p
  beside (again {a = a} {ids = ids} {w = w} e d) v p = rw ((walk_is styles).again a ids v (known_too w v p a e)) (beside d v p)
  beside (first {a = a} {ids = ids} {w = w} {m = m} {r = z} e d k) v p = by-test (is_in a r) (old (beside d) (beside k)) (new (beside d) (beside k))
    where
      Above : Type 0
      Above = (u : Walked) → Beside (meet a w) u → Beside m (walk styles (parents styles a) u)

      Behind : Type 0
      Behind = (u : Walked) → Beside (own styles a m) u → Beside z (walk styles ids u)

      -- its parents are known too
      old : Above → Behind → is_in a r ≡ true → Beside z (walk styles (a ∷ ids) v)
      old f g h =
          let c : walk styles (parents styles a) v ≡ v = all_known (parents styles a) v (λ b n. known w v p b (closed a b (is_in-member a r h) n)) in
          rw ((walk_is styles).again a ids v (known w v p a (is_in-member a r h))) (g v (own-beside a m v (rw c at (f v (met-known a w v h p)))))

      new : Above → Behind → is_in a r ≡ false → Beside z (walk styles (a ∷ ids) v)
      new f g h =
          let u : Walked = walk styles (parents styles a) (meet a v) in
          rw ((walk_is styles).first a ids v (unknown w v p a e h))
          (g (own styles a u) (own-visited styles a u ∙ own-beside a m u (f (meet a v) (met-unknown a w v h p))))

-- the ids of a value, then what a second value reaches besides
pub both-ids : (styles : List (Style Bytes)) (value second : Bytes) (w : Walked) → w.visited ≡ (resolve styles value).ids
    → (walk styles (words second) w).visited ≡ (resolve styles value).ids ++ others (resolve styles value).ids (resolve styles second).ids
unfolding resolve answered start others
both-ids styles value second w e =
    let x = (resolve-answers styles value).ids_reached in
    beside styles (resolve styles value).ids (λ a b m k. x.all b (parent (x.only a m) k)) (walk-walks styles (words second) start) w (e ∙ sym
    (append-nil (resolve styles value).ids))

-- The ids of an answer are exactly those reached, in the order of their first visit. Assumes nothing.
--     region_exactly, cue_exactly              exactly those reached: of a region's answer, and of a cue's
--     region_order, cue_order                  in that order
--     value-reached, region_reached, cue_reached     both, of each query
use Prim.Native.Nat.{ℕ}
use mathlib.Core.Path.{◌≡◌, refl, sym, subst, ◌∙◌}
use mathlib.Core.Logic.{◌⊎◌, inl, inr}
use mathlib.Core.List.Memᴰ
use mathlib.Core.List.{List, []}
use mathlib.Core.Option.{Option, none, some}
use native.Mathlib.Omega.{arith}
use Rattle.track.specs.Track.{Bytes, Look, Region, Style, Cue, Track}
use Rattle.track.proofs.Exactly.{no_some}
use Rattle.records.specs.Find.{find_region}
use Rattle.styles.specs.Reaches.{chain_words, Reaches, empty, Exactly}
use Rattle.styles.specs.Resolve.{Resolution, resolve}
use Rattle.styles.specs.Listing.{InOrder, done}
use Rattle.styles.specs.Own.{Read, is, refused, next, value_of, own_values}
use Rattle.styles.specs.Queries.{
  nothing,
  resolve_optional,
  with_own,
  region_found,
  region_style,
  both,
  region_optional,
  cue_found,
  effective_style,
  nth,
}
use Rattle.styles.proofs.Theorem.{resolve-answers}
use Rattle.styles.proofs.Both.{both-exactly}
use Rattle.styles.proofs.Listing.{resolve-lists, optional-lists, both-lists}
use Rattle.queries.specs.Promise.{ByRegion, chained, ByCue, its_region, its_value, chain_names, region_names, cue_names}
use Rattle.queries.specs.Promise.{Query, of_value, of_region, of_cue_of}

exactly_none : {P : Bytes → Type 0} → ((a : Bytes) → P a → ⊥) → Exactly P []
exactly_none h = record { all = λ a p. absurd (h a p); only = λ a m. absurd (Memᴰ.not-nil m); once = empty }

exactly_map : {P Q : Bytes → Type 0} {l : List Bytes} → ((a : Bytes) → P a → Q a) → ((a : Bytes) → Q a → P a) → Exactly P l → Exactly Q l
exactly_map f g e = record { all = λ a q. e.all a (g a q); only = λ a m. f a (e.only a m); once = e.once }

-- a value that may be absent
abbrev ByValue : List (Style Bytes) → Option Bytes → Bytes → Type 0
ByValue styles v a = (w : Bytes) × (v ≡ some w) × Reaches styles w a

value-exactly : (styles : List (Style Bytes)) (v : Option Bytes) → Exactly (ByValue styles v) (resolve_optional styles v).ids
unfolding nothing
value-exactly styles none = exactly_none (λ a x. no_some x.1)
value-exactly styles (some v) =
    exactly_map {P = Reaches styles v} (λ a r. (v, refl, r)) back (resolve-answers styles v).ids_reached
  where
    back : (a : Bytes) → ByValue styles (some v) a → Reaches styles v a
    back a (w, e, r) = let q : w ≡ v = cc in rw q at r

ids_of : {a b : Resolution} → is a ≡ is b → a.ids ≡ b.ids
ids_of e = cc

not_refused : {A : Type 0} {n : ℕ} {r : Resolution} → refused n ≡ is r → A
not_refused e = let z : ◌≡◌ {A = ℕ} 0 1 = cc in absurd (omega arith)

module _ (k : Track Bytes) where
  region-found : (id : Bytes) (o : Option (Region Bytes)) → find_region id k.regions ≡ o → (r : Resolution) → region_found k.styles o ≡ is r
      → Exactly (ByRegion k id) r.ids
  unfolding nothing
  region-found id none e r h =
      rw (← (ids_of h)) (exactly_none none_found)
    where
      none_found : (a : Bytes) → ByRegion k id a → ⊥
      none_found a (chained f v x) = no_some (sym e ∙ f)
  region-found id (some g) e r h = go (own_values g.extras) h
    where
      back : (a : Bytes) → ByRegion k id a → ByValue k.styles (value_of "style" g.extras) a
      back a (chained {g = g₁} {v = v₁} f v x) = let s : g₁ ≡ g = cc in (v₁, rw s at v, x)

      go : (o : Read (Look Bytes)) → next o (λ own. is (with_own (resolve_optional k.styles (value_of "style" g.extras)) own)) ≡ is r
          → Exactly (ByRegion k id) r.ids
      go (refused n) q = not_refused q
      go (is own) q =
          rw (← (ids_of q))
          (exactly_map {P = ByValue k.styles (value_of "style" g.extras)} (λ a x. chained e x.1 x.2) back
          (value-exactly k.styles (value_of "style" g.extras)))

  pub region_exactly : (id : Bytes) (r : Resolution) → region_style k id ≡ is r → Exactly (ByRegion k id) r.ids
  unfolding region_style
  region_exactly id r h = region-found id (find_region id k.regions) refl r h

  -- a region that may be absent
  abbrev ByOptional : Option Bytes → Bytes → Type 0
  ByOptional v a = (id : Bytes) × (v ≡ some id) × ByRegion k id a

  optional-exactly : (v : Option Bytes) (r : Resolution) → region_optional k v ≡ is r → Exactly (ByOptional v) r.ids
  unfolding nothing
  optional-exactly none r h = rw (← (ids_of h)) (exactly_none (λ a x. no_some x.1))
  optional-exactly (some id) r h =
      exactly_map {P = ByRegion k id} (λ a x. (id, refl, x)) back (region_exactly id r h)
    where
      back : (a : Bytes) → ByOptional (some id) a → ByRegion k id a
      back a (j, e, x) = let q : j ≡ id = cc in rw q at x

  cue-found : (i : ℕ) (o : Option (Cue Bytes)) → nth k.cues i ≡ o → (r : Resolution) → cue_found k o ≡ is r → Exactly (ByCue k i) r.ids
  unfolding nothing
  cue-found i none e r h = rw (← (ids_of h)) (exactly_none (λ a x. past a x))
    where
      past : (a : Bytes) → ByCue k i a → ⊥
      past a (its_region f g x) = no_some (sym e ∙ f)
      past a (its_value f g x) = no_some (sym e ∙ f)
  cue-found i (some c) e r h = go (region_optional k c.region) refl h
    where
      to : (a : Bytes) → ByOptional c.region a ⊎ ByValue k.styles c.style a → ByCue k i a
      to a (inl (id, g, x)) = its_region e g x
      to a (inr (w, g, x)) = its_value e g x

      from : (a : Bytes) → ByCue k i a → ByOptional c.region a ⊎ ByValue k.styles c.style a
      from a (its_region {c = d} {id = id} f g x) = let q : d ≡ c = cc in inl (id, rw q at g, x)
      from a (its_value {c = d} {v = v} f g x) = let q : d ≡ c = cc in inr (v, rw q at g, x)

      go : (o : Read Resolution) → region_optional k c.region ≡ o → next o (λ s. is (both s (resolve_optional k.styles c.style))) ≡ is r
          → Exactly (ByCue k i) r.ids
      go (refused n) u q = not_refused q
      go (is s) u q =
          rw (← (ids_of q))
          (exactly_map {P = λ (a : Bytes). ByOptional c.region a ⊎ ByValue k.styles c.style a} to from
          (both-exactly s.ids (resolve_optional k.styles c.style).ids (optional-exactly c.region s u) (value-exactly k.styles c.style)))

  pub cue_exactly : (i : ℕ) (r : Resolution) → effective_style k i ≡ is r → Exactly (ByCue k i) r.ids
  unfolding effective_style
  cue_exactly i r h = cue-found i (nth k.cues i) refl r h

  -- ---- their order
  -- the chain of a region that may be absent
  abbrev chain_in : Option (Region Bytes) → Option Bytes
  chain_in none = none
  chain_in (some g) = value_of "style" g.extras

  abbrev chain_at : Option Bytes → Option Bytes
  chain_at none = none
  chain_at (some id) = chain_in (find_region id k.regions)

  found-names : (o : Option (Region Bytes)) → chain_words (chain_in o) ≡ chain_names o
  found-names none = refl
  found-names (some g) = refl

  its_names : (v : Option Bytes) → chain_words (chain_at v) ≡ region_names k v
  its_names none = refl
  its_names (some id) = found-names (find_region id k.regions)

  -- what it says itself adds no id
  found-ids : (o : Option (Region Bytes)) (r : Resolution) → region_found k.styles o ≡ is r → r.ids ≡ (resolve_optional k.styles (chain_in o)).ids
  found-ids none r h = sym (ids_of h)
  found-ids (some g) r h = go (own_values g.extras) h
    where
      go : (o : Read (Look Bytes)) → next o (λ own. is (with_own (resolve_optional k.styles (value_of "style" g.extras)) own)) ≡ is r
          → r.ids ≡ (resolve_optional k.styles (value_of "style" g.extras)).ids
      go (refused n) q = not_refused q
      go (is own) q = sym (ids_of q)

  its_ids : (v : Option Bytes) (r : Resolution) → region_optional k v ≡ is r → r.ids ≡ (resolve_optional k.styles (chain_at v)).ids
  unfolding region_style
  its_ids none r h = sym (ids_of h)
  its_ids (some id) r h = found-ids (find_region id k.regions) r h

  pub region_order : (id : Bytes) (r : Resolution) → region_style k id ≡ is r → InOrder k.styles (region_names k (some id)) r.ids
  region_order id r h = rw (its_ids (some id) r h, ← (its_names (some id))) (optional-lists k.styles (chain_at (some id)))

  cue_listed : (o : Option (Cue Bytes)) (r : Resolution) → cue_found k o ≡ is r → InOrder k.styles (cue_names k o) r.ids
  unfolding nothing
  cue_listed none r h = done (sym (ids_of h))
  cue_listed (some c) r h = go (region_optional k c.region) refl h
    where
      go : (o : Read Resolution) → region_optional k c.region ≡ o → next o (λ s. is (both s (resolve_optional k.styles c.style))) ≡ is r
          → InOrder k.styles (cue_names k (some c)) r.ids
      go (refused n) u q = not_refused q
      go (is s) u q =
          rw (← (ids_of q), its_ids c.region s u, ← (its_names c.region)) (both-lists k.styles (chain_at c.region) c.style)

  pub cue_order : (i : ℕ) (r : Resolution) → effective_style k i ≡ is r → InOrder k.styles (cue_names k (nth k.cues i)) r.ids
  unfolding effective_style
  cue_order i r h = cue_listed (nth k.cues i) r h

-- ---- of each query
abbrev pub Reached : Query → Track Bytes → Resolution → Type 0
Reached q k r = Exactly (q.reaches k) r.ids × InOrder k.styles (q.names k) r.ids

module _ (k : Track Bytes) (r : Resolution) where
  pub value-reached : (value : Bytes) → is (resolve k.styles value) ≡ is r → Reached (of_value value) k r
  value-reached value h =
      let e : resolve k.styles value ≡ r = cc in
      subst (Reached (of_value value) k) e ((resolve-answers k.styles value).ids_reached, resolve-lists k.styles value)

  pub region_reached : (id : Bytes) → region_style k id ≡ is r → Reached (of_region id) k r
  region_reached id h = (region_exactly k id r h, region_order k id r h)

  pub cue_reached : (i : ℕ) → effective_style k i ≡ is r → Reached (of_cue_of i) k r
  cue_reached i h = (cue_exactly k i r h, cue_order k i r h)

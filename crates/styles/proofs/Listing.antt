-- The walk lists the ids in the order of their first visit, and no other list is in that order. Assumes nothing.
--     lists_only                       one list at most
--     resolve-lists, optional-lists    of a value, and of one that may be absent
--     both-lists                       of two: the ids of the first, then those of the second that are new
use mathlib.Core.Path.{◌≡◌, refl, sym, ap, subst, ◌∙◌}
use mathlib.Core.List.{List, [], ◌++◌}
use mathlib.Core.Option.{Option, none, some}
use Rattle.utf8.specs.White.{words}
use Rattle.track.specs.Track.{Bytes, Style}
use Rattle.styles.specs.Reaches.{chain_words}
use Rattle.styles.specs.Resolve.{Walked, start, meet, walk, answered, resolve}
use Rattle.styles.specs.Queries.{nothing, resolve_optional, others}
use Rattle.styles.specs.Listing as listing
use Rattle.styles.specs.Listing.{Lists, InOrder}
use Rattle.styles.proofs.Members.{is_in-member, fresh-member}
use Rattle.styles.proofs.Walks.{Walks, done, again, first, own-visited}
use Rattle.styles.proofs.Equations.{walk-walks}
use Rattle.styles.proofs.Both.{both-ids}
use Rattle.styles.proofs.Lookups.{no_words}
use Rattle.styles.proofs.Answering.{resolve-nothing}

module _ (styles : List (Style Bytes)) where
  pub lists_only : {ids l r s : List Bytes} → Lists styles ids l r → Lists styles ids l s → r ≡ s
  lists_only (listing.done e) (listing.done f) = e ∙ sym f
  lists_only (listing.again m d) (listing.again n k) = lists_only d k
  lists_only (listing.again m d) (listing.first n k h) = absurd (n m)
  lists_only (listing.first n d g) (listing.again m k) = absurd (n m)
  lists_only (listing.first {ids = ids} n d g) (listing.first {r = s} m k h) =
      lists_only g (subst (λ (x : List Bytes). Lists styles ids x s) (sym (lists_only d k)) h)

  -- what the walk visits is so listed
  walk-lists : {ids : List Bytes} {w r : Walked} → Walks styles ids w r → Lists styles ids w.visited r.visited
  unfolding meet
  walk-lists (done e) = listing.done (ap (λ (x : Walked). x.visited) e)
  walk-lists (again {a = a} {w = w} e d) = listing.again (is_in-member a w.visited e) (walk-lists d)
  walk-lists (first {a = a} {ids = ids} {w = w} {m = m} {r = r} e d k) =
      listing.first (fresh-member a w.visited e) (walk-lists d)
      (subst (λ (x : List Bytes). Lists styles ids x r.visited) (own-visited styles a m) (walk-lists k))

  -- one list of ids after the other
  lists_append : {ids more l m r : List Bytes} → Lists styles ids l m → Lists styles more m r → Lists styles (ids ++ more) l r
  lists_append {more = more} {r = r} (listing.done e) k = subst (λ (x : List Bytes). Lists styles more x r) e k
  lists_append (listing.again m d) k = listing.again m (lists_append d k)
  lists_append (listing.first n d g) k = listing.first n d (lists_append g k)

  pub resolve-lists : (value : Bytes) → InOrder styles (words value) (resolve styles value).ids
  unfolding resolve answered start
  resolve-lists value = walk-lists (walk-walks styles (words value) start)

  values_list : (value second : Bytes)
      → InOrder styles (words value ++ words second) ((resolve styles value).ids ++ others (resolve styles value).ids (resolve styles second).ids)
  unfolding resolve answered start
  values_list value second =
      let w : Walked = walk styles (words value) start in
      subst (InOrder styles (words value ++ words second)) (both-ids styles value second w refl)
      (lists_append (walk-lists (walk-walks styles (words value) start)) (walk-lists (walk-walks styles (words second) w)))

  -- a value that is absent is as one without bytes
  abbrev or_empty : Option Bytes → Bytes
  or_empty none = []
  or_empty (some v) = v

  its_words : (v : Option Bytes) → words (or_empty v) ≡ chain_words v
  its_words none = no_words
  its_words (some v) = refl

  its_ids : (v : Option Bytes) → (resolve styles (or_empty v)).ids ≡ (resolve_optional styles v).ids
  unfolding nothing
  its_ids none = rw (resolve-nothing styles)
  its_ids (some v) = refl

  pub optional-lists : (v : Option Bytes) → InOrder styles (chain_words v) (resolve_optional styles v).ids
  optional-lists v = rw (← (its_words v), ← (its_ids v)) (resolve-lists (or_empty v))

  pub both-lists : (v u : Option Bytes) → InOrder styles (chain_words v ++ chain_words u)
      ((resolve_optional styles v).ids ++ others (resolve_optional styles v).ids (resolve_optional styles u).ids)
  both-lists v u = rw (← (its_words v), ← (its_words u), ← (its_ids v), ← (its_ids u)) (values_list (or_empty v) (or_empty u))

-- One id applied: what the program has done at each way through `apply_style_ref`. Assumes nothing.
--     applied-again            the id was visited: nothing is done
--     applied-full             there is no row for it
--     entered                  it has a row, the last one
--     applied-first            its parents were applied, then its own style
--     applied-over             there was no row for one of those that it reaches
use Prim.Native.Nat.{ℕ, ◌+◌, ◌-◌, ◌*◌, ◌≤◌, ◌<◌}
use mathlib.Core.Path.{◌≡◌, refl, sym, ap, ◌∙◌}
use mathlib.Core.Bool.{true, false}
use mathlib.Core.Logic.{◌⊎◌, inl, inr}
use mathlib.Core.List.{List, [], ◌∷◌}
use native.Mathlib.Omega.{arith}
use lib.ListN.{length}
use lib.Ieee.{Float}
use Rattle.scan.specs.Part.{string_at}
use Rattle.utf8.specs.White.{words}
use Rattle.names.specs.Numbers.{is_in}
use Rattle.track.specs.declared.strings.Span.{Span}
use Rattle.track.specs.Track.{Bytes}
use Rattle.track.specs.Tables.{span}
use Rattle.styles.specs.declared.apply.Walk.{Walk}
use Rattle.styles.specs.Reaches.{parents}
use Rattle.styles.specs.Resolve.{Walked, meet, own, walk}
use Rattle.styles.specs.Cells.{Tidy}
use Rattle.styles.specs.Ids.{Row, bytes_of, ids_in, Held, Added, AddPost}
use Rattle.styles.specs.Places.{row, forget, meet_at, is_visited, Walks}
use Rattle.styles.specs.Steps.{styles_in, state_in, state_at, Stands, ChainOf, OwnStyle, Grown, Over, Visits, again, first, Applies, Overflows}
use Rattle.styles.proofs.Walks.{own-visited}
use Rattle.styles.proofs.Equations.{walk_is}
use Rattle.styles.proofs.Places.{ids_length}
use Rattle.styles.proofs.Forgetting.{walk_none, meets, parents-at}
use Rattle.styles.proofs.Along.{met-longer, grown_none, grown_more, over-kept}

module _ (x s : List ℕ) (f : List Float) (z : List ℕ) (n : ℕ) (id : Bytes) (t heads : List ℕ) (w : Walk) (held : Held x z t heads w.count) where
  abbrev state : Walked
  state = state_in x z t w

  pub applied-again : (a : Row) → bytes_of x z a ≡ id → is_in id (ids_in x z t w.count) ≡ true
      → Applies (Visits x s f z n a) x z t t heads w w
  applied-again a q h = record {
    grown = grown_none x z t heads w.count held;
    tidy = λ k. k;
    is = again (rw q h) refl;
  }

  module _ (new : is_in id (ids_in x z t w.count) ≡ false) where
    -- the walk at a new id
    opened : (e : List ℕ) → walk (styles_in s f e z n) (id ∷ []) state
        ≡ own (styles_in s f e z n) id (walk (styles_in s f e z n) (parents (styles_in s f e z n) id) (meet id state))
    opened e = (walk_is (styles_in s f e z n)).first id [] state new ∙ walk_none (styles_in s f e z n) _

    opened-ids : (e : List ℕ) → (walk (styles_in s f e z n) (id ∷ []) state).visited
        ≡ (walk (styles_in s f e z n) (parents (styles_in s f e z n) id) (meet id state)).visited
    opened-ids e = ap (λ (v : Walked). v.visited) (opened e) ∙ own-visited (styles_in s f e z n) id _

    more-ids : (e : List ℕ) → w.count < length (walk (styles_in s f e z n) (id ∷ []) state).visited
    more-ids e =
        omega (
          arith,
          ids_length x z t w.count,
          met-longer (styles_in s f e z n) id (parents (styles_in s f e z n) id) state,
          ap length
              (opened-ids e),
        )

    pub applied-full : (65536 ≤ w.count) ⊎ (length t - w.count * 4 < 4) → Overflows x s f z n (id ∷ []) t t heads w
    applied-full (inl h) = record { kept = refl; over = λ e. inr (omega (arith, more-ids e)) }
    applied-full (inr h) = record { kept = refl; over = λ e. inl (omega (arith, more-ids e)) }

pub stands_name : (x z own : List ℕ) (source at len : ℕ) → Stands x z own source at len → bytes_of x z (row source (span at len)) ≡ string_at own at len
stands_name x z own source at len h = ap (λ (y : List ℕ). string_at y at len) (sym h.is)

-- the id stands where it is said to, was not visited, and has the row after the last
pub record Entry (x z own : List ℕ) (source at len : ℕ) (t heads t₁ heads₁ : List ℕ) (w : Walk) : Type 0 where
  pub held : Held x z t heads w.count
  pub new : is_in (string_at own at len) (ids_in x z t w.count) ≡ false
  pub stands : Stands x z own source at len
  pub kept : length t₁ ≡ length t
  pub post : AddPost t heads w.count source at len (string_at own at len) t₁ heads₁

module _ (x z own : List ℕ) (source at len : ℕ) (t heads t₁ heads₁ : List ℕ) (w : Walk) (entry : Entry x z own source at len t heads t₁ heads₁ w)
  where
    abbrev pub entered : Walk
    entered = record { count = w.count + 1; found = w.found; look = w.look }

    abbrev here : Row
    here = row source (span at len)

    named : bytes_of x z here ≡ string_at own at len
    named = stands_name x z own source at len entry.stands

    added : Added x z t heads w.count here t₁ heads₁
    added = entry.post x z entry.held entry.stands.known (rw entry.stands.is at entry.stands.within) (rw entry.stands.is)

    pub entered_held : Held x z t₁ heads₁ (w.count + 1)
    entered_held = added.held

    pub entered_grown : Grown x z t t₁ heads₁ w.count (w.count + 1)
    entered_grown = record { more = omega arith; kept = entry.kept; held = entered_held; behind = added.behind }

    meets_at : state_at t₁ entered ≡ meet_at here (state_at t w)
    unfolding meet_at
    meets_at = rw added.rows

    unvisited : is_visited x z here (state_at t w) ≡ false
    unvisited = rw named entry.new

    meets-id : state_in x z t₁ entered ≡ meet (string_at own at len) (state_in x z t w)
    meets-id = ap (forget x z) meets_at ∙ (meets x z here (state_at t w) ∙ ap (λ (b : Bytes). meet b (state_in x z t w)) named)

    module _ (s : List ℕ) (f : List Float) (n : ℕ) (chain : Span) (of : ChainOf s z n (string_at own at len) chain) where
      abbrev walked : List ℕ → Walked
      walked e = walk (styles_in s f e z n) (words (string_at z chain.place chain.len)) (state_in x z t₁ entered)

      as_walked : (e : List ℕ) → walk (styles_in s f e z n) (parents (styles_in s f e z n) (string_at own at len)) (meet (string_at own at len) (state_in
          x z t w)) ≡ walked e
      as_walked e =
          let parents-are = parents-at x s f e z n (string_at own at len) ∙ ap (λ (r : Row). words (bytes_of x z r)) (sym of.is) in
          rw (parents-are, meets-id)

      pub applied-first : (t₂ heads₂ : List ℕ) (v r : Walk) → Grown x z t₁ t₂ heads₂ (w.count + 1) v.count
          → (Tidy w.look → Tidy v.look) → Walks x s f z n (row 1 chain) 0 (state_at t₁ entered) (state_at t₂ v)
          → OwnStyle s f z n (string_at own at len) v r → Applies (Visits x s f z n here) x z t t₂ heads₂ w r
      applied-first t₂ heads₂ v r g d l o = record {
        grown = rw o.count (grown_more x z t t₁ t₂ heads₁ heads₂ w.count (w.count + 1) v.count entered_grown g);
        tidy = λ h. o.tidy (d h);
        is = first {m = state_at t₂ v} unvisited (rw (named, ← of.is, ← meets_at) l) (rw named (o.is t₂));
      }

      pub applied-over : (t₂ heads₂ : List ℕ) → length t₂ ≡ length t₁ → ((e : List ℕ) → Over t₁ (walked e).visited)
          → Overflows x s f z n (string_at own at len ∷ []) t t₂ heads₂ w
      applied-over t₂ heads₂ l o = record {
        kept = l ∙ entered_grown.kept;
        over = λ e.
            rw (opened-ids x s f z n (string_at own at len) t heads w entry.held entry.new e, as_walked e)
            (over-kept t t₁ (walked e).visited entered_grown.kept (o e));
      }

-- Values resolved: the program's answer is the definition's. Assumes nothing.
--     held_none                        before any id
--     pairs_over_first, pairs_over, pairs          what `resolve_pair` leaves
--     lays_none, lays_first, lays_second           what `lay_over` gives
--     answered-alone, answered-over, answered      what `resolve_over` leaves
use Prim.Native.Nat.{ℕ, zero, suc, ◌*◌, ◌≤◌}
use mathlib.Core.Path.{◌≡◌, refl, sym, ap, ◌∙◌}
use mathlib.Core.Bool.{Bool, true, false, cond, not}
use mathlib.Core.List.{List, [], ◌++◌, append-nil}
use mathlib.Core.Option.{Option, none, some}
use native.Mathlib.Omega.{arith}
use lib.ListN.{length, get_or, replicate, length-append, length-replicate}
use lib.Ieee.{Float}
use Rattle.utf8.specs.White.{words}
use Rattle.track.specs.declared.values.Look as values
use Rattle.track.specs.Track.{Bytes, Look, Style}
use Rattle.track.specs.Tables.{rows_from}
use Rattle.track.specs.Meaning.{given, look_in_of}
use Rattle.styles.specs.declared.apply.Walk.{Walk}
use Rattle.styles.specs.Values.{blank, laid_over}
use Rattle.styles.specs.Resolve.{Walked, start, walk, answered, resolve}
use Rattle.styles.specs.Queries.{others, with_own}
use Rattle.styles.specs.Cells.{overlaid, blank_look, is_plain}
use Rattle.styles.specs.Ids.{Row, bytes_of, names_of, rows_in, Held, Unlinked}
use Rattle.styles.specs.Places as places
use Rattle.styles.specs.Places.{WalkedAt, forget, start_at}
use Rattle.styles.specs.Steps.{styles_in, state_in, state_at, Applies, Overflows, style_of, LaysOver, ids_of_both, Pairs, PairsOver, answer_of, Answered, AnswerOver}
use Rattle.styles.proofs.Clearing.{unlinked_rows, unlinked_within}
use Rattle.styles.proofs.Along.{over-kept, over-longer}
use Rattle.styles.proofs.Forgetting.{walk_none, forgets}
use Rattle.styles.proofs.Lookups.{look-over, no_words}
use Rattle.styles.proofs.Overlays.{plain-unstyled}
use Rattle.styles.proofs.Both.{both-ids, both-longer}
use Rattle.styles.proofs.Tidying.{tidy_blank, tidy_over}

zeros : (n i : ℕ) → ◌≡◌ {A = ℕ} (get_or (replicate n 0) i 0) 0
zeros zero i = refl
zeros (suc n) zero = refl
zeros (suc n) (suc i) = zeros n i

pub held_none : (x z t : List ℕ) → Held x z t (replicate 4096 0) 0
held_none x z t = record {
  tree = record {
    rows = omega arith;
    buckets = length-replicate {A = ℕ} 4096 0;
    first = λ h. omega (arith, zeros 4096 h);
    next = λ i b l. absurd (omega arith);
    later = λ i b l. absurd (omega arith);
  };
  few = omega arith;
  within = λ i l. absurd (omega arith);
  found = λ i l. absurd (omega arith);
}

-- nothing is resolved to nothing
pub resolve-nothing : (styles : List (Style Bytes)) → resolve styles [] ≡ record { style = none; ids = [] }
unfolding resolve answered start
resolve-nothing styles = ap (λ (ids : List Bytes). answered (walk styles ids start)) no_words ∙ ap answered (walk_none styles start)

pub both-nothing : (styles : List (Style Bytes)) (l : List Bytes) → l ++ others l (resolve styles []).ids ≡ l
unfolding others
both-nothing styles l = rw (resolve-nothing styles) (append-nil l)

module _ (x s : List ℕ) (f : List Float) (z : List ℕ) (n : ℕ) (first second : Bytes) (t : List ℕ) (w : Walk) (none_yet : w.count ≡ 0)
    (no_style : w.found ≡ false) (plain : w.look ≡ blank_look) (t₁ h₁ : List ℕ) where
  starts-at : state_at t w ≡ start_at
  unfolding start_at rows_in rows_from
  starts-at = rw (none_yet, no_style, plain)

  starts : state_in x z t w ≡ start
  unfolding start start_at names_of look_in_of blank_look blank
  starts = ap (forget x z) starts-at

  from_start : (e : List ℕ) → walk (styles_in s f e z n) (words first) (state_in x z t w) ≡ walk (styles_in s f e z n) (words first) start
  from_start e = rw starts

  pub pairs_over_first : Overflows x s f z n (words first) t t₁ h₁ w → PairsOver x s f z n first second t t₁
  unfolding resolve answered
  pairs_over_first o = record {
    kept = o.kept;
    over = λ e.
        let l : List Bytes = (walk (styles_in s f e z n) (words first) start).visited in
        let k : List Bytes = others l (walk (styles_in s f e z n) (words second) start).visited in
        over-longer t l (l ++ k) (omega (arith, length-append l k)) (rw (from_start e) at (o.over e));
  }

  module _ (one : Row) (is_one : bytes_of x z one ≡ first) (a : Walk) (done : Applies (places.Walks x s f z n one 0) x z t t₁ h₁ w a) where
    ends : (e : List ℕ) → walk (styles_in s f e z n) (words first) start ≡ state_in x z t₁ a
    unfolding words
    ends e = sym (from_start e) ∙ rw (← is_one) (forgets x s f e z n done.is)

    first-ids : (e : List ℕ) → (state_in x z t₁ a).visited ≡ (resolve (styles_in s f e z n) first).ids
    unfolding resolve answered
    first-ids e = sym (ap (λ (v : Walked). v.visited) (ends e))

    all_ids : (e : List ℕ) → (walk (styles_in s f e z n) (words second) (state_in x z t₁ a)).visited ≡ ids_of_both x s f z n first second t t₁ e
    all_ids e = both-ids (styles_in s f e z n) first second (state_in x z t₁ a) (first-ids e)

    module _ (t₂ h₂ : List ℕ) where
      pub pairs_over : Overflows x s f z n (words second) t₁ t₂ h₂ a → PairsOver x s f z n first second t t₂
      pairs_over o = record {
        kept = o.kept ∙ done.grown.kept;
        over = λ e. over-kept t t₁ (ids_of_both x s f z n first second t t₁ e) done.grown.kept (rw (all_ids e) at (o.over e));
      }

      pub pairs : (two : Row) → bytes_of x z two ≡ second → (b : Walk) → Applies (places.Walks x s f z n two 0) x z t₁ t₂ h₂ a b
          → (t₃ : List ℕ) → Unlinked t₂ t₃ b.count
          → (r : Walk) → r.count ≡ b.count → r.found ≡ a.found → r.look ≡ a.look → Pairs x s f z n first second t t₃ one two r
      unfolding resolve answered words
      pairs two is-two b more t₃ u r c g k =
          let h = more.grown.held in
          record {
            style = λ e. rw (ends e, g, k);
            ids = λ e.
                let on : walk (styles_in s f e z n) (words second) (state_in x z t₁ a) ≡ state_in x z t₂ b =
                rw (← is-two) (forgets x s f e z n more.is) in
                rw c (ap (names_of x z) (unlinked_rows x z t₂ t₃ b.count u b.count))
                ∙ (sym (ap (λ (v : Walked). v.visited) on) ∙ all_ids e);
            placed = record {
              below = state_at t₁ a;
              all = state_at t₂ b;
              its_style = rw starts-at at done.is;
              its_ids = more.is;
              is = rw (c, g, k, unlinked_rows x z t₂ t₃ b.count u b.count);
            };
            tidy = rw k (done.tidy (rw plain tidy_blank));
            kept = u.kept ∙ (more.grown.kept ∙ done.grown.kept);
            stood = rw c (record {
              fits = omega (arith, h.tree.rows, u.kept);
              few = h.few;
              rows = λ i l. unlinked_within x z t₂ t₃ b.count u i (h.within i l);
              marks = u.zeros;
            });
            behind = λ i l.
                let m : b.count * 4 ≤ i = rw c at l in
                u.behind i m ∙ (more.grown.behind i m ∙ done.grown.behind i (omega (arith, more.grown.more)));
          }

-- ---- a look over an answer
under_none : (x : Option (Look Bytes)) → x ≡ laid_over x none
under_none none = refl
under_none (some x) = refl

module _ (below : Walk) (has : Bool) (above : values.Look) where
  pub lays_none : has ≡ false → LaysOver below has above below
  lays_none h = record { count = refl; is = λ z. rw h (under_none (style_of z below)); tidy = λ a b. a; placed = λ t. rw h }

  module _ (r : Walk) (h : has ≡ true) (c : r.count ≡ below.count) (g : r.found ≡ true) where
    pub lays_first : below.found ≡ false → r.look ≡ above → LaysOver below has above r
    lays_first n k = record { count = c; is = λ z. rw (h, g, n, k); tidy = λ a b. rw k b; placed = λ t. rw (h, c, g, n, k) }

    pub lays_second : below.found ≡ true → r.look ≡ overlaid below.look above → LaysOver below has above r
    lays_second n k = record {
      count = c;
      is = λ z. rw (h, g, n, k, look-over z below.look above);
      tidy = λ a b. rw k (tidy_over below.look above a b);
      placed = λ t. rw (h, c, g, n, k);
    }

-- ---- a look, and a second value
given-cond : {A : Type 0} (b : Bool) (x : A) → given (not b) x ≡ cond b none (some x)
given-cond true x = refl
given-cond false x = refl

module _ (x s : List ℕ) (f : List Float) (z : List ℕ) (n : ℕ) (first second : Bytes) (look : values.Look) (t : List ℕ) where
  -- the second alone has not more ids than both
  pub answered-alone : (t' : List ℕ) → PairsOver x s f z n second [] t t' → AnswerOver x s f z n first second t t' look
  answered-alone t' o = record {
    kept = o.kept;
    over = λ e.
        let styles : List (Style Bytes) = styles_in s f e z n in
        over-longer t (resolve styles second).ids (answer_of x s f z n first second t t' look e).ids (both-longer styles first second)
        (rw (both-nothing styles (resolve styles second).ids) at (o.over e));
  }

  module _ (m₀ : ℕ) (t₁ : List ℕ) (kept : m₀ ≡ length t) (cleared : t₁ ≡ replicate m₀ 0) (t₂ : List ℕ) where
    as_long : length t₁ ≡ length t
    as_long = rw (cleared, ← kept) (length-replicate {A = ℕ} m₀ 0)

    pub answered-over : PairsOver x s f z n first second t₁ t₂ → AnswerOver x s f z n first second t t₂ look
    answered-over o = record {
      kept = o.kept ∙ as_long;
      over = λ e. over-kept t t₁ (ids_of_both x s f z n first second t₁ t₂ e) as_long (o.over e);
    }

    answer_first : List ℕ → Option (Look Bytes)
    answer_first e = (with_own (resolve (styles_in s f e z n) first) (look_in_of z look)).style

    pub is-answered : (one two three : Row) (b : Walk) (u v : List ℕ) → Pairs x s f z n second [] u v two three b
        → (a : Walk) → Pairs x s f z n first second t₁ t₂ one two a
        → (m r : Walk) → LaysOver a (not (is_plain look)) look m → LaysOver m b.found b.look r
        → Answered x s f z n first second t t₂ look one two r
    unfolding answer_first
    is-answered one two three b u v alone a pair m r below above =
        let c : r.count ≡ a.count = above.count ∙ below.count in
        record {
          style = λ e.
              above.is z ∙ rw (below.is z, pair.style e, given-cond (is_plain look) (look_in_of z look), plain-unstyled z look) (ap
              (laid_over (answer_first e)) (alone.style e));
          ids = λ e. rw c (pair.ids e);
          placed = record {
            below = state_at t₂ a;
            above = alone.placed.below;
            joined = pair.placed;
            second = alone.placed.its_style;
            is = above.placed t₂
                ∙ rw (
                  below.placed t₂,
                  ap (λ (w : WalkedAt). w.found) alone.placed.is,
                  ap (λ (w : WalkedAt). w.look) alone.placed.is,
                );
          };
          tidy = λ h. above.tidy (below.tidy pair.tidy h) alone.tidy;
          kept = pair.kept ∙ as_long;
          stood = rw c pair.stood;
          behind = λ i l.
              let k : a.count * 4 ≤ i = rw c at l in
              pair.behind i k ∙ rw cleared (zeros m₀ i);
        }

-- What the program's parts ensure meets the promise. Assumes nothing.
--     taken-only, away_once, once         a text is taken with one track, or turned away with one number and place, and never both
--     RestLong, RestZero, all_zero        what the program tests and clears beside the tree reader
--     RestLaid, laid-of                   the tables of the track one by one
--     promise_short                       a table of the track is too short
--     promise_away                        the tree reader refuses
--     promise_none                        the tree's nodes mean a number
--     promise_track                       the tree's nodes mean a track, and that is laid out
use Rattle.std.specs.Prelude.{Result, Ok, Err, ⊤}
use Prim.Native.Nat.{ℕ, ◌≤◌, ◌<◌}
use mathlib.Core.Path.{◌≡◌, refl, sym, ap, subst, ◌∙◌}
use mathlib.Core.List.{List}
use native.Mathlib.Omega.{arith}
use lib.ListN.{length, replicate}
use lib.IntN.{pos}
use Rattle.grammar.specs.Tree.{Forest}
use Rattle.grammar.specs.Limits as count
use Rattle.tree.specs.declared.answers.Refusal.{Refusal}
use Rattle.track.specs.Track.{Track}
use Rattle.track.specs.Tables.{Lengths, lengths, zero_float}
use Rattle.track.specs.Tables as track
use Rattle.xml.specs.Reading.{Placed}
use Rattle.tree.specs.Answers as answers
use Rattle.xml.specs.Promise as xml
use Rattle.xml.proofs.Promises.{away_some, counted}
use Rattle.xml.proofs.Given.{given-tree, given-forest}
use Rattle.meaning.specs.Answers.{is, refused}
use Rattle.meaning.specs.Answers as meaning
use Rattle.meaning.specs.Nodes.{Nodes}
use Rattle.meaning.specs.Kinds.{nodes_in}
use Rattle.track.specs.Layout.{each, filled, filled_times, filled_sizes, joined_cells, head_cells, param_cells, style_cells, region_cells, cue_cells}
use Rattle.track.specs.Layout.{cue_times, segment_cells, style_size, all_segments, style_extras, region_extras, cue_extras}
use Rattle.track.specs.Layout.{layout}
use Rattle.track.specs.Layout as placing
use Rattle.laid.specs.Laid.{laid_of, texts_of, track_tables}
use Rattle.promised.specs.Promise.{number_of, place_of, Tables, tree_tables, LongEnough, zeros, AllZero, nodes_of, Takes, TurnsAway}
use Rattle.promised.specs.Promise.{short_table, no_tree, no_track, Promise}
use Rattle.promised.proofs.Numbers.{Numbered}
use Rattle.promised.proofs.Trees as trees
use Rattle.tree.specs.declared.answers.TreeSize.{TreeSize}
use Rattle.tree.specs.Answers.{tree_with}

-- ---- answers
is≢refused : {A : Type 0} {a : A} {n p : ℕ} → ◌≡◌ {A = meaning.Answer A} (is a) (refused n p) → ⊥
is≢refused e = let w : ◌≡◌ {A = ℕ} 0 1 = cc in omega arith

is_same : {A : Type 0} {a b : A} → ◌≡◌ {A = meaning.Answer A} (is a) (is b) → a ≡ b
is_same e = cc

number_same : {A : Type 0} {i p j q : ℕ} → ◌≡◌ {A = meaning.Answer A} (refused i p) (refused j q) → i ≡ j
number_same e = cc

place_same : {A : Type 0} {i p j q : ℕ} → ◌≡◌ {A = meaning.Answer A} (refused i p) (refused j q) → p ≡ q
place_same e = cc

abbrev pub refusal : (number place : ℕ) → Result ⊤ Refusal
refusal i p = Err (record { number = i; place = p })

refused≢track : {r : Refusal} → ◌≡◌ {A = Result ⊤ Refusal} (Err r) (Ok tt) → ⊥
refused≢track e = let w : ◌≡◌ {A = ℕ} 0 1 = cc in omega arith

-- ---- the tables of the track but for the strings, which the tree reader tests and clears

-- they are long enough
pub record RestLong (n : Lengths) : Type 0 where
  pub head : 10 ≤ n.head
  pub params : 256 ≤ n.params
  pub styles : 6912 ≤ n.styles
  pub regions : 1024 ≤ n.regions
  pub cues : 22528 ≤ n.cues
  pub times : 4096 ≤ n.times
  pub segments : 98304 ≤ n.segments
  pub sizes : 256 ≤ n.sizes
  pub extras : 24576 ≤ n.extras
  pub texts : 65536 ≤ n.texts

long_of : {n : Lengths} → RestLong n → 65536 ≤ n.strings → track.LongEnough n
long_of r h = record {
  head = r.head;
  params = r.params;
  styles = r.styles;
  regions = r.regions;
  cues = r.cues;
  times = r.times;
  segments = r.segments;
  sizes = r.sizes;
  extras = r.extras;
  strings = h;
  texts = r.texts;
}

pub rest_of : {n : Lengths} → track.LongEnough n → RestLong n
rest_of r = record {
  head = r.head;
  params = r.params;
  styles = r.styles;
  regions = r.regions;
  cues = r.cues;
  times = r.times;
  segments = r.segments;
  sizes = r.sizes;
  extras = r.extras;
  texts = r.texts;
}

-- every cell is zero
pub record RestZero (n : Lengths) (T : track.Tables) : Type 0 where
  pub head : T.head ≡ replicate n.head 0
  pub params : T.params ≡ replicate n.params 0
  pub styles : T.styles ≡ replicate n.styles 0
  pub regions : T.regions ≡ replicate n.regions 0
  pub cues : T.cues ≡ replicate n.cues 0
  pub times : T.times ≡ replicate n.times (pos 0)
  pub segments : T.segments ≡ replicate n.segments 0
  pub sizes : T.sizes ≡ replicate n.sizes zero_float
  pub extras : T.extras ≡ replicate n.extras 0
  pub texts : T.texts ≡ replicate n.texts 0

zeros_of : {n : Lengths} {T : track.Tables} → RestZero n T → T.strings ≡ replicate n.strings 0 → T ≡ zeros n
unfolding zeros
zeros_of r z =
    rw (
      ← r.head,
      ← r.params,
      ← r.styles,
      ← r.regions,
      ← r.cues,
      ← r.times,
      ← r.segments,
      ← r.sizes,
      ← r.extras,
      ← z,
      ← r.texts,
    )

pub all_zero : {lent left : Tables} → xml.AllZero (tree_tables lent) (tree_tables left) → RestZero (lengths lent.track) left.track
    → AllZero lent left
all_zero z r = record { of_tree = z; of_track = zeros_of r z.of_strings }

-- ---- the track laid out, table by table; the strings are the tree's
module _ (n : Lengths) (m : ℕ) (t : Track Placed) where
  abbrev k : placing.Placed
  k = laid_of t

  abbrev g : List placing.Sized
  g = all_segments k.cues

  pub record RestLaid (T : track.Tables) : Type 0 where
    pub head : T.head ≡ filled n.head (head_cells k m m)
    pub params : T.params ≡ filled n.params (joined_cells param_cells k.params)
    pub styles : T.styles ≡ filled n.styles (joined_cells (λ x. style_cells x.style) k.styles)
    pub regions : T.regions ≡ filled n.regions (joined_cells (λ x. region_cells x.region) k.regions)
    pub cues : T.cues ≡ filled n.cues (joined_cells (λ x. cue_cells x.cue) k.cues)
    pub times : T.times ≡ filled_times n.times (cue_times k.cues)
    pub segments : T.segments ≡ filled n.segments (joined_cells (λ x. segment_cells x.segment x.rows) g)
    pub sizes : T.sizes ≡ filled_sizes n.sizes (each style_size k.styles)
    pub extras : T.extras ≡ cue_extras (region_extras (style_extras (replicate n.extras 0) k.styles) k.regions) k.cues
    pub texts : T.texts ≡ texts_of n.texts t

  pub laid-of : {T : track.Tables} → RestLaid T → T ≡ track_tables n T.strings m t
  unfolding track_tables layout
  laid-of r =
      rw (
        ← r.head,
        ← r.params,
        ← r.styles,
        ← r.regions,
        ← r.cues,
        ← r.times,
        ← r.segments,
        ← r.sizes,
        ← r.extras,
        ← r.texts,
      )

-- ---- the nodes that the tree reader left
module _ {s : List ℕ} {lent left : xml.Tables} {r : Result TreeSize Refusal} {i j : ℕ} (p : xml.Parsed s lent r left) (given : r ≡ tree_with i j) where
  abbrev pub nodes_left : Nodes Placed
  nodes_left = nodes_in left.strings (given-forest p given)

  pub nodes-left : nodes_left ≡ nodes_of (given-tree p given).takes.derives.derived
  nodes-left = trees.nodes-held s lent (given-tree p given).takes p

module _ (meant : Nodes Placed → meaning.Answer (Track Placed)) (numbers : (f : Nodes Placed) → Numbered (meant f)) (s : List ℕ) (lent : Tables) where
  abbrev tree_lent : xml.Tables
  tree_lent = tree_tables lent

  -- ---- one outcome
  pub some_number : {i p : ℕ} → TurnsAway meant s lent i p → 0 < i
  some_number (short_table h) = omega arith
  some_number (no_tree l a) = away_some a
  some_number (no_track {n} {p} l d e) = omega (arith, ((numbers (nodes_of d.derives.derived)).within n p e).0)

  pub once : {f g : Forest} {t u : Track Placed} → Takes meant s lent f t → Takes meant s lent g u → (f ≡ g) × (t ≡ u)
  once x y = (
    trees.tree-same s tree_lent x.tree y.tree,
    is_same (sym x.means ∙ ap meant (trees.nodes-same s tree_lent x.tree y.tree) ∙ y.means),
  )

  pub taken-only : {f : Forest} {t : Track Placed} {i p : ℕ} → Takes meant s lent f t → TurnsAway meant s lent i p → ⊥
  taken-only x (short_table h) = h x.long_enough
  taken-only x (no_tree l a) = trees.taken-away s tree_lent x.tree a
  taken-only x (no_track l d e) = is≢refused (sym x.means ∙ ap meant (trees.nodes-same s tree_lent x.tree d) ∙ e)

  pub away_once : {i p j q : ℕ} → TurnsAway meant s lent i p → TurnsAway meant s lent j q → (i ≡ j) × (p ≡ q)
  away_once (short_table h) (short_table g) = (refl, refl)
  away_once (short_table h) (no_tree l a) = absurd (h l)
  away_once (short_table h) (no_track l d e) = absurd (h l)
  away_once (no_tree l a) (short_table g) = absurd (g l)
  away_once (no_tree l a) (no_tree k b) = trees.away_same s tree_lent a b
  away_once (no_tree l a) (no_track k d e) = absurd (trees.taken-away s tree_lent d a)
  away_once (no_track l d e) (short_table g) = absurd (g l)
  away_once (no_track l d e) (no_tree k b) = absurd (trees.taken-away s tree_lent d b)
  away_once (no_track l d e) (no_track k c x) =
      let w = sym e ∙ ap meant (trees.nodes-same s tree_lent d c) ∙ x in
      (number_same w, place_same w)

  -- ---- the promise, from the outcome
  pub turned-away : {answer : Result ⊤ Refusal} {left : Tables} {i p : ℕ} → TurnsAway meant s lent i p → answer ≡ refusal i p → AllZero lent left
      → Promise meant s lent answer left
  unfolding number_of place_of
  turned-away a e z = record {
    taken = ((λ x. absurd (refused≢track (sym e ∙ x))), (λ x. absurd (taken-only x.2 a)));
    tree = λ f t x. absurd (taken-only x a);
    track = λ f t x. absurd (taken-only x a);
    refused = λ n q h. (
      (λ x. let b = ap number_of (sym e) ∙ x.0 in let c = ap place_of (sym e) ∙ x.1 in rw (b, c) at a),
      (λ x. let b = away_once a x in (ap number_of e ∙ b.0, ap place_of e ∙ b.1)),
    );
    cleared = λ h. z;
  }

  pub taken_as : {answer : Result ⊤ Refusal} {left : Tables} {f : Forest} {t : Track Placed} → Takes meant s lent f t → answer ≡ Ok tt
      → xml.Parsed s tree_lent (tree_with (count.nodes f) (count.attrs f)) (tree_tables left)
      → left.track ≡ track_tables (lengths lent.track) left.track.strings (length s) t → Promise meant s lent answer left
  unfolding number_of place_of
  taken_as {answer} {left} {f} {t} x e p l = record {
    taken = ((λ y. (f, t, x)), (λ y. e));
    tree = λ g u y.
        subst (λ (h : Forest). xml.Parsed s tree_lent (tree_with (count.nodes h) (count.attrs h)) (tree_tables left)) (once x y).0 p;
    track = λ g u y.
        subst (λ (v : Track Placed). left.track ≡ track_tables (lengths lent.track) left.track.strings (length s) v) (once x y).1 l;
    refused = λ n q h. (
      (λ y. absurd (let b = ap number_of (sym e) ∙ y.0 in omega (arith, h, b))),
      (λ y. absurd (taken-only x y)),
    );
    cleared = λ h. absurd (let b = ap number_of e in omega (arith, h, b));
  }

  -- ---- from what the parts ensure
  pub promise_short : {answer : Result ⊤ Refusal} {left : Tables} → ¬ LongEnough lent → answer ≡ refusal 1 0 → AllZero lent left
      → Promise meant s lent answer left
  promise_short h = turned-away (short_table h)

  module _ (rest : RestLong (lengths lent.track)) where
    all_long : xml.LongEnough tree_lent → LongEnough lent
    all_long l = record { of_tree = l; of_track = long_of rest l.of_strings }

    lift : {i p : ℕ} → xml.TurnsAway s tree_lent i p → TurnsAway meant s lent i p
    lift (xml.short_table h) = short_table (λ l. h l.of_tree)
    lift (xml.long_text l h) = no_tree (all_long l) (xml.long_text l h)
    lift (xml.not_utf8 l h u v) = no_tree (all_long l) (xml.not_utf8 l h u v)
    lift (xml.first-met r e) = no_tree (all_long r.long_enough) (xml.first-met r e)

    pub promise_away : {answer : Result ⊤ Refusal} {left : Tables} {r : Refusal} → xml.Parsed s tree_lent (Err r) (tree_tables left)
        → answer ≡ Err r → RestZero (lengths lent.track) left.track → Promise meant s lent answer left
    unfolding answers.number_of
    promise_away {r = r} p e z =
        let a = trees.refused-away s tree_lent p in
        turned-away (lift a) e (all_zero (p.cleared (away_some a)) z)

    module _ {r : Result TreeSize Refusal} {i j : ℕ} (given : r ≡ tree_with i j) where
      tables-long : {mid : xml.Tables} → xml.Parsed s tree_lent r mid → LongEnough lent
      tables-long p = all_long (given-tree p given).takes.readable.long_enough

      pub promise_none : {answer : Result ⊤ Refusal} {left : Tables} {mid : xml.Tables} (p : xml.Parsed s tree_lent r mid) {n q : ℕ}
          → meant (nodes_left p given) ≡ refused n q → answer ≡ refusal n q → AllZero lent left → Promise meant s lent answer left
      promise_none p e a z =
          turned-away (no_track (tables-long p) (given-tree p given).takes (ap meant (sym (nodes-left p given)) ∙ e)) a z

      pub promise_track : {answer : Result ⊤ Refusal} {left : Tables} (p : xml.Parsed s tree_lent r (tree_tables left)) {t : Track Placed}
          → meant (nodes_left p given) ≡ is t → answer ≡ Ok tt
          → left.track ≡ track_tables (lengths lent.track) left.track.strings (length s) t → Promise meant s lent answer left
      promise_track {answer} {left} p {t} e a l =
          let g = given-tree p given in
          let x : Takes meant s lent g.tree t = record {
            long_enough = tables-long p;
            tree = g.takes;
            means = ap meant (sym (nodes-left p given)) ∙ e;
          } in
          let q : xml.Parsed s tree_lent (tree_with (count.nodes g.tree) (count.attrs g.tree)) (tree_tables left) =
          subst (λ (y : Result TreeSize Refusal). xml.Parsed s tree_lent y (tree_tables left)) (counted p g.tree g.takes) p in
          taken_as x a q l

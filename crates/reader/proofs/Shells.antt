-- What the calls do around the reading of a tree meets their promise. Assumes nothing.
--     long_as, zero_as, laid_as, kept_laid                      the tables of a track beside any strings
--     meant-numbers, track_post, cue_post                       whatever is wanted: a number is from 12 to 16
--     cue_asks, alone-post                                      a single cue leaves the other tables blank
--     short_promise, away_promise, tree-asks, tree-promise      the call, by its outcomes
use Rattle.std.specs.Prelude.{Result, Ok, Err, ⊤}
use Prim.Native.Nat.{ℕ}
use mathlib.Core.Path.{◌≡◌, refl, sym, ap, ◌∙◌, subst}
use mathlib.Core.Bool.{true, false}
use mathlib.Core.List.{List, []}
use native.Mathlib.Omega.{arith}
use native.Mathlib.Nat.{sub-zero}
use lib.IntN.{ℤ}
use lib.Ieee.{Float}
use lib.ListN.{length, take}
use lib.Seq.{length-take-le}
use Rattle.tree.specs.declared.answers.Refusal.{Refusal}
use Rattle.track.specs.Track.{Cue, Track}
use Rattle.track.specs.Tables.{Tables, Lengths, lengths}
use Rattle.track.specs.Layout.{each, joined_cells, style_extras, region_extras, cue_extras, lay_extras}
use Rattle.xml.specs.Reading.{Placed}
use Rattle.xml.specs.Promise as xml
use Rattle.xml.proofs.Given.{given-tree, given-forest}
use Rattle.meaning.specs.Answers as meaning
use Rattle.meaning.specs.Nodes.{Nodes}
use Rattle.meaning.specs.Kinds.{nodes_in}
use Rattle.laid.specs.Laid.{laid_of, laid_styles, laid_regions, laid_cues, laid_cue, rows_after, total, alone, whole, single}
use Rattle.promised.specs.Promise.{tree_tables, Promise}
use Rattle.promised.specs.Promise as promise
use Rattle.promised.proofs.Numbers.{Numbered, whole_numbers, single-numbers}
use Rattle.promised.proofs.Trees.{nodes-same}
use Rattle.promised.proofs.Promises.{RestLong, RestZero, RestLaid, rest_of, all_zero, refusal, laid-of, nodes_left, nodes-left}
use Rattle.promised.proofs.Promises.{promise_short, promise_away, promise_none, promise_track}
use Rattle.reader.specs.declared.text.Wanted.{Wanted}
use Rattle.blank.specs.Steps.{rest, Prepared}
use Rattle.blank.proofs.Clearing.{zero_lengths}
use Rattle.whole.specs.Steps.{Laid, Asks, Post}
use Rattle.single.specs.Steps.{cue_rest, CueAsks, CuePost}
use Rattle.reader.specs.Steps.{meant_by, AsksTree, TreePost}
use Rattle.reader.proofs.Parting.{nodes-part, given-fits, given-short, given-part, given-ends}
use Rattle.tree.specs.declared.answers.TreeSize.{TreeSize}
use Rattle.tree.specs.Answers.{tree_with}

-- ---- the tables of a track beside any strings

-- the same tables with other strings
abbrev lengths_but : Lengths → ℕ → Lengths
lengths_but n k = record {
  head = n.head;
  params = n.params;
  styles = n.styles;
  regions = n.regions;
  cues = n.cues;
  times = n.times;
  segments = n.segments;
  sizes = n.sizes;
  extras = n.extras;
  strings = k;
  texts = n.texts;
}

abbrev but : Tables → List ℕ → Tables
but T z = record {
  head = T.head;
  params = T.params;
  styles = T.styles;
  regions = T.regions;
  cues = T.cues;
  times = T.times;
  segments = T.segments;
  sizes = T.sizes;
  extras = T.extras;
  strings = z;
  texts = T.texts;
}

pub long_as : {n : Lengths} (k : ℕ) → RestLong n → RestLong (lengths_but n k)
long_as k r = record {
  head = r.head;
  params = r.params;
  styles = r.styles;
  regions = r.regions;
  cues = r.cues;
  times = r.times;
  segments = r.segments;
  sizes = r.sizes;
  extras = r.extras;
  texts = r.texts;
}

pub zero_as : {n : Lengths} {T : Tables} (k : ℕ) (z : List ℕ) → RestZero n T → RestZero (lengths_but n k) (but T z)
zero_as k z r = record {
  head = r.head;
  params = r.params;
  styles = r.styles;
  regions = r.regions;
  cues = r.cues;
  times = r.times;
  segments = r.segments;
  sizes = r.sizes;
  extras = r.extras;
  texts = r.texts;
}

pub laid_as : {n : Lengths} {m : ℕ} {t : Track Placed} {T : Tables} (k : ℕ) (z : List ℕ) → RestLaid n m t T → RestLaid (lengths_but n k) m t (but T z)
laid_as k z r = record {
  head = r.head;
  params = r.params;
  styles = r.styles;
  regions = r.regions;
  cues = r.cues;
  times = r.times;
  segments = r.segments;
  sizes = r.sizes;
  extras = r.extras;
  texts = r.texts;
}

pub kept_laid : {m : meaning.Answer (Track Placed)} {z : List ℕ} {T T' : Tables} (w w' : List ℕ) → Laid m z T T' → Laid m z (but T w) (but T' w')
kept_laid w w' x = record { track = x.track; means = x.means; laid = laid_as (length w) w' x.laid }

-- ---- whatever is wanted

pub meant-numbers : (w : Wanted) (f : Nodes Placed) → Numbered (meant_by w f)
unfolding meant_by
meant-numbers Wanted.Track f = whole_numbers f
meant-numbers Wanted.Cue f = single-numbers f

pub track_post : {w : Wanted} → w ≡ Wanted.Track → {t u z : List ℕ} {n : ℕ} (T T' : Tables) (r : Result ⊤ Refusal) → Post whole t u z n T T' r
    → Post (meant_by w) t u z n T T' r
unfolding meant_by
track_post e {t} {u} {z} {n} T T' r h = subst (λ (w : Wanted). Post (meant_by w) t u z n T T' r) (sym e) h

pub cue_post : {w : Wanted} → w ≡ Wanted.Cue → {t u z : List ℕ} {n : ℕ} (T T' : Tables) (r : Result ⊤ Refusal) → Post single t u z n T T' r
    → Post (meant_by w) t u z n T T' r
unfolding meant_by
cue_post e {t} {u} {z} {n} T T' r h = subst (λ (w : Wanted). Post (meant_by w) t u z n T T' r) (sym e) h

-- ---- a single cue

pub cue_asks : (h p s r c : List ℕ) (m : List ℤ) (g : List ℕ) (f : List Float) (e y : List ℕ) {t u z : List ℕ} {n : ℕ}
    → Asks t u z n (rest h p s r c m g f e y) → CueAsks t u z n (cue_rest h c m g y)
cue_asks h p s r c m g f e y x =
    let a = x.ready.zero in
    let b = x.ready.long in
    record {
      ready = record {
        short = x.ready.short;
        zero = record {
          head = a.head;
          params = refl;
          styles = refl;
          regions = refl;
          cues = a.cues;
          times = a.times;
          segments = a.segments;
          sizes = refl;
          extras = refl;
          texts = a.texts;
        };
        head = b.head;
        cues = b.cues;
        times = b.times;
        segments = b.segments;
        texts = b.texts;
      };
      tree = x.tree;
    }

-- the tables that it leaves out
module _ (h p s r c : List ℕ) (m : List ℤ) (g : List ℕ) (f : List Float) (e y : List ℕ) where
  abbrev whole_before : Tables
  whole_before = rest h p s r c m g f e y

  module _ (h' c' : List ℕ) (m' : List ℤ) (g' y' : List ℕ) where
    abbrev before : Tables
    before = cue_rest h c m g y

    abbrev after : Tables
    after = cue_rest h' c' m' g' y'

    abbrev whole-after : Tables
    whole-after = rest h' p s r c' m' g' f e y'

    cue_laid : (k : ℕ) (x : Cue Placed) → x.extras ≡ [] → RestZero (lengths whole_before) whole_before → RestLaid (lengths before) k (alone x) after
        → RestLaid (lengths whole_before) k (alone x) whole-after
    unfolding laid_of alone each joined_cells laid_styles laid_regions laid_cues laid_cue rows_after total style_extras region_extras cue_extras lay_extras
    cue_laid k x n a b = record {
      head = b.head;
      params = a.params ∙ rw sub-zero;
      styles = a.styles ∙ rw sub-zero;
      regions = a.regions ∙ rw sub-zero;
      cues = b.cues;
      times = b.times;
      segments = b.segments;
      sizes = a.sizes ∙ rw sub-zero;
      extras = rw n a.extras;
      texts = b.texts;
    }

    cue_zero : RestZero (lengths whole_before) whole_before → RestZero (lengths before) after → RestZero (lengths whole_before) whole-after
    cue_zero a b = record {
      head = b.head;
      params = a.params;
      styles = a.styles;
      regions = a.regions;
      cues = b.cues;
      times = b.times;
      segments = b.segments;
      sizes = a.sizes;
      extras = a.extras;
      texts = b.texts;
    }

    pub alone-post : {t u z : List ℕ} {n : ℕ} (q : Result ⊤ Refusal) → RestZero (lengths whole_before) whole_before → CuePost t u z n before after q
        → Post single t u z n whole_before whole-after q
    alone-post {z = z} (Ok tt) a b =
        λ x.
        let w = b x in
        record { track = alone w.cue; means = rw w.means; laid = cue_laid (length z) w.cue w.plain a w.laid }
    alone-post (Err q) a b = λ x. (rw (b x).0, cue_zero a (b x).1)

-- ---- a call, by its outcomes

-- the tables of a track without its strings
abbrev bare : Tables → Tables
bare T = but T []

module _ (w : Wanted) (s : List ℕ) (lent : promise.Tables) where
  -- a table is too short
  pub short_promise : (left : promise.Tables) → Prepared (bare lent.track) (bare left.track) false
      → xml.AllZero (tree_tables lent) (tree_tables left) → Promise (meant_by w) s lent (refusal 1 0) left
  short_promise left a z =
      promise_short (meant_by w) (meant-numbers w) s lent (λ l. a.long (long_as 0 (rest_of l.of_track))) refl
      (all_zero z (zero_as (length lent.track.strings) left.track.strings a.zero))

  module _ (mid : promise.Tables) (a : Prepared (bare lent.track) (bare mid.track) true) where
    long : RestLong (lengths lent.track)
    long = long_as (length lent.track.strings) a.long

    zero : RestZero (lengths lent.track) mid.track
    zero = zero_as (length lent.track.strings) mid.track.strings a.zero

    -- the text has no tree
    pub away_promise : {r : Refusal} → xml.Parsed s (tree_tables lent) (Err r) (tree_tables mid)
        → Promise (meant_by w) s lent (Err r) mid
    away_promise p = promise_away (meant_by w) (meant-numbers w) s lent long p refl zero

    module _ {r : Result TreeSize Refusal} {i j : ℕ} (p : xml.Parsed s (tree_tables lent) r (tree_tables mid)) (e : r ≡ tree_with i j) where
      abbrev used : List ℕ
      used = take (length s) mid.track.strings

      used_long : length used ≡ length s
      used_long = length-take-le (length s) mid.track.strings (given-fits p e)

      pub tree-asks : AsksTree mid.nodes mid.attrs mid.track.strings i j (length s) (bare mid.track)
      tree-asks =
          let same = sym (zero_lengths a.zero refl) in
          record {
            ends = given-ends p e;
            asks = record {
              ready = record {
                short = omega (arith, used_long, given-short p e);
                zero = subst (λ (n : Lengths). RestZero n (bare mid.track)) same a.zero;
                long = subst RestLong same a.long;
              };
              tree = given-part p e;
            };
          }

      same_long : lengths mid.track ≡ lengths lent.track
      same_long = zero_lengths zero (given-tree p e).holds.as_long

      part-means : nodes_in used (given-forest p e) ≡ nodes_left p e
      part-means = nodes-part mid.track.strings (length s) (given-fits p e) (given-forest p e) 0 (given-tree p e).holds.in_order

      -- what its tree means, or a number
      pub tree-promise : (answer : Result ⊤ Refusal) (left : promise.Tables) → length mid.nodes ≡ length lent.nodes
          → length mid.attrs ≡ length lent.attrs → TreePost (meant_by w) i (length s) mid left answer
          → Promise (meant_by w) s lent answer left
      tree-promise (Ok tt) left n m x =
          let y = x.means (given-part p e) in
          let q : xml.Parsed s (tree_tables lent) r (tree_tables left) = subst (xml.Parsed s (tree_tables lent) r) (sym x.kept) p in
          let same : nodes_left q e ≡ nodes_left p e =
          nodes-left q e ∙ nodes-same s (tree_tables lent) (given-tree q e).takes (given-tree p e).takes ∙ sym (nodes-left p e) in
          let laid : RestLaid (lengths lent.track) (length s) y.track left.track = rw (same_long, used_long) at y.laid in
          promise_track (meant_by w) (meant-numbers w) s lent long e q (ap (meant_by w) (same ∙ sym part-means) ∙ y.means) refl
          (laid-of (lengths lent.track) (length s) y.track laid)
      tree-promise (Err q) left n m x =
          let y = x.means (given-part p e) in
          let z : RestZero (lengths lent.track) left.track = subst (λ (k : Lengths). RestZero k left.track) same_long y.1 in
          promise_none (meant_by w) (meant-numbers w) s lent long e p (ap (meant_by w) (sym part-means) ∙ y.0) refl
          (all_zero (record {
            of_nodes = rw n at x.kept.of_nodes;
            of_attrs = rw m at x.kept.of_attrs;
            of_strings = rw (given-tree p e).holds.as_long at x.kept.of_strings;
          }) z)

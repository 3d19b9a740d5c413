-- What `parse` and `bytes_to_cue` leave is a track, and the one that the text's tree means. Assumes nothing.
--     left_passes      it passes `check_track`
--     left_means       it means the track by its bytes
--     parsed-means     which is what the tree that the grammar derives means, its entities read
--     cue_means        the same of the single cue
use Rattle.std.specs.Prelude.{Result, Ok, ⊤}
use Prim.Native.Nat.{ℕ}
use mathlib.Core.Path.{◌≡◌, refl, sym, ap, ◌∙◌}
use mathlib.Core.List.{List}
use mathlib.Core.Option.{some}
use native.Mathlib.Omega.{arith}
use lib.ListN.{length, replicate}
use Rattle.entities.specs.Decode.{decoded}
use Rattle.grammar.specs.Tree.{Forest}
use Rattle.grammar.specs.Demand.{decode_forest}
use Rattle.grammar.proofs.Theorem.{no_two}
use Rattle.tree.specs.Trees as placed
use Rattle.derivation.specs.Strings.{tree_in}
use Rattle.derivation.proofs.Theorem.{gives-exactly}
use Rattle.track.specs.Track.{Cue, Track}
use Rattle.track.specs.Layout.{each}
use Rattle.track.specs.Tables.{lengths}
use Rattle.track.specs.Check.{Checked}
use Rattle.track.specs.Steps.{check_of}
use Rattle.track.specs.Meaning.{track_in}
use Rattle.track.proofs.Exactly.{checked-is}
use Rattle.xml.specs.Reading.{Placed, lay}
use Rattle.xml.specs.Steps.{strings}
use Rattle.meaning.specs.Answers.{Answer, is, refused, answered, answered_by}
use Rattle.meaning.specs.Nodes.{Nodes}
use Rattle.meaning.specs.Tracks.{track_by, cue_by}
use Rattle.meaning.specs.Kinds.{bare, with_places}
use Rattle.meaning.specs.Kinds as kinds
use Rattle.meaning.specs.Meaning.{track_of, cue_of}
use Rattle.meaning.specs.Texts.{nodes_read}
use Rattle.meaning.proofs.Erasing.{bytes_of, nowhere, text-cue}
use Rattle.meaning.proofs.Erasing as erasing
use Rattle.laid.specs.Laid.{track_tables, whole, alone, single}
use Rattle.laid.proofs.Meant.{Good}
use Rattle.laid.proofs.Fitting.{text-accepted, text-track}
use Rattle.promised.specs.Promise.{Tables, tree_tables, Takes, Promise}
use Rattle.promised.proofs.Trees as trees
use Rattle.tree.specs.declared.answers.Refusal.{Refusal}

module _ (meant : Nodes Placed → Answer (Track Placed)) (good : Good meant) {s : List ℕ} {lent left : Tables} {answer : Result ⊤ Refusal}
    (p : Promise meant s lent answer left) {f : Forest} {t : Track Placed} (x : Takes meant s lent f t) where
  abbrev forest : placed.Forest
  forest = trees.forest s (tree_tables lent) x.tree

  left_is : left.track ≡ track_tables (lengths lent.track) (lay (replicate (length lent.track.strings) 0) (strings s forest)) (length s) t
  left_is =
      p.track f t x
      ∙ ap (λ (z : List ℕ). track_tables (lengths lent.track) z (length s) t) (trees.strings-are s (tree_tables lent) x.tree (p.tree f t x))

  pub left_passes : {r : Result ⊤ Refusal} → Checked left.track r → r ≡ Ok tt
  left_passes c =
      let h = trees.means_of s (tree_tables lent) x.tree {meant = meant} x.means in
      let a = text-accepted meant good s forest t h (lengths lent.track) x.long_enough.of_track in
      checked-is left.track c ∙ ap check_of left_is ∙ a

  pub left_means : track_in left.track ≡ some (track_by bytes_of t)
  left_means =
      let h = trees.means_of s (tree_tables lent) x.tree {meant = meant} x.means in
      ap track_in left_is ∙ text-track meant good s forest t h (lengths lent.track) x.long_enough.of_track

-- ---- the tree without places
alone-by : {t : Track Placed} (m : Answer (Cue Placed)) → answered alone m ≡ is t
    → answered alone (answered_by (cue_by bytes_of) nowhere m) ≡ is (track_by bytes_of t)
unfolding alone track_by each
alone-by {t} (is c) e = let w : alone c ≡ t = cc in ap (λ (u : Track Placed). is (track_by bytes_of u)) w
alone-by (refused n p) e = absurd (let w : ◌≡◌ {A = ℕ} 0 1 = cc in omega arith)

module _ {s : List ℕ} {lent : Tables} {f : Forest} {t : Track Placed} where
  tree_is : {meant : Nodes Placed → Answer (Track Placed)} (x : Takes meant s lent f t) → tree_in s (trees.forest s (tree_tables lent) x.tree) ≡ f
  tree_is {meant} x =
      let h = trees.means_of s (tree_tables lent) x.tree {meant = meant} x.means in
      let g = trees.forest s (tree_tables lent) x.tree in
      let d = (gives-exactly s 49152 32768 h.fits (tree_in s g)).0 (g, h.end, h.nodes, h.attrs, h.tree, refl) in
      no_two s (tree_in s g) f d.derived x.tree.derives.derived

  pub parsed-means : Takes whole s lent f t → track_of bare (kinds.nodes_of (decode_forest decoded f)) ≡ is (track_by bytes_of t)
  parsed-means x =
      let g = trees.forest s (tree_tables lent) x.tree in
      ap (λ (h : Forest). track_of bare (kinds.nodes_of (decode_forest decoded h))) (sym (tree_is x))
      ∙ erasing.text-track s g ∙ ap (answered_by (track_by bytes_of) nowhere) x.means

  pub cue_means : Takes single s lent f t → answered alone (cue_of bare (kinds.nodes_of (decode_forest decoded f))) ≡ is (track_by bytes_of t)
  cue_means x =
      let g = trees.forest s (tree_tables lent) x.tree in
      ap (λ (h : Forest). answered alone (cue_of bare (kinds.nodes_of (decode_forest decoded h)))) (sym (tree_is x))
      ∙ ap (answered alone) (text-cue s g) ∙ alone-by (cue_of with_places (nodes_read s g)) x.means

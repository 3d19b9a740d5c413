-- What the function that reads a tree answers, by cases. Assumes nothing.
use Rattle.std.specs.Prelude.{Result, Err}
use Prim.Native.Nat.{ℕ}
use mathlib.Core.Path.{◌≡◌}
use mathlib.Core.Bool.{Bool, true}
use mathlib.Core.List.{List, [], ◌∷◌}
use lib.Seq.{sets}
use Rattle.tree.specs.Answers.{tree_with, number_of}
use Rattle.tree.specs.declared.answers.Refusal.{Refusal}
use Rattle.xml.specs.Promise.{Tables, Parsed}
use Rattle.probe.specs.Trees.{TellsIf}
use Rattle.tree.specs.declared.answers.TreeSize.{TreeSize}

module _ (will : Bool) {s : List ℕ} {lent left : Tables} {x : Result TreeSize Refusal} (out out' : List ℕ) (p : Parsed s lent x left) (h : will ≡ true) where
  pub tells_tree : (n m : ℕ) → x ≡ tree_with n m → out' ≡ sets out 0 (0 ∷ n ∷ m ∷ []) → TellsIf will s lent left out out' 0
  unfolding number_of
  tells_tree n m e w = rw h (record { answer = x; promised = p; is = rw e; laid = rw e w })

  pub tells_refused : (r : Refusal) → x ≡ Err r → out' ≡ sets out 0 (r.place ∷ 0 ∷ 0 ∷ [])
      → TellsIf will s lent left out out' r.number
  unfolding number_of
  tells_refused r e w = rw h (record { answer = x; promised = p; is = rw e; laid = rw e w })

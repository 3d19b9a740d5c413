-- What a start tag that was read by places says in the words of the reader on lists; and the statement that the two agree on start tags.
use mathlib.Core.Path.{◌≡◌}
use Prim.Native.Nat.{ℕ, ◌+◌, ◌-◌, ◌≤◌, ◌<◌}
use mathlib.Core.List.{List}
use lib.ListN.{length, drop}
use Rattle.scan.specs.Bytes.{name_byte, run_end_of}
use Rattle.tree.specs.Read.{TagOut, opened, shut, torn, start_at}
use Rattle.grammar.specs.Words.{Bytes}
use Rattle.grammar.specs.Tree.{Tree, element, Forest, none}
use Rattle.grammar.proofs.Counted.{LRes, lok, lbad, lmap, Counted, element_l}
use Rattle.scan.specs.Part.{string_at}
use Rattle.derivation.specs.Strings.{attrs_in}

-- rec reads the content; n is the tag's name; k nodes may still begin
unfoldable pub tag_case : Counted Forest → List ℕ → Bytes → ℕ → TagOut → LRes Tree
tag_case rec s n k (opened l q b) = lmap (element n (attrs_in s l)) (rec k (8192 - b) (drop q s))
tag_case rec s n k (shut l q b) = lok (element n (attrs_in s l) none) k (8192 - b) (drop q s)
tag_case rec s n k (torn m q) = lbad m (length s - q)

-- the start tag whose `<` stands at p, where a attributes were read before
abbrev pub TagAgrees : List ℕ → Type 0
TagAgrees s =
    (rec : Counted Forest) (p k a : ℕ) → p < length s → a ≤ 8192
    → element_l rec k (8192 - a) (drop (p + 1) s)
    ≡ tag_case rec s (string_at s (p + 1) (run_end_of name_byte s (p + 1) - (p + 1))) k (start_at s p (run_end_of name_byte s (p + 1)) a)

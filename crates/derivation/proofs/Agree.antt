-- The reader by places answers what the reader on lists answers, for every text within the limits 1 to 3. Assumes nothing.
--     whole_same     the nodes of the whole text, with where reading stopped and the counts
--     short_text     the reader on lists, where the text is not too long
--     agree          the two readers give the same tree, or the same number at the same place
use mathlib.Core.Path.{◌≡◌, refl, sym, ap, ◌∙◌}
use Prim.Native.Nat.{ℕ, ◌-◌}
use native.Mathlib.Omega.{arith}
use mathlib.Core.List.{List}
use lib.ListN.{length, drop}
use borrow.Author.Tests.{le-leb}
use Rattle.tree.specs.Read.{Out, got, nothing, bad, prolog_end, meaning}
use Rattle.tree.specs.Posts.{Fits}
use Rattle.tree.proofs.Whole.{in_range}
use Rattle.grammar.specs.Tree.{Forest}
use Rattle.grammar.proofs.Counted.{LRes, finish_l, read_document_l, text_as, read_text_lem}
use Rattle.grammar.proofs.CountedRounds.{nodes_c, read_document_l_is}
use Rattle.derivation.specs.Steps.{result_in}
use Rattle.derivation.proofs.Prologs.{prolog-agrees}
use Rattle.derivation.proofs.Rows.{Same}
use Rattle.derivation.proofs.Contents.{nodes-same}

pub whole_same : (s : List ℕ) (n m : ℕ) → Fits s n m → Same s (prolog_end s) (meaning s n m) (nodes_c 64 8192 8192 (drop (prolog_end s) s))
whole_same s n m f =
    rw (in_range s n m (prolog_end s) f refl) (nodes-same s 64 (prolog_end s) 0 0
    (record { within = (prolog-agrees s).1; most = omega arith; least = omega arith }))

finish_same : (s : List ℕ) (lo : ℕ) (o : Out) (l : LRes Forest) → Same s lo o l → result_in s o ≡ finish_l (length s) l
unfolding result_in
finish_same s lo (got f q k a) l t = rw t.0
finish_same s lo (nothing q) l t = absurd t
finish_same s lo (bad n q) l t =
    let e : length s - (length s - q) ≡ q = omega (arith, t.1) in
    rw (t.0, e)

pub short_text : (s : List ℕ) (n m : ℕ) → Fits s n m → read_text_lem s ≡ read_document_l 64 8192 8192 s
unfolding read_text_lem text_as
short_text s n m f = rw (le-leb (length s) 65536 f.short)

pub agree : (s : List ℕ) (n m : ℕ) → Fits s n m → result_in s (meaning s n m) ≡ read_text_lem s
agree s n m f =
    finish_same s (prolog_end s) (meaning s n m) (nodes_c 64 8192 8192 (drop (prolog_end s) s)) (whole_same s n m f)
    ∙ ap (λ z. finish_l (length s) (nodes_c 64 8192 8192 z)) (sym (prolog-agrees s).0)
    ∙ sym (short_text s n m f ∙ read_document_l_is 64 8192 8192 s)

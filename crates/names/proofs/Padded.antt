-- Rows of the code's tables: a name, and blanks up to 25 bytes. Assumes nothing.
use Prim.Native.Nat.{ℕ, zero, suc, ◌+◌, ◌-◌, ◌≤◌, ◌<◌}
use mathlib.Core.Path.{◌≡◌, refl, sym, ◌∙◌}
use mathlib.Core.Bool.{true}
use mathlib.Core.List.{List, [], ◌∷◌, ◌++◌}
use native.Mathlib.Omega.{arith}
use native.Mathlib.Nat.{add-zero, zero-add}
use lib.ListN.{length, get_or, take, drop, replicate, length-append, length-take, length-drop, length-replicate}
use lib.Seq.{take-append_seam, drop_at, get_or-take, get_or-drop}
use Rattle.scan.specs.Bytes.{other, run_end_of, run_length_of}
use Rattle.scan.proofs.Runs.{run_length}
use Rattle.names.specs.declared.tables.Listed.{Listed}
use Rattle.names.specs.declared.tables.Name.{Name}
use Rattle.names.specs.Lists.{names, name_of}
use Rattle.names.specs.Plain.{plain_byte}
use Rattle.names.specs.Posts.{Cut, Holds}
use Rattle.names.proofs.Entries.{every, every-as, run-over}
use Rattle.names.proofs.NameLaws.{plain-no_blank, plain-bytes, plain-name}

abbrev pub padded : List ℕ → List ℕ
padded n = n ++ replicate (25 - length n) 32

abbrev pub rows : List (List ℕ) → List (List ℕ)
rows [] = []
rows (n ∷ ns) = padded n ∷ rows ns

row_at : (ns : List (List ℕ)) (i : ℕ) → i < length ns → get_or (rows ns) i [] ≡ padded (get_or ns i [])
row_at [] i h = absurd (omega arith)
row_at (n ∷ ns) zero h = refl
row_at (n ∷ ns) (suc i) h = row_at ns i (omega arith)

no_run : (k : ℕ) → run_length_of (other 32) (replicate k 32) ≡ 0
unfolding run_length_of
no_run zero = refl
no_run (suc k) = refl

-- the first blank of a row ends its name
first-blank : (n : List ℕ) → every plain_byte n ≡ true → run_end_of (other 32) (padded n) 0 ≡ length n
first-blank n e =
    run_length (other 32) (padded n) 0 (omega arith)
    ∙ zero-add _
    ∙ run-over (other 32) n (replicate (25 - length n) 32) (every-as plain_byte (other 32) plain-no_blank n e)
    ∙ rw (no_run (25 - length n)) (add-zero (length n))

holds : (n : List ℕ) (r : Name) → every plain_byte n ≡ true → length n ≤ 25 → Cut (padded n) r → Holds n r
holds n r e h c =
    let l : r.len ≡ length n = c.len_is ∙ first-blank n e in
    record {
      whole = rw (c.bytes_are, length-append) (rw (length-replicate {A = ℕ}) (omega arith));
      within = omega arith;
      is = rw (l, c.bytes_are) (take-append_seam n (replicate (25 - length n) 32));
      rest = rw (l, c.bytes_are) (drop_at n (replicate (25 - length n) 32) (length n) refl);
    }

-- what a row of a list's table, cut at its first blank, holds
pub held : (list : Listed) (i : ℕ) → i < length (names list) → (r : Name) → Cut (get_or (rows (names list)) i []) r → Holds (name_of list i) r
held list i h r c =
    holds (name_of list i) r (plain-bytes list i h) (plain-name list i h).most (rw (row_at (names list) i h) at c)

-- the same where the table is in two parts, of which the first has k rows
module _ (list : Listed) (k i : ℕ) (h : i < length (names list)) (r : Name) where
  pub held_first : i < k → Cut (get_or (rows (take k (names list))) i []) r → Holds (name_of list i) r
  held_first l c =
      let m : i < length (take k (names list)) = simp length-take (omega arith) in
      let e : get_or (rows (take k (names list))) i [] ≡ get_or (rows (names list)) i [] =
      row_at (take k (names list)) i m ∙ rw (get_or-take k (names list) i [] l) (sym (row_at (names list) i h)) in
      held list i h r (rw e at c)

  pub held_second : k ≤ i → Cut (get_or (rows (drop k (names list))) (i - k) []) r → Holds (name_of list i) r
  held_second l c =
      let m : i - k < length (drop k (names list)) = simp length-drop (omega arith) in
      let z : k + (i - k) ≡ i = omega arith in
      let e : get_or (rows (drop k (names list))) (i - k) [] ≡ get_or (rows (names list)) i [] =
      row_at (drop k (names list)) (i - k) m ∙ rw (get_or-drop k (names list) (i - k) [], z) (sym (row_at (names list) i h)) in
      held list i h r (rw e at c)

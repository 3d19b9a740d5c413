-- Comments byte by byte. Assumes nothing.
--     opens_none, opens_here   whether `<!--` stands at a place
--     closes_here              `-->` stands there
--     end_start, end_on        the search for `-->` goes on
--     end_got, end_passed      where the comment ends
--     comment-still            no comment opens here
--     rest_length, rest_at     the rest of a text, from a place on
use Prim.Native.Nat.{ℕ, ◌+◌, ◌-◌, ◌≤◌, ◌<◌}
use mathlib.Core.Path.{◌≡◌, refl, sym, ◌∙◌}
use mathlib.Core.Bool.{Bool, true, false, false≢true}
use mathlib.Core.List.{List}
use native.Mathlib.Omega.{arith}
use lib.Dec.{eqb, ltb}
use lib.ListN.{length, get_or, take, drop, length-drop}
use Rattle.std.proofs.lemmas.List.{take_rest, get_or-drop}
use native.Mathlib.Nat.{add-zero}
use borrow.Author.Tests.{ltb-true, ltb-false, eqb-true, eqb-false}
use Rattle.scan.specs.Marks.{starts_at, seek, past}
use Rattle.scan.specs.Posts.{Passed}
use Rattle.scan.proofs.Every.{by-test}
use Rattle.scan.proofs.Searches.{mark_on, mark_off, mark_out, seek-on, found_here, passed_got}
use Rattle.tree.specs.Read.{comment_mark, comment_end, past_comments}
use Rattle.tree.specs.Posts.{Opened, Opens}
use Rattle.tree.proofs.NodeLaws.{comment-here, comment-out}

-- ---- the rest of a text, from p on
module _ (s : List ℕ) (p : ℕ) where
  abbrev rest : List ℕ
  rest = take (length s - p) (drop p s)

  pub rest_length : length rest ≡ length s - p
  rest_length = rw take_rest (length-drop p s)

  pub rest_at : (j : ℕ) → get_or rest j 0 ≡ get_or s (p + j) 0
  rest_at j = rw take_rest (get_or-drop p s j 0)

  pub rest_first : get_or rest 0 0 ≡ get_or s p 0
  rest_first = rw add-zero at (rest_at 0)

-- ---- the two marks
module _ (s : List ℕ) (p : ℕ) where
  pub opens_none : starts_at s p comment_mark ≡ false → Opens s p false
  opens_none e = record { is = sym e; opened = λ t. absurd (false≢true t) }

  pub opens_here : p + 4 ≤ length s → get_or s p 0 ≡ 60 → get_or s (p + 1) 0 ≡ 33 → get_or s (p + 2) 0 ≡ 45 → get_or s (p + 3) 0 ≡ 45 → Opens s p true
  opens_here h a b c d =
      let z : p + 1 + 1 ≡ p + 2 = omega arith in
      let y : p + 1 + 1 + 1 ≡ p + 3 = omega arith in
      record {
        is = sym (mark_on s comment_mark p 0 (omega arith) (omega arith) a
            ∙ mark_on s comment_mark (p + 1) 1 (omega arith) (omega arith) b
            ∙ mark_on s comment_mark (p + 1 + 1) 2 (omega arith) (omega arith) (rw z c)
            ∙ mark_on s comment_mark (p + 1 + 1 + 1) 3 (omega arith) (omega arith) (rw y d)
            ∙ mark_out s comment_mark (p + 1 + 1 + 1 + 1) 4 (omega arith));
        opened = λ t. record { within = h; first = a; second = b };
      }

  -- where its last two bytes stand the first decides
  pub closes_by_first : p + 3 ≤ length s → get_or s (p + 1) 0 ≡ 45 → get_or s (p + 2) 0 ≡ 62 → eqb (get_or s p 0) 45 ≡ starts_at s p comment_end
  closes_by_first h b c =
      by-test (eqb (get_or s p 0) 45)
      (λ t. t ∙ sym (mark_on s comment_end p 0 (omega arith) (omega arith) (eqb-true (get_or s p 0) 45 t)
      ∙ mark_on s comment_end (p + 1) 1 (omega arith) (omega arith) b
      ∙ mark_on s comment_end (p + 1 + 1) 2 (omega arith) (omega arith) (let z : p + 1 + 1 ≡ p + 2 = omega arith in rw z c)
      ∙ mark_out s comment_end (p + 1 + 1 + 1) 3 (omega arith)))
      (λ t. t ∙ sym (mark_off s comment_end p 0 (omega arith) (omega arith) (eqb-false (get_or s p 0) 45 t)))

  -- `-->` does not stand at the first two bytes of a comment
  pub end_start : Opened s p → seek comment_end s p ≡ seek comment_end s (p + 2)
  end_start o =
      let z : p + 1 + 1 ≡ p + 2 = omega arith in
      seek-on comment_end s p (omega (arith, o.within)) (mark_off s comment_end p 0 (omega arith) (omega (arith, o.within))
      (λ e. omega (arith, o.first)))
      ∙ seek-on comment_end s (p + 1) (omega (arith, o.within)) (mark_off s comment_end (p + 1) 0 (omega arith) (omega (arith, o.within))
      (λ e. omega (arith, o.second)))
      ∙ rw z

  pub comment-still : starts_at s p comment_mark ≡ false → past_comments s p ≡ p
  comment-still e = by (ltb p (length s)) refl
    where
      by : (b : Bool) → ltb p (length s) ≡ b → past_comments s p ≡ p
      by true h = comment-here s p (ltb-true p (length s) h) e
      by false h = comment-out s p (ltb-false p (length s) h)

-- ---- the search for the end of the comment at p has come to i
module _ (s : List ℕ) (p i : ℕ) (w : seek comment_end s p ≡ seek comment_end s i) where
  pub end_on : (j : ℕ) → i < length s → starts_at s i comment_end ≡ false → j ≡ i + 1 → seek comment_end s p ≡ seek comment_end s j
  end_on j h e z = rw z (w ∙ seek-on comment_end s i h e)

  pub end_got : (q : ℕ) → p ≤ i → i + 3 ≤ length s → starts_at s i comment_end ≡ true → q ≡ i + 3 → Passed comment_end s p q
  end_got q l h e z = rw z (passed_got comment_end s p i (found_here comment_end s p i l w (omega arith) e h) (omega arith))

  pub end_passed : (q : ℕ) → p < i → Passed comment_end s i q → Passed comment_end s p q
  unfolding past
  end_passed q l f = record { is = f.is ∙ rw w; after = omega (arith, f.after); within = f.within; beyond = λ a b. omega (arith, f.after) }

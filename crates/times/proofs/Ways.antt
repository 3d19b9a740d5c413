-- The time of a text is the answer of the first way that gives one, in TTML's order; a text has an answer exactly if one way gives it; none has
-- one in two ways; and the Rust's order of trial gives the same. Assumes nothing.
use Rattle.std.specs.Prelude.{ℤ, Result, Ok, Err}
use Prim.Native.Nat.{ℕ, ◌+◌, ◌-◌, ◌<◌}
use mathlib.Core.Path.{◌≡◌, refl, sym, ap, ◌∙◌}
use mathlib.Core.Bool.{Bool, true, false, cond, or-true}
use mathlib.Core.List.{List, [], ◌∷◌}
use mathlib.Core.Logic.{◌↔◌, ◌⊎◌, inl, inr}
use native.Mathlib.Omega.{arith}
use lib.Dec.{eqb}
use lib.ListN.{length, get_or, take}
use lib.Seq.{length-take-le, get_or-take}
use borrow.Author.Tests.{eqb-true}
use Rattle.scan.specs.Marks.{starts_at}
use Rattle.scan.specs.Split.{split_at}
use Rattle.scan.proofs.Every.{by-test}
use Rattle.scan.proofs.Searches.{mark_here, mark_on}
use Rattle.utf8.specs.White.{trimmed}
use Rattle.times.specs.declared.offset.TimingCtx.{TimingCtx}
use Rattle.times.specs.Expressions.{◌else◌, Metric, `h`, `m`, `s`, `ms`, `f`, `t`, metrics, letters, Way, clock, offset, ways}
use Rattle.times.specs.Expressions.{ends_in, ends_in_one, time_by, first_of, offset_time, clock_time, expression, time_in, TimeBy, by_first_metric, in_rusts_order}
use Rattle.times.proofs.Counts.{no_count}
use Rattle.times.specs.declared.offset.TimeError.{TimeError}

abbrev Met : Result ℤ TimeError → Type 0
Met t = ¬ (t ≡ (Err TimeError.Invalid))

decided : (t : Result ℤ TimeError) → (t ≡ (Err TimeError.Invalid)) ⊎ Met t
decided (Ok z) = inr (λ e. let z : ◌≡◌ {A = ℕ} 0 1 = cc in omega arith)
decided (Err TimeError.Invalid) = inl refl
decided (Err TimeError.Beyond) = inr (λ e. let z : ◌≡◌ {A = ℕ} 0 1 = cc in omega arith)
decided (Err TimeError.LongFraction) = inr (λ e. let z : ◌≡◌ {A = ℕ} 0 1 = cc in omega arith)
decided (Err TimeError.Overflow) = inr (λ e. let z : ◌≡◌ {A = ℕ} 0 1 = cc in omega arith)

else_first : (a b : Result ℤ TimeError) → Met a → (a else b) ≡ a
else_first (Ok z) b n = refl
else_first (Err TimeError.Invalid) b n = absurd (n refl)
else_first (Err TimeError.Beyond) b n = refl
else_first (Err TimeError.LongFraction) b n = refl
else_first (Err TimeError.Overflow) b n = refl

-- one of these ways
abbrev Among : Way → List Way → Type 0
Among way [] = ⊥
Among way (w ∷ ws) = (w ≡ way) ⊎ Among way ws

listed : (way : Way) → Among way ways
listed clock = inl refl
listed (offset `h`) = inr (inl refl)
listed (offset `m`) = inr (inr (inl refl))
listed (offset `s`) = inr (inr (inr (inl refl)))
listed (offset `ms`) = inr (inr (inr (inr (inl refl))))
listed (offset `f`) = inr (inr (inr (inr (inr (inl refl)))))
listed (offset `t`) = inr (inr (inr (inr (inr (inr (inl refl))))))

-- ---- the one way that a text can be a time in, by its last byte and by whether its last two are ms
abbrev metric_of : Bool → ℕ → Metric
metric_of ms b = cond (eqb b 104) `h` (cond (eqb b 109) `m` (cond (eqb b 115) (cond ms `ms` `s`) (cond (eqb b 102) `f` `t`)))

abbrev way_of : List ℕ → Way
way_of s = cond (ends_in_one metrics s) (offset (metric_of (ends_in (letters `ms`) s) (get_or s (length s - 1) 0))) clock

module _ (s : List ℕ) (ctx : TimingCtx) where
  -- an offset time ends in its metric
  ends : (m : Metric) → Met (time_by (offset m) s ctx) → ends_in (letters m) s ≡ true
  ends m n = by-test (ends_in (letters m) s) (λ e. e) (λ e. absurd (n (rw e)))

  one : (m : Metric) → ends_in (letters m) s ≡ true → ends_in_one metrics s ≡ true
  one `h` e = rw e
  one `m` e = simp (e, or-true)
  one `s` e = simp (e, or-true)
  one `ms` e = simp (e, or-true)
  one `f` e = simp (e, or-true)
  one `t` e = simp (e, or-true)

  -- its last byte, where it is one letter
  letter : (b : ℕ) → ends_in (b ∷ []) s ≡ true → get_or s (length s - 1) 0 ≡ b
  letter b e = (mark_here s (b ∷ []) (length s - 1) 0 (omega arith) e).1

  -- the last two, where they are ms
  module _ (e : ends_in (letters `ms`) s ≡ true) where
    first : (length s - 2 < length s) × (get_or s (length s - 2) 0 ≡ 109)
    first = mark_here s (letters `ms`) (length s - 2) 0 (omega arith) e

    second : (length s - 2 + 1 < length s) × (get_or s (length s - 2 + 1) 0 ≡ 115)
    second = mark_here s (letters `ms`) (length s - 2 + 1) 1 (omega arith)
        (sym (mark_on s (letters `ms`) (length s - 2) 0 (omega arith) first.0 first.1) ∙ e)

    last_s : get_or s (length s - 1) 0 ≡ 115
    last_s = let z : length s - 2 + 1 ≡ length s - 1 = omega (arith, second.0) in rw z at second.1

    not_in_s : time_by (offset `s`) s ctx ≡ Err TimeError.Invalid
    unfolding offset_time
    not_in_s =
        let l : length (take (length s - 1) s) ≡ length s - 1 = length-take-le (length s - 1) s (omega arith) in
        let z : length s - 1 - 1 ≡ length s - 2 = omega arith in
        let m : get_or (take (length s - 1) s) (length s - 2) 0 ≡ 109 =
        get_or-take (length s - 1) s (length s - 2) 0 (omega (arith, second.0)) ∙ first.1 in
        by-test (ends_in (letters `s`) s)
        (λ t. rw (t, no_count (take (length s - 1) s) (omega (arith, second.0)) (rw (l, z) m)))
        (λ t. rw t)

  by_metric : (m : Metric) → Met (time_by (offset m) s ctx) → m ≡ metric_of (ends_in (letters `ms`) s) (get_or s (length s - 1) 0)
  by_metric `h` n = rw (letter 104 (ends `h` n))
  by_metric `m` n = rw (letter 109 (ends `m` n))
  by_metric `s` n = by-test (ends_in (letters `ms`) s) (λ e. absurd (n (not_in_s e))) (λ e. rw (e, letter 115 (ends `s` n)))
  by_metric `ms` n = let e : ends_in (letters `ms`) s ≡ true = ends `ms` n in rw (e, last_s e)
  by_metric `f` n = rw (letter 102 (ends `f` n))
  by_metric `t` n = rw (letter 116 (ends `t` n))

  only : (way : Way) → Met (time_by way s ctx) → way ≡ way_of s
  only clock n = by-test (ends_in_one metrics s) (λ e. absurd (n (rw e))) (λ e. rw e)
  only (offset m) n = rw (one m (ends m n)) (ap offset (by_metric m n))

  -- ---- the first way that has an answer is the only one
  first-is : (way : Way) → Met (time_by way s ctx) → (ws : List Way) → Among way ws → first_of ws s ctx ≡ time_by way s ctx
  first-is way n [] i = absurd i
  first-is way n (w ∷ ws) i = by (decided (time_by w s ctx)) i (first-is way n ws)
    where
      by : (time_by w s ctx ≡ (Err TimeError.Invalid)) ⊎ Met (time_by w s ctx) → Among way (w ∷ ws) → (Among way ws → first_of ws s ctx ≡ time_by way s ctx)
          → first_of (w ∷ ws) s ctx ≡ time_by way s ctx
      by (inl e) (inl q) r = absurd (n (rw (← q) e))
      by (inl e) (inr i) r = rw e (r i)
      by (inr m) i r = else_first (time_by w s ctx) (first_of ws s ctx) m ∙ ap (λ v. time_by v s ctx) (only w m ∙ sym (only way n))

  first_some : (ws : List Way) → Met (first_of ws s ctx) → (way : Way) × (time_by way s ctx ≡ first_of ws s ctx)
  first_some [] n = absurd (n refl)
  first_some (w ∷ ws) n = by (decided (time_by w s ctx)) (first_some ws)
    where
      by : (time_by w s ctx ≡ (Err TimeError.Invalid)) ⊎ Met (time_by w s ctx)
          → (Met (first_of ws s ctx) → (way : Way) × (time_by way s ctx ≡ first_of ws s ctx)) → (way : Way) × (time_by way s ctx ≡ first_of (w ∷ ws) s ctx)
      by (inl e) r = let k = r (λ z. n (rw e z)) in (k.0, rw e k.1)
      by (inr m) r = (w, sym (else_first (time_by w s ctx) (first_of ws s ctx) m))

  -- ---- the Rust's order
  first_way : first_of ways s ctx ≡ time_by (way_of s) s ctx
  first_way = by (decided (time_by (way_of s) s ctx)) (decided (first_of ways s ctx))
    where
      by : (time_by (way_of s) s ctx ≡ (Err TimeError.Invalid)) ⊎ Met (time_by (way_of s) s ctx) → (first_of ways s ctx ≡ (Err TimeError.Invalid)) ⊎ Met (first_of ways s ctx)
          → first_of ways s ctx ≡ time_by (way_of s) s ctx
      by (inr n) f = first-is (way_of s) n ways (listed (way_of s))
      by (inl e) (inl f) = f ∙ sym e
      by (inl e) (inr n) =
          let r = first_some ways n in
          let w : r.0 ≡ way_of s = only r.0 (λ z. n (sym r.1 ∙ z)) in
          absurd (n (sym r.1 ∙ (ap (λ v. time_by v s ctx) w ∙ e)))

  by_first : by_first_metric (`ms` ∷ `s` ∷ `m` ∷ `h` ∷ `f` ∷ `t` ∷ []) s ctx ≡ time_by (way_of s) s ctx
  by_first = by-test (ends_in (letters `ms`) s)
      (λ a. rw (one `ms` a, last_s a, a, a))
      (λ a. by-test (ends_in (letters `s`) s)
      (λ b. rw (one `s` b, letter 115 b, a, b))
      (λ b. by-test (ends_in (letters `m`) s)
      (λ c. rw (one `m` c, letter 109 c, a, b, c))
      (λ c. by-test (ends_in (letters `h`) s)
      (λ d. rw (one `h` d, letter 104 d, a, b, c, d))
      (λ d. by-test (ends_in (letters `f`) s)
      (λ e. rw (one `f` e, letter 102 e, a, b, c, d, e))
      (λ e. by-test (ends_in (letters `t`) s)
      (λ f. rw (one `t` f, letter 116 f, a, b, c, d, e, f))
      (λ f. let none : ends_in_one metrics s ≡ false = rw (a, b, c, d, e, f) in rw (none, none, a, b, c, d, e, f)))))))

-- ---- of any text, white space around it passed over
nil : (l : List ℕ) → length l ≡ 0 → l ≡ []
nil [] e = refl
nil (b ∷ l) e = absurd (omega arith)

-- nothing is no time
empty : (ctx : TimingCtx) → first_of ways [] ctx ≡ Err TimeError.Invalid
unfolding starts_at clock_time split_at
empty ctx = refl

pub in_order : (s : List ℕ) (ctx : TimingCtx) → time_in s ctx ≡ first_of ways (trimmed s) ctx
unfolding time_in expression
in_order s ctx = by-test (eqb (length (trimmed s)) 0)
    (λ z. rw z (sym (ap (λ l. first_of ways l ctx) (nil (trimmed s) (eqb-true _ 0 z)) ∙ empty ctx)))
    (λ z. rw z)

pub some_way : (s : List ℕ) (ctx : TimingCtx) (t : Result ℤ TimeError) → ((time_in s ctx ≡ t) × ¬ (t ≡ (Err TimeError.Invalid))) ↔ ((way : Way) × TimeBy way s ctx t)
some_way s ctx t = (to, from)
  where
    to : (time_in s ctx ≡ t) × Met t → (way : Way) × TimeBy way s ctx t
    to (e, n) =
        let f : first_of ways (trimmed s) ctx ≡ t = sym (in_order s ctx) ∙ e in
        let r = first_some (trimmed s) ctx ways (λ z. n (sym f ∙ z)) in
        (r.0, (r.1 ∙ f, n))

    from : (way : Way) × TimeBy way s ctx t → (time_in s ctx ≡ t) × Met t
    from (way, (e, n)) = (in_order s ctx ∙ (first-is (trimmed s) ctx way (λ z. n (sym e ∙ z)) ways (listed way) ∙ e), n)

pub one_way : (s : List ℕ) (ctx : TimingCtx) (v w : Way) (t u : Result ℤ TimeError) → TimeBy v s ctx t → TimeBy w s ctx u → v ≡ w
one_way s ctx v w t u a b =
    only (trimmed s) ctx v (λ e. a.1 (sym a.0 ∙ e)) ∙ sym (only (trimmed s) ctx w (λ e. b.1 (sym b.0 ∙ e)))

pub as_before : (s : List ℕ) (ctx : TimingCtx) → time_in s ctx ≡ in_rusts_order s ctx
unfolding time_in expression
as_before s ctx = by-test (eqb (length (trimmed s)) 0)
    (λ z. rw z)
    (λ z. rw z (first_way (trimmed s) ctx ∙ sym (by_first (trimmed s) ctx)))

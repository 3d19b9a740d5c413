-- A loop over nodes: what holds at its head, and a lemma for each way through its body. Assumes nothing.
use Rattle.std.specs.Prelude.{Ok, Err}
use Prim.Native.Nat.{ℕ, ◌+◌, ◌*◌, ◌≤◌, ◌<◌}
use mathlib.Core.Path.{◌≡◌, refl, ap, ◌∙◌}
use mathlib.Core.Bool.{Bool, true, false}
use mathlib.Core.List.{List}
use native.Mathlib.Omega.{arith}
use lib.ListN.{length, length-append}
use lib.Seq.{sets, length-sets}
use lib.Dec.{ltb}
use borrow.Author.Tests.{lt-ltb, le-ltb, ltb-true}
use Rattle.scan.specs.Loop.{Next, halt}
use Rattle.scan.specs.Bytes.{other, run_end_of}
use Rattle.scan.specs.Marks.{starts_at}
use Rattle.tree.specs.Trees.{Forest, nil, size, attrs_of, join, rows, attr_rows}
use Rattle.tree.specs.Read.{Out, got, bad, close_mark, Reader, node_at_of, State, node_next, close_at, inner_turn, outer_turn, row_of, fresh}
use Rattle.scan.specs.Posts.{Ends}
use Rattle.tree.specs.Posts.{Ready, Laid, Idle, ContentPost, closed_at}
use Rattle.tree.specs.declared.answers.Cursor.{Cursor}
use Rattle.scan.proofs.Runs.{run-low}
use Rattle.scan.proofs.Loop.{loop-out, loop-halt, loop-more}
use Rattle.tree.proofs.Forests.{size-join, attrs-join, rows_on, attrs-on}

abbrev pub Turn : Type 0
Turn = ℕ → State → Next State Out

-- ---- the turns
module _ (s : List ℕ) (el : Reader) (p : ℕ) (x : State) where
  pub inner_node : starts_at s p close_mark ≡ false → inner_turn s el p x ≡ node_next x (node_at_of s el p x.nodes x.attrs)
  unfolding inner_turn
  inner_node e = rw e

  pub outer_node : outer_turn s el p x ≡ node_next x (node_at_of s el p x.nodes x.attrs)
  unfolding outer_turn
  outer_node = refl

  module _ (e : starts_at s p close_mark ≡ true) where
    inner_close : ltb (run_end_of (other 62) s p) (length s) ≡ true → inner_turn s el p x
        ≡ halt (got x.forest (run_end_of (other 62) s p + 1) x.nodes x.attrs)
    unfolding inner_turn close_at
    inner_close w = rw (e, w)

    inner_torn : ltb (run_end_of (other 62) s p) (length s) ≡ false → inner_turn s el p x ≡ halt (bad 11 p)
    unfolding inner_turn close_at
    inner_torn w = rw (e, w)

-- ---- what `parse_close` answers
module _ (s : List ℕ) (p k a g : ℕ) (w : Ends (other 62) s p g) where
  pub close_yes : g < length s → closed_at s p k a ≡ Ok (record { pos = g + 1; nodes = k; attrs = a })
  unfolding closed_at
  close_yes h = rw (← w.is, lt-ltb g (length s) h)

  pub close_no : length s ≤ g → closed_at s p k a ≡ Err (record { number = 11; place = p })
  unfolding closed_at
  close_no h = rw (← w.is, le-ltb g (length s) h)

-- ---- the loop
pub record Going (s : List ℕ) (turn : Turn) (t u : List ℕ) (from k₀ a₀ : ℕ) (t' u' : List ℕ) (pos k a : ℕ) : Type 0 where
  pub within : pos ≤ length s
  pub after : from ≤ pos
  pub most : k ≤ 8192
  pub least : a ≤ 8192
  pub kept : length t' ≡ length t
  pub held : length u' ≡ length u
  pub forest : Forest
  pub counted : k ≡ k₀ + size forest
  pub tallied : a ≡ a₀ + length (attrs_of forest)
  pub laid : t' ≡ sets t (k₀ * 6) (rows k₀ a₀ forest)
  pub listed : u' ≡ sets u (a₀ * 4) (attr_rows (attrs_of forest))
  pub is : row_of s turn from (fresh k₀ a₀) ≡ row_of s turn pos (record { forest = forest; nodes = k; attrs = a })

pub start : (s : List ℕ) (turn : Turn) (t u : List ℕ) (from k₀ a₀ : ℕ) → Ready s t u from k₀ a₀ → Going s turn t u from k₀ a₀ t u from k₀ a₀
unfolding rows size attrs_of attr_rows
start s turn t u from k₀ a₀ r = record {
  within = r.within;
  after = omega arith;
  most = r.most;
  least = r.least;
  kept = refl;
  held = refl;
  forest = nil;
  counted = omega arith;
  tallied = omega arith;
  laid = refl;
  listed = refl;
  is = refl;
}

module _ {s : List ℕ} {turn : Turn} {t u : List ℕ} {from k₀ a₀ : ℕ} {t' u' : List ℕ} {pos k a : ℕ} (g : Going s turn t u from k₀ a₀ t' u' pos k a)
  where
    abbrev pub now_at : State
    now_at = record { forest = g.forest; nodes = k; attrs = a }

    -- a turn that ends the loop
    pub fail : (n q : ℕ) → pos < length s → turn pos now_at ≡ halt (bad n q) → row_of s turn from (fresh k₀ a₀) ≡ bad n q
    unfolding row_of
    fail n q h e = g.is ∙ loop-halt (length s) turn _ pos now_at (bad n q) h e

    pub done : (q : ℕ) → pos < length s → turn pos now_at ≡ halt (got g.forest q k a) → pos ≤ q → q ≤ length s
        → Laid (row_of s turn from (fresh k₀ a₀)) s t t' u u' from k₀ a₀ (record { pos = q; nodes = k; attrs = a })
    unfolding row_of
    done q h e l m = record {
      forest = g.forest;
      is = g.is ∙ loop-halt (length s) turn _ pos now_at _ h e;
      after = omega arith;
      within = m;
      counted = g.counted;
      tallied = g.tallied;
      most = g.most;
      least = g.least;
      laid = g.laid;
      listed = g.listed;
    }

    pub out : length s ≤ pos → Laid (row_of s turn from (fresh k₀ a₀)) s t t' u u' from k₀ a₀ (record { pos = pos; nodes = k; attrs = a })
    unfolding row_of
    out h = record {
      forest = g.forest;
      is = g.is ∙ loop-out (length s) turn _ pos now_at h;
      after = g.after;
      within = g.within;
      counted = g.counted;
      tallied = g.tallied;
      most = g.most;
      least = g.least;
      laid = g.laid;
      listed = g.listed;
    }

    -- a turn that reads a node, whose outcome is o
    module _ (o : Out) (h : pos < length s) (w : turn pos now_at ≡ node_next now_at o) where
      pub fail_node : (n q : ℕ) → o ≡ bad n q → row_of s turn from (fresh k₀ a₀) ≡ bad n q
      unfolding node_next
      fail_node n q e = fail n q h (w ∙ rw e)

      pub idle : {t'' u'' : List ℕ} (q : ℕ) → Idle o s t' t'' u' u'' pos q
          → Laid (row_of s turn from (fresh k₀ a₀)) s t t'' u u'' from k₀ a₀ (record { pos = q; nodes = k; attrs = a })
      unfolding node_next
      idle q i = rw (i.same, i.alike) (done q h (w ∙ rw i.is) i.after i.within)

      pub step : {t'' u'' : List ℕ} (c : Cursor) → Laid o s t' t'' u' u'' (pos + 1) k a c
          → Going s turn t u from k₀ a₀ t'' u'' c.pos c.nodes c.attrs
      unfolding row_of node_next
      step {t'' = t''} {u'' = u''} c l =
          let f : Forest = g.forest in
          let n : Forest = l.forest in
          record {
            within = l.within;
            after = omega arith;
            most = l.most;
            least = l.least;
            kept = ap length l.laid ∙ (length-sets t' (k * 6) (rows k a n) ∙ g.kept);
            held = ap length l.listed ∙ (length-sets u' (a * 4) (attr_rows (attrs_of n)) ∙ g.held);
            forest = join f n;
            counted = omega (arith, size-join f n);
            tallied = rw (attrs-join f n, length-append (attrs_of f) (attrs_of n)) (omega arith);
            laid = rows_on f n t t' t'' k₀ a₀ k a g.counted g.tallied g.laid l.laid;
            listed = attrs-on (attrs_of f) (attrs_of n) u u' u'' a₀ a g.tallied g.listed l.listed ∙ rw (attrs-join f n);
            is = g.is ∙ loop-more (length s) turn _ pos now_at c.pos _ h (w ∙ rw l.is) (omega (arith, l.after));
          }

-- a turn at a close tag
pub closed : {s : List ℕ} (el : Reader) {t u : List ℕ} {from k₀ a₀ : ℕ} {t' u' : List ℕ} {pos k a : ℕ}
    → Going s (inner_turn s el) t u from k₀ a₀ t' u' pos k a
    → pos < length s → starts_at s pos close_mark ≡ true
    → ContentPost (row_of s (inner_turn s el) from (fresh k₀ a₀)) s t t' u u' from k₀ a₀ (closed_at s pos k a)
unfolding closed_at
closed {s} el {t} {u} {from} {k₀} {a₀} {t'} {u'} {pos} {k} {a} g h e = go (ltb (run_end_of (other 62) s pos) (length s)) refl
  where
    go : (b : Bool) → ltb (run_end_of (other 62) s pos) (length s) ≡ b
        → ContentPost (row_of s (inner_turn s el) from (fresh k₀ a₀)) s t t' u u' from k₀ a₀ (closed_at s pos k a)
    go true w =
        rw w (done g (run_end_of (other 62) s pos + 1) h (inner_close s el pos _ e w) (omega (arith, run-low (other 62) s pos))
        (omega (arith, ltb-true (run_end_of (other 62) s pos) (length s) w)))
    go false w = rw w (fail g 11 pos h (inner_torn s el pos _ e w))

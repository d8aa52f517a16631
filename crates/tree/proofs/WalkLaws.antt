-- Two stores under one root, in both of which a chunk hangs and has other bytes: the walk to it names two different strings with one hash. Assumes nothing.
use Rattle.std.proofs.Common.{◌≡◌, ℕ, zero, suc, ◌+◌, ◌/◌, ◌%◌, ◌^◌, ◌<◌, ◌≤◌, Bool, true, false, ◌≢◌, ◌⊎◌, List, ◌++◌, length, take, drop, sym, refl, ap, ◌∙◌, ap₂, inl, inr, true≢false, arith, take_at, drop_at}
use mathlib.Core.Option.{Option, none, some}
use Rattle.base.specs.Same.{same}
use Rattle.base.proofs.SameLaws.{same_is, same_refl}
use Rattle.base.specs.Pick.{pick}
use Rattle.tree.specs.Node.{Node, node, above}
use Rattle.tree.specs.Pack.{levels}
use Rattle.tree.specs.Tree.{given, combined}
use Rattle.tree.specs.State.{State}
use Rattle.tree.specs.Walk.{Hangs, string, walk_from, walk, here, there, Collision, Lowest}
use Rattle.tree.proofs.NodeLaws.{split, above_in, above-left, above-right, above-top, above_zero}
use Rattle.tree.proofs.PackLaws.{levels-holds}
use Rattle.tree.proofs.TreeLaws.{given-empty, given-whole, given-mixed}

pub append_parts : (n : ℕ) (x y x' y' : List ℕ) → length x ≡ n → length x' ≡ n → x ++ y ≡ x' ++ y' → (x ≡ x') × (y ≡ y')
append_parts n x y x' y' h h' e = (
  sym (take_at x y n h) ∙ ap (take n) e ∙ take_at x' y' n h',
  sym (drop_at x y n h) ∙ ap (drop n) e ∙ drop_at x' y' n h',
)

pub same-differ : (x y : List ℕ) → same x y ≡ false → x ≢ y
same-differ x y e p = true≢false (sym (same_refl x) ∙ ap (same x) p ∙ e)

-- ---- what a chunk that hangs is held by

-- what holds of the filler, of every value of H and of every held hash holds of every hash above
module _ (H : List ℕ → List ℕ) (Z : List ℕ) (N : ℕ) (P : List ℕ → Type 0) (filled : P Z) (hashed : (x : List ℕ) → P (H x)) where
  given-all : (held : ℕ → ℕ → List ℕ) → ((h a : ℕ) → P (held h a)) → (h a : ℕ) → P (given H Z N held h a)
  given-all held all zero a = go (split N a)
    where
      go : (N ≤ a) ⊎ (a < N) → P (given H Z N held zero a)
      go (inl e) = rw (given-empty H Z N held zero a e) filled
      go (inr e) = rw (given-whole H Z N held zero a (omega arith)) (all zero a)
  given-all held all (suc h) a = go (split N a) (split (a + 2 ^ suc h) N)
    where
      go : (N ≤ a) ⊎ (a < N) → (a + 2 ^ suc h ≤ N) ⊎ (N < a + 2 ^ suc h) → P (given H Z N held (suc h) a)
      go (inl e) w = rw (given-empty H Z N held (suc h) a e) filled
      go (inr e) (inl w) = rw (given-whole H Z N held (suc h) a w) (all (suc h) a)
      go (inr e) (inr w) = rw (given-mixed H Z N held h a e w) (hashed _)

  -- and, where chunks have it and two strings joined do, of every string
  pub string-all : ((x y : List ℕ) → P x → P y → P (x ++ y)) → (s : State) → ((h a : ℕ) → P (s.hash h a)) → ((x : ℕ) → P (s.chunk x))
      → (h a : ℕ) → P (string H Z N s h a)
  unfolding string
  string-all join s all chunks zero a = chunks a
  string-all join s all chunks (suc h) a = join _ _ (given-all s.hash all h a) (given-all s.hash all h (a + 2 ^ h))

module _ (H : List ℕ → List ℕ) (Z : List ℕ) (N : ℕ) (r : List ℕ) where
  pub given-string : (s : State) (c h : ℕ) → c < N → Hangs H Z N r s c → given H Z N s.hash h (above h c) ≡ H (string H Z N s h (above h c))
  unfolding string
  given-string s c zero l g =
      rw above_zero (given-whole H Z N s.hash zero c (omega arith) ∙ g.leaf)
  given-string s c (suc h) l g = go (split (above (suc h) c + 2 ^ suc h) N)
    where
      go : (above (suc h) c + 2 ^ suc h ≤ N) ⊎ (N < above (suc h) c + 2 ^ suc h)
          → given H Z N s.hash (suc h) (above (suc h) c)
          ≡ H (given H Z N s.hash h (above (suc h) c) ++ given H Z N s.hash h (above (suc h) c + 2 ^ h))
      go (inl w) =
          given-whole H Z N s.hash (suc h) (above (suc h) c) w
          ∙ g.up h w
          ∙ ap₂ (λ (x y : List ℕ). H (x ++ y))
          (sym (given-whole H Z N s.hash h (above (suc h) c) (omega arith)))
          (sym (given-whole H Z N s.hash h (above (suc h) c + 2 ^ h) (omega arith)))
      go (inr w) = given-mixed H Z N s.hash h (above (suc h) c) (omega (arith, above_in (suc h) c)) w

-- ---- the walk goes on where the strings are the same, and stops where they differ

module _ (H : List ℕ → List ℕ) (Z : List ℕ) (N : ℕ) (s t : State) (c : ℕ) where
  walk-leaf : walk_from H Z N s t c zero ≡ node zero (above zero c)
  unfolding walk_from
  walk-leaf = refl

  walk-on : (h : ℕ) → same (string H Z N s (suc h) (above (suc h) c)) (string H Z N t (suc h) (above (suc h) c)) ≡ true
      → walk_from H Z N s t c (suc h) ≡ walk_from H Z N s t c h
  unfolding walk_from
  walk-on h e = rw e

  walk-stops : (h : ℕ) → same (string H Z N s (suc h) (above (suc h) c)) (string H Z N t (suc h) (above (suc h) c)) ≡ false
      → walk_from H Z N s t c (suc h) ≡ node (suc h) (above (suc h) c)
  unfolding walk_from
  walk-stops h e = rw e

-- the strings differ at a node above c, and are hashed there to one value
record Meets (H : List ℕ → List ℕ) (Z : List ℕ) (N : ℕ) (s t : State) (c : ℕ) (n : Node) : Type 0 where
  on_way : n.from ≡ above n.high c
  differ : string H Z N s n.high n.from ≢ string H Z N t n.high n.from
  left : given H Z N s.hash n.high n.from ≡ H (string H Z N s n.high n.from)
  right : given H Z N t.hash n.high n.from ≡ H (string H Z N t n.high n.from)
  agree : H (string H Z N s n.high n.from) ≡ H (string H Z N t n.high n.from)
  within : n.high ≤ levels N

module _ (H : List ℕ → List ℕ) (Z : List ℕ) (N W : ℕ) (zlen : length Z ≡ W) (hlen : (x : List ℕ) → length (H x) ≡ W)
    (r : List ℕ) (s t : State) (slen : (h a : ℕ) → length (s.hash h a) ≡ W) (tlen : (h a : ℕ) → length (t.hash h a) ≡ W)
    (c : ℕ) (l : c < N) (gs : Hangs H Z N r s c) (gt : Hangs H Z N r t c) (d : s.chunk c ≢ t.chunk c) where
  -- equal strings are made of equal hashes
  parts : (h a : ℕ) → string H Z N s (suc h) a ≡ string H Z N t (suc h) a
      → (given H Z N s.hash h a ≡ given H Z N t.hash h a) × (given H Z N s.hash h (a + 2 ^ h) ≡ given H Z N t.hash h (a + 2 ^ h))
  unfolding string
  parts h a e =
      append_parts W _ _ _ _ (long s.hash slen) (long t.hash tlen) e
    where
      long : (held : ℕ → ℕ → List ℕ) → ((k b : ℕ) → length (held k b) ≡ W) → length (given H Z N held h a) ≡ W
      long held len = given-all H Z N (λ x. length x ≡ W) zlen hlen held len h a

  at_above : (h : ℕ) → (given H Z N s.hash h (above (suc h) c) ≡ given H Z N t.hash h (above (suc h) c))
      × (given H Z N s.hash h (above (suc h) c + 2 ^ h) ≡ given H Z N t.hash h (above (suc h) c + 2 ^ h))
      → given H Z N s.hash h (above h c) ≡ given H Z N t.hash h (above h c)
  at_above h p = go (c / 2 ^ h % 2) refl
    where
      go : (x : ℕ) → c / 2 ^ h % 2 ≡ x → given H Z N s.hash h (above h c) ≡ given H Z N t.hash h (above h c)
      go zero e = rw (above-left h c e) at p.0
      go (suc x) e = rw (above-right h c (omega arith)) at p.1

  leaf-string : (u : State) → string H Z N u zero (above zero c) ≡ u.chunk c
  unfolding string
  leaf-string u = ap u.chunk (above_zero c)

  meets-from : (h : ℕ) → h ≤ levels N → given H Z N s.hash h (above h c) ≡ given H Z N t.hash h (above h c)
      → Meets H Z N s t c (walk_from H Z N s t c h)
  meets-from zero w e =
      rw (walk-leaf H Z N s t c)
      (record {
        on_way = refl;
        differ = λ p. d (sym (leaf-string s) ∙ p ∙ leaf-string t);
        left = given-string H Z N r s c zero l gs;
        right = given-string H Z N r t c zero l gt;
        agree = sym (given-string H Z N r s c zero l gs) ∙ e ∙ given-string H Z N r t c zero l gt;
        within = w;
      })
  meets-from (suc h) w e = go (same S T) refl (meets-from h (omega arith))
    where
      S : List ℕ
      S = string H Z N s (suc h) (above (suc h) c)

      T : List ℕ
      T = string H Z N t (suc h) (above (suc h) c)

      go : (b : Bool) → same S T ≡ b
          → (given H Z N s.hash h (above h c) ≡ given H Z N t.hash h (above h c) → Meets H Z N s t c (walk_from H Z N s t c h))
          → Meets H Z N s t c (walk_from H Z N s t c (suc h))
      go true f ih =
          rw (walk-on H Z N s t c h f)
          (ih (at_above h (parts h (above (suc h) c) (same_is S T f))))
      go false f ih =
          rw (walk-stops H Z N s t c h f)
          (record {
            on_way = refl;
            differ = same-differ S T f;
            left = given-string H Z N r s c (suc h) l gs;
            right = given-string H Z N r t c (suc h) l gt;
            agree = sym (given-string H Z N r s c (suc h) l gs) ∙ e ∙ given-string H Z N r t c (suc h) l gt;
            within = w;
          })

  -- the walk from the root
  meets : Meets H Z N s t c (walk H Z N s t c)
  unfolding walk combined
  meets =
      let z = above-top (levels N) c (omega (arith, levels-holds N)) in
      meets-from (levels N) (omega arith) (rw z (gs.top ∙ sym gt.top))

-- it is the first such node: at each node above it on the way the strings are the same
module _ (H : List ℕ → List ℕ) (Z : List ℕ) (N : ℕ) (s t : State) (c : ℕ) where
  first-from : (h : ℕ) (k : ℕ) → (walk_from H Z N s t c h).high < k → k ≤ h → string H Z N s k (above k c) ≡ string H Z N t k (above k c)
  first-from zero k l u = absurd (omega (arith, ap (λ (n : Node). n.high) (walk-leaf H Z N s t c)))
  first-from (suc h) k l u = go (same S T) refl (first-from h k)
    where
      S : List ℕ
      S = string H Z N s (suc h) (above (suc h) c)

      T : List ℕ
      T = string H Z N t (suc h) (above (suc h) c)

      go : (b : Bool) → same S T ≡ b
          → ((walk_from H Z N s t c h).high < k → k ≤ h → string H Z N s k (above k c) ≡ string H Z N t k (above k c))
          → string H Z N s k (above k c) ≡ string H Z N t k (above k c)
      go false f ih = absurd (omega (arith, ap (λ (n : Node). n.high) (walk-stops H Z N s t c h f)))
      go true f ih = at (split k h)
        where
          at : (k ≤ h) ⊎ (h < k) → string H Z N s k (above k c) ≡ string H Z N t k (above k c)
          at (inl v) = ih (rw (walk-on H Z N s t c h f) at l) v
          at (inr v) = let e : k ≡ suc h = omega arith in rw e (same_is S T f)

  pub walk_first : (k : ℕ) → (walk H Z N s t c).high < k → k ≤ levels N → string H Z N s k (above k c) ≡ string H Z N t k (above k c)
  unfolding walk
  walk_first = first-from (levels N)

module _ (H : List ℕ → List ℕ) (Z : List ℕ) (N W : ℕ) (zlen : length Z ≡ W) (hlen : (x : List ℕ) → length (H x) ≡ W)
    (r : List ℕ) (s t : State) (slen : (h a : ℕ) → length (s.hash h a) ≡ W) (tlen : (h a : ℕ) → length (t.hash h a) ≡ W)
    (c : ℕ) (l : c < N) (gs : Hangs H Z N r s c) (gt : Hangs H Z N r t c) (d : s.chunk c ≢ t.chunk c) where
  pub clash : Collision H Z N s t c
  unfolding here there
  clash =
      let m = meets H Z N W zlen hlen r s t slen tlen c l gs gt d in
      record {
        on_way = m.on_way;
        in_tree = m.within;
        differ = m.differ;
        hashed-here = m.left;
        hashed-there = m.right;
        one_value = m.agree;
        first = walk_first H Z N s t c;
      }

-- ---- the lowest chunk that differs

-- The lowest of the d chunks from i on that differs.
unfoldable lowest : State → State → ℕ → ℕ → Option ℕ
lowest s t zero i = none
lowest s t (suc d) i = pick (same (s.chunk i) (t.chunk i)) (lowest s t d (suc i)) (some i)

record LowestFrom (s t : State) (i d j : ℕ) : Type 0 where
  in_range : (i ≤ j) × (j < i + d)
  under : (k : ℕ) → i ≤ k → k < j → s.chunk k ≡ t.chunk k
  unlike : s.chunk j ≢ t.chunk j

abbrev Says : State → State → ℕ → ℕ → Option ℕ → Type 0
Says s t i d none = (k : ℕ) → i ≤ k → k < i + d → s.chunk k ≡ t.chunk k
Says s t i d (some j) = LowestFrom s t i d j

lowest-says : (s t : State) (d i : ℕ) → Says s t i d (lowest s t d i)
unfolding lowest
lowest-says s t zero i = λ k l u. absurd (omega arith)
lowest-says s t (suc d) i = go (same (s.chunk i) (t.chunk i)) refl (lowest s t d (suc i)) (lowest-says s t d (suc i))
  where
    at_or_after : (P : ℕ → Type 0) (m k : ℕ) → P m → (suc m ≤ k → P k) → m ≤ k → P k
    at_or_after P m k p f l = pair (split k m)
      where
        pair : (k ≤ m) ⊎ (m < k) → P k
        pair (inl e) = let q : m ≡ k = omega arith in rw q at p
        pair (inr e) = f e

    go : (b : Bool) → same (s.chunk i) (t.chunk i) ≡ b → (o : Option ℕ) → Says s t (suc i) d o → Says s t i (suc d) (pick b o (some i))
    go true f none g =
        λ k l u. at_or_after (λ (m : ℕ). s.chunk m ≡ t.chunk m) i k (same_is (s.chunk i) (t.chunk i) f) (λ m. g k m (omega arith)) l
    go true f (some j) g = record {
      in_range = let h = g.in_range in omega arith;
      under = λ k l u. at_or_after (λ (m : ℕ). s.chunk m ≡ t.chunk m) i k (same_is (s.chunk i) (t.chunk i) f) (λ m. g.under k m u) l;
      unlike = g.unlike;
    }
    go false f o g = record {
      in_range = omega arith;
      under = λ k l u. absurd (omega arith);
      unlike = same-differ (s.chunk i) (t.chunk i) f;
    }

-- ---- the claim

-- Two stores compared: all chunks are the same, or the walk to the lowest that differs names a collision.
pub data Compared (H : List ℕ → List ℕ) (Z : List ℕ) (N : ℕ) (s t : State) : Type 0 where
  equal : ((k : ℕ) → k < N → s.chunk k ≡ t.chunk k) → Compared H Z N s t
  colliding : (c : ℕ) → Lowest N s t c → Collision H Z N s t c → Compared H Z N s t

-- Two stores under one root in which every chunk hangs.
pub compare : (H : List ℕ → List ℕ) (Z : List ℕ) (N W : ℕ) → length Z ≡ W → ((x : List ℕ) → length (H x) ≡ W)
    → (r : List ℕ) (s t : State) → ((h a : ℕ) → length (s.hash h a) ≡ W) → ((h a : ℕ) → length (t.hash h a) ≡ W)
    → ((c : ℕ) → c < N → Hangs H Z N r s c) → ((c : ℕ) → c < N → Hangs H Z N r t c) → Compared H Z N s t
compare H Z N W zlen hlen r s t slen tlen gs gt = go (lowest s t N 0) (lowest-says s t N 0)
  where
    go : (o : Option ℕ) → Says s t 0 N o → Compared H Z N s t
    go none g = equal (λ k l. g k (omega arith) (omega arith))
    go (some c) g =
        let l : c < N = omega (arith, g.in_range) in
        colliding c (record { in_pack = l; below = λ k u. g.under k (omega arith) u; differs = g.unlike })
        (clash H Z N W zlen hlen r s t slen tlen c l (gs c l) (gt c l) g.unlike)

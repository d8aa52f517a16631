-- What goes out with a chunk: how many nodes, how large their numbers are, and that none comes twice. Assumes nothing.
use Rattle.std.proofs.Common.{◌≡◌, ℕ, zero, suc, ◌+◌, ◌*◌, ◌/◌, ◌%◌, ◌^◌, ◌≤◌, Bool, true, false, ltb, leb, ◌≢◌, List, [], ◌∷◌, ◌++◌, map, length, get_or, sym, refl, ap, ◌∙◌, inl, inr, mul_assoc, mul_comm, pow-suc, arith, eqb-true, leb-true}
use Rattle.base.specs.Pick.{pick}
use Rattle.tree.specs.Bin.{bin}
use Rattle.tree.specs.Node.{Node, num, above, sibling_from}
use Rattle.tree.specs.Pack.{levels}
use Rattle.tree.specs.Peaks.{sent}
use Rattle.tree.specs.Steps.{peak_bit, peak_at, sibling_at, peak_turn}
use Rattle.tree.proofs.Below.{sent_below}
use Rattle.tree.specs.Verdicts.{Each}
use Rattle.tree.specs.Named.{Precedes}
use Rattle.tree.proofs.BinLaws.{bin_inj}
use Rattle.tree.proofs.NodeLaws.{above_in, above-right}
use Rattle.tree.proofs.PackLaws.{levels_small}
use Rattle.tree.proofs.SentLaws.{sent_is, Sorted, sent_sorted}
use Rattle.tree.proofs.StepLaws.{sent-short}

-- ---- how many

-- Of at most 2 ^ k chunks: at most two nodes at each of k + 1 heights.
pub sent_few : (k N c : ℕ) → N ≤ 2 ^ k → length (sent N c) ≤ 2 * suc k
sent_few k N c h = rw (sent_is N c) (omega (arith, sent-short N c (suc (levels N)), levels_small k N h))

-- ---- how large

-- No node's number is over m.
Under : ℕ → List Node → Type 0
Under m ns = (i : ℕ) → get_or (map num ns) i 0 ≤ m

under-turn : (m : ℕ) (t : Bool) (n : Node) (ns : List Node) → (t ≡ true → num n ≤ m) → Under m ns → Under m (pick t (n ∷ []) [] ++ ns)
unfolding Under
under-turn m true n ns h u zero = h refl
under-turn m true n ns h u (suc i) = u i
under-turn m false n ns h u i = u i

-- A sibling whose parent lies within 0..N-1 does, and so does a peak.
pub sibling-inside : (N c h : ℕ) → leb (above (suc h) c + 2 ^ suc h) N ≡ true → sibling_from h c + 2 ^ h ≤ N
sibling-inside N c h e = go (ltb c (above (suc h) c + 2 ^ h)) (leb-true (above (suc h) c + 2 ^ suc h) N e)
  where
    go : (b : Bool) → above (suc h) c + 2 ^ suc h ≤ N → pick b (above (suc h) c + 2 ^ h) (above (suc h) c) + 2 ^ h ≤ N
    go true l = omega arith
    go false l = omega arith

pub peak-inside : (N h : ℕ) → peak_bit N h ≡ true → above (suc h) N + 2 ^ h ≤ N
peak-inside N h e = omega (arith, above-right h N (eqb-true (N / 2 ^ h % 2) 1 e), (above_in h N).0)

below-under : (N c h : ℕ) → Under (2 * N) (sent_below N c h)
unfolding sent_below Under
below-under N c zero i = omega arith
below-under N c (suc h) i =
    under-turn (2 * N) (leb (above (suc h) c + 2 ^ suc h) N) (sibling_at c h) (peak_turn N h ++ sent_below N c h) (λ t. omega (arith, sibling-inside N c h t))
    (under-turn (2 * N) (peak_bit N h) (peak_at N h) (sent_below N c h) (λ t. omega (arith, peak-inside N h t)) (below-under N c h)) i

pub sent-under : (N c i : ℕ) → get_or (map num (sent N c)) i 0 ≤ 2 * N
unfolding Under
sent-under N c i = rw (sent_is N c) (below-under N c (suc (levels N)) i)

-- ---- each once

-- b is none of the numbers.
abbrev pub Differs : ℕ → List ℕ → Type 0
Differs b [] = Unit {0}
Differs b (x ∷ xs) = (b ≢ x) × Differs b xs

-- None of the numbers comes twice.
abbrev pub Distinct : List ℕ → Type 0
Distinct [] = Unit {0}
Distinct (b ∷ bs) = Differs b bs × Distinct bs

-- A node's first chunk is a multiple of the chunks that it covers,
abbrev Aligned : Node → Type 0
Aligned n = (k : ℕ) × (n.from ≡ k * 2 ^ n.high)

-- as a multiple of a node's chunks is one of its children's.
halved : (h x : ℕ) → x * 2 ^ suc h ≡ x * 2 * 2 ^ h
halved h x = rw (pow-suc 2 h, mul_comm (2 ^ h) 2) (sym (mul_assoc x 2 (2 ^ h)))

peak_aligned : (N h : ℕ) → Aligned (peak_at N h)
peak_aligned N h = (N / 2 ^ suc h * 2, halved h (N / 2 ^ suc h))

sibling_aligned : (c h : ℕ) → Aligned (sibling_at c h)
sibling_aligned c h = go (ltb c (above (suc h) c + 2 ^ h))
  where
    go : (b : Bool) → (k : ℕ) × (pick b (above (suc h) c + 2 ^ h) (above (suc h) c) ≡ k * 2 ^ h)
    go true = (c / 2 ^ suc h * 2 + 1, omega (arith, halved h (c / 2 ^ suc h)))
    go false = (c / 2 ^ suc h * 2, halved h (c / 2 ^ suc h))

turn_aligned : (t : Bool) (n : Node) (ns : List Node) → Aligned n → Each Aligned ns → Each Aligned (pick t (n ∷ []) [] ++ ns)
turn_aligned true n ns a b = (a, b)
turn_aligned false n ns a b = b

below_aligned : (N c h : ℕ) → Each Aligned (sent_below N c h)
unfolding sent_below
below_aligned N c zero = tt
below_aligned N c (suc h) =
    turn_aligned (leb (above (suc h) c + 2 ^ suc h) N) (sibling_at c h) (peak_turn N h ++ sent_below N c h) (sibling_aligned c h)
    (turn_aligned (peak_bit N h) (peak_at N h) (sent_below N c h) (peak_aligned N h) (below_aligned N c h))

-- So of two nodes of which one comes later the numbers differ.
later_differs : (n m : Node) → Aligned n → Aligned m → Precedes n m → num n ≢ num m
later_differs n m a b l e =
    go l (bin_inj n.high a.0 m.high b.0 (ap (bin n.high) (sym a.1) ∙ e ∙ ap (bin m.high) b.1))
  where
    go : Precedes n m → (n.high ≡ m.high) × (a.0 * 2 ^ n.high ≡ b.0 * 2 ^ m.high) → ⊥
    go (inl lower) i = omega (arith, lower, i.0)
    go (inr right) i = omega (arith, right.1, i.1, a.1, b.1)

all-differ : (n : Node) (ms : List Node) → Aligned n → Each Aligned ms → Each (Precedes n) ms → Differs (num n) (map num ms)
all-differ n [] a b l = tt
all-differ n (m ∷ ms) a b l = (later_differs n m a b.0 l.0, all-differ n ms a b.1 l.1)

distinct : (ns : List Node) → Each Aligned ns → Sorted ns → Distinct (map num ns)
distinct [] a s = tt
distinct (n ∷ ns) a s = (all-differ n ns a.0 a.1 s.0, distinct ns a.1 s.1)

pub sent_once : (N c : ℕ) → Distinct (map num (sent N c))
sent_once N c = distinct (sent N c) (rw (sent_is N c) (below_aligned N c (suc (levels N)))) (sent_sorted N c)

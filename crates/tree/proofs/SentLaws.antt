-- What is needed for a chunk and what goes out with it, in the sending order: height by height from the top, the sibling
-- first and then the peak. Assumes nothing.
use Rattle.std.proofs.Common.{◌≡◌, ℕ, zero, suc, ◌+◌, ◌/◌, ◌^◌, ◌<◌, ◌≤◌, Bool, true, false, ltb, leb, ◌⊎◌, List, [], ◌∷◌, ◌++◌, sym, refl, ap, ◌∙◌, ap₂, inl, inr, mul-le-mul_right, le-div_iff_mul-le, arith, pow_pos, ltb-true, le-ltb, lt-ltb, eq-eqb, ne_eqb, le-leb}
use native.Mathlib.Decide.{le_ind}
use borrow.Author.Tests.{lt-leb}
use Rattle.base.specs.Pick.{pick}
use Rattle.tree.specs.Node.{Node, node, sibling_from, above}
use Rattle.tree.specs.Pack.{levels}
use Rattle.tree.specs.Peaks.{peaks, peak_height, siblings, before, insert, sort, sent}
use Rattle.tree.specs.Steps.{peak_bit, peak_at, sibling_at, peak_turn}
use Rattle.tree.specs.Verdicts.{Each}
use Rattle.tree.specs.Named.{Precedes}
use Rattle.tree.proofs.Below.{peaks_below, sent_below, needed_below}
use Rattle.tree.proofs.NodeLaws.{split, above_in, whole_below}
use Rattle.tree.proofs.EachLaws.{each_map}
use Rattle.tree.proofs.PackLaws.{high_bound}
use Rattle.tree.proofs.PeakLaws.{peaks_bits, peak_of, peak-past}

abbrev Below : ℕ → List Node → Type 0
Below h ns = Each (λ n. n.high < h) ns

raise : (h : ℕ) (ns : List Node) → Below h ns → Below (suc h) ns
raise h = each_map (λ n. n.high < h) (λ n. n.high < suc h) (λ n l. omega arith)

insert-front : (h a : ℕ) (ns : List Node) → Below h ns → insert (node h a) ns ≡ node h a ∷ ns
unfolding insert
insert-front h a [] b = refl
insert-front h a (n ∷ ns) b =
    let l = b.0 in
    rw (ne_eqb h n.high (λ e. omega arith), lt-ltb n.high h l)

insert-after : (m n : Node) (ns : List Node) → before m n ≡ false → insert m (n ∷ ns) ≡ n ∷ insert m ns
unfolding insert
insert-after m n ns e = ap (λ (t : Bool). pick t (m ∷ n ∷ ns) (n ∷ insert m ns)) e

insert-back : (m n : Node) (ns : List Node) → m.high < n.high → insert m (n ∷ ns) ≡ n ∷ insert m ns
insert-back m n ns l = insert-after m n ns (rw (ne_eqb m.high n.high (λ e. omega arith)) (le-ltb n.high m.high (omega arith)))

insert-same : (h a b : ℕ) (ns : List Node) → b < a → insert (node h a) (node h b ∷ ns) ≡ node h b ∷ insert (node h a) ns
insert-same h a b ns l = insert-after (node h a) (node h b) ns (rw (eq-eqb h h refl) (lt-leb a b l))

-- ---- sorting a list that begins with the peaks

into : List Node → List Node → List Node
into [] l = l
into (p ∷ ps) l = insert p (into ps l)

sort-append : (ps ss : List Node) → sort (ps ++ ss) ≡ into ps (sort ss)
unfolding sort into
sort-append [] ss = refl
sort-append (p ∷ ps) ss = ap (insert p) (sort-append ps ss)

into_back : (n : Node) (ps l : List Node) → Below n.high ps → into ps (n ∷ l) ≡ n ∷ into ps l
unfolding into
into_back n [] l b = refl
into_back n (p ∷ ps) l b = ap (insert p) (into_back n ps l b.1) ∙ insert-back p n (into ps l) b.0

abbrev sibs : ℕ → ℕ → List Node
sibs c h = siblings c h

sibs-below : (c h : ℕ) → Below h (sibs c h)
unfolding siblings
sibs-below c zero = tt
sibs-below c (suc h) = (omega arith, raise h (sibs c h) (sibs-below c h))

sort-sibs : (c h : ℕ) → sort (sibs c h) ≡ sibs c h
unfolding sort siblings
sort-sibs c zero = refl
sort-sibs c (suc h) =
    rw (sort-sibs c h) (insert-front h (sibling_from h c) (sibs c h) (sibs-below c h))

turn_below : (h : ℕ) (t : Bool) (n : Node) (ns : List Node) → n.high < h → Below h ns → Below h (pick t (n ∷ []) [] ++ ns)
turn_below h true n ns l b = (l, b)
turn_below h false n ns l b = b

bits_below : (N h : ℕ) → Below h (peaks_below N h)
unfolding peaks_below
bits_below N zero = tt
bits_below N (suc h) =
    turn_below (suc h) (peak_bit N h) (peak_at N h) (peaks_below N h) (omega arith) (raise h (peaks_below N h) (bits_below N h))

needed_below_lem : (N c t h : ℕ) → Below h (needed_below false N c t h)
unfolding needed_below
needed_below_lem N c t zero = tt
needed_below_lem N c t (suc h) =
    turn_below (suc h) (ltb h t) (sibling_at c h) (peak_turn N h ++ needed_below false N c t h) (omega arith)
    (turn_below (suc h) (peak_bit N h) (peak_at N h) (needed_below false N c t h) (omega arith)
    (raise h (needed_below false N c t h) (needed_below_lem N c t h)))

-- ---- a sibling within 0..N-1 stands left of the peak of its height

sibling-left : (N c h : ℕ) → above (suc h) c + 2 ^ suc h ≤ N → sibling_from h c < above (suc h) N
sibling-left N c h w =
    let q : c / 2 ^ suc h + 1 ≤ N / 2 ^ suc h = (le-div_iff_mul-le (pow_pos (suc h))).1 (omega arith) in
    let m = mul-le-mul_right (2 ^ suc h) q in
    go (ltb c (above (suc h) c + 2 ^ h)) (omega (arith, m))
  where
    go : (b : Bool) → above (suc h) c + 2 ^ suc h ≤ above (suc h) N → pick b (above (suc h) c + 2 ^ h) (above (suc h) c) < above (suc h) N
    go true k = omega (arith, pow_pos h)
    go false k = omega (arith, pow_pos h)

-- ---- the peaks, and the siblings below a height, sorted

-- Each of these siblings lies within 0..N-1 with its parent.
abbrev pub Inside : ℕ → ℕ → ℕ → Type 0
Inside N c t = (h : ℕ) → h < t → above (suc h) c + 2 ^ suc h ≤ N

pub inside-below : (N c t : ℕ) → above t c + 2 ^ t ≤ N → Inside N c t
inside-below N c t w h l = whole_below N c (suc h) t (omega arith) w

-- up to that height, and from it on
lower : (N c t h : ℕ) → Inside N c t → h ≤ t → into (peaks_below N h) (sibs c h) ≡ needed_below false N c t h
unfolding needed_below peaks_below into siblings
lower N c t zero w l = refl
lower N c t (suc h) w l = rw (lt-ltb h t (omega arith)) (go (peak_bit N h) (lower N c t h w (omega arith)))
  where
    rest : List Node
    rest = needed_below false N c t h

    go : (b : Bool) → into (peaks_below N h) (sibs c h) ≡ rest
        → into (pick b (peak_at N h ∷ []) [] ++ peaks_below N h) (sibling_at c h ∷ sibs c h)
        ≡ sibling_at c h ∷ (pick b (peak_at N h ∷ []) [] ++ rest)
    go true ih =
        ap (insert (peak_at N h)) (into_back (sibling_at c h) (peaks_below N h) (sibs c h) (bits_below N h))
        ∙ insert-same h (above (suc h) N) (sibling_from h c) (into (peaks_below N h) (sibs c h))
        (sibling-left N c h (w h (omega arith)))
        ∙ ap (λ (ns : List Node). sibling_at c h ∷ ns)
        (ap (insert (peak_at N h)) ih ∙ insert-front h (above (suc h) N) rest (needed_below_lem N c t h))
    go false ih =
        into_back (sibling_at c h) (peaks_below N h) (sibs c h) (bits_below N h)
        ∙ ap (λ (ns : List Node). sibling_at c h ∷ ns) ih

upper : (N c t h : ℕ) → into (peaks_below N t) (sibs c t) ≡ needed_below false N c t t → t ≤ h
    → into (peaks_below N h) (sibs c t) ≡ needed_below false N c t h
unfolding needed_below peaks_below into
upper N c t h base l = le_ind (λ (m : ℕ). into (peaks_below N m) (sibs c t) ≡ needed_below false N c t m) base step h l
  where
    step : (m : ℕ) → t ≤ m → into (peaks_below N m) (sibs c t) ≡ needed_below false N c t m
        → into (peaks_below N (suc m)) (sibs c t) ≡ needed_below false N c t (suc m)
    step m k ih = rw (le-ltb m t k) (go (peak_bit N m))
      where
        go : (b : Bool) → into (pick b (peak_at N m ∷ []) [] ++ peaks_below N m) (sibs c t)
            ≡ pick b (peak_at N m ∷ []) [] ++ needed_below false N c t m
        go true = ap (insert (peak_at N m)) ih ∙ insert-front m (above (suc m) N) (needed_below false N c t m) (needed_below_lem N c t m)
        go false = ih

merged : (N c t : ℕ) → Inside N c t → t ≤ suc (levels N)
    → sort (peaks N ++ sibs c t) ≡ needed_below false N c t (suc (levels N))
merged N c t w l =
    ap (λ (x : List Node). sort (x ++ sibs c t)) (peaks_bits N)
    ∙ sort-append (peaks_below N (suc (levels N))) (sibs c t)
    ∙ ap (into (peaks_below N (suc (levels N)))) (sort-sibs c t)
    ∙ upper N c t (suc (levels N)) (lower N c t t w (omega arith)) l

-- the siblings alone
alone_lower : (N c t h : ℕ) → h ≤ t → sibs c h ≡ needed_below true N c t h
unfolding needed_below siblings
alone_lower N c t zero l = refl
alone_lower N c t (suc h) l =
    rw (lt-ltb h t (omega arith)) (ap (λ (ns : List Node). sibling_at c h ∷ ns) (alone_lower N c t h (omega arith)))

alone_upper : (N c t h : ℕ) → t ≤ h → sibs c t ≡ needed_below true N c t h
unfolding needed_below
alone_upper N c t h l =
    le_ind (λ (m : ℕ). sibs c t ≡ needed_below true N c t m) (alone_lower N c t t (omega arith))
    (λ m k ih. rw (le-ltb m t k) ih) h l

-- What is needed for a chunk, sorted: height by height.
pub needed_is : (trusted : Bool) (N c t : ℕ) → Inside N c t → t ≤ suc (levels N)
    → sort (pick trusted [] (peaks N) ++ siblings c t) ≡ needed_below trusted N c t (suc (levels N))
needed_is true N c t w l = sort-sibs c t ∙ alone_upper N c t (suc (levels N)) l
needed_is false N c t w l = merged N c t w l

-- ---- what goes out with a chunk

-- the siblings that go out are those below the height of the chunk's peak
record Siblings (N c : ℕ) : Type 0 where
  below : (h : ℕ) → leb (above (suc h) c + 2 ^ suc h) N ≡ ltb h (peak_height N c)
  inside : Inside N c (peak_height N c)
  high : peak_height N c ≤ suc (levels N)

siblings-inside : (N c : ℕ) → c < N → Siblings N c
siblings-inside N c l =
    let p = peak_height N c in
    let k = peak_of N c l in
    let w : above p c + 2 ^ p ≤ N = k.whole in
    record {
      below = λ h. at h p w k.highest (split p h);
      inside = inside-below N c p w;
      high = omega (arith, high_bound N p (omega arith));
    }
  where
    at : (h p : ℕ) → above p c + 2 ^ p ≤ N → N < above (suc p) c + 2 ^ suc p → (p ≤ h) ⊎ (h < p)
        → leb (above (suc h) c + 2 ^ suc h) N ≡ ltb h p
    at h p w b (inl u) =
        lt-leb (above (suc h) c + 2 ^ suc h) N (beyond (split (above (suc h) c + 2 ^ suc h) N)) ∙ sym (le-ltb h p u)
      where
        beyond : (above (suc h) c + 2 ^ suc h ≤ N) ⊎ (N < above (suc h) c + 2 ^ suc h) → N < above (suc h) c + 2 ^ suc h
        beyond (inl v) = absurd (omega (arith, whole_below N c (suc p) (suc h) (omega arith) v))
        beyond (inr v) = v
    at h p w b (inr u) =
        le-leb (above (suc h) c + 2 ^ suc h) N (whole_below N c (suc h) p (omega arith) w) ∙ sym (lt-ltb h p u)

siblings_outside : (N c : ℕ) → N ≤ c → Siblings N c
siblings_outside N c l =
    let z = peak-past N c l in
    record {
      below = λ h. rw z (lt-leb (above (suc h) c + 2 ^ suc h) N (omega (arith, above_in (suc h) c)) ∙ sym (le-ltb h 0 (omega arith)));
      inside = λ h u. absurd (omega arith);
      high = omega arith;
    }

siblings-sent : (N c : ℕ) → Siblings N c
siblings-sent N c = go (split N c)
  where
    go : (N ≤ c) ⊎ (c < N) → Siblings N c
    go (inl l) = siblings_outside N c l
    go (inr l) = siblings-inside N c l

sent_needed : (N c h : ℕ) → sent_below N c h ≡ needed_below false N c (peak_height N c) h
unfolding sent_below needed_below
sent_needed N c zero = refl
sent_needed N c (suc h) =
    ap₂ (λ (b : Bool) (ns : List Node). pick b (sibling_at c h ∷ []) [] ++ (peak_turn N h ++ ns))
    ((siblings-sent N c).below h) (sent_needed N c h)

pub sent_is : (N c : ℕ) → sent N c ≡ sent_below N c (suc (levels N))
unfolding sent
sent_is N c =
    let g = siblings-sent N c in
    merged N c (peak_height N c) g.inside g.high ∙ sym (sent_needed N c (suc (levels N)))

-- ---- sorted, and each node once

-- each node comes before all behind it, so none is there twice
abbrev pub Sorted : List Node → Type 0
Sorted [] = Unit {0}
Sorted (n ∷ ns) = Each (Precedes n) ns × Sorted ns

below_later : (n : Node) (ns : List Node) → Below n.high ns → Each (Precedes n) ns
below_later n = each_map (λ m. m.high < n.high) (Precedes n) (λ m l. inl l)

sorted_below : (N c t h : ℕ) → Inside N c t → Sorted (needed_below false N c t h)
unfolding needed_below
sorted_below N c t zero w = tt
sorted_below N c t (suc h) w = go (ltb h t) refl (peak_bit N h) (sorted_below N c t h w)
  where
    rest : List Node
    rest = needed_below false N c t h

    low : (n : Node) → n.high ≡ h → Each (Precedes n) rest
    low n e = below_later n rest (rw e (needed_below_lem N c t h))

    go : (b : Bool) → ltb h t ≡ b → (p : Bool) → Sorted rest
        → Sorted (pick b (sibling_at c h ∷ []) [] ++ (pick p (peak_at N h ∷ []) [] ++ rest))
    go true e true S =
        let u = sibling-left N c h (w h (ltb-true h t e)) in
        ((inr (refl, u), low (sibling_at c h) refl), (low (peak_at N h) refl, S))
    go true e false S = (low (sibling_at c h) refl, S)
    go false e true S = (low (peak_at N h) refl, S)
    go false e false S = S

pub sent_sorted : (N c : ℕ) → Sorted (sent N c)
sent_sorted N c =
    rw (sent_is N c, sent_needed N c (suc (levels N)))
    (sorted_below N c (peak_height N c) (suc (levels N)) (siblings-sent N c).inside)

-- What goes out with a chunk of a pack: how much there is, and how it is put height by height. Assumes nothing.
use Prim.Native.Nat.{ℕ, suc, ◌+◌, ◌-◌, ◌*◌, ◌^◌, ◌<◌, ◌≤◌}
use native.Mathlib.Omega.{arith}
use native.Mathlib.Numerals.{add-one}
use mathlib.Core.Path.{◌≡◌, refl, sym, ap, ◌∙◌}
use mathlib.Core.Bool.{Bool, true, false}
use mathlib.Core.List.{List, [], ◌∷◌, ◌++◌, map, map-append, append_assoc, append-nil}
use lib.Dec.{leb}
use lib.ListN.{length, get_or, length-append, length-map}
use Rattle.std.specs.Prelude.{Option, IfSome}
use Rattle.std.specs.Option.{option_to_list}
use Rattle.std.specs.Bool.{then_some}
use Rattle.base.specs.Pick.{pick}
use Rattle.format.specs.declared.Format.{Format}
use Rattle.tree.proofs.Promise as tree
use Rattle.tree.proofs.Promise.{chunk_size, max_length, chunks, levels, Node, num, above, sent, sent_below, sent_heights, sent-none, sent-at, peak_bit, peak_at, sibling_at, peak_turn, sibling_turn}
use Rattle.wire.proofs.Promise.{everything_bin}
use Rattle.writer.specs.declared.place.Writer.{Writer}
use Rattle.writer.proofs.Promise.{Item, encode}
use Rattle.replies.specs.Replies.{hash_item}
use Rattle.replies.specs.Steps.{node_items, Puts}
use Rattle.replies.proofs.DatagramLaws.{puts_none, puts_join}
use Rattle.replies.proofs.HashLaws.{most_integrity, items-long}

-- At most 20 nodes go out with a chunk: a pack has at most 2 ^ 9 chunks.
sent_few : (N c : ℕ) → N ≤ chunks chunk_size max_length → length (sent N c) ≤ 20
sent_few N c h = tree.sent_few 9 N c (omega arith)

-- The number of every node that goes out with a chunk is below that of everything.
pub sent-under : (N c : ℕ) → N ≤ chunks chunk_size max_length → (i : ℕ) → get_or (map num (sent N c)) i 0 < everything_bin
sent-under N c h i = omega (arith, tree.sent-under N c i)

module _ (F : Format) (hashes : List ℕ) where
  -- Nodes take no more than the most of an INTEGRITY message each.
  nodes-long : (ns : List Node) → length (encode F (node_items hashes ns)) ≤ most_integrity * length ns
  nodes-long ns = omega (arith, items-long F hashes (map num ns), length-map ns num)

  -- What goes out with a chunk takes no more than 20 times as many.
  pub sent-long : (N c : ℕ) → N ≤ chunks chunk_size max_length → length (encode F (node_items hashes (sent N c))) ≤ most_integrity * 20
  sent-long N c h = omega (arith, nodes-long (sent N c), sent_few N c h)

  -- ---- height by height

  one-long : (t : Bool) (n : Node) → length (encode F (node_items hashes (pick t (n ∷ []) []))) ≤ most_integrity
  one-long true n = omega (arith, nodes-long (n ∷ []))
  one-long false n = omega arith

  -- A sibling takes no more than one.
  pub sibling-long : (N c h : ℕ) → length (encode F (node_items hashes (sibling_turn N c h))) ≤ most_integrity
  sibling-long N c h = one-long (leb (above (suc h) c + 2 ^ suc h) N) (sibling_at c h)

  nodes-append : (ms ns : List Node) → node_items hashes (ms ++ ns) ≡ node_items hashes ms ++ node_items hashes ns
  nodes-append ms ns = ap (map (hash_item hashes)) (map-append num ms ns) ∙ map-append (hash_item hashes) (map num ms) (map num ns)

-- The heights from h on are put: `done` is there, and the lower heights add the rest of what goes out.
pub record DoneFrom (hashes : List ℕ) (N c : ℕ) (w v : Writer) (h : ℕ) : Type 0 where
  pub done : List Node
  pub whole : done ++ sent_below N c h ≡ sent N c
  pub puts : Puts w (node_items hashes done) v

module _ (hashes : List ℕ) (N c : ℕ) {w : Writer} where
  pub done_none : {t : ℕ} → t ≡ levels N → DoneFrom hashes N c w w (t + 1)
  done_none {t} e = record {
    done = [];
    whole = ap (sent_below N c) (add-one t ∙ ap suc e) ∙ sym (sent_heights N c);
    puts = puts_none w;
  }

  module _ {v : Writer} (h : ℕ) (d : DoneFrom hashes N c w v h) where
    -- At most 20 messages stand so far.
    pub done-few : N ≤ chunks chunk_size max_length → v.at ≤ w.at + most_integrity * 20
    done-few l =
        omega (arith, d.puts.at, nodes-long w.format hashes d.done, ap length d.whole, length-append d.done (sent_below N c h), sent_few N c l)

    pub done_more : 0 < h → {g : ℕ} → g ≡ h - 1 → {u x : Writer} → Puts v (node_items hashes (sibling_turn N c g)) u
        → Puts u (node_items hashes (peak_turn N g)) x → DoneFrom hashes N c w x g
    done_more l {g} q s p =
        let S = sibling_turn N c g in
        let P = peak_turn N g in
        let e : node_items hashes d.done ++ (node_items hashes S ++ node_items hashes P) ≡ node_items hashes (d.done ++ (S ++ P)) =
        ap (λ (is : List Item). node_items hashes d.done ++ is) (sym (nodes-append w.format hashes S P)) ∙ sym (nodes-append w.format hashes d.done (S ++ P)) in
        let b : sent_below N c h ≡ S ++ (P ++ sent_below N c g) = rw q (sent-at N c h l) in
        record {
          done = d.done ++ (S ++ P);
          whole =
              append_assoc d.done (S ++ P) (sent_below N c g)
              ∙ ap (λ (ns : List Node). d.done ++ ns) (append_assoc S P (sent_below N c g) ∙ sym b)
              ∙ d.whole;
          puts = rw e at (puts_join (node_items hashes d.done) (node_items hashes S ++ node_items hashes P) d.puts (puts_join (node_items hashes S) (node_items hashes P) s p));
        }

    pub done_all : h ≡ 0 → Puts w (node_items hashes (sent N c)) v
    done_all z =
        let e : d.done ≡ sent N c = rw (z, sent-none N c, append-nil) at d.whole in
        rw e at d.puts

-- ---- one node, or none

module _ (hashes : List ℕ) {w v : Writer} where
  turn-put : (n : Node) (t : Bool) → Puts w (map (hash_item hashes) (option_to_list (then_some t (num n)))) v → Puts w (node_items hashes (pick t (n ∷ []) [])) v
  turn-put n true s = s
  turn-put n false s = s

  -- The sibling of height h.
  pub sibling-put : (N c h : ℕ) {o : Option ℕ} → o ≡ then_some (leb (above (suc h) c + 2 ^ suc h) N) (num (sibling_at c h))
      → Puts w (map (hash_item hashes) (option_to_list o)) v → Puts w (node_items hashes (sibling_turn N c h)) v
  sibling-put N c h e s = turn-put (sibling_at c h) _ (rw e at s)

  -- The peak of height h.
  pub peak-put : (N h : ℕ) {o : Option ℕ} → o ≡ then_some (peak_bit N h) (num (peak_at N h))
      → Puts w (map (hash_item hashes) (option_to_list o)) v → Puts w (node_items hashes (peak_turn N h)) v
  peak-put N h e s = turn-put (peak_at N h) _ (rw e at s)

-- Their numbers are small.
turn-small : (b : ℕ) (t : Bool) → (t ≡ true → b < 2 ^ 31) → IfSome (then_some t b) (λ (x : ℕ). x < 2 ^ 31)
turn-small b true f = f refl
turn-small b false f = tt

module _ (N : ℕ) (l : N ≤ chunks chunk_size max_length) where
  pub sibling-small : (c h : ℕ) {o : Option ℕ} → o ≡ then_some (leb (above (suc h) c + 2 ^ suc h) N) (num (sibling_at c h)) → IfSome o (λ (x : ℕ). x < 2 ^ 31)
  sibling-small c h e = rw e (turn-small (num (sibling_at c h)) _ (λ t. omega (arith, tree.sibling-inside N c h t)))

  pub peak-small : (h : ℕ) {o : Option ℕ} → o ≡ then_some (peak_bit N h) (num (peak_at N h)) → IfSome o (λ (x : ℕ). x < 2 ^ 31)
  peak-small h e = rw e (turn-small (num (peak_at N h)) _ (λ t. omega (arith, tree.peak-inside N h t)))

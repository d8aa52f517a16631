-- The node that a call names: taking in a datagram names one with 9 and 10 and with no other number, and no other call
-- names any. Assumes nothing.
use Rattle.std.proofs.Common.{◌≡◌, ℕ, zero, suc, ◌<◌, false, ◌≢◌, List, [], ◌∷◌, sym, refl, ◌∙◌, arith, ne_eqb}
use Rattle.base.specs.Among.{among, OneOf}
use Rattle.base.specs.Out.{no_node}
use Rattle.base.specs.Out.{Named}
use Rattle.std.specs.Prelude.{Some, None}
use Rattle.base.proofs.AmongLaws.{all_among, one_of_more, not_one}
use Rattle.base.proofs.OutLaws.{unless-nameless}
use Rattle.format.specs.Format.{format_of}
use Rattle.wire.proofs.Promise.{number_of, layout-one}
use Rattle.wire.proofs.Promise.{Layout, Fault, HandshakeAlone, Messages, MessagesAndData}
use Rattle.wire.specs.declared.message.Message.{Message}
use Rattle.writer.proofs.Promise.{within, add_nameless}
use Rattle.store.proofs.Promise.{Integrity, integrity_of, taken-named, named_small, take_spec as store_take}
use Rattle.order.specs.declared.Order.{Order}
use Rattle.channel.specs.World.{World, Out, out_of, is_named, unless_at, unless, order_format, order_root, order_length}
use Rattle.channel.specs.Adding.{adding_spec}
use Rattle.channel.specs.Answers.{own_rooms_answer}
use Rattle.channel.specs.Opening.{open_number, open_spec}
use Rattle.channel.specs.Starting.{start_number, start_spec, build_number, build_spec}
use Rattle.channel.specs.Take.{handshake_taken, messages_number, messages_taken, store_out, data_by, data_taken, by_layout, take_spec, layout_in}
use Rattle.channel.specs.Write.{write_number, write_spec}
use Rattle.channel.specs.Named.{Names}
use Rattle.channel.proofs.NumberLaws.{own_one, handshake-one, messages-number-one, messages-one}

-- ---- other calls

pub start_nameless : (w : World) (o : Order) → (start_spec w o).node ≡ None
unfolding start_spec
start_nameless w o = unless-nameless (start_number w o) w _ refl

pub build_nameless : (w : World) (o : Order) (s : List ℕ) → (build_spec w o s).node ≡ None
unfolding build_spec
build_nameless w o s = unless-nameless (build_number w o s) w _ refl

pub adding_nameless : (method : ℕ) (room : List ℕ) (len : ℕ) (m : Message) (source : List ℕ) → (adding_spec method room len m source).node ≡ None
unfolding adding_spec
adding_nameless method room len m source = unless-nameless _ _ _ (add_nameless (format_of method) room len m source)

pub open_nameless : (w : World) (id : ℕ) → (open_spec w id).node ≡ None
unfolding open_spec
open_nameless w id = unless-nameless (open_number w id) w _ refl

pub write_nameless : (w : World) (id c clock : ℕ) → (write_spec w id c clock).node ≡ None
unfolding write_spec
write_nameless w id c clock = unless-nameless (write_number w id c) w _ refl

-- ---- the numbers that name no node

abbrev others : List ℕ
others = 0 ∷ 1 ∷ 2 ∷ 3 ∷ 4 ∷ 5 ∷ 6 ∷ 7 ∷ 11 ∷ 12 ∷ 14 ∷ []

neither : (n : ℕ) → OneOf others n → false ≡ among (9 ∷ 10 ∷ []) n
unfolding among
neither n h = rw (ne_eqb n 9 (not_one others n 9 refl h), ne_eqb n 10 (not_one others n 10 refl h))

own_other : (w : World) → OneOf others (own_rooms_answer w)
unfolding all_among among
own_other w = one_of_more (0 ∷ 11 ∷ 12 ∷ []) others (own_rooms_answer w) refl (own_one w)

number-other : (st s : List ℕ) → OneOf others (messages_number st s)
unfolding all_among among
number-other st s = one_of_more (0 ∷ 3 ∷ 5 ∷ 7 ∷ []) others (messages_number st s) refl (messages-number-one st s)

-- ---- taking in a datagram: what holds of each outcome that names no node, and of DATA's

module _ (w : World) (clock id : ℕ) (s : List ℕ) where
  abbrev st : List ℕ
  st = w.channels.state

  -- DATA's, once 12, 11, 5, 3 and 7 are ruled out.
  abbrev by-data : (c x b n : ℕ) → Out World
  by-data c x b n = data_by w clock s c x (store_out w s (layout_in st s).entries c b n)

  module _ (P : Out World → Type 0) (other : (out : Out World) → OneOf others out.answer → out.node ≡ None → P out)
      (stored : (c x b n k : ℕ) → (layout_in st s).layout ≡ MessagesAndData c x b n k → P (by-data c x b n)) where
    unless-by : (n : ℕ) → OneOf others n → (out : Out World) → P out → P (unless n w out)
    unless-by zero h out p = p
    unless-by (suc n) h out p = other (out_of (suc n) 0 w) h refl

    laid_by : (l : Layout) → (layout_in st s).layout ≡ l → OneOf (0 ∷ 1 ∷ 2 ∷ 3 ∷ []) (number_of l) → P (by_layout w clock id s l)
    unfolding by_layout data_taken all_among among
    laid_by (Fault n) e h = other (out_of n 0 w) (one_of_more (0 ∷ 1 ∷ 2 ∷ 3 ∷ []) others n refl h) refl
    laid_by (HandshakeAlone a o) e h =
        other (by_layout w clock id s (HandshakeAlone a o))
        (one_of_more (0 ∷ 3 ∷ 4 ∷ 5 ∷ 6 ∷ 14 ∷ []) others (handshake_taken w.channels id s a o).answer refl (handshake-one w.channels id s a o)) refl
    laid_by (Messages k) e h =
        other (by_layout w clock id s (Messages k))
        (one_of_more (0 ∷ 3 ∷ 5 ∷ 7 ∷ []) others (messages_taken w.channels s).answer refl (messages-one w.channels s)) refl
    laid_by (MessagesAndData c x b n k) e h =
        unless-by (messages_number st s) (number-other st s) (by-data c x b n) (stored c x b n k e)

    take_by : P (take_spec w clock id s)
    unfolding take_spec
    take_by =
        unless-by (own_rooms_answer w) (own_other w) (by_layout w clock id s (layout_in st s).layout)
        (laid_by (layout_in st s).layout refl (layout-one (order_format st) s))

  -- ---- 9 and 10 name a node, no other number does

  at_named : {W : Type 0} (n : ℕ) (x : Named) (len : ℕ) (old new : W) → is_named x ≡ among (9 ∷ 10 ∷ []) n
      → is_named (unless_at n x old (out_of 0 len new)).node ≡ among (9 ∷ 10 ∷ []) (unless_at n x old (out_of 0 len new)).answer
  unfolding among
  at_named zero x len old new e = refl
  at_named (suc n) x len old new e = e

  pub take-named : is_named (take_spec w clock id s).node ≡ among (9 ∷ 10 ∷ []) (take_spec w clock id s).answer
  unfolding data_by
  take-named =
      take_by (λ out. is_named out.node ≡ among (9 ∷ 10 ∷ []) out.answer)
      (λ out h e. rw e (neither out.answer h))
      (λ c x b n k e. at_named (store_out w s (layout_in st s).entries c b n).answer (store_out w s (layout_in st s).entries c b n).node _ w _
      (taken-named w.rooms _ _ c _ _))

  -- ---- its number is not the one that stands for none

  node_of : {W : Type 0} (n : ℕ) (x : Named) (len : ℕ) (old new : W) {b : ℕ} → (unless_at n x old (out_of 0 len new)).node ≡ Some b → x ≡ Some b
  node_of zero x len old new e = absurd (let z : ◌≡◌ {A = ℕ} 0 1 = cc in omega arith)
  node_of (suc n) x len old new e = e

  pub take-small : (b : ℕ) → (take_spec w clock id s).node ≡ Some b → b < no_node
  unfolding data_by
  take-small =
      take_by (λ out. (b : ℕ) → out.node ≡ Some b → b < no_node)
      (λ out h e b q. absurd (none b (sym e ∙ q)))
      (λ c x b n k e a q. named_small w.rooms _ _ c _ _ a
      (node_of (store_out w s (layout_in st s).entries c b n).answer (store_out w s (layout_in st s).entries c b n).node _ w _ q))
    where
      none : (b : ℕ) → None ≡ Some b → ⊥
      none b q = let z : ◌≡◌ {A = ℕ} 0 1 = cc in omega arith

  -- ---- what a number says that no other part gives

  answer-of : {W : Type 0} (n : ℕ) (x : Named) (len : ℕ) (old new : W) (k : ℕ) → k ≢ 0 → (unless_at n x old (out_of 0 len new)).answer ≡ k
      → (n ≡ k) × ((unless_at n x old (out_of 0 len new)).node ≡ x)
  answer-of zero x len old new k d e = absurd (d (sym e))
  answer-of (suc n) x len old new k d e = (e, refl)

  pub take-names : (k : ℕ) → among others k ≡ false → (P : (c : ℕ) (d : List ℕ) (o : Integrity) (b : ℕ) → Type 0)
      → ((c : ℕ) (d : List ℕ) (o : Integrity) → (store_take w.rooms (order_root st) (order_length st) c d o).answer ≡ k
      → (b : ℕ) × ((store_take w.rooms (order_root st) (order_length st) c d o).node ≡ Some b) × P c d o b)
      → (take_spec w clock id s).answer ≡ k → Names st s (take_spec w clock id s).node P
  unfolding data_by among
  take-names k other P stored =
      take_by (λ out. out.answer ≡ k → Names st s out.node P)
      (λ out h e q. absurd (not_one others out.answer k other h q))
      (λ c x b n j e q.
      let out = store_out w s (layout_in st s).entries c b n in
      let a = answer-of out.answer out.node _ w _ k (λ z. not_one others 0 k other refl (sym z)) q in
      let y = stored c (within s b n) (integrity_of (layout_in st s).entries s) a.0 in
      record {
        chunk = c;
        timestamp = x;
        start = b;
        size = n;
        count = j;
        brings = e;
        node = y.0;
        node_named = a.1 ∙ y.1;
        holds = y.2;
      })

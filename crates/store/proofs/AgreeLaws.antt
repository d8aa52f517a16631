-- The rooms after a chunk was stored hold what the theory says, at every node and chunk of the pack, so a sound store stays sound. Assumes nothing.
use mathlib.Core.Path.{◌≡◌, refl, sym, ap, ap₂, ◌∙◌}
use mathlib.Core.Logic.{◌⊎◌, inl, inr, ◌≢◌}
use mathlib.Core.Bool.{Bool, true, false}
use mathlib.Core.List.{List}
use Prim.Native.Nat.{ℕ, suc, ◌+◌, ◌*◌, ◌^◌, ◌≤◌, ◌<◌}
use native.Mathlib.Omega.{arith}
use native.Mathlib.Decide.{ℕ_discrete}
use borrow.Author.Tests.{eq-eqb, ne_eqb}
use lib.Dec.{eqb}
use lib.ListN.{length, take, drop}
use Rattle.hash.proofs.Promise.{sha256}
use Rattle.bits.proofs.Promise.{bit_at, set_bit, length-set_bit, bit_at-set-same, bit_at-set-other}
use Rattle.base.specs.Pick.{pick}
use Rattle.tree.specs.Bin.{bin}
use Rattle.tree.specs.Node.{sibling_from, above}
use Rattle.tree.specs.Pack.{chunk_size, chunks, size, levels}
use Rattle.tree.specs.Peaks.{peaks}
use Rattle.tree.specs.Tree.{climb}
use Rattle.tree.specs.State.{State, is_peak}
use Rattle.tree.proofs.Sound.{on_path, adopted, hung, Sound, counted, after_by, after}
use Rattle.tree.specs.Verdicts.{every, peaks_trusted, verdict}
use Rattle.tree.specs.Verdicts.{Verdict}
use Rattle.std.specs.Prelude.{Ok}
use Rattle.verdict.specs.Room.{filler, Digest, hash_in, put_hash}
use Rattle.verdict.specs.Integrity.{Integrity, came_from}
use Rattle.verdict.specs.Rooms.{Rooms, state_of}
use Rattle.store.proofs.Running.{SoundRooms}
use Rattle.verdict.specs.Steps.{trusted_in, got_by, room_verdict}
use Rattle.store.specs.Storing.{Put, mark, put_all, copied, stored, store_spec}
use Rattle.store.specs.Steps.{put_peaks}
use Rattle.verdict.proofs.ClimbLaws.{digest-climb}
use Rattle.verdict.proofs.RoomLaws.{digest_hash, length-put_hash, hash-same, hash-other}
use Rattle.verdict.proofs.IntegrityLaws.{digest_got}
use Rattle.verdict.proofs.VerdictLaws.{verdict_sees, fits-within}
use Rattle.store.proofs.CopyLaws.{copied-in, copied-out}
use Rattle.store.proofs.PutLaws.{all-is}
use Rattle.store.proofs.StoringLaws.{own_inside, peak-within}
use Rattle.store.proofs.WrittenLaws.{path-shows, room-peaks, peaks-show}
use Rattle.tree.proofs.NodeLaws.{split, beside-inside}
use Rattle.tree.proofs.PackLaws.{levels-holds}
use Rattle.tree.proofs.SoundLaws.{sound-agree}
use Rattle.tree.proofs.TakeLaws.{after-sound}

-- the rooms are large enough for chunk c of N, and it has its length
pub record Fitting (L : ℕ) (w : Rooms) (N c : ℕ) (d : List ℕ) : Type 0 where
  pub pack_is : N ≡ chunks chunk_size L
  pub chunk_within : c < N
  pub hashes_in : 8 * 2 ^ suc (levels N) ≤ length w.hashes
  pub trusted_within : 2 ^ suc (levels N) ≤ length w.trusted * 32
  pub map_in : N ≤ length w.map * 32
  pub bytes_in : chunk_size * c + length d ≤ length w.bytes
  pub chunk_is : length d ≡ size chunk_size L c

-- two states agree on the pack of N chunks
pub record Agrees (N : ℕ) (s t : State) : Type 0 where
  pub nodes : (h a : ℕ) → above h a ≡ a → a + 2 ^ h ≤ N → (s.hash h a ≡ t.hash h a) × (s.trust h a ≡ t.trust h a)
  pub chunks_are : (x : ℕ) → x < N → (s.in_map x ≡ t.in_map x) × (s.chunk x ≡ t.chunk x)

pick_same : (b : Bool) → pick b true true ≡ true
pick_same true = refl
pick_same false = refl

-- ---- one room, for any way of putting: the peaks if they weren't trusted, then the path

module _ (A : Type 0) (put : Put) (look : List ℕ → ℕ → A) (shows : List ℕ → A) (Room : List ℕ → Type 0) (M : ℕ)
    (at_same : (l : List ℕ) (b : ℕ) (v : List ℕ) → Room l → b < M → Digest v → look (put l b v) b ≡ shows v)
    (at_other : (l : List ℕ) (b b' : ℕ) (v : List ℕ) → b' ≢ b → look (put l b v) b' ≡ look l b')
    (keeps : (l : List ℕ) (b : ℕ) (v : List ℕ) → Room l → Room (put l b v))
    (N c t : ℕ) (d : List ℕ) (o : Integrity) (own-digest : (h : ℕ) → Digest (climb sha256 (got_by o) (sha256 d) c h))
    (M-is : M ≡ 2 ^ suc (levels N)) (chunk_within : c < N) (height-in : t ≤ levels N) where
  all-show : (b : Bool) (l : List ℕ) → Room l → (h a : ℕ) → above h a ≡ a
      → look (put_all put b N c t d (got_by o) l) (bin h a)
      ≡ pick (on_path c t h a) (pick (eqb a (above h c)) (shows (climb sha256 (got_by o) (sha256 d) c h)) (shows (got_by o h a)))
      (pick b (look l (bin h a)) (pick (is_peak N h a) (shows (got_by o h a)) (look l (bin h a))))
  all-show b l R h a e =
      ap (λ (x : List ℕ). look x (bin h a)) (all-is put b N c t d (got_by o) l)
      ∙ path-shows A put look shows Room M at_same at_other keeps (λ k. climb sha256 (got_by o) (sha256 d) c k) (got_by o) c own-digest (λ k x. digest_got o (bin k x)) t
      (pick b l (put_peaks put (got_by o) N (suc (levels N)) l)) (room b) inside h a e
      ∙ ap (pick (on_path c t h a) (pick (eqb a (above h c)) (shows (climb sha256 (got_by o) (sha256 d) c h)) (shows (got_by o h a)))) (opening b)
    where
      room : (x : Bool) → Room (pick x l (put_peaks put (got_by o) N (suc (levels N)) l))
      room true = R
      room false = room-peaks A put look shows Room M at_same at_other keeps (got_by o) N (λ k x. digest_got o (bin k x)) (suc (levels N)) l R

      inside : (k : ℕ) → k < t → (bin k (above k c) < M) × (bin k (sibling_from k c) < M)
      inside k u =
          let i = levels-holds N in (
            omega (arith, M-is, own_inside (levels N) k c (omega arith) (omega arith)),
            omega (arith, M-is, beside-inside (levels N) k c (omega arith) (omega arith)),
          )

      opening : (x : Bool) → look (pick x l (put_peaks put (got_by o) N (suc (levels N)) l)) (bin h a)
          ≡ pick x (look l (bin h a)) (pick (is_peak N h a) (shows (got_by o h a)) (look l (bin h a)))
      opening true = refl
      opening false =
          peaks-show A put look shows Room M at_same at_other keeps (got_by o) N (λ k x. digest_got o (bin k x)) l R
          (λ k q. omega (arith, M-is, peak-within (levels N) k N (levels-holds N) q)) h a e

-- ---- the four rooms

module _ (L : ℕ) (w : Rooms) (N c t : ℕ) (d : List ℕ) (o : Integrity) (R : Fitting L w N c d) (height-in : t ≤ levels N) where
  own-digest : (h : ℕ) → Digest (climb sha256 (got_by o) (sha256 d) c h)
  own-digest = digest-climb (got_by o) (sha256 d) c (digest_hash d)

  abbrev trusts : Bool
  trusts = every (trusted_in w.trusted) (peaks N)

  abbrev hangs : State
  hangs = hung sha256 c t d (got_by o) (pick trusts (state_of L w) (adopted N (got_by o) (state_of L w)))

  hash-agrees : (h a : ℕ) → above h a ≡ a → (state_of L (stored w N c t d o)).hash h a ≡ hangs.hash h a
  unfolding stored peaks_trusted
  hash-agrees h a e =
      all-show (List ℕ) put_hash hash_in (λ v. v) (λ l. 8 * 2 ^ suc (levels N) ≤ length l) (2 ^ suc (levels N))
      (λ l b v k u g. hash-same l b v (omega arith) g) hash-other (λ l b v k. rw (length-put_hash l b v) k)
      N c t d o own-digest refl R.chunk_within height-in trusts w.hashes R.hashes_in h a e
      ∙ ap (pick (on_path c t h a) (pick (eqb a (above h c)) (climb sha256 (got_by o) (sha256 d) c h) (got_by o h a))) (go trusts)
    where
      go : (x : Bool) → pick x (hash_in w.hashes (bin h a)) (pick (is_peak N h a) (got_by o h a) (hash_in w.hashes (bin h a)))
          ≡ (pick x (state_of L w) (adopted N (got_by o) (state_of L w))).hash h a
      go true = refl
      go false = refl

  trust-agrees : (h a : ℕ) → above h a ≡ a → (state_of L (stored w N c t d o)).trust h a ≡ hangs.trust h a
  unfolding stored peaks_trusted
  trust-agrees h a e =
      all-show Bool mark bit_at (λ v. true) (λ l. 2 ^ suc (levels N) ≤ length l * 32) (2 ^ suc (levels N))
      (λ l b v k u g. bit_at-set-same l b (omega arith)) (λ l b x v n. bit_at-set-other l b x n) (λ l b v k. rw (length-set_bit l b) k)
      N c t d o own-digest refl R.chunk_within height-in trusts w.trusted R.trusted_within h a e
      ∙ ap₂ (pick (on_path c t h a)) (pick_same (eqb a (above h c))) (go trusts)
    where
      go : (x : Bool) → pick x (bit_at w.trusted (bin h a)) (pick (is_peak N h a) true (bit_at w.trusted (bin h a)))
          ≡ (pick x (state_of L w) (adopted N (got_by o) (state_of L w))).trust h a
      go true = refl
      go false = refl

  has-agrees : (x : ℕ) → (state_of L (stored w N c t d o)).in_map x ≡ hangs.in_map x
  unfolding stored
  has-agrees x = cases (ℕ_discrete x c) ∙ ap (pick (eqb x c) true) (go trusts)
    where
      cases : Dec (x ≡ c) → bit_at (set_bit w.map c) x ≡ pick (eqb x c) true (bit_at w.map x)
      cases (yes q) = rw (eq-eqb x c q) (ap (bit_at (set_bit w.map c)) q ∙ bit_at-set-same w.map c (let i = R.chunk_within in let j = R.map_in in omega arith))
      cases (no q) = rw (ne_eqb x c q) (bit_at-set-other w.map c x q)

      go : (b : Bool) → bit_at w.map x ≡ (pick b (state_of L w) (adopted N (got_by o) (state_of L w))).in_map x
      go true = refl
      go false = refl

  chunk-agrees : (x : ℕ) → (state_of L (stored w N c t d o)).chunk x ≡ hangs.chunk x
  unfolding stored
  chunk-agrees x = cases (ℕ_discrete x c) ∙ ap (pick (eqb x c) d) (go trusts)
    where
      short : size chunk_size L x ≤ chunk_size
      short = omega arith

      own_short : size chunk_size L c ≤ chunk_size
      own_short = omega arith

      apart : (x ≤ c) ⊎ (c < x) → x ≢ c → (chunk_size * x + size chunk_size L x ≤ chunk_size * c) ⊎ (chunk_size * c + length d ≤ chunk_size * x)
      apart (inl l) n = inl (omega (arith, short))
      apart (inr l) n = inr (omega (arith, R.chunk_is, own_short))

      cases : Dec (x ≡ c) → take (size chunk_size L x) (drop (chunk_size * x) (copied w.bytes (chunk_size * c) d)) ≡ pick (eqb x c) d (take (size chunk_size L x) (drop (chunk_size * x) w.bytes))
      cases (yes q) =
          rw (eq-eqb x c q, q, ← R.chunk_is) (copied-in w.bytes d (chunk_size * c) R.bytes_in)
      cases (no q) =
          rw (ne_eqb x c q) (copied-out w.bytes d (chunk_size * c) R.bytes_in (chunk_size * x) (size chunk_size L x) (apart (split x c) q))

      go : (b : Bool) → take (size chunk_size L x) (drop (chunk_size * x) w.bytes) ≡ (pick b (state_of L w) (adopted N (got_by o) (state_of L w))).chunk x
      go true = refl
      go false = refl

  pub stored-agrees : Agrees N hangs (state_of L (stored w N c t d o))
  stored-agrees = record {
    nodes = λ h a e i. (sym (hash-agrees h a e), sym (trust-agrees h a e));
    chunks_are = λ x i. (sym (has-agrees x), sym (chunk-agrees x));
  }

-- ---- the theory's store after taking the chunk

pub agrees_self : (N : ℕ) (s : State) → Agrees N s s
agrees_self N s = record { nodes = λ h a e i. (refl, refl); chunks_are = λ x i. (refl, refl) }

module _ (L : ℕ) (w : Rooms) (N c : ℕ) (d r : List ℕ) (o : Integrity) (R : Fitting L w N c d) where
  seen_here : (x : Verdict) → room_verdict N r w.hashes w.trusted c d o ≡ x → verdict sha256 filler N r (state_of L w) c d (came_from o) ≡ x
  seen_here x e = sym (verdict_sees N r w.hashes w.trusted c d o L w.bytes w.map) ∙ e

  -- where the chunk fits the rooms hold what the theory says
  taken-agrees : (t : ℕ) → room_verdict N r w.hashes w.trusted c d o ≡ Ok t
      → Agrees N (after_by sha256 filler N r (state_of L w) c d (came_from o) (Ok t)) (state_of L (store_spec w N c t d o))
  unfolding store_spec counted peaks_trusted
  taken-agrees t e = go (bit_at w.map c)
    where
      go : (x : Bool)
          → Agrees N
          (pick x (state_of L w) (hung sha256 c t d (got_by o) (pick (every (trusted_in w.trusted) (peaks N)) (state_of L w) (adopted N (got_by o) (state_of L w)))))
          (state_of L (pick x w (stored w N c t d o)))
      go true = agrees_self N (state_of L w)
      go false = stored-agrees L w N c t d o R (fits-within N r w.hashes w.trusted c d o t R.chunk_within e)

  -- so a sound store stays sound
  pub taken-sound : (t : ℕ) → room_verdict N r w.hashes w.trusted c d o ≡ Ok t → SoundRooms L r w → SoundRooms L r (store_spec w N c t d o)
  unfolding SoundRooms after
  taken-sound t e S =
      let v = Ok t in
      let T : Sound sha256 filler N r (state_of L w) = rw R.pack_is S in
      let G = taken-agrees t e in
      let A = after-sound sha256 filler N r (state_of L w) T c R.chunk_within d (came_from o) in
      let B : Sound sha256 filler N r (after_by sha256 filler N r (state_of L w) c d (came_from o) v) = rw (seen_here v e) at A in
      let U = sound-agree sha256 filler N r (after_by sha256 filler N r (state_of L w) c d (came_from o) v) (state_of L (store_spec w N c t d o)) G.nodes G.chunks_are B in
      rw (← R.pack_is) U

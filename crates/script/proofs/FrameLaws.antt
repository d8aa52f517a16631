-- Laws of frames. Assumes nothing.
use Prim.Native.Nat.{ℕ, ◌+◌, ◌/◌, ◌%◌, ◌<◌, ◌≤◌}
use native.Mathlib.Omega.{arith}
use mathlib.Core.Path.{◌≡◌, refl, sym, ap, ◌∙◌}
use mathlib.Core.List.{List, [], ◌∷◌}
use mathlib.Core.Bool.{Bool, true, false, true≢false}
use Rattle.std.specs.Prelude.{Option, Some, None}
use lib.ListN.{length, take, drop}
use lib.Seq.{sets, sets-eq, length-sets, take-append_seam}
use lib.Dec.{ltb, leb, eqb}
use borrow.Author.Tests.{le-leb, lt-leb, ltb-false, eqb-true}
use Rattle.base.specs.Pick.{pick}
use Rattle.base.proofs.PickLaws.{both_true}
use Rattle.script.specs.Hex.{digit_of, all_digits, decoded}
use Rattle.script.specs.Frames.{has_length, is_frame}
use Rattle.script.specs.Steps.{Framed, framed, paired, frame_spec}

-- ---- what reading gives

module _ (least most : ℕ) (line room : List ℕ) where
  pub other_length : has_length least most (length line) ≡ false → framed None room ≡ frame_spec least most line room
  unfolding frame_spec
  other_length e = rw e

  module _ (good : has_length least most (length line) ≡ true) where
    pub no_room : length room < length line / 2 → framed None room ≡ frame_spec least most line room
    unfolding frame_spec
    no_room h = rw (good, lt-leb (length line / 2) (length room) h)

    -- In a room that suffices, by its characters.
    module _ (h : length line / 2 ≤ length room) {left : List ℕ} (e : left ≡ sets room 0 (paired line)) where
      pub a-frame : all_digits line ≡ true → framed (Some (length line / 2)) left ≡ frame_spec least most line room
      unfolding frame_spec
      a-frame f = rw (good, le-leb (length line / 2) (length room) h, f, e)

      pub other-character : all_digits line ≡ false → framed None left ≡ frame_spec least most line room
      unfolding frame_spec
      other-character f = rw (good, le-leb (length line / 2) (length room) h, f, e)

-- ---- what a frame that was read means

pub length-decoded : (s : List ℕ) → length (decoded s) ≡ length s / 2
unfolding decoded
length-decoded [] = refl
length-decoded (c ∷ []) = refl
length-decoded (c ∷ d ∷ s) = rw (length-decoded s) (omega arith)

-- The front of a room with elements stored there.
front : (vs l : List ℕ) → length vs ≤ length l → take (length vs) (sets l 0 vs) ≡ vs
front vs l h = rw (sets-eq vs l 0 (omega arith)) (take-append_seam vs (drop (0 + length vs) l))

abbrev is_bytes : Option ℕ → Bool
is_bytes (Some n) = true
is_bytes None = false

abbrev size_of : Option ℕ → ℕ
size_of (Some n) = n
size_of None = 0

-- A line of a good length has at least the digits asked for, not more than the most, and an even number.
pub length_bounds : (least most n : ℕ) → has_length least most n ≡ true → (least ≤ n) × (n ≤ most) × (n % 2 ≡ 0)
unfolding has_length
length_bounds least most n = go (ltb n least) (ltb most n) refl refl
  where
    go : (x y : Bool) → ltb n least ≡ x → ltb most n ≡ y → pick x false (pick y false (eqb (n % 2) 0)) ≡ true
        → (least ≤ n) × (n ≤ most) × (n % 2 ≡ 0)
    go true y e f h = absurd (true≢false (sym h))
    go false true e f h = absurd (true≢false (sym h))
    go false false e f h = (ltb-false n least e, ltb-false most n f, eqb-true (n % 2) 0 h)

-- A frame has such a length, and digits alone.
frame_parts : (least most : ℕ) (line : List ℕ) → is_frame least most line ≡ true
    → (has_length least most (length line) ≡ true) × (all_digits line ≡ true)
unfolding is_frame
frame_parts least most line e = both_true (has_length least most (length line)) (all_digits line) e

-- A line that is too long is none.
pub long_no_frame : (least most : ℕ) (line : List ℕ) → most < length line → is_frame least most line ≡ false
long_no_frame least most line h = go (is_frame least most line) refl
  where
    go : (b : Bool) → is_frame least most line ≡ b → b ≡ false
    go true e =
        let k = length_bounds least most (length line) (frame_parts least most line e).0 in
        absurd (omega arith)
    go false e = refl

-- Of digits, what is left in a room is their bytes.
paired-decoded : (s : List ℕ) → all_digits s ≡ true → paired s ≡ decoded s
unfolding all_digits paired decoded
paired-decoded [] e = refl
paired-decoded (c ∷ []) e = refl
paired-decoded (c ∷ d ∷ s) e =
    let p = both_true (ltb (digit_of c) 16) (all_digits (d ∷ s)) e in
    let q = both_true (ltb (digit_of d) 16) (all_digits s) p.1 in
    rw (p.0, q.0, paired-decoded s q.1)

-- Of a line that is no frame, reading gives none.
bad_read : (least most : ℕ) (line room : List ℕ) → is_frame least most line ≡ false
    → (frame_spec least most line room).frame ≡ None
unfolding is_frame frame_spec
bad_read least most line room =
    go (has_length least most (length line)) (leb (length line / 2) (length room)) (all_digits line)
  where
    go : (good fit all : Bool) → pick good all false ≡ false
        → (pick good
        (pick fit (framed (pick all (Some (length line / 2)) None) (sets room 0 (paired line))) (framed None room))
        (framed None room)).frame ≡ None
    go false fit all e = refl
    go true false all e = refl
    go true true false e = refl
    go true true true e = absurd (true≢false e)

module _ (least most : ℕ) (line room : List ℕ) (wide : most / 2 ≤ length room) where
  -- A frame is read, and its bytes stand at the front.
  frame-read : is_frame least most line ≡ true
      → framed (Some (length line / 2)) (sets room 0 (decoded line)) ≡ frame_spec least most line room
  frame-read f =
      let p = frame_parts least most line f in
      let h = length_bounds least most (length line) p.0 in
      let left = ap (λ (x : List ℕ). sets room 0 x) (sym (paired-decoded line p.1)) in
      a-frame least most line room p.0 (omega arith) left p.1

  -- In a room for the longest line, bytes are those of a frame, and at the front of the room.
  pub bytes-mean : {left : List ℕ} {len : ℕ} → framed (Some len) left ≡ frame_spec least most line room
      → (is_frame least most line ≡ true) × (least / 2 ≤ len) × (len ≤ length left) × (take len left ≡ decoded line)
  bytes-mean {left} {len} e = go (is_frame least most line) refl
    where
      read_back : is_frame least most line ≡ true → len ≡ length line / 2 → left ≡ sets room 0 (decoded line)
          → least ≤ length line → length line ≤ most
          → (is_frame least most line ≡ true) × (least / 2 ≤ len) × (len ≤ length left) × (take len left ≡ decoded line)
      read_back f e g h k = (
        f,
        omega arith,
        rw g (simp length-sets (omega arith)),
        rw (e, g, ← length-decoded line) (front (decoded line) room (omega (arith, length-decoded line))),
      )

      go : (b : Bool) → is_frame least most line ≡ b
          → (is_frame least most line ≡ true) × (least / 2 ≤ len) × (len ≤ length left) × (take len left ≡ decoded line)
      go true f =
          let h = length_bounds least most (length line) (frame_parts least most line f).0 in
          let q = e ∙ sym (frame-read f) in
          read_back f (ap (λ (x : Framed). size_of x.frame) q) (ap (λ (x : Framed). x.room) q) h.0 h.1
      go false f =
          let g = bad_read least most line room f in
          absurd (true≢false (ap (λ (x : Framed). is_bytes x.frame) e ∙ ap is_bytes g))

  -- None means that it is no frame.
  pub bad-means : {left : List ℕ} → framed None left ≡ frame_spec least most line room → is_frame least most line ≡ false
  bad-means e = go (is_frame least most line) refl
    where
      go : (b : Bool) → is_frame least most line ≡ b → is_frame least most line ≡ false
      go true f = absurd (true≢false (sym (ap (λ (x : Framed). is_bytes x.frame) (e ∙ sym (frame-read f)))))
      go false f = f

-- Laws of specs/Write.antt: one for each way out of the functions that write, and how writes follow one another.
use mathlib.Core.Path.{◌≡◌, refl, sym, ◌∙◌}
use Prim.Native.Nat.{ℕ, ◌+◌, ◌-◌, ◌≤◌, ◌<◌}
use mathlib.Core.List.{List, [], ◌++◌, append_assoc, append-nil}
use native.Mathlib.Nat.{add_assoc, zero-add, add-zero, le_antisymm}
use native.Mathlib.Numerals.{add-one}
use native.Mathlib.Omega.{arith}
use borrow.Author.Tests.{le-leb, lt-leb}
use lib.ListN.{length, take, drop, get_or, set, length-set, take-append-drop, length-append, length-drop}
use lib.Seq.{take_at, drop-append-add, drop-drop, length-take-le, paste, paste-zero, paste-suc, take-length}
use Rattle.molecule.specs.Write.{splice, put_at, put_end, Put}

-- ---- the loop that copies: the first i bytes of src stand in out

pub record Copying (out₀ : List ℕ) (at : ℕ) (src out : List ℕ) (i : ℕ) : Type 0 where
  pub within : i ≤ length src
  pub room : at + length src ≤ length out
  pub long : length out ≡ length out₀
  pub copied : out ≡ paste out₀ at src i

pub copy_none : (out : List ℕ) (at : ℕ) (src : List ℕ) → at + length src ≤ length out → Copying out at src out 0
copy_none out at src h = record { within = omega arith; room = h; long = refl; copied = paste-zero out at src }

module _ {out₀ : List ℕ} {at : ℕ} {src out : List ℕ} {i : ℕ} (c : Copying out₀ at src out i) where
  pub copy_more : i < length src → Copying out₀ at src (set out (at + i) (get_or src i 0)) (i + 1)
  copy_more h = record {
    within = omega arith;
    room = simp length-set c.room;
    long = simp length-set c.long;
    copied = rw (c.copied, add-one) (paste-suc out₀ at src i 0 (omega arith) (omega arith));
  }

  pub copy_end : length src ≤ i → out ≡ splice out₀ at src
  unfolding splice
  copy_end h = c.copied ∙ rw (le_antisymm c.within h, take-length)

-- ---- the ways out of `put`

module _ (out : List ℕ) (at : ℕ) (xs : List ℕ) where
  pub put_yes : at + length xs ≤ length out → put_at out at xs ≡ splice out at xs
  unfolding put_at
  put_yes h = rw (le-leb (at + length xs) (length out) h)

  pub end_yes : at + length xs ≤ length out → put_end out at xs ≡ at + length xs
  unfolding put_end
  end_yes h = rw (le-leb (at + length xs) (length out) h)

  put_no : length out < at + length xs → out ≡ put_at out at xs
  unfolding put_at
  put_no h = rw (lt-leb (at + length xs) (length out) h)

  end_no : length out < at + length xs → at ≡ put_end out at xs
  unfolding put_end
  end_no h = rw (lt-leb (at + length xs) (length out) h)

  pub put_far : length out < at → out ≡ put_at out at xs
  put_far h = put_no (omega arith)

  pub end_far : length out < at → at ≡ put_end out at xs
  end_far h = end_no (omega arith)

  pub put_short : at ≤ length out → length out - at < length xs → out ≡ put_at out at xs
  put_short h k = put_no (omega arith)

  pub end_short : at ≤ length out → length out - at < length xs → at ≡ put_end out at xs
  end_short h k = end_no (omega arith)

  pub put_is : {after : List ℕ} → at ≤ length out → length xs ≤ length out - at → after ≡ splice out at xs → after ≡ put_at out at xs
  put_is h k e = e ∙ sym (put_yes (omega arith))

  pub end_is : at ≤ length out → length xs ≤ length out - at → at + length xs ≡ put_end out at xs
  end_is h k = sym (end_yes (omega arith))

-- ---- a run of writes: each starts where the one before it ended, and together they write one list

-- what a call of `put` did, where there was room
pub did : (xs : List ℕ) {out : List ℕ} {at : ℕ} {after : List ℕ} {next : ℕ} → after ≡ put_at out at xs → next ≡ put_end out at xs → at + length xs ≤ length out → Put out at xs after next
did xs {out} {at} e f h = record { bytes = e ∙ put_yes out at xs h; end = f ∙ end_yes out at xs h; room = h }

-- what is before the end of the write has the length it should
head_length : (out : List ℕ) (at : ℕ) (xs : List ℕ) → at ≤ length out → length (take at out ++ xs) ≡ at + length xs
head_length out at xs h = rw (length-append, length-take-le at out h)

pub splice-length : (out : List ℕ) (at : ℕ) (xs : List ℕ) → at + length xs ≤ length out → length (splice out at xs) ≡ length out
unfolding splice
splice-length out at xs h =
    let k : at ≤ length out = omega arith in
    rw (length-append, head_length out at xs k, length-drop) (omega arith)

drop-behind : (p d : List ℕ) (m n : ℕ) → length p ≡ m → drop (m + n) (p ++ d) ≡ drop n d
drop-behind p d m n e = rw (sym e, drop-append-add)

splice-then : (out : List ℕ) (at : ℕ) (xs ys : List ℕ) → at + length xs + length ys ≤ length out → splice (splice out at xs) (at + length xs) ys ≡ splice out at (xs ++ ys)
unfolding splice
splice-then out at xs ys h =
    let k : at ≤ length out = omega arith in
    let e : length (take at out ++ xs) ≡ at + length xs = head_length out at xs k in
    rw (take_at (take at out ++ xs) (drop (at + length xs) out) (at + length xs) e, drop-behind (take at out ++ xs) (drop (at + length xs) out) (at + length xs) (length ys) e, drop-drop, append_assoc (take at out) xs ys, length-append xs ys, add_assoc)

pub splice_zero : (out xs : List ℕ) → splice out 0 xs ≡ xs ++ drop (length xs) out
unfolding splice
splice_zero out xs = rw zero-add

-- the same bytes, said otherwise
pub as_bytes : {out after : List ℕ} {at next : ℕ} {xs ys : List ℕ} → xs ≡ ys → Put out at xs after next → Put out at ys after next
as_bytes e p = rw e at p

-- a write leaves the buffer's length
pub length-kept : {out after : List ℕ} {at next : ℕ} {xs : List ℕ} → Put out at xs after next → length after ≡ length out
length-kept {out} {after} {at} {next} {xs} p = rw p.bytes (splice-length out at xs p.room)

-- no write
pub none : (out : List ℕ) (at : ℕ) → at ≤ length out → Put out at [] out at
unfolding splice
none out at h = record {
  bytes = sym (rw (append-nil, add-zero) (take-append-drop at out));
  end = sym (add-zero at);
  room = rw add-zero h;
}

-- one write after another
pub then : {out o₁ o₂ : List ℕ} {at n₁ n₂ : ℕ} {xs ys : List ℕ} → Put out at xs o₁ n₁ → Put o₁ n₁ ys o₂ n₂ → Put out at (xs ++ ys) o₂ n₂
then {out} {o₁} {o₂} {at} {n₁} {n₂} {xs} {ys} p q =
    let l : length o₁ ≡ length out = rw p.bytes (splice-length out at xs p.room) in
    let h : at + length xs + length ys ≤ length out = omega arith in
    record {
      bytes = q.bytes ∙ rw (p.bytes, p.end) (splice-then out at xs ys h);
      end = q.end ∙ rw (p.end, length-append, add_assoc);
      room = rw length-append (omega arith);
    }

-- a call of `put` after others, where there is room for all
pub and_put : (ys : List ℕ) {out o₁ o₂ : List ℕ} {at n₁ n₂ : ℕ} {xs : List ℕ} → Put out at xs o₁ n₁ → o₂ ≡ put_at o₁ n₁ ys → n₂ ≡ put_end o₁ n₁ ys
    → at + length xs + length ys ≤ length out → Put out at (xs ++ ys) o₂ n₂
and_put ys {out} {o₁} {o₂} {at} {n₁} {n₂} {xs} p e f h =
    let l : length o₁ ≡ length out = rw p.bytes (splice-length out at xs p.room) in
    let k : n₁ + length ys ≤ length o₁ = omega arith in
    then p (did ys e f k)

-- The loops that size and write items: after i turns the first i of m are done, where item i is f (i + b).
use mathlib.Core.Path.{◌≡◌, ap, ◌∙◌}
use Prim.Native.Nat.{ℕ, ◌+◌, ◌*◌, ◌^◌, ◌≤◌, ◌<◌, min}
use mathlib.Core.List.{List, ◌++◌, flatten}
use native.Mathlib.Omega.{arith}
use lib.ListN.{length, length-append}
use mir.Syntax.{w64}
use mir.Val.{Fits}
use Rattle.arithmetic.specs.LittleEndian.{to_le}
use Rattle.arithmetic.proofs.LittleEndianLaws.{length-to_le}
use Rattle.molecule.specs.Layout.{span}
use Rattle.molecule.specs.Write.{put_at, put_end, Put}
use Rattle.molecule.proofs.WriteLaws.{did, then, and_put, length-kept}
use Rattle.list_writer.specs.Around.{offset_words}
use Rattle.list_writer.proofs.SpanLaws.{body, body_more, body_next, body_in, places-more}

-- ---- how many bytes

pub record Sizing (f : ℕ → List ℕ) (b m i n : ℕ) : Type 0 where
  pub within : i ≤ m
  pub size : n ≡ min (length (body f b i)) 133117

pub size-more : {f : ℕ → List ℕ} {b m i n k x : ℕ} → Sizing f b m i n → i < m → x ≡ length (f (i + b)) → k ≡ min (n + x) 133117 → Sizing f b m (i + 1) k
size-more {f} {b} {m} {i} g h e q = record { within = omega arith; size = omega (arith, body_next f b i) }

pub size-end : {f : ℕ → List ℕ} {b m i n : ℕ} → Sizing f b m i n → m ≤ i → n ≡ min (length (flatten (span f b m))) 133117
unfolding body
size-end {m = m} {i = i} g h = let e : i ≡ m = omega arith in rw e at g.size

-- ---- the items

pub record Writing (f : ℕ → List ℕ) (b : ℕ) (out : List ℕ) (at m i : ℕ) (after : List ℕ) (next : ℕ) : Type 0 where
  pub within : i ≤ m
  pub put : Put out at (body f b i) after next
  pub long : length after ≡ length out
  pub room : at + length (body f b m) ≤ length out

module _ {f : ℕ → List ℕ} {b : ℕ} {out o₁ : List ℕ} {at m i n₁ : ℕ} (g : Writing f b out at m i o₁ n₁) (h : i < m) where
  pub write-room : n₁ + length (f (i + b)) ≤ length o₁
  write-room = let p = g.put in omega (arith, body_in f b i m h, p.end, g.long, g.room)

  pub write_then : {o₂ : List ℕ} {n₂ : ℕ} → Put o₁ n₁ (f (i + b)) o₂ n₂ → Writing f b out at m (i + 1) o₂ n₂
  write_then p = record {
    within = omega arith;
    put = rw (body_more f b i) (then g.put p);
    long = length-kept p ∙ g.long;
    room = g.room;
  }

  pub write-more : {o₂ : List ℕ} {n₂ : ℕ} → o₂ ≡ put_at o₁ n₁ (f (i + b)) → n₂ ≡ put_end o₁ n₁ (f (i + b)) → Writing f b out at m (i + 1) o₂ n₂
  write-more e k = write_then (did (f (i + b)) e k write-room)

-- ---- where each begins, the first at o

pub record Placing (f : ℕ → List ℕ) (b o : ℕ) (out : List ℕ) (at m i : ℕ) (after : List ℕ) (next place : ℕ) : Type 0 where
  pub within : i ≤ m
  pub put : Put out at (offset_words o (span f b i)) after next
  pub long : length after ≡ length out
  pub begins : place ≡ o + length (body f b i)
  pub fits : o + length (body f b m) < 2 ^ 32
  pub low : place < 2 ^ 32
  pub end : next ≡ at + 4 * i
  pub room : at + 4 * m ≤ length out

module _ {f : ℕ → List ℕ} {b o : ℕ} {out o₁ : List ℕ} {at m i n₁ place x : ℕ} (g : Placing f b o out at m i o₁ n₁ place) (h : i < m) (e : x ≡ length (f (i + b))) where
  -- the sum that the turn makes is small
  place-low : place + x < 2 ^ 32
  place-low = omega (arith, body_in f b i m h)

  pub place-fits : Fits w64 (place + x)
  place-fits = record { fits = omega (arith, place-low) }

  pub place-more : {o₂ : List ℕ} {n₂ : ℕ} → o₂ ≡ put_at o₁ n₁ (to_le 4 place) → n₂ ≡ put_end o₁ n₁ (to_le 4 place) → Placing f b o out at m (i + 1) o₂ n₂ (place + x)
  place-more {o₂} {n₂} d k =
      let l = length-to_le 4 place in
      let q = g.put in
      let p : Put out at (offset_words o (span f b i) ++ to_le 4 place) o₂ n₂ = and_put (to_le 4 place) q d k (omega (arith, q.end)) in
      let z = p.end ∙ ap (λ (n : ℕ). at + n) (length-append (offset_words o (span f b i)) (to_le 4 place)) in
      record {
        within = omega arith;
        put = rw (places-more o f b i, ← g.begins) p;
        long = length-kept p;
        begins = omega (arith, body_next f b i);
        fits = g.fits;
        low = place-low;
        end = omega (arith, q.end);
        room = g.room;
      }

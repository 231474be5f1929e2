-- The loops over the later items of a list, whose items start at 1: one law for each need that the general ones do not close as they are.
use mathlib.Core.Path.{◌≡◌, refl, ap}
use Prim.Native.Nat.{ℕ, ◌+◌, ◌<◌, min}
use mathlib.Core.List.{List, flatten}
use lib.ListN.{length}
use mir.Syntax.{w64}
use mir.Val.{Fits}
use Rattle.arithmetic.specs.LittleEndian.{to_le}
use Rattle.molecule.specs.Write.{put_at, put_end}
use Rattle.list_writer.specs.ListWriter.{item_or, items_after_first}
use Rattle.molecule.specs.Layout.{span}
use Rattle.list_writer.specs.Around.{offset_words}
use Rattle.list_writer.proofs.SpanLaws.{body}
use Rattle.list_writer.proofs.LoopLaws.{Sizing, size-more, Writing, write-more, Placing, place-fits, place-more}

module _ (s : List ℕ) (k : ℕ) where
  pub later_body : flatten (items_after_first s k) ≡ body (item_or s) 1 k
  unfolding items_after_first body
  later_body = refl

  pub later_places : (o : ℕ) → offset_words o (items_after_first s k) ≡ offset_words o (span (item_or s) 1 k)
  unfolding items_after_first
  later_places o = refl

  -- a turn, at the item x
  module _ {x : List ℕ} {i : ℕ} (h : i < k) (e : x ≡ item_or s (i + 1)) where
    pub later-sized : {n m : ℕ} → Sizing (item_or s) 1 k i n → m ≡ min (n + length x) 133117 → Sizing (item_or s) 1 k (i + 1) m
    later-sized g f = size-more g h (ap length e) f

    pub later-put : {out o₁ o₂ : List ℕ} {at n₁ n₂ : ℕ} → Writing (item_or s) 1 out at k i o₁ n₁ → o₂ ≡ put_at o₁ n₁ x → n₂ ≡ put_end o₁ n₁ x
        → Writing (item_or s) 1 out at k (i + 1) o₂ n₂
    later-put g d f = write-more g h (rw e at d) (rw e at f)

    module _ {o : ℕ} {out o₁ : List ℕ} {at n₁ place : ℕ} (g : Placing (item_or s) 1 o out at k i o₁ n₁ place) where
      pub later-fits : Fits w64 (place + length x)
      later-fits = place-fits g h (ap length e)

      pub later-placed : {o₂ : List ℕ} {n₂ : ℕ} → o₂ ≡ put_at o₁ n₁ (to_le 4 place) → n₂ ≡ put_end o₁ n₁ (to_le 4 place)
          → Placing (item_or s) 1 o out at k (i + 1) o₂ n₂ (place + length x)
      later-placed d f = place-more g h (ap length e) d f

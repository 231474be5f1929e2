-- The whole list: what its writer answers, from the sizes of its parts.
use mathlib.Core.Path.{◌≡◌, refl, sym, ap, ◌∙◌}
use Prim.Native.Nat.{ℕ, ◌+◌, min}
use mathlib.Core.Bool.{Bool, true, false, not}
use mathlib.Core.List.{List, flatten}
use lib.ListN.{length}
use Rattle.molecule.specs.Write.{put_at, put_end, Put}
use Rattle.list_writer.specs.declared.{Lengths.Lengths, Parts.Parts}
use Rattle.list_writer.specs.ListWriter.{joined, items_after_first, put_list, put_list_end}
use Rattle.list_writer.specs.Around.{head_size, fits_at, Room}
use Rattle.list_writer.specs.Parts.{list_len, head_in, list_bytes, size_of, lengths_of}
use Rattle.list_writer.proofs.HeadLaws.{around-length, put_around}
use Rattle.list_writer.proofs.AnswerLaws.{capped_list, fit-room, list_out, list_out-end, list_in_lem, list_in_end}

module _ (p : Parts) (out : List ℕ) (at : ℕ) {l : Lengths} {n : ℕ} {r : Bool} (el : l ≡ lengths_of p) (en : n ≡ min (list_len l) 133117) (e : r ≡ fits_at n at (length out)) where
  capped : n ≡ min (size_of p) 133117
  capped = capped_list (length (joined p.first.now)) p.items.list.now p.items.count (length (joined p.last.now)) n refl refl (rw el at en)

  -- there is room
  pub whole_room : not r ≡ false → Room out at (size_of p)
  whole_room = fit-room at (length out) capped e

  size : n ≡ min (length (list_bytes p)) 133117
  size = capped ∙ ap (λ (m : ℕ). min m 133117) (sym (around-length (joined p.first.now) p.items.list.now p.items.count (joined p.last.now)))

  pub whole_out : not r ≡ true → out ≡ put_list out at (list_bytes p)
  whole_out = list_out out at (list_bytes p) size e

  pub whole-out-end : not r ≡ true → at ≡ put_list_end out at (list_bytes p)
  whole-out-end = list_out-end out at (list_bytes p) size e

  pub whole_in : {after : List ℕ} {next : ℕ} → not r ≡ false → Put out at (list_bytes p) after next → after ≡ put_list out at (list_bytes p)
  whole_in h q = list_in_lem out at (list_bytes p) size e h q

  pub whole_in_end : {after : List ℕ} {next : ℕ} → not r ≡ false → Put out at (list_bytes p) after next → next ≡ put_list_end out at (list_bytes p)
  whole_in_end h q = list_in_end out at (list_bytes p) size e h q

-- where there is room: the header, then the parts
pub put_parts : (p : Parts) {l : Lengths} {out o₁ o₂ o₃ o₄ : List ℕ} {at n₁ n₂ n₃ n₄ : ℕ} → Room out at (size_of p) → l ≡ lengths_of p
    → Put out at (head_in l) o₁ n₁ → n₁ ≡ at + head_size l.items.count l.last → o₂ ≡ put_at o₁ n₁ (joined p.first.now) → n₂ ≡ put_end o₁ n₁ (joined p.first.now)
    → Put o₂ n₂ (flatten (items_after_first p.items.list.now p.items.count)) o₃ n₃ → o₄ ≡ put_at o₃ n₃ (joined p.last.now) → n₄ ≡ put_end o₃ n₃ (joined p.last.now)
    → Put out at (list_bytes p) o₄ n₄
put_parts p h el q v d₁ e₁ r d₂ e₂ =
    put_around (joined p.first.now) p.items.list.now p.items.count (joined p.last.now) h refl refl (rw el at q) (rw el at v) d₁ e₁ r d₂ e₂

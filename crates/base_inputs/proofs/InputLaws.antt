-- The inputs of a base transaction, sized and written.
use Rattle.std.proofs.Common.{◌≡◌, ℕ, zero, suc, ◌+◌, ◌-◌, ◌*◌, ◌/◌, ◌%◌, ◌^◌, ◌<◌, ◌≤◌, min, Bool, false, not, List, ◌++◌, length, take, drop, sym, refl, ap, ◌∙◌, ap₂, append_assoc, arith, length-append, add-zero, drop-drop, take-add, w32, Fits, lt-ltb}
use mathlib.Core.List.{flatten}
use Rattle.arithmetic.specs.LittleEndian.{to_le}
use Rattle.arithmetic.proofs.LittleEndianLaws.{length-to_le, wrapped}
use Rattle.molecule.specs.Layout.{part, span, item_of, word, fix_count, fix_item, fix_items}
use Rattle.molecule.specs.Write.{put_at, put_end, Put}
use Rattle.molecule.proofs.Offsets.{span-length}
use Rattle.molecule.proofs.LayoutLaws.{fix_count_said}
use Rattle.molecule.proofs.WriteLaws.{did, then, and_put, as_bytes, length-kept}
use Rattle.transaction.specs.Tx.{first_of}
use Rattle.list_writer.specs.Around.{fits_at, Room}
use Rattle.list_writer.proofs.SpanLaws.{flatten_append, body, body_next}
use Rattle.list_writer.proofs.LoopLaws.{Sizing, size-more, Writing, write-room, write_then}
use Rattle.list_writer.proofs.AnswerLaws.{fit-room}
use Rattle.molecule.specs.Items.{fix_list}
use Rattle.base_inputs.specs.BaseInputs.{picked_input, picked, input_list, inputs_size}

-- ---- the present ones: items without gaps are one run, of any bytes

item_run : (s : List ℕ) (i : ℕ) → i < word s 0 → fix_item s 44 i ≡ take 44 (drop (4 + 44 * i) s)
unfolding fix_item part
item_run s i h = let w : 4 + 44 * i + 44 - (4 + 44 * i) ≡ 44 = omega arith in rw (lt-ltb i (word s 0) h, w)

items_run : (s : List ℕ) (n i : ℕ) → i + n ≤ word s 0 → flatten (span (fix_item s 44) i n) ≡ take (44 * n) (drop (4 + 44 * i) s)
unfolding span flatten
items_run s zero i h = refl
items_run s (suc n) i h =
    let e : 44 * suc n ≡ 44 + 44 * n = omega arith in
    let d : 4 + 44 * suc i ≡ 4 + 44 * i + 44 = omega arith in
    ap₂ ◌++◌ (item_run s i (omega arith)) (items_run s n (suc i) (omega arith) ∙ ap (λ (j : ℕ). take (44 * n) (drop j s)) d)
    ∙ sym (ap (λ (j : ℕ). take j (drop (4 + 44 * i) s)) e ∙ take-add 44 (44 * n) (drop (4 + 44 * i) s)
    ∙ ap (λ (l : List ℕ). take 44 (drop (4 + 44 * i) s) ++ take (44 * n) l) (drop-drop 44 (4 + 44 * i) s))

pub run_is : (s : List ℕ) {n : ℕ} {r : List ℕ} → n ≡ fix_count s → r ≡ part s 4 (4 + 44 * n) → r ≡ flatten (fix_items 44 s)
unfolding part
run_is s {n} e h =
    let z : 4 + 44 * n - 4 ≡ 44 * n = omega arith in
    h ∙ ap (λ (j : ℕ). take j (drop 4 s)) z ∙ rw e (sym (items_run s (fix_count s) 0 (omega (arith, fix_count_said s))))

-- ---- the picked ones

module _ (cells : List ℕ) (i : ℕ) {point : List ℕ} (ep : point ≡ first_of (item_of cells i)) where
  picked-is : picked cells i ≡ to_le 8 0 ++ point
  unfolding picked picked_input
  picked-is = rw ep

  picked-length : length (picked cells i) ≡ 8 + length point
  picked-length = ap length picked-is ∙ simp (length-append, length-to_le)

  pub picked_more : {k n a b : ℕ} → Sizing (picked cells) 0 k i n → i < k → a ≡ min (n + 8) 133117 → b ≡ min (a + length point) 133117
      → Sizing (picked cells) 0 k (i + 1) b
  picked_more {n = n} {b = b} g h ea eb =
      let q : b ≡ min (n + length (picked cells i)) 133117 = omega (arith, picked-length) in
      size-more g h (ap (λ j. length (picked cells j)) (sym (add-zero i))) q

  pub picked_put : {out o₁ o₂ : List ℕ} {at n₁ n₂ : ℕ} → at + length (picked cells i) ≤ length out → o₁ ≡ put_at out at (to_le 8 0) → n₁ ≡ put_end out at (to_le 8 0)
      → o₂ ≡ put_at o₁ n₁ point → n₂ ≡ put_end o₁ n₁ point → Put out at (picked cells i) o₂ n₂
  picked_put h e₁ f₁ e₂ f₂ =
      let l = length-to_le 8 0 in
      let p = did (to_le 8 0) e₁ f₁ (omega (arith, picked-length)) in
      as_bytes (sym picked-is) (and_put point p e₂ f₂ (omega (arith, picked-length)))

module _ (cells : List ℕ) (k : ℕ) where
  module _ {out o₁ : List ℕ} {at i n₁ : ℕ} (g : Writing (picked cells) 0 out at k i o₁ n₁) where
    pub turn_room : i < k → n₁ + length (picked cells i) ≤ length o₁
    turn_room h = rw add-zero at (write-room g h)

    pub turn_more : {o₂ : List ℕ} {n₂ : ℕ} → i < k → Put o₁ n₁ (picked cells i) o₂ n₂ → Writing (picked cells) 0 out at k (i + 1) o₂ n₂
    turn_more h p = write_then g h (rw add-zero p)

-- each has 8 bytes or more
eight : (cells : List ℕ) (i : ℕ) → 8 ≤ length (picked cells i)
eight cells i = omega (arith, picked-length cells i refl)

eights : (cells : List ℕ) (n : ℕ) → 8 * n ≤ length (body (picked cells) 0 n)
eights cells zero = omega arith
eights cells (suc n) =
    let e : n + 1 ≡ suc n = omega arith in
    rw e at (let r : 8 * (n + 1) ≤ length (body (picked cells) 0 (n + 1)) = omega (arith, body_next (picked cells) 0 n, eights cells n, eight cells (n + 0)) in r)

picked_eights : (cells : List ℕ) (n : ℕ) → 8 * n ≤ length (flatten (span (picked cells) 0 n))
unfolding body
picked_eights cells n = eights cells n

-- ---- the whole

module _ (present cells : List ℕ) (k : ℕ) where
  inputs-bytes : to_le 4 (fix_count present + k) ++ flatten (fix_items 44 present) ++ flatten (span (picked cells) 0 k) ≡ fix_list (input_list present cells k)
  unfolding fix_list input_list
  inputs-bytes =
      let n : length (fix_items 44 present ++ span (picked cells) 0 k) ≡ fix_count present + k =
      length-append (fix_items 44 present) (span (picked cells) 0 k) ∙ ap₂ ◌+◌ (span-length (fix_item present 44) 0 (fix_count present)) (span-length (picked cells) 0 k) in
      rw (n, flatten_append (fix_items 44 present) (span (picked cells) 0 k)) (append_assoc (to_le 4 (fix_count present + k)) (flatten (fix_items 44 present)) (flatten (span (picked cells) 0 k)))

  inputs-length : length (fix_list (input_list present cells k)) ≡ inputs_size present cells k
  inputs-length = ap length (sym inputs-bytes) ∙ simp (length-append, length-to_le)

  pub inputs_far : 133116 / 8 < k → 133117 ≡ min (length (fix_list (input_list present cells k))) 133117
  inputs_far h = omega (arith, inputs-length, picked_eights cells k)

  pub inputs_cap : {run : List ℕ} {m n r : ℕ} → run ≡ flatten (fix_items 44 present) → m ≡ min (4 + length run) 133117
      → n ≡ min (length (flatten (span (picked cells) 0 k))) 133117 → r ≡ min (m + n) 133117 → r ≡ min (length (fix_list (input_list present cells k))) 133117
  inputs_cap e em en er = let z = ap length e in omega (arith, inputs-length)

  pub inputs-room : (out : List ℕ) (at : ℕ) {n : ℕ} {r : Bool} → n ≡ min (length (fix_list (input_list present cells k))) 133117 → r ≡ fits_at n at (length out)
      → not r ≡ false → Room out at (inputs_size present cells k)
  inputs-room out at e f h = rw inputs-length at (fit-room at (length out) e f h)

  module _ (out : List ℕ) (at : ℕ) (room : Room out at (inputs_size present cells k)) where
    pub picks-few : Fits w32 k
    picks-few = record { fits = omega (arith, room.1, picked_eights cells k) }

    -- behind the count n and the present ones
    module _ (n : ℕ) {run o₁ : List ℕ} {n₁ n₂ : ℕ} (er : run ≡ flatten (fix_items 44 present)) (e₁ : o₁ ≡ put_at out at (to_le 4 n)) (f₁ : n₁ ≡ put_end out at (to_le 4 n))
        (f₂ : n₂ ≡ put_end o₁ n₁ run) where
      front : {o₂ : List ℕ} → o₂ ≡ put_at o₁ n₁ run → Put out at (to_le 4 n ++ run) o₂ n₂
      front e₂ =
          let l = length-to_le 4 n in
          let w = room.0 in
          let r = ap length er in
          and_put run (did (to_le 4 n) e₁ f₁ (omega arith)) e₂ f₂ (omega arith)

      module _ {o₂ : List ℕ} (e₂ : o₂ ≡ put_at o₁ n₁ run) where
        pub picked-room : n₂ + length (flatten (span (picked cells) 0 k)) ≤ length o₂
        picked-room =
            let p = front e₂ in
            let z = length-append (to_le 4 n) run in
            omega (arith, room.0, ap length er, p.end, length-to_le 4 n, length-kept p)

        pub inputs_put : {c : ℕ} {o₃ : List ℕ} {n₃ : ℕ} → c ≡ fix_count present → n ≡ (c + k) % 2 ^ 32 → Put o₂ n₂ (flatten (span (picked cells) 0 k)) o₃ n₃
            → Put out at (fix_list (input_list present cells k)) o₃ n₃
        inputs_put {c} ec en q =
            let w : to_le 4 n ≡ to_le 4 (fix_count present + k) = ap (to_le 4) en ∙ wrapped (c + k) ∙ ap (λ (m : ℕ). to_le 4 (m + k)) ec in
            as_bytes (rw (w, er) inputs-bytes) (then (front e₂) q)

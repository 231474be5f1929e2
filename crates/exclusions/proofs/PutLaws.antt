-- A new entry put into the table.
use mathlib.Core.Path.{◌≡◌, refl, sym, ap, ap₂, ◌∙◌}
use Prim.Native.Nat.{ℕ, ◌+◌, ◌-◌, ◌*◌, ◌≤◌, ◌<◌}
use mathlib.Core.Bool.{false}
use mathlib.Core.List.{List, ◌∷◌, ◌++◌, map, append_assoc}
use mathlib.Core.Option.{none}
use native.Mathlib.Omega.{arith}
use Rattle.std.specs.Prelude.{Ok}
use lib.ListN.{length, take, drop, length-append, length-map, length-drop}
use lib.Seq.{take-add, take-take, drop_at, drop-drop, length-take-le}
use Rattle.arithmetic.specs.LittleEndian.{to_le, AllBytes}
use Rattle.arithmetic.proofs.LittleEndianLaws.{length-to_le}
use Rattle.molecule.specs.Layout.{part, span, fix_count, fix_item, fix_items}
use Rattle.molecule.proofs.LayoutLaws.{fix_count_said}
use Rattle.molecule.specs.Write.{splice, put_at, put_end, Put}
use Rattle.molecule.proofs.WriteLaws.{did, and_put, as_bytes, put_yes, splice-length, length-kept}
use Rattle.molecule.proofs.Offsets.{span-length}
use Rattle.lists.proofs.RunLaws.{item_run}
use Rattle.lists.proofs.SpanLaws.{span-on, span-end, span-whole}
use Rattle.transaction.specs.Tx.{previous_output_of}
use Rattle.out_points.specs.declared.{Byte32.Byte32}
use Rattle.out_points.specs.OutPoints.{out_point_at, hash_bytes, point_bytes, points_bytes, point_list}
use Rattle.std.specs.List.{filter}
use Rattle.out_points.specs.Tables.{renew}
use Rattle.out_points.proofs.PointLaws.{length-hash}
use Rattle.out_points.proofs.ListLaws.{length-bytes}
use Rattle.molecule.proofs.ItemsLaws.{bytes_drop, bytes_take}
use Rattle.out_points.proofs.AgainLaws.{point_again}
use Rattle.exclusion_entries.specs.Exclusions.{MapEntry}
use Rattle.exclusion_entries.specs.declared.{Rule.Rule, Survey.Survey}
use Rattle.exclusion_entries.specs.Entries.{state_kind, block_of, state_bytes, entry_bytes, entries_bytes, map_bytes, excluded_at}
use Rattle.exclusion_entries.specs.Inner.{keeps, takes, stay, ahead, behind, survey_of}
use Rattle.exclusion_entries.proofs.EntryLaws.{length-entry, entries-size, bytes-join}
use Rattle.exclusion_entries.proofs.MapLaws.{map-long, map-few, map-count, map-points}
use Rattle.molecule.proofs.SpliceLaws.{splice-none, splice-then, splice-under, splice-over, part-splice}
use Rattle.exclusion_entries.proofs.StayLaws.{stay-split, stay-size, renew-split, told_good, told_stays, told-points, told-place}
use Rattle.std.specs.List.{copy_within}
use Rattle.exclusions.proofs.MoveLaws.{within-splice}
use Rattle.exclusions.specs.Inner.{head_bytes, point_of_input, points_of_inputs, entry_with}

-- ---- its first 48 bytes

length_head : (h : Byte32) (n : ℕ) → length (head_bytes h n) ≡ 48
unfolding head_bytes state_bytes
length_head h n = simp (length-append, length-hash, length-to_le)

module _ (out : List ℕ) (at : ℕ) (h : Byte32) (f : List ℕ) (r : at + 48 ≤ length out) {n : ℕ} (en : n ≡ fix_count f) {o₁ o₂ o₃ : List ℕ} {n₁ n₂ n₃ n₄ : ℕ} (e₁ : o₁ ≡ put_at out at (hash_bytes h)) (f₁ : n₁ ≡ put_end out at (hash_bytes h))
    (e₂ : o₂ ≡ put_at o₁ n₁ (to_le 4 0)) (f₂ : n₂ ≡ put_end o₁ n₁ (to_le 4 0)) (e₃ : o₃ ≡ put_at o₂ n₂ (to_le 8 0)) (f₃ : n₃ ≡ put_end o₂ n₂ (to_le 8 0)) (f₄ : n₄ ≡ put_end o₃ n₃ (to_le 4 n)) where
  pub head_put : {o₄ : List ℕ} → o₄ ≡ put_at o₃ n₃ (to_le 4 n) → Put out at (head_bytes h (fix_count f)) o₄ n₄
  unfolding head_bytes state_bytes state_kind block_of
  head_put e₄ =
      let a = length-hash h in
      let b = length-to_le 4 0 in
      let c = length-to_le 8 0 in
      let d = length-to_le 4 n in
      let H = hash_bytes h in
      let p₁ = did H e₁ f₁ (omega arith) in
      let p₂ = and_put (to_le 4 0) p₁ e₂ f₂ (omega arith) in
      let p₃ = and_put (to_le 8 0) p₂ e₃ f₃ (omega (arith, length-append H (to_le 4 0))) in
      let p₄ = and_put (to_le 4 n) p₃ e₄ f₄ (omega (arith, length-append H (to_le 4 0), length-append (H ++ to_le 4 0) (to_le 8 0))) in
      as_bytes (ap (λ (x : List ℕ). x ++ to_le 4 n) (append_assoc H (to_le 4 0) (to_le 8 0)) ∙ ap (λ (k : ℕ). H ++ (to_le 4 0 ++ to_le 8 0) ++ to_le 4 k) en) p₄

  pub head_end_lem : n₄ ≡ at + 48
  head_end_lem = (head_put refl).end ∙ ap (λ (k : ℕ). at + k) (length_head h (fix_count f))

-- ---- its out points

pub record Spending (inputs : List ℕ) (n : ℕ) (out₀ : List ℕ) (at : ℕ) (out : List ℕ) (to from k : ℕ) : Type 0 where
  pub bytes : AllBytes inputs
  pub counted : n ≡ fix_count inputs
  pub sized : length inputs ≡ 4 + 44 * n
  pub within : k ≤ n
  pub there : to ≡ at + 36 * k
  pub here : from ≡ 12 + 44 * k
  pub long : length out ≡ length out₀
  pub room : at + 36 * n ≤ length out₀
  pub made : splice out to (points_bytes (map point_of_input (span (fix_item inputs 44) k (n - k)))) ≡ splice out₀ at (points_bytes (points_of_inputs inputs))

pub spend_none : (inputs : List ℕ) (out : List ℕ) (at : ℕ) {n : ℕ} → AllBytes inputs → n ≡ fix_count inputs → length inputs ≡ 4 + 44 * fix_count inputs → at + 36 * fix_count inputs ≤ length out → Spending inputs n out at out at 12 0
unfolding points_of_inputs
spend_none inputs out at {n} b e l r = record {
  bytes = b;
  counted = e;
  sized = l ∙ ap (λ (k : ℕ). 4 + 44 * k) (sym e);
  within = omega arith;
  there = omega arith;
  here = omega arith;
  long = refl;
  room = omega arith;
  made = ap (λ (x : List (List ℕ)). splice out at (points_bytes (map point_of_input x))) (sym (span-whole (fix_item inputs 44) n) ∙ ap (span (fix_item inputs 44) 0) e);
}

module _ {inputs : List ℕ} {n : ℕ} {out₀ : List ℕ} {at : ℕ} {out : List ℕ} {to from k : ℕ} (w : Spending inputs n out₀ at out to from k) where
  pub spend_room : k < n → to + 36 ≤ length out
  spend_room h = let t = w.there in let r = w.room in omega (arith, w.long)

  pub spend_here : k < n → from + 36 ≤ length inputs
  spend_here h = let t = w.here in omega (arith, w.sized)

  point-is : k < n → take 36 (drop from inputs) ≡ point_bytes (point_of_input (fix_item inputs 44 k))
  unfolding point_of_input previous_output_of part
  point-is h =
      let y = drop (4 + 44 * k) inputs in
      let i : fix_item inputs 44 k ≡ take 44 y = item_run inputs 44 k (omega (arith, w.counted, fix_count_said inputs)) in
      let l8 : length (take 8 y) ≡ 8 = length-take-le 8 y (rw (length-drop (4 + 44 * k) inputs) (omega (arith, w.sized))) in
      let d : drop 8 (take 44 y) ≡ take 36 (drop 8 y) = ap (drop 8) (take-add 8 36 y) ∙ drop_at (take 8 y) (take 36 (drop 8 y)) 8 l8 in
      let z : 4 + 44 * k + 8 ≡ from = let t = w.here in omega arith in
      let q : drop 8 y ≡ drop from inputs = drop-drop 8 (4 + 44 * k) inputs ∙ ap (λ (j : ℕ). drop j inputs) z in
      let x = take 36 (drop from inputs) in
      let e : take 36 (drop 8 (fix_item inputs 44 k)) ≡ x = ap (λ (t : List ℕ). take 36 (drop 8 t)) i ∙ ap (take 36) d ∙ take-take 36 36 (drop 8 y) (omega arith) ∙ ap (take 36) q in
      let lx : length x ≡ 36 = length-take-le 36 (drop from inputs) (rw (length-drop from inputs) (let s = spend_here h in omega arith)) in
      sym (ap (λ (t : List ℕ). point_bytes (out_point_at t 0)) e ∙ point_again x (bytes_take 36 (drop from inputs) (bytes_drop from inputs w.bytes)) lx)

  pub spend_more : {o : List ℕ} → k < n → o ≡ splice out to (take 36 (drop from inputs)) → Spending inputs n out₀ at o (to + 36) (from + 44) (k + 1)
  unfolding points_bytes
  spend_more {o} h e =
      let t = w.there in
      let f = w.here in
      let r = w.room in
      let i = fix_item inputs 44 in
      let E = take 36 (drop from inputs) in
      let R = map point_of_input (span i (k + 1) (n - (k + 1))) in
      let lE : length E ≡ 36 = length-take-le 36 (drop from inputs) (rw (length-drop from inputs) (let s = spend_here h in omega arith)) in
      let lR : length (points_bytes R) ≡ 36 * (n - (k + 1)) = length-bytes R ∙ ap (λ (j : ℕ). 36 * j) (length-map (span i (k + 1) (n - (k + 1))) point_of_input ∙ span-length i (k + 1) (n - (k + 1))) in
      let on : points_bytes (map point_of_input (span i k (n - k))) ≡ E ++ points_bytes R = ap (λ (x : List (List ℕ)). points_bytes (map point_of_input x)) (span-on i k n h) ∙ ap (λ (x : List ℕ). x ++ points_bytes R) (sym (point-is h)) in
      record {
        bytes = w.bytes;
        counted = w.counted;
        sized = w.sized;
        within = omega arith;
        there = omega arith;
        here = omega arith;
        long = ap length e ∙ splice-length out to E (omega (arith, w.long)) ∙ w.long;
        room = r;
        made =
            ap₂ (λ (x : List ℕ) (j : ℕ). splice x (to + j) (points_bytes R)) e (sym lE)
            ∙ splice-then out to E (points_bytes R) (omega (arith, w.long))
            ∙ ap (splice out to) (sym on)
            ∙ w.made;
      }

  pub spend_end : n ≤ k → out ≡ splice out₀ at (points_bytes (points_of_inputs inputs))
  unfolding points_bytes
  spend_end h = sym (splice-none out to) ∙ ap (λ (x : List (List ℕ)). splice out to (points_bytes (map point_of_input x))) (sym (span-end (fix_item inputs 44) k n h)) ∙ w.made

-- ---- the entry

module _ (hash : Byte32) (f : List ℕ) where
  spent-count : length (points_of_inputs f) ≡ fix_count f
  unfolding points_of_inputs
  spent-count = length-map (fix_items 44 f) point_of_input ∙ span-length (fix_item f 44) 0 (fix_count f)

  pub entry-count : length (entry_with hash f).points ≡ fix_count f
  unfolding entry_with
  entry-count = spent-count

  entry-is : entry_bytes (entry_with hash f) ≡ head_bytes hash (fix_count f) ++ points_bytes (points_of_inputs f)
  unfolding entry_bytes head_bytes point_list entry_with
  entry-is =
      let B = points_bytes (points_of_inputs f) in
      ap (λ (k : ℕ). hash_bytes hash ++ state_bytes none ++ (to_le 4 k ++ B)) spent-count ∙ sym (append_assoc (hash_bytes hash ++ state_bytes none) (to_le 4 (fix_count f)) B)

  entry-length : length (entry_bytes (entry_with hash f)) ≡ 48 + 36 * fix_count f
  entry-length = length-entry (entry_with hash f) ∙ ap (λ (k : ℕ). 48 + 36 * k) entry-count

  module _ (out : List ℕ) (at : ℕ) {o : List ℕ} {r : ℕ} (h : at + (48 + 36 * fix_count f) ≤ length out) (p : Put out at (head_bytes hash (fix_count f)) o r) where
    pub entry-room : r ≡ at + 48 → r + 36 * fix_count f ≤ length o
    entry-room e = omega (arith, length-kept p)

    pub entry_put : splice o r (points_bytes (points_of_inputs f)) ≡ splice out at (entry_bytes (entry_with hash f))
    entry_put =
        let H = head_bytes hash (fix_count f) in
        let B = points_bytes (points_of_inputs f) in
        let l = entry-length in
        ap₂ (λ (x : List ℕ) (k : ℕ). splice x k B) p.bytes p.end ∙ splice-then out at H B (omega (arith, ap length entry-is, length-append H B)) ∙ ap (splice out at) (sym entry-is)

-- ---- the entry at its place, the others behind it, and the count

module _ (s : List ℕ) (v : Survey) (hash : Byte32) (f : List ℕ) {n : ℕ} (en : n ≡ fix_count f) (o : v.place ≤ 4 + 48 * v.stays + 36 * v.points) (h : 4 + 48 * v.stays + 36 * v.points + (48 + 36 * fix_count f) ≤ length s) where
  abbrev tail : List ℕ
  tail = take (4 + 48 * v.stays + 36 * v.points - v.place) (drop v.place s)

  length_tail : length tail ≡ 4 + 48 * v.stays + 36 * v.points - v.place
  length_tail = length-take-le _ (drop v.place s) (rw (length-drop v.place s) (omega arith))

  module _ {s₂ : List ℕ} {z : ℕ} (ez : z ≡ 48 + 36 * n) (m₂ : s₂ ≡ copy_within s v.place (4 + 48 * v.stays + 36 * v.points) (v.place + z)) where
    e₂ : s₂ ≡ splice s (v.place + z) tail
    e₂ = within-splice s v.place (v.place + z) (4 + 48 * v.stays + 36 * v.points - v.place) (omega arith) (m₂ ∙ ap (λ (k : ℕ). copy_within s v.place k (v.place + z)) (omega arith))

    length_moved : length s₂ ≡ length s
    length_moved = ap length e₂ ∙ splice-length s (v.place + z) tail (omega (arith, length_tail))

    pub new_room : v.place + (48 + 36 * fix_count f) ≤ length s₂
    new_room = omega (arith, length_moved)

    pub new_put : {s₃ s₄ : List ℕ} → s₃ ≡ splice s₂ v.place (entry_bytes (entry_with hash f)) → s₄ ≡ put_at s₃ 0 (to_le 4 (v.stays + 1))
        → s₄ ≡ splice (splice s v.place (entry_bytes (entry_with hash f) ++ tail)) 0 (to_le 4 (v.stays + 1))
    new_put {s₃} {s₄} e₃ e₄ =
        let X = entry_bytes (entry_with hash f) in
        let C = to_le 4 (v.stays + 1) in
        let l : length X ≡ 48 + 36 * n = entry-length hash f ∙ ap (λ (k : ℕ). 48 + 36 * k) (sym en) in
        let u : s₃ ≡ splice s v.place (X ++ tail) =
        e₃ ∙ ap (λ (x : List ℕ). splice x v.place X) (e₂ ∙ ap (λ (k : ℕ). splice s (v.place + k) tail) (ez ∙ sym l)) ∙ splice-under s v.place X tail (omega (arith, length_tail)) in
        let l₃ : length s₃ ≡ length s = ap length e₃ ∙ splice-length s₂ v.place X (omega (arith, length_moved)) ∙ length_moved in
        e₄ ∙ put_yes s₃ 0 C (omega (arith, length-to_le 4 (v.stays + 1))) ∙ ap (λ (x : List ℕ). splice x 0 C) u

-- ---- the whole table: the entries that stay stand together in s₁

module _ (rule : Rule) (s : List ℕ) {v : Survey} (ev : Ok v ≡ survey_of rule s) where
  abbrev stays : List MapEntry
  stays = stay (keeps rule) (takes rule) false (excluded_at s)

  abbrev A : List MapEntry
  A = ahead (keeps rule) (takes rule) (excluded_at s)

  abbrev B : List MapEntry
  B = behind (keeps rule) (takes rule) (excluded_at s)

  parts : entries_bytes stays ≡ entries_bytes A ++ entries_bytes B
  parts = ap entries_bytes (stay-split (keeps rule) (takes rule) (excluded_at s)) ∙ bytes-join A B

  size : length (entries_bytes stays) ≡ 48 * v.stays + 36 * v.points
  size = entries-size stays ∙ ap₂ (λ (a b : ℕ). 48 * a + 36 * b) (sym (told_stays rule s ev)) (sym (told-points rule s ev))

  sizes : length (entries_bytes A) + length (entries_bytes B) ≡ 48 * v.stays + 36 * v.points
  sizes = sym (length-append (entries_bytes A) (entries_bytes B)) ∙ ap length (sym parts) ∙ size

  pub place_within : v.place ≤ 4 + 48 * v.stays + 36 * v.points
  place_within = omega (arith, told-place rule s ev, sizes)

  stays_room : 4 + length (entries_bytes stays) ≤ length s
  stays_room = omega (arith, stay-size (keeps rule) (takes rule) false (excluded_at s), entries-size (excluded_at s), map-count s (told_good rule s ev), map-few s (told_good rule s ev), map-points s (told_good rule s ev), map-long s (told_good rule s ev))

  module _ {s₁ : List ℕ} (e₁ : s₁ ≡ splice s 4 (entries_bytes stays)) where
    length-gathered : length s₁ ≡ length s
    length-gathered = ap length e₁ ∙ splice-length s 4 (entries_bytes stays) stays_room

    pub drop_put : put_at s₁ 0 (to_le 4 v.stays) ≡ splice s 0 (map_bytes stays)
    unfolding map_bytes
    drop_put =
        let C = to_le 4 v.stays in
        let l : length C ≡ 4 = length-to_le 4 v.stays in
        let z : 0 + length C ≡ 4 = omega arith in
        put_yes s₁ 0 C (omega (arith, length-gathered, map-long s (told_good rule s ev))) ∙ ap (λ (x : List ℕ). splice x 0 C) (e₁ ∙ ap (λ (k : ℕ). splice s k (entries_bytes stays)) (sym z))
        ∙ splice-under s 0 C (entries_bytes stays) (omega (arith, stays_room)) ∙ ap (λ (k : ℕ). splice s 0 (to_le 4 k ++ entries_bytes stays)) (told_stays rule s ev)

    module _ (hash : Byte32) (f : List ℕ) (few : v.stays < 64) (most : v.points + fix_count f ≤ 512) where
      pub replace_room : 4 + 48 * v.stays + 36 * v.points + (48 + 36 * fix_count f) ≤ length s₁
      replace_room = omega (arith, length-gathered, map-long s (told_good rule s ev))

      pub replace_put : splice (splice s₁ v.place (entry_bytes (entry_with hash f) ++ take (4 + 48 * v.stays + 36 * v.points - v.place) (drop v.place s₁))) 0 (to_le 4 (v.stays + 1))
          ≡ splice s 0 (map_bytes (renew (takes rule) (entry_with hash f) (filter (keeps rule) (excluded_at s))))
      unfolding map_bytes entries_bytes
      replace_put =
          let x = entry_with hash f in
          let X = entry_bytes x in
          let bA = entries_bytes A in
          let bB = entries_bytes B in
          let C = to_le 4 (v.stays + 1) in
          let lx : length X ≡ 48 + 36 * fix_count f = entry-length hash f in
          let lC : length C ≡ 4 = length-to_le 4 (v.stays + 1) in
          let z : 0 + length C ≡ 4 = omega arith in
          let p : v.place ≡ 4 + length bA = told-place rule s ev in
          let q : 4 + 48 * v.stays + 36 * v.points - v.place ≡ length bB = omega (arith, sizes) in
          let l = map-long s (told_good rule s ev) in
          let t : s₁ ≡ splice s 4 (bA ++ bB) = e₁ ∙ ap (splice s 4) parts in
          let room : 4 + length bA + length bB ≤ length s = omega (arith, sizes) in
          let tail : take (4 + 48 * v.stays + 36 * v.points - v.place) (drop v.place s₁) ≡ bB = rw (q, p, t) (part-splice s 4 bA bB room) in
          let W = X ++ bB in
          let lW : length W ≡ 48 + 36 * fix_count f + length bB = length-append X bB ∙ ap (λ (k : ℕ). k + length bB) lx in
          let inner : splice s₁ v.place (X ++ take (4 + 48 * v.stays + 36 * v.points - v.place) (drop v.place s₁)) ≡ splice s 4 (bA ++ W) =
          rw tail (ap₂ (λ (a : List ℕ) (k : ℕ). splice a k W) (t ∙ sym (splice-then s 4 bA bB room)) p
          ∙ splice-over (splice s 4 bA) (4 + length bA) W bB (omega (arith, splice-length s 4 bA (omega arith), sizes)) (omega arith)
          ∙ splice-then s 4 bA W (omega (arith, sizes))) in
          let after : renew (takes rule) x (filter (keeps rule) (excluded_at s)) ≡ A ++ (x ∷ B) = renew-split (keeps rule) (takes rule) x (excluded_at s) in
          let count : length (A ++ (x ∷ B)) ≡ v.stays + 1 =
          length-append A (x ∷ B) ∙ omega (arith, told_stays rule s ev, ap length (stay-split (keeps rule) (takes rule) (excluded_at s)), length-append A B) in
          ap (λ (a : List ℕ). splice a 0 C) (inner ∙ ap (λ (k : ℕ). splice s k (bA ++ W)) (sym z))
          ∙ splice-under s 0 C (bA ++ W) (omega (arith, length-append bA W, sizes))
          ∙ ap₂ (λ (k : ℕ) (a : List ℕ). splice s 0 (to_le 4 k ++ a)) (sym count) (sym (bytes-join A (x ∷ B)))
          ∙ ap (λ (a : List MapEntry). splice s 0 (to_le 4 (length a) ++ entries_bytes a)) (sym after)

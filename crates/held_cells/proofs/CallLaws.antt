-- The calls: one law for each way out.
use mathlib.Core.Path.{◌≡◌, sym, ap, ◌∙◌}
use Prim.Native.Nat.{ℕ, ◌+◌, ◌-◌, ◌≤◌, ◌<◌}
use native.Mathlib.Omega.{arith}
use mathlib.Core.Bool.{Bool, true, false}
use mathlib.Core.List.{List, [], ◌++◌, map}
use lib.ListN.{length, drop, length-append, length-map}
use Rattle.std.proofs.Common.{Ok, Err, Result}
use Rattle.error.specs.declared.{Refusal.Refusal}
use Rattle.error.specs.Refusal.{number, values, answered}
use Rattle.error.specs.Outcome.{fine, check, check_with, number_of, ◌>>=◌, ◌>>◌}
use Rattle.units.specs.declared.{Millis.Millis}
use Rattle.molecule.specs.Layout.{fix_count}
use Rattle.molecule.specs.Molecule.{readable}
use Rattle.transaction.specs.Ckb.{OutPoints}
use Rattle.out_points.specs.OutPoints.{points}
use Rattle.out_points.proofs.ListLaws.{length-points}
use Rattle.std.specs.List.{filter}
use Rattle.out_points.specs.Tables.{has_room, after_list}
use Rattle.hold_records.specs.declared.{Owner.Owner, Held.Held, Rule.Rule, Taker.Taker}
use Rattle.hold_records.specs.Holds.{records_of, told, held_by, cells_of, at_most_256, hold_funding, lock_held, is_busy, firsts, unavailable, owner_for, take_free, take_cells, after_lock, after_take}
use Rattle.hold_records.specs.Inner.{is_kept, put_if}
use Rattle.hold_records.proofs.LoopLaws.{recorded}
use Rattle.hold_records.proofs.LimitLaws.{over, under}

-- ---- hold_funding

module _ (h : Held) (holder : ℕ) (cells : List ℕ) {b : Bool} (eb : b ≡ readable OutPoints cells) where
  pub funding-unread : b ≡ false → told (Err Refusal.LentBytesUnreadable) ≡ hold_funding (records_of h) holder cells
  unfolding hold_funding number values check check_with ◌>>◌
  funding-unread t = rw (← eb, t)

  module _ (t : b ≡ true) (k : Held) {n : ℕ} (ek : records_of k ≡ filter (is_kept (Rule.NotOf holder)) (records_of h)) (bk : k.count ≤ 256) (lk : length k.records ≡ 256) (en : n ≡ fix_count cells) where
    new_length : length (records_of k ++ map (held_by (Owner.Funding holder)) (points cells)) ≡ k.count + n
    new_length = simp (length-append, length-map) (omega (arith, length-points cells, recorded k lk bk, en))

    fitted : at_most_256 (records_of k ++ map (held_by (Owner.Funding holder)) (points cells)) ≡ hold_funding (records_of h) holder cells
    unfolding hold_funding is_kept check check_with ◌>>◌
    fitted = rw (← eb, t, ek)

    pub funding-full : 256 - k.count < n → told (Err Refusal.TooManyHolds) ≡ hold_funding (records_of h) holder cells
    unfolding number values
    funding-full l = sym (over (records_of k ++ map (held_by (Owner.Funding holder)) (points cells)) (omega (arith, new_length))) ∙ fitted

    pub funding-done : (g : Held) → n ≤ 256 - k.count → records_of g ≡ records_of k ++ map (held_by (Owner.Funding holder)) (points cells) → told (Ok g) ≡ hold_funding (records_of h) holder cells
    funding-done g l eg = ap fine eg ∙ sym (under (records_of k ++ map (held_by (Owner.Funding holder)) (points cells)) (omega (arith, new_length))) ∙ fitted

-- ---- lock_held

module _ (h : Held) (time : Millis) (out : List ℕ) (k : Held) {b : Bool} {o₁ : List ℕ} (ek : records_of k ≡ filter (is_kept (Rule.Live time)) (records_of h))
    (eb : b ≡ has_room (cells_of (drop 0 (records_of k))) out) (eo : o₁ ≡ put_if (cells_of (drop 0 (records_of k))) out) where
  unlock : check 13 b >> fine (records_of k) ≡ lock_held (records_of h) time out
  unfolding lock_held is_kept
  unlock = rw (eb, ek)

  pub lock_short : b ≡ false → (told (Err Refusal.BufferTooShort), o₁) ≡ after_lock (lock_held (records_of h) time) out
  unfolding put_if number values check check_with ◌>>◌
  lock_short t = rw (eo, ← unlock, ← eb, t)

  pub lock-done : b ≡ true → (told (Ok k), o₁) ≡ after_lock (lock_held (records_of h) time) out
  unfolding put_if check check_with ◌>>◌
  lock-done t = rw (eo, ← unlock, ← eb, t)

-- ---- unavailable

module _ (h : Held) (picked spent : List ℕ) (time : Millis) (out : List ℕ) {a : Bool} (ea : a ≡ readable OutPoints picked) where
  pub named-unread : a ≡ false → (answered {T = Unit} (Err Refusal.LentBytesUnreadable), out) ≡ after_list (unavailable (records_of h) picked spent time) out
  unfolding unavailable answered number number_of check check_with ◌>>◌
  named-unread t = rw (← ea, t)

  module _ (ta : a ≡ true) {b : Bool} (eb : b ≡ readable OutPoints spent) where
    pub named_unspent : b ≡ false → (answered {T = Unit} (Err Refusal.LentBytesUnreadable), out) ≡ after_list (unavailable (records_of h) picked spent time) out
    unfolding unavailable answered number number_of check check_with ◌>>◌
    named_unspent t = rw (← ea, ta, ← eb, t)

    module _ (tb : b ≡ true) (k : Held) {c : Bool} {o : List ℕ} (ek : records_of k ≡ filter (is_kept (Rule.Live time)) (records_of h))
        (ec : c ≡ has_room (firsts (is_busy (records_of k) (points spent)) [] (points picked)) out)
        (eo : o ≡ put_if (firsts (is_busy (records_of k) (points spent)) [] (points picked)) out) where
      named : check 13 c >> fine (firsts (is_busy (records_of k) (points spent)) [] (points picked)) ≡ unavailable (records_of h) picked spent time out
      unfolding unavailable is_kept check check_with ◌>>◌
      named = rw (← ea, ta, ← eb, tb, ec, ek)

      pub named_short : c ≡ false → (answered {T = Unit} (Err Refusal.BufferTooShort), o) ≡ after_list (unavailable (records_of h) picked spent time) out
      unfolding put_if answered number number_of check check_with ◌>>◌
      named_short t = rw (eo, ← named, ← ec, t)

      pub named-done : (u : Unit) → c ≡ true → (answered {T = Unit} (Ok u), o) ≡ after_list (unavailable (records_of h) picked spent time) out
      unfolding put_if answered number_of check check_with ◌>>◌
      named-done u t = rw (eo, ← named, ← ec, t)

-- ---- take

module _ (h : Held) (picked spent : List ℕ) (taker : Taker) (time : Millis) (out₁ out₂ : List ℕ) {a : Bool} (ea : a ≡ readable OutPoints picked) where
  pub take-unread : a ≡ false → (told (Err Refusal.LentBytesUnreadable), out₁, out₂) ≡ after_take (take_cells (records_of h) picked spent taker time) out₁ out₂
  unfolding take_cells number values check check_with ◌>>◌ ◌>>=◌
  take-unread t = rw (← ea, t)

  module _ (ta : a ≡ true) {b : Bool} (eb : b ≡ readable OutPoints spent) where
    pub take_unspent : b ≡ false → (told (Err Refusal.LentBytesUnreadable), out₁, out₂) ≡ after_take (take_cells (records_of h) picked spent taker time) out₁ out₂
    unfolding take_cells number values check check_with ◌>>◌ ◌>>=◌
    take_unspent t = rw (← ea, ta, ← eb, t)

    pub take-live : (k : Held) {owner : Owner} (o : Result Held Refusal) {b₁ b₂ : List ℕ} → b ≡ true → records_of k ≡ filter (is_kept (Rule.Live time)) (records_of h) → owner ≡ owner_for taker time
        → (told o, b₁, b₂) ≡ after_take (take_free (records_of k) picked spent owner) out₁ out₂ → (told o, b₁, b₂) ≡ after_take (take_cells (records_of h) picked spent taker time) out₁ out₂
    unfolding take_cells is_kept check check_with ◌>>◌
    take-live k o tb ek eo e = e ∙ rw (← ea, ta, ← eb, tb, ek, eo)

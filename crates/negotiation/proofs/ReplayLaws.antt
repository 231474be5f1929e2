-- Laws of the whole call, one for each way out.
use Rattle.std.proofs.Common.{Err}
use mathlib.Core.Path.{◌≡◌, refl, sym, ap, ◌∙◌}
use Prim.Native.Nat.{ℕ, ◌*◌, ◌/◌, ◌≤◌, ◌<◌}
use mathlib.Core.Bool.{Bool, true, false}
use mathlib.Core.List.{List, []}
use native.Mathlib.Omega.{arith}
use borrow.Author.Tests.{le-leb, lt-leb}
use lib.ListN.{length}
use lib.Dec.{leb}
use Rattle.molecule.specs.Molecule.{readable}
use Rattle.molecule.specs.Layout.{item_count}
use Rattle.error.specs.declared.Refusal.{Refusal}
use Rattle.error.specs.Refusal.{number, values}
use Rattle.units.specs.Units.{Figures}
use Rattle.error.specs.Outcome.{Outcome, fine, refused, check, check_with, ◌>>◌}
use Rattle.rules.specs.Run.{verdicts, update_for_peer}
use Rattle.error.proofs.Passed.{never}
use Rattle.negotiation.specs.Updates.{Updates, calls_of}
use Rattle.negotiation.specs.Replay.{replay_of, after_replay, told_replay}

module _ (lock udt start s : List ℕ) (room : ℕ) where
  refused_3 : readable Updates s ≡ false → replay_of lock udt start s room ≡ refused 3 []
  unfolding replay_of check check_with ◌>>◌
  refused_3 h = rw h

  refused_13 : readable Updates s ≡ true → leb (5 * item_count s) room ≡ false → replay_of lock udt start s room ≡ refused 13 []
  unfolding replay_of check check_with ◌>>◌
  refused_13 h k = rw (h, k)

  judged : readable Updates s ≡ true → leb (5 * item_count s) room ≡ true → replay_of lock udt start s room ≡ fine (verdicts (update_for_peer lock udt) start (calls_of s))
  unfolding replay_of check check_with ◌>>◌
  judged h k = rw (h, k)

  -- no refusal has the number 0
  pub refused_numbered : {m : ℕ} {l : List ℕ} → replay_of lock udt start s room ≡ refused m l → m ≡ 0 → ⊥
  refused_numbered {m} {l} e z = by (readable Updates s) refl (leb (5 * item_count s) room) refl
    where
      by : (a : Bool) → readable Updates s ≡ a → (b : Bool) → leb (5 * item_count s) room ≡ b → ⊥
      by false ea b eb = let k : 3 ≡ m = (let x = sym (refused_3 ea) ∙ e in cc) in omega arith
      by true ea false eb = let k : 13 ≡ m = (let x = sym (refused_13 ea eb) ∙ e in cc) in omega arith
      by true ea true eb = never m l _ (sym e ∙ judged ea eb)

module _ (lock udt start s out : List ℕ) {r : Bool} (e : r ≡ readable Updates s) where
  pub replay_unreadable : r ≡ false → (told_replay (Err Refusal.LentBytesUnreadable), out) ≡ after_replay (replay_of lock udt start s (length out)) out
  unfolding after_replay number values
  replay_unreadable h = rw (refused_3 lock udt start s (length out) (sym e ∙ h))

  module _ {n : ℕ} (t : r ≡ true) (c : n ≡ item_count s) where
    short : length out / 5 < n → leb (5 * item_count s) (length out) ≡ false
    short h = let k : length out < 5 * item_count s = omega arith in lt-leb _ _ k

    enough : n ≤ length out / 5 → leb (5 * item_count s) (length out) ≡ true
    enough h = let k : 5 * item_count s ≤ length out = omega arith in le-leb _ _ k

    pub replay_short : length out / 5 < n → (told_replay (Err Refusal.BufferTooShort), out) ≡ after_replay (replay_of lock udt start s (length out)) out
    unfolding after_replay number values
    replay_short h = rw (refused_13 lock udt start s (length out) (sym e ∙ t) (short h))

    pub replay_run : n ≤ length out / 5 → after_replay (replay_of lock udt start s (length out)) out ≡ after_replay (fine (verdicts (update_for_peer lock udt) start (calls_of s))) out
    replay_run h = ap (λ (o : Outcome (List (Outcome Figures))). after_replay o out) (judged lock udt start s (length out) (sym e ∙ t) (enough h))

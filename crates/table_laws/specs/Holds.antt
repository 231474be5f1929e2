-- Lists of calls on a table of holds (docs/RULES.md, "Holds and exclusions"), and what holds of them. Each step has what the contract of the call says of it
-- (crates/held_bytes/specs/Calls.antt), of a table in any form F.
use Rattle.std.specs.Prelude.{◌≡◌, ℕ, suc, ◌≤◌, Bool, true, false, not, cond, List, [], ◌∷◌, length, Result, Ok, Err}
use Rattle.std.proofs.Math.Option.{Option, none, some}
use Rattle.arithmetic.specs.LittleEndian.{AllBytes}
use Rattle.units.specs.{declared.Millis.Millis, Units.later}
use Rattle.error.specs.declared.{Refusal.Refusal}
use Rattle.error.specs.Refusal.{answered}
use Rattle.molecule.specs.Partial.{All}
use Rattle.out_points.specs.declared.OutPoint.{OutPoint}
use Rattle.out_points.specs.OutPoints.{has, points, Fit}
use Rattle.hold_records.specs.declared.{Owner.Owner, Hold.Hold, Held.Held, Taker.Taker}
use Rattle.hold_records.specs.Holds.{records_of, is_not_of, is_unnamed, is_tower_on, owner_for, is_live, cells_of, held_by}
use Rattle.table_bytes.specs.Lent.{Table}
use Rattle.held_bytes.specs.Calls.{HoldsFunding, HoldsForWatchtower, ReleasesForWatchtower, LocksHeld, TakesCells}
use Rattle.table_laws.specs.Answers.{Answer}
use Rattle.table_laws.specs.Stands.{Stands}

-- by value any table is one: what comes back is the table that the call returned, or the one that it was handed where it is refused
abbrev pub by_value : Table Held (List Hold)
by_value = record { is_table = λ h. true; means = records_of; put = λ h g l. g }

abbrev pub table_after : Held → Result Held Refusal → Held
table_after h (Ok g) = g
table_after h (Err why) = h

-- from one table to the next by a call; `unavailable` changes none
pub data Called {T : Type 0} (F : Table T (List Hold)) : T → T → Type 0 where
  hold : {s t : T} (a : Answer) (holder : ℕ) (cells : List ℕ) → HoldsFunding F s (answered a) t holder cells → Called F s t
  watch : {s t : T} (a : Answer) (cells : List ℕ) (now : Millis) → HoldsForWatchtower F s (answered a) t cells now → Called F s t
  release : {s t : T} (a : Answer) (cells : List ℕ) → ReleasesForWatchtower F s (answered a) t cells → Called F s t
  locked : {s t : T} (a : Answer) (now : Millis) (out after : List ℕ) → LocksHeld F s (answered a) t now out after → Called F s t
  take : {s t : T} (a : Answer) (picked spent : List ℕ) (taker : Taker) (now : Millis) (out₁ out₂ after₁ after₂ : List ℕ)
      → TakesCells F s (answered a) t picked spent taker now out₁ out₂ after₁ after₂ → Called F s t

-- the tables that calls reach from an empty one
pub data Reached {T : Type 0} (F : Table T (List Hold)) : T → Type 0 where
  empty : {s : T} → F.means s ≡ [] → Reached F s
  next : {s t : T} → Reached F s → Called F s t → Reached F t

-- how many watchtower records there are on a cell
unfoldable pub towers : OutPoint → List Hold → ℕ
towers p [] = 0
towers p (r ∷ l) = cond (is_tower_on p r) (suc (towers p l)) (towers p l)

-- after any list of calls at most one on each
abbrev pub OneEach : {T : Type 0} → Table T (List Hold) → Type 0
OneEach {T} F = (s : T) → Reached F s → (p : OutPoint) → towers p (F.means s) ≤ 1

-- ---- who gets a cell: in the words of the calls' contracts, of the table and the bytes that a call leaves

-- a `take` that is done: of s it makes t, and leaves `taken` and `refused` in the two buffers; the picks are bytes, as every lent slice is
pub record Took {T : Type 0} (F : Table T (List Hold)) (s t : T) (picked spent : List ℕ) (taker : Taker) (now : Millis) (taken refused : List ℕ) : Type 0 where
  pub out₁ : List ℕ
  pub out₂ : List ℕ
  pub says : TakesCells F s 0 t picked spent taker now out₁ out₂ taken refused
  pub lent : AllBytes picked

-- a `hold_funding`, and a `hold_for_watchtower`, that is done
pub record Funded {T : Type 0} (F : Table T (List Hold)) (s t : T) (holder : ℕ) (cells : List ℕ) : Type 0 where
  pub says : HoldsFunding F s 0 t holder cells

pub record Watched {T : Type 0} (F : Table T (List Hold)) (s t : T) (cells : List ℕ) (now : Millis) : Type 0 where
  pub says : HoldsForWatchtower F s 0 t cells now

-- a `lock_held` that is done: it leaves `after` in the buffer
pub record Locked {T : Type 0} (F : Table T (List Hold)) (s t : T) (now : Millis) (after : List ℕ) : Type 0 where
  pub out : List ℕ
  pub says : LocksHeld F s 0 t now out after

-- no more records than a table holds, and their numbers fit their types, as those of every table that code has
pub record InRange (l : List Hold) : Type 0 where
  pub few : length l ≤ 256
  pub fit : All Fit (cells_of l)

-- at any time at which x is live, no `take` from s gives the cell p to anybody; picked, it is among the refused
abbrev pub NotGiven : {T : Type 0} → Table T (List Hold) → OutPoint → Hold → T → Type 0
NotGiven {T} F p x s = (t : T) (picked spent : List ℕ) (taker : Taker) (now : Millis) (taken refused : List ℕ)
    → Took F s t picked spent taker now taken refused → is_live now x ≡ true
    → (has p (points taken) ≡ false) × (has p (points refused) ≡ has p (points picked))

-- so it is of the cell of every record that stands
abbrev pub HeldRefused : {T : Type 0} → Table T (List Hold) → Type 0
HeldRefused {T} F = (s : T) (x : Hold) → Stands x (F.means s) → NotGiven F x.point x s

-- what a `hold_for_watchtower` at `now` leaves on a cell
abbrev pub watched_at : Millis → OutPoint → Hold
watched_at now p = held_by (Owner.Watchtower (later now (record { 0 = 1800000 }))) p

-- the three calls that hold a cell: one that is done leaves x, on a cell that it gave or that it names
pub data Holding {T : Type 0} (F : Table T (List Hold)) (s t : T) : Hold → Type 0 where
  took : {picked spent : List ℕ} {taker : Taker} {now : Millis} {taken refused : List ℕ} → Took F s t picked spent taker now taken refused
      → (p : OutPoint) → has p (points taken) ≡ true → Holding F s t (held_by (owner_for taker now) p)
  funded : {holder : ℕ} {cells : List ℕ} → Funded F s t holder cells
      → (p : OutPoint) → has p (points cells) ≡ true → Holding F s t (held_by (Owner.Funding holder) p)
  watched : {cells : List ℕ} {now : Millis} → Watched F s t cells now
      → (p : OutPoint) → has p (points cells) ≡ true → Holding F s t (watched_at now p)

-- and x stands in the table that the call leaves
abbrev pub HeldStands : {T : Type 0} → Table T (List Hold) → Type 0
HeldStands {T} F = (s t : T) (x : Hold) → Holding F s t x → Stands x (F.means t)

-- `lock_held` writes exactly the cells that `take` refuses for being held: of one pick, and nothing spent
abbrev pub LockedRefused : {T : Type 0} → Table T (List Hold) → Type 0
LockedRefused {T} F = (s : T) (now : Millis) → InRange (F.means s)
    → (t : T) (after : List ℕ) → Locked F s t now after
    → (u : T) (picked spent : List ℕ) (taker : Taker) (taken refused : List ℕ) → Took F s u picked spent taker now taken refused
    → (p : OutPoint) → points picked ≡ p ∷ [] → points spent ≡ []
    → (has p (points after) ≡ has p (points refused)) × (has p (points after) ≡ not (has p (points taken)))

-- ---- how long: over any list of calls

-- x if the test passes, and else it is let go
unfoldable pub kept_if : Bool → Hold → Option Hold
kept_if b x = cond b (some x) none

-- a call that is refused leaves x; of one that is done it is said what it makes of x
unfoldable pub if_done : Answer → Hold → Option Hold → Option Hold
if_done (Ok _) x y = y
if_done (Err why) x y = some x

-- what becomes of a record x by a call that is done. `hold_funding` by its own holder lets it go if the new list does not name its cell again;
-- `hold_for_watchtower` on the cell of a watchtower record gives it the new end, and `release_for_watchtower` lets it go; `lock_held` and `take` let
-- it go if it is not live at their time. Nothing else does anything to it
unfoldable pub after : {T : Type 0} {F : Table T (List Hold)} {s t : T} → Hold → Called F s t → Option Hold
after x (hold a holder cells e) = if_done a x (kept_if (cond (is_not_of holder x) true (has x.point (points cells))) x)
after x (watch a cells now e) = if_done a x (some (cond (is_unnamed (points cells) x) x (watched_at now x.point)))
after x (release a cells e) = if_done a x (kept_if (is_unnamed (points cells) x) x)
after x (locked a now out buffer e) = if_done a x (kept_if (is_live now x) x)
after x (take a picked spent taker now out₁ out₂ after₁ after₂ e) = if_done a x (kept_if (is_live now x) x)

-- a list of calls from s to t that does not let x go: it is y in the end
pub data Followed {T : Type 0} (F : Table T (List Hold)) (x : Hold) : T → T → Hold → Type 0 where
  start : {s : T} → Followed F x s s x
  then : {s t u : T} {y z : Hold} → Followed F x s t y → (c : Called F t u) → after y c ≡ some z → Followed F x s u z

-- from any table: what x has become stands, and x's cell is given to nobody while that is live
abbrev pub StaysHeld : {T : Type 0} → Table T (List Hold) → Type 0
StaysHeld {T} F = (s t : T) (x y : Hold) → Stands x (F.means s) → Followed F x s t y → Stands y (F.means t) × NotGiven F x.point y t

-- and so a cell that one of the three calls held is given to nobody by any later `take`, until a call lets its record go or its time, renewed or not, is over
abbrev pub HeldOnce : {T : Type 0} → Table T (List Hold) → Type 0
HeldOnce {T} F = (s t u : T) (x y : Hold) → Holding F s t x → Followed F x t u y → NotGiven F x.point y u

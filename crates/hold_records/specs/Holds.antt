-- Holds on cells (docs/RULES.md, "Holds and exclusions"): a table means the list of its records, and each call is a definition on such lists: what it leaves,
-- or its refusal. A refused call leaves the table and the lent buffers as they were.
use Rattle.std.specs.Prelude.{ℕ, ◌+◌, Bool, true, false, not, cond, List, [], ◌∷◌, ◌++◌, map, Result}
use Rattle.std.specs.List.{filter}
use lib.{Dec.leb, Dec.eqb, ListN.length, ListN.take, ListN.replicate}
use Rattle.units.specs.{declared.Millis.Millis, Units.later, Units.is_before}
use Rattle.error.specs.Outcome.{Outcome, fine, check, ◌>>=◌, ◌>>◌, told_by}
use Rattle.error.specs.declared.{Refusal.Refusal}
use Rattle.molecule.specs.Molecule.{readable}
use Rattle.transaction.specs.Ckb.{OutPoints}
use Rattle.out_points.specs.{declared.Byte32.Byte32, declared.OutPoint.OutPoint, OutPoints.eq_point, OutPoints.has, OutPoints.points}
use Rattle.out_points.specs.Tables.{renew, has_room, writes}
use Rattle.hold_records.specs.declared.{Owner.Owner, Hold.Hold, Held.Held, Taker.Taker}

-- the records that stand: the first `count`, and all of the array where `count` is beyond it
unfoldable pub records_of : Held → List Hold
records_of h = take h.count h.records

-- a call's answer with the records that stand in the table that it returns
abbrev pub told : Result Held Refusal → Outcome (List Hold)
told = told_by records_of

-- "A hold record is a funding holder with an out point, or a watchtower out point with an end in milliseconds"
abbrev pub held_by : Owner → OutPoint → Hold
held_by owner p = record { point = p; owner = owner }

abbrev pub cells_of : List Hold → List OutPoint
cells_of l = map (λ (r : Hold). r.point) l

-- a table of zeros: no record stands
unfoldable pub empty_table : Held
empty_table =
    let hash : Byte32 = record { a = 0; b = 0; c = 0; d = 0 } in
    record { records = replicate 256 (record { point = record { hash = hash; index = 0 }; owner = Owner.Funding 0 }); count = 0 }

-- a test by the holder, or by the end
unfoldable pub by_owner : (ℕ → Bool) → (Millis → Bool) → Owner → Bool
by_owner f w (Owner.Funding holder) = f holder
by_owner f w (Owner.Watchtower end) = w end

unfoldable pub at_most_256 : List Hold → Outcome (List Hold)
at_most_256 l = do
  -- over 256 records
  check 14 (leb (length l) 256)
  fine l

-- "`hold_funding` drops a holder's records and adds the new list, repeats too"
unfoldable pub is_not_of : ℕ → Hold → Bool
is_not_of holder r = by_owner (λ n. not (eqb n holder)) (λ end. true) r.owner

unfoldable pub hold_funding : List Hold → ℕ → List ℕ → Outcome (List Hold)
hold_funding l holder cells = do
  -- the list unreadable
  check 3 (readable OutPoints cells)
  at_most_256 (filter (is_not_of holder) l ++ map (held_by (Owner.Funding holder)) (points cells))

-- "`release_for_watchtower` drops the named cells' watchtower records"
unfoldable pub is_unnamed : List OutPoint → Hold → Bool
is_unnamed cells r = by_owner (λ n. true) (λ end. not (has r.point cells)) r.owner

unfoldable pub release_for_watchtower : List Hold → List ℕ → Outcome (List Hold)
release_for_watchtower l cells = do
  -- the list unreadable
  check 3 (readable OutPoints cells)
  fine (filter (is_unnamed (points cells)) l)

-- "`hold_for_watchtower` sets the end to now + 1,800,000 (capped at 2^64 - 1), one record per cell"
unfoldable pub is_tower_on : OutPoint → Hold → Bool
is_tower_on p r = by_owner (λ n. false) (λ end. eq_point p r.point) r.owner

unfoldable pub renew_all : Millis → List Hold → List OutPoint → List Hold
renew_all end l [] = l
renew_all end l (p ∷ ps) = renew_all end (renew (is_tower_on p) (held_by (Owner.Watchtower end) p) l) ps

unfoldable pub hold_for_watchtower : List Hold → List ℕ → Millis → Outcome (List Hold)
hold_for_watchtower l cells now = do
  -- the list unreadable
  check 3 (readable OutPoints cells)
  at_most_256 (renew_all (later now (record { 0 = 1800000 })) l (points cells))

-- "`lock_held` drops ended records, then writes the out points left, in record order": ended are "watchtower records whose end is not above now"
unfoldable pub is_live : Millis → Hold → Bool
is_live now r = by_owner (λ n. true) (λ end. is_before now end) r.owner

unfoldable pub lock_held : List Hold → Millis → List ℕ → Outcome (List Hold)
lock_held l now out =
    let left = filter (is_live now) l in
    do
      -- the cells left over the lent buffer
      check 13 (has_room (cells_of left) out)
      fine left

-- held by anybody, or spent
unfoldable pub is_busy : List Hold → List OutPoint → OutPoint → Bool
is_busy l spent p = cond (has p (cells_of l)) true (has p spent)

-- p passes the test, and is none of those that did before
unfoldable pub is_new : (OutPoint → Bool) → List OutPoint → OutPoint → Bool
is_new f before p = cond (f p) (not (has p before)) false

-- "Both lists keep pick order": the picks that are new, and the others
unfoldable pub firsts : (OutPoint → Bool) → List OutPoint → List OutPoint → List OutPoint
firsts f before [] = []
firsts f before (p ∷ l) = cond (is_new f before p) (p ∷ firsts f (p ∷ before) l) (firsts f before l)

unfoldable pub others : (OutPoint → Bool) → List OutPoint → List OutPoint → List OutPoint
others f before [] = []
others f before (p ∷ l) = cond (is_new f before p) (others f (p ∷ before) l) (p ∷ others f before l)

-- "`unavailable` names, once each in pick order, picks spent or held unended, and changes nothing"
unfoldable pub unavailable : List Hold → List ℕ → List ℕ → Millis → List ℕ → Outcome (List OutPoint)
unavailable l picked spent now out =
    let named = firsts (is_busy (filter (is_live now) l) (points spent)) [] (points picked) in
    do
      -- a list unreadable
      check 3 (readable OutPoints picked)
      check 3 (readable OutPoints spent)
      -- the named picks over the lent buffer
      check 13 (has_room named out)
      fine named

-- "`take` first drops watchtower records whose end is not above now; then a pick is refused if held by anybody, spent, or taken earlier in the
-- call; otherwise it is recorded, for the watchtower until now + 60,000 (capped)"
unfoldable pub owner_for : Taker → Millis → Owner
owner_for (Taker.Funding holder) now = Owner.Funding holder
owner_for Taker.Watchtower now = Owner.Watchtower (later now (record { 0 = 60000 }))

-- what it leaves: the records, the picks that are taken, and the others
pub record Taken : Type 0 where
  pub records : List Hold
  pub taken : List OutPoint
  pub rest : List OutPoint

-- from the records left, where these picks are to be taken and these to be refused
unfoldable pub take_these : List Hold → List OutPoint → List OutPoint → Owner → List ℕ → List ℕ → Outcome Taken
take_these left taken rest owner out₁ out₂ = do
  -- a list over its lent buffer
  check 13 (has_room taken out₁)
  check 13 (has_room rest out₂)
  -- over 256 records
  check 14 (leb (length left + length taken) 256)
  fine (record { records = left ++ map (held_by owner) taken; taken = taken; rest = rest })

unfoldable pub take_free : List Hold → List ℕ → List ℕ → Owner → List ℕ → List ℕ → Outcome Taken
take_free left picked spent owner out₁ out₂ =
    let free : OutPoint → Bool = λ p. not (is_busy left (points spent) p) in
    take_these left (firsts free [] (points picked)) (others free [] (points picked)) owner out₁ out₂

unfoldable pub take_cells : List Hold → List ℕ → List ℕ → Taker → Millis → List ℕ → List ℕ → Outcome Taken
take_cells l picked spent taker now out₁ out₂ = do
  -- a list unreadable
  check 3 (readable OutPoints picked)
  check 3 (readable OutPoints spent)
  take_free (filter (is_live now) l) picked spent (owner_for taker now) out₁ out₂

-- ---- the records that stand after a call that is lent buffers, and the buffers

abbrev pub after_lock : (List ℕ → Outcome (List Hold)) → List ℕ → Outcome (List Hold) × List ℕ
after_lock call out = (call out, writes cells_of (call out) out)

abbrev pub records_after : Outcome Taken → Outcome (List Hold)
records_after o = do
  t ← o
  fine t.records

abbrev pub after_take : (List ℕ → List ℕ → Outcome Taken) → List ℕ → List ℕ → Outcome (List Hold) × List ℕ × List ℕ
after_take call out₁ out₂ =
    let o = call out₁ out₂ in
    (records_after o, writes (λ t. t.taken) o out₁, writes (λ t. t.rest) o out₂)

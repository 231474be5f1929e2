-- The calls on a table of holds F, in whatever form it is lent: what each answers and leaves, by its definition in crates/hold_records/specs/Holds.antt.
use Rattle.std.specs.Prelude.{◌≡◌, ℕ, List}
use Rattle.units.specs.declared.{Millis.Millis}
use Rattle.out_points.specs.Tables.{writes, after_list}
use Rattle.hold_records.specs.declared.{Hold.Hold, Taker.Taker}
use Rattle.hold_records.specs.Holds.{cells_of, hold_funding, release_for_watchtower, hold_for_watchtower, lock_held, unavailable, take_cells, records_after}
use Rattle.table_bytes.specs.Lent.{Table, on_table, Leaves}

-- the number n is answered for s, which becomes t; a buffer `out` becomes `after`
module _ {T : Type 0} (F : Table T (List Hold)) (s : T) (n : ℕ) where
  abbrev pub HoldsFunding : T → ℕ → List ℕ → Type 0
  HoldsFunding t holder cells = Leaves F s n t (on_table F s (hold_funding (F.means s) holder cells))

  abbrev pub HoldsForWatchtower : T → List ℕ → Millis → Type 0
  HoldsForWatchtower t cells now = Leaves F s n t (on_table F s (hold_for_watchtower (F.means s) cells now))

  abbrev pub ReleasesForWatchtower : T → List ℕ → Type 0
  ReleasesForWatchtower t cells = Leaves F s n t (on_table F s (release_for_watchtower (F.means s) cells))

  abbrev pub LocksHeld : T → Millis → List ℕ → List ℕ → Type 0
  LocksHeld t now out after =
      let o = on_table F s (lock_held (F.means s) now out) in
      Leaves F s n t o × (after ≡ writes cells_of o out)

  -- it leaves the table
  abbrev pub NamesUnavailable : List ℕ → List ℕ → Millis → List ℕ → List ℕ → Type 0
  NamesUnavailable picked spent now out after = (n, after) ≡ after_list (λ b. on_table F s (unavailable (F.means s) picked spent now b)) out

  abbrev pub TakesCells : T → List ℕ → List ℕ → Taker → Millis → List ℕ → List ℕ → List ℕ → List ℕ → Type 0
  TakesCells t picked spent taker now out₁ out₂ after₁ after₂ =
      let o = on_table F s (take_cells (F.means s) picked spent taker now out₁ out₂) in
      Leaves F s n t (records_after o) × (after₁ ≡ writes (λ k. k.taken) o out₁) × (after₂ ≡ writes (λ k. k.rest) o out₂)

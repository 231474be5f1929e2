-- The table of holds in bytes: what lent bytes mean, and the bytes of a list of records.
use Rattle.std.specs.Prelude.{ℕ, ◌+◌, ◌*◌, cond, List, map, length, eqb}
use Rattle.molecule.specs.Layout.{word}
use Rattle.hold_records.specs.declared.{Owner.Owner, Hold.Hold, Held.Held}
use Rattle.hold_records.specs.Holds.{records_of}
use Rattle.table_bytes.specs.declared.{Place.Place}
use Rattle.table_bytes.specs.Places.{places, table_bytes}
use Rattle.table_bytes.specs.Lent.{Table, in_bytes}

-- how many bytes a lent table has: the count, and 256 places
abbrev pub held_size : ℕ
held_size = 4 + 48 * 256

-- kind 0 is a funding, and the number its holder; any other kind the watchtower, and the number the end
unfoldable pub owner_of : ℕ → ℕ → Owner
owner_of kind number = cond (eqb kind 0) (Owner.Funding number) (Owner.Watchtower (record { 0 = number }))

unfoldable pub hold_of : Place → Hold
hold_of p = record { point = p.point; owner = owner_of p.kind p.number }

-- the table that lent bytes mean, whatever they are: the count, and 256 places
unfoldable pub held_of : List ℕ → Held
held_of s = record { records = map hold_of (places 256 s); count = word s 0 }

-- and the records of it that stand
unfoldable pub held_at : List ℕ → List Hold
held_at s = records_of (held_of s)

-- ---- written

unfoldable pub owner_kind : Owner → ℕ
owner_kind (Owner.Funding holder) = 0
owner_kind (Owner.Watchtower end) = 1

unfoldable pub owner_number : Owner → ℕ
owner_number (Owner.Funding holder) = holder
owner_number (Owner.Watchtower end) = end.0

unfoldable pub place_for : Hold → Place
place_for r = record { point = r.point; kind = owner_kind r.owner; number = owner_number r.owner }

unfoldable pub held_bytes : List Hold → List ℕ
held_bytes l = table_bytes (map place_for l)

-- the table as it is lent: any bytes of its length are one
abbrev pub held_table : Table (List ℕ) (List Hold)
held_table = in_bytes (λ s. eqb (length s) held_size) held_at held_bytes

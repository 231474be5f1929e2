-- How the code walks a case file: by places. Where nothing is found there is no place after it.
use Rattle.std.specs.Prelude.{ℕ, zero, suc, List, [], ◌∷◌, ◌++◌, length, eqb, Option, Some, None, unwrap_or, option_and_then}
use Rattle.std.proofs.Math.Option as maybe
use Rattle.std.proofs.Math.Option.{none, some}
use Rattle.arithmetic.specs.LittleEndian.{to_le, u64_at}
use Rattle.molecule.specs.Partial.{pick}
use Rattle.molecule.specs.Items.{join}
use Rattle.transaction.specs.Cells.{Cell}
use Rattle.error.specs.Outcome.{Outcome}
use Rattle.units.specs.Units.{Figures}
use Rattle.rules.specs.Judge.{judge}
use Rattle.case_file.specs.declared.items.Kind.{Kind}
use Rattle.case_file.specs.declared.items.Kind.TheVariants.{Ours, Peer, Lock, Udt, Source, Rate, Output, Data, NotLive}
use Rattle.case_file.specs.declared.items.Places.{Places}
use Rattle.case_file.specs.declared.record_list.Measured.{Measured}
use Rattle.case_file.specs.CaseFile.{Read, kind_at, body_at, item_at, optional_at, rate_at, resolved_at, record_list}

abbrev pub kind_number : Kind → ℕ
kind_number Ours = 1
kind_number Peer = 2
kind_number Lock = 3
kind_number Udt = 4
kind_number Source = 5
kind_number Rate = 6
kind_number Output = 7
kind_number Data = 8
kind_number NotLive = 9

abbrev pub next_of : {A : Type 0} → maybe.Option (Read A) → Option ℕ
next_of none = None
next_of (some r) = Some r.next

-- ---- the items before the records

-- a step that finds nothing ends the walk
infixl 10 ◌>>=◌
abbrev pub ◌>>=◌ : {A B : Type 0} → Option A → (A → Option B) → Option B
◌>>=◌ o f = option_and_then f o

unfoldable pub case_places : List ℕ → Option Places
case_places s = do
  peer ← next_of (optional_at s 1 0)
  lock ← next_of (item_at s 2 peer)
  udt ← next_of (item_at s 3 lock)
  source ← next_of (optional_at s 4 udt)
  rate ← next_of (item_at s 5 source)
  records ← next_of (rate_at s rate)
  Some (record { peer = peer; lock = lock; udt = udt; source = source; rate = rate; records = records })

unfoldable pub optional_body : List ℕ → ℕ → ℕ → List ℕ
optional_body s kind at = pick (eqb (kind_at s at) kind) (body_at s at) []

-- the verdict on the bodies at some places, with a list of records
unfoldable pub verdict_at : List ℕ → Places → List ℕ → Outcome Figures
verdict_at s p records =
    judge (body_at s p.lock) (optional_body s 4 p.udt) (optional_body s 1 0)
    (record { peer = body_at s p.peer; records = records; source = body_at s p.source; rate = u64_at (body_at s p.rate) 0 })

-- ---- records

-- a cell as a table of its output and its data
unfoldable pub cell_bytes : List ℕ → List ℕ → List ℕ
cell_bytes output content = join (output ∷ (to_le 4 (length content) ++ content) ∷ [])

-- the body of the item at a place, if there is one
abbrev pub body_there : List ℕ → Option ℕ → List ℕ
body_there s None = []
body_there s (Some at) = body_at s at

-- the record at a place, as it is lent
unfoldable pub entry_at : List ℕ → ℕ → List ℕ
entry_at s at = pick (eqb (kind_at s at) 9) [] (cell_bytes (body_at s at) (body_there s (next_of (item_at s 7 at))))

-- where the next record stands: where there is none, at the end
abbrev pub next_at : List ℕ → ℕ → ℕ
next_at s at = unwrap_or (next_of (resolved_at s at)) (length s)

-- n records from a place on
unfoldable pub walk : ℕ → List ℕ → ℕ → List (List ℕ)
walk zero s at = []
walk (suc n) s at = entry_at s at ∷ walk n s (next_at s at)

-- how many records there are, and how long their list is
unfoldable pub measured : maybe.Option (List (maybe.Option Cell)) → Option Measured
measured none = None
measured (some rs) = Some (record { count = length rs; size = length (record_list rs) })

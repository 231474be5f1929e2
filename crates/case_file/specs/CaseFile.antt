-- A case file (docs/RULES.md, "Case file and known outcomes"): at most 65,536 bytes, an item after the other. An item is a word of four bytes, the top 4
-- bits its kind and the low 28 its body's length, then the body, padded with zeros to 4 bytes.
use Rattle.std.specs.Prelude.{ℕ, zero, suc, ◌+◌, ◌*◌, ◌/◌, ◌%◌, ◌^◌, Bool, true, false, List, [], ◌∷◌, ◌++◌, map, length, leb, eqb}
use Rattle.std.proofs.Math.Option.{Option, none, some}
use Rattle.arithmetic.specs.LittleEndian.{to_le, u32_at, u64_at}
use Rattle.molecule.specs.Partial.{only, pick}
use Rattle.molecule.specs.Items.{join}
use Rattle.molecule.specs.Layout.{part}
use Rattle.transaction.specs.Cells.{Cell}
use Rattle.error.specs.Outcome.{Outcome, refused}
use Rattle.units.specs.Units.{Figures}
use Rattle.rules.specs.Judge.{judge}
use Rattle.verdict_line.specs.VerdictLine.{line_of}

-- what is read at a place, and the place after it
pub record Read (A : Type 0) : Type 0 where
  pub got : A
  pub next : ℕ

-- a step that finds nothing ends the reading
infixl 10 ◌>>=◌
unfoldable pub ◌>>=◌ : {A B : Type 0} → Option A → (A → Option B) → Option B
◌>>=◌ none f = none
◌>>=◌ (some a) f = f a

-- ---- items

unfoldable pub kind_at : List ℕ → ℕ → ℕ
kind_at s at = u32_at s at / 2 ^ 28

unfoldable pub length_at : List ℕ → ℕ → ℕ
length_at s at = u32_at s at % 2 ^ 28

-- where the body of the item at a place ends, and where its padding does
abbrev pub body_end : List ℕ → ℕ → ℕ
body_end s at = at + 4 + length_at s at

abbrev pub item_end : List ℕ → ℕ → ℕ
item_end s at = at + 4 + (length_at s at + 3) / 4 * 4

abbrev pub body_at : List ℕ → ℕ → List ℕ
body_at s at = part s (at + 4) (body_end s at)

unfoldable pub all_zero : List ℕ → Bool
all_zero [] = true
all_zero (b ∷ s) = pick (eqb b 0) (all_zero s) false

-- the item of a kind at a place
unfoldable pub item_at : List ℕ → ℕ → ℕ → Option (Read (List ℕ))
item_at s kind at =
    only (leb (at + 4) (length s))
    (only (eqb (kind_at s at) kind)
    (only (leb (item_end s at) (length s))
    (only (all_zero (part s (body_end s at) (item_end s at)))
    (some (record { got = body_at s at; next = item_end s at })))))

-- one that may be missing: then it is empty
unfoldable pub optional_at : List ℕ → ℕ → ℕ → Option (Read (List ℕ))
optional_at s kind at = pick (eqb (kind_at s at) kind) (item_at s kind at) (some (record { got = []; next = at }))

-- a fee rate: 8 bytes
unfoldable pub rate_at : List ℕ → ℕ → Option (Read (List ℕ))
rate_at s at = only (eqb (length_at s at) 8) (item_at s 6 at)

-- ---- records

-- 9: not live, of length 0
unfoldable pub dead_at : List ℕ → ℕ → Option (Read (Option Cell))
dead_at s at = only (eqb (length_at s at) 0) (item_at s 9 at >>= λ dead. some (record { got = none; next = dead.next }))

-- 7 and 8: output and data
unfoldable pub cell_at : List ℕ → ℕ → Option (Read (Option Cell))
cell_at s at = do
  output ← item_at s 7 at
  content ← item_at s 8 output.next
  some (record { got = some (record { output = output.got; cell_data = content.got }); next = content.next })

unfoldable pub resolved_at : List ℕ → ℕ → Option (Read (Option Cell))
resolved_at s at = pick (eqb (kind_at s at) 9) (dead_at s at) (cell_at s at)

-- the records from a place up to the end of the file, fewer than n: each takes up 4 bytes, so the length of the file is enough
unfoldable pub records_from : ℕ → List ℕ → ℕ → Option (List (Option Cell))
records_from zero s at = none
records_from (suc n) s at = pick (eqb at (length s)) (some []) (resolved_at s at >>= λ r. records_from n s r.next >>= λ rs. some (r.got ∷ rs))

-- a record as `update_for_peer` is lent it: not live is no bytes, any other a table of the output and the data, with its count
unfoldable pub record_bytes : Option Cell → List ℕ
record_bytes none = []
record_bytes (some c) = join (c.output ∷ (to_le 4 (length c.cell_data) ++ c.cell_data) ∷ [])

abbrev pub record_list : List (Option Cell) → List ℕ
record_list rs = join (map record_bytes rs)

-- ---- the case

pub record Case : Type 0 where
  pub ours : List ℕ
  pub peer : List ℕ
  pub lock : List ℕ
  pub type : List ℕ
  pub source : List ℕ
  pub rate : ℕ
  pub records : List (Option Cell)

unfoldable pub read_case : List ℕ → Option Case
read_case s = do
  -- 1 our transaction (may be missing), 2 peer's, 3 lock
  ours ← optional_at s 1 0
  peer ← item_at s 2 ours.next
  lock ← item_at s 3 peer.next
  -- 4 type (may be missing), 5 source lock, 6 fee rate
  type ← optional_at s 4 lock.next
  source ← item_at s 5 type.next
  rate ← rate_at s source.next
  -- then per record 7 output and 8 data, or 9 not live
  records ← records_from (length s) s rate.next
  some (record { ours = ours.got; peer = peer.got; lock = lock.got; type = type.got; source = source.got; rate = u64_at rate.got 0; records = records })

unfoldable pub case_of : List ℕ → Option Case
case_of s = only (leb (length s) 65536) (read_case s)

-- any other shape is 3, before all else
unfoldable pub verdict_of : Option Case → Outcome Figures
verdict_of none = refused 3 []
verdict_of (some c) = judge c.lock c.type c.ours (record { peer = c.peer; records = record_list c.records; source = c.source; rate = c.rate })

unfoldable pub case_line : List ℕ → List ℕ
case_line s = line_of (verdict_of (case_of s))

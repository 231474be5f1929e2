-- update_for_peer: the lines of docs/RULES.md, "A peer's update arrives", in table order and within a row as written. Each has its number and its name.
use Rattle.std.specs.Prelude.{ℕ, suc, ◌+◌, ◌-◌, ◌^◌, min, Bool, true, false, cond, not, ◌&&◌, ◌||◌, List, [], ◌∷◌, length, drop, leb, ltb, eqb}
use Rattle.std.proofs.Math.Option.{Option, none, some}
use Rattle.error.specs.Outcome.{Outcome}
use Rattle.lists.specs.Lists.{eq_bytes, agree, contains_all, is_empty}
use Rattle.molecule.specs.Molecule.{option, readable}
use Rattle.transaction.specs.Ckb.{Script, Transaction}
use Rattle.transaction.specs.Tx.{Tx, tx_at, lock_of}
use Rattle.units.specs.{Fee.fee_shannons, Units.Figures}
use Rattle.transaction.specs.Cells.{Cell, cells}
use Rattle.rules.specs.declared.Limits.{Limits}
use Rattle.rules.specs.Records.{LentRecords, lent_at}
use Rattle.rules.specs.Lines.{Name, Ruled, line, line_with, answer, verdict, ◌>>=◌, ◌>>◌}
use Rattle.rules.specs.Surplus.{total, first, added, cell_capacity, amount_of, is_of, has_amount}

-- what a call brings
pub record Call : Type 0 where
  pub peer : List ℕ
  pub records : List ℕ
  pub source : List ℕ
  pub rate : ℕ

-- ---- entry

-- a script unreadable
unfoldable pub scripts : List ℕ → List ℕ → List ℕ → Ruled (Unit {0})
scripts lock type source = do
  line 3 "the lock unreadable" (readable Script lock)
  line 3 "the type unreadable" (readable (option Script) type)
  line 3 "our source lock unreadable" (readable Script source)

-- ---- limits

-- by any limits on what is added; the size is that of the bytes and 4
unfoldable pub within : Limits → ℕ → Tx → Tx → Ruled (Unit {0})
within most size ours peer = do
  line 4 "size over 133,120" (leb size 133120)
  line 4 "too many added inputs" (leb (length peer.inputs - length ours.inputs) most.inputs)
  line 4 "too many added outputs" (leb (length peer.outputs - length ours.outputs) most.outputs)
  line 4 "too many added cell deps" (leb (length peer.cell_deps - length ours.cell_deps) most.cell_deps)
  line 4 "too many added header deps" (leb (length peer.header_deps - length ours.header_deps) most.header_deps)

-- today's limits
abbrev pub today : Limits
today = record { inputs = 64; outputs = 3; cell_deps = 8; header_deps = 2 }

-- by today's
abbrev pub limits : ℕ → Tx → Tx → Ruled (Unit {0})
limits size ours peer = within today size ours peer

-- ---- comparison

-- output 0, if present, passes a test
unfoldable pub at_first : (Cell → Bool) → List Cell → Bool
at_first test [] = true
at_first test (c ∷ cs) = test c

unfoldable pub has_lock : List ℕ → Cell → Bool
has_lock lock c = eq_bytes lock (lock_of c.output)

unfoldable pub no_data_untyped : List ℕ → Cell → Bool
no_data_untyped type c = not (is_empty type) || is_empty c.cell_data

unfoldable pub comparison : List ℕ → List ℕ → Tx → Tx → Ruled (Unit {0})
comparison lock type ours peer = do
  line 5 "version differs" (eqb ours.version peer.version)
  line 5 "fewer cell deps" (leb (length ours.cell_deps) (length peer.cell_deps))
  line 5 "a cell dep of ours missing" (contains_all ours.cell_deps peer.cell_deps)
  line 5 "fewer header deps" (leb (length ours.header_deps) (length peer.header_deps))
  line 5 "a header dep differs" (agree ours.header_deps peer.header_deps)
  line 5 "fewer inputs" (leb (length ours.inputs) (length peer.inputs))
  line 5 "an input differs" (agree ours.inputs peer.inputs)
  line 5 "fewer outputs" (leb (length ours.outputs) (length peer.outputs))
  line 5 "output 0's lock not as expected" (at_first (has_lock lock) (cells peer))
  line 5 "output 0's type not as expected" (at_first (is_of type) (cells peer))
  line 5 "output 0 untyped with data" (at_first (no_data_untyped type) (cells peer))
  line 5 "an output after 0 differs" (agree (drop 1 ours.outputs) (drop 1 peer.outputs))
  line 5 "fewer data entries" (leb (length ours.outputs_data) (length peer.outputs_data))
  line 5 "a data entry after 0 differs" (agree (drop 1 ours.outputs_data) (drop 1 peer.outputs_data))

-- ---- records

abbrev pub is_there : Option Cell → Bool
is_there none = false
is_there (some c) = true

abbrev pub is_ours : List ℕ → Option Cell → Bool
is_ours source none = false
is_ours source (some c) = has_lock source c

-- by input, from index i among all inputs
unfoldable pub live : List ℕ → ℕ → List (Option Cell) → Ruled (Unit {0})
live source i [] = answer tt
live source i (r ∷ rs) = do
  line 5 "a record not live" (is_there r)
  line_with 6 (i ∷ []) "a record under our source lock" (not (is_ours source r))
  live source (suc i) rs

unfoldable pub live_cells : List (Option Cell) → List Cell
live_cells [] = []
live_cells (none ∷ rs) = live_cells rs
live_cells (some c ∷ rs) = c ∷ live_cells rs

-- the cells that the added inputs spend
unfoldable pub spent : List ℕ → Tx → Tx → LentRecords → Ruled (List Cell)
spent source ours peer lent = do
  line 3 "a record unreadable" lent.readable
  line 3 "not one record per added input" (eqb (length lent.records) (length peer.inputs - length ours.inputs))
  live source (length ours.inputs) lent.records
  answer (live_cells lent.records)

-- ---- contribution

abbrev pub growth : (Cell → ℕ) → Tx → Tx → ℕ
growth f ours peer = first f (cells peer) - first f (cells ours)

-- the growth of output 0 in tokens
unfoldable pub token_delta : Tx → Tx → Ruled ℕ
token_delta ours peer = do
  line 5 "our amount under 16 bytes" (at_first has_amount (cells ours))
  line 5 "the peer's amount under 16 bytes" (at_first has_amount (cells peer))
  line 5 "amount falls" (leb (first amount_of (cells ours)) (first amount_of (cells peer)))
  answer (growth amount_of ours peer)

-- the growth of output 0, in tokens only where a type is expected
unfoldable pub funding_output_delta : List ℕ → Tx → Tx → Ruled Figures
funding_output_delta type ours peer = do
  line 5 "output 0 missing" (not (is_empty peer.outputs))
  line 5 "output 0's data missing" (not (is_empty peer.outputs_data))
  line 5 "its capacity falls" (leb (first cell_capacity (cells ours)) (first cell_capacity (cells peer)))
  token ← cond (is_empty type) (answer 0) (token_delta ours peer)
  answer (record { capacity = growth cell_capacity ours peer; token = token })

-- ours has no inputs and no outputs
abbrev pub unfunded : Tx → Bool
unfunded ours = is_empty ours.inputs && is_empty ours.outputs

-- what is left of `gained` over what it has to cover, which pays the fee where ours is still empty
unfoldable pub covered : Bool → ℕ → ℕ → ℕ → ℕ → Ruled ℕ
covered opening gained needed rate size = do
  line 5 "added inputs below growth plus added outputs" (leb needed gained)
  line_with 8 (min (gained - needed) (2 ^ 64 - 1) ∷ fee_shannons rate size ∷ rate ∷ size ∷ []) "the fee too low"
      (not opening || leb (fee_shannons rate size) (gained - needed))
  answer (gained - needed)

-- the names of a tally's lines: of the cells that records bring in, and of added outputs
pub record Names : Type 0 where
  pub short : Name
  pub over : Name

abbrev pub of_records : Names
of_records = record { short = "a record's amount under 16 bytes"; over = "the records' total 2^128 or more" }

abbrev pub of_outputs : Names
of_outputs = record { short = "an added output's amount under 16 bytes"; over = "the added outputs' total 2^128 or more" }

-- a sum of tokens with those of one more cell; a cell of another type may hold any data
unfoldable pub counted : Names → List ℕ → ℕ → Cell → Ruled ℕ
counted names type sum c = cond (is_of type c) summed (answer sum)
  where
    summed : Ruled ℕ
    summed = do
      line 5 names.short (has_amount c)
      line 7 names.over (ltb (sum + amount_of c) (2 ^ 128))
      answer (sum + amount_of c)

-- a sum with each of these cells
unfoldable pub tally : Names → List ℕ → ℕ → List Cell → Ruled ℕ
tally names type sum [] = answer sum
tally names type sum (c ∷ cs) = do
  next ← counted names type sum c
  tally names type next cs

-- what is left of `gained` over growth and outputs
unfoldable pub settled : ℕ → ℕ → ℕ → Ruled ℕ
settled growth outs gained = do
  line 7 "growth plus outputs 2^128 or more" (ltb (growth + outs) (2 ^ 128))
  line 5 "token inputs below growth plus outputs" (leb (growth + outs) gained)
  answer (gained - (growth + outs))

-- the account of the expected type: by record, which is `paid`, then by added output, then with the growth of output 0; 0 when untyped
unfoldable pub token_account : List ℕ → ℕ → Ruled ℕ → List Cell → Ruled ℕ
token_account type growth paid outs = cond (is_empty type) (answer 0) account
  where
    account : Ruled ℕ
    account = do
      gained ← paid
      put ← tally of_outputs type 0 outs
      settled growth put gained

-- both accounts of records that bring in so many shannons and tokens, with output 0 grown by `grown` and with these outputs added
unfoldable pub accounts : List ℕ → Bool → ℕ → Ruled ℕ → List Cell → ℕ → ℕ → Figures → Ruled Figures
accounts type opening gained paid outs rate size grown = do
  capacity ← covered opening gained (grown.capacity + total cell_capacity outs) rate size
  token ← token_account type grown.token paid outs
  answer (record { capacity = capacity; token = token })

unfoldable pub contribution : List ℕ → Tx → Tx → ℕ → Ruled ℕ → ℕ → ℕ → Ruled Figures
contribution type ours peer gained paid rate size = do
  grown ← funding_output_delta type ours peer
  accounts type (unfunded ours) gained paid (added ours peer) rate size grown

-- ---- all

-- what comes before the records
unfoldable pub opening : List ℕ → List ℕ → List ℕ → Tx → List ℕ → Ruled (Unit {0})
opening lock type source ours bytes = do
  line 2 "the peer's bytes unreadable" (readable Transaction bytes)
  scripts lock type source
  limits (length bytes + 4) ours (tx_at bytes)
  comparison lock type ours (tx_at bytes)

-- the records, and what follows them
unfoldable pub closing : List ℕ → List ℕ → Tx → Tx → ℕ → ℕ → LentRecords → Ruled Figures
closing type source ours peer rate size lent = do
  records ← spent source ours peer lent
  contribution type ours peer (total cell_capacity records) (tally of_records type 0 records) rate size

-- against our transaction, as it was read
unfoldable pub ruling_against : List ℕ → List ℕ → Tx → Call → Ruled Figures
ruling_against lock type ours call = do
  opening lock type call.source ours call.peer
  closing type call.source ours (tx_at call.peer) call.rate (length call.peer + 4) (lent_at call.records)

unfoldable pub ruling : List ℕ → List ℕ → List ℕ → Call → Ruled Figures
ruling lock type oursBytes call = do
  line 1 "our bytes unreadable" (readable (option Transaction) oursBytes)
  ruling_against lock type (tx_at oursBytes) call

-- what is answered
unfoldable pub judge_against : List ℕ → List ℕ → Tx → Call → Outcome Figures
judge_against lock type ours call = verdict (ruling_against lock type ours call)

unfoldable pub judge : List ℕ → List ℕ → List ℕ → Call → Outcome Figures
judge lock type oursBytes call = verdict (ruling lock type oursBytes call)

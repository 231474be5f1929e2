-- The values of each answer, as words for C, and the figures that come as words.
use Rattle.std.specs.Prelude.{ℕ, ◌+◌, ◌*◌, ◌^◌, List, [], ◌∷◌}
use Rattle.units.specs.Units.{in_shannons, Figures}
use Rattle.words.specs.Words.{low, high}
use Rattle.funding_cell.specs.declared.FundingRequest.{FundingRequest}
use Rattle.udt_cells.specs.Change.{Built}
use Rattle.negotiation.specs.Replay.{Summary}

-- how many bytes were written, or a number that a transaction was asked for
unfoldable pub count_words : ℕ → List ℕ
count_words n = n ∷ []

-- the funding cell: its capacity, which has 64 bits, and its token amount
unfoldable pub cell_words : Figures → List ℕ
cell_words f = low f.capacity ∷ low f.token ∷ high f.token ∷ []

-- the pick: how many cells, the change, and the capacity of its output, which has 64 bits
unfoldable pub pick_words : Built → List ℕ
pick_words b = b.taken ∷ low b.change ∷ high b.change ∷ low b.capacity ∷ []

-- a list of updates: how many they were, how many were accepted, and which transaction is then in force, 0 for the one at the start, k + 1 for that of update k
unfoldable pub replay_words : Summary → List ℕ
replay_words s = s.updates ∷ s.accepted ∷ s.at ∷ []

-- ---- figures that cross as words

-- what each side is to bring: the amounts in two words, the reserves in one
abbrev pub request : ℕ → ℕ → ℕ → ℕ → ℕ → ℕ → FundingRequest
request localLow localHigh localReserved remoteLow remoteHigh remoteReserved = record {
  local_amount = localLow + 2 ^ 64 * localHigh;
  local_reserved_ckb_amount = in_shannons localReserved;
  remote_amount = remoteLow + 2 ^ 64 * remoteHigh;
  remote_reserved_ckb_amount = in_shannons remoteReserved;
}

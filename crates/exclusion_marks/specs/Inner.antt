-- What the functions inside promise one another; no contract of a call cites it.
use Rattle.std.specs.Prelude.{ℕ, ◌+◌, cond, List, drop}
use Rattle.std.proofs.Math.Option.{some}
use Rattle.units.specs.declared.{BlockNumber.BlockNumber}
use Rattle.molecule.specs.Write.{splice}
use Rattle.out_points.specs.declared.{Byte32.Byte32}
use Rattle.exclusion_entries.specs.Exclusions.{has_hash}
use Rattle.exclusion_entries.specs.Entries.{state_bytes, map_entry_of}

-- the entry at `at` gets its block if it is of the hash
unfoldable pub commit_one_bytes : Byte32 → BlockNumber → ℕ → List ℕ → List ℕ
commit_one_bytes hash block at s = cond (has_hash hash (map_entry_of (drop at s))) (splice s (at + 32) (state_bytes (some block))) s

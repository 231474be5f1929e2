-- Writing a transaction from its fields (RFC 0019): the version, and each list in its list form; and what a call that writes answers and leaves in the lent
-- buffer (docs/RULES.md, "A peer's update arrives", row "writing", and above the table "Lent bytes beyond those written keep their value"; "The three demands",
-- 1: after a refusal every lent output byte is as before).
use Rattle.std.specs.Prelude.{ℕ, ◌+◌, Bool, ◌&&◌, cond, List, [], ◌∷◌, ◌++◌, length, leb}
use Rattle.arithmetic.specs.LittleEndian.{to_le}
use Rattle.error.specs.Outcome.{Outcome, fine, check, ◌>>=◌, ◌>>◌, putting}
use Rattle.molecule.specs.Items.{join, unwords}
use Rattle.molecule.specs.Molecule.{fixvec, dynvec, readable}
use Rattle.molecule.specs.Write.{splice}
use Rattle.transaction.specs.Ckb.{Byte32, Bytes, CellInput, CellDep, CellOutput}

unfoldable pub raw_bytes : ℕ → List ℕ → List ℕ → List ℕ → List ℕ → List ℕ → List ℕ
raw_bytes version deps headers inputs outputs datas = join (to_le 4 version ∷ deps ∷ headers ∷ inputs ∷ outputs ∷ datas ∷ [])

unfoldable pub tx_bytes : ℕ → List ℕ → List ℕ → List ℕ → List ℕ → List ℕ → List ℕ → List ℕ
tx_bytes version deps headers inputs outputs datas witnesses = join (raw_bytes version deps headers inputs outputs datas ∷ witnesses ∷ [])

-- what stands before the lists, from their lengths: both tables' headers, and the version
unfoldable pub tx_head : ℕ → ℕ → ℕ → ℕ → ℕ → ℕ → ℕ → List ℕ
tx_head version deps headers inputs outputs datas witnesses =
    let raw = 32 + deps + headers + inputs + outputs + datas in
    unwords ((12 + raw + witnesses) ∷ 12 ∷ (12 + raw) ∷ [])
    ++ unwords (raw ∷ 28 ∷ 32 ∷ (32 + deps) ∷ [])
    ++ unwords ((32 + deps + headers) ∷ (32 + deps + headers + inputs) ∷ (32 + deps + headers + inputs + outputs) ∷ version ∷ [])

-- each list is in its form
unfoldable pub in_form : List ℕ → List ℕ → List ℕ → List ℕ → List ℕ → List ℕ → Bool
in_form deps headers inputs outputs datas witnesses =
    readable (fixvec CellDep) deps && readable (fixvec Byte32) headers && readable (fixvec CellInput) inputs
    && readable (dynvec CellOutput) outputs && readable (dynvec Bytes) datas && readable (dynvec Bytes) witnesses

-- n bytes fit a transaction (133,120 with the 4 of its size) and a buffer of so many bytes
unfoldable pub fits : ℕ → ℕ → Bool
fits n room = leb n 133116 && leb n room

-- the buffer with a head at its start, where the whole transaction fits, and the place after it
unfoldable pub put_head : List ℕ → ℕ → ℕ → ℕ → ℕ → ℕ → ℕ → ℕ → List ℕ
put_head out version a b c d e f = cond (fits (44 + a + b + c + d + e + f) (length out)) (splice out 0 (tx_head version a b c d e f)) out

unfoldable pub head_end : List ℕ → ℕ → ℕ → ℕ → ℕ → ℕ → ℕ → ℕ
head_end out a b c d e f = cond (fits (44 + a + b + c + d + e + f) (length out)) 44 0

-- bytes, or the refusal n where what they are made from is not right
unfoldable pub bytes_if : ℕ → Bool → List ℕ → Outcome (List ℕ)
bytes_if n right bytes = do
  check n right
  fine bytes

-- over the lent buffer or 133,116 bytes
unfoldable pub in_room : List ℕ → Outcome (List ℕ) → Outcome (List ℕ)
in_room out made = do
  bytes ← made
  check 13 (fits (length bytes) (length out))
  fine bytes

-- a call that writes these bytes, or is refused as they are: how many they are, and the buffer after it
abbrev pub written : Outcome (List ℕ) → List ℕ → Outcome ℕ × List ℕ
written made out = putting length (λ bytes. bytes) (in_room out made) out

-- how long a transaction is
abbrev pub tx_size : List ℕ → List ℕ → List ℕ → List ℕ → List ℕ → List ℕ → ℕ
tx_size a b c d e f = 44 + length a + length b + length c + length d + length e + length f

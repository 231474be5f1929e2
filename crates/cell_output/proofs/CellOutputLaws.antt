-- Laws of specs/CellOutput.antt.
use Rattle.std.proofs.Common.{◌≡◌, ℕ, ◌+◌, ◌/◌, ◌%◌, ◌^◌, List, [], ◌∷◌, ◌++◌, length, get_or, ◌∙◌, append_assoc, append-nil, arith, length-append}
use Rattle.std.specs.Int.{w64, w128, to_le_bytes}
use mathlib.Core.List.{flatten}
use Rattle.arithmetic.specs.LittleEndian.{to_le}
use Rattle.arithmetic.proofs.LittleEndianLaws.{length-to_le, bytes-of}
use Rattle.units.specs.declared.Shannons.{Shannons}
use Rattle.units.specs.Units.{shannon_count}
use Rattle.molecule.specs.Items.{join, unwords, offsets}
use Rattle.molecule.specs.Write.{put_at, put_end}
use Rattle.molecule.proofs.ItemsLaws.{length-join}
use Rattle.cell_output.specs.CellOutput.{cell_output, output_head}

-- ---- the head

-- the four lowest bytes of a number of 64 bits
low_four : (m n : ℕ) {a : List ℕ} → a ≡ to_le_bytes w64 m → m % 2 ^ 32 ≡ n % 2 ^ 32 → get_or a 0 0 ∷ get_or a 1 0 ∷ get_or a 2 0 ∷ get_or a 3 0 ∷ [] ≡ to_le 4 n
unfolding to_le
low_four m n e h =
    let e₀ : m % 256 ≡ n % 256 = omega arith in
    let e₁ : m / 256 % 256 ≡ n / 256 % 256 = omega arith in
    let e₂ : m / 65536 % 256 ≡ n / 256 / 256 % 256 = omega arith in
    let e₃ : m / 16777216 % 256 ≡ n / 256 / 256 / 256 % 256 = omega arith in
    rw e (cc)

low_eight : (n : ℕ) {a : List ℕ} → a ≡ to_le 16 n
    → get_or a 0 0 ∷ get_or a 1 0 ∷ get_or a 2 0 ∷ get_or a 3 0 ∷ get_or a 4 0 ∷ get_or a 5 0 ∷ get_or a 6 0 ∷ get_or a 7 0 ∷ [] ≡ to_le 8 n
unfolding to_le
low_eight n e = rw e

pub head_is : (c : Shannons) (lock type : ℕ) {a b z : List ℕ} → a ≡ to_le_bytes w64 (((24 + lock) % 2 ^ 64 + type) % 2 ^ 64) → b ≡ to_le_bytes w64 ((24 + lock) % 2 ^ 64)
    → z ≡ to_le_bytes w128 c.0
    → get_or a 0 0 ∷ get_or a 1 0 ∷ get_or a 2 0 ∷ get_or a 3 0 ∷ 16 ∷ 0 ∷ 0 ∷ 0 ∷ 24 ∷ 0 ∷ 0 ∷ 0
    ∷ get_or b 0 0 ∷ get_or b 1 0 ∷ get_or b 2 0 ∷ get_or b 3 0
    ∷ get_or z 0 0 ∷ get_or z 1 0 ∷ get_or z 2 0 ∷ get_or z 3 0 ∷ get_or z 4 0 ∷ get_or z 5 0 ∷ get_or z 6 0 ∷ get_or z 7 0 ∷ []
    ≡ output_head (shannon_count c) lock type
unfolding output_head unwords to_le
head_is c lock type ea eb ez =
    let p = low_four (((24 + lock) % 2 ^ 64 + type) % 2 ^ 64) (24 + lock + type) ea (omega arith) in
    let q = low_four ((24 + lock) % 2 ^ 64) (24 + lock) eb (omega arith) in
    let r = low_eight c.0 (bytes-of 16 c.0 ez) in
    cc

-- ---- the output

module _ (c : ℕ) (lock type : List ℕ) where
  body_length : length (flatten (to_le 8 c ∷ lock ∷ type ∷ [])) ≡ 8 + length lock + length type
  unfolding flatten
  body_length = simp (length-append, length-to_le) (omega arith)

  pub output-length : length (cell_output c lock type) ≡ 24 + length lock + length type
  unfolding cell_output
  output-length = length-join _ ∙ omega (arith, body_length)

  runs : output_head c (length lock) (length type) ++ lock ++ type ≡ cell_output c lock type
  unfolding output_head cell_output join unwords offsets flatten
  runs =
      let n : 16 + length (flatten (to_le 8 c ∷ lock ∷ type ∷ [])) ≡ 24 + length lock + length type = omega (arith, body_length) in
      rw (n, length-to_le 8 c) (simp (append_assoc, append-nil))

  -- the head, the lock and the type, as they are put
  module _ {x : List ℕ} (ex : x ≡ output_head c (length lock) (length type)) where
    pub output_is : x ++ (lock ++ (type ++ [])) ≡ cell_output c lock type
    output_is = rw (ex, append-nil, ← append_assoc) runs

    module _ (out : List ℕ) (at : ℕ) where
      pub put_output : {after : List ℕ} → after ≡ put_at out at (x ++ (lock ++ (type ++ []))) → after ≡ put_at out at (cell_output c lock type)
      put_output e = rw output_is at e

      pub end_output : {next : ℕ} → next ≡ put_end out at (x ++ (lock ++ (type ++ []))) → next ≡ put_end out at (cell_output c lock type)
      end_output e = rw output_is at e

-- The change of the pick (docs/RULES.md, "Our own side"): "A remainder makes one change output with our lock, the type and 16 data bytes; its capacity is
-- 100,000,000 shannons times (8 + 33 + lock args + 33 + type args + 16)." And what the call answers and leaves in the lent buffer.
use Rattle.std.specs.Prelude.{ℕ, cond, List, [], length, eqb}
use Rattle.units.specs.Units.{shannon_count, token_count}
use Rattle.units.specs.Fee.{change_shannons}
use Rattle.molecule.specs.Molecule.{readable, option}
use Rattle.molecule.specs.Layout.{items_of}
use Rattle.transaction.specs.Ckb.{Script, TokenCells}
use Rattle.transaction.specs.Tx.{args_of}
use Rattle.error.specs.Outcome.{Outcome, fine, check, ◌>>=◌, ◌>>◌, putting}
use Rattle.udt_cells.specs.declared.UdtInputsOutputs.{UdtInputsOutputs}
use Rattle.transaction_writer.specs.Written.{fits}
use Rattle.cell_output.specs.CellOutput.{cell_output}
use Rattle.udt_cells.specs.Pick.{Pick, pick_typed}

-- the pick, and the capacity of the change output: 0 where there is none
pub record Built : Type 0 where
  pub taken : ℕ
  pub change : ℕ
  pub capacity : ℕ

abbrev pub built : ℕ → ℕ → ℕ → Outcome Built
built taken change capacity = fine (record { taken = taken; change = change; capacity = capacity })

-- in numbers
abbrev pub built_of : UdtInputsOutputs → Built
built_of b = record { taken = b.taken; change = token_count b.change; capacity = shannon_count b.capacity }

abbrev pub capacity_for : List ℕ → List ℕ → ℕ
capacity_for source type = change_shannons (length (args_of source)) (length (args_of type))

-- what the call makes: the figures that it answers, and the change output in bytes, none where there is no such output
pub record Made : Type 0 where
  pub figures : Built
  pub output : List ℕ

abbrev pub made : ℕ → ℕ → ℕ → List ℕ → Outcome Made
made taken change capacity output = fine (record { figures = record { taken = taken; change = change; capacity = capacity }; output = output })

-- with a change output; over the lent buffer, of so many bytes, or over 133,116 bytes: 13
unfoldable pub with_output : ℕ → ℕ → ℕ → List ℕ → ℕ → Outcome Made
with_output taken change capacity output room = do
  check 13 (fits (length output) room)
  made taken change capacity output

-- so many cells were taken, and so many tokens are left of them
unfoldable pub with_change : List ℕ → List ℕ → Pick → ℕ → Outcome Made
with_change source type pick room =
    cond (eqb pick.change 0) (made pick.taken 0 0 [])
    (with_output pick.taken pick.change (capacity_for source type) (cell_output (capacity_for source type) source type) room)

-- a script or lent list unreadable
unfoldable pub lent : List ℕ → List ℕ → List ℕ → Outcome (Unit {0})
lent cells type source = do
  check 3 (readable TokenCells cells)
  check 3 (readable (option Script) type)
  check 3 (readable Script source)

unfoldable pub udt_made : List ℕ → List ℕ → List ℕ → ℕ → ℕ → Outcome Made
udt_made cells type source amount room = do
  lent cells type source
  pick ← pick_typed type amount (items_of cells)
  with_change source type pick room

-- what is answered, and the buffer after it
abbrev pub putting_made : Outcome Made → List ℕ → Outcome Built × List ℕ
putting_made made out = putting (λ m. m.figures) (λ m. m.output) made out

unfoldable pub udt_inputs_outputs : List ℕ → List ℕ → List ℕ → ℕ → List ℕ → Outcome Built × List ℕ
udt_inputs_outputs cells type source amount out = putting_made (udt_made cells type source amount (length out)) out

-- Worked examples, computed by the definitions.
use Rattle.std.proofs.Common.{◌≡◌, [], ◌∷◌, refl}
use mathlib.Core.List.{flatten}
use Rattle.arithmetic.specs.LittleEndian.{to_le, num_at}
use Rattle.molecule.specs.Layout.{span, word, fix_count}
use Rattle.molecule.specs.Items.{fix_list}
use Rattle.base_inputs.specs.BaseInputs.{input_list}

-- of no present transaction and with nothing picked: an empty list
none : fix_list (input_list [] [] 0) ≡ 0 ∷ 0 ∷ 0 ∷ 0 ∷ []
unfolding fix_list input_list span fix_count word num_at to_le flatten
none = refl

-- All that bytes and the fields of a transaction compute with: a proof that unfolds `computing_parts` unfolds every definition on its line.
use mathlib.Core.List.{flatten}
use mathlib.Core.Option.{bind}
use Rattle.arithmetic.specs.LittleEndian.{le, to_le, num_at}
use Rattle.molecule.specs.Partial.{only, pick, there, both, each}
use Rattle.molecule.specs.Items.{join, unwords, offsets, words, cuts, items, split}
use Rattle.molecule.specs.Molecule.{encode, size, chunks, pieces, one_byte, decode, readable}
use Rattle.molecule.specs.Layout.{part, word, start, span, field_of, item_count, item_of, fix_count, fix_item, content, entry_of}
use Rattle.lists.specs.Lists.{eq_bytes, agree, contains, contains_all, is_empty}
use Rattle.transaction.specs.Tx.{raw_field, witnesses_of, read_tx, capacity_of, lock_of, type_of, first_of, data_of, read_ours}
use Rattle.error.specs.Outcome.{check, check_with, given, ◌>>=◌, ◌>>◌}
use Rattle.units.specs.Fee.{required_fee}

unfoldable pub computing_parts : Unit {0}
unfolding encode join unwords offsets flatten to_le le num_at only pick there both each words cuts items split size chunks pieces one_byte decode readable bind part word start span field_of item_count item_of fix_count fix_item content entry_of eq_bytes agree contains contains_all raw_field witnesses_of read_tx capacity_of lock_of type_of first_of data_of read_ours check check_with given ◌>>=◌ ◌>>◌ is_empty required_fee
computing_parts = tt

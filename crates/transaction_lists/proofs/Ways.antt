-- What closes the goals of this crate's functions.
use Rattle.std.proofs.Common.{rules}
use Rattle.reader.proofs.TransactionLaws.{reads_version}
use Rattle.molecule.proofs.LayoutLaws.{part-empty}
use Rattle.transaction_lists.proofs.ListLaws.{unread, none-beyond, item-none, place_none, count-cell-deps, count-header-deps, count-inputs, count-outputs, count-outputs_data, count-witnesses, item-cell-dep, place-cell-dep, item-header-dep, place-header-dep, item-input, place-input, item-output, place-output, item-output_data, place-output_data, item_witness, place_witness}

pub ruleset ways = (rules, part-empty, reads_version, unread, none-beyond, item-none, place_none, count-cell-deps, count-header-deps, count-inputs, count-outputs, count-outputs_data, count-witnesses, item-cell-dep, place-cell-dep, item-header-dep, place-header-dep, item-input, place-input, item-output, place-output, item-output_data, place-output_data, item_witness, place_witness)

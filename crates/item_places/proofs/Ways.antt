-- What closes the needs of this crate's functions: `search ways`.
use borrow.Author.Rules.{rules}
use Rattle.molecule.proofs.LayoutLaws.{mul_fits, past_fits, end_below}
use Rattle.item_places.proofs.AtLaws.{part_at, field_at_lem, fix_none-at, fix_at, item-at, entry_at, entry-fits, raw_fits, raw_at_lem, in_list_fits, fix_in_list, item_in_list, entry_in_list, witness_fits, witness_in_list, at-cell-dep, at-header-dep, at-input, at-output, at-output_data, at_witness}
use Rattle.item_places.proofs.PlacingLaws.{placing_none, placing_in, placing_more, placing_end}

pub ruleset ways = (rules, mul_fits, past_fits, end_below, part_at, field_at_lem, fix_none-at, fix_at, item-at, entry_at, entry-fits, raw_fits, raw_at_lem, in_list_fits, fix_in_list, item_in_list, entry_in_list, witness_fits, witness_in_list, at-cell-dep, at-header-dep, at-input, at-output, at-output_data, at_witness, placing_none, placing_in, placing_more, placing_end)

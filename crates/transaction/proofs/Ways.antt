-- What closes the needs of this crate's functions that read fields: `search ways`. What tests a table is closed by Tests.antt.
use borrow.Author.Rules.{rules}
use Rattle.transaction.proofs.FieldLaws.{raw_field_lem, raw_place, u32_of, fix_count-of, count_of, fix_item-of, item-of, entry-of, fix_item-place, item-of-place, entry-of-place, witnesses_are, args_are, byte_of, content-place, capacity-below, capacity-is, lock-is, type-is, previous_is, first-is, data_is}

pub ruleset ways = (rules, raw_field_lem, raw_place, u32_of, fix_count-of, count_of, fix_item-of, item-of, entry-of, fix_item-place, item-of-place, entry-of-place, witnesses_are, args_are, byte_of, content-place, capacity-below, capacity-is, lock-is, type-is, previous_is, first-is, data_is)

-- What closes the needs of this crate's functions: `search ways`.
use borrow.Author.Rules.{rules}
use Rattle.hold_records.proofs.ListLaws.{length_mapped}
use Rattle.held_cells.proofs.TestLaws.{owner_funding, owner_tower}
use Rattle.held_cells.proofs.AddLaws.{funding-of, add_none, add-more, add-end, add-count}
use Rattle.held_cells.proofs.CallLaws.{lock_short, lock-done, named-unread, named_unspent, named_short, named-done, funding-unread, funding-full, funding-done, take-unread, take_unspent, take-live}

pub ruleset ways = (rules, length_mapped, owner_funding, owner_tower, funding-of, add_none, add-more, add-end, lock_short, lock-done, named-unread, named_unspent, named_short, named-done, funding-unread, funding-full, funding-done, take-unread, take_unspent, take-live, add-count)

-- What closes the needs of this crate's functions: `search ways`.
use borrow.Author.Rules.{rules}
use Rattle.hold_records.proofs.ListLaws.{length_mapped}
use Rattle.hold_records.proofs.LoopLaws.{keep-end, keep_most}
use Rattle.table_bytes.proofs.LoopLaws.{read_none, read_more, put_none, put_more, put_long}
use Rattle.held_bytes.proofs.BytesLaws.{hold-funding, hold-tower, place-funding, place-tower, fit-funding, fit-tower, held_read, sift_start, sift_yes, sift_no, held_short, held_none, held-room, held-long, held_put, held_means}
use Rattle.held_bytes.proofs.CallLaws.{left-done, left-refused, lent_bad, lock_bad, named_bad, take_bad, lock-refused, lock-left, take-call, named-call}

pub ruleset ways = (rules, length_mapped, keep-end, keep_most, read_none, read_more, put_none, put_more, put_long, hold-funding, hold-tower, place-funding, place-tower, fit-funding, fit-tower, held_read, sift_start, sift_yes, sift_no, held_short, held_none, held-room, held-long, held_put, held_means, left-done, left-refused, lent_bad, lock_bad, named_bad, take_bad, lock-refused, lock-left, take-call, named-call)

-- What closes the needs of this crate's functions: `search ways`.
use Rattle.std.proofs.Common.{rules}
use Rattle.records.proofs.RecordLaws.{our_lock_lem, index-fits, refuse_unreadable, refuse_why, brings-count, brings-is}
use Rattle.records.proofs.GatherLaws.{gather_head, gather_start, gather_falls, gather_end, gather_dead, gather_unread, gather_ours, gather_more}

pub ruleset ways = (rules, our_lock_lem, index-fits, refuse_unreadable, refuse_why, brings-count, brings-is, gather_head, gather_start, gather_falls, gather_end, gather_dead, gather_unread, gather_ours, gather_more)

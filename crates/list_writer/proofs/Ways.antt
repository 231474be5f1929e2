-- What closes the needs of this crate's functions: `search ways`.
use borrow.Author.Rules.{rules}
use Rattle.list_writer.proofs.JoinLaws.{each_more, stretches_start, stretches_put, stretches_end, words_start, words_put, words_end}
use Rattle.list_writer.proofs.SpanLaws.{body_none, places-none}
use Rattle.list_writer.proofs.LaterLaws.{later_body, later_places, later-sized, later-put, later-fits, later-placed}
use Rattle.list_writer.proofs.HeadLaws.{nothing, put_head_lem}
use Rattle.list_writer.proofs.WholeLaws.{whole_out, whole-out-end, whole_room, whole_in, whole_in_end, put_parts}

pub ruleset ways = (rules, each_more, stretches_start, stretches_put, stretches_end, words_start, words_put, words_end, body_none, places-none, nothing, later_body, later_places, later-sized, later-put, later-fits, later-placed, put_head_lem, put_parts, whole_out, whole-out-end, whole_room, whole_in, whole_in_end)

-- What closes the needs of this crate's functions: `search ways`.
use Rattle.std.proofs.Common.{rules}
use Rattle.list_writer.proofs.SpanLaws.{body_is, body_none}
use Rattle.list_writer.proofs.HeadLaws.{nothing}
use Rattle.list_writer.proofs.AnswerLaws.{list_out, list_out-end, list_in_lem, list_in_end}
use Rattle.base_inputs.proofs.InputLaws.{run_is, picked_more, picked_put, turn_room, turn_more, inputs_far, inputs_cap, inputs-room, picks-few, picked-room, inputs_put}

pub ruleset ways = (rules, body_is, body_none, nothing, list_out, list_out-end, list_in_lem, list_in_end, run_is, picked_more, picked_put, turn_room, turn_more, inputs_far, inputs_cap, inputs-room, picks-few, picked-room, inputs_put)

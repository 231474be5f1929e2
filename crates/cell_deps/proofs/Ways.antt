-- What closes the needs of this crate's functions: `search ways`.
use borrow.Author.Rules.{rules}
use Rattle.list_writer.proofs.SpanLaws.{body_is, body_none}
use Rattle.list_writer.proofs.HeadLaws.{nothing}
use Rattle.list_writer.proofs.AnswerLaws.{list_out, list_out-end}
use Rattle.cell_deps.proofs.DepLaws.{any_none, any_one, count_all}
use Rattle.cell_deps.proofs.PutLaws.{chosen-span, deps-size, size-dep, put_dep, deps-room, deps_put, deps_put_end}

pub ruleset ways = (rules, any_none, any_one, count_all, body_is, body_none, nothing, chosen-span, list_out, list_out-end, deps-size, size-dep, put_dep, deps-room, deps_put, deps_put_end)

-- What closes the needs of this crate's functions: `search ways`.
use borrow.Author.Rules.{rules}
use Rattle.limits.proofs.LimitsLaws.{limit_size, limit_inputs, limit_outputs, limit_cell_deps, limit_header_deps}

pub ruleset ways = (rules, limit_size, limit_inputs, limit_outputs, limit_cell_deps, limit_header_deps)

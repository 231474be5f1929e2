-- What closes the needs of this crate's functions: `search ways`.
use Rattle.std.proofs.Common.{rules}
use Rattle.cell_output.proofs.CellOutputLaws.{head_is, put_output, end_output}

pub ruleset ways = (rules, head_is, put_output, end_output)

-- What closes the needs of this program's functions: `search ways`.
use borrow.Author.Rules.{rules}
use Rattle.case_file.proofs.LineLaws.{line-within}

pub ruleset ways = (rules, line-within)

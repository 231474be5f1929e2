-- What closes the needs of this crate's functions: `search ways`.
use borrow.Author.Rules.{rules}
use Rattle.comparison.proofs.ComparisonLaws.{version-same, headers-on, inputs_on, deps_fewer, deps-kept, outputs-kept, data_kept, funding-none, funding-lock, funding-type, funding-typed, funding_data}

pub ruleset ways = (rules, version-same, headers-on, inputs_on, deps_fewer, deps-kept, outputs-kept, data_kept, funding-none, funding-lock, funding-type, funding-typed, funding_data)

-- What each table is, in the tests that code makes of it, and what may be missing: with these the check proves what tests a table.
use Rattle.molecule.proofs.HeaderLaws.{option_is}
use Rattle.transaction.proofs.TableLaws.{raw_is}
use Rattle.transaction.proofs.WordLaws.{script-by_words, output-by_words}
use Rattle.transaction.proofs.ListLaws.{out_point_is, out-points, cell-deps, inputs}

pub ruleset tests = (option_is, raw_is, script-by_words, output-by_words, out_point_is, out-points, cell-deps, inputs)

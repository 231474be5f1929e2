-- All that the verdict on an update computes with: a proof that unfolds `computing_updates` unfolds every definition on its line, and those of `computing_parts`.
use Rattle.rules.specs.Records.{record_at, lent_at}
use Rattle.rules.specs.Surplus.{total, first, has_amount, amount_of, is_of, surplus}
use Rattle.rules.specs.Surplus as figure
use Rattle.rules.specs.Judge.{scripts, within, at_first, has_lock, no_data_untyped, comparison, live, live_cells, spent, token_delta, funding_output_delta, covered, counted, tally, settled, token_account, accounts, contribution, opening, closing, ruling_against, ruling, judge_against, judge}
use Rattle.rules.specs.Lines.{first_failing, verdict, followed, answer, known, line_with, line_holds, failing}
use Rattle.rules.specs.Lines as lines
use Rattle.case_parts.proofs.Computing.{computing_parts}

unfoldable pub computing_updates : Unit {0}
unfolding computing_parts record_at lent_at total first figure.cell_capacity has_amount amount_of is_of surplus scripts within at_first has_lock no_data_untyped comparison live live_cells spent token_delta funding_output_delta covered counted tally settled token_account accounts contribution opening closing ruling_against ruling judge_against judge first_failing verdict followed answer known line_with line_holds failing lines.◌>>=◌ lines.◌>>◌
computing_updates = tt

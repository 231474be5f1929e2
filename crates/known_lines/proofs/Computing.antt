-- All that the lines compute with: a proof that unfolds `computing_lines` unfolds every definition on its line.
use Rattle.known_outcomes.proofs.Computing.{computing}
use Rattle.known_lines.specs.Lines.{lines}

unfoldable pub computing_lines : Unit {0}
unfolding computing lines
computing_lines = tt

use Rattle.picks.proofs.Ways.{ways}
use Rattle.picks.proofs.Sorted.tally.Goals as goal

pub loop-i-init : goal.loop-i-init
loop-i-init c = search ways

pub loop-i-preserved-then-not-is_free : goal.loop-i-preserved-then-not-is_free
loop-i-preserved-then-not-is_free c = search ways

pub loop-i-preserved-then-last-ge-MOST_RECORDS : goal.loop-i-preserved-then-last-ge-MOST_RECORDS
loop-i-preserved-then-last-ge-MOST_RECORDS c = search ways

pub loop-i-preserved : goal.loop-i-preserved
loop-i-preserved c = search ways

pub returns : goal.returns
returns c = search ways

use Rattle.std.proofs.Common.{refl, ◌∙◌}
use Rattle.exclusion_entries.proofs.SurveyLaws.{sweep_touched, sweep_passed}
use Rattle.exclusion_entries.proofs.Ways.{ways}
use Rattle.exclusion_entries.proofs.read_map.Goals.{then-touch, else-touch}
use Rattle.exclusion_entries.proofs.read_map.Goals as goal

pub loop-init : goal.loop-init
loop-init c = search ways

pub returns-then-not-is_entry : goal.returns-then-not-is_entry
returns-then-not-is_entry c = search ways

pub loop-preserved : goal.loop-preserved
loop-preserved c = elim c.if-touch.branch [
  | then-touch w ↦ sweep_touched c.loop.invariant c.loop-test.true refl c.point_count-c.ensures c.if-left-c.false c.is_entry.ensures c.if-not-is_entry.false c.entry_size-at.ensures (w.v-is ∙ w.touched-v.ensures)
  | else-touch w ↦ sweep_passed c.loop.invariant c.loop-test.true refl c.point_count-c.ensures c.if-left-c.false c.is_entry.ensures c.if-not-is_entry.false c.words_of-w.ensures c.may_touch-touch.ensures c.entry_size-at.ensures w.if-touch.false (w.v-is ∙ w.stayed-v.ensures)
]

use Rattle.std.proofs.Common.{refl}
use Rattle.funding_builder.proofs.AssembleLaws.{room-few}
use Rattle.funding_builder.proofs.assemble.Assembly.write.Goals as goal

pub write_in-requires-clause-roomy : goal.write_in-requires-clause-roomy
write_in-requires-clause-roomy c = room-few _ _ c.dep_lists.ensures c.dep_count.ensures c.if-dep_count-le-FEW_DEPS.true refl refl

use Rattle.funding_builder.proofs.AssembleLaws.{assembled}
use Rattle.funding_builder.proofs.assemble.Assembly.write_with.Goals as goal

pub returns : goal.returns
returns c =
    assembled _ _ _ _ _ _ _ _ _ _ _ _ _ c.requires.readable c.requires.roomy c.dep_lists-deps.ensures c.are_bytes.ensures c.of.ensures
    c.in-Some.ensures.0 c.in-Some.ensures.1 c.make_plan.ensures c.write.ensures

use Rattle.std.proofs.Common.{rules}
use Rattle.lists.proofs.BlockLaws.{two_blocks}
use Rattle.lists.proofs.same_script.Goals as goal

pub returns-then-same_block : goal.returns-then-same_block
returns-then-same_block c = rw (two_blocks _ _ c.if-a-b.false c.if-a-lt-BLOCK.false c.if-a-gt-TWO_BLOCKS.false) (search rules)

pub returns-else-same_block : goal.returns-else-same_block
returns-else-same_block c = rw (two_blocks _ _ c.if-a-b.false c.if-a-lt-BLOCK.false c.if-a-gt-TWO_BLOCKS.false) (search rules)

use Rattle.std.proofs.Common.{◌∙◌}
use Rattle.arithmetic.proofs.LittleEndianLaws.{u64_is}
use Rattle.arithmetic.proofs.little_endian.u64_at.Goals as goal

pub returns : goal.returns
returns c = u64_is c.args.s.now c.args.at c.if-s-lt8.false c.if-s-at.false (c.from.ensures ∙ c.u32_at.ensures) (c.from-2.ensures ∙ c.u32_at-2.ensures)

use Rattle.std.proofs.Common.{arith}
use Rattle.arithmetic.specs.LittleEndian.{AllBytes}
use Rattle.transaction_writer.proofs.Ways.{ways}
use Rattle.transaction_writer.proofs.rewrite.Goals as goal

pub returns : goal.returns
returns c = let bytes : AllBytes c.args.s.now = λ i. omega (arith, c.type_inv.s i) in search ways

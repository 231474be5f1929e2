use Rattle.std.proofs.Common.{arith, length-take-le}
use Rattle.item_index.specs.Keys.{keys_of}
use Rattle.item_index.proofs.SortLaws.{index_built}
use Rattle.item_index.proofs.Keys.build.Goals as goal

pub returns : goal.returns
returns c = λ h l. index_built (keys_of c.args.self) c.args.n c.args.s.now c.count_up.new.s c.sort.new.s h (omega (arith, length-take-le c.args.n c.args.s.now h)) c.count_up.ensures c.sort.ensures.same c.sort.ensures.order

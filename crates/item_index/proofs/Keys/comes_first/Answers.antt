use Rattle.std.proofs.Common.{refl}
use Rattle.item_index.specs.Keys.{keys_of}
use Rattle.item_index.proofs.ComesLaws.{first_less, first-same, first_more}
use Rattle.item_index.proofs.Keys.comes_first.Goals as goal

pub returns-in-Less : goal.returns-in-Less
returns-in-Less c = first_less (keys_of c.args.self) c.key.ensures c.key-2.ensures c.in-Less.ensures

pub returns-in-Equal : goal.returns-in-Equal
returns-in-Equal c = first-same (keys_of c.args.self) c.key.ensures c.key-2.ensures c.in-Equal.ensures refl

pub returns-in-Greater : goal.returns-in-Greater
returns-in-Greater c = first_more (keys_of c.args.self) c.key.ensures c.key-2.ensures c.in-Greater.ensures

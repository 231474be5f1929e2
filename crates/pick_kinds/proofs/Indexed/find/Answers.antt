use Rattle.pick_kinds.proofs.PlaceLaws.{first-is}
use Rattle.pick_kinds.proofs.Indexed.find.Goals as goal

pub returns : goal.returns
returns c = first-is c.args.self.are_places c.args.list.now c.args.k c.requires.whole c.requires.k_bound c.fix_item.ensures.result_value c.place_of.ensures

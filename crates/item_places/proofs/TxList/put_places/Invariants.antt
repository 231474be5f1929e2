use Rattle.transaction_lists.specs.Kinds.{list_number}
use Rattle.item_places.proofs.PlacingLaws.{Placing}
use Rattle.item_places.proofs.TxList.put_places.Given as goal

abbrev pub invariant-loop-i : goal.invariant-loop-i
invariant-loop-i l = Placing l.self.tx.now (list_number l.self.kind) l.initial.places l.self.count l.i l.places

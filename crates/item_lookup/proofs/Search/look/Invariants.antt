use Rattle.item_lookup.proofs.Search.look.Given as goal

abbrev pub invariant-loop : goal.invariant-loop
invariant-loop l = Unit {0}

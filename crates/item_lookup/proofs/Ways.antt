-- What closes the needs of this crate's functions: `search ways`.
use Rattle.std.proofs.Common.{rules}
use Rattle.lists.proofs.LoopLaws.{seek_end, seek_more, seek_found, among_end, among_more, among_stop}
use Rattle.item_lookup.proofs.AllLaws.{all_whole, all_extends, scan_start, found, some-start, no_place, place_same, all_rest, all_same}
use Rattle.item_lookup.proofs.ChainLaws.{met_here, unmet_on, unmet_here, unmet_none, chain_missing, chain_rest}

pub ruleset ways = (rules, seek_end, seek_more, seek_found, among_end, among_more, among_stop, all_whole, all_extends, scan_start, found, some-start, no_place, place_same, all_rest, all_same, met_here, unmet_on, unmet_here, unmet_none, chain_missing, chain_rest)

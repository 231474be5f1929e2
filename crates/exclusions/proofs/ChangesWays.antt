-- What closes the goals of the functions of module `changes`.
use Rattle.std.proofs.Common.{rules}
use Rattle.exclusion_entries.proofs.StayLaws.{stays_few}
use Rattle.exclusions.proofs.SiftLaws.{one-room, one_goes, bytes_go, one-gives, bytes_give, one_stays, bytes-stay, sift_room, sift_more, sift_end, sift_start}
use Rattle.exclusions.proofs.PutLaws.{new_room, new_put, place_within, drop_put, replace_room, replace_put}

pub ruleset ways = (rules, stays_few, one-room, one_goes, bytes_go, one-gives, bytes_give, one_stays, bytes-stay, sift_room, sift_more, sift_end, sift_start, new_room, new_put, place_within, drop_put, replace_room, replace_put)

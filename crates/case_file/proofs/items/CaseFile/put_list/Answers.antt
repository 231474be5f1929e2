use Rattle.case_file.proofs.ListLaws.{list_offsets-room, list_small, list_entries-room, list_put}
use Rattle.case_file.proofs.items.CaseFile.put_list.Goals as goal

pub put_offsets-at-requires : goal.put_offsets-at-requires
put_offsets-at-requires c = let h = c.requires in (list_offsets-room _ _ _ _ _ h c.put_u32-at.ensures.out_after c.put_u32-at.ensures.value, list_small _ _ _ _ _ h c.put_u32-at.ensures.out_after c.put_u32-at.ensures.value)

pub put_entries-requires : goal.put_entries-requires
put_entries-requires c = let h = c.requires in list_entries-room _ _ _ _ _ h c.put_u32-at.ensures.out_after c.put_u32-at.ensures.value c.put_offsets-at.ensures

pub returns : goal.returns
returns c = let h = c.requires in list_put _ _ _ _ _ h c.put_u32-at.ensures.out_after c.put_u32-at.ensures.value c.put_offsets-at.ensures c.put_entries.ensures

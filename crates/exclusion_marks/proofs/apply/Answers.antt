use Rattle.std.proofs.Common.{◌≡◌, ◌+◌, ◌*◌, ◌≤◌, min, length, sym, ◌∙◌, arith}
use Rattle.std.specs.Prelude.{Ok}
use Rattle.std.proofs.lemmas.Grind.{common_steps}
use Rattle.exclusion_entries.specs.declared.Rule.{Rule}
use Rattle.exclusion_entries.specs.Inner.{survey_of}
use Rattle.exclusion_marks.proofs.CallLaws.{apply-done}
use Rattle.exclusion_marks.proofs.apply.Goals as goal

pub returns : goal.returns
returns c =
    let v = c.in_ok-v.v in
    let read : Ok v ≡ survey_of Rule.All c.args.map.now = sym c.in_ok-v.was ∙ c.read_map.ensures in
    let room : 4 + 36 * v.points ≤ min (length c.args.out.now) 133116 = grind (arith, common_steps) in
    apply-done c.args.map.now c.args.out.now read room c.put_excluded.ensures c.put_u32.ensures.out_after

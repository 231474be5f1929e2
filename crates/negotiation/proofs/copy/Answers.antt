use Rattle.std.proofs.Common.{◌≡◌, ◌+◌, ◌-◌, length, ◌∙◌, refl, arith}
use Rattle.std.proofs.lemmas.Slice.{put_mid-paste}
use Rattle.std.proofs.lemmas.List.{take_all}
use Rattle.molecule.specs.Write.{splice}
use Rattle.negotiation.proofs.copy.Goals as goal

pub returns : goal.returns
unfolding splice
returns c =
    let n = length c.args.words.now in
    let k : n ≡ c.args.at + n - c.args.at = omega arith in
    put_mid-paste c.args.at (c.args.at + n - c.args.at) c.args.answers.now c.copy_from_slice.new.self c.args.words.now n c.copy_from_slice.ensures.after k refl
    ∙ rw (take_all n c.args.words.now (omega arith))

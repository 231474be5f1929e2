use Rattle.std.proofs.Common.{◌≡◌, ◌+◌, ◌-◌, ℕ, length, take, drop, ap, ◌∙◌, refl, arith, length-drop}
use Rattle.std.proofs.lemmas.Slice.{put_mid-paste}
use Rattle.std.proofs.lemmas.List.{take_all}
use lib.Seq.{length-take-le}
use Rattle.molecule.specs.Write.{splice}
use Rattle.exclusions.proofs.entry.copy_point.Goals as goal

pub returns : goal.returns
unfolding splice
returns c =
    let at = c.args.at in
    let from = c.args.from in
    let p = take 36 (drop from c.args.src.now) in
    let l : length p ≡ 36 = length-take-le 36 (drop from c.args.src.now) (rw (length-drop from c.args.src.now) (omega arith)) in
    let k : length p ≡ at + 36 - at = omega arith in
    let z : from + 36 - from ≡ 36 = omega arith in
    put_mid-paste at (at + 36 - at) c.args.out.now c.copy_from_slice.new.self p (length p) (c.copy_from_slice.ensures.after ∙ ap (λ (n : ℕ). take n (drop from c.args.src.now)) z) k refl
    ∙ rw (take_all (length p) p (omega arith))

use Rattle.std.proofs.Common.{◌≡◌, ◌+◌, ◌/◌, ap, ap₂, ◌∙◌, refl, ℕ}
use lib.Dec.{eqb}
use denote.Enum.Declared.{tag_of}
use Rattle.case_file.specs.contracts.items.Kind.{the_type}
use Rattle.case_file.specs.CaseFile.{kind_at}
use Rattle.case_file.specs.declared.items.Kind.{Kind}
use Rattle.case_file.specs.declared.items.Kind.TheVariants.{Ours, Peer, Lock, Udt, Source, Rate, Output, Data, NotLive}
use Rattle.case_file.specs.Walk.{kind_number}
use Rattle.case_file.proofs.ItemLaws.{kind_is}
use Rattle.case_file.proofs.items.CaseFile.is_kind.Goals as goal

pub returns : goal.returns
returns c =
    let n : tag_of the_type c.args.kind + 1 ≡ kind_number c.args.kind = elim c.args.kind as (λ k. tag_of the_type k + 1 ≡ kind_number k) [
      | Ours ↦ refl
      | Peer ↦ refl
      | Lock ↦ refl
      | Udt ↦ refl
      | Source ↦ refl
      | Rate ↦ refl
      | Output ↦ refl
      | Data ↦ refl
      | NotLive ↦ refl
    ] in
    ap₂ eqb (ap (λ (x : ℕ). x / 268435456) c.u32_at.ensures ∙ kind_is c.args.self.bytes.now c.args.at) n

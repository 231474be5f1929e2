-- The lists put one after the other.
use mathlib.Core.Path.{◌≡◌, ◌∙◌}
use Prim.Native.Nat.{ℕ, ◌+◌, ◌≤◌, min}
use mathlib.Core.List.{List, [], ◌∷◌, ◌++◌, flatten, append_assoc, append-nil}
use native.Mathlib.Omega.{arith}
use lib.ListN.{length, length-append}
use Rattle.molecule.specs.Write.{put_at, put_end, Put}
use Rattle.molecule.proofs.WriteLaws.{then, and_put, as_bytes, length-kept}
use Rattle.transaction_writer.specs.declared.Sizes.{Sizes}
use Rattle.transaction_writer.specs.Written.{put_head, head_end}
use Rattle.transaction_writer.proofs.PutLaws.{head_did, head_length, head_runs}
use Rattle.molecule.specs.Items.{fix_list}
use Rattle.list_writer.specs.ListWriter.{put_list, put_list_end}
use Rattle.list_writer.proofs.AnswerLaws.{did_list, and_list}
use Rattle.base_inputs.specs.declared.Inputs.{Inputs}
use Rattle.base_inputs.specs.BaseInputs.{inputs_bytes}
use Rattle.base_lists.specs.declared.{outputs.Outputs.Outputs, outputs_data.OutputsData.OutputsData, witnesses.Witnesses.Witnesses}
use Rattle.base_lists.specs.Parts.{outputs_bytes, data_bytes, witness_bytes}
use Rattle.cell_deps.specs.CellDeps.{deps_at}
use Rattle.base_writer.specs.declared.Base.{Base}
use Rattle.base_writer.specs.Lists.{or_empty, Lists, lists_of, base_bytes, Fitting, BackFits, front, back}
use Rattle.base_writer.specs.Base.{lists_in, inputs_in, outputs_in, data_in, witnesses_in}
use Rattle.base_writer.proofs.ListLaws.{data_same}

cap_one : (l : ℕ) {a : ℕ} → a ≡ min l 133117 → a ≤ 133116 → a ≡ l
cap_one l e h = omega arith

regroup : (h a b c d e f : List ℕ) → h ++ a ++ b ++ c ++ (d ++ e ++ f) ≡ h ++ flatten (a ∷ b ∷ c ∷ d ∷ e ∷ []) ++ f
unfolding flatten
regroup h a b c d e f = simp (append_assoc, append-nil)

module _ (version : ℕ) {z : Sizes} {x : Lists} {out : List ℕ} (g : Fitting z x out) where
  exact : (z.deps ≡ length x.deps) × (z.headers ≡ length x.headers) × (z.inputs ≡ length x.inputs) × (z.outputs ≡ length x.outputs)
      × (z.datas ≡ length x.datas) × (z.witnesses ≡ length x.witnesses)
  exact =
      let c = g.sizes in
      let l = g.low in (
        cap_one (length x.deps) c.deps (omega arith),
        cap_one (length x.headers) c.headers (omega arith),
        cap_one (length x.inputs) c.inputs (omega arith),
        cap_one (length x.outputs) c.outputs (omega arith),
        cap_one (length x.datas) c.datas (omega arith),
        cap_one (length x.witnesses) c.witnesses (omega arith),
      )

  put_first : {o₁ o₂ o₃ o₄ : List ℕ} {n₁ n₂ n₃ n₄ : ℕ}
      → o₁ ≡ put_head out version z.deps z.headers z.inputs z.outputs z.datas z.witnesses → n₁ ≡ head_end out z.deps z.headers z.inputs z.outputs z.datas z.witnesses
      → o₂ ≡ put_list o₁ n₁ x.deps → n₂ ≡ put_list_end o₁ n₁ x.deps → o₃ ≡ put_at o₂ n₂ x.headers → n₃ ≡ put_end o₂ n₂ x.headers
      → o₄ ≡ put_list o₃ n₃ x.inputs → n₄ ≡ put_list_end o₃ n₃ x.inputs → Put out 0 (front version z x) o₄ n₄
  unfolding front
  put_first e₁ f₁ e₂ f₂ e₃ f₃ e₄ f₄ =
      let l = head_length version z.deps z.headers z.inputs z.outputs z.datas z.witnesses in
      let w = exact in
      let low = g.low in
      let room = g.room in
      let p₁ = head_did version z.deps z.headers z.inputs z.outputs z.datas z.witnesses out g.low g.room e₁ f₁ in
      let p₂ = and_list x.deps p₁ e₂ f₂ (omega arith) (omega arith) in
      let p₃ = and_put x.headers p₂ e₃ f₃ (simp length-append (omega arith)) in
      and_list x.inputs p₃ e₄ f₄ (omega arith) (simp length-append (omega arith))

  front-length : length (front version z x) ≡ 44 + length x.deps + length x.headers + length x.inputs
  unfolding front
  front-length = simp length-append (omega (arith, head_length version z.deps z.headers z.inputs z.outputs z.datas z.witnesses))

  module _ {o₁ : List ℕ} {n₁ : ℕ} (p : Put out 0 (front version z x) o₁ n₁) where
    pub back_fits : BackFits n₁ x o₁
    back_fits =
        let e = p.end in
        let w = exact in
        (omega (arith, g.low), omega (arith, front-length, length-kept p, g.low, g.room))

    pub put_both : {o₂ : List ℕ} {n₂ : ℕ} → Put o₁ n₁ (back x) o₂ n₂ → Put out 0 (base_bytes version x) o₂ n₂
    unfolding front back base_bytes
    put_both q =
        let w = exact in
        as_bytes (regroup _ x.deps x.headers x.inputs x.outputs x.datas x.witnesses
        ∙ head_runs version x.deps x.headers x.inputs x.outputs x.datas x.witnesses) (then (rw (w.0, w.1, w.2, w.3, w.4, w.5) at p) q)

put_last : (x : Lists) {out : List ℕ} {at : ℕ} → BackFits at x out → {o₁ o₂ o₃ : List ℕ} {n₁ n₂ n₃ : ℕ} → o₁ ≡ put_list out at x.outputs → n₁ ≡ put_list_end out at x.outputs
    → o₂ ≡ put_list o₁ n₁ x.datas → n₂ ≡ put_list_end o₁ n₁ x.datas → o₃ ≡ put_list o₂ n₂ x.witnesses → n₃ ≡ put_list_end o₂ n₂ x.witnesses → Put out at (back x) o₃ n₃
unfolding back
put_last x h e₁ f₁ e₂ f₂ e₃ f₃ =
    let low = h.0 in
    let room = h.1 in
    let p₁ = did_list x.outputs e₁ f₁ (omega arith) (omega arith) in
    let p₂ = and_list x.datas p₁ e₂ f₂ (omega arith) (omega arith) in
    and_list x.witnesses p₂ e₃ f₃ (omega arith) (simp length-append (omega arith))

-- of what a call is lent

module _ (b : Base) where
  pub put_front : {z : Sizes} {out o₁ o₂ o₃ o₄ headers : List ℕ} {n₁ n₂ n₃ n₄ : ℕ} {i : Inputs} → Fitting z (lists_in b) out
      → o₁ ≡ put_head out b.present.version z.deps z.headers z.inputs z.outputs z.datas z.witnesses → n₁ ≡ head_end out z.deps z.headers z.inputs z.outputs z.datas z.witnesses
      → o₂ ≡ put_list o₁ n₁ (fix_list (deps_at b.deps.present.now b.deps.udt.now b.deps.lock.now b.deps.extra.now b.chosen.now))
      → n₂ ≡ put_list_end o₁ n₁ (fix_list (deps_at b.deps.present.now b.deps.udt.now b.deps.lock.now b.deps.extra.now b.chosen.now))
      → headers ≡ or_empty b.present.headers.now → o₃ ≡ put_at o₂ n₂ headers → n₃ ≡ put_end o₂ n₂ headers
      → i ≡ inputs_in b → o₄ ≡ put_list o₃ n₃ (inputs_bytes i) → n₄ ≡ put_list_end o₃ n₃ (inputs_bytes i)
      → Put out 0 (front b.present.version z (lists_in b)) o₄ n₄
  unfolding lists_of
  put_front g e₁ f₁ e₂ f₂ eh e₃ f₃ ei e₄ f₄ = put_first b.present.version g e₁ f₁ e₂ f₂ (rw eh at e₃) (rw eh at f₃) (rw ei at e₄) (rw ei at f₄)

  pub put_back : {out o₁ o₂ o₃ : List ℕ} {at n₁ n₂ n₃ : ℕ} {y : Outputs} {d : OutputsData} {w : Witnesses} → BackFits at (lists_in b) out
      → y ≡ outputs_in b → o₁ ≡ put_list out at (outputs_bytes y) → n₁ ≡ put_list_end out at (outputs_bytes y)
      → d ≡ data_in b → o₂ ≡ put_list o₁ n₁ (data_bytes d) → n₂ ≡ put_list_end o₁ n₁ (data_bytes d)
      → w ≡ witnesses_in b → o₃ ≡ put_list o₂ n₂ (witness_bytes w) → n₃ ≡ put_list_end o₂ n₂ (witness_bytes w)
      → Put out at (back (lists_in b)) o₃ n₃
  unfolding lists_of
  put_back g ey e₁ f₁ ed e₂ f₂ ew e₃ f₃ =
      put_last (lists_in b) g (rw ey at e₁) (rw ey at f₁) (rw (ed, data_same) at e₂) (rw (ed, data_same) at f₂) (rw ew at e₃) (rw ew at f₃)

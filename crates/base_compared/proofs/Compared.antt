-- The claim proved: what a base keeps and goes on from is all that the comparison asks.
use mathlib.Core.Path.{sym, subst, ◌∙◌, refl}
use Prim.Native.Nat.{ℕ}
use mathlib.Core.List.{List}
use Rattle.arithmetic.specs.LittleEndian.{to_le}
use Rattle.lists.specs.Prefix.{Prefix}
use Rattle.lists.proofs.PrefixLaws.{prefix_refl}
use Rattle.transaction.specs.Tx.{tx_at}
use Rattle.error.specs.Outcome.{check, check_with}
use Rattle.base_theorems.proofs.Base.{first-output, kept, continued}
use Rattle.base_compared.proofs.Claims.{Compared}
use Rattle.base_compared.proofs.CompareLaws.{has-lock, has-type, has_data, passes}

-- a peer that receives it with the same lock and type finds nothing of its own changed
pub compared : Compared
compared l request bytes b e short d n =
    let f = first-output l request bytes b e short in
    let k = kept l request bytes b e short in
    let g = continued l request bytes b e short in
    sym (passes l.lock l.udt (tx_at l.ours) (tx_at bytes) (sym k.version) (g.cell_deps d)
    (subst (λ (xs : List (List ℕ)). Prefix (tx_at l.ours).header_deps xs) (sym k.header_deps) (prefix_refl (tx_at l.ours).header_deps))
    k.inputs g.outputs (has-lock l.lock l.udt f.is_first f.lock) (has-type l.lock l.udt f.is_first f.type_script)
    (has_data l.lock l.udt f.is_first (to_le 16 f.cell.token) f.content) k.outputs (g.as_many n) (g.entries n))
    ∙ (unfold check in unfold check_with in refl)

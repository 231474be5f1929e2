-- The ways out of `write`: z is the sizes of the lists x.
use mathlib.Core.Path.{◌≡◌, sym, ap, ap₂, ◌∙◌}
use Prim.Native.Nat.{ℕ, ◌+◌, ◌≤◌, min}
use mathlib.Core.Bool.{Bool, true, false, not}
use mathlib.Core.List.{List}
use native.Mathlib.Omega.{arith}
use native.Mathlib.Nat.{zero-add}
use borrow.Author.Tests.{not-true, not-false}
use lib.ListN.{length}
use Rattle.std.specs.Prelude.{Ok, Err}
use Rattle.std.proofs.lemmas.Bool.Decides.{nat_tests}
use Rattle.error.specs.declared.Refusal.{Refusal}
use Rattle.error.specs.Refusal.{number, values}
use Rattle.molecule.specs.Write.{Put}
use Rattle.molecule.proofs.WriteLaws.{splice_zero}
use Rattle.error.specs.Outcome.{fine, told, answer_by, check, check_with, ◌>>=◌, ◌>>◌}
use Rattle.transaction_writer.specs.declared.Sizes.{Sizes}
use Rattle.transaction_writer.specs.TxFields.{tx_len}
use Rattle.transaction_writer.specs.Written.{fits, in_room, written}
use Rattle.transaction_writer.proofs.PutLaws.{tx_length}
use Rattle.base_writer.specs.Lists.{Lists, base_bytes, Capped, Fitting}

-- ---- lengths capped one by one, and together

add-one : (x y l : ℕ) {a : ℕ} → a ≡ min l 133117 → x ≡ y + a → min x 133117 ≡ min (y + l) 133117
add-one x y l e h = omega arith

cap_all : (i j k l m n : ℕ) {a b c d e f : ℕ} → a ≡ min i 133117 → b ≡ min j 133117 → c ≡ min k 133117 → d ≡ min l 133117 → e ≡ min m 133117 → f ≡ min n 133117
    → min (44 + a + b + c + d + e + f) 133117 ≡ min (44 + i + j + k + l + m + n) 133117
cap_all i j k l m n {a} {b} {c} {d} {e} {f} ea eb ec ed ee ef =
    add-one (44 + a + b + c + d + e + f) (44 + b + c + d + e + f) i ea (swap a b c d e f)
    ∙ add-one (44 + b + c + d + e + f + i) (44 + c + d + e + f + i) j eb (swap b c d e f i)
    ∙ add-one (44 + c + d + e + f + i + j) (44 + d + e + f + i + j) k ec (swap c d e f i j)
    ∙ add-one (44 + d + e + f + i + j + k) (44 + e + f + i + j + k) l ed (swap d e f i j k)
    ∙ add-one (44 + e + f + i + j + k + l) (44 + f + i + j + k + l) m ee (swap e f i j k l)
    ∙ add-one (44 + f + i + j + k + l + m) (44 + i + j + k + l + m) n ef (swap f i j k l m)
  where
    swap : (p q r s t u : ℕ) → 44 + p + q + r + s + t + u ≡ 44 + q + r + s + t + u + p
    swap p q r s t u = omega arith

-- capped numbers fit where the numbers do
fits-capped : (m n room : ℕ) → min m 133117 ≡ min n 133117 → fits m room ≡ fits n room
unfolding fits
fits-capped m n room e = grind (arith, nat_tests)

module _ (version : ℕ) {z : Sizes} {x : Lists} (c : Capped z x) (out : List ℕ) {r : Bool} (e : r ≡ fits (tx_len z) (length out)) where
  abbrev bytes : List ℕ
  bytes = base_bytes version x

  same : fits (tx_len z) (length out) ≡ fits (length bytes) (length out)
  unfolding base_bytes
  same =
      fits-capped _ _ (length out)
      (cap_all (length x.deps) (length x.headers) (length x.inputs) (length x.outputs) (length x.datas) (length x.witnesses)
      c.deps c.headers c.inputs c.outputs c.datas c.witnesses
      ∙ ap (λ (n : ℕ). min n 133117) (sym (tx_length version x.deps x.headers x.inputs x.outputs x.datas x.witnesses)))

  pub base_refused : not r ≡ true → (told (Err Refusal.BufferTooShort), out) ≡ written (fine bytes) out
  unfolding in_room answer_by check check_with ◌>>=◌ ◌>>◌ number values
  base_refused h = rw (sym (e ∙ same) ∙ not-true r h)

  module _ (h : not r ≡ false) where
    fit : fits (length bytes) (length out) ≡ true
    fit = sym (e ∙ same) ∙ not-false r h

    pub base_written : {o : List ℕ} {m : ℕ} → Put out 0 bytes o m → (told (Ok m), o) ≡ written (fine bytes) out
    unfolding in_room answer_by check check_with ◌>>=◌ ◌>>◌
    base_written p = rw fit (ap₂ (λ (k : ℕ) (s : List ℕ). (fine k, s)) (p.end ∙ zero-add _) (p.bytes ∙ splice_zero out bytes))

low-of : (m n : ℕ) → fits m n ≡ true → (m ≤ 133116) × (m ≤ n)
unfolding fits
low-of m n h = (grind (arith, nat_tests), grind (arith, nat_tests))

pub base_fits : {z : Sizes} {x : Lists} → Capped z x → (out : List ℕ) {r : Bool} → r ≡ fits (tx_len z) (length out) → not r ≡ false → Fitting z x out
base_fits {z} c out {r} e h =
    let k = low-of (tx_len z) (length out) (sym e ∙ not-false r h) in
    record { sizes = c; low = k.0; room = k.1 }

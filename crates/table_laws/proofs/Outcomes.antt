-- What a call leaves of a table, for any property of what the table means: what its outcome says, or what the table meant.
use mathlib.Core.Path.{◌≡◌, refl, sym, ap, ◌∙◌, subst}
use Prim.Native.Nat.{ℕ}
use native.Mathlib.Omega.{arith}
use mathlib.Core.Bool.{Bool, true, false}
use Rattle.error.specs.declared.{Refusal.Refusal}
use Rattle.error.specs.Refusal.{number}
use Rattle.error.proofs.RefusalLaws.{has_number}
use Rattle.error.specs.Outcome.{Outcome, fine, refused, check, check_with, number_of, leaves, ◌>>◌}
use Rattle.table_bytes.specs.Lent.{Table, on_table, Leaves}

-- ---- no refusal has the number of a call that is done

pub above : (why : Refusal) → number why ≡ 0 → ⊥
above why e = omega (arith, e, has_number why)

-- ---- the property of what is left, if the call is not refused

module _ {A : Type 0} (P : A → Type 0) where
  abbrev pub Fine : Outcome A → Type 0
  Fine (fine x) = P x
  Fine (refused n l) = n ≡ 0 → ⊥

  pub checked : (n : ℕ) (b : Bool) (o : Outcome A) → (n ≡ 0 → ⊥) → Fine o → Fine (check n b >> o)
  unfolding check check_with ◌>>◌
  checked n true o z f = f
  checked n false o z f = z

  pub refused-fine : (n : ℕ) (o : Outcome A) → (n ≡ 0 → ⊥) → Fine (check n false >> o)
  unfolding check check_with ◌>>◌
  refused-fine n o z = z

  pub tabled : {T M : Type 0} (F : Table T M) (s : T) (o : Outcome A) → Fine o → Fine (on_table F s o)
  unfolding on_table
  tabled F s o f = checked 3 (F.is_table s) o (λ e. omega (arith, e)) f

pub done-is : {A : Type 0} (x : A) (o : Outcome A) → 0 ≡ number_of o → Fine (λ k. k ≡ x) o → o ≡ fine x
unfolding number_of
done-is x (fine k) e f = ap fine f
done-is x (refused n l) e f = absurd (f (sym e))

module _ {T M : Type 0} (F : Table T M) (s : T) {t : T} {n : ℕ} (o : Outcome M) (e : Leaves F s n t o) where
  pub numbered : n ≡ number_of o
  numbered = ap (λ (x : ℕ × T × M). x.0) e

  pub table-left : t ≡ leaves o (F.put s t) s
  table-left = ap (λ (x : ℕ × T × M). x.1) e

  pub meant : F.means t ≡ leaves o (λ m. m) (F.means s)
  meant = ap (λ (x : ℕ × T × M). x.2) e

  -- it holds of what the table then means, if it did before
  pub moved : (P : M → Type 0) → Fine P o → P (F.means s) → P (F.means t)
  moved P f p = subst P (sym meant) (by o f)
    where
      by : (o : Outcome M) → Fine P o → P (leaves o (λ m. m) (F.means s))
      by (fine m) f = f
      by (refused n l) f = p

  -- a call that is done leaves what its outcome says
  pub left-done : n ≡ 0 → (P : M → Type 0) → Fine P o → P (F.means t)
  unfolding number_of
  left-done z P f = subst P (sym meant) (by o (sym z ∙ numbered) f)
    where
      by : (o : Outcome M) → 0 ≡ number_of o → Fine P o → P (leaves o (λ m. m) (F.means s))
      by (fine m) k f = f
      by (refused n l) k f = absurd (f (sym k))

  -- and one that is refused the table
  pub left-refused : (why : Refusal) → n ≡ number why → t ≡ s
  unfolding number_of
  left-refused why k = table-left ∙ by o (sym k ∙ numbered)
    where
      by : (o : Outcome M) → number why ≡ number_of o → leaves o (F.put s t) s ≡ s
      by (fine m) k = absurd (above why k)
      by (refused n l) k = refl

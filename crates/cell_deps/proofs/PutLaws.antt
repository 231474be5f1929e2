-- The list of the chosen deps, sized and written.
use mathlib.Core.Path.{◌≡◌, sym, ap, ◌∙◌}
use Prim.Native.Nat.{ℕ, ◌+◌, ◌%◌, ◌^◌, ◌≤◌, ◌<◌, min}
use mathlib.Core.Bool.{Bool, false, not}
use mathlib.Core.List.{List, map, flatten}
use native.Mathlib.Nat.{add-zero}
use native.Mathlib.Omega.{arith}
use lib.ListN.{length, get_or, length-append, length-map}
use lib.Seq.{take-length}
use Rattle.arithmetic.specs.LittleEndian.{to_le}
use Rattle.arithmetic.proofs.LittleEndianLaws.{length-to_le, wrapped}
use Rattle.molecule.specs.Layout.{span}
use Rattle.molecule.specs.Write.{put_at, put_end, Put}
use Rattle.molecule.proofs.WriteLaws.{did, then, length-kept}
use Rattle.molecule.specs.Items.{fix_list}
use Rattle.list_writer.specs.ListWriter.{put_list, put_list_end}
use Rattle.list_writer.specs.Around.{fits_at}
use Rattle.list_writer.proofs.AnswerLaws.{fit-room, list_in_lem, list_in_end}
use Rattle.list_writer.proofs.LoopLaws.{Sizing, size-more, size-end, Writing, write-more}
use Rattle.cell_deps.specs.CellDeps.{dep_at, deps_at, placed_at}
use Rattle.cell_deps.proofs.DepLaws.{map-span}

module _ (a b c d x : List ℕ) where
  pub chosen-span : deps_at a b c d x ≡ span (placed_at a b c d x) 0 (length x)
  unfolding deps_at placed_at
  chosen-span = ap (map (dep_at a b c d)) (sym (take-length x)) ∙ map-span (dep_at a b c d) x (length x) (omega arith)

  pub deps-size : {j size r : ℕ} → Sizing (placed_at a b c d x) 0 (length x) j size → length x ≤ j → r ≡ min (4 + size) 133117 → r ≡ min (length (fix_list (deps_at a b c d x))) 133117
  unfolding fix_list
  deps-size {j} {size} {r} g h e =
      let s : size ≡ min (length (flatten (deps_at a b c d x))) 133117 = size-end g h ∙ ap (λ (l : List (List ℕ)). min (length (flatten l)) 133117) (sym chosen-span) in
      omega (arith, length-append (to_le 4 (length (deps_at a b c d x))) (flatten (deps_at a b c d x)), length-to_le 4 (length (deps_at a b c d x)))

module _ (a b c d x : List ℕ) (j : ℕ) {y : List ℕ} {p : ℕ} (ep : p ≡ get_or x j 0) (ey : y ≡ dep_at a b c d p) where
  is-chosen : y ≡ placed_at a b c d x (j + 0)
  unfolding placed_at
  is-chosen = ey ∙ ap (dep_at a b c d) ep ∙ ap (λ (i : ℕ). dep_at a b c d (get_or x i 0)) (sym (add-zero j))

  pub size-dep : {n size r : ℕ} → Sizing (placed_at a b c d x) 0 n j size → j < n → r ≡ min (size + length y) 133117 → Sizing (placed_at a b c d x) 0 n (j + 1) r
  size-dep g h e = size-more g h (ap length is-chosen) e

  pub put_dep : {out o₁ o₂ : List ℕ} {at n n₁ n₂ : ℕ} → Writing (placed_at a b c d x) 0 out at n j o₁ n₁ → j < n → o₂ ≡ put_at o₁ n₁ y → n₂ ≡ put_end o₁ n₁ y
      → Writing (placed_at a b c d x) 0 out at n (j + 1) o₂ n₂
  put_dep {o₁ = o₁} {n₁ = n₁} g h e f = write-more g h (e ∙ ap (put_at o₁ n₁) is-chosen) (f ∙ ap (put_end o₁ n₁) is-chosen)

-- ---- the count, and then the deps

module _ (a b c d out : List ℕ) (at : ℕ) (x : List ℕ) {n size : ℕ} {r : Bool} (en : n ≡ length x % 2 ^ 32)
    (es : size ≡ min (length (fix_list (deps_at a b c d x))) 133117) (er : r ≡ fits_at size at (length out)) (fit : not r ≡ false)
    {o₁ : List ℕ} {n₁ : ℕ} (e₁ : o₁ ≡ put_at out at (to_le 4 n)) (f₁ : n₁ ≡ put_end out at (to_le 4 n)) where
  deps-count : to_le 4 (length (deps_at a b c d x)) ≡ to_le 4 n
  unfolding deps_at
  deps-count = ap (to_le 4) (length-map x _) ∙ sym (wrapped (length x)) ∙ ap (to_le 4) (sym en)

  list_long : length (fix_list (deps_at a b c d x)) ≡ 4 + length (flatten (deps_at a b c d x))
  unfolding fix_list
  list_long = length-append (to_le 4 (length (deps_at a b c d x))) (flatten (deps_at a b c d x)) ∙ ap (λ (k : ℕ). k + length (flatten (deps_at a b c d x))) (length-to_le 4 _)

  counted : Put out at (to_le 4 n) o₁ n₁
  counted =
      let m = (fit-room at (length out) es er fit).0 in
      did (to_le 4 n) e₁ f₁ (omega (arith, list_long, length-to_le 4 n))

  pub deps-room : n₁ + length (flatten (deps_at a b c d x)) ≤ length o₁
  deps-room =
      let m = (fit-room at (length out) es er fit).0 in
      omega (arith, list_long, length-to_le 4 n, counted.end, length-kept counted)

  module _ {o₂ : List ℕ} {n₂ : ℕ} (q : Put o₁ n₁ (flatten (deps_at a b c d x)) o₂ n₂) where
    whole : Put out at (fix_list (deps_at a b c d x)) o₂ n₂
    unfolding fix_list
    whole = rw deps-count (then counted q)

    pub deps_put : o₂ ≡ put_list out at (fix_list (deps_at a b c d x))
    deps_put = list_in_lem out at (fix_list (deps_at a b c d x)) es er fit whole

    pub deps_put_end : n₂ ≡ put_list_end out at (fix_list (deps_at a b c d x))
    deps_put_end = list_in_end out at (fix_list (deps_at a b c d x)) es er fit whole

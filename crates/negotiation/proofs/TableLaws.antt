-- The table of an update: one law for each way out of the function that tests one. Written by tools/tables.py.
use mathlib.Core.Path.{◌≡◌, refl, sym, ◌∙◌}
use Prim.Native.Nat.{ℕ}
use mathlib.Core.List.{List}
use mathlib.Core.Bool.{Bool, true, false, not, ◌&&◌, and-true, and-false}
use borrow.Author.Tests.{not-true, not-false}
use lib.Dec.{eqb}
use lib.ListN.{length}
use Rattle.molecule.specs.Molecule.{end, ◌&◌, size, readable}
use Rattle.molecule.proofs.Valid.{fixed}
use Rattle.molecule.specs.Layout.{span, has_items, field_of}
use Rattle.molecule.proofs.ReadableLaws.{all_readable, sized}
use Rattle.molecule.proofs.HeaderLaws.{count, table-readable}
use Rattle.transaction.specs.Ckb.{Uint64, Bytes}
use Rattle.negotiation.specs.Updates.{UpdateTable}

update_fields : (s : List ℕ) → readable UpdateTable s ≡ (has_items s 4 && (readable Bytes (field_of s 4 0) && (readable Bytes (field_of s 4 1) && (readable Bytes (field_of s 4 2) && (eqb (length (field_of s 4 3)) 8 && true)))))
unfolding size fixed count all_readable span
update_fields s = table-readable (Bytes & Bytes & Bytes & Uint64 & end) s ∙ simp (sized Uint64 tt 8 refl)

module _ (s : List ℕ) where
  pub update_head : {r : Bool} → r ≡ has_items s 4 → not r ≡ true → false ≡ readable UpdateTable s
  update_head e h = sym (update_fields s ∙ simp (sym e ∙ not-true _ h))

  pub update_0 : {f : List ℕ} {r : Bool} → f ≡ field_of s 4 0 → r ≡ readable Bytes f → not r ≡ true → false ≡ readable UpdateTable s
  update_0 g e h = sym (update_fields s ∙ simp (← g, sym e ∙ not-true _ h, and-false))

  pub update_1 : {f : List ℕ} {r : Bool} → f ≡ field_of s 4 1 → r ≡ readable Bytes f → not r ≡ true → false ≡ readable UpdateTable s
  update_1 g e h = sym (update_fields s ∙ simp (← g, sym e ∙ not-true _ h, and-false))

  pub update_2 : {f : List ℕ} {r : Bool} → f ≡ field_of s 4 2 → r ≡ readable Bytes f → not r ≡ true → false ≡ readable UpdateTable s
  update_2 g e h = sym (update_fields s ∙ simp (← g, sym e ∙ not-true _ h, and-false))

  pub update_all : {q : Bool} {f0 : List ℕ} {q0 : Bool} {f1 : List ℕ} {q1 : Bool} {f2 : List ℕ} {q2 : Bool} {m3 : ℕ} → q ≡ has_items s 4 → not q ≡ false → f0 ≡ field_of s 4 0 → q0 ≡ readable Bytes f0 → not q0 ≡ false → f1 ≡ field_of s 4 1 → q1 ≡ readable Bytes f1 → not q1 ≡ false → f2 ≡ field_of s 4 2 → q2 ≡ readable Bytes f2 → not q2 ≡ false → m3 ≡ length (field_of s 4 3) → eqb m3 8 ≡ readable UpdateTable s
  update_all e h g0 e0 h0 g1 e1 h1 g2 e2 h2 e3 = sym (update_fields s ∙ simp (← g0, ← g1, ← g2, ← e3, sym e ∙ not-false _ h, sym e0 ∙ not-false _ h0, sym e1 ∙ not-false _ h1, sym e2 ∙ not-false _ h2, and-true))

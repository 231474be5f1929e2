-- What the checks at entry show, and whether there are outputs.
use mathlib.Core.Path.{◌≡◌, sym, ap, ◌∙◌}
use Prim.Native.Nat.{ℕ}
use mathlib.Core.Bool.{Bool, true, false, not, and-eq-true_iff}
use mathlib.Core.List.{List}
use borrow.Author.Tests.{not-false}
use lib.Dec.{eqb}
use Rattle.molecule.specs.Layout.{item_of, item_count}
use Rattle.molecule.specs.Molecule.{readable, option}
use Rattle.molecule.proofs.Offsets.{span-length}
use Rattle.transaction.specs.Ckb.{Script, TokenCells, CellDep, CellDeps, Transaction}
use Rattle.transaction.specs.Tx.{tx_at, raw_field, are_scripts}
use Rattle.error.specs.Outcome.{fine, check, check_with}
use Rattle.lists.specs.Lists.{is_empty}
use Rattle.lists.proofs.EqualLaws.{empty-is}
use Rattle.error.proofs.Passed.{is_true, check-fine, check_last}
use Rattle.funding_builder.specs.Base.{lent_of, lists}
use Rattle.funding_builder.specs.Steps.{Readable}

-- there are outputs where their count is not 0
pub some-outputs : (ours : List ℕ) → not (eqb (item_count (raw_field ours 4)) 0) ≡ not (is_empty (tx_at ours).outputs)
some-outputs ours = ap not (sym (empty-is (tx_at ours).outputs ∙ ap (λ (k : ℕ). eqb k 0) (span-length (item_of (raw_field ours 4)) 0 (item_count (raw_field ours 4)))))

-- what the three checks show
module _ (ours lock udt source cells udt_deps lock_dep extra_deps : List ℕ) {p : Bool} (ep : p ≡ readable (option Transaction) ours) (hp : not p ≡ false)
    (q : Bool) (eq : q ≡ are_scripts lock udt source) (hq : not q ≡ false) (r : Bool) (er : check 3 r ≡ lists cells udt_deps lock_dep extra_deps) (hr : not r ≡ false) where
  all_scripts : are_scripts lock udt source ≡ true
  all_scripts = sym eq ∙ not-false q hq

  all_lists : lists cells udt_deps lock_dep extra_deps ≡ fine tt
  unfolding check check_with
  all_lists = sym er ∙ rw (not-false r hr)

  pub base_readable : Readable (lent_of ours lock udt source cells udt_deps lock_dep extra_deps)
  unfolding lists
  base_readable =
      let a = (and-eq-true_iff _ (readable Script source)).0 all_scripts in
      let b = (and-eq-true_iff (readable Script lock) (readable (option Script) udt)).0 a.0 in
      let c = check-fine 3 (readable TokenCells cells) _ tt all_lists in
      let d = check-fine 3 (readable (option CellDeps) udt_deps) _ tt c.1 in
      let e = check-fine 3 (readable (option CellDep) lock_dep) _ tt d.1 in
      record {
        ours = sym ep ∙ not-false p hp;
        udt = b.1;
        source = a.1;
        udt_deps = is_true _ d.0;
        lock_dep = is_true _ e.0;
        extra_deps = is_true _ (check_last 3 (readable CellDeps extra_deps) tt e.1);
      }

-- Each dep of readable lists has 37 bytes, so the length of the list says how many there are.
use mathlib.Core.Path.{◌≡◌, refl, sym, ap, ap₂, ◌∙◌}
use Prim.Native.Nat.{ℕ, ◌+◌, ◌*◌, ◌≤◌, ◌<◌}
use mathlib.Core.Bool.{Bool, true, false, cond}
use mathlib.Core.List.{List, [], ◌∷◌, ◌++◌, flatten}
use native.Mathlib.Omega.{arith}
use borrow.Author.Tests.{eqb-true}
use lib.Dec.{T}
use lib.ListN.{length, length-append}
use Rattle.arithmetic.specs.LittleEndian.{to_le, num_at}
use Rattle.arithmetic.proofs.LittleEndianLaws.{length-to_le}
use Rattle.molecule.specs.Molecule.{option, readable}
use Rattle.molecule.specs.Layout.{fix_count, fix_items, span, word}
use Rattle.molecule.proofs.Valid.{fixed, all_fixed}
use Rattle.molecule.proofs.ChunksLaws.{Long, length_all}
use Rattle.molecule.proofs.Offsets.{span-length}
use Rattle.molecule.proofs.ReadableLaws.{readable_fixed, by_length, of-option}
use Rattle.transaction.specs.Ckb.{CellDep, CellDeps}
use Rattle.transaction.proofs.ListLaws.{dep-size}
use Rattle.lists.specs.Lists.{contains}
use Rattle.molecule.specs.Items.{fix_list}
use Rattle.list_writer.specs.ListWriter.{if_any}
use Rattle.list_writer.proofs.AgainLaws.{items-long}
use Rattle.cell_deps.specs.CellDeps.{dep_pushed, push_all, all_deps, cell_deps, dep_at, dep_count}
use Rattle.cell_deps.proofs.DepLaws.{all_spans}

-- ---- lists of items of one length

module _ (k : ℕ) where
  pub long-append : (xs ys : List (List ℕ)) → Long k xs → Long k ys → Long k (xs ++ ys)
  long-append [] ys p q = q
  long-append (x ∷ xs) ys p q = (p.0, long-append xs ys p.1 q)

  pushed_long : (deps : List (List ℕ)) (x : List ℕ) → Long k deps → length x ≡ k → Long k (dep_pushed deps x)
  unfolding dep_pushed
  pushed_long deps x p e = by (contains x deps)
    where
      by : (b : Bool) → Long k (cond b deps (deps ++ (x ∷ [])))
      by true = p
      by false = long-append deps (x ∷ []) p (e, tt)

  pub all_long : (deps xs : List (List ℕ)) → Long k deps → Long k xs → Long k (push_all deps xs)
  unfolding push_all
  all_long deps [] p q = p
  all_long deps (x ∷ xs) p q = all_long (dep_pushed deps x) xs (pushed_long deps x p q.0) q.1

  pub any_long : (s : List ℕ) → (length s ≡ 0 → ⊥) → length s ≡ k → Long k (if_any s)
  unfolding if_any
  any_long [] n e = tt
  any_long (b ∷ s) n e = (e, tt)

  pub list_long : (xs : List (List ℕ)) → Long k xs → length (fix_list xs) ≡ 4 + length xs * k
  unfolding fix_list
  list_long xs p = length-append (to_le 4 (length xs)) (flatten xs) ∙ ap₂ ◌+◌ (length-to_le 4 (length xs)) (length_all k xs p)

-- ---- the four lists

dep_fixed : T (fixed CellDep)
unfolding fixed all_fixed
dep_fixed = tt

pub no_items_lem : (k : ℕ) → fix_items k [] ≡ []
unfolding span fix_count word num_at
no_items_lem k = refl

deps-long : (s : List ℕ) → readable CellDeps s ≡ true → Long 37 (fix_items 37 s)
deps-long s h = rw dep-size at (items-long CellDep dep_fixed (omega (arith, dep-size)) s h)

optional_long : (s : List ℕ) → readable (option CellDeps) s ≡ true → Long 37 (fix_items 37 s)
optional_long s h = by_length s none (λ n. deps-long s (of-option CellDeps s n h))
  where
    none : s ≡ [] → Long 37 (fix_items 37 s)
    none e = rw (e, no_items_lem 37) tt

lock-long : (s : List ℕ) → readable (option CellDep) s ≡ true → Long 37 (if_any s)
lock-long s h = by_length s none some
  where
    none : s ≡ [] → Long 37 (if_any s)
    none e = rw e (unfold if_any in tt)

    some : (length s ≡ 0 → ⊥) → Long 37 (if_any s)
    some n = any_long 37 s n (eqb-true _ _ (rw dep-size at (sym (readable_fixed CellDep dep_fixed s) ∙ of-option CellDep s n h)))

module _ (a b c d : List ℕ) (ha : readable (option CellDeps) a ≡ true) (hb : readable (option CellDeps) b ≡ true) (hc : readable (option CellDep) c ≡ true) (hd : readable (option CellDeps) d ≡ true) where
  pub cell-deps-long : Long 37 (cell_deps a b c d)
  unfolding cell_deps
  cell-deps-long =
      let p = long-append 37 (fix_items 37 a) (fix_items 37 b) (optional_long a ha) (optional_long b hb) in
      let q = long-append 37 (fix_items 37 a ++ fix_items 37 b) (if_any c) p (lock-long c hc) in
      let r = long-append 37 (fix_items 37 a ++ fix_items 37 b ++ if_any c) (fix_items 37 d) q (optional_long d hd) in
      all_long 37 [] (all_deps a b c d) tt r

  -- more than 3,597 do not fit a transaction
  pub too_many : 3597 < length (cell_deps a b c d) → 133116 < length (fix_list (cell_deps a b c d))
  too_many h = omega (arith, list_long 37 (cell_deps a b c d) cell-deps-long)

-- each dep once is at most as many as there are
pushed_most : (deps : List (List ℕ)) (x : List ℕ) → length (dep_pushed deps x) ≤ length deps + 1
unfolding dep_pushed
pushed_most deps x = by (contains x deps)
  where
    by : (b : Bool) → length (cond b deps (deps ++ (x ∷ []))) ≤ length deps + 1
    by true = omega arith
    by false = rw length-append (omega arith)

all_most : (deps xs : List (List ℕ)) → length (push_all deps xs) ≤ length deps + length xs
unfolding push_all
all_most deps [] = omega arith
all_most deps (x ∷ xs) = let a = pushed_most deps x in let b = all_most (dep_pushed deps x) xs in omega arith

pub deps_most : (a b c d : List ℕ) → length (cell_deps a b c d) ≤ dep_count a b c d
unfolding cell_deps
deps_most a b c d = omega (arith, all_most [] (all_deps a b c d), ap length (all_spans a b c d), span-length (dep_at a b c d) 0 (dep_count a b c d))

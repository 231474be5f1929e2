-- Lists that go on from ours; distinct deps, pushed one by one, stand where they stood.
use mathlib.Core.Path.{◌≡◌, refl, sym, ap, ap₂, ◌∙◌, subst}
use Prim.Native.Nat.{ℕ, zero, suc, ◌-◌, ◌≤◌}
use mathlib.Core.Bool.{Bool, true, false, true≢false, cond}
use mathlib.Core.List.{List, [], ◌∷◌, ◌++◌, map, append_assoc, append-nil}
use native.Mathlib.Omega.{arith}
use borrow.Author.Tests.{lt-ltb}
use Rattle.molecule.specs.Partial.{All}
use Rattle.molecule.specs.Layout.{span, item_count, content, entry_of}
use Rattle.lists.specs.Lists.{eq_bytes, contains}
use Rattle.lists.proofs.EqualLaws.{eq_refl, eq_true}
use Rattle.lists.specs.Prefix.{Prefix, start, more}
use Rattle.lists.proofs.PrefixLaws.{prefix_refl, prefix_trans}
use Rattle.list_writer.specs.ListWriter.{item_or}
use Rattle.cell_deps.specs.CellDeps.{dep_pushed, push_all}
use Rattle.base_theorems.proofs.Claims.{Distinct}

-- ---- a beginning

pub prefix_append : (xs ys : List (List ℕ)) → Prefix xs (xs ++ ys)
prefix_append [] ys = start
prefix_append (x ∷ xs) ys = more (prefix_append xs ys)

-- ---- deps, pushed one by one

pushed_grows : (deps : List (List ℕ)) (x : List ℕ) → Prefix deps (dep_pushed deps x)
unfolding dep_pushed
pushed_grows deps x = by (contains x deps)
  where
    by : (b : Bool) → Prefix deps (cond b deps (deps ++ (x ∷ [])))
    by true = prefix_refl deps
    by false = prefix_append deps (x ∷ [])

all_grow : (deps xs : List (List ℕ)) → Prefix deps (push_all deps xs)
unfolding push_all
all_grow deps [] = prefix_refl deps
all_grow deps (x ∷ xs) = prefix_trans (pushed_grows deps x) (all_grow (dep_pushed deps x) xs)

push_append : (deps xs ys : List (List ℕ)) → push_all deps (xs ++ ys) ≡ push_all (push_all deps xs) ys
unfolding push_all
push_append deps [] ys = refl
push_append deps (x ∷ xs) ys = push_append (dep_pushed deps x) xs ys

-- none of xs is among deps
abbrev Apart : List (List ℕ) → List (List ℕ) → Type 0
Apart deps xs = All (λ (x : List ℕ). contains x deps ≡ false) xs

other : (x y : List ℕ) → eq_bytes x y ≡ false → eq_bytes y x ≡ false
other x y h = by (eq_bytes y x) refl
  where
    by : (b : Bool) → eq_bytes y x ≡ b → eq_bytes y x ≡ false
    by false e = e
    by true e = absurd (true≢false (sym (eq_refl x) ∙ ap (eq_bytes x) (sym (eq_true y x e)) ∙ h))

cond_false : (a b : Bool) → cond a true b ≡ false → (a ≡ false) × (b ≡ false)
cond_false true b h = absurd (true≢false h)
cond_false false b h = (refl, h)

not_last : (y x : List ℕ) (deps : List (List ℕ)) → contains y deps ≡ false → eq_bytes y x ≡ false → contains y (deps ++ (x ∷ [])) ≡ false
unfolding contains
not_last y x [] h k = ap (λ (b : Bool). cond b true false) k
not_last y x (d ∷ deps) h k =
    let c = cond_false (eq_bytes y d) (contains y deps) h in
    ap₂ (λ (a b : Bool). cond a true b) c.0 (not_last y x deps c.1 k)

apart_last : (deps : List (List ℕ)) (x : List ℕ) (xs : List (List ℕ)) → Apart deps xs → contains x xs ≡ false → Apart (deps ++ (x ∷ [])) xs
unfolding contains
apart_last deps x [] a h = tt
apart_last deps x (y ∷ ys) a h =
    let c = cond_false (eq_bytes x y) (contains x ys) h in
    (not_last y x deps a.0 (other x y c.0), apart_last deps x ys a.1 c.1)

pushed_new : (deps : List (List ℕ)) (x : List ℕ) → contains x deps ≡ false → dep_pushed deps x ≡ deps ++ (x ∷ [])
unfolding dep_pushed
pushed_new deps x h = ap (λ (b : Bool). cond b deps (deps ++ (x ∷ []))) h

push_distinct : (deps xs : List (List ℕ)) → Apart deps xs → Distinct xs → push_all deps xs ≡ deps ++ xs
unfolding push_all
push_distinct deps [] a d = sym (append-nil deps)
push_distinct deps (x ∷ xs) a d =
    ap (λ (l : List (List ℕ)). push_all l xs) (pushed_new deps x a.0)
    ∙ push_distinct (deps ++ (x ∷ [])) xs (apart_last deps x xs a.1 d.0) d.1
    ∙ append_assoc deps (x ∷ []) xs

none_apart : (xs : List (List ℕ)) → Apart [] xs
unfolding contains
none_apart [] = tt
none_apart (x ∷ xs) = (refl, none_apart xs)

pub deps_begin : (a b c d : List (List ℕ)) → Distinct a → Prefix a (push_all [] (a ++ b ++ c ++ d))
deps_begin a b c d h =
    let e : push_all [] a ≡ a = push_distinct [] a (none_apart a) h in
    let q : push_all [] (a ++ b ++ c ++ d) ≡ push_all (push_all (push_all (push_all [] a) b) c) d =
    push_append [] (a ++ b ++ c) d ∙ ap (λ (l : List (List ℕ)). push_all l d) (push_append [] (a ++ b) c ∙ ap (λ (l : List (List ℕ)). push_all l c) (push_append [] a b)) in
    let p : Prefix (push_all [] a) (push_all (push_all (push_all (push_all [] a) b) c) d) =
    prefix_trans (all_grow (push_all [] a) b) (prefix_trans (all_grow (push_all (push_all [] a) b) c) (all_grow (push_all (push_all (push_all [] a) b) c) d)) in
    subst (λ (l : List (List ℕ)). Prefix a l) (sym q) (subst (λ (l : List (List ℕ)). Prefix l (push_all (push_all (push_all (push_all [] a) b) c) d)) e p)

distinct_last : (deps : List (List ℕ)) (x : List ℕ) → Distinct deps → contains x deps ≡ false → Distinct (deps ++ (x ∷ []))
unfolding contains
distinct_last [] x d h = (refl, tt)
distinct_last (y ∷ deps) x d h =
    let c = cond_false (eq_bytes x y) (contains x deps) h in
    (not_last y x deps d.0 (other x y c.0), distinct_last deps x d.1 c.1)

pushed_distinct : (deps : List (List ℕ)) (x : List ℕ) → Distinct deps → Distinct (dep_pushed deps x)
unfolding dep_pushed
pushed_distinct deps x d = by (contains x deps) refl
  where
    by : (b : Bool) → contains x deps ≡ b → Distinct (cond b deps (deps ++ (x ∷ [])))
    by true h = d
    by false h = distinct_last deps x d h

pub all_distinct : (deps xs : List (List ℕ)) → Distinct deps → Distinct (push_all deps xs)
unfolding push_all
all_distinct deps [] d = d
all_distinct deps (x ∷ xs) d = all_distinct (dep_pushed deps x) xs (pushed_distinct deps x d)

-- ---- data entries

-- those of ours, and empty ones for the outputs that have none
pub entries_begin : (s : List ℕ) (i j k : ℕ) → j ≤ k → j ≤ item_count s - i → Prefix (span (entry_of s) i j) (map content (span (item_or s) i k))
unfolding span
entries_begin s i zero k h n = start
entries_begin s i (suc j) zero h n = let z : ⊥ = omega arith in absurd z
entries_begin s i (suc j) (suc k) h n =
    subst (λ (x : List ℕ). Prefix (entry_of s i ∷ span (entry_of s) (suc i) j) (x ∷ map content (span (item_or s) (suc i) k))) (sym same) (more (entries_begin s (suc i) j k (omega arith) (omega arith)))
  where
    same : content (item_or s i) ≡ entry_of s i
    same = unfold item_or in unfold entry_of in rw (lt-ltb i (item_count s) (omega arith))

pub map-append : (xs ys : List (List ℕ)) → map content (xs ++ ys) ≡ map content xs ++ map content ys
map-append [] ys = refl
map-append (x ∷ xs) ys = ap (λ (l : List (List ℕ)). content x ∷ l) (map-append xs ys)

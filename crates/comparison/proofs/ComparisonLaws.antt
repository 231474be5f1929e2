-- Laws of the comparison, one for each way out of the functions.
use mathlib.Core.Path.{◌≡◌, refl, sym, ap, ap₂, ◌∙◌}
use Prim.Native.Nat.{ℕ, ◌≤◌, ◌<◌}
use mathlib.Core.List.{List, []}
use mathlib.Core.Bool.{Bool, true, false, not, ◌&&◌, and-eq-true_iff}
use native.Mathlib.Omega.{arith}
use borrow.Author.Tests.{le-leb, lt-leb, eq-eqb, ne_eqb, not-true, not-false}
use lib.ListN.{length, drop}
use lib.Dec.{leb, eqb}
use Rattle.arithmetic.specs.LittleEndian.{num_at}
use Rattle.molecule.specs.Layout.{part, word, span, start, field_of, fix_count, fix_items, item_count, items_of, entries_of}
use Rattle.molecule.proofs.Offsets.{span-length}
use Rattle.molecule.proofs.ReadableLaws.{by_length}
use Rattle.lists.specs.Lists.{eq_bytes, agree, contains_all, extends}
use Rattle.lists.proofs.AgreeLaws.{extends-is, extends-rest}
use Rattle.transaction.specs.Tx.{tx_at, raw_field, lock_of, type_of}
use Rattle.molecule.specs.Layout.{item_of, entry_of}
use Rattle.error.specs.Outcome.{check}
use Rattle.transaction.specs.Cells.{cells}
use Rattle.rules.specs.Surplus.{is_of}
use Rattle.rules.specs.Judge.{at_first, has_lock, no_data_untyped, comparison}
use Rattle.rules.specs.Lines.{verdict}
use Rattle.comparison.specs.Together.{none_missing, kept_after_first, funding_cell_first}
use Rattle.rules.proofs.Checks.{skip, fail, pass, last_two, fail_two, fail_apart, pass_two}
use Rattle.lists.proofs.EqualLaws.{empty-is}
use Rattle.rules.proofs.CellLaws.{cell_at, cells-none, cells-some}

-- ---- a list of ours against the peer's

no_fewer : (xs ys : List (List ℕ)) (t : Bool) {m n : ℕ} → m ≡ length ys → n ≡ length xs → m < n → false ≡ (leb (length xs) (length ys) && t)
no_fewer xs ys t em en h = rw (lt-leb (length xs) (length ys) (omega arith))

enough : (xs ys : List (List ℕ)) {m n : ℕ} → m ≡ length ys → n ≡ length xs → n ≤ m → leb (length xs) (length ys) ≡ true
enough xs ys em en h = le-leb (length xs) (length ys) (omega arith)

-- none fewer, and those after 0 stand where ours do
kept : (xs ys : List (List ℕ)) {m n : ℕ} → m ≡ length xs → n ≡ length ys → (leb m n && extends (drop 1 xs) (drop 1 ys)) ≡ kept_after_first xs ys
unfolding kept_after_first
kept xs ys em en = rw (em, en) (by (leb (length xs) (length ys)) refl)
  where
    by : (b : Bool) → leb (length xs) (length ys) ≡ b → (b && extends (drop 1 xs) (drop 1 ys)) ≡ (b && agree (drop 1 xs) (drop 1 ys))
    by true e = extends-rest xs ys e
    by false e = refl

module _ (o p : List ℕ) where
  pub version-same : {a b : ℕ} → a ≡ (tx_at o).version → b ≡ (tx_at p).version → eqb a b ≡ eqb (tx_at o).version (tx_at p).version
  version-same ea eb = ap₂ eqb ea eb

  module _ {a b : List ℕ} {r : Bool} where
    pub headers-on : a ≡ raw_field o 2 → b ≡ raw_field p 2 → r ≡ extends (fix_items 32 a) (fix_items 32 b) → r ≡ extends (tx_at o).header_deps (tx_at p).header_deps
    headers-on ea eb h = rw (← ea, ← eb) h

    pub inputs_on : a ≡ raw_field o 3 → b ≡ raw_field p 3 → r ≡ extends (fix_items 44 a) (fix_items 44 b) → r ≡ extends (tx_at o).inputs (tx_at p).inputs
    inputs_on ea eb h = rw (← ea, ← eb) h

  module _ {a b : List ℕ} (ea : a ≡ raw_field o 1) (eb : b ≡ raw_field p 1) {m n : ℕ} (em : m ≡ fix_count b) (en : n ≡ fix_count a) where
    pub deps_fewer : m < n → false ≡ none_missing (tx_at o).cell_deps (tx_at p).cell_deps
    unfolding none_missing
    deps_fewer h = rw (← ea, ← eb) (no_fewer (fix_items 37 a) (fix_items 37 b) _ (em ∙ sym (span-length _ 0 _)) (en ∙ sym (span-length _ 0 _)) h)

    pub deps-kept : {r : Bool} → n ≤ m → r ≡ contains_all (fix_items 37 a) (fix_items 37 b)
        → r ≡ none_missing (tx_at o).cell_deps (tx_at p).cell_deps
    unfolding none_missing
    deps-kept h e = rw (← ea, ← eb, enough (fix_items 37 a) (fix_items 37 b) (em ∙ sym (span-length _ 0 _)) (en ∙ sym (span-length _ 0 _)) h) e

  module _ {a b : List ℕ} {r : Bool} where
    pub outputs-kept : a ≡ raw_field o 4 → b ≡ raw_field p 4 → r ≡ (leb (item_count a) (item_count b) && extends (drop 1 (items_of a)) (drop 1 (items_of b)))
        → r ≡ kept_after_first (tx_at o).outputs (tx_at p).outputs
    outputs-kept ea eb h = rw (← ea, ← eb) (h ∙ kept (items_of a) (items_of b) (sym (span-length _ 0 _)) (sym (span-length _ 0 _)))

    pub data_kept : a ≡ raw_field o 5 → b ≡ raw_field p 5 → r ≡ (leb (item_count a) (item_count b) && extends (drop 1 (entries_of a)) (drop 1 (entries_of b)))
        → r ≡ kept_after_first (tx_at o).outputs_data (tx_at p).outputs_data
    data_kept ea eb h = rw (← ea, ← eb) (h ∙ kept (entries_of a) (entries_of b) (sym (span-length _ 0 _)) (sym (span-length _ 0 _)))

-- ---- output 0

module _ (lock type p : List ℕ) {f : List ℕ} {n : ℕ} (ef : f ≡ raw_field p 4) (en : n ≡ item_count f) where
  count : n ≡ item_count (raw_field p 4)
  count = en ∙ ap item_count ef

  pub funding-none : n ≡ 0 → true ≡ funding_cell_first lock type (cells (tx_at p))
  unfolding funding_cell_first at_first
  funding-none h = sym (ap (funding_cell_first lock type) (cells-none p count h))

  module _ (h : n ≡ 0 → ⊥) {o l : List ℕ} {q : Bool} (eo : o ≡ item_of f 0) (el : l ≡ lock_of o) (eq : q ≡ eq_bytes lock l) where
    some_is : funding_cell_first lock type (cells (tx_at p))
        ≡ (q && (eq_bytes type (type_of o) && no_data_untyped type (cell_at p 0)))
    unfolding funding_cell_first at_first cell_at has_lock is_of
    some_is =
        let e : o ≡ item_of (raw_field p 4) 0 = eo ∙ ap (λ (s : List ℕ). item_of s 0) ef in
        ap (funding_cell_first lock type) (cells-some p count h)
        ∙ ap (λ (x : List ℕ). eq_bytes lock (lock_of x) && (eq_bytes type (type_of x) && no_data_untyped type (cell_at p 0))) (sym e)
        ∙ ap (λ (x : Bool). x && (eq_bytes type (type_of o) && no_data_untyped type (cell_at p 0))) (ap (eq_bytes lock) (sym el) ∙ sym eq)

    pub funding-lock : not q ≡ true
        → false ≡ funding_cell_first lock type (cells (tx_at p))
    funding-lock t = sym (some_is ∙ rw (not-true q t))

    module _ (t : not q ≡ false) {k : List ℕ} {r : Bool} (ek : k ≡ type_of o) (er : r ≡ eq_bytes type k) where
      rest-is : funding_cell_first lock type (cells (tx_at p))
          ≡ (r && no_data_untyped type (cell_at p 0))
      rest-is = some_is ∙ rw (not-false q t, ← ek, ← er)

      pub funding-type : not r ≡ true
          → false ≡ funding_cell_first lock type (cells (tx_at p))
      funding-type u = sym (rest-is ∙ rw (not-true r u))

      pub funding-typed : not r ≡ false → (length type ≡ 0 → ⊥)
          → true ≡ funding_cell_first lock type (cells (tx_at p))
      unfolding no_data_untyped
      funding-typed u z = sym (rest-is ∙ rw (not-false r u, empty-is type, ne_eqb (length type) 0 z))

      pub funding_data : {d : List ℕ} → not r ≡ false → length type ≡ 0 → d ≡ entry_of (raw_field p 5) 0
          → eqb (length d) 0 ≡ funding_cell_first lock type (cells (tx_at p))
      unfolding no_data_untyped cell_at
      funding_data {d} u z ed = sym (rest-is ∙ rw (not-false r u, ← ed, empty-is type, eq-eqb (length type) 0 z) (empty-is d))

-- ---- all of them

two-lines : {r : Bool} (xs ys : List (List ℕ)) → r ≡ extends xs ys → (b : Bool) → r ≡ b → (leb (length xs) (length ys) && agree xs ys) ≡ b
two-lines xs ys e b h = sym (extends-is xs ys) ∙ sym e ∙ h

module _ (lock type o p : List ℕ) where
  pub differs_version : {r : Bool} → r ≡ eqb (tx_at o).version (tx_at p).version → r ≡ false → check 5 false ≡ verdict (comparison lock type (tx_at o) (tx_at p))
  unfolding comparison
  differs_version e h = fail 5 _ _ (sym e ∙ h)

  pub differs_deps : {r : Bool} → r ≡ none_missing (tx_at o).cell_deps (tx_at p).cell_deps
      → r ≡ false → check 5 false ≡ verdict (comparison lock type (tx_at o) (tx_at p))
  unfolding comparison none_missing
  differs_deps e h = skip 5 _ _ _ (fail_two 5 _ _ _ _ _ (sym e ∙ h))

  pub differs_headers : {r : Bool} → r ≡ extends (tx_at o).header_deps (tx_at p).header_deps → r ≡ false → check 5 false ≡ verdict (comparison lock type (tx_at o) (tx_at p))
  unfolding comparison
  differs_headers e h = skip 5 _ _ _ (skip 5 _ _ _ (skip 5 _ _ _ (fail_two 5 _ _ _ _ _ (two-lines (tx_at o).header_deps (tx_at p).header_deps e false h))))

  pub differs_inputs : {r : Bool} → r ≡ extends (tx_at o).inputs (tx_at p).inputs → r ≡ false → check 5 false ≡ verdict (comparison lock type (tx_at o) (tx_at p))
  unfolding comparison
  differs_inputs e h = skip 5 _ _ _ (skip 5 _ _ _ (skip 5 _ _ _ (skip 5 _ _ _ (skip 5 _ _ _ (fail_two 5 _ _ _ _ _ (two-lines (tx_at o).inputs (tx_at p).inputs e false h))))))

  pub differs_outputs : {r : Bool} → r ≡ kept_after_first (tx_at o).outputs (tx_at p).outputs
      → r ≡ false → check 5 false ≡ verdict (comparison lock type (tx_at o) (tx_at p))
  unfolding comparison kept_after_first
  differs_outputs e h =
      skip 5 _ _ _ (skip 5 _ _ _ (skip 5 _ _ _ (skip 5 _ _ _ (skip 5 _ _ _ (skip 5 _ _ _ (skip 5 _ _ _
      (fail_apart 5 _ _ _ _ (λ z. skip 5 _ _ _ (skip 5 _ _ _ (skip 5 _ _ _ (fail 5 _ _ z)))) (sym e ∙ h))))))))

  pub differs_funding : {r : Bool}
      → r ≡ funding_cell_first lock type (cells (tx_at p))
      → r ≡ false → check 5 false ≡ verdict (comparison lock type (tx_at o) (tx_at p))
  unfolding comparison funding_cell_first
  differs_funding e h =
      skip 5 _ _ _ (skip 5 _ _ _ (skip 5 _ _ _ (skip 5 _ _ _ (skip 5 _ _ _ (skip 5 _ _ _ (skip 5 _ _ _ (skip 5 _ _ _ (fail_apart 5 _ _ _ _ (fail_two 5 _ _ _ _ _) (sym e ∙ h)))))))))

  -- all but the last pass
  pub differs_data : {r1 r2 r3 r4 r5 r6 r : Bool}
      → r1 ≡ eqb (tx_at o).version (tx_at p).version → r1 ≡ true
      → r2 ≡ none_missing (tx_at o).cell_deps (tx_at p).cell_deps → r2 ≡ true
      → r3 ≡ extends (tx_at o).header_deps (tx_at p).header_deps → r3 ≡ true
      → r4 ≡ extends (tx_at o).inputs (tx_at p).inputs → r4 ≡ true
      → r5 ≡ kept_after_first (tx_at o).outputs (tx_at p).outputs → r5 ≡ true
      → r6 ≡ funding_cell_first lock type (cells (tx_at p)) → r6 ≡ true
      → r ≡ kept_after_first (tx_at o).outputs_data (tx_at p).outputs_data
      → check 5 r ≡ verdict (comparison lock type (tx_at o) (tx_at p))
  unfolding comparison none_missing kept_after_first funding_cell_first
  differs_data e1 t1 e2 t2 e3 t3 e4 t4 e5 t5 e6 t6 e =
      let (n, a) = (and-eq-true_iff _ _).0 (sym e5 ∙ t5) in
      let (l, k) = (and-eq-true_iff _ _).0 (sym e6 ∙ t6) in
      pass 5 _ _ (sym e1 ∙ t1)
      (pass_two 5 _ _ _ _ _ (sym e2 ∙ t2)
      (pass_two 5 _ _ _ _ _ (two-lines (tx_at o).header_deps (tx_at p).header_deps e3 true t3)
      (pass_two 5 _ _ _ _ _ (two-lines (tx_at o).inputs (tx_at p).inputs e4 true t4)
      (pass 5 _ _ n (pass 5 _ _ l (pass_two 5 _ _ _ _ _ k (pass 5 _ _ a (ap (check 5) e ∙ last_two 5 _ _ _ _))))))))

-- ---- where there is nothing of ours

none_missing_lem : (ys : List (List ℕ)) → true ≡ none_missing (tx_at []).cell_deps ys
unfolding raw_field field_of part start word num_at span fix_count none_missing contains_all
none_missing_lem ys = rw (le-leb 0 (length ys) (omega arith))

no_header : (ys : List (List ℕ)) → true ≡ extends (tx_at []).header_deps ys
unfolding raw_field field_of part start word num_at span fix_count extends
no_header ys = refl

no_input : (ys : List (List ℕ)) → true ≡ extends (tx_at []).inputs ys
unfolding raw_field field_of part start word num_at span fix_count extends
no_input ys = refl

no_output : (ys : List (List ℕ)) → true ≡ kept_after_first (tx_at []).outputs ys
unfolding raw_field field_of part start word num_at span item_count kept_after_first agree
no_output ys = rw (le-leb 0 (length ys) (omega arith))

no_data : (ys : List (List ℕ)) → true ≡ kept_after_first (tx_at []).outputs_data ys
unfolding raw_field field_of part start word num_at span item_count kept_after_first agree
no_data ys = rw (le-leb 0 (length ys) (omega arith))

module _ (lock type o p : List ℕ) where
  pub opens : {r s : Bool} → r ≡ funding_cell_first lock type (cells (tx_at p)) → r ≡ true
      → s ≡ eqb (tx_at o).version (tx_at p).version → s ≡ true → length o ≡ 0
      → check 5 true ≡ verdict (comparison lock type (tx_at o) (tx_at p))
  opens e t f u z =
      let y : [] ≡ o = by_length o sym (λ n. absurd (n z)) in
      differs_data lock type o p f u
      (none_missing_lem _ ∙ ap (λ (x : List ℕ). none_missing (tx_at x).cell_deps (tx_at p).cell_deps) y) refl
      (no_header _ ∙ ap (λ (x : List ℕ). extends (tx_at x).header_deps (tx_at p).header_deps) y) refl
      (no_input _ ∙ ap (λ (x : List ℕ). extends (tx_at x).inputs (tx_at p).inputs) y) refl
      (no_output _ ∙ ap (λ (x : List ℕ). kept_after_first (tx_at x).outputs (tx_at p).outputs) y) refl
      e t
      (no_data _ ∙ ap (λ (x : List ℕ). kept_after_first (tx_at x).outputs_data (tx_at p).outputs_data) y)

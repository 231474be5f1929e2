-- What the loop that chooses knows: the deps that it has, and those that are left.
use mathlib.Core.Path.{◌≡◌, refl, sym, ap, ◌∙◌}
use Prim.Native.Nat.{ℕ, ◌+◌, ◌-◌, ◌≤◌, ◌<◌, min}
use mathlib.Core.Bool.{Bool, true, false, cond}
use mathlib.Core.List.{List, [], ◌∷◌, ◌++◌, map}
use native.Mathlib.Omega.{arith}
use lib.ListN.{length, take, set, length-set, length-take, length-append, length-map}
use Rattle.std.specs.Borrow.{Bor}
use Rattle.std.specs.declared.cmp.Ordering.{Ordering}
use Rattle.std.specs.Ordering.{ordering_index}
use Rattle.std.specs.Fn.{Mut, Called, ComputesKey}
use Rattle.std.specs.List.{HoldsAt, CopiedTo, SameBelow}
use Rattle.std.specs.List.Sorted.{IsNonDecreasingBy, IsPartitionPoint}
use Rattle.std.proofs.lemmas.Fn.{always_returns_same}
use Rattle.std.proofs.lemmas.List.{map-append, take_more_set}
use Rattle.item_index.specs.Order.{order_of}
use Rattle.lists.specs.Lists.{eq_bytes, contains}
use Rattle.lists.proofs.SpanLaws.{span-on, span-end, span-whole}
use Rattle.molecule.specs.Layout.{span}
use Rattle.cell_deps.specs.CellDeps.{dep_pushed, push_all, cell_deps, dep_at, dep_count, deps_at, Chooses, placed_at}
use Rattle.cell_deps.proofs.DepLaws.{all_spans}
use Rattle.distinct_deps.proofs.SortedLaws.{Ordered, Absent, Inserted, shifted-below, shifted_at, shifted-above, put_ordered, put_contains, contains_last, put_in, search_there, search_absent}

-- ---- a dep that is there already, and one that is not

module _ (deps : List (List ℕ)) (x : List ℕ) {r : Bool} (e : r ≡ contains x deps) where
  pub there : r ≡ true → dep_pushed deps x ≡ deps
  unfolding dep_pushed
  there t = rw (← e, t)

  pub new : r ≡ false → dep_pushed deps x ≡ deps ++ (x ∷ [])
  unfolding dep_pushed
  new t = rw (← e, t)

pushed_grows : (deps : List (List ℕ)) (x : List ℕ) → length deps ≤ length (dep_pushed deps x)
unfolding dep_pushed
pushed_grows deps x = by (contains x deps)
  where
    by : (b : Bool) → length deps ≤ length (cond b deps (deps ++ (x ∷ [])))
    by true = omega arith
    by false = rw length-append (omega arith)

pub all_grow : (deps xs : List (List ℕ)) → length deps ≤ length (push_all deps xs)
unfolding push_all
all_grow deps [] = omega arith
all_grow deps (x ∷ xs) = let a = pushed_grows deps x in let b = all_grow (dep_pushed deps x) xs in omega arith

-- ---- the loop

-- the first `count` of p are the chosen places, and those of s the same in the order of their deps; p and s have room for l and m
pub record Choosing (a b c d : List ℕ) (l m : ℕ) (p s : List ℕ) (count n i : ℕ) (R : List (List ℕ)) : Type 0 where
  pub within : i ≤ n
  pub most : count ≤ min l m
  pub whole : length p ≡ l
  pub long : length s ≡ m
  pub order : Ordered (placed_at a b c d s) count
  pub sorted : (y : List ℕ) → contains y (span (placed_at a b c d s) 0 count) ≡ contains y (deps_at a b c d (take count p))
  pub rest : R ≡ push_all (deps_at a b c d (take count p)) (span (dep_at a b c d) i (n - i))

module _ (a b c d : List ℕ) where
  -- as many deps as places
  pub chosen-long : (p : List ℕ) (count : ℕ) → count ≤ length p → length (deps_at a b c d (take count p)) ≡ count
  unfolding deps_at
  chosen-long p count h = simp (length-map, length-take) (omega arith)

  pub choose_start : (p s : List ℕ) {n : ℕ} → n ≡ dep_count a b c d → Choosing a b c d (length p) (length s) p s 0 n 0 (cell_deps a b c d)
  unfolding cell_deps deps_at contains span
  choose_start p s {n} e = record {
    within = omega arith;
    most = omega arith;
    whole = refl;
    long = refl;
    order = record { rising = λ i j u v. absurd (omega arith) };
    sorted = λ y. refl;
    rest = ap (push_all []) (sym (all_spans a b c d) ∙ ap (span (dep_at a b c d) 0) (sym e) ∙ span-whole (dep_at a b c d) n);
  }

  module _ {l m : ℕ} {p s : List ℕ} {count n i : ℕ} {R : List (List ℕ)} (k : Choosing a b c d l m p s count n i R) where
    abbrev deps : List (List ℕ)
    deps = deps_at a b c d (take count p)

    deps-long : length deps ≡ count
    deps-long = let u = k.most in let v = k.whole in chosen-long p count (omega arith)

    pub choose_room : count ≤ length s
    choose_room = let u = k.most in let v = k.long in omega arith

    pub choose_order : Ordered (placed_at a b c d s) count
    choose_order = k.order

    pub choose_end : n ≤ i → R ≡ cell_deps a b c d → Chooses a b c d (min l m) p count
    unfolding push_all
    choose_end h e =
        let q : cell_deps a b c d ≡ deps = sym e ∙ k.rest ∙ ap (push_all deps) (span-end (dep_at a b c d) i n h) in
        let u = ap length q ∙ deps-long in
        let v = k.most in
        record { number = omega arith; chosen = λ _. sym q }

    module _ (h : i < n) where
      abbrev y : List ℕ
      y = dep_at a b c d i

      one_less : R ≡ push_all (dep_pushed deps y) (span (dep_at a b c d) (i + 1) (n - (i + 1)))
      unfolding push_all
      one_less = k.rest ∙ ap (push_all deps) (span-on (dep_at a b c d) i n h)

      pub choose_old : contains y (span (placed_at a b c d s) 0 count) ≡ true → Choosing a b c d l m p s count n (i + 1) R
      choose_old t = record {
        within = omega arith;
        most = k.most;
        whole = k.whole;
        long = k.long;
        order = k.order;
        sorted = k.sorted;
        rest = one_less ∙ rw (there deps y refl (sym (k.sorted y) ∙ t));
      }

      -- x is looked for among them by a closure whose calls say which of a dep and x comes first
      module _ {x : List ℕ} (ex : x ≡ dep_at a b c d i) {F : Type 0} {g : Mut F (Bor ℕ × Unit {0}) Ordering} {q : F}
          (calls : (v : Bor ℕ × Unit {0}) (t : Ordering) (q' : F) → Called g q v t q' → (t ≡ order_of (dep_at a b c d v.0.now) x) × (q' ≡ q)) where
        abbrev computes : ComputesKey g (λ v. order_of (dep_at a b c d v) x) q
        computes = always_returns_same g (λ v t. t ≡ order_of (dep_at a b c d v.0.now) x) q calls

        pub choose_met : (j : ℕ) → j < length (take count s) → ((w : ℕ → Ordering) → ComputesKey g w q → HoldsAt (λ v. w v ≡ Ordering.Equal) (take count s) j) → Choosing a b c d l m p s count n (i + 1) R
        unfolding placed_at
        choose_met j u f = choose_old (rw ex at (search_there (dep_at a b c d) s count choose_room k.order x j u (f (λ v. order_of (dep_at a b c d v) x) computes)))

        pub choose_unmet : (at : ℕ) → at ≤ length (take count s) → ((w : ℕ → Ordering) → ComputesKey g w q → IsNonDecreasingBy (λ v. ordering_index (w v)) (take count s)
            → IsPartitionPoint (λ v. w v ≡ Ordering.Less) (λ v. w v ≡ Ordering.Greater) (take count s) at) → Absent (placed_at a b c d s) count (dep_at a b c d i) at
        unfolding placed_at
        choose_unmet at u f = rw ex at (search_absent (dep_at a b c d) s count choose_room k.order x at u (f (λ v. order_of (dep_at a b c d v) x) computes))

      module _ {at : ℕ} (es : Absent (placed_at a b c d s) count y at) where
        fresh : contains y deps ≡ false
        fresh = sym (k.sorted y) ∙ es.none

        -- the deps in their order, after the new one was put in
        module _ {after : List ℕ} (put : Inserted s count at i after) where
          as_below : (j : ℕ) → j < at → placed_at a b c d after j ≡ placed_at a b c d s j
          unfolding placed_at
          as_below j u = let w = es.within in ap (dep_at a b c d) (put.at_each j (omega arith) ∙ shifted-below s at i j u)

          as_at : placed_at a b c d after at ≡ y
          unfolding placed_at
          as_at = let w = es.within in ap (dep_at a b c d) (put.at_each at (omega arith) ∙ shifted_at s at i at refl)

          as_above : (j : ℕ) → at < j → j < count + 1 → placed_at a b c d after j ≡ placed_at a b c d s (j - 1)
          unfolding placed_at
          as_above j u v = ap (dep_at a b c d) (put.at_each j v ∙ shifted-above s at i j u)

        one_more : deps ++ (y ∷ []) ≡ map (dep_at a b c d) (take count p ++ (i ∷ []))
        unfolding deps_at
        one_more = sym (map-append (dep_at a b c d) (take count p) (i ∷ []))

        pub choose_put : (t : List ℕ) → count < min l m → length t ≡ length s → CopiedTo s t at (at + 1) (count - at) → SameBelow s t (at + 1) → Inserted s count at i (set t at i)
        choose_put t u v moved same =
            let w = k.long in
            let e = es.within in
            put_in s t count at i e (omega arith) v moved same

        pub choose_new : count < min l m → {after : List ℕ} → Inserted s count at i after → Choosing a b c d l m (set p count i) after (count + 1) n (i + 1) R
        unfolding deps_at
        choose_new u {after} put =
            let w = k.whole in
            let f : take (count + 1) (set p count i) ≡ take count p ++ (i ∷ []) = take_more_set p count i (omega arith) in
            let g : deps ++ (y ∷ []) ≡ map (dep_at a b c d) (take (count + 1) (set p count i)) = one_more ∙ ap (map (dep_at a b c d)) (sym f) in
            let q : dep_pushed deps y ≡ map (dep_at a b c d) (take (count + 1) (set p count i)) = new deps y refl fresh ∙ g in
            record {
              within = omega arith;
              most = omega arith;
              whole = simp length-set k.whole;
              long = put.long ∙ k.long;
              order = put_ordered _ _ _ at y es.within (as_below put) (as_at put) (as_above put) k.order es.below es.above;
              sorted = λ z. put_contains _ _ _ at y es.within (as_below put) (as_at put) (as_above put) z
                  ∙ ap (λ (w : Bool). cond w true (eq_bytes z y)) (k.sorted z)
                  ∙ sym (contains_last z y deps)
                  ∙ ap (contains z) g;
              rest = one_less ∙ ap (λ (ds : List (List ℕ)). push_all ds (span (dep_at a b c d) (i + 1) (n - (i + 1)))) q;
            }

        pub choose_full : min l m ≤ count → R ≡ cell_deps a b c d → min l m < length (cell_deps a b c d)
        choose_full u e =
            let v = k.most in
            let q : cell_deps a b c d ≡ push_all (deps ++ (y ∷ [])) (span (dep_at a b c d) (i + 1) (n - (i + 1)))
            = sym e ∙ one_less ∙ rw (new deps y refl fresh) in
            let g = all_grow (deps ++ (y ∷ [])) (span (dep_at a b c d) (i + 1) (n - (i + 1))) in
            let f = ap length q in
            let w = length-append deps (y ∷ []) in
            let z = deps-long in
            omega arith

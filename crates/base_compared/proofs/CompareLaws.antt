-- A transaction that begins as ours passes the comparison.
use mathlib.Core.Path.{◌≡◌, refl, sym, ap, ap₂, ◌∙◌}
use Prim.Native.Nat.{ℕ, ◌≤◌}
use mathlib.Core.Bool.{Bool, true, false, not, cond, ◌&&◌, ◌||◌, and-eq-true_iff}
use mathlib.Core.List.{List, [], ◌∷◌}
use borrow.Author.Tests.{le-leb, eq-eqb}
use lib.ListN.{length, drop}
use Rattle.lists.specs.Lists.{eq_bytes, agree, contains, contains_all, is_empty}
use Rattle.lists.specs.Prefix.{Prefix, start, more}
use Rattle.lists.proofs.EqualLaws.{eq_refl}
use Rattle.lists.proofs.PrefixLaws.{prefix_length}
use Rattle.transaction.specs.Tx.{Tx, lock_of, type_of}
use Rattle.transaction.specs.Cells.{Cell, cells}
use Rattle.error.specs.Outcome.{check}
use Rattle.rules.specs.Surplus.{is_of}
use Rattle.rules.specs.Judge.{at_first, has_lock, no_data_untyped, comparison}
use Rattle.rules.specs.Lines.{verdict}
use Rattle.rules.proofs.Checks.{pass, last_is}

-- ---- a beginning

prefix_agree : {xs ys : List (List ℕ)} → Prefix xs ys → agree xs ys ≡ true
unfolding agree
prefix_agree start = refl
prefix_agree (more {x = x} p) = ap₂ ◌&&◌ (eq_refl x) (prefix_agree p)

contains-more : (x y : List ℕ) (ys : List (List ℕ)) → contains x ys ≡ true → contains x (y ∷ ys) ≡ true
unfolding contains
contains-more x y ys h = by (eq_bytes x y)
  where
    by : (b : Bool) → cond b true (contains x ys) ≡ true
    by true = refl
    by false = h

contains-here : (x : List ℕ) (ys : List (List ℕ)) → contains x (x ∷ ys) ≡ true
unfolding contains
contains-here x ys = ap (λ (b : Bool). cond b true (contains x ys)) (eq_refl x)

all_more : (xs ys : List (List ℕ)) (y : List ℕ) → contains_all xs ys ≡ true → contains_all xs (y ∷ ys) ≡ true
unfolding contains_all
all_more [] ys y h = refl
all_more (x ∷ xs) ys y h =
    let c = (and-eq-true_iff (contains x ys) (contains_all xs ys)).0 h in
    ap₂ ◌&&◌ (contains-more x y ys c.0) (all_more xs ys y c.1)

prefix_contains : {xs ys : List (List ℕ)} → Prefix xs ys → contains_all xs ys ≡ true
unfolding contains_all
prefix_contains start = refl
prefix_contains (more {x = x} {xs = xs} {ys = ys} p) = ap₂ ◌&&◌ (contains-here x ys) (all_more xs ys x (prefix_contains p))

-- ---- output 0

first_passes : (test : Cell → Bool) {cs ds : List Cell} {c : Cell} → cs ≡ c ∷ ds → test c ≡ true → at_first test cs ≡ true
unfolding at_first
first_passes test e h = ap (at_first test) e ∙ h

module _ (lock type : List ℕ) {cs ds : List Cell} {c : Cell} (e : cs ≡ c ∷ ds) where
  pub has-lock : lock_of c.output ≡ lock → at_first (has_lock lock) cs ≡ true
  has-lock h = first_passes (has_lock lock) e (unfold has_lock in ap (eq_bytes lock) h ∙ eq_refl lock)

  pub has-type : type_of c.output ≡ type → at_first (is_of type) cs ≡ true
  has-type h = first_passes (is_of type) e (unfold is_of in ap (eq_bytes type) h ∙ eq_refl type)

  pub has_data : (amount : List ℕ) → c.cell_data ≡ cond (not (is_empty type)) amount [] → at_first (no_data_untyped type) cs ≡ true
  has_data amount h = first_passes (no_data_untyped type) e (unfold no_data_untyped in ap (λ (x : List ℕ). not (is_empty type) || is_empty x) h ∙ by (not (is_empty type)))
    where
      by : (b : Bool) → (b || is_empty (cond b amount [])) ≡ true
      by true = refl
      by false = unfold is_empty in refl

-- ---- the whole

module _ (lock type : List ℕ) (ours peer : Tx) where
  pub passes : ours.version ≡ peer.version → Prefix ours.cell_deps peer.cell_deps → Prefix ours.header_deps peer.header_deps → Prefix ours.inputs peer.inputs
      → length ours.outputs ≤ length peer.outputs → at_first (has_lock lock) (cells peer) ≡ true → at_first (is_of type) (cells peer) ≡ true
      → at_first (no_data_untyped type) (cells peer) ≡ true → Prefix (drop 1 ours.outputs) (drop 1 peer.outputs)
      → length ours.outputs_data ≤ length peer.outputs_data → Prefix (drop 1 ours.outputs_data) (drop 1 peer.outputs_data)
      → check 5 true ≡ verdict (comparison lock type ours peer)
  unfolding comparison
  passes v d h i n hl ht hd o k a =
      pass 5 _ _ (eq-eqb _ _ v)
      (pass 5 _ _ (le-leb _ _ (prefix_length d))
      (pass 5 _ _ (prefix_contains d)
      (pass 5 _ _ (le-leb _ _ (prefix_length h))
      (pass 5 _ _ (prefix_agree h)
      (pass 5 _ _ (le-leb _ _ (prefix_length i))
      (pass 5 _ _ (prefix_agree i)
      (pass 5 _ _ (le-leb _ _ n)
      (pass 5 _ _ hl
      (pass 5 _ _ ht
      (pass 5 _ _ hd
      (pass 5 _ _ (prefix_agree o)
      (pass 5 _ _ (le-leb _ _ k)
      (last_is 5 _ (sym (prefix_agree a)))))))))))))))

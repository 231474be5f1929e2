-- What a passed test, and what a result that is there, says: the laws of specs/Partial.antt.
use mathlib.Core.Path.{◌≡◌, refl, sym, ap, ap₂, ◌∙◌, subst}
use mathlib.Core.Bool.{Bool, true, false, not, ◌&&◌, false≢true}
use mathlib.Core.Option
use mathlib.Core.Option.{Option, none, some, bind, none-ne-some, some-injective}
use mathlib.Core.List.{List, [], ◌∷◌, map}
use mathlib.Core.Logic.{◌⊎◌, inl, inr, ◌↔◌}
use Prim.Native.Nat.{suc}
use lib.ListN.{length}
use lib.Dec.{T}
use Rattle.molecule.specs.Partial.{only, pick, there, both, each, All}

-- ---- tests

pub only_yes : {A : Type 0} (b : Bool) (o : Option A) → T b → only b o ≡ o
unfolding only
only_yes true o t = refl
only_yes false o t = absurd t

pub only_no : {A : Type 0} (b : Bool) (o : Option A) → T (not b) → only b o ≡ none
unfolding only
only_no true o t = absurd t
only_no false o t = refl

pub only-some : {A : Type 0} (b : Bool) (o : Option A) {a : A} → only b o ≡ some a → T b × (o ≡ some a)
unfolding only
only-some true o e = (tt, e)
only-some false o {a} e = absurd (none-ne-some a e)

pub pick_yes : {A : Type 0} (b : Bool) (x y : A) → T b → pick b x y ≡ x
unfolding pick
pick_yes true x y t = refl
pick_yes false x y t = absurd t

pub pick_no : {A : Type 0} (b : Bool) (x y : A) → T (not b) → pick b x y ≡ y
unfolding pick
pick_no true x y t = absurd t
pick_no false x y t = refl

pub pick_is : {A : Type 0} (b : Bool) (x y : A) {a : A} → pick b x y ≡ a → (T b × (x ≡ a)) ⊎ (T (not b) × (y ≡ a))
unfolding pick
pick_is true x y e = inl (tt, e)
pick_is false x y e = inr (tt, e)

-- ---- results

pub record Both {A B C : Type 0} (f : A → B → C) (x : Option A) (y : Option B) (c : C) : Type 0 where
  pub left : A
  pub right : B
  pub is-left : x ≡ some left
  pub is_right : y ≡ some right
  pub is-both : f left right ≡ c

pub both_some : {A B C : Type 0} (f : A → B → C) (x : Option A) (y : Option B) {c : C} → both f x y ≡ some c → Both f x y c
unfolding both
both_some f none y {c} e = absurd (none-ne-some c e)
both_some f (some a) none {c} e = absurd (none-ne-some c e)
both_some f (some a) (some b) {c} e =
    record { left = a; right = b; is-left = refl; is_right = refl; is-both = some-injective (f a b) c e }

pub bind_some : {A B : Type 0} (o : Option A) (f : A → Option B) (a : A) (b : B) → o ≡ some a → f a ≡ some b → bind o f ≡ some b
unfolding bind
bind_some o f a b p q = ap (λ (x : Option _). bind x f) p ∙ q

-- ---- whether there is one

pub there-some : {A : Type 0} (o : Option A) → (there o ≡ true) ↔ ((a : A) × (o ≡ some a))
unfolding there
there-some none = (λ t. absurd (false≢true t), λ p. absurd (none-ne-some p.0 p.1))
there-some (some a) = (λ t. (a, refl), λ p. refl)

pub there-only : {A : Type 0} (b : Bool) (o : Option A) → there (only b o) ≡ (b && there o)
unfolding there only
there-only true o = refl
there-only false o = refl

-- where the test passes there is a result
pub there_test : {A : Type 0} (b : Bool) (o : Option A) → (b ≡ true → there o ≡ true) → there (only b o) ≡ b
unfolding there only
there_test true o h = h refl
there_test false o h = refl

pub there-both : {A B C : Type 0} (f : A → B → C) (x : Option A) (y : Option B) → there (both f x y) ≡ (there x && there y)
unfolding there both
there-both f none y = refl
there-both f (some a) none = refl
there-both f (some a) (some b) = refl

pub there-map : {A B : Type 0} (f : A → B) (x : Option A) → there (Option.map f x) ≡ there x
unfolding there
there-map f none = refl
there-map f (some a) = refl

-- ---- each

module _ {A B : Type 0} (f : A → Option B) where
  pub length-each : (xs : List A) (vs : List B) → each f xs ≡ some vs → length vs ≡ length xs
  unfolding each
  length-each [] vs e = ap length (sym (some-injective _ _ e))
  length-each (x ∷ xs) vs e =
      let c = both_some _ _ _ e in
      ap length (sym c.is-both) ∙ ap suc (length-each xs c.right c.is_right)

  -- each element that f takes to a Q is one, if it is P
  pub each_all : (P : A → Type 0) (Q : B → Type 0) → ((x : A) (v : B) → P x → f x ≡ some v → Q v)
      → (xs : List A) (vs : List B) → All P xs → each f xs ≡ some vs → All Q vs
  unfolding each
  each_all P Q h [] vs p e = subst (λ (r : List B). All Q r) (some-injective _ _ e) tt
  each_all P Q h (x ∷ xs) vs p e =
      let c = both_some _ _ _ e in
      subst (λ (r : List B). All Q r) c.is-both (h x c.left p.0 c.is-left, each_all P Q h xs c.right p.1 c.is_right)

  -- g undoes f, and f undoes g
  pub map_each : (P : A → Type 0) (g : B → A) → ((x : A) (v : B) → P x → f x ≡ some v → g v ≡ x)
      → (xs : List A) (vs : List B) → All P xs → each f xs ≡ some vs → map g vs ≡ xs
  unfolding each
  map_each P g h [] vs p e = ap (map g) (sym (some-injective _ _ e))
  map_each P g h (x ∷ xs) vs p e =
      let c = both_some _ _ _ e in
      ap (map g) (sym c.is-both) ∙ ap₂ ◌∷◌ (h x c.left p.0 c.is-left) (map_each P g h xs c.right p.1 c.is_right)

  pub each_map : (P : B → Type 0) (Q : A → Type 0) (g : B → A) → ((v : B) → P v → Q (g v) → f (g v) ≡ some v)
      → (vs : List B) → All P vs → All Q (map g vs) → each f (map g vs) ≡ some vs
  unfolding each both
  each_map P Q g h [] p q = refl
  each_map P Q g h (v ∷ vs) p q = ap₂ (both (λ v vs. v ∷ vs)) (h v p.0 q.0) (each_map P Q g h vs p.1 q.1)

pub all_map : {A B : Type 0} (P : A → Type 0) (Q : B → Type 0) (g : A → B) → ((v : A) → P v → Q (g v)) → (vs : List A) → All P vs → All Q (map g vs)
all_map P Q g h [] p = tt
all_map P Q g h (v ∷ vs) p = (h v p.0, all_map P Q g h vs p.1)

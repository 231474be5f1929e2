-- What a passed test, and a passed check, says.
use mathlib.Core.Path.{◌≡◌, refl}
use Prim.Native.Nat.{ℕ}
use native.Mathlib.Omega.{arith}
use mathlib.Core.Bool.{Bool, true, false, ◌&&◌}
use mathlib.Core.List.{List, []}
use lib.Dec.{T}
use Rattle.error.specs.Outcome.{Outcome, fine, refused, check, check_with, ◌>>=◌, ◌>>◌}

-- ---- tests

pub both : (a b : Bool) → T (a && b) → T a × T b
both true b t = (tt, t)
both false b t = absurd t

pub is_true : (b : Bool) → T b → b ≡ true
is_true true t = refl
is_true false t = absurd t

-- ---- checks

pub never : {A : Type 0} (n : ℕ) (l : List ℕ) (a : A) → ◌≡◌ {A = Outcome A} (refused n l) (fine a) → ⊥
never n l a e = let z : ◌≡◌ {A = ℕ} 0 1 = cc in omega arith

pub fine_inj : {A : Type 0} {a b : A} → fine a ≡ fine b → a ≡ b
fine_inj e = cc

pub bound-fine : {A B : Type 0} (m : Outcome A) (f : A → Outcome B) (b : B) → (m >>= f) ≡ fine b → (a : A) × (m ≡ fine a) × (f a ≡ fine b)
unfolding ◌>>=◌
bound-fine (fine a) f b e = (a, refl, e)
bound-fine (refused n l) f b e = absurd (never n l b e)

pub check_with-fine : {B : Type 0} (n : ℕ) (l : List ℕ) (t : Bool) (r : Outcome B) (b : B) → (check_with n l t >> r) ≡ fine b → T t × (r ≡ fine b)
unfolding ◌>>◌ check_with
check_with-fine n l true r b e = (tt, e)
check_with-fine n l false r b e = absurd (never n l b e)

pub check-fine : {B : Type 0} (n : ℕ) (t : Bool) (r : Outcome B) (b : B) → (check n t >> r) ≡ fine b → T t × (r ≡ fine b)
unfolding check
check-fine n t r b e = check_with-fine n [] t r b e

pub check_last : (n : ℕ) (t : Bool) (u : Unit {0}) → check n t ≡ fine u → T t
unfolding check check_with
check_last n true u e = tt
check_last n false u e = absurd (never n [] u e)

pub then-fine : {B : Type 0} (m : Outcome (Unit {0})) (r : Outcome B) (b : B) → (m >> r) ≡ fine b → (m ≡ fine tt) × (r ≡ fine b)
unfolding ◌>>◌
then-fine (fine u) r b e = (refl, e)
then-fine (refused n l) r b e = absurd (never n l b e)

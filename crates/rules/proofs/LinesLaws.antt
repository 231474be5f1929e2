-- What is answered by lines, and what an acceptance says of each of them.
use mathlib.Core.Path.{◌≡◌, refl, ◌∙◌}
use Prim.Native.Nat.{ℕ}
use Prim.Native.String.{String}
use mathlib.Core.Bool.{Bool, true, false, cond}
use mathlib.Core.List.{List, [], ◌∷◌, ◌++◌}
use lib.{Dec.T, Text.eqt}
use Rattle.error.specs.Outcome.{Outcome, fine, refused, check_with, check}
use Rattle.error.specs.Outcome as outcome
use Rattle.error.proofs.Passed.{fine_inj, bound-fine, then-fine, check_with-fine}
use Rattle.rules.specs.Lines.{Line, Ruled, first_failing, verdict, followed, line_with, answer, ◌>>=◌, ◌>>◌, line_holds}

-- ---- one block, and then another

module _ {A B : Type 0} where
  append-fine : (ls : List Line) (a : A) (f : A → Ruled B)
      → first_failing (ls ++ (f a).lines) (f a).answer ≡ outcome.◌>>=◌ (first_failing ls (fine a)) (λ (x : A). verdict (f x))
  unfolding first_failing verdict outcome.◌>>=◌ outcome.◌>>◌ check_with
  append-fine [] a f = refl
  append-fine (l ∷ ls) a f = by l.holds (append-fine ls a f)
    where
      by : (b : Bool) → first_failing (ls ++ (f a).lines) (f a).answer ≡ outcome.◌>>=◌ (first_failing ls (fine a)) (λ (x : A). verdict (f x))
          → outcome.◌>>◌ (check_with l.number l.values b) (first_failing (ls ++ (f a).lines) (f a).answer)
          ≡ outcome.◌>>=◌ (outcome.◌>>◌ (check_with l.number l.values b) (first_failing ls (fine a))) (λ (x : A). verdict (f x))
      by true h = h
      by false h = refl

  append-refused : (ls : List Line) (n : ℕ) (k : List ℕ) (f : A → Outcome B) → first_failing ls (refused n k) ≡ outcome.◌>>=◌ (first_failing ls (refused n k)) f
  unfolding first_failing outcome.◌>>=◌ outcome.◌>>◌ check_with
  append-refused [] n k f = refl
  append-refused (l ∷ ls) n k f = by l.holds (append-refused ls n k f)
    where
      by : (b : Bool) → first_failing ls (refused n k) ≡ outcome.◌>>=◌ (first_failing ls (refused n k)) f
          → outcome.◌>>◌ (check_with l.number l.values b) (first_failing ls (refused n k))
          ≡ outcome.◌>>=◌ (outcome.◌>>◌ (check_with l.number l.values b) (first_failing ls (refused n k))) f
      by true h = h
      by false h = refl

  followed_is : (ls : List Line) (o : Outcome A) (f : A → Ruled B) → verdict (followed ls o f) ≡ outcome.◌>>=◌ (first_failing ls o) (λ (x : A). verdict (f x))
  unfolding verdict followed
  followed_is ls (fine a) f = append-fine ls a f
  followed_is ls (refused n k) f = append-refused ls n k (λ (x : A). first_failing (f x).lines (f x).answer)

  pub verdict-bind : (m : Ruled A) (f : A → Ruled B) → verdict (m >>= f) ≡ outcome.◌>>=◌ (verdict m) (λ (x : A). verdict (f x))
  unfolding verdict ◌>>=◌
  verdict-bind m f = followed_is m.lines m.answer f

then_is : {B : Type 0} (o : Outcome (Unit {0})) (r : Outcome B) → outcome.◌>>=◌ o (λ _. r) ≡ outcome.◌>>◌ o r
unfolding outcome.◌>>=◌ outcome.◌>>◌
then_is (fine u) r = refl
then_is (refused n k) r = refl

pub verdict-then : {B : Type 0} (m : Ruled (Unit {0})) (r : Ruled B) → verdict (m >> r) ≡ outcome.◌>>◌ (verdict m) (verdict r)
unfolding ◌>>◌ verdict
verdict-then m r = followed_is m.lines m.answer (λ _. r) ∙ then_is (verdict m) (verdict r)

pub line-then : {B : Type 0} (n : ℕ) (l : List ℕ) (s : String) (b : Bool) (r : Ruled B) → verdict (line_with n l s b >> r) ≡ outcome.◌>>◌ (check_with n l b) (verdict r)
unfolding verdict first_failing line_with followed ◌>>◌
line-then n l s b r = refl

pub answer_is : {A : Type 0} (a : A) → verdict (answer a) ≡ fine a
unfolding verdict first_failing answer
answer_is a = refl

-- ---- what an acceptance says

module _ {A B : Type 0} where
  pub bind-accepted : (m : Ruled A) (f : A → Ruled B) (b : B) → verdict (m >>= f) ≡ fine b → (a : A) × (verdict m ≡ fine a) × (verdict (f a) ≡ fine b)
  bind-accepted m f b e = bound-fine (verdict m) (λ (x : A). verdict (f x)) b (rw (verdict-bind m f) at e)

pub then-accepted : {B : Type 0} (m : Ruled (Unit {0})) (r : Ruled B) (b : B) → verdict (m >> r) ≡ fine b → (verdict m ≡ fine tt) × (verdict r ≡ fine b)
then-accepted m r b e = then-fine (verdict m) (verdict r) b (rw (verdict-then m r) at e)

pub line-accepted : {B : Type 0} (n : ℕ) (l : List ℕ) (s : String) (b : Bool) (r : Ruled B) (a : B) → verdict (line_with n l s b >> r) ≡ fine a → T b × (verdict r ≡ fine a)
unfolding verdict first_failing line_with followed ◌>>◌
line-accepted n l s b r a e = check_with-fine n l b (first_failing r.lines r.answer) a e

pub answer-accepted : {A : Type 0} {a b : A} → verdict (answer a) ≡ fine b → a ≡ b
unfolding verdict first_failing answer
answer-accepted e = fine_inj e

-- each of its lines holds, by the line's name
either : (c x y : Bool) → T x → T y → T (cond c x y)
either true x y p q = p
either false x y p q = q

pub holding : {A : Type 0} (m : Ruled A) (a : A) → verdict m ≡ fine a → (name : String) → T (line_holds name m.lines)
unfolding verdict first_failing line_holds
holding {A} m a e name = by m.lines e
  where
    by : (ls : List Line) → first_failing ls m.answer ≡ fine a → T (line_holds name ls)
    by [] h = tt
    by (l ∷ ls) h = let (p, k) = check_with-fine l.number l.values l.holds (first_failing ls m.answer) a h in either (eqt name l.name) _ _ p (by ls k)

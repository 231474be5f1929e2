-- Which list operations an element outlives.
use mathlib.Core.Path.{◌≡◌}
use mathlib.Core.List.{List, [], ◌∷◌}
use mathlib.Core.Bool.{Bool, true, false, cond}
use Rattle.std.specs.List.{filter}
use Rattle.out_points.specs.Tables.{renew}
use Rattle.table_laws.specs.Stands.{Stands, here, there}

module _ {A : Type 0} where
  pub stands-filter : (x : A) (f : A → Bool) (l : List A) → f x ≡ true → Stands x l → Stands x (filter f l)
  stands-filter x f l h (here k) = rw h (here (filter f k))
  stands-filter x f l h (there y k s) = by (f y) (stands-filter x f k h s)
    where
      by : (b : Bool) → Stands x (filter f k) → Stands x (cond b (y ∷ filter f k) (filter f k))
      by true s = there y (filter f k) s
      by false s = s

  pub stands-renew : (x : A) (f : A → Bool) (e : A) (l : List A) → f x ≡ false → Stands x l → Stands x (renew f e l)
  unfolding renew
  stands-renew x f e l h (here k) = rw h (here (renew f e k))
  stands-renew x f e l h (there y k s) = by (f y) (stands-renew x f e k h s)
    where
      by : (b : Bool) → Stands x (renew f e k) → Stands x (cond b (e ∷ k) (y ∷ renew f e k))
      by true n = there e k s
      by false n = there y (renew f e k) n

  -- the one that renews
  pub stands_new : (f : A → Bool) (e : A) (l : List A) → Stands e (renew f e l)
  unfolding renew
  stands_new f e [] = here []
  stands_new f e (y ∷ l) = by (f y) (stands_new f e l)
    where
      by : (b : Bool) → Stands e (renew f e l) → Stands e (cond b (e ∷ l) (y ∷ renew f e l))
      by true s = here l
      by false s = there y (renew f e l) s

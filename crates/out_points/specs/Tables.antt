-- What the tables of cells share (docs/RULES.md, "Holds and exclusions"): holds (crate hold_records) and excluded transactions (crate exclusion_entries).
use Rattle.std.specs.Prelude.{ℕ, min, Bool, cond, List, [], ◌∷◌}
use lib.{Dec.leb, ListN.length}
use Rattle.error.specs.Outcome.{Outcome, number_of, leaves, put_first}
use Rattle.out_points.specs.{declared.OutPoint.OutPoint, OutPoints.point_list}

-- "New records go last; a renewed watchtower record or hash keeps its place": x in the place of the first element that passes the test, or last
unfoldable pub renew : {A : Type 0} → (A → Bool) → A → List A → List A
renew f x [] = x ∷ []
renew f x (y ∷ l) = cond (f y) (x ∷ l) (y ∷ renew f x l)

-- a list goes to the start of a lent buffer, and bytes beyond it keep their value; "writing: over the lent buffer or 133,116 bytes: 13"
unfoldable pub has_room : List OutPoint → List ℕ → Bool
has_room l out = leb (length (point_list l)) (min (length out) 133116)

unfoldable pub with_list : List OutPoint → List ℕ → List ℕ
with_list l out = put_first (point_list l) out

-- the buffer after a call with this outcome, of which it writes the list f
abbrev pub writes : {A : Type 0} → (A → List OutPoint) → Outcome A → List ℕ → List ℕ
writes f o out = leaves o (λ x. with_list (f x) out) out

-- of a call that only writes a list: the number that it answers, and the buffer
abbrev pub after_list : (List ℕ → Outcome (List OutPoint)) → List ℕ → ℕ × List ℕ
after_list call out = (number_of (call out), writes (λ l. l) (call out) out)

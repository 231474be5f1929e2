-- A call on a table of cells, in whatever form the table is lent: bytes, as here, or a value (crate table_laws).
use Rattle.std.specs.Prelude.{◌≡◌, ℕ, Bool, List}
use Rattle.error.specs.Outcome.{Outcome, check, number_of, leaves, ◌>>◌}
use Rattle.molecule.specs.Write.{put_at}

pub record Table (T M : Type 0) : Type 0 where
  -- whether it is one, and what it means
  pub is_table : T → Bool
  pub means : T → M
  -- what a done call leaves of s where it leaves m: t, which comes back
  pub put : T → T → M → T

-- in bytes: those of what is left are put at the start, and "Lent bytes beyond those written keep their value"
abbrev pub in_bytes : {M : Type 0} → (List ℕ → Bool) → (List ℕ → M) → (M → List ℕ) → Table (List ℕ) M
in_bytes is_table means bytes = record { is_table = is_table; means = means; put = λ s t m. put_at s 0 (bytes m) }

-- a call on s
unfoldable pub on_table : {T M A : Type 0} → Table T M → T → Outcome A → Outcome A
on_table F s o = do
  -- no table
  check 3 (F.is_table s)
  o

-- a call with this outcome answers the number n, and leaves t of s: s itself if it is refused
abbrev pub Leaves : {T M : Type 0} → Table T M → T → ℕ → T → Outcome M → Type 0
Leaves {T} {M} F s n t o = ◌≡◌ {A = ℕ × T × M} (n, t, F.means t) (number_of o, leaves o (F.put s t) s, leaves o (λ m. m) (F.means s))

-- The token pick (docs/RULES.md, "Our own side"): "Token pick, for a typed request with local amount above 0: cells in list order until the total reaches it;
-- later cells are unread." Its row of the table: "by cell: data under 16 bytes (12); total 2^128 or more (10); list ended short (9)".
use Rattle.std.specs.Prelude.{ℕ, ◌+◌, ◌-◌, ◌^◌, cond, List, [], ◌∷◌, length, take, leb, ltb}
use Rattle.arithmetic.specs.LittleEndian.{le}
use Rattle.units.specs.Units.{token_count}
use Rattle.transaction.specs.Tx.{data_of}
use Rattle.error.specs.Outcome.{Outcome, fine, refused, check, ◌>>=◌, ◌>>◌}
use Rattle.lists.specs.Lists.{is_empty}
use Rattle.udt_cells.specs.declared.Picked.{Picked}

-- how many of the first cells are taken, and what they hold over the wanted amount
pub record Pick : Type 0 where
  pub taken : ℕ
  pub change : ℕ

-- in numbers
abbrev pub pick_of : Picked → Pick
pick_of p = record { taken = p.taken; change = token_count p.change }

-- a total with the amount of one more cell
unfoldable pub plus_cell : ℕ → List ℕ → Outcome ℕ
plus_cell total cell = do
  -- data under 16 bytes
  check 12 (leb 16 (length (data_of cell)))
  -- total 2^128 or more
  check 10 (ltb (total + le (take 16 (data_of cell))) (2 ^ 128))
  fine (total + le (take 16 (data_of cell)))

-- enough, or else what follows
unfoldable pub enough_or : ℕ → ℕ → ℕ → Outcome Pick → Outcome Pick
enough_or wanted taken total next = cond (leb wanted total) (fine (record { taken = taken; change = total - wanted })) next

-- `taken` cells came to `total`, and these follow
unfoldable pub pick_from : ℕ → ℕ → ℕ → List (List ℕ) → Outcome Pick
-- list ended short
pick_from wanted taken total [] = enough_or wanted taken total (refused 9 [])
pick_from wanted taken total (cell ∷ cells) = enough_or wanted taken total (plus_cell total cell >>= (λ sum. pick_from wanted (taken + 1) sum cells))

-- for a typed request; of an amount of 0 nothing is picked
unfoldable pub pick_typed : List ℕ → ℕ → List (List ℕ) → Outcome Pick
pick_typed type amount cells = cond (is_empty type) (fine (record { taken = 0; change = 0 })) (pick_from amount 0 0 cells)

-- What a table of rows means, for whoever keeps one. Each call says which bytes it leaves (specs/Rows.antt); here stands what these bytes then mean: a table
-- is a list of rows, and push, replace and remove are what they are on lists. All of it holds of rows of any width k and of any most n of them.
use Rattle.std.proofs.Common.{Some, None, ◌≡◌, ℕ, ◌+◌, ◌-◌, ◌*◌, ◌^◌, ◌<◌, ◌≤◌, true, false, List, [], ◌∷◌, ◌++◌, length, take, drop, set, replicate, sym, ap, ◌∙◌, arith}
use mathlib.Core.Bool.{false≢true}
use Rattle.arithmetic.specs.LittleEndian.{AllBytes}
use Rattle.lists.specs.Lists.{eq_bytes}
use Rattle.lists.proofs.EqualLaws.{eq_true, eq_refl}
use Rattle.molecule.specs.Items.{fix_list}
use Rattle.rows.specs.Rows.{is_table, row_count, row_at, rows_of, has_key, find, pushed, replaced, removed}
use Rattle.rows.proofs.TableLaws as laws

-- s is a table with room for n rows of k bytes: a row has a byte at least, and the count of n rows fits its four bytes
pub record Table (k n : ℕ) (s : List ℕ) : Type 0 where
  pub wide : 0 < k
  pub fits : n < 2 ^ 32
  pub form : is_table k n s ≡ true

-- ---- bytes of zeros are the empty table

module _ (k n : ℕ) where
  pub zeros-table : 0 < k → n < 2 ^ 32 → Table k n (replicate (4 + k * n) 0)
  zeros-table p q = record { wide = p; fits = q; form = laws.is_table-zeros k n }

module _ {k n : ℕ} {s : List ℕ} (t : Table k n s) where
  -- ---- its rows: as many as it counts, no more than n, each of k bytes

  pub rows-counted : length (rows_of k s) ≡ row_count s
  rows-counted = laws.rows-counted k s

  pub rows_most : row_count s ≤ n
  rows_most = laws.rows_most k n s t.wide t.form

  pub row_length : (i : ℕ) → i < row_count s → length (row_at k s i) ≡ k
  row_length = laws.row_length k n s t.wide t.form

  -- with the bytes behind them they are the bytes lent
  pub rows_again : AllBytes s → fix_list (rows_of k s) ++ drop (4 + k * row_count s) s ≡ s
  rows_again = laws.rows_again k n s t.wide t.form

  -- ---- push: the row stands behind all others; a full table stays as it was

  module _ (row : List ℕ) (l : length row ≡ k) where
    pub push_rows : row_count s < n → rows_of k (pushed k row s) ≡ rows_of k s ++ (row ∷ [])
    push_rows = laws.push_rows k n s t.wide t.form t.fits row l

    pub push_count : row_count s < n → row_count (pushed k row s) ≡ row_count s + 1
    push_count = laws.push_count k n s t.wide t.form t.fits row l

    pub push_none : n ≤ row_count s → pushed k row s ≡ s
    push_none = laws.push_none k n s t.wide t.form row l

  pub push_table : (row : List ℕ) → Table k n (pushed k row s)
  push_table row = record { wide = t.wide; fits = t.fits; form = laws.push_table k n s t.wide t.form t.fits row }

  module _ (i : ℕ) where
    -- ---- replace: the row stands in place of row i; past the last there is none, and all stays as it was

    module _ (row : List ℕ) where
      pub replace_rows : length row ≡ k → rows_of k (replaced k i row s) ≡ set (rows_of k s) i row
      replace_rows = laws.replace_rows k n s t.wide t.form i row

      pub replace_count : row_count (replaced k i row s) ≡ row_count s
      replace_count = laws.replace_count k n s t.wide t.form i row

      pub replace_none : row_count s ≤ i → replaced k i row s ≡ s
      replace_none = laws.replace_none k n s t.wide t.form i row

      pub replace_table : Table k n (replaced k i row s)
      replace_table = record { wide = t.wide; fits = t.fits; form = laws.replace_table k n s t.wide t.form i row }

    -- ---- remove: row i is gone, and the others are in their order; past the last there is none, and all stays as it was

    pub remove-rows : rows_of k (removed k i s) ≡ take i (rows_of k s) ++ drop (i + 1) (rows_of k s)
    remove-rows = laws.remove-rows k n s t.wide t.form t.fits i

    pub remove-count : i < row_count s → row_count (removed k i s) ≡ row_count s - 1
    remove-count = laws.remove-count k n s t.wide t.form t.fits i

    pub remove-none : row_count s ≤ i → removed k i s ≡ s
    remove-none = laws.remove-none k n s t.wide t.form t.fits i

    pub remove-table : Table k n (removed k i s)
    remove-table = record { wide = t.wide; fits = t.fits; form = laws.remove-table k n s t.wide t.form t.fits i }

-- ---- find, of any bytes: the row that is found is one of the rows and has the key, and none before it has; where nothing is found none has it

module _ (k at : ℕ) (key s : List ℕ) where
  module _ (i : ℕ) (e : find k at key s ≡ Some i) where
    pub find-within : i < row_count s
    find-within = let w = (laws.found_first k at key s i e).within in omega arith

    pub find-has : has_key at key (row_at k s i) ≡ true
    find-has = (laws.found_first k at key s i e).has

    pub find_first : (x : ℕ) → x < i → has_key at key (row_at k s x) ≡ false
    find_first x h = (laws.found_first k at key s i e).earlier x (omega arith) h

  pub find-nothing : find k at key s ≡ None → (x : ℕ) → x < row_count s → has_key at key (row_at k s x) ≡ false
  unfolding find
  find-nothing e x h = laws.none_has at key (row_at k s) 0 (row_count s) e x (omega arith) (omega arith)

-- that a row has the key, said of its bytes; and that it does not
module _ (at : ℕ) (key row : List ℕ) where
  pub key_bytes : has_key at key row ≡ true → take (length key) (drop at row) ≡ key
  unfolding has_key
  key_bytes h = eq_true (take (length key) (drop at row)) key h

  pub key_other : has_key at key row ≡ false → take (length key) (drop at row) ≡ key → ⊥
  unfolding has_key
  key_other h e = false≢true (sym h ∙ ap (λ (x : List ℕ). eq_bytes x key) e ∙ eq_refl key)

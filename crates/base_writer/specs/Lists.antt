-- The six lists of a base transaction in bytes (docs/RULES.md, "Our own side": "Base: .."), from the lists of the present one, the lent lists and the figures.
use Rattle.std.specs.Prelude.{◌≡◌, ℕ, ◌+◌, ◌-◌, ◌≤◌, min, not, List, [], ◌∷◌, ◌++◌, length}
use Rattle.arithmetic.specs.LittleEndian.{to_le}
use Rattle.units.specs.Units.{shannon_count, token_count}
use Rattle.molecule.specs.Items.{join, fix_list}
use Rattle.molecule.specs.Layout.{item_count, fix_count}
use Rattle.lists.specs.Lists.{is_empty}
use Rattle.transaction_writer.specs.Written.{tx_bytes, tx_head}
use Rattle.base_inputs.specs.BaseInputs.{input_list}
use Rattle.base_lists.specs.BaseLists.{output_list, data_list, witness_list}
use Rattle.cell_deps.specs.CellDeps.{deps_at}
use Rattle.transaction_writer.specs.declared.Sizes.{Sizes}
use Rattle.transaction_writer.specs.TxFields.{tx_len}
use Rattle.base_writer.specs.declared.Plan.{Plan}

-- a list of sized items; the empty one where there are no bytes
unfoldable pub or_empty : List ℕ → List ℕ
or_empty [] = to_le 4 0
or_empty (b ∷ s) = b ∷ s

-- the parts of the present transaction that stay
pub record Present : Type 0 where
  pub deps : List ℕ
  pub headers : List ℕ
  pub inputs : List ℕ
  pub outputs : List ℕ
  pub datas : List ℕ

abbrev pub present_of : List ℕ → List ℕ → List ℕ → List ℕ → List ℕ → Present
present_of deps headers inputs outputs datas = record { deps = deps; headers = headers; inputs = inputs; outputs = outputs; datas = datas }

-- what is lent beside it
pub record Beside : Type 0 where
  pub lock : List ℕ
  pub udt : List ℕ
  pub source : List ℕ
  pub cells : List ℕ
  pub udt_deps : List ℕ
  pub lock_dep : List ℕ
  pub extra_deps : List ℕ

abbrev pub beside_of : List ℕ → List ℕ → List ℕ → List ℕ → List ℕ → List ℕ → List ℕ → Beside
beside_of lock udt source cells udt_deps lock_dep extra_deps =
    record { lock = lock; udt = udt; source = source; cells = cells; udt_deps = udt_deps; lock_dep = lock_dep; extra_deps = extra_deps }

-- the six lists of the base, in bytes
pub record Lists : Type 0 where
  pub deps : List ℕ
  pub headers : List ℕ
  pub inputs : List ℕ
  pub outputs : List ℕ
  pub datas : List ℕ
  pub witnesses : List ℕ

unfoldable pub lists_of : Present → Beside → List ℕ → Plan → Lists
lists_of t l x p = record {
  deps = fix_list (deps_at t.deps l.udt_deps l.lock_dep l.extra_deps x);
  headers = or_empty t.headers;
  inputs = fix_list (input_list t.inputs l.cells p.taken);
  outputs = join (output_list (shannon_count p.capacity) l.lock l.udt t.outputs (item_count t.outputs - 1) (shannon_count p.change_capacity) l.source);
  datas = join (data_list (not (is_empty l.udt)) (token_count p.token) t.datas (item_count t.outputs - 1) (token_count p.change));
  witnesses = join (witness_list (fix_count t.inputs) p.taken);
}

unfoldable pub base_bytes : ℕ → Lists → List ℕ
base_bytes version x = tx_bytes version x.deps x.headers x.inputs x.outputs x.datas x.witnesses

-- ---- what the functions inside promise one another

-- the lengths of the lists, as far as 133,117
pub record Capped (z : Sizes) (x : Lists) : Type 0 where
  pub deps : z.deps ≡ min (length x.deps) 133117
  pub headers : z.headers ≡ min (length x.headers) 133117
  pub inputs : z.inputs ≡ min (length x.inputs) 133117
  pub outputs : z.outputs ≡ min (length x.outputs) 133117
  pub datas : z.datas ≡ min (length x.datas) 133117
  pub witnesses : z.witnesses ≡ min (length x.witnesses) 133117

-- the sizes are those of the lists, and there is room for all
pub record Fitting (z : Sizes) (x : Lists) (out : List ℕ) : Type 0 where
  pub sizes : Capped z x
  pub low : tx_len z ≤ 133116
  pub room : tx_len z ≤ length out

-- there is room for the last three
abbrev pub BackFits : ℕ → Lists → List ℕ → Type 0
BackFits at x out =
    (length x.outputs + length x.datas + length x.witnesses ≤ 133116)
    × (at + length x.outputs + length x.datas + length x.witnesses ≤ length out)

-- the head and the first three, and the last three
unfoldable pub front : ℕ → Sizes → Lists → List ℕ
front version z x = tx_head version z.deps z.headers z.inputs z.outputs z.datas z.witnesses ++ x.deps ++ x.headers ++ x.inputs

unfoldable pub back : Lists → List ℕ
back x = x.outputs ++ x.datas ++ x.witnesses

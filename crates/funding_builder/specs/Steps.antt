-- What the functions inside promise one another; no public contract cites it.
use Rattle.std.specs.Prelude.{◌≡◌, ℕ, ◌≤◌, ◌<◌, true, List, length}
use Rattle.units.specs.Units.{shannon_count, token_count}
use Rattle.units.specs.declared.{Shannons.Shannons, Tokens.Tokens}
use Rattle.molecule.specs.Molecule.{readable, option}
use Rattle.transaction.specs.Ckb.{Script, CellDep, CellDeps, Transaction}
use Rattle.transaction.specs.Tx.{raw_field}
use Rattle.list_writer.specs.ListWriter.{if_positive}
use Rattle.cell_deps.specs.CellDeps.{cell_deps}
use Rattle.cell_deps.specs.declared.DepLists.{DepLists}
use Rattle.base_writer.specs.declared.Plan.{Plan}
use Rattle.funding_builder.specs.Base.{Lent, change_output_capacity}

-- what the checks at entry have shown
pub record Readable (l : Lent) : Type 0 where
  pub ours : readable (option Transaction) l.ours ≡ true
  pub udt : readable (option Script) l.udt ≡ true
  pub source : readable Script l.source ≡ true
  pub udt_deps : readable (option CellDeps) l.udt_deps ≡ true
  pub lock_dep : readable (option CellDep) l.lock_dep ≡ true
  pub extra_deps : readable CellDeps l.extra_deps ≡ true

-- the four lists of cell deps: the token's and the lock's count where tokens were picked
pub record AreDeps (d : DepLists) (t : Lent) (taken : ℕ) : Type 0 where
  pub present : d.present.now ≡ raw_field t.ours 1
  pub udt : d.udt.now ≡ if_positive taken t.udt_deps
  pub lock : d.lock.now ≡ if_positive taken t.lock_dep
  pub extra : d.extra.now ≡ t.extra_deps

-- there is room for l places and for m: of all deps, or of as many as fit a transaction
pub record Roomy (t : Lent) (taken l m : ℕ) : Type 0 where
  pub same : l ≡ m
  pub enough : l < length (cell_deps (raw_field t.ours 1) (if_positive taken t.udt_deps) (if_positive taken t.lock_dep) t.extra_deps) → 3597 ≤ l

-- the figures that are written are those of the cell, the pick and the change
pub record Planned (p : Plan) (capacity : Shannons) (token : Tokens) (taken : ℕ) (change : Tokens) (source udt : List ℕ) : Type 0 where
  pub cell : p.capacity ≡ capacity
  pub tokens : p.token ≡ token
  pub picked : p.taken ≡ taken
  pub left : p.change ≡ change
  pub back : shannon_count p.change_capacity ≡ change_output_capacity (token_count change) source udt

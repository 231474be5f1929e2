-- What the code is lent, as the definitions have it, and the base transaction that it assembles.
use Rattle.std.specs.Prelude.{ℕ, List}
use Rattle.funding_cell.specs.FundingCell.{figures_of}
use Rattle.udt_cells.specs.Pick.{pick_of}
use Rattle.funding_builder.specs.declared.{Lent.Lent as Slices, assemble.Assembly.Assembly}
use Rattle.funding_builder.specs.Base.{Lent, lent_of, packed, base_tx}

abbrev pub lent_in : Slices → Lent
lent_in l = lent_of l.ours.now l.lock.now l.udt.now l.source.now l.cells.now l.udt_deps.now l.lock_dep.now l.extra_deps.now

-- in bytes
abbrev pub base_in : Assembly → List ℕ
base_in a = packed (base_tx (lent_in a.lent) (figures_of a.cell) (pick_of a.picked))

-- CKB's data structures (RFC 0019) as types of Molecule, and the forms of the lists that callers lend.
use Rattle.molecule.specs.Molecule.{Ty, byte, array, struct, fixvec, dynvec, table, option, end, ◌&◌}

abbrev pub Uint32 : Ty
Uint32 = array byte 4

abbrev pub Uint64 : Ty
Uint64 = array byte 8

abbrev pub Byte32 : Ty
Byte32 = array byte 32

abbrev pub Bytes : Ty
Bytes = fixvec byte

-- the transaction's hash, and the number of its output
abbrev pub OutPoint : Ty
OutPoint = struct (Byte32 & Uint32 & end)

-- the since, and the output that is spent
abbrev pub CellInput : Ty
CellInput = struct (Uint64 & OutPoint & end)

-- the out point, and the dep type, of any value
abbrev pub CellDep : Ty
CellDep = struct (OutPoint & byte & end)

-- the code hash, the hash type, of any value, and the args
abbrev pub Script : Ty
Script = table (Byte32 & byte & Bytes & end)

-- the capacity in shannons, the lock, and the type or nothing
abbrev pub CellOutput : Ty
CellOutput = table (Uint64 & Script & option Script & end)

-- the version, cell deps, header deps, inputs, outputs, and the outputs' data
abbrev pub RawTransaction : Ty
RawTransaction = table (Uint32 & fixvec CellDep & fixvec Byte32 & fixvec CellInput & dynvec CellOutput & dynvec Bytes & end)

-- the raw transaction, and the witnesses
abbrev pub Transaction : Ty
Transaction = table (RawTransaction & dynvec Bytes & end)

-- ---- lent lists; those of out points, cell deps, inputs and so on have the form that a transaction has

abbrev pub OutPoints : Ty
OutPoints = fixvec OutPoint

abbrev pub CellDeps : Ty
CellDeps = fixvec CellDep

-- a cell that holds a token: where it is, and its data
abbrev pub TokenCell : Ty
TokenCell = table (OutPoint & Bytes & end)

abbrev pub TokenCells : Ty
TokenCells = dynvec TokenCell

-- a resolved cell: its output and data
abbrev pub Record : Ty
Record = table (CellOutput & Bytes & end)

-- one for each added input; nothing stands for a cell that is not live
abbrev pub Records : Ty
Records = dynvec (option Record)

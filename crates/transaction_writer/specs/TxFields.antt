-- The fields of a transaction as the code holds them: a version and lent lists.
use Rattle.std.specs.Prelude.{◌≡◌, ℕ, ◌+◌, Bool, List, length}
use Rattle.transaction.specs.Tx.{raw_field, witnesses_of, tx_at}
use Rattle.transaction_writer.specs.declared.{TxFields.TxFields, Sizes.Sizes}
use Rattle.transaction_writer.specs.Written.{tx_bytes, in_form}

-- those of a transaction
pub record AreTxFields (f : TxFields) (s : List ℕ) : Type 0 where
  pub version : f.version ≡ (tx_at s).version
  pub deps : f.deps.now ≡ raw_field s 1
  pub headers : f.headers.now ≡ raw_field s 2
  pub inputs : f.inputs.now ≡ raw_field s 3
  pub outputs : f.outputs.now ≡ raw_field s 4
  pub datas : f.datas.now ≡ raw_field s 5
  pub witnesses : f.witnesses.now ≡ witnesses_of s

-- the transaction in bytes
abbrev pub fields_bytes : TxFields → List ℕ
fields_bytes f = tx_bytes f.version f.deps.now f.headers.now f.inputs.now f.outputs.now f.datas.now f.witnesses.now

-- each list is in its form
abbrev pub are_in_form : TxFields → Bool
are_in_form f = in_form f.deps.now f.headers.now f.inputs.now f.outputs.now f.datas.now f.witnesses.now

abbrev pub sizes_of : TxFields → Sizes
sizes_of f = record {
  deps = length f.deps.now;
  headers = length f.headers.now;
  inputs = length f.inputs.now;
  outputs = length f.outputs.now;
  datas = length f.datas.now;
  witnesses = length f.witnesses.now;
}

-- how long a transaction with lists of these lengths is
abbrev pub tx_len : Sizes → ℕ
tx_len z = 44 + z.deps + z.headers + z.inputs + z.outputs + z.datas + z.witnesses

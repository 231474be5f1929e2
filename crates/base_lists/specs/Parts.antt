-- The lists as the code holds what they are made from, and what its functions make of their parts.
use Rattle.std.specs.Prelude.{ℕ, ◌-◌, ◌&&◌, cond, ltb, List, Option, Some, None, is_some}
use Rattle.units.specs.declared.Tokens.{Tokens}
use Rattle.units.specs.Units.{shannon_count, token_count}
use Rattle.molecule.specs.Items.{join}
use Rattle.base_lists.specs.declared.{outputs.Outputs.Outputs, outputs_data.OutputsData.OutputsData, witnesses.Witnesses.Witnesses}
use Rattle.base_lists.specs.BaseLists.{output_list, data_list, witness_list}

abbrev pub outputs_bytes : Outputs → List ℕ
outputs_bytes o =
    join (output_list (shannon_count o.capacity) o.lock.now o.udt.now o.present.list.now o.present.count (shannon_count o.change) o.source.now)

-- no amount is 0
abbrev pub tokens_of : Option Tokens → ℕ
tokens_of (Some t) = token_count t
tokens_of None = 0

abbrev pub data_bytes : OutputsData → List ℕ
data_bytes d = join (data_list (is_some d.tokens) (tokens_of d.tokens) d.present.list.now d.present.count (token_count d.change))

abbrev pub witness_bytes : Witnesses → List ℕ
witness_bytes w = join (witness_list w.present w.picked)

-- how many empty witnesses stand between two placeholders, where inputs are picked behind present ones
unfoldable pub between : ℕ → ℕ → Option ℕ
between present picked = cond (ltb 0 present && ltb 0 picked) (Some (present - 1)) None

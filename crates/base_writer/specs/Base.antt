-- What the code is lent for a base transaction: its lists, and what they are made from.
use Rattle.std.specs.Prelude.{◌-◌, cond, Some, None}
use Rattle.molecule.specs.Layout.{item_count, fix_count}
use Rattle.lists.specs.Lists.{is_empty}
use Rattle.base_inputs.specs.declared.Inputs.{Inputs}
use Rattle.base_lists.specs.declared.{outputs.Outputs.Outputs, outputs_data.OutputsData.OutputsData, witnesses.Witnesses.Witnesses}
use Rattle.base_writer.specs.declared.Base.{Base}
use Rattle.base_writer.specs.Lists.{Lists, present_of, beside_of, lists_of}

abbrev pub lists_in : Base → Lists
lists_in b =
    lists_of (present_of b.deps.present.now b.present.headers.now b.present.inputs.now b.present.outputs.now b.present.datas.now)
    (beside_of b.lock.now b.udt.now b.source.now b.cells.now b.deps.udt.now b.deps.lock.now b.deps.extra.now) b.chosen.now b.plan

abbrev pub inputs_in : Base → Inputs
inputs_in b = record { present = b.present.inputs; cells = b.cells; taken = b.plan.taken }

abbrev pub outputs_in : Base → Outputs
outputs_in b = record {
  capacity = b.plan.capacity;
  lock = b.lock;
  udt = b.udt;
  present = record { list = b.present.outputs; count = item_count b.present.outputs.now - 1 };
  change = b.plan.change_capacity;
  source = b.source;
}

abbrev pub data_in : Base → OutputsData
data_in b = record {
  tokens = cond (is_empty b.udt.now) None (Some b.plan.token);
  present = record { list = b.present.datas; count = item_count b.present.outputs.now - 1 };
  change = b.plan.change;
}

abbrev pub witnesses_in : Base → Witnesses
witnesses_in b = record { present = fix_count b.present.inputs.now; picked = b.plan.taken }

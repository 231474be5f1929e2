use Rattle.std.proofs.Common.{rules, drop}
use Rattle.molecule.specs.Layout.{items_of, entries_of}
use Rattle.lists.specs.Lists.{extends}
use Rattle.comparison.proofs.ComparisonLaws.{headers-on, inputs_on, outputs-kept, data_kept, differs_funding, differs_version, opens, differs_deps, differs_headers, differs_inputs, differs_outputs, differs_data}
use Rattle.comparison.proofs.keeps_ours.Goals as goal

pub returns-then-not-is_funding_cell : goal.returns-then-not-is_funding_cell
returns-then-not-is_funding_cell c = search (rules, differs_funding)

pub returns-then-not-same_version : goal.returns-then-not-same_version
returns-then-not-same_version c = search (rules, differs_version)

pub returns-then-is_empty : goal.returns-then-is_empty
returns-then-is_empty c = search (rules, opens)

pub returns-then-not-keeps_cell_deps : goal.returns-then-not-keeps_cell_deps
returns-then-not-keeps_cell_deps c = search (rules, differs_deps)

pub returns-then-not-fix_extends : goal.returns-then-not-fix_extends
returns-then-not-fix_extends c =
    differs_headers _ _ _ _ (headers-on _ _ c.header_deps.ensures.result_value c.header_deps-2.ensures.result_value c.fix_extends.ensures) c.if-not-fix_extends.true

pub returns-then-not-fix_extends-2 : goal.returns-then-not-fix_extends-2
returns-then-not-fix_extends-2 c =
    differs_inputs _ _ _ _ (inputs_on _ _ c.inputs.ensures.result_value c.inputs-2.ensures.result_value c.fix_extends-2.ensures) c.if-not-fix_extends-2.true

pub returns-then-not-keeps_after_first : goal.returns-then-not-keeps_after_first
returns-then-not-keeps_after_first c =
    let h = c.keeps_after_first.ensures (λ x y. extends (drop 1 (items_of x)) (drop 1 (items_of y))) (λ x y r e. e) in
    differs_outputs _ _ _ _ (outputs-kept _ _ c.outputs.ensures.result_value c.outputs-2.ensures.result_value h) c.if-not-keeps_after_first.true

pub returns : goal.returns
returns c =
    let headers = headers-on _ _ c.header_deps.ensures.result_value c.header_deps-2.ensures.result_value c.fix_extends.ensures in
    let inputs = inputs_on _ _ c.inputs.ensures.result_value c.inputs-2.ensures.result_value c.fix_extends-2.ensures in
    let outputs = outputs-kept _ _ c.outputs.ensures.result_value c.outputs-2.ensures.result_value (c.keeps_after_first.ensures (λ x y. extends (drop 1 (items_of x)) (drop 1 (items_of y))) (λ x y r e. e)) in
    let entries = data_kept _ _ c.outputs_data.ensures.result_value c.outputs_data-2.ensures.result_value (c.keeps_after_first-2.ensures (λ x y. extends (drop 1 (entries_of x)) (drop 1 (entries_of y))) (λ x y r e. e)) in
    differs_data _ _ _ _ c.same_version.ensures c.if-not-same_version.false c.keeps_cell_deps.ensures c.if-not-keeps_cell_deps.false headers c.if-not-fix_extends.false
    inputs c.if-not-fix_extends-2.false outputs c.if-not-keeps_after_first.false c.is_funding_cell.ensures c.if-not-is_funding_cell.false entries

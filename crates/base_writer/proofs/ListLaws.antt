-- The header deps, and the sizes of all lists.
use mathlib.Core.Path.{◌≡◌, refl}
use Prim.Native.Nat.{ℕ, suc, ◌-◌, min}
use mathlib.Core.Bool.{Bool, true, false, not, cond}
use mathlib.Core.List.{List, [], ◌∷◌}
use native.Mathlib.Omega.{arith}
use lib.Dec.{eqb}
use lib.ListN.{length}
use Rattle.std.specs.Prelude.{Option, Some, None, is_some}
use Rattle.std.specs.Bool.{then_some}
use Rattle.lists.proofs.EqualLaws.{empty-is}
use Rattle.arithmetic.specs.LittleEndian.{to_le}
use Rattle.units.specs.declared.Tokens.{Tokens}
use Rattle.units.specs.Units.{shannon_count, token_count}
use Rattle.molecule.specs.Items.{join, fix_list}
use Rattle.molecule.specs.Layout.{item_count}
use Rattle.lists.specs.Lists.{is_empty}
use Rattle.base_inputs.specs.declared.Inputs.{Inputs}
use Rattle.base_inputs.specs.BaseInputs.{inputs_bytes}
use Rattle.base_lists.specs.declared.{outputs.Outputs.Outputs, outputs_data.OutputsData.OutputsData, witnesses.Witnesses.Witnesses}
use Rattle.base_lists.specs.BaseLists.{output_list, data_list}
use Rattle.base_lists.specs.Parts.{data_bytes, tokens_of, witness_bytes}
use Rattle.cell_deps.specs.CellDeps.{deps_at}
use Rattle.base_writer.specs.declared.Base.{Base}
use Rattle.base_writer.specs.Lists.{or_empty, lists_of, Capped}
use Rattle.base_writer.specs.Base.{lists_in, inputs_in, outputs_in, data_in, witnesses_in}

-- ---- a list of sized items, or none

pub or_none : (s : List ℕ) → length s ≡ 0 → or_empty s ≡ 0 ∷ 0 ∷ 0 ∷ 0 ∷ []
unfolding or_empty to_le
or_none [] h = refl
or_none (b ∷ s) h = let z : suc (length s) ≡ 0 = h in absurd (omega arith)

pub or_some : (s : List ℕ) → (length s ≡ 0 → ⊥) → or_empty s ≡ s
unfolding or_empty
or_some [] h = absurd (h refl)
or_some (b ∷ s) h = refl

-- ---- the data, where there may be no tokens

no_tokens : (b : Bool) (t : Tokens) (present : List ℕ) (k c : ℕ) (n : ℕ)
    → data_list (is_some (cond b None (Some t))) n present k c ≡ data_list (not b) n present k c
no_tokens true t present k c n = refl
no_tokens false t present k c n = refl

pub data_same : (b : Base) → data_bytes (data_in b) ≡ (lists_in b).datas
unfolding lists_of data_list
data_same b = by (is_empty b.udt.now)
  where
    by : (e : Bool) → join (data_list (is_some (cond e None (Some b.plan.token))) (tokens_of (cond e None (Some b.plan.token))) b.present.datas.now (item_count b.present.outputs.now - 1) (token_count b.plan.change))
        ≡ join (data_list (not e) (token_count b.plan.token) b.present.datas.now (item_count b.present.outputs.now - 1) (token_count b.plan.change))
    by true = refl
    by false = refl

tokens-made : (l : List ℕ) (t : Tokens) → then_some (not (eqb (length l) 0)) t ≡ cond (is_empty l) None (Some t)
tokens-made l t = rw (← empty-is l) (by (is_empty l))
  where
    by : (e : Bool) → then_some (not e) t ≡ cond e None (Some t)
    by true = refl
    by false = refl

pub data_made : (b : Base) {e : Bool} {r : Option Tokens} {k : ℕ} → k ≡ item_count b.present.outputs.now - 1 → e ≡ eqb (length b.udt.now) 0 → r ≡ then_some (not e) b.plan.token
    → record { tokens = r; present = record { list = b.present.datas; count = k }; change = b.plan.change } ≡ data_in b
data_made b ek ee er = rw (er, ee, ek, tokens-made)

-- ---- the sizes

pub sized : (b : Base) {d h i o a w : ℕ} {headers : List ℕ} {x : Inputs} {y : Outputs} {z : OutputsData} {v : Witnesses}
    → d ≡ min (length (fix_list (deps_at b.deps.present.now b.deps.udt.now b.deps.lock.now b.deps.extra.now b.chosen.now))) 133117
    → headers ≡ or_empty b.present.headers.now → h ≡ min (length headers) 133117
    → x ≡ inputs_in b → i ≡ min (length (inputs_bytes x)) 133117
    → y ≡ outputs_in b → ((n : ℕ) → o ≡ min (length (join (output_list n y.lock.now y.udt.now y.present.list.now y.present.count (shannon_count y.change) y.source.now))) 133117)
    → z ≡ data_in b → ((n : ℕ) → a ≡ min (length (join (data_list (is_some z.tokens) n z.present.list.now z.present.count (token_count z.change)))) 133117)
    → v ≡ witnesses_in b → w ≡ min (length (witness_bytes v)) 133117
    → Capped (record { deps = d; headers = h; inputs = i; outputs = o; datas = a; witnesses = w }) (lists_in b)
unfolding lists_of
sized b ed eh en ex ei ey eo ez ea ev ew = record {
  deps = ed;
  headers = rw (← eh) en;
  inputs = rw ex at ei;
  outputs = rw ey at (eo (shannon_count b.plan.capacity));
  datas = rw (ez, no_tokens) at (ea (token_count b.plan.token));
  witnesses = rw ev at ew;
}

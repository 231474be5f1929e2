-- What is written is the transaction of the definition.
use mathlib.Core.Path.{◌≡◌, refl, sym, ap, ◌∙◌}
use Prim.Native.Nat.{ℕ, ◌≤◌, ◌<◌, min}
use mathlib.Core.List.{List}
use Rattle.std.specs.Prelude.{Err}
use native.Mathlib.Omega.{arith}
use borrow.Author.Tests.{lt-leb}
use lib.ListN.{length, take}
use Rattle.arithmetic.specs.LittleEndian.{AllBytes}
use Rattle.error.specs.declared.Refusal.{Refusal}
use Rattle.error.specs.Refusal.{number, values}
use Rattle.units.specs.declared.{Shannons.Shannons, Tokens.Tokens}
use Rattle.units.specs.Units.{shannon_count, token_count, Figures}
use Rattle.molecule.specs.Items.{join, fix_list}
use Rattle.molecule.specs.Layout.{item_count, item_of, fix_count, fix_item}
use Rattle.molecule.proofs.Offsets.{span-length}
use Rattle.transaction.specs.Ckb.{CellDep, CellDeps}
use Rattle.transaction.specs.Tx.{tx_at, raw_field}
use Rattle.error.specs.Outcome.{Outcome, fine, told, answer_by, check, check_with, ◌>>=◌, ◌>>◌}
use Rattle.transaction_writer.specs.declared.TxFields.{TxFields}
use Rattle.transaction_writer.specs.TxFields.{AreTxFields}
use Rattle.transaction_writer.specs.Written.{fits, in_room, written}
use Rattle.transaction_writer.proofs.PutLaws.{tx_length}
use Rattle.list_writer.specs.ListWriter.{if_positive}
use Rattle.list_writer.proofs.AgainLaws.{if_readable}
use Rattle.cell_deps.specs.CellDeps.{cell_deps, dep_count, deps_at, Chooses}
use Rattle.cell_deps.specs.declared.DepLists.{DepLists}
use Rattle.cell_deps.specs.DepLists.{distinct_of, count_of}
use Rattle.cell_deps.proofs.LongLaws.{too_many, deps_most}
use Rattle.udt_cells.specs.Pick.{Pick}
use Rattle.base_writer.specs.declared.Plan.{Plan}
use Rattle.base_writer.specs.Lists.{present_of, beside_of, lists_of, base_bytes}
use Rattle.funding_builder.specs.Base.{Lent, lent_of, Packed, packed, base_tx}
use Rattle.funding_builder.specs.Steps.{Readable, Roomy, Planned, AreDeps}
use Rattle.funding_builder.proofs.PresentLaws.{deps-readable, headers_again, option-of}

packed-long : (t : Packed) → length (fix_list t.cell_deps) ≤ length (packed t)
unfolding packed
packed-long t =
    omega (arith, tx_length t.version (fix_list t.cell_deps) (fix_list t.header_deps) (fix_list t.inputs) (join t.outputs) (join t.outputs_data) (join t.witnesses))

module _ (ours lock udt source cells udt_deps lock_dep extra_deps : List ℕ) (capacity : Shannons) (token : Tokens) (taken : ℕ) (change : Tokens) (out : List ℕ) where
  abbrev l : Lent
  l = lent_of ours lock udt source cells udt_deps lock_dep extra_deps

  abbrev cell : Figures
  cell = record { capacity = shannon_count capacity; token = token_count token }

  abbrev pick : Pick
  pick = record { taken = taken; change = token_count change }

  abbrev base : List ℕ
  base = packed (base_tx l cell pick)

  module _ (ready : Readable l) {l₁ l₂ : ℕ} (roomy : Roomy l taken l₁ l₂) {d : DepLists} (ds : AreDeps d l taken) where
    abbrev list : List (List ℕ)
    list = cell_deps (raw_field ours 1) (if_positive taken udt_deps) (if_positive taken lock_dep) extra_deps

    same-deps : (base_tx l cell pick).cell_deps ≡ list
    unfolding base_tx
    same-deps = refl

    same_list : distinct_of d ≡ list
    same_list = rw (ds.present, ds.udt, ds.lock, ds.extra) refl

    -- more deps than fit
    pub over-deps : min l₁ l₂ < length (distinct_of d) → (told (Err Refusal.BufferTooShort), out) ≡ written (fine base) out
    unfolding in_room answer_by check check_with ◌>>=◌ ◌>>◌ number values fits
    over-deps h =
        let e = roomy.same in
        let n = ap length same_list in
        let most = roomy.enough (omega arith) in
        let far : 133116 < length (fix_list list)
        = too_many (raw_field ours 1) (if_positive taken udt_deps) (if_positive taken lock_dep) extra_deps (deps-readable ours ready.ours) (if_readable CellDeps taken udt_deps ready.udt_deps) (if_readable CellDep taken lock_dep ready.lock_dep) (option-of CellDeps extra_deps ready.extra_deps) (omega arith) in
        let long : 133116 < length base = omega (arith, packed-long (base_tx l cell pick), ap (λ (ds : List (List ℕ)). length (fix_list ds)) same-deps) in
        rw (lt-leb (length base) 133116 long)

    module _ (b : AllBytes ours) {f : TxFields} (fs : AreTxFields f ours) {r : ℕ} (low : r ≤ min l₁ l₂) {p : List ℕ}
        (choice : Chooses d.present.now d.udt.now d.lock.now d.extra.now (min l₁ l₂) p r) {x : Plan} (plan : Planned x capacity token taken change source udt) where
      same : base_bytes f.version (lists_of (present_of d.present.now f.headers.now f.inputs.now f.outputs.now f.datas.now)
          (beside_of lock udt source cells d.udt.now d.lock.now d.extra.now) (take r p) x) ≡ base
      unfolding base_bytes lists_of packed base_tx
      same =
          let many : length (tx_at ours).outputs ≡ item_count (raw_field ours 4) = span-length (item_of (raw_field ours 4)) 0 (item_count (raw_field ours 4)) in
          let ins : length (tx_at ours).inputs ≡ fix_count (raw_field ours 3) = span-length (fix_item (raw_field ours 3) 44) 0 (fix_count (raw_field ours 3)) in
          let dep : deps_at d.present.now d.udt.now d.lock.now d.extra.now (take r p) ≡ list = choice.chosen low ∙ same_list in
          rw (dep, fs.version, fs.headers, fs.inputs, fs.outputs, fs.datas, plan.cell, plan.tokens, plan.picked, plan.left, plan.back, many, ins, ← headers_again ours ready.ours b)

      pub assembled : {y : Outcome ℕ × List ℕ}
          → y ≡ written (fine (base_bytes f.version (lists_of (present_of d.present.now f.headers.now f.inputs.now f.outputs.now f.datas.now)
          (beside_of lock udt source cells d.udt.now d.lock.now d.extra.now) (take r p) x))) out
          → y ≡ written (fine base) out
      assembled e = e ∙ ap (λ (t : List ℕ). written (fine t) out) same

-- ---- room for the places

pub room-few : (t : Lent) (taken : ℕ) {d : DepLists} {n l m : ℕ} → AreDeps d t taken → n ≡ count_of d → n ≤ 64 → l ≡ 64 → m ≡ 64 → Roomy t taken l m
room-few t taken {d} {n} ds e h el em =
    let n-is : n ≡ dep_count (raw_field t.ours 1) (if_positive taken t.udt_deps) (if_positive taken t.lock_dep) t.extra_deps = rw (ds.present, ds.udt, ds.lock, ds.extra) at e in
    let most = deps_most (raw_field t.ours 1) (if_positive taken t.udt_deps) (if_positive taken t.lock_dep) t.extra_deps in
    record { same = el ∙ sym em; enough = λ k. absurd (omega arith) }

pub room_most : (t : Lent) (taken : ℕ) {l m : ℕ} → l ≡ 3597 → m ≡ 3597 → Roomy t taken l m
room_most t taken el em = record { same = el ∙ sym em; enough = λ k. omega arith }

-- Laws of specs/Change.antt: one for each way out of the functions.
use Rattle.std.proofs.Common.{Option, Some, None}
use mathlib.Core.Path.{◌≡◌, sym, ap, ap₂, ◌∙◌}
use Prim.Native.Nat.{ℕ, ◌+◌, ◌^◌, ◌≤◌, ◌<◌, min}
use mathlib.Core.Bool.{Bool, true}
use mathlib.Core.List.{List, ◌++◌}
use native.Mathlib.Nat.{le_trans}
use native.Mathlib.Omega.{arith}
use borrow.Author.Tests.{lt-ltb}
use lib.ListN.{length, drop}
use Rattle.arithmetic.specs.LittleEndian.{AllBytes}
use Rattle.units.specs.declared.{Shannons.Shannons}
use Rattle.units.specs.Units.{in_shannons, shannon_count}
use Rattle.units.specs.Fee.{change_shannons, change_capacity}
use Rattle.molecule.specs.Molecule.{readable, option}
use Rattle.molecule.specs.Layout.{field_of, content}
use Rattle.molecule.specs.Write.{put_at}
use Rattle.molecule.proofs.LayoutLaws.{part_short}
use Rattle.molecule.proofs.ReadableLaws.{dynamic, below}
use Rattle.molecule.proofs.WriteLaws.{put_yes, splice_zero}
use Rattle.transaction.specs.Ckb.{Script, TokenCells}
use Rattle.transaction.specs.Tx.{args_of}
use Rattle.error.specs.Outcome.{fine, check, check_with, ◌>>◌}
use Rattle.error.proofs.Passed.{is_true, check-fine, check_last}
use Rattle.error.proofs.Outcomes.{outcomes, answering}
use Rattle.transaction_writer.specs.Written as written
use Rattle.std.proofs.lemmas.Bool.Decides.{nat_tests}
use Rattle.cell_output.specs.CellOutput.{cell_output}
use Rattle.udt_cells.specs.Change.{capacity_for, with_output, with_change, lent}
use Rattle.cell_output.proofs.CellOutputLaws.{output-length}

-- ---- the capacity

pub capacity-is : (s t : List ℕ) {x y : List ℕ} {r : Option Shannons} → x ≡ args_of s → y ≡ args_of t → r ≡ change_capacity (length x) (length y)
    → r ≡ change_capacity (length (args_of s)) (length (args_of t))
capacity-is s t ex ey e = e ∙ ap₂ (λ (a b : List ℕ). change_capacity (length a) (length b)) ex ey

-- the args of a script are a part of it, and a readable script says its length in four bytes
pub args_within : (s : List ℕ) → length (args_of s) ≤ length s
unfolding args_of content field_of
args_within s = le_trans (part_short (field_of s 3 2) 4 _) (part_short s _ _)

pub capacity-below : (s t : List ℕ) → AllBytes s → AllBytes t → readable Script s ≡ true → readable (option Script) t ≡ true → capacity_for s t < 2 ^ 64
unfolding dynamic
capacity-below s t bs bt hs ht =
    let a : length s < 2 ^ 32 = below Script tt s bs hs in
    let b : length t < 2 ^ 32 = below (option Script) tt t bt ht in
    omega (arith, args_within s, args_within t)

module _ (a b : ℕ) (low : change_shannons a b < 2 ^ 64) {r : Option Shannons} (er : r ≡ change_capacity a b) where
  fits : r ≡ Some (in_shannons (change_shannons a b))
  unfolding change_capacity
  fits = er ∙ rw (lt-ltb (change_shannons a b) (2 ^ 64) low)

  pub capacity-fits : {c : Shannons} → r ≡ Some c → shannon_count c ≡ change_shannons a b
  capacity-fits {c} h = let f = fits in let k : c ≡ in_shannons (change_shannons a b) = cc in ap shannon_count k

  pub capacity-over : r ≡ None → ⊥
  capacity-over h = let f = fits in let z : ◌≡◌ {A = ℕ} 0 1 = cc in omega arith

-- ---- the change output

-- where it fits, it is put at the start
pub put_at_start : (out : List ℕ) (c : ℕ) (source type : List ℕ) {room : ℕ} {after : List ℕ} → room ≡ min (length out) 133116 → 24 + length source + length type ≤ room
    → after ≡ put_at out 0 (cell_output c source type) → after ≡ cell_output c source type ++ drop (length (cell_output c source type)) out
put_at_start out c source type em l e =
    let n : 0 + length (cell_output c source type) ≤ length out = omega (arith, output-length c source type) in
    e ∙ put_yes out 0 _ n ∙ splice_zero out _

-- ---- what is lent

-- and what is known where they are
module _ (cells type source : List ℕ) (r : Bool) (er : check 3 r ≡ lent cells type source) (h : r ≡ true) where
  lent-fine : (check 3 (readable TokenCells cells) >> (check 3 (readable (option Script) type) >> check 3 (readable Script source))) ≡ fine tt
  unfolding check check_with lent
  lent-fine = sym er ∙ rw h

  pub lent_script : readable Script source ≡ true
  lent_script = let (a, e) = check-fine 3 _ _ tt lent-fine in let (b, f) = check-fine 3 _ _ tt e in is_true _ (check_last 3 _ tt f)

  pub lent-option : readable (option Script) type ≡ true
  lent-option = let (a, e) = check-fine 3 _ _ tt lent-fine in let (b, f) = check-fine 3 _ _ tt e in is_true _ b

-- of the change as it is written, and what it unfolds
pub ruleset changed = (outcomes, nat_tests, output-length, put_at_start)

unfoldable pub changing : Unit {0}
unfolding answering with_change with_output written.fits change_capacity
changing = tt

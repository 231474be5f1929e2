-- A table of more than 256 records is refused with 14, and any other is left.
use mathlib.Core.Path.{◌≡◌, sym, ap, ◌∙◌}
use Prim.Native.Nat.{◌≤◌, ◌<◌}
use borrow.Author.Tests.{le-leb, lt-leb}
use mathlib.Core.List.{List, []}
use Rattle.std.proofs.Common.{Ok, Err}
use lib.ListN.{length}
use Rattle.error.specs.declared.{Refusal.Refusal}
use Rattle.error.specs.Refusal.{number, values}
use Rattle.error.specs.Outcome.{fine, refused, check, check_with, ◌>>◌, told_by}
use Rattle.hold_records.specs.declared.{Hold.Hold, Held.Held}
use Rattle.hold_records.specs.Holds.{records_of, at_most_256}

pub over : (l : List Hold) → 256 < length l → at_most_256 l ≡ refused 14 []
unfolding at_most_256 check check_with ◌>>◌
over l b = rw (lt-leb (length l) 256 b)

pub under : (l : List Hold) → length l ≤ 256 → at_most_256 l ≡ fine l
unfolding at_most_256 check check_with ◌>>◌
under l b = rw (le-leb (length l) 256 b)

pub over-is : (l : List Hold) → 256 < length l → told_by records_of (Err Refusal.TooManyHolds) ≡ at_most_256 l
unfolding number values
over-is l b = sym (over l b)

pub under-is : (g : Held) (l : List Hold) → length l ≤ 256 → records_of g ≡ l → told_by records_of (Ok g) ≡ at_most_256 l
under-is g l b eg = ap fine eg ∙ sym (under l b)

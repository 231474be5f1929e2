-- Every worked call on a lent exclusion map gives what its row says.
use mathlib.Core.Path.{◌≡◌, refl, ap, ◌∙◌}
use Prim.Native.Nat.{ℕ, ◌-◌, ◌^◌}
use mathlib.Core.List.{List, [], ◌∷◌}
use native.Mathlib.Omega.{arith}
use borrow.Author.Tests.{leb-true}
use lib.ListN.{replicate}
use Rattle.error.specs.Outcome.{fine}
use Rattle.exclusion_entries.specs.Exclusions.{truncate_on}
use Rattle.exclusion_entries.specs.Entries.{FitEntry}
use Rattle.case_parts.specs.Rows.{AllRight}
use Rattle.case_parts.specs.Parts.{bare}
use Rattle.case_parts.proofs.Rows.{◌and◌, done}
use Rattle.known_exclusions.specs.Exclusions.{on_bytes, left, add, commit, zeros, lent, hash, room, listed, pending_of, committed_of, transactions, pending7, committed7, one, two, three, twice, excluded_by, no_map, unread, full, works, doubled, lists}
use Rattle.known_exclusions.proofs.Computing.{computing}
use Rattle.known_exclusions.proofs.LentLaws.{Holds, add-on, commit-on, remove-on, truncate-on, migrate-on, apply-on, left-holds, zeros-hold, lent-holds, pending-fits, committed-fits, transactions-fit}

pub known_no_map : AllRight no_map
unfolding computing
known_no_map = refl and refl and refl and refl and refl and refl and refl and refl and refl and refl and done

-- ---- maps with entries

one_holds : Holds (lent one) one
unfolding computing
one_holds = lent-holds one (leb-true _ _ refl) (leb-true _ _ refl) (pending-fits 7 1 (omega arith) (omega arith), tt)

two-hold : Holds (lent two) two
unfolding computing
two-hold = lent-holds two (leb-true _ _ refl) (leb-true _ _ refl) (committed-fits 7 1 2 (omega arith) (omega arith) (omega arith), (pending-fits 5 1 (omega arith) (omega arith), tt))

pub known_unread : AllRight unread
unfolding computing
known_unread =
    refl
    and refl
    and add-on zeros-hold (replicate 31 0) (bare 2) refl
    and commit-on zeros-hold (replicate 33 0) 100
    and remove-on zeros-hold []
    and refl
    and refl
    and migrate-on zeros-hold (replicate 31 0) (hash 8) (bare 2) refl
    and migrate-on zeros-hold (hash 7) (replicate 33 0) (bare 2) refl
    and migrate-on two-hold (hash 7) [] [] refl
    and done

full_63 : Holds (lent (transactions 63)) (transactions 63)
unfolding computing
full_63 = lent-holds (transactions 63) (leb-true _ _ refl) (leb-true _ _ refl) (transactions-fit 0 63 (omega arith))

full_64 : Holds (lent (transactions 64)) (transactions 64)
unfolding computing
full_64 = lent-holds (transactions 64) (leb-true _ _ refl) (leb-true _ _ refl) (transactions-fit 0 64 (omega arith))

wide_511 : Holds (lent (pending_of 1 511 ∷ [])) (pending_of 1 511 ∷ [])
unfolding computing
wide_511 = lent-holds (pending_of 1 511 ∷ []) (leb-true _ _ refl) (leb-true _ _ refl) (pending-fits 1 511 (omega arith) (omega arith), tt)

wide_512 : Holds (lent (pending_of 1 512 ∷ [])) (pending_of 1 512 ∷ [])
unfolding computing
wide_512 = lent-holds (pending_of 1 512 ∷ []) (leb-true _ _ refl) (leb-true _ _ refl) (pending-fits 1 512 (omega arith) (omega arith), tt)

wide_two : Holds (lent (pending_of 1 512 ∷ pending_of 3 0 ∷ [])) (pending_of 1 512 ∷ pending_of 3 0 ∷ [])
unfolding computing
wide_two =
    lent-holds (pending_of 1 512 ∷ pending_of 3 0 ∷ []) (leb-true _ _ refl) (leb-true _ _ refl)
    (pending-fits 1 512 (omega arith) (omega arith), (pending-fits 3 0 (omega arith) (omega arith), tt))

pub known_full : AllRight full
unfolding computing
known_full =
    add-on full_63 (hash 63) [] refl
    and add-on full_63 (hash 63) (bare 0) refl
    and add-on full_64 (hash 64) (bare 0) refl
    and add-on full_64 (hash 63) (bare 0) refl
    and migrate-on full_64 (hash 0) (hash 64) (bare 0) refl
    and add-on wide_511 (hash 2) (bare 1) refl
    and add-on wide_512 (hash 2) (bare 1) refl
    and add-on wide_512 (hash 1) (bare 1) refl
    and migrate-on wide_512 (hash 1) (hash 2) (bare 1) refl
    and migrate-on wide_two (hash 3) (hash 2) (bare 1) refl
    and done

three-hold : Holds (lent three) three
unfolding computing
three-hold =
    lent-holds three (leb-true _ _ refl) (leb-true _ _ refl)
    (committed-fits 7 1 2 (omega arith) (omega arith) (omega arith), (pending-fits 5 1 (omega arith) (omega arith), (pending-fits 6 0 (omega arith) (omega arith), tt)))

twice-hold : Holds (lent twice) twice
unfolding computing
twice-hold =
    lent-holds twice (leb-true _ _ refl) (leb-true _ _ refl)
    (pending-fits 7 2 (omega arith) (omega arith), (pending-fits 5 1 (omega arith) (omega arith), (pending-fits 7 1 (omega arith) (omega arith), tt)))

last_holds : Holds (lent (committed_of 7 (2 ^ 64 - 1) 2 ∷ [])) (committed_of 7 (2 ^ 64 - 1) 2 ∷ [])
unfolding computing
last_holds = lent-holds (committed_of 7 (2 ^ 64 - 1) 2 ∷ []) (leb-true _ _ refl) (leb-true _ _ refl) (committed-fits 7 (2 ^ 64 - 1) 2 (omega arith) (omega arith) (omega arith), tt)

pub known_works : AllRight works
unfolding computing
known_works =
    add-on two-hold (hash 7) (bare 1) refl
    and add-on two-hold (hash 6) (bare 0) refl
    and commit-on two-hold (hash 5) 9
    and commit-on two-hold (hash 7) 9
    and commit-on two-hold (hash 6) 9
    and remove-on two-hold (hash 7)
    and remove-on two-hold (hash 6)
    and truncate-on last_holds (2 ^ 64 - 1)
    and truncate-on two-hold 14
    and migrate-on two-hold (hash 7) (hash 8) (bare 1) refl
    and migrate-on two-hold (hash 7) (hash 7) (bare 1) refl
    and migrate-on three-hold (hash 7) (hash 5) (bare 2) refl
    and migrate-on two-hold (hash 7) (hash 6) [] refl
    and migrate-on two-hold (hash 6) (hash 8) (bare 1) refl
    and done

pub known_doubled : AllRight doubled
unfolding computing
known_doubled = add-on twice-hold (hash 7) (bare 0) refl and commit-on twice-hold (hash 7) 9 and remove-on twice-hold (hash 7) and migrate-on twice-hold (hash 7) (hash 8) (bare 1) refl and done

pub known_lists : AllRight lists
unfolding computing
known_lists = refl and apply-on two-hold (room 2) and apply-on one_holds (replicate 39 165) and apply-on two-hold (room 4) and apply-on zeros-hold [] and apply-on zeros-hold (room 0) and done

-- ---- the starred ones

added7 : Holds (left (add zeros (hash 7) (bare 2))) pending7
unfolding computing
added7 = left-holds zeros-hold pending7 (add-on zeros-hold (hash 7) (bare 2) refl) (leb-true _ _ refl) (leb-true _ _ refl) (pending-fits 7 2 (omega arith) (omega arith), tt)

fits7 : FitEntry (committed_of 7 100 2)
fits7 = committed-fits 7 100 2 (omega arith) (omega arith) (omega arith)

abbrev at100 : List ℕ
at100 = left (commit (left (add zeros (hash 7) (bare 2))) (hash 7) 100)

committed-holds : Holds at100 committed7
unfolding computing
committed-holds = left-holds added7 committed7 (commit-on added7 (hash 7) 100) (leb-true _ _ refl) (leb-true _ _ refl) (fits7, tt)

kept : (tip : ℕ) → truncate_on committed7 (record { 0 = tip }) ≡ fine committed7 → excluded_by tip ≡ 0 ∷ 0 ∷ 1 ∷ []
unfolding computing
kept tip e = ap listed (apply-on (left-holds committed-holds committed7 (truncate-on committed-holds tip ∙ ap (on_bytes at100) e) (leb-true _ _ refl) (leb-true _ _ refl) (fits7, tt)) (room 2))

pub kept-at_99 : excluded_by 99 ≡ 0 ∷ 0 ∷ 1 ∷ []
unfolding computing
kept-at_99 = kept 99 refl

pub kept-at_112 : excluded_by 112 ≡ 0 ∷ 0 ∷ 1 ∷ []
unfolding computing
kept-at_112 = kept 112 refl

pub dropped_at_113 : excluded_by 113 ≡ 0 ∷ []
unfolding computing
dropped_at_113 = ap listed (apply-on (left-holds committed-holds [] (truncate-on committed-holds 113) (omega arith) (leb-true _ _ refl) tt) (room 2))

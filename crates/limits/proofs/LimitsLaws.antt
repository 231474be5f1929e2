-- Laws of the limits, one for each way out of the functions.
use mathlib.Core.Path.{◌≡◌, refl, ap}
use Prim.Native.Nat.{ℕ, ◌+◌, ◌-◌, ◌≤◌, ◌<◌}
use mathlib.Core.List.{List}
use mathlib.Core.Bool.{true, false}
use borrow.Author.Tests.{lt-leb, le-leb}
use lib.ListN.{length}
use lib.Dec.{leb}
use Rattle.transaction.specs.Tx.{tx_at}
use Rattle.error.specs.Outcome.{check}
use Rattle.rules.specs.declared.Limits.{Limits}
use Rattle.rules.specs.{Judge.{within, today}, Lines.verdict}
use Rattle.limits.specs.declared.TheConstants as code
use Rattle.rules.proofs.Checks.{skip, fail, pass, last_is}

-- the constant of code is the value of the rules
pub today-is : code.TODAY ≡ today
today-is = refl

-- n is the figure that a line of the limits bounds by k
over : {k n m : ℕ} → n ≡ m → k < n → leb m k ≡ false
over {k} {n} {m} e h = lt-leb m k (rw (← e) h)

at_most : {k n m : ℕ} → n ≡ m → n ≤ k → leb m k ≡ true
at_most {k} {n} {m} e h = le-leb m k (rw (← e) h)

module _ (most : Limits) (o p : List ℕ) {size : ℕ} (es : size ≡ length p + 4) where
  pub limit_size : 133120 < size → check 4 false ≡ verdict (within most (length p + 4) (tx_at o) (tx_at p))
  unfolding within
  limit_size h = fail 4 _ _ (over es h)

  module _ (s : size ≤ 133120) {a : ℕ} (ea : a ≡ length (tx_at p).inputs - length (tx_at o).inputs) where
    pub limit_inputs : most.inputs < a → check 4 false ≡ verdict (within most (length p + 4) (tx_at o) (tx_at p))
    unfolding within
    limit_inputs h = skip 4 _ _ _ (fail 4 _ _ (over ea h))

    module _ (t : a ≤ most.inputs) {b : ℕ} (eb : b ≡ length (tx_at p).outputs - length (tx_at o).outputs) where
      pub limit_outputs : most.outputs < b → check 4 false ≡ verdict (within most (length p + 4) (tx_at o) (tx_at p))
      unfolding within
      limit_outputs h = skip 4 _ _ _ (skip 4 _ _ _ (fail 4 _ _ (over eb h)))

      module _ (u : b ≤ most.outputs) {c : ℕ} (ec : c ≡ length (tx_at p).cell_deps - length (tx_at o).cell_deps) where
        pub limit_cell_deps : most.cell_deps < c → check 4 false ≡ verdict (within most (length p + 4) (tx_at o) (tx_at p))
        unfolding within
        limit_cell_deps h = skip 4 _ _ _ (skip 4 _ _ _ (skip 4 _ _ _ (fail 4 _ _ (over ec h))))

        pub limit_header_deps : {d : ℕ} → c ≤ most.cell_deps → d ≡ length (tx_at p).header_deps - length (tx_at o).header_deps
            → check 4 (leb d most.header_deps) ≡ verdict (within most (length p + 4) (tx_at o) (tx_at p))
        unfolding within
        limit_header_deps v ed =
            pass 4 _ _ (at_most es s) (pass 4 _ _ (at_most ea t) (pass 4 _ _ (at_most eb u) (pass 4 _ _ (at_most ec v) (last_is 4 _ (ap (λ (n : ℕ). leb n most.header_deps) ed)))))

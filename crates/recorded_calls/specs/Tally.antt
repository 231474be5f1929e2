-- Counts, which stay at the greatest number.
use Rattle.std.specs.Prelude.{ℕ, ◌+◌, ◌-◌, ◌^◌, min, Bool, cond, List, [], ◌∷◌}
use Rattle.recorded_calls.specs.declared.tally.Tally.{Tally}

abbrev pub capped : ℕ → ℕ
capped n = min n (2 ^ 64 - 1)

abbrev pub added : Tally → Tally → Tally
added t u = record { all = capped (t.all + u.all); wrong = capped (t.wrong + u.wrong) }

-- with one more
abbrev pub counted : Tally → Bool → Tally
counted t right = added t (record { all = 1; wrong = cond right 0 1 })

-- with one more in all, and with one more that is wrong
abbrev pub one_more : Tally → Tally
one_more t = added t (record { all = 1; wrong = 0 })

abbrev pub one_wrong : Tally → Tally
one_wrong t = added t (record { all = 0; wrong = 1 })

unfoldable pub total : Tally → List Tally → Tally
total t [] = t
total t (u ∷ us) = total (added t u) us

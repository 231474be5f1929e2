-- Laws of specs/Pick.antt: the loop over the cells.
use Rattle.std.proofs.Common.{◌≡◌, ℕ, ◌+◌, ◌-◌, ◌≤◌, ◌<◌, false, List, [], ◌∷◌, ap, ◌∙◌, sym, leb, Option, Some, None, Result, Ok, Err}
use borrow.Author.Tests.{le-leb, lt-leb}
use Rattle.std.specs.Option.{option_map}
use Rattle.error.specs.declared.Refusal.{Refusal}
use Rattle.error.specs.Refusal.{number, values}
use Rattle.arithmetic.specs.Amount.{sum, difference, amount_at}
use Rattle.units.specs.declared.Tokens.{Tokens}
use Rattle.units.specs.Units.{in_tokens, token_count}
use Rattle.units.proofs.CountLaws.{tokens-left, tokens-enough, tokens_lacking}
use Rattle.molecule.specs.Layout.{span, item_count, item_of, items_of}
use Rattle.lists.proofs.SpanLaws.{span-on, span-end, span-whole}
use Rattle.error.specs.Outcome.{Outcome, fine, ◌>>=◌, told_by, refusal}
use Rattle.error.proofs.Outcomes.{answering}
use Rattle.udt_cells.specs.Pick.{Pick, plus_cell, enough_or, pick_from}

-- where the total is enough, no cell is looked at
pub enough : (wanted taken total : ℕ) (cells : List (List ℕ)) → wanted ≤ total → pick_from wanted taken total cells ≡ fine (record { taken = taken; change = total - wanted })
unfolding pick_from enough_or
enough wanted taken total [] h = rw (le-leb wanted total h)
enough wanted taken total (c ∷ cells) h = rw (le-leb wanted total h)

-- R is the answer, the cells from `taken` on decide
pub record Picking (wanted : Tokens) (s : List ℕ) (n taken : ℕ) (total : Tokens) (R : Outcome Pick) : Type 0 where
  pub rest : R ≡ pick_from (token_count wanted) taken (token_count total) (span (item_of s) taken (n - taken))

pub pick-none : (wanted : Tokens) (s : List ℕ) {n : ℕ} → n ≡ item_count s → Picking wanted s n 0 (in_tokens 0) (pick_from (token_count wanted) 0 0 (items_of s))
pick-none wanted s {n} e = record { rest = rw (← e) (ap (pick_from (token_count wanted) 0 0) (span-whole (item_of s) n)) }

module _ {wanted : Tokens} {s : List ℕ} {n taken : ℕ} {total : Tokens} {R : Outcome Pick} (p : Picking wanted s n taken total R) {d : Option Tokens}
    (ed : d ≡ option_map in_tokens (difference total.0 wanted.0)) where
  pub pick-enough : {change : Tokens} → d ≡ Some change → fine (record { taken = taken; change = token_count change }) ≡ R
  pick-enough {change} h =
      ap (λ (k : ℕ). fine (record { taken = taken; change = k })) (tokens-left total wanted ed h)
      ∙ sym (p.rest ∙ enough _ taken _ _ (tokens-enough total wanted ed h))

  module _ (h : d ≡ None) where
    lacks : leb (token_count wanted) (token_count total) ≡ false
    lacks = lt-leb (token_count wanted) (token_count total) (tokens_lacking total wanted ed h)

    pub pick_short : n ≤ taken → refusal Refusal.InsufficientCells ≡ R
    unfolding pick_from enough_or number values
    pick_short l = sym (p.rest ∙ rw (span-end (item_of s) taken n l, lacks))

    module _ (l : taken < n) (q : Result Tokens Refusal) (e : told_by token_count q ≡ plus_cell (token_count total) (item_of s taken)) where
      pub pick-stop : {x : Refusal} → q ≡ Err x → refusal x ≡ R
      unfolding pick_from enough_or ◌>>=◌
      pick-stop z = sym (p.rest ∙ rw (span-on (item_of s) taken n l, lacks, ← e, z))

      pub pick_more : {t : Tokens} → q ≡ Ok t → Picking wanted s n (taken + 1) t R
      unfolding pick_from enough_or ◌>>=◌
      pick_more z = record { rest = p.rest ∙ rw (span-on (item_of s) taken n l, lacks, ← e, z) }

-- what a cell's amount unfolds
unfoldable pub adding : Unit {0}
unfolding answering plus_cell sum amount_at
adding = tt

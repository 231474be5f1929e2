-- The calls of our own side: one law for each way out of the functions that C calls.
use mathlib.Core.Path.{◌≡◌, ◌∙◌}
use Prim.Native.Nat.{ℕ, ◌+◌, ◌*◌, ◌^◌}
use mathlib.Core.List.{List}
use Rattle.error.specs.Outcome.{Outcome}
use Rattle.words.specs.Words.{in_words, writing}
use Rattle.words.proofs.WordLaws.{wrote}
use Rattle.funding_cell.specs.declared.FundingRequest.{FundingRequest}
use Rattle.funding_cell.specs.FundingCell.{build_funding_cell}
use Rattle.udt_cells.specs.Change.{Built, udt_inputs_outputs}
use Rattle.transaction_writer.specs.Written.{written}
use Rattle.funding_builder.specs.Base.{Lent, build_base}
use Rattle.answer_words.specs.Answers.{cell_words, pick_words, count_words}

pub cell-told : (ours udt : List ℕ) (request : FundingRequest) (words : List ℕ) {q : FundingRequest} {o : Outcome _} {r : ℕ × List ℕ} → q ≡ request → o ≡ build_funding_cell ours udt q
    → r ≡ in_words cell_words o words → r ≡ in_words cell_words (build_funding_cell ours udt request) words
cell-told ours udt request words e k l = l ∙ rw (k, e)

pub pick-written : (cells udt source : List ℕ) (low high : ℕ) (out words : List ℕ) {w : ℕ} {o : Outcome Built} {after : List ℕ} {r : ℕ × List ℕ} → w ≡ low + 2 ^ 64 * high
    → (o, after) ≡ udt_inputs_outputs cells udt source w out → r ≡ in_words pick_words o words
    → (r, after) ≡ writing pick_words (udt_inputs_outputs cells udt source (low + 2 ^ 64 * high) out) words
pick-written cells udt source low high out words ew e k = wrote pick_words _ words (rw ew at e) k

pub base_written : (l : Lent) (request : FundingRequest) (out words : List ℕ) {q : FundingRequest} {o : Outcome ℕ} {after : List ℕ} {r : ℕ × List ℕ} → q ≡ request
    → (o, after) ≡ written (build_base l q) out → r ≡ in_words count_words o words → (r, after) ≡ writing count_words (written (build_base l request) out) words
base_written l request out words g e k = wrote count_words _ words (e ∙ rw g) k

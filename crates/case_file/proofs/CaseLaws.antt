-- The case that a file holds, and its verdict: one law for each way out of the entry's functions.
use Rattle.std.proofs.Common.{Err}
use mathlib.Core.Path.{◌≡◌, refl, sym, ap, ◌∙◌}
use Prim.Native.Nat.{ℕ, suc, ◌+◌, ◌-◌, ◌*◌, ◌≤◌, ◌<◌}
use mathlib.Core.Bool.{Bool, true, false}
use mathlib.Core.List.{List, [], flatten}
use Rattle.std.proofs.Math.Option.{Option, none, some, some-injective}
use Rattle.std.specs.Prelude as rust
use Rattle.std.specs.Prelude.{Some, None}
use Rattle.std.proofs.lemmas.Option.{none-some, same_Some}
use native.Mathlib.Omega.{arith}
use borrow.Author.Tests.{le-leb, lt-leb}
use lib.Dec.{eqb}
use lib.ListN.{length, take, drop}
use lib.Seq.{take_at}
use Rattle.arithmetic.specs.LittleEndian.{u64_at}
use Rattle.error.specs.declared.Refusal.{Refusal}
use Rattle.error.specs.Refusal.{number, values}
use Rattle.molecule.specs.Partial.{only, pick}
use Rattle.molecule.specs.Items.{join}
use Rattle.molecule.specs.Write.{splice, Put}
use Rattle.molecule.proofs.ItemsLaws.{length-join}
use Rattle.molecule.proofs.WriteLaws.{splice_zero}
use Rattle.transaction.specs.Cells.{Cell}
use Rattle.error.specs.Outcome.{Outcome}
use Rattle.units.specs.Units.{Figures}
use Rattle.rules.specs.Judge.{judge}
use Rattle.rules.specs.Told.{told}
use Rattle.verdict_line.specs.VerdictLine.{line_of}
use Rattle.case_file.specs.declared.items.Places.{Places}
use Rattle.case_file.specs.declared.record_list.Measured.{Measured}
use Rattle.case_file.specs.CaseFile.{Read, Case, ◌>>=◌, kind_at, length_at, body_at, item_at, optional_at, rate_at, records_from, record_list, read_case, case_of, verdict_of, case_line}
use Rattle.case_file.specs.Walk.{next_of, case_places, optional_body, verdict_at, walk, measured}
use Rattle.case_file.specs.Walk as places
use Rattle.case_file.proofs.RecordLaws.{only-some, item-some, walk-bytes}
use Rattle.case_file.proofs.ListLaws.{length-walk}

-- ---- the items before the records

-- the case whose bodies stand at these places
abbrev case_at : List ℕ → Places → List (Option Cell) → Case
case_at s p rs = record {
  ours = optional_body s 1 0;
  peer = body_at s p.peer;
  lock = body_at s p.lock;
  type = optional_body s 4 p.udt;
  source = body_at s p.source;
  rate = u64_at (body_at s p.rate) 0;
  records = rs;
}

-- the case of a file with these places
abbrev case_by : List ℕ → rust.Option Places → Option Case
case_by s None = none
case_by s (Some p) = records_from (length s) s p.records >>= λ rs. some (case_at s p rs)

-- reading goes on where the walk does
on_by : (s : List ℕ) (o : Option (Read (List ℕ))) (f : Read (List ℕ) → Option Case) (g : ℕ → rust.Option Places) → ((x : Read (List ℕ)) → o ≡ some x → f x ≡ case_by s (g x.next)) → (o >>= f) ≡ case_by s (places.◌>>=◌ (next_of o) g)
unfolding ◌>>=◌
on_by s none f g h = refl
on_by s (some x) f g h = h x refl

item-got : (s : List ℕ) (kind at : ℕ) {r : Read (List ℕ)} → item_at s kind at ≡ some r → r.got ≡ body_at s at
item-got s kind at e = ap (λ (x : Read (List ℕ)). x.got) (item-some s kind at e).gives

rate-there : (s : List ℕ) (at : ℕ) {r : Read (List ℕ)} → rate_at s at ≡ some r → item_at s 6 at ≡ some r
unfolding rate_at
rate-there s at e = (only-some (eqb (length_at s at) 8) (item_at s 6 at) e).1

optional_got : (s : List ℕ) (kind at : ℕ) {r : Read (List ℕ)} → optional_at s kind at ≡ some r → r.got ≡ optional_body s kind at
unfolding optional_at optional_body pick
optional_got s kind at {r} e = go (eqb (kind_at s at) kind) e
  where
    go : (b : Bool) → pick b (item_at s kind at) (some (record { got = []; next = at })) ≡ some r → r.got ≡ pick b (body_at s at) []
    go true e = item-got s kind at e
    go false e = ap (λ (x : Read (List ℕ)). x.got) (sym (some-injective _ _ e))

head : (s : List ℕ) → read_case s ≡ case_by s (case_places s)
unfolding read_case case_places
head s =
    on_by s (optional_at s 1 0) _ _ (λ a ea. on_by s (item_at s 2 a.next) _ _ (λ b eb. on_by s (item_at s 3 b.next) _ _ (λ c ec. on_by s (optional_at s 4 c.next) _ _ (λ d ed. on_by s (item_at s 5 d.next) _ _ (λ e ee. on_by s (rate_at s e.next) _ _ (λ f ef.
    rw (optional_got s 1 0 ea, item-got s 2 a.next eb, item-got s 3 b.next ec, optional_got s 4 c.next ed, item-got s 5 d.next ee, item-got s 6 e.next (rate-there s e.next ef))))))))

-- ---- the ways out of `judge_case`

-- what was put at the start
written : {out after xs : List ℕ} {n : ℕ} → Put out 0 xs after n → take (n - 0) (drop 0 after) ≡ xs
written {out} {after} {xs} {n} q =
    let z : n - 0 ≡ length xs = omega (arith, q.end) in
    rw (z, q.bytes, splice_zero) (take_at xs (drop (length xs) out) (length xs) refl)

unreadable : (s : List ℕ) → case_of s ≡ none → told (Err Refusal.LentBytesUnreadable) ≡ verdict_of (case_of s)
unfolding verdict_of number values
unreadable s e = rw e

pub too_long_lem : (s : List ℕ) → 65536 < length s → told (Err Refusal.LentBytesUnreadable) ≡ verdict_of (case_of s)
unfolding case_of only
too_long_lem s h = unreadable s (rw (lt-leb (length s) 65536 h))

-- the records that are measured are those that are read
count_of : (o : Option (List (Option Cell))) {m : Measured} → measured o ≡ Some m → (rs : List (Option Cell)) × (o ≡ some rs) × (m.count ≡ length rs) × (m.size ≡ length (record_list rs))
unfolding measured
count_of none {m} e = absurd (none-some m e)
count_of (some rs) {m} e = let f = same_Some _ _ e in (rs, refl, ap (λ (x : Measured). x.count) (sym f), ap (λ (x : Measured). x.size) (sym f))

none_of : (o : Option (List (Option Cell))) → measured o ≡ None → o ≡ none
unfolding measured
none_of none e = refl
none_of (some rs) e = absurd (none-some _ (sym e))

-- their list is the one that is walked
list_bytes : (s : List ℕ) (from : ℕ) (m : Measured) (rs : List (Option Cell)) → records_from (length s) s from ≡ some rs → m.count ≡ length rs → join (walk m.count s from) ≡ record_list rs
list_bytes s from m rs e n = rw (n, ← walk-bytes (length s) s from rs e)

module _ (s : List ℕ) (from : ℕ) {m : Measured} (f : measured (records_from (length s) s from) ≡ Some m) where
  pub list_size_lem : m.size ≡ length (join (walk m.count s from))
  list_size_lem = let (rs, e, n, z) = count_of (records_from (length s) s from) f in z ∙ ap length (sym (list_bytes s from m rs e n))

  pub list_header : 4 * m.count + 4 ≤ m.size
  list_header =
      let z : m.size ≡ 4 * suc m.count + length (flatten (walk m.count s from)) = list_size_lem ∙ length-join (walk m.count s from) ∙ rw length-walk in
      omega arith

module _ (s : List ℕ) (short : length s ≤ 65536) where
  case-is : case_of s ≡ case_by s (case_places s)
  unfolding case_of only
  case-is = rw (le-leb (length s) 65536 short) (head s)

  pub no_shape : None ≡ case_places s → told (Err Refusal.LentBytesUnreadable) ≡ verdict_of (case_of s)
  no_shape h = unreadable s (case-is ∙ rw (sym h))

  module _ {p : Places} (e : Some p ≡ case_places s) where
    pub no_records : None ≡ measured (records_from (length s) s p.records) → told (Err Refusal.LentBytesUnreadable) ≡ verdict_of (case_of s)
    unfolding ◌>>=◌
    no_records h = unreadable s (case-is ∙ rw (sym e, none_of (records_from (length s) s p.records) (sym h)))

    module _ {m : Measured} (f : Some m ≡ measured (records_from (length s) s p.records)) where
      a_case : verdict_at s p (join (walk m.count s p.records)) ≡ verdict_of (case_of s)
      unfolding verdict_at verdict_of ◌>>=◌
      a_case = let (rs, g, n, y) = count_of (records_from (length s) s p.records) (sym f) in rw (case-is, sym e, g, list_bytes s p.records m rs g n)

      pub judged : {v : Outcome Figures} {out after : List ℕ} {n : ℕ} → Put out 0 (join (walk m.count s p.records)) after n → v ≡ verdict_at s p (take (n - 0) (drop 0 after)) → v ≡ verdict_of (case_of s)
      judged {after = after} {n = n} q t = t ∙ rw (written q) a_case

-- ---- the way out of `judge_at`, and of the entry

pub judged-at : (s : List ℕ) (p : Places) (records : List ℕ) {v : Outcome Figures} {ours peer lock udt source body : List ℕ} {rate : ℕ} → ours ≡ optional_body s 1 0 → peer ≡ body_at s p.peer → lock ≡ body_at s p.lock
    → udt ≡ optional_body s 4 p.udt → source ≡ body_at s p.source → body ≡ body_at s p.rate → rate ≡ u64_at body 0
    → v ≡ judge lock udt ours (record { peer = peer; records = records; source = source; rate = rate }) → v ≡ verdict_at s p records
unfolding verdict_at
judged-at s p records e₁ e₂ e₃ e₄ e₅ e₆ e₇ t = t ∙ rw (e₇, e₁, e₂, e₃, e₄, e₅, e₆)

module _ (s : List ℕ) (v : Outcome Figures) (t : v ≡ verdict_of (case_of s)) where
  pub case-line : (line : List ℕ) {after : List ℕ} → after ≡ splice line 0 (line_of v) → after ≡ splice line 0 (case_line s)
  unfolding case_line
  case-line line e = e ∙ rw t

  pub case-length : {n : ℕ} → n ≡ length (line_of v) → n ≡ length (case_line s)
  unfolding case_line
  case-length e = e ∙ rw t

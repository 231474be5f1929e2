-- Records of a case file: what a step of the walk finds, and one law for each way out of the functions that find and measure them.
use mathlib.Core.Path.{◌≡◌, refl, sym, ap, ◌∙◌}
use Prim.Native.Nat.{ℕ, zero, suc, ◌+◌, ◌-◌, ◌*◌, ◌≤◌, ◌<◌}
use mathlib.Core.Bool.{Bool, true, false}
use mathlib.Core.List.{List, [], ◌∷◌, ◌++◌, map, flatten}
use Rattle.std.proofs.Math.Option.{Option, none, some, none-ne-some, some-injective}
use Rattle.std.specs.Prelude as rust
use Rattle.std.specs.Prelude.{Some, None}
use Rattle.std.proofs.lemmas.Option.{none-some, same_Some}
use native.Mathlib.Nat.{add-zero, zero-add}
use native.Mathlib.Omega.{arith}
use borrow.Author.Tests.{eq-eqb, ne_eqb, leb-true, eqb-true}
use lib.Dec.{leb, eqb}
use lib.ListN.{length, length-append, length-take, length-map}
use Rattle.arithmetic.specs.LittleEndian.{to_le}
use Rattle.arithmetic.proofs.LittleEndianLaws.{length-to_le}
use Rattle.molecule.specs.Partial.{only, pick}
use Rattle.molecule.specs.Layout.{part}
use Rattle.molecule.proofs.ItemsLaws.{length-join}
use Rattle.transaction.specs.Cells.{Cell}
use Rattle.case_file.specs.declared.record_list.Measured.{Measured}
use Rattle.case_file.specs.CaseFile.{Read, ◌>>=◌, kind_at, length_at, body_end, item_end, body_at, all_zero, item_at, dead_at, cell_at, resolved_at, records_from, record_bytes, record_list}
use Rattle.case_file.specs.Walk.{next_of, entry_at, cell_bytes, walk, measured}

-- ---- what is known where something is found

pub only-some : {A : Type 0} (b : Bool) (o : Option A) {r : A} → only b o ≡ some r → (b ≡ true) × (o ≡ some r)
unfolding only
only-some true o e = (refl, e)
only-some false o {r} e = absurd (none-ne-some r e)

pub bind_some : {A B : Type 0} (o : Option A) (f : A → Option B) {y : B} → (o >>= f) ≡ some y → (x : A) × (o ≡ some x) × (f x ≡ some y)
unfolding ◌>>=◌
bind_some none f {y} e = absurd (none-ne-some y e)
bind_some (some x) f e = (x, refl, e)

-- an item
pub record Found (s : List ℕ) (kind at : ℕ) (r : Read (List ℕ)) : Type 0 where
  pub word : at + 4 ≤ length s
  pub is_kind : kind_at s at ≡ kind
  pub room : item_end s at ≤ length s
  pub gives : r ≡ record { got = body_at s at; next = item_end s at }

pub item-some : (s : List ℕ) (kind at : ℕ) {r : Read (List ℕ)} → item_at s kind at ≡ some r → Found s kind at r
unfolding item_at
item-some s kind at e =
    let (a, e₁) = only-some (leb (at + 4) (length s)) _ e in
    let (b, e₂) = only-some (eqb (kind_at s at) kind) _ e₁ in
    let (c, e₃) = only-some (leb (item_end s at) (length s)) _ e₂ in
    let (d, e₄) = only-some (all_zero (part s (body_end s at) (item_end s at))) _ e₃ in
    record { word = leb-true (at + 4) (length s) a; is_kind = eqb-true (kind_at s at) kind b; room = leb-true (item_end s at) (length s) c; gives = sym (some-injective _ _ e₄) }

body_length : (s : List ℕ) (at : ℕ) → length (body_at s at) ≤ length_at s at
unfolding part
body_length s at = rw length-take (omega arith)

pub cell-length : (o d : List ℕ) → length (cell_bytes o d) ≡ 16 + length o + length d
unfolding cell_bytes flatten
cell-length o d = length-join (o ∷ (to_le 4 (length d) ++ d) ∷ []) ∙ simp (length-append, length-to_le) (omega arith)

-- where something ends it is there
pub ended_at : {A : Type 0} (o : Option (Read A)) {n : ℕ} → Some n ≡ next_of o → (r : Read A) × (o ≡ some r) × (n ≡ r.next)
ended_at none {n} h = absurd (none-some n (sym h))
ended_at (some r) {n} h = (r, refl, same_Some n r.next h)

pub nothing_at : {A : Type 0} (o : Option (Read A)) → None ≡ next_of o → o ≡ none
nothing_at none h = refl
nothing_at (some r) h = absurd (none-some r.next h)

-- ---- the ways out of the functions that find the end of a record

-- what is read changes, the place after it does not
same_end : {A : Type 0} (g : List ℕ → A) (o : Option (Read (List ℕ))) → next_of (o >>= λ x. some (record { got = g x.got; next = x.next })) ≡ next_of o
unfolding ◌>>=◌
same_end g none = refl
same_end g (some x) = refl

only_end : (g : List ℕ → Option Cell) (b : Bool) (o : Option (Read (List ℕ)))
    → next_of (only b (o >>= λ x. some (record { got = g x.got; next = x.next }))) ≡ next_of (only b o)
unfolding only
only_end g true o = same_end g o
only_end g false o = refl

pub dead_is : (s : List ℕ) (at : ℕ) → next_of (dead_at s at) ≡ next_of (only (eqb (length_at s at) 0) (item_at s 9 at))
unfolding dead_at
dead_is s at = only_end (λ _. none) (eqb (length_at s at) 0) (item_at s 9 at)

abbrev cell_of : Read (List ℕ) → List ℕ → Option Cell
cell_of output content = some (record { output = output.got; cell_data = content })

-- item 8 after item 7
pub no_cell : (s : List ℕ) (at : ℕ) → None ≡ next_of (item_at s 7 at) → next_of (cell_at s at) ≡ None
unfolding cell_at ◌>>=◌
no_cell s at h = rw (nothing_at (item_at s 7 at) h)

second_end : (s : List ℕ) (at p : ℕ) (x : Read (List ℕ)) → item_at s 7 at ≡ some x → p ≡ x.next → next_of (cell_at s at) ≡ next_of (item_at s 8 p)
unfolding cell_at ◌>>=◌
second_end s at p x e n = rw (e, n) (same_end (cell_of x) (item_at s 8 x.next))

pub cell-is : (s : List ℕ) (at : ℕ) {p : ℕ} → Some p ≡ next_of (item_at s 7 at) → next_of (cell_at s at) ≡ next_of (item_at s 8 p)
cell-is s at {p} h = let (x, e, n) = ended_at (item_at s 7 at) h in second_end s at p x e n

-- ---- a record that is found: the bytes that it has in the list, and how many more they may be than in the file

pub record Entry (s : List ℕ) (at : ℕ) (r : Read (Option Cell)) : Type 0 where
  pub forth : at + 4 ≤ r.next
  pub within : r.next ≤ length s
  pub bytes : record_bytes r.got ≡ entry_at s at
  pub light : 2 * (4 + length (entry_at s at)) + 5 * at ≤ 5 * r.next

next-is : {A : Type 0} {r : Read A} {g : A} {n : ℕ} → some r ≡ some (record { got = g; next = n }) → r.next ≡ n
next-is {A} e = ap (λ (x : Read A). x.next) (some-injective _ _ e)

got-is : {A : Type 0} {r : Read A} {g : A} {n : ℕ} → some r ≡ some (record { got = g; next = n }) → r.got ≡ g
got-is {A} e = ap (λ (x : Read A). x.got) (some-injective _ _ e)

pub entry-none : (s : List ℕ) (at : ℕ) → eqb (kind_at s at) 9 ≡ true → entry_at s at ≡ []
unfolding entry_at pick
entry-none s at k = rw k

dead_entry : (s : List ℕ) (at : ℕ) {r : Read (Option Cell)} → eqb (kind_at s at) 9 ≡ true → dead_at s at ≡ some r → Entry s at r
unfolding dead_at record_bytes
dead_entry s at {r} k e =
    let (a, e₁) = only-some (eqb (length_at s at) 0) _ e in
    let (x, e₂, e₃) = bind_some (item_at s 9 at) _ e₁ in
    let f = item-some s 9 at e₂ in
    let n : length_at s at ≡ 0 = eqb-true _ 0 a in
    let m : r.next ≡ x.next = next-is (sym e₃) in
    let g : r.got ≡ none = got-is (sym e₃) in
    let q : x.next ≡ item_end s at = ap (λ (y : Read (List ℕ)). y.next) f.gives in
    let z : length (entry_at s at) ≡ 0 = ap length (entry-none s at k) in
    let h = f.room in
    record {
      forth = omega arith;
      within = omega arith;
      bytes = rw (g, entry-none s at k);
      light = omega arith;
    }

live-bytes : (s : List ℕ) (at : ℕ) {x : Read (List ℕ)} → eqb (kind_at s at) 9 ≡ false → item_at s 7 at ≡ some x → entry_at s at ≡ cell_bytes (body_at s at) (body_at s x.next)
unfolding entry_at pick
live-bytes s at k e = rw (k, e)

two_items : (s : List ℕ) (at : ℕ) {r : Read (Option Cell)} (x y : Read (List ℕ)) → eqb (kind_at s at) 9 ≡ false → item_at s 7 at ≡ some x → item_at s 8 x.next ≡ some y
    → r.next ≡ y.next → r.got ≡ some (record { output = x.got; cell_data = y.got }) → Entry s at r
unfolding record_bytes cell_bytes
two_items s at {r} x y k e₁ e₂ m b =
    let f = item-some s 7 at e₁ in
    let g = item-some s 8 x.next e₂ in
    let q : x.next ≡ item_end s at = ap (λ (z : Read (List ℕ)). z.next) f.gives in
    let w : y.next ≡ item_end s x.next = ap (λ (z : Read (List ℕ)). z.next) g.gives in
    let u : x.got ≡ body_at s at = ap (λ (z : Read (List ℕ)). z.got) f.gives in
    let v : y.got ≡ body_at s x.next = ap (λ (z : Read (List ℕ)). z.got) g.gives in
    let t : entry_at s at ≡ cell_bytes (body_at s at) (body_at s x.next) = live-bytes s at k e₁ in
    let l : length (entry_at s at) ≡ 16 + length (body_at s at) + length (body_at s x.next) = ap length t ∙ cell-length (body_at s at) (body_at s x.next) in
    let i = body_length s at in
    let j = body_length s x.next in
    let h = g.room in
    record {
      forth = omega arith;
      within = omega arith;
      bytes = rw (b, t, u, v);
      light = omega arith;
    }

cell-entry : (s : List ℕ) (at : ℕ) {r : Read (Option Cell)} → eqb (kind_at s at) 9 ≡ false → cell_at s at ≡ some r → Entry s at r
unfolding cell_at
cell-entry s at k e =
    let (x, e₁, e₂) = bind_some (item_at s 7 at) _ e in
    let (y, e₃, e₄) = bind_some (item_at s 8 x.next) _ e₂ in
    two_items s at x y k e₁ e₃ (next-is (sym e₄)) (got-is (sym e₄))

picked : (s : List ℕ) (at : ℕ) {r : Read (Option Cell)} (b : Bool) → eqb (kind_at s at) 9 ≡ b → pick b (dead_at s at) (cell_at s at) ≡ some r → Entry s at r
unfolding pick
picked s at true k h = dead_entry s at k h
picked s at false k h = cell-entry s at k h

pub record_some : (s : List ℕ) (at : ℕ) {r : Read (Option Cell)} → resolved_at s at ≡ some r → Entry s at r
unfolding resolved_at
record_some s at e = picked s at (eqb (kind_at s at) 9) refl e

-- ---- all records

-- one more, before others
walk_cons : (s : List ℕ) (at : ℕ) (r : Read (Option Cell)) (rs ws : List (Option Cell)) → resolved_at s at ≡ some r → map record_bytes ws ≡ walk (length ws) s r.next → some (r.got ∷ ws) ≡ some rs
    → map record_bytes rs ≡ walk (length rs) s at
unfolding walk
walk_cons s at r rs ws e h g = rw (sym (some-injective _ _ g), e, (record_some s at e).bytes, h)

walk_step : (k : ℕ) (s : List ℕ) (at : ℕ) (rs : List (Option Cell)) (b : Bool)
    → ((to : ℕ) (ws : List (Option Cell)) → records_from k s to ≡ some ws → map record_bytes ws ≡ walk (length ws) s to)
    → pick b (some []) (resolved_at s at >>= λ r. records_from k s r.next >>= λ ws. some (r.got ∷ ws)) ≡ some rs → map record_bytes rs ≡ walk (length rs) s at
unfolding pick walk
walk_step k s at rs true ih e = rw (sym (some-injective _ _ e))
walk_step k s at rs false ih e =
    let (r, e₁, e₂) = bind_some (resolved_at s at) _ e in
    let (ws, e₃, e₄) = bind_some (records_from k s r.next) _ e₂ in
    walk_cons s at r rs ws e₁ (ih r.next ws e₃) e₄

-- the bytes that are written are those of the records
pub walk-bytes : (k : ℕ) (s : List ℕ) (at : ℕ) (rs : List (Option Cell)) → records_from k s at ≡ some rs → map record_bytes rs ≡ walk (length rs) s at
unfolding records_from
walk-bytes zero s at rs e = absurd (none-ne-some rs e)
walk-bytes (suc k) s at rs e = walk_step k s at rs (eqb at (length s)) (λ to ws h. walk-bytes k s to ws h) e

-- ---- the loop that measures: what is left decides, with what was counted

unfoldable pub weight : List (Option Cell) → ℕ
weight rs = 4 * length rs + length (flatten (map record_bytes rs))

unfoldable pub more : ℕ → ℕ → Option (List (Option Cell)) → rust.Option Measured
more count size none = None
more count size (some rs) = Some (record { count = count + length rs; size = size + weight rs })

pub record Scanning (s : List ℕ) (from at count size : ℕ) : Type 0 where
  pub short : length s ≤ 65536
  pub within : at ≤ length s
  pub few : count ≤ at
  pub light : 2 * size ≤ 8 + 5 * at
  pub fuel : ℕ
  pub enough : length s < at + fuel
  pub ahead : measured (records_from (length s) s from) ≡ more count size (records_from fuel s at)

measured-more : (o : Option (List (Option Cell))) → measured o ≡ more 0 4 o
unfolding measured more weight
measured-more none = refl
measured-more (some rs) =
    let l : length (record_list rs) ≡ 4 + (4 * length rs + length (flatten (map record_bytes rs))) = length-join (map record_bytes rs) ∙ rw length-map (omega arith) in
    rw (l, zero-add)

pub scan_none : (s : List ℕ) (from : ℕ) → length s ≤ 65536 → (0 < from) × (from ≤ length s) → Scanning s from from 0 4
scan_none s from k h = record {
  short = k;
  within = h.1;
  few = omega arith;
  light = omega arith;
  fuel = length s;
  enough = omega arith;
  ahead = measured-more (records_from (length s) s from);
}

-- one more record before those that are left
count-one : (g : Option Cell) (count size : ℕ) (o : Option (List (Option Cell)))
    → more count size (o >>= λ rs. some (g ∷ rs)) ≡ more (count + 1) (size + 4 + length (record_bytes g)) o
unfolding more weight ◌>>=◌ flatten
count-one g count size none = refl
count-one g count size (some rs) =
    let a : count + suc (length rs) ≡ count + 1 + length rs = omega arith in
    let b : size + (4 * suc (length rs) + length (record_bytes g ++ flatten (map record_bytes rs))) ≡ size + 4 + length (record_bytes g) + (4 * length rs + length (flatten (map record_bytes rs))) =
    rw length-append (omega arith) in
    rw (a, b)

-- a turn from at, of which k more are allowed
module _ (s : List ℕ) (at count size : ℕ) {m : rust.Option Measured} where
  turn_found : (k : ℕ) (r : Read (Option Cell)) → at < length s → length s < at + k → resolved_at s at ≡ some r → m ≡ more count size (records_from k s at)
      → m ≡ more (count + 1) (size + 4 + length (record_bytes r.got)) (records_from (k - 1) s r.next)
  unfolding records_from pick ◌>>=◌
  turn_found zero r h f e g = absurd (omega arith)
  turn_found (suc k) r h f e g =
      let j : suc k - 1 ≡ k = omega arith in
      rw j (g ∙ rw (ne_eqb at (length s) (omega arith), e) (count-one r.got count size (records_from k s r.next)))

  turn_none : (k : ℕ) → at < length s → length s < at + k → resolved_at s at ≡ none → m ≡ more count size (records_from k s at) → m ≡ None
  unfolding records_from pick ◌>>=◌ more
  turn_none zero h f e g = absurd (omega arith)
  turn_none (suc k) h f e g = g ∙ rw (ne_eqb at (length s) (omega arith), e)

  turn_end : (k : ℕ) → at ≡ length s → length s < at + k → m ≡ more count size (records_from k s at) → m ≡ Some (record { count = count; size = size })
  unfolding records_from pick more weight flatten
  turn_end zero h f g = absurd (omega arith)
  turn_end (suc k) h f g = g ∙ rw (eq-eqb at (length s) h) (rw (add-zero count, add-zero size))

module _ {s : List ℕ} {from at count size : ℕ} (c : Scanning s from at count size) where
  pub scan_stop : at < length s → None ≡ next_of (resolved_at s at) → None ≡ measured (records_from (length s) s from)
  scan_stop h e = sym (turn_none s at count size c.fuel h c.enough (nothing_at (resolved_at s at) e) c.ahead)

  pub scan_more : {next n : ℕ} → at < length s → Some next ≡ next_of (resolved_at s at) → n ≡ length (entry_at s at) → Scanning s from next (count + 1) (size + (4 + n))
  scan_more {next} {n} h e l =
      let (r, f, g) = ended_at (resolved_at s at) e in
      let i = record_some s at f in
      let b : n ≡ length (record_bytes r.got) = l ∙ sym (ap length i.bytes) in
      let w : size + (4 + n) ≡ size + 4 + n = omega arith in
      record {
        short = c.short;
        within = omega arith;
        few = omega arith;
        light = omega arith;
        fuel = c.fuel - 1;
        enough = omega arith;
        ahead = rw (w, g, b) (turn_found s at count size c.fuel r h c.enough f c.ahead);
      }

  pub scan_end : length s ≤ at → Some (record { count = count; size = size }) ≡ measured (records_from (length s) s from)
  scan_end h = sym (turn_end s at count size c.fuel (omega arith) c.enough c.ahead)

  pub scan_fits : size ≤ 163844
  scan_fits = omega arith

  pub scan_less : {next : ℕ} → at < length s → Some next ≡ next_of (resolved_at s at) → length s - next < length s - at
  scan_less h e = let (r, f, g) = ended_at (resolved_at s at) e in let i = record_some s at f in omega arith

-- Laws of the loop that sets two words for each item.
use mathlib.Core.Path.{◌≡◌, refl, sym, ap, ◌∙◌}
use Prim.Native.Nat.{ℕ, zero, suc, ◌+◌, ◌-◌, ◌*◌, ◌^◌, ◌≤◌, ◌<◌}
use mathlib.Core.List.{List, [], ◌∷◌, ◌++◌, flatten}
use native.Mathlib.Nat.{add-zero}
use native.Mathlib.Omega.{arith}
use lib.ListN.{length, set}
use Rattle.molecule.specs.Layout.{span}
use Rattle.molecule.specs.Write.{splice, Put}
use Rattle.molecule.proofs.WriteLaws.{copy_none, copy_more, copy_end, none, then, splice-length}
use Rattle.lists.proofs.SpanLaws.{span-on, span-end, span-whole}
use Rattle.transaction_lists.specs.Lists.{list_in, item_in, place_in_bytes}
use Rattle.item_places.specs.declared.Place.{Place}
use Rattle.item_places.specs.Places.{At, place_words, places_of}

-- ---- two words

two-set : (out : List ℕ) (at a b : ℕ) → at + 2 ≤ length out → set (set out at a) (at + 1) b ≡ splice out at (a ∷ b ∷ [])
two-set out at a b h =
    let c₀ = copy_none out at (a ∷ b ∷ []) h in
    let c₁ = copy_more c₀ (omega arith) in
    let c₂ = copy_more c₁ (omega arith) in
    rw add-zero at (copy_end c₂ (omega arith))

-- those of the items from i on
module _ (tx : List ℕ) (list : ℕ) where
  abbrev rest : ℕ → ℕ → List ℕ
  rest i n = flatten (span (place_words tx list) i (n - i))

  rest-on : (i n : ℕ) → i < n → rest i n ≡ place_words tx list i ++ rest (i + 1) n
  unfolding flatten
  rest-on i n h = ap flatten (span-on (place_words tx list) i n h)

  words_long : (i k : ℕ) → length (flatten (span (place_words tx list) i k)) ≡ 2 * k
  unfolding span flatten
  words_long i zero = refl
  words_long i (suc k) = omega (arith, words_long (suc i) k)

-- ---- the loop: the words of the items before i are set, and those of the items from i on decide what is left in the end

pub record Placing (tx : List ℕ) (list : ℕ) (out₀ : List ℕ) (n i : ℕ) (out : List ℕ) : Type 0 where
  pub count : n ≡ length (list_in tx list)
  pub few : n < 2 ^ 32
  pub within : i ≤ n
  pub long : length out ≡ length out₀
  pub room : 2 * n ≤ length out
  pub words : splice out (2 * i) (rest tx list i n) ≡ splice out₀ 0 (flatten (places_of tx list n))

pub placing_none : (tx : List ℕ) (list : ℕ) (out : List ℕ) (n : ℕ) → n ≡ length (list_in tx list) → n < 2 ^ 32 → 2 * n ≤ length out → Placing tx list out n 0 out
placing_none tx list out n e f h = record {
  count = e;
  few = f;
  within = omega arith;
  long = refl;
  room = h;
  words = ap (λ (l : List (List ℕ)). splice out 0 (flatten l)) (sym (span-whole (place_words tx list) n));
}

module _ {tx : List ℕ} {list : ℕ} {out₀ : List ℕ} {n i : ℕ} {out : List ℕ} (g : Placing tx list out₀ n i out) where
  pub placing_in : i < n → i < length (list_in tx list)
  placing_in h = omega (arith, g.count)

  pub placing_more : {p : Place} → i < n → At tx (item_in tx list i) (place_in_bytes tx list i) p → Placing tx list out₀ n (i + 1) (set (set out (2 * i) p.start) (2 * i + 1) p.len)
  placing_more {p} l at =
      let room = g.room in
      let f : 2 * i + 2 ≤ length out = omega arith in
      let e : set (set out (2 * i) p.start) (2 * i + 1) p.len ≡ splice out (2 * i) (place_words tx list i) = rw (at.starts, at.long) (two-set out (2 * i) (place_in_bytes tx list i) (length (item_in tx list i)) f) in
      let out' = splice out (2 * i) (place_words tx list i) in
      let k : length out' ≡ length out = splice-length out (2 * i) (place_words tx list i) f in
      let r = rest tx list (i + 1) n in
      let w : length r ≡ 2 * (n - (i + 1)) = words_long tx list (i + 1) (n - (i + 1)) in
      let p₁ : Put out (2 * i) (place_words tx list i) out' (2 * (i + 1)) = record { bytes = refl; end = omega arith; room = f } in
      let p₂ : Put out' (2 * (i + 1)) r (splice out' (2 * (i + 1)) r) (2 * (i + 1) + length r) = record { bytes = refl; end = refl; room = omega arith } in
      rw e (record {
        count = g.count;
        few = g.few;
        within = omega arith;
        long = k ∙ g.long;
        room = rw k room;
        words = (then p₁ p₂).bytes ∙ rw (rest-on tx list i n l) at g.words;
      })

  pub placing_end : n ≤ i → out ≡ splice out₀ 0 (flatten (places_of tx list n))
  unfolding flatten
  placing_end l =
      let z : rest tx list i n ≡ [] = ap flatten (span-end (place_words tx list) i n l) in
      (none out (2 * i) (omega (arith, g.room, g.within))).bytes ∙ rw z at g.words

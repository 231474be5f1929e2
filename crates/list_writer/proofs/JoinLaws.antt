-- Stretches of bytes, and numbers of four bytes, one after the other: f of each x of a list.
use Rattle.std.proofs.Common.{◌≡◌, ℕ, ◌+◌, ◌-◌, ◌*◌, ◌/◌, ◌≤◌, ◌<◌, min, true, leb, List, [], ◌∷◌, ◌++◌, length, get_or, take, sym, refl, ap, ◌∙◌, Bor, fold, flat_map, take_all, arith, length-append}
use Rattle.std.proofs.lemmas.List.{take_more, flat_map_more}
use Rattle.std.proofs.lemmas.List.Folds.{length-flat_map-take}
use borrow.Author.Tests.{leb-true}
use Rattle.arithmetic.specs.LittleEndian.{to_le}
use Rattle.molecule.specs.Items.{unwords}
use Rattle.molecule.specs.Write.{put_at, put_end, Put}
use Rattle.molecule.proofs.ItemsLaws.{unwords_length}
use Rattle.molecule.proofs.WriteLaws.{none, and_put, as_bytes, put_yes, end_yes}
use Rattle.list_writer.specs.ListWriter.{joined}

-- how long they are, as far as 133,117
pub joined-cap : {r : ℕ} (ps : List (Bor (List ℕ))) → r ≡ fold (λ n p. min (n + length p.now) 133117) 0 ps → r ≡ min (length (joined ps)) 133117
joined-cap ps e = e ∙ from ps 0 (omega arith) ∙ ap (λ n. min n 133117) (omega arith)
  where
    from : (ps : List (Bor (List ℕ))) (n : ℕ) → n ≤ 133117 → fold (λ n p. min (n + length p.now) 133117) n ps ≡ min (n + length (joined ps)) 133117
    from [] n h = omega arith
    from (p ∷ ps) n h = from ps (min (n + length p.now) 133117) (omega arith) ∙ omega (arith, length-append p.now (joined ps))

module _ {A : Type 0} (f : A → List ℕ) (xs : List A) (i : ℕ) (d : A) (h : i < length xs) where
  one-more : flat_map f (take (i + 1) xs) ≡ flat_map f (take i xs) ++ f (get_or xs i d)
  one-more = ap (flat_map f) (take_more xs i d h) ∙ sym (flat_map_more f [] (take i xs) (get_or xs i d))

-- ---- whether stretches fit

pub part_in : (ps : List (Bor (List ℕ))) (i : ℕ) (d : Bor (List ℕ)) → i < length ps → length (joined (take i ps)) + length (get_or ps i d).now ≤ length (joined ps)
part_in ps i d h = length-flat_map-take (λ p. p.now) ps i d h

pub record Fitted (ps : List (Bor (List ℕ))) (room i left : ℕ) : Type 0 where
  pub size : left + length (joined (take i ps)) ≡ room

-- ---- the writes: after i turns the first i are written

pub record Each {A : Type 0} (f : A → List ℕ) (xs : List A) (out : List ℕ) (at i : ℕ) (after : List ℕ) (next : ℕ) : Type 0 where
  pub put : Put out at (flat_map f (take i xs)) after next
  pub room : at + length (flat_map f xs) ≤ length out

pub each_none : {A : Type 0} (f : A → List ℕ) (xs : List A) (out : List ℕ) (at : ℕ) → at + length (flat_map f xs) ≤ length out → Each f xs out at 0 out at
each_none f xs out at h = record { put = none out at (omega arith); room = h }

module _ {A : Type 0} {f : A → List ℕ} {xs : List A} {out o₁ : List ℕ} {at i n₁ : ℕ} (g : Each f xs out at i o₁ n₁) where
  pub each_more : (d : A) {o₂ : List ℕ} {n₂ : ℕ} → i < length xs → o₂ ≡ put_at o₁ n₁ (f (get_or xs i d)) → n₂ ≡ put_end o₁ n₁ (f (get_or xs i d)) → Each f xs out at (i + 1) o₂ n₂
  each_more d h e k = record {
    put = rw (one-more f xs i d h) (and_put (f (get_or xs i d)) g.put e k (omega (arith, length-flat_map-take f xs i d h, g.room)));
    room = g.room;
  }

  each_end : length xs ≤ i → Put out at (flat_map f xs) o₁ n₁
  each_end h = let l = take_all i xs h in rw l at g.put

module _ {out after : List ℕ} {at next : ℕ} {xs : List ℕ} (p : Put out at xs after next) where
  put_after : after ≡ put_at out at xs
  put_after = p.bytes ∙ sym (put_yes out at xs p.room)

  put_next : next ≡ put_end out at xs
  put_next = p.end ∙ sym (end_yes out at xs p.room)

-- ---- stretches

pub stretches_start : (ps : List (Bor (List ℕ))) (out : List ℕ) (at : ℕ) → at ≤ length out → true ≡ leb (length (joined ps)) (length out - at) → Each (λ p. p.now) ps out at 0 out at
stretches_start ps out at h e = let k : length (joined ps) ≤ length out - at = leb-true _ _ (sym e) in each_none (λ p. p.now) ps out at (omega arith)

module _ {ps : List (Bor (List ℕ))} {out after : List ℕ} {at i next : ℕ} (g : Each (λ p. p.now) ps out at i after next) (h : length ps ≤ i) where
  pub stretches_put : after ≡ put_at out at (joined ps)
  stretches_put = put_after (each_end g h)

  pub stretches_end : next ≡ put_end out at (joined ps)
  stretches_end = put_next (each_end g h)

-- ---- numbers of four bytes

words_of : (ns : List ℕ) → flat_map (to_le 4) ns ≡ unwords ns
unfolding unwords
words_of [] = refl
words_of (n ∷ ns) = ap (λ (l : List ℕ). to_le 4 n ++ l) (words_of ns)

bytes-length : (ns : List ℕ) → length (flat_map (to_le 4) ns) ≡ 4 * length ns
bytes-length ns = ap length (words_of ns) ∙ unwords_length ns

pub words_start : (ns out : List ℕ) (at : ℕ) → at ≤ length out → length ns ≤ (length out - at) / 4 → Each (to_le 4) ns out at 0 out at
words_start ns out at h k = each_none (to_le 4) ns out at (omega (arith, bytes-length ns))

module _ {ns out after : List ℕ} {at i next : ℕ} (g : Each (to_le 4) ns out at i after next) (h : length ns ≤ i) where
  words_did : Put out at (unwords ns) after next
  words_did = as_bytes (words_of ns) (each_end g h)

  pub words_put : after ≡ put_at out at (unwords ns)
  words_put = put_after words_did

  pub words_end : next ≡ put_end out at (unwords ns)
  words_end = put_next words_did

-- how long numbers are
pub ruleset word_lengths = (unwords_length)

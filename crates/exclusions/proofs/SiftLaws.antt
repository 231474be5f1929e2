-- The pass that moves the entries together that stay.
use mathlib.Core.Path.{◌≡◌, refl, sym, ap, ap₂, ◌∙◌}
use Prim.Native.Nat.{ℕ, suc, ◌+◌, ◌-◌, ◌*◌, ◌≤◌, ◌<◌}
use mathlib.Core.Bool.{Bool, true, false, not, cond}
use mathlib.Core.List.{List, ◌∷◌, ◌++◌, append_assoc}
use native.Mathlib.Omega.{arith}
use borrow.Author.Tests.{not-true, not-false}
use Rattle.std.specs.Prelude.{Ok}
use lib.ListN.{length, take, drop, length-append, length-drop, length-take, take-append-drop}
use lib.Seq.{take_at, drop-drop, length-take-le}
use Rattle.arithmetic.specs.LittleEndian.{AllBytes, u32_at}
use Rattle.molecule.specs.Layout.{part, word}
use Rattle.molecule.specs.Write.{splice}
use Rattle.molecule.proofs.WriteLaws.{splice-length}
use Rattle.molecule.proofs.ItemsLaws.{bytes_drop}
use Rattle.exclusion_entries.specs.Exclusions.{MapEntry}
use Rattle.exclusion_entries.specs.declared.{Rule.Rule, Survey.Survey}
use Rattle.exclusion_entries.specs.Entries.{entry_bytes, entries_bytes, map_entry_of, entry_size, entries_in, excluded_at, are_entries, map_size}
use Rattle.exclusion_entries.specs.Inner.{keeps, takes, stay, leading, survey_of}
use Rattle.exclusion_entries.proofs.EntryLaws.{from-here, entry_again, first-is, first-room, rest_are, entries-size, points_most, entries-long, bytes-join}
use Rattle.exclusion_entries.proofs.MapLaws.{map-long, map-few, map_are, map_again, Cut, cut}
use Rattle.molecule.proofs.SpliceLaws.{splice-none, drop-splice, splice-same, splice-then}
use Rattle.exclusion_entries.proofs.StayLaws.{stay-leading, leading-is, stay-size, told_good, told-from, told-index}
use Rattle.std.specs.List.{copy_within}
use Rattle.exclusions.proofs.MoveLaws.{within-splice}
use Rattle.exclusions.specs.declared.{changes.Sift.Sift}
use Rattle.exclusions.specs.Inner.{sifted, sifted_bytes, gives, sift_one, sift_one_bytes}

-- ---- one entry

module _ (rule : Rule) (c : Sift) (s : List ℕ) {x : List ℕ} {k g : Bool} {n z : ℕ} (ex : x ≡ part s c.at (length s)) (ek : k ≡ keeps rule (map_entry_of x)) (eg : g ≡ gives rule c.taken x) (en : n ≡ u32_at x 44) (ez : z ≡ 48 + 36 * n) where
  at-is : x ≡ drop c.at s
  at-is = from-here s c.at ex

  one-is : sift_one rule c s ≡ sifted k g z c
  unfolding sift_one
  one-is = rw (← at-is, ← ek, ← eg, ← en, ← ez)

  bytes-is : sift_one_bytes rule c s ≡ sifted_bytes k g z c s
  unfolding sift_one_bytes
  bytes-is = rw (← at-is, ← ek, ← eg, ← en, ← ez)

  pub one-room : c.at + entry_size (drop c.at s) ≤ length s → c.at + z ≤ length s
  one-room h = let e : c.at + z ≡ c.at + entry_size (drop c.at s) = rw (← at-is, ← en, ← ez) in omega arith

  module _ (h : not k ≡ true) where
    pub one_goes : ◌≡◌ {A = Sift} (record { at = c.at + z; to = c.to; taken = c.taken }) (sift_one rule c s)
    unfolding sifted
    one_goes = sym (one-is ∙ rw (not-true k h))

    pub bytes_go : s ≡ sift_one_bytes rule c s
    unfolding sifted_bytes
    bytes_go = sym (bytes-is ∙ rw (not-true k h))

  module _ (h : not k ≡ false) where
    module _ (e : g ≡ true) where
      pub one-gives : ◌≡◌ {A = Sift} (record { at = c.at + z; to = c.to; taken = true }) (sift_one rule c s)
      unfolding sifted
      one-gives = sym (one-is ∙ rw (not-false k h, e))

      pub bytes_give : s ≡ sift_one_bytes rule c s
      unfolding sifted_bytes
      bytes_give = sym (bytes-is ∙ rw (not-false k h, e))

    module _ (e : g ≡ false) where
      pub one_stays : ◌≡◌ {A = Sift} (record { at = c.at + z; to = c.to + z; taken = c.taken }) (sift_one rule c s)
      unfolding sifted
      one_stays = sym (one-is ∙ rw (not-false k h, e))

      pub bytes-stay : {o : List ℕ} → c.at + z ≤ length s → o ≡ copy_within s c.at (c.at + z) c.to → o ≡ sift_one_bytes rule c s
      unfolding sifted_bytes
      bytes-stay r f = within-splice s c.at c.to z r f ∙ sym (bytes-is ∙ rw (not-false k h, e))

-- ---- all of them

pub record Sifting (rule : Rule) (s₀ : List ℕ) (n : ℕ) (s : List ℕ) (c : Sift) (i : ℕ) : Type 0 where
  pub left : ℕ
  pub bytes : AllBytes s₀
  pub long₀ : length s₀ ≡ map_size
  pub long : length s ≡ map_size
  pub within : i ≤ n
  pub order : c.to ≤ c.at
  pub room : c.at + 48 * (n - i) + 36 * left ≤ map_size
  pub reads : are_entries (n - i) left (drop c.at s₀) ≡ true
  pub unread : drop c.at s ≡ drop c.at s₀
  pub made : splice s c.to (entries_bytes (stay (keeps rule) (takes rule) c.taken (entries_in (n - i) (drop c.at s₀)))) ≡ splice s₀ 4 (entries_bytes (stay (keeps rule) (takes rule) false (excluded_at s₀)))

module _ {rule : Rule} {s₀ : List ℕ} {n : ℕ} {s : List ℕ} {c : Sift} {i : ℕ} (w : Sifting rule s₀ n s c i) where
  module _ (h : i < n) where
    next : n - i ≡ suc (n - (i + 1))
    next = omega arith

    abbrev x : List ℕ
    x = drop c.at s₀

    are : are_entries (suc (n - (i + 1))) w.left x ≡ true
    are = rw next at w.reads

    count_most : u32_at x 44 ≤ w.left
    count_most = first-room (n - (i + 1)) w.left x are

    long_x : entry_size x ≤ length x
    long_x = let r = w.room in let k = count_most in omega (arith, length-drop c.at s₀, w.long₀)

    pub sift_room : c.at + entry_size (drop c.at s) ≤ length s
    sift_room = rw w.unread (let r = w.room in let k = count_most in omega (arith, w.long))

    -- after the entry, by what becomes of it
    module _ (d : Sift) (o : List ℕ) where
      abbrev rest : List MapEntry
      rest = entries_in (n - (i + 1)) (drop (entry_size x) x)

      beyond : drop (entry_size x) x ≡ drop (c.at + entry_size x) s₀
      beyond = drop-drop (entry_size x) c.at s₀

      on : d.at ≡ c.at + entry_size x → d.to ≤ d.at → length o ≡ map_size → drop (c.at + entry_size x) o ≡ drop (c.at + entry_size x) s
          → splice o d.to (entries_bytes (stay (keeps rule) (takes rule) d.taken rest)) ≡ splice s₀ 4 (entries_bytes (stay (keeps rule) (takes rule) false (excluded_at s₀)))
          → Sifting rule s₀ n o d (i + 1)
      on ea q l u m =
          let r = w.room in
          let k = count_most in
          let y : drop (c.at + entry_size x) s ≡ drop (c.at + entry_size x) s₀ = sym (drop-drop (entry_size x) c.at s) ∙ ap (drop (entry_size x)) w.unread ∙ beyond in
          record {
            left = w.left - u32_at x 44;
            bytes = w.bytes;
            long₀ = w.long₀;
            long = l;
            within = omega arith;
            order = q;
            room = rw ea (omega arith);
            reads = rw (ea, ← beyond) (rest_are (n - (i + 1)) w.left x are);
            unread = rw ea (u ∙ y);
            made = rw (ea, ← beyond) m;
          }

    stays_within : (taken : Bool) → c.at + entry_size x + length (entries_bytes (stay (keeps rule) (takes rule) taken (entries_in (n - (i + 1)) (drop (entry_size x) x)))) ≤ map_size
    stays_within taken =
        let y = drop (entry_size x) x in
        let r = w.room in
        let k = count_most in
        let m = stay-size (keeps rule) (takes rule) taken (entries_in (n - (i + 1)) y) in
        let q = points_most (n - (i + 1)) (w.left - u32_at x 44) y (rest_are (n - (i + 1)) w.left x are) (rw (length-drop (entry_size x) x) (omega (arith, long_x, length-drop c.at s₀, w.long₀))) in
        omega (arith, entries-size (entries_in (n - (i + 1)) y), entries-long (n - (i + 1)) y)

    pub sift_more : {d : Sift} {o : List ℕ} → d ≡ sift_one rule c s → o ≡ sift_one_bytes rule c s → Sifting rule s₀ n o d (i + 1)
    unfolding sift_one sift_one_bytes sifted sifted_bytes gives entries_in stay entries_bytes
    sift_more {d} {o} ed eo = by (keeps rule (map_entry_of x)) (cond c.taken false (takes rule (map_entry_of x))) (ed ∙ rw w.unread) (eo ∙ rw w.unread) (rw next at w.made)
      where
        by : (a b : Bool)
            → d ≡ cond a (cond b (record { at = c.at + entry_size x; to = c.to; taken = true }) (record { at = c.at + entry_size x; to = c.to + entry_size x; taken = c.taken })) (record { at = c.at + entry_size x; to = c.to; taken = c.taken })
            → o ≡ cond a (cond b s (splice s c.to (take (entry_size x) x))) s
            → splice s c.to (entries_bytes (cond a (cond b (stay (keeps rule) (takes rule) true (rest d o)) (map_entry_of x ∷ stay (keeps rule) (takes rule) c.taken (rest d o))) (stay (keeps rule) (takes rule) c.taken (rest d o)))) ≡ splice s₀ 4 (entries_bytes (stay (keeps rule) (takes rule) false (excluded_at s₀)))
            → Sifting rule s₀ n o d (i + 1)
        by false b e f m = rw (e, f) (on (record { at = c.at + entry_size x; to = c.to; taken = c.taken }) s refl (let q = w.order in omega arith) w.long refl m)
        by true true e f m = rw (e, f) (on (record { at = c.at + entry_size x; to = c.to; taken = true }) s refl (let q = w.order in omega arith) w.long refl m)
        by true false e f m =
            let q = w.order in
            let W = entries_bytes (stay (keeps rule) (takes rule) c.taken (rest d o)) in
            let E = take (entry_size x) x in
            let room = stays_within c.taken in
            let same : entry_bytes (map_entry_of x) ≡ E = entry_again x (bytes_drop c.at s₀ w.bytes) (first-is (n - (i + 1)) w.left x are) long_x in
            let l : length E ≡ entry_size x = length-take-le (entry_size x) x long_x in
            let z : c.to + length E ≡ c.to + entry_size x = ap (λ (k : ℕ). c.to + k) l in
            let u : drop (c.at + entry_size x) (splice s c.to E) ≡ drop (c.at + entry_size x) s = drop-splice s c.to E (c.at + entry_size x) (omega (arith, w.long)) (omega arith) in
            let j : splice (splice s c.to E) (c.to + entry_size x) W ≡ splice s c.to (E ++ W) = ap (λ (k : ℕ). splice (splice s c.to E) k W) (sym z) ∙ splice-then s c.to E W (omega (arith, w.long)) in
            rw (e, f)
            (on (record { at = c.at + entry_size x; to = c.to + entry_size x; taken = c.taken }) (splice s c.to E) refl (omega arith) (splice-length s c.to E (omega (arith, w.long)) ∙ w.long) u
            (j ∙ ap (λ (k : List ℕ). splice s c.to (k ++ W)) (sym same) ∙ m))

  pub sift_end : n ≤ i → s ≡ splice s₀ 4 (entries_bytes (stay (keeps rule) (takes rule) false (excluded_at s₀)))
  unfolding entries_in stay entries_bytes
  sift_end h =
      let z : n - i ≡ 0 = let k = w.within in omega arith in
      sym (splice-none s c.to) ∙ ap (λ (k : ℕ). splice s c.to (entries_bytes (stay (keeps rule) (takes rule) c.taken (entries_in k (drop c.at s₀))))) (sym z) ∙ w.made

-- the entries that need not move are passed over
module _ (rule : Rule) (s : List ℕ) {v : Survey} {n : ℕ} (b : AllBytes s) (e : Ok v ≡ survey_of rule s) (en : n ≡ word s 0) where
  pub sift_start : Sifting rule s n s (record { at = v.from; to = v.from; taken = false }) v.index
  unfolding excluded_at word
  sift_start =
      let g = told_good rule s e in
      let f = keeps rule in
      let p = takes rule in
      let x = drop 4 s in
      let m = u32_at s 0 in
      let L = entries_in m x in
      let F = leading f p L in
      let k = length F in
      let B = entries_bytes F in
      let l = map-long s g in
      let few = map-few s g in
      let from : v.from ≡ 4 + length B = told-from rule s e in
      let index : v.index ≡ k = told-index rule s e in
      let lk : k ≤ m = let z = ap length (leading-is f p L) in omega (arith, length-take k L, entries-long m x) in
      let c : Cut m 512 x k = cut k m 512 x lk (map_are s g) (rw (length-drop 4 s) (omega arith)) in
      let size : c.size ≡ length B = c.sized ∙ ap (λ (t : List MapEntry). length (entries_bytes t)) (sym (leading-is f p L)) in
      let here : v.from ≡ 4 + c.size = omega arith in
      let beyond : drop c.size x ≡ drop v.from s = drop-drop c.size 4 s ∙ ap (λ (i : ℕ). drop i s) (sym here) in
      let z : n - v.index ≡ m - k = omega arith in
      let w = c.within in
      let D = drop k L in
      let W = entries_bytes (stay f p false D) in
      let rest : entries_in (n - v.index) (drop v.from s) ≡ D = ap₂ entries_in z (sym beyond) ∙ c.rest in
      let parts : entries_bytes (stay f p false L) ≡ B ++ W = ap entries_bytes (stay-leading f p L) ∙ bytes-join F (stay f p false D) in
      let whole : entries_bytes L ≡ B ++ entries_bytes D = ap entries_bytes (sym (take-append-drop k L) ∙ ap (λ (t : List MapEntry). t ++ D) (sym (leading-is f p L))) ∙ bytes-join F D in
      let Z = drop (length (entries_bytes L)) x in
      let stands : take (length B) x ≡ B =
      ap (take (length B)) (map_again s g b ∙ ap (λ (t : List ℕ). t ++ Z) whole ∙ append_assoc B (entries_bytes D) Z) ∙ take_at B (entries_bytes D ++ Z) (length B) refl in
      let most : 4 + length B + length W ≤ length s = let q = stay-size f p false L in let r = points_most m 512 x (map_are s g) (rw (length-drop 4 s) (omega arith)) in omega (arith, ap length parts, length-append B W, entries-size L, entries-long m x) in
      record {
        left = c.left;
        bytes = b;
        long₀ = l;
        long = l;
        within = omega arith;
        order = omega arith;
        room = omega arith;
        reads = rw (z, ← beyond) c.reads;
        unread = refl;
        made =
            ap₂ (λ (i : ℕ) (t : List MapEntry). splice s i (entries_bytes (stay f p false t))) from rest
            ∙ ap (λ (t : List ℕ). splice t (4 + length B) W) (sym (splice-same s 4 B stands))
            ∙ splice-then s 4 B W most
            ∙ ap (splice s 4) (sym parts);
      }

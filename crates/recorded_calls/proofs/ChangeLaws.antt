-- Laws of a file with changes.
use Rattle.std.proofs.Common.{◌≡◌, refl, sym, ◌∙◌, ℕ, zero, suc, ◌+◌, ◌-◌, ◌/◌, ◌%◌, ◌<◌, ◌≤◌, List, [], ◌++◌, length, ap, arith, append_assoc, length-append}
use Rattle.std.proofs.lemmas.Grind.{common_steps}
use Rattle.arithmetic.specs.LittleEndian.{u32_at}
use Rattle.molecule.specs.Layout.{part}
use Rattle.molecule.specs.Write.{put_at, put_end, Put}
use Rattle.molecule.proofs.WriteLaws.{none, and_put, as_bytes}
use Rattle.recorded_calls.specs.Changes.{change_size, changed_from, place_at, changed_by_bytes, put_changes}

changes_more : (file : List ℕ) (from n c : ℕ) (s : List ℕ) → n < c →
    changed_from file from (c - n) s
    ≡ (part file from (u32_at s 0 % 65536) ++ part s 5 (change_size s))
    ++ changed_from file (u32_at s 0 / 65536) (c - (n + 1)) (part s (change_size s) (length s))
unfolding changed_from
changes_more file from n c s h =
    let e : c - n ≡ suc (c - (n + 1)) = omega arith in ap (λ k. changed_from file from k s) e

-- one more change, put behind what is there
pub changes_step : (old new p b left whole file s : List ℕ) (from upto to size n c : ℕ) → n < c → old ++ changed_from file from (c - n) s ≡ whole →
    upto ≡ u32_at s 0 % 65536 → to ≡ u32_at s 0 / 65536 → size ≡ change_size s → p ≡ part file from upto → b ≡ part s 5 (change_size s) →
    new ≡ (old ++ p) ++ b → left ≡ part s size (length s) → new ++ changed_from file to (c - (n + 1)) left ≡ whole
changes_step old new p b left whole file s from upto to size n c h i u t z ep eb en el =
    let e = changes_more file from n c s h in
    grind (arith, common_steps, append_assoc)

-- ---- put to a room

put_changes_more : (room : List ℕ) (at : ℕ) (file : List ℕ) (from n c : ℕ) (s : List ℕ) → n < c →
    put_changes room at file from (c - n) s ≡
    (let kept = put_at room at (part file from (place_at s 0)) in
    let next = put_end room at (part file from (place_at s 0)) in
    put_changes (put_at kept next (part s 5 (change_size s))) (put_end kept next (part s 5 (change_size s)))
    file (place_at s 2) (c - (n + 1)) (part s (change_size s) (length s)))
unfolding put_changes
put_changes_more room at file from n c s h =
    let e : c - n ≡ suc (c - (n + 1)) = omega arith in ap (λ k. put_changes room at file from k s) e

-- one more change, put behind what is there
pub put_changes_step : (room kept room₂ p b left file s : List ℕ) (whole : List ℕ × ℕ) (at next at₂ from upto to size n c : ℕ) → n < c →
    put_changes room at file from (c - n) s ≡ whole → upto ≡ place_at s 0 → to ≡ place_at s 2 → size ≡ change_size s → p ≡ part file from upto →
    b ≡ part s 5 (change_size s) → kept ≡ put_at room at p → next ≡ put_end room at p → room₂ ≡ put_at kept next b → at₂ ≡ put_end kept next b →
    left ≡ part s size (length s) → put_changes room₂ at₂ file to (c - (n + 1)) left ≡ whole
put_changes_step room kept room₂ p b left file s whole at next at₂ from upto to size n c h i u t z ep eb k₁ n₁ k₂ n₂ el =
    let e = put_changes_more room at file from n c s h in
    grind (arith, common_steps)

-- with room for all of it the changed file stands there, behind what stood there before
changes_behind : (out file : List ℕ) (n : ℕ) (room s xs : List ℕ) (at from : ℕ) → Put out 0 xs room at → length (xs ++ changed_by_bytes file from n s) ≤ length out →
    Put out 0 (xs ++ changed_by_bytes file from n s) (put_changes room at file from n s).0 (put_changes room at file from n s).1
unfolding changed_by_bytes put_changes
changes_behind out file zero room s xs at from p h =
    and_put (part file from (length file)) p refl refl (omega (arith, length-append {A = ℕ}))
changes_behind out file (suc n) room s xs at from p h =
    let ps = part file from (place_at s 0) in
    let bs = part s 5 (change_size s) in
    let rest = changed_by_bytes file (place_at s 2) n (part s (change_size s) (length s)) in
    let e : ((xs ++ ps) ++ bs) ++ rest ≡ xs ++ ((ps ++ bs) ++ rest) = simp append_assoc in
    let l : length (((xs ++ ps) ++ bs) ++ rest) ≤ length out = rw e h in
    let q = and_put ps p refl refl (omega (arith, length-append {A = ℕ})) in
    let r = and_put bs q refl refl (omega (arith, length-append {A = ℕ})) in
    as_bytes e (changes_behind out file n _ _ _ _ _ r l)

changes_whole : (room file s : List ℕ) (n : ℕ) → length (changed_by_bytes file 0 n s) ≤ length room →
    Put room 0 (changed_by_bytes file 0 n s) (put_changes room 0 file 0 n s).0 (put_changes room 0 file 0 n s).1
changes_whole room file s n h = changes_behind room file n room s [] 0 0 (none room 0 (omega arith)) h

changes_last : (room after p file s : List ℕ) (at next from n c : ℕ) → c ≤ n → p ≡ part file from (length file) → after ≡ put_at room at p →
    next ≡ put_end room at p → put_changes room at file from (c - n) s ≡ (after, next)
unfolding put_changes
changes_last room after p file s at next from n c h ep ea en =
    let e : c - n ≡ 0 = omega arith in rw (e, ea, en, ep)

-- what stands behind the last change, where there is room for all
pub changes_done : (first room after p file changes s : List ℕ) (at next from n c : ℕ) → c ≤ n →
    put_changes room at file from (c - n) s ≡ put_changes first 0 file 0 c changes → p ≡ part file from (length file) → after ≡ put_at room at p →
    next ≡ put_end room at p → length (changed_by_bytes file 0 c changes) ≤ length first → Put first 0 (changed_by_bytes file 0 c changes) after next
changes_done first room after p file changes s at next from n c h i ep ea en l =
    let e : put_changes first 0 file 0 c changes ≡ (after, next) = sym i ∙ changes_last room after p file s at next from n c h ep ea en in
    rw e at (changes_whole first file changes c l)

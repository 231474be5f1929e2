-- A file with changes (tools/recorded_updates.py): of each two places of the file, the number of the bytes that stand between them instead, and these bytes.
use Rattle.std.specs.Prelude.{ℕ, zero, suc, ◌+◌, ◌*◌, ◌/◌, ◌%◌, List, ◌++◌, length, slice_index}
use Rattle.arithmetic.specs.LittleEndian.{u32_at}
use Rattle.molecule.specs.Layout.{part}
use Rattle.molecule.specs.Write.{put_at, put_end}

-- how long the change at the start of s is
abbrev pub change_size : List ℕ → ℕ
change_size s = 5 + slice_index s 4

-- the file from `from` on with so many changes; of a change whose places are cut off both are 0
unfoldable pub changed_from : List ℕ → ℕ → ℕ → List ℕ → List ℕ
changed_from file from zero s = part file from (length file)
changed_from file from (suc n) s =
    (part file from (u32_at s 0 % 65536) ++ part s 5 (change_size s))
    ++ changed_from file (u32_at s 0 / 65536) n (part s (change_size s) (length s))

-- the place of two bytes, each 0 where it is not there
abbrev pub place_at : List ℕ → ℕ → ℕ
place_at s i = slice_index s i + 256 * slice_index s (i + 1)

-- the file from `from` on with so many changes, whose places are read byte by byte
unfoldable pub changed_by_bytes : List ℕ → ℕ → ℕ → List ℕ → List ℕ
changed_by_bytes file from zero s = part file from (length file)
changed_by_bytes file from (suc n) s =
    (part file from (place_at s 0) ++ part s 5 (change_size s))
    ++ changed_by_bytes file (place_at s 2) n (part s (change_size s) (length s))

-- the same put at `at` of a room, stretch by stretch, each if there is room for it: the room then, and the place after it
unfoldable pub put_changes : List ℕ → ℕ → List ℕ → ℕ → ℕ → List ℕ → List ℕ × ℕ
put_changes room at file from zero s = (put_at room at (part file from (length file)), put_end room at (part file from (length file)))
put_changes room at file from (suc n) s =
    let kept = put_at room at (part file from (place_at s 0)) in
    let next = put_end room at (part file from (place_at s 0)) in
    put_changes (put_at kept next (part s 5 (change_size s))) (put_end kept next (part s 5 (change_size s)))
    file (place_at s 2) n (part s (change_size s) (length s))

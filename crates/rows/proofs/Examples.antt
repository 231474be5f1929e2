-- Worked examples, by computation of the definitions: tables with room for three rows of two bytes.
use Rattle.std.proofs.Common.{Some, None, ◌≡◌, ℕ, true, false, List, [], ◌∷◌, refl}
use mathlib.Core.List.{flatten}
use Rattle.arithmetic.specs.LittleEndian.{le, to_le, num_at}
use Rattle.molecule.specs.Layout.{part, span, word, fix_count, fix_item}
use Rattle.molecule.specs.Write.{splice, put_at}
use Rattle.lists.specs.Lists.{eq_bytes}
use Rattle.molecule.specs.Items.{fix_list}
use Rattle.rows.specs.Rows.{is_table, row_count, row_at, rows_of, has_key, first_with, find, room_for, with_row, with_count, pushed, replaced, rows_behind, removed}

-- no row, two rows with two bytes behind them, and as many as there is room for
abbrev none : List ℕ
none = 0 ∷ 0 ∷ 0 ∷ 0 ∷ 0 ∷ 0 ∷ 0 ∷ 0 ∷ 0 ∷ 0 ∷ []

abbrev two : List ℕ
two = 2 ∷ 0 ∷ 0 ∷ 0 ∷ 10 ∷ 11 ∷ 20 ∷ 11 ∷ 90 ∷ 91 ∷ []

abbrev full : List ℕ
full = 3 ∷ 0 ∷ 0 ∷ 0 ∷ 10 ∷ 11 ∷ 20 ∷ 11 ∷ 30 ∷ 31 ∷ []

-- ---- which bytes are a table

pub a_table : is_table 2 3 two ≡ true
unfolding is_table word num_at le
a_table = refl

pub a_full-table : is_table 2 3 full ≡ true
unfolding is_table word num_at le
a_full-table = refl

-- a count of 4 is one too many
pub one_too_many : is_table 2 3 (4 ∷ 0 ∷ 0 ∷ 0 ∷ 10 ∷ 11 ∷ 20 ∷ 11 ∷ 30 ∷ 31 ∷ []) ≡ false
unfolding is_table word num_at le
one_too_many = refl

-- a byte too few, and a byte too many
pub a_byte_short : is_table 2 3 (2 ∷ 0 ∷ 0 ∷ 0 ∷ 10 ∷ 11 ∷ 20 ∷ 11 ∷ 90 ∷ []) ≡ false
unfolding is_table
a_byte_short = refl

pub a_byte-long : is_table 2 3 (2 ∷ 0 ∷ 0 ∷ 0 ∷ 10 ∷ 11 ∷ 20 ∷ 11 ∷ 90 ∷ 91 ∷ 92 ∷ []) ≡ false
unfolding is_table
a_byte-long = refl

pub no_bytes : is_table 2 3 [] ≡ false
unfolding is_table
no_bytes = refl

-- ---- rows

pub rows-of-two : rows_of 2 two ≡ (10 ∷ 11 ∷ []) ∷ (20 ∷ 11 ∷ []) ∷ []
unfolding span fix_item fix_count part word num_at le
rows-of-two = refl

pub rows-of-none : rows_of 2 none ≡ []
unfolding span fix_item fix_count part word num_at le
rows-of-none = refl

-- past the last row there are no bytes, whatever stands there
pub past_the_last : row_at 2 two 2 ≡ []
unfolding fix_item word num_at le
past_the_last = refl

-- a count that bytes only claim is no more than there are bytes
pub claimed : row_count (255 ∷ 255 ∷ 255 ∷ 255 ∷ 1 ∷ 2 ∷ []) ≡ 6
unfolding fix_count word num_at le
claimed = refl

pub written : fix_list ((10 ∷ 11 ∷ []) ∷ (20 ∷ 11 ∷ []) ∷ []) ≡ 2 ∷ 0 ∷ 0 ∷ 0 ∷ 10 ∷ 11 ∷ 20 ∷ 11 ∷ []
unfolding fix_list to_le flatten
written = refl

-- ---- find

-- by the first byte of a row, by the second (two rows have it: the first of them), by both
pub by_first : find 2 0 (20 ∷ []) two ≡ Some 1
unfolding find first_with has_key eq_bytes span fix_item fix_count part word num_at le
by_first = refl

pub by_second : find 2 1 (11 ∷ []) two ≡ Some 0
unfolding find first_with has_key eq_bytes span fix_item fix_count part word num_at le
by_second = refl

pub by_both : find 2 0 (20 ∷ 11 ∷ []) two ≡ Some 1
unfolding find first_with has_key eq_bytes span fix_item fix_count part word num_at le
by_both = refl

-- what stands behind the last row is not found, and no row has three bytes
pub behind_the_last : find 2 0 (90 ∷ 91 ∷ []) two ≡ None
unfolding find first_with has_key eq_bytes span fix_item fix_count part word num_at le
behind_the_last = refl

pub too_long_lem : find 2 0 (10 ∷ 11 ∷ 20 ∷ []) two ≡ None
unfolding find first_with has_key eq_bytes span fix_item fix_count part word num_at le
too_long_lem = refl

pub in_none : find 2 0 (0 ∷ 0 ∷ []) none ≡ None
unfolding find first_with has_key eq_bytes span fix_item fix_count part word num_at le
in_none = refl

-- ---- push

pub to_none : pushed 2 (10 ∷ 11 ∷ []) none ≡ 1 ∷ 0 ∷ 0 ∷ 0 ∷ 10 ∷ 11 ∷ 0 ∷ 0 ∷ 0 ∷ 0 ∷ []
unfolding pushed room_for with_row with_count put_at splice to_le fix_count word num_at le
to_none = refl

-- the last for which there is room, and one more
pub to_two : pushed 2 (30 ∷ 31 ∷ []) two ≡ full
unfolding pushed room_for with_row with_count put_at splice to_le fix_count word num_at le
to_two = refl

pub to_full : pushed 2 (40 ∷ 41 ∷ []) full ≡ full
unfolding pushed room_for with_row with_count put_at splice to_le fix_count word num_at le
to_full = refl

-- a row of one byte, and of three
pub short_row : pushed 2 (30 ∷ []) two ≡ two
unfolding pushed
short_row = refl

pub long_row : pushed 2 (30 ∷ 31 ∷ 32 ∷ []) two ≡ two
unfolding pushed
long_row = refl

-- ---- replace

pub the_second : replaced 2 1 (50 ∷ 51 ∷ []) full ≡ 3 ∷ 0 ∷ 0 ∷ 0 ∷ 10 ∷ 11 ∷ 50 ∷ 51 ∷ 30 ∷ 31 ∷ []
unfolding replaced with_row put_at splice fix_count word num_at le
the_second = refl

-- the last row, and past it
pub the_last : replaced 2 1 (50 ∷ 51 ∷ []) two ≡ 2 ∷ 0 ∷ 0 ∷ 0 ∷ 10 ∷ 11 ∷ 50 ∷ 51 ∷ 90 ∷ 91 ∷ []
unfolding replaced with_row put_at splice fix_count word num_at le
the_last = refl

pub replaced_past : replaced 2 2 (50 ∷ 51 ∷ []) two ≡ two
unfolding replaced fix_count word num_at le
replaced_past = refl

pub replaced_short : replaced 2 1 (50 ∷ []) two ≡ two
unfolding replaced fix_count word num_at le
replaced_short = refl

-- ---- remove: the bytes behind what is then the last row keep their value

pub first-of-full : removed 2 0 full ≡ 2 ∷ 0 ∷ 0 ∷ 0 ∷ 20 ∷ 11 ∷ 30 ∷ 31 ∷ 30 ∷ 31 ∷ []
unfolding removed rows_behind room_for with_row with_count put_at splice to_le part fix_count word num_at le
first-of-full = refl

pub last_of-full : removed 2 2 full ≡ 2 ∷ 0 ∷ 0 ∷ 0 ∷ 10 ∷ 11 ∷ 20 ∷ 11 ∷ 30 ∷ 31 ∷ []
unfolding removed rows_behind room_for with_row with_count put_at splice to_le part fix_count word num_at le
last_of-full = refl

pub past_full : removed 2 3 full ≡ full
unfolding removed fix_count word num_at le
past_full = refl

pub of_none : removed 2 0 none ≡ none
unfolding removed fix_count word num_at le
of_none = refl

-- bytes that claim more rows than they have are left as they are
pub no_table : removed 2 0 (3 ∷ 0 ∷ 0 ∷ 0 ∷ 10 ∷ 11 ∷ []) ≡ 3 ∷ 0 ∷ 0 ∷ 0 ∷ 10 ∷ 11 ∷ []
unfolding removed room_for fix_count word num_at le
no_table = refl

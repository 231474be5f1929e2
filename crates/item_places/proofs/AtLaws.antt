-- Places of parts: one law for each way out of the functions that say where a part stands.
use mathlib.Core.Path.{◌≡◌, refl, sym, ap, subst, ◌∙◌}
use Prim.Native.Nat.{ℕ, ◌+◌, ◌-◌, ◌*◌, ◌^◌, ◌≤◌, ◌<◌, min}
use mathlib.Core.List.{List}
use native.Mathlib.Omega.{arith}
use borrow.Author.Tests.{lt-ltb, le-ltb}
use lib.ListN.{length, drop, length-take, length-drop}
use Rattle.molecule.specs.Layout.{span, part, part_start, start, word, field_of, field_start, fix_item, fix_start, item_count, item_of, item_start, content, content_start, entry_of, entry_start}
use Rattle.transaction.specs.Tx.{tx_at, raw_field, raw_start, witnesses_of}
use Rattle.transaction_lists.specs.Lists.{list_of, list_in, item_in, start_in, place_in_bytes}
use Rattle.transaction_lists.specs.Kinds.{list_number}
use Rattle.transaction_lists.specs.declared.ListKind.{ListKind}
use Rattle.transaction_lists.specs.declared.ListKind.TheVariants.{CellDeps, HeaderDeps, Inputs, Outputs, OutputsData, Witnesses}
use Rattle.transaction_lists.proofs.ListLaws.{item_there, place_there}
use Rattle.item_places.specs.declared.Place.{Place}
use Rattle.item_places.specs.Places.{At, onward}

-- ---- a part

part-within : (s : List ℕ) (a b : ℕ) → part_start s a b + length (part s a b) ≤ length s
unfolding part part_start
part-within s a b = omega (arith, length-take (b - a) (drop a s), length-drop a s)

pub part_at : (s : List ℕ) (from to : ℕ) {a : ℕ} {f : List ℕ} → a ≡ min from (min to (length s)) → f ≡ part s from to
    → At s (part s from to) (part_start s from to) (record { start = a; len = length f })
unfolding part_start
part_at s from to ea ef = record { starts = ea; long = ap length ef; within = part-within s from to }

-- a part of a part
module _ {s f g : List ℕ} {a b : ℕ} {p q : Place} where
  pub on_fits : At s f a p → At f g b q → length s < 2 ^ 64 → p.start + q.start < 2 ^ 64
  on_fits h k l = omega (arith, h.starts, h.within, k.starts, k.within)

  onto : At s f a p → At f g b q → At s g (a + b) (onward p q)
  onto h k = record { starts = omega (arith, h.starts, k.starts); long = k.long; within = omega (arith, h.within, k.within) }

-- ---- items

pub field_at_lem : (s : List ℕ) (n i : ℕ) {a b : ℕ} {p : Place} → a ≡ start s n i → b ≡ start s n (i + 1) → At s (part s a b) (part_start s a b) p → At s (field_of s n i) (field_start s n i) p
unfolding field_of field_start
field_at_lem s n i ea eb h = rw (← ea, ← eb) h

module _ (s : List ℕ) (k i : ℕ) {n : ℕ} (e : n ≡ word s 0) where
  pub fix_none-at : n ≤ i → At s (fix_item s k i) (fix_start s k i) (record { start = 0; len = 0 })
  unfolding fix_item fix_start
  fix_none-at h = rw (le-ltb i (word s 0) (omega arith)) (record { starts = refl; long = refl; within = omega arith })

  pub fix_at : {p : Place} → i < n → At s (part s (4 + k * i) (4 + k * i + k)) (part_start s (4 + k * i) (4 + k * i + k)) p → At s (fix_item s k i) (fix_start s k i) p
  unfolding fix_item fix_start
  fix_at h at = rw (lt-ltb i (word s 0) (omega arith)) at

pub item-at : (s : List ℕ) (i : ℕ) {n : ℕ} {p : Place} → n ≡ item_count s → At s (field_of s n i) (field_start s n i) p → At s (item_of s i) (item_start s i) p
unfolding item_of item_start
item-at s i e h = rw e at h

pub entry_at : (s : List ℕ) (i : ℕ) {x : List ℕ} {p q r : Place} → At s (item_of s i) (item_start s i) p → x ≡ item_of s i → At x (part x 4 (length x)) (part_start x 4 (length x)) q → r ≡ onward p q
    → At s (entry_of s i) (entry_start s i) r
unfolding entry_of entry_start content content_start
entry_at s i h ex k e = rw e (onto h (rw ex at k))

pub entry-fits : (s : List ℕ) (i : ℕ) {x g : List ℕ} {b : ℕ} {p q : Place} → At s (item_of s i) (item_start s i) p → x ≡ item_of s i → At x g b q → length s < 2 ^ 64 → p.start + q.start < 2 ^ 64
entry-fits s i h ex k l = on_fits h (rw ex at k) l

-- ---- items of a transaction

module _ (tx : List ℕ) (j : ℕ) {raw : List ℕ} {p q : Place} (h : At tx (field_of tx 2 0) (field_start tx 2 0) p) (e : raw ≡ field_of tx 2 0) (k : At raw (field_of raw 6 j) (field_start raw 6 j) q) where
  pub raw_fits : length tx < 2 ^ 64 → p.start + q.start < 2 ^ 64
  raw_fits l = on_fits h (rw e at k) l

  pub raw_at_lem : {r : Place} → r ≡ onward p q → At tx (raw_field tx j) (raw_start tx j) r
  unfolding raw_field raw_start
  raw_at_lem er = rw er (onto h (rw e at k))

-- an item of the list f, which stands in the transaction
module _ (tx : List ℕ) {f list : List ℕ} {a : ℕ} {p : Place} (h : At tx f a p) (e : list ≡ f) where
  pub in_list_fits : {g : List ℕ} {b : ℕ} {q : Place} → At list g b q → length tx < 2 ^ 64 → p.start + q.start < 2 ^ 64
  in_list_fits k l = on_fits h (rw e at k) l

  pub fix_in_list : (w i : ℕ) {q r : Place} → At list (fix_item list w i) (fix_start list w i) q → r ≡ onward p q → At tx (fix_item f w i) (a + fix_start f w i) r
  fix_in_list w i k er = rw er (onto h (rw e at k))

  pub item_in_list : (i : ℕ) {q r : Place} → At list (item_of list i) (item_start list i) q → r ≡ onward p q → At tx (item_of f i) (a + item_start f i) r
  item_in_list i k er = rw er (onto h (rw e at k))

  pub entry_in_list : (i : ℕ) {q r : Place} → At list (entry_of list i) (entry_start list i) q → r ≡ onward p q → At tx (entry_of f i) (a + entry_start f i) r
  entry_in_list i k er = rw er (onto h (rw e at k))

-- the bytes of a witness
module _ (tx : List ℕ) {list : List ℕ} {p : Place} (h : At tx (field_of tx 2 1) (field_start tx 2 1) p) (e : list ≡ witnesses_of tx) where
  pub witness_fits : {g : List ℕ} {b : ℕ} {q : Place} → At list g b q → length tx < 2 ^ 64 → p.start + q.start < 2 ^ 64
  unfolding witnesses_of
  witness_fits k l = on_fits h (rw e at k) l

  pub witness_in_list : (i : ℕ) {q r : Place} → At list (entry_of list i) (entry_start list i) q → r ≡ onward p q → At tx (entry_of (witnesses_of tx) i) (field_start tx 2 1 + entry_start (witnesses_of tx) i) r
  unfolding witnesses_of
  witness_in_list i k er = entry_in_list tx h e i k er

-- item i of a list
module _ (tx : List ℕ) (i : ℕ) {r : Place} where
  at_item : (n a m : ℕ) (f : ℕ → List ℕ) → i < length (list_in tx n) → list_of (tx_at tx) n ≡ span f 0 m → a ≡ start_in tx n i → At tx (f i) a r → At tx (item_in tx n i) (place_in_bytes tx n i) r
  at_item n a m f h l s at =
      subst (λ (x : List ℕ). At tx x (place_in_bytes tx n i) r) (sym (item_there tx n i h f m l)) (subst (λ (b : ℕ). At tx (f i) b r) (s ∙ sym (place_there tx n i h)) at)

  module _ {k : ListKind} {n : ℕ} (en : n ≡ length (list_in tx (list_number k))) (below : i < n) where
    pub at-cell-dep : k ≡ CellDeps → At tx (fix_item (raw_field tx 1) 37 i) (raw_start tx 1 + fix_start (raw_field tx 1) 37 i) r → At tx (item_in tx (list_number k) i) (place_in_bytes tx (list_number k) i) r
    unfolding list_of start_in
    at-cell-dep g at = let h : i < length (list_in tx (list_number k)) = rw (← en) below in rw g (at_item 0 _ _ (fix_item (raw_field tx 1) 37) (rw g at h) refl refl at)

    pub at-header-dep : k ≡ HeaderDeps → At tx (fix_item (raw_field tx 2) 32 i) (raw_start tx 2 + fix_start (raw_field tx 2) 32 i) r → At tx (item_in tx (list_number k) i) (place_in_bytes tx (list_number k) i) r
    unfolding list_of start_in
    at-header-dep g at = let h : i < length (list_in tx (list_number k)) = rw (← en) below in rw g (at_item 1 _ _ (fix_item (raw_field tx 2) 32) (rw g at h) refl refl at)

    pub at-input : k ≡ Inputs → At tx (fix_item (raw_field tx 3) 44 i) (raw_start tx 3 + fix_start (raw_field tx 3) 44 i) r → At tx (item_in tx (list_number k) i) (place_in_bytes tx (list_number k) i) r
    unfolding list_of start_in
    at-input g at = let h : i < length (list_in tx (list_number k)) = rw (← en) below in rw g (at_item 2 _ _ (fix_item (raw_field tx 3) 44) (rw g at h) refl refl at)

    pub at-output : k ≡ Outputs → At tx (item_of (raw_field tx 4) i) (raw_start tx 4 + item_start (raw_field tx 4) i) r → At tx (item_in tx (list_number k) i) (place_in_bytes tx (list_number k) i) r
    unfolding list_of start_in
    at-output g at = let h : i < length (list_in tx (list_number k)) = rw (← en) below in rw g (at_item 3 _ _ (item_of (raw_field tx 4)) (rw g at h) refl refl at)

    pub at-output_data : k ≡ OutputsData → At tx (entry_of (raw_field tx 5) i) (raw_start tx 5 + entry_start (raw_field tx 5) i) r → At tx (item_in tx (list_number k) i) (place_in_bytes tx (list_number k) i) r
    unfolding list_of start_in
    at-output_data g at = let h : i < length (list_in tx (list_number k)) = rw (← en) below in rw g (at_item 4 _ _ (entry_of (raw_field tx 5)) (rw g at h) refl refl at)

    pub at_witness : k ≡ Witnesses → At tx (entry_of (witnesses_of tx) i) (field_start tx 2 1 + entry_start (witnesses_of tx) i) r → At tx (item_in tx (list_number k) i) (place_in_bytes tx (list_number k) i) r
    unfolding list_of start_in
    at_witness g at = let h : i < length (list_in tx (list_number k)) = rw (← en) below in rw g (at_item 5 _ _ (entry_of (witnesses_of tx)) (rw g at h) refl refl at)

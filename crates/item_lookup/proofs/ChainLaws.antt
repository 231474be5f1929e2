-- Items looked for in chains: one law for each way out.
use Rattle.std.proofs.Common.{◌≡◌, ℕ, ◌+◌, ◌-◌, ◌<◌, ◌≤◌, Bool, true, false, not, List, sym, refl, ap, ◌∙◌}
use Rattle.molecule.specs.Layout.{span, fix_item}
use Rattle.lists.specs.Lists.{eq_bytes, contains, contains_all}
use Rattle.lists.proofs.LoopLaws.{Among, among_end, among_more, among_stop}
use Rattle.item_lookup.specs.declared.Chain.{Chain}
use Rattle.item_lookup.proofs.AllLaws.{at_first_lem, all_rest}

pub met_here : (x b : List ℕ) (k n : ℕ) {place : ℕ} {y : List ℕ} {r : Bool} → y ≡ fix_item b k place → r ≡ eq_bytes x y → r ≡ true
    → place < n → contains x (span (fix_item b k) 0 n) ≡ true
met_here x b k n {place} ey er t h = at_first_lem x (fix_item b k) n place h (ap (eq_bytes x) (sym ey) ∙ sym er ∙ t)

module _ {f : ℕ → List ℕ} {ys : List (List ℕ)} {m i : ℕ} {R : Bool} (h : Among f ys m i R) where
  pub unmet_on : {x : List ℕ} {o : Chain} → i < m → x ≡ f i → (o ≡ Chain.Met → contains x ys ≡ true) → o ≡ Chain.Met → Among f ys m (i + 1) R
  unmet_on l e g t = among_more h l (sym (g t) ∙ ap (λ (y : List ℕ). contains y ys) e) refl

  pub unmet_here : i < m → (i < m) × (R ≡ contains_all (span f i (m - i)) ys)
  unmet_here l = (l, h.rest)

  pub unmet_none : m ≤ i → R ≡ true
  unmet_none l = sym (among_end h l)

-- all before i are met
module _ (f : ℕ → List ℕ) (ys : List (List ℕ)) (from m i : ℕ) (e : (i < m) × (contains_all (span f from (m - from)) ys ≡ contains_all (span f i (m - i)) ys)) where
  some : Among f ys m i (contains_all (span f from (m - from)) ys)
  some = record { rest = e.1 }

  module _ {r : Bool} (er : r ≡ contains (f i) ys) where
    pub chain_missing : not r ≡ true → false ≡ contains_all (span f from (m - from)) ys
    chain_missing t = among_stop some e.0 er t

    pub chain_rest : {q : Bool} → not r ≡ false → q ≡ contains_all (span f (i + 1) (m - (i + 1))) ys → q ≡ contains_all (span f from (m - from)) ys
    chain_rest t eq = all_rest (among_more some e.0 er t) eq

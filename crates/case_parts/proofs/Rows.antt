-- A proof for each row, one after another: `refl and refl and done`.
infixr 5 ◌and◌
abbrev pub ◌and◌ : {A B : Type 0} → A → B → A × B
a and b = (a, b)

abbrev pub done : Unit {0}
done = tt

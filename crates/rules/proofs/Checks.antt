-- A chain of lines with one number: a test that fails refuses with it wherever it stands.
use mathlib.Core.Path.{◌≡◌, refl, sym, ◌∙◌}
use Prim.Native.Nat.{ℕ}
use Prim.Native.String.{String}
use mathlib.Core.Bool.{Bool, true, false, ◌&&◌, false≢true}
use mathlib.Core.List.{[]}
use Rattle.error.specs.Outcome.{Outcome, check, check_with}
use Rattle.error.specs.Outcome as outcome
use Rattle.rules.specs.Lines.{Ruled, line, line_with, verdict, first_failing, ◌>>◌}
use Rattle.rules.proofs.LinesLaws.{line-then}

module _ (n : ℕ) where
  -- a line, and what follows it
  one : (s : String) (a : Bool) (r : Ruled (Unit {0})) → verdict (line n s a >> r) ≡ outcome.◌>>◌ (check n a) (verdict r)
  unfolding check
  one s a r = line-then n [] s a r

  alone : (s : String) (a : Bool) → verdict (line n s a) ≡ check n a
  unfolding verdict first_failing line_with check check_with outcome.◌>>◌
  alone s true = refl
  alone s false = refl

  skipped : (a : Bool) (x : Outcome (Unit {0})) → check n false ≡ x → check n false ≡ outcome.◌>>◌ (check n a) x
  unfolding check check_with outcome.◌>>◌
  skipped true x e = e
  skipped false x e = refl

  failed : (a : Bool) (x : Outcome (Unit {0})) → a ≡ false → check n false ≡ outcome.◌>>◌ (check n a) x
  unfolding check check_with outcome.◌>>◌
  failed a x e = rw e

  passed : (a : Bool) (x : Outcome (Unit {0})) → a ≡ true → x ≡ outcome.◌>>◌ (check n a) x
  unfolding check check_with outcome.◌>>◌
  passed a x e = rw e

  pub skip : (a : Bool) (s : String) (r : Ruled (Unit {0})) → check n false ≡ verdict r → check n false ≡ verdict (line n s a >> r)
  skip a s r e = skipped a (verdict r) e ∙ sym (one s a r)

  pub fail : {a : Bool} (s : String) (r : Ruled (Unit {0})) → a ≡ false → check n false ≡ verdict (line n s a >> r)
  fail {a} s r e = failed a (verdict r) e ∙ sym (one s a r)

  pub pass : {a : Bool} (s : String) {x : Outcome (Unit {0})} (r : Ruled (Unit {0})) → a ≡ true → x ≡ verdict r → x ≡ verdict (line n s a >> r)
  pass {a} s {x} r e h = h ∙ passed a (verdict r) e ∙ sym (one s a r)

  pub last_is : {a b : Bool} (s : String) → b ≡ a → check n b ≡ verdict (line n s a)
  last_is {a} {b} s e = rw e (sym (alone s a))

  -- two tests in one
  pub fail_two : (a b : Bool) (s t : String) (r : Ruled (Unit {0})) → (a && b) ≡ false → check n false ≡ verdict (line n s a >> (line n t b >> r))
  fail_two true b s t r e = skip true s _ (fail t r e)
  fail_two false b s t r e = fail s (line n t b >> r) refl

  pub pass_two : (a b : Bool) (s t : String) {x : Outcome (Unit {0})} (r : Ruled (Unit {0})) → (a && b) ≡ true → x ≡ verdict r
      → x ≡ verdict (line n s a >> (line n t b >> r))
  pass_two true b s t r e h = pass s _ refl (pass t r e h)
  pass_two false b s t r e h = absurd (false≢true e)

  -- the second of them further on
  pub fail_apart : (a b : Bool) (s : String) (r : Ruled (Unit {0})) → (b ≡ false → check n false ≡ verdict r) → (a && b) ≡ false
      → check n false ≡ verdict (line n s a >> r)
  fail_apart true b s r h e = skip true s r (h e)
  fail_apart false b s r h e = fail s r refl

  pub last_two : (a b : Bool) (s t : String) → check n (a && b) ≡ verdict (line n s a >> line n t b)
  last_two true b s t = pass s _ refl (last_is t refl)
  last_two false b s t = fail s (line n t b) refl

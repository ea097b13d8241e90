-- Steps that follow one another.
use Rattle.std.proofs.Common.{◌≡◌, ℕ, ◌++◌, List, [], ◌∷◌, Option, Some, None, refl, sym, subst}
use Rattle.sr_core.specs.Making.{AnsweredBy, Made, ShowsSteps, made_before, words_after}
use Rattle.sr_machine.specs.Ops.{op_words}
use Rattle.sr_machine.specs.declared.name.Name.{Name}
use Rattle.sr_machine.specs.declared.op.Op.{Op}

pub before_more : (o : Option Op) (x : ℕ) (a b : List Made) → made_before o x (a ++ b) ≡ made_before o x a ++ b
before_more None x a b = refl
before_more (Some op) x a b = refl

answered_more : (words : Name → ℕ) (a b : List Made) → AnsweredBy words a → AnsweredBy (words_after words a) b → AnsweredBy words (a ++ b)
answered_more words [] b p q = q
answered_more words (m ∷ a) b p q = (p.0, answered_more (op_words words m.op) a b p.1 q)

words_more : (words : Name → ℕ) (a b : List Made) → words_after words (a ++ b) ≡ words_after (words_after words a) b
words_more words [] b = refl
words_more words (m ∷ a) b = words_more (op_words words m.op) a b

module _ (old mid new : (Name → ℕ) → Type 0) (a b : List Made) where
  pub shows_more : ShowsSteps old a mid → ShowsSteps mid b new → ShowsSteps old (a ++ b) new
  shows_more p q words s =
      let first = p words s in
      let second = q (words_after words a) first.1 in
      (answered_more words a b first.0 second.0, subst new (sym (words_more words a b)) second.1)

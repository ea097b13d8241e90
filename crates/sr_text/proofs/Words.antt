-- Words at the front of bytes.
use Rattle.std.proofs.Common.{◌≡◌, ◌≢◌, ℕ, List, [], ◌∷◌, ◌++◌, Option, Some, None, MatchOption, option_map, Bor, refl, sym, ap, ◌∙◌, arith}
use Rattle.std.proofs.lemmas.Bool.Decides.{nat_tests}
use Rattle.sr_text.specs.Fronts.{after_word}

-- a word is read, whatever follows it
pub after_word_there : (word rest : List ℕ) → after_word word (word ++ rest) ≡ Some rest
after_word_there [] rest = refl
after_word_there (w ∷ word) rest = grind (arith, nat_tests, after_word_there word rest)

-- what is read of a word is that word, and what follows it
pub after_word_takes : (word bytes rest : List ℕ) → after_word word bytes ≡ Some rest → bytes ≡ word ++ rest
after_word_takes [] bytes rest e = grind arith
after_word_takes (w ∷ word) [] rest e = cc
after_word_takes (w ∷ word) (byte ∷ bytes) rest e = let h = after_word_takes word bytes rest in grind (arith, nat_tests, h)

pub after_word_none : (word bytes : List ℕ) → ((rest : List ℕ) → bytes ≢ word ++ rest) → after_word word bytes ≡ None
after_word_none [] bytes h = absurd (h bytes refl)
after_word_none (w ∷ word) [] h = refl
after_word_none (w ∷ word) (byte ∷ bytes) h =
    let on : byte ≡ w → after_word word bytes ≡ None = λ e. after_word_none word bytes (λ rest f. h rest (cc)) in
    grind (arith, nat_tests, on)

pub after_word_is : (word bytes : List ℕ) (r : Option (Bor (List ℕ))) → MatchOption r ((rest : List ℕ) → bytes ≢ word ++ rest) (λ x. bytes ≡ word ++ x.now) → option_map (λ x. x.now) r ≡ after_word word bytes
after_word_is word bytes None h = sym (after_word_none word bytes h)
after_word_is word bytes (Some x) h = sym (ap (after_word word) h ∙ after_word_there word x.now)

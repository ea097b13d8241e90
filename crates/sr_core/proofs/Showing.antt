-- A step on a list of words is the step on the words that it shows.
use Rattle.std.proofs.Common.{◌≡◌, ◌≢◌, ◌∙◌, ℕ, ◌≤◌, Bool, true, false, List, length, refl, sym, ap, subst, if◌then◌else◌}
use Rattle.sr_base.specs.Layout.{LayoutView}
use Rattle.sr_base.specs.WordName.{HasWord, StoresApart, StoresStand, with_word, word_at, words_of}
use Rattle.sr_machine.proofs.Words.{named_back, same_name-self, same_name-true}
use Rattle.sr_machine.specs.Names.{name_for, rewritten, same_name, word_name}
use Rattle.sr_machine.specs.declared.name.Name.{Name}
use Rattle.sr_core.specs.PlainWords.{ShowsWords}

-- different names place different words
words_differ : (a b : Name) → same_name a b ≡ false → word_name b ≢ word_name a
words_differ a b h e = cc (h, same_name-self a, sym (named_back a) ∙ ap name_for (sym e) ∙ named_back b)

module _ (l : LayoutView) (list : List ℕ) (words : Name → ℕ) (stand : StoresStand l) (apart : StoresApart l)
    (wide : words_of l ≤ length list) (shows : ShowsWords l list words) where
  pub shows_store : (a : Name) (x : ℕ) → HasWord l (word_name a)
      → ShowsWords l (with_word l list (word_name a) x) (rewritten words a x)
  shows_store a x h b has = at (same_name a b) refl
    where
      at : (t : Bool) → same_name a b ≡ t
          → word_at l (with_word l list (word_name a) x) (word_name b) ≡ (if t then x else words b)
      at true e = subst (λ n. word_at l (with_word l list (word_name a) x) (word_name n) ≡ x) (same_name-true a b e)
          (stand list (word_name a) x h wide)
      at false e = apart list (word_name a) (word_name b) x h has (words_differ a b e) ∙ shows b has

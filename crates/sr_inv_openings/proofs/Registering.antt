-- Which keys are registered, and with which versions, as the book changes.
use Rattle.sr_base.proofs.Sameness.{same_key-self, same_key-true}
use Rattle.sr_base.specs.Key.{KeyView, same_key}
use Rattle.sr_base.specs.Layout.{LayoutView}
use Rattle.sr_base.specs.declared.ring_word.RingKind.TheVariants.{Close, Learn}
use Rattle.sr_inv_facts.proofs.Books.{field_kept}
use Rattle.sr_inv_facts.proofs.Entries.{find_later, find_mapped, find_more}
use Rattle.sr_inv_facts.proofs.Taking.{IsOld, TakesBook}
use Rattle.sr_inv_facts.specs.InOpenings.{IsRegisteredWith}
use Rattle.sr_machine.specs.Jobs.{judged_book}
use Rattle.sr_machine.specs.Reads.{read_report}
use Rattle.sr_machine.specs.Taking.{is_current_at}
use Rattle.sr_machine.specs.declared.put.Put.{Put}
use Rattle.sr_shadow.proofs.Books.{registered_found}
use Rattle.sr_shadow.proofs.Splits.{entry_for_none, registered_none}
use Rattle.sr_shadow.specs.Book.{entry_for, is_registered, with_changed, with_taken, without_key}
use Rattle.sr_shadow.specs.Entry.{closed, fresh, is_of, settled}
use Rattle.sr_shadow.specs.declared.book.Book.{Book}
use Rattle.sr_shadow.specs.declared.entry.Entry.{Entry}
use Rattle.sr_update.specs.Numbers.{NumberRows, state_of}
use Rattle.sr_update.specs.declared.number_state.NumberState.TheVariants.{Current}
use Rattle.std.proofs.Common.{Bool, List, None, Option, Some, [], ap, cond, false, if◌then◌else◌, inl, inr, is_some, not, option_map, refl, subst, sym, true, true≢false, ℕ, ◌++◌, ◌∙◌, ◌∷◌, ◌≡◌, ◌⊎◌}
use Rattle.std.proofs.lemmas.Option.{same_Some}
use Rattle.sr_inv_facts.proofs.Taking as takes_book

-- ---- entries of a key

pub registered_more : (es more : List Entry) (key : KeyView) (n : ℕ) → IsRegisteredWith es key n → IsRegisteredWith (es ++ more) key n
registered_more es more key n (e, q, r) = (e, find_more (is_of key) es more e q, r)

pub registered_changed : (change : Entry → Entry) (of : KeyView) (es : List Entry) → ((e : Entry) → (change e).key ≡ e.key)
    → ((e : Entry) → (change e).version ≡ e.version) → (key : KeyView) (n : ℕ) → IsRegisteredWith es key n
    → IsRegisteredWith (with_changed change of es) key n
registered_changed change of es keys versions key n (e, q, r) =
    let g : Entry → Entry = λ e. if is_of of e then change e else e in
    (g e, find_mapped (is_of key) g (λ x. ap (same_key key) (field_kept (λ e. e.key) change keys of x)) es ∙ ap (option_map g) q, field_kept (λ e. e.version) change versions of e ∙ r)

-- a key that is new is registered with its version
pub registered_new : (es : List Entry) (key : KeyView) (version taken : ℕ) → is_registered key es ≡ false
    → IsRegisteredWith (es ++ fresh key version taken ∷ []) key version
registered_new es key version taken none =
    (fresh key version taken, find_later (is_of key) es (fresh key version taken ∷ []) (entry_for_none key es none) ∙ ap (λ c. cond c (Some (fresh key version taken)) None) (same_key-self key), refl)

pub registered_some : (key : KeyView) (es : List Entry) → is_registered key es ≡ true → (e : Entry) × (entry_for key es ≡ Some e)
registered_some key es h = at (entry_for key es) refl
  where
    at : (o : Option Entry) → entry_for key es ≡ o → (e : Entry) × (entry_for key es ≡ Some e)
    at None q = absurd (true≢false (sym h ∙ registered_none key es q))
    at (Some e) q = (e, q)

-- taking out another key's entry leaves a key's
pub without_found : (key other : KeyView) → same_key key other ≡ false → (es : List Entry) → entry_for other (without_key key es) ≡ entry_for other es
without_found key other apart [] = refl
without_found key other apart (x ∷ es) = at (is_of key x) (is_of other x) refl refl (without_found key other apart es)
  where
    at : (a b : Bool) → is_of key x ≡ a → is_of other x ≡ b → entry_for other (without_key key es) ≡ entry_for other es
        → entry_for other (cond (not a) (x ∷ without_key key es) (without_key key es)) ≡ cond b (Some x) (entry_for other es)
    at true true q r more =
        absurd (true≢false (sym (ap (λ z. same_key key z) (same_key-true other x.key r) ∙ q) ∙ apart))
    at true false q r more = more
    at false b q r more = ap (λ c. cond c (Some x) (entry_for other (without_key key es))) r ∙ ap (λ o. cond b (Some x) o) more

pub without_registered : (key other : KeyView) → same_key key other ≡ false → (es : List Entry)
    → is_registered other (without_key key es) ≡ is_registered other es
without_registered key other apart es =
    registered_found other (without_key key es) ∙ (ap is_some (without_found key other apart es) ∙ sym (registered_found other es))

-- ---- a put that is made live

pub judged_registered : (withdrawn : Bool) (p : Put) (version : ℕ) (b : Book) (key : KeyView) (n : ℕ) → IsRegisteredWith b.entries key n
    → IsRegisteredWith (judged_book withdrawn p version b).entries key n
judged_registered true p version b key n h = h
judged_registered false p version b key n h =
    registered_changed (settled p.place) p.key (with_taken p.key version b).entries (λ e. refl) (λ e. refl) key n (at (is_registered p.key b.entries))
  where
    at : (c : Bool) → IsRegisteredWith (if c then b.entries else (b.entries ++ fresh p.key version b.taken ∷ [])) key n
    at true = h
    at false = registered_more b.entries (fresh p.key version b.taken ∷ []) key n h

-- ---- a word that is taken

module _ (l : LayoutView) (numbers : NumberRows) (ended : Option KeyView) (x : ℕ) (b : Book) where
  pub take_registered : (d : Book) → TakesBook l numbers ended x b d → (key : KeyView) (n : ℕ) → IsRegisteredWith b.entries key n
      → IsRegisteredWith d.entries key n
  take_registered d (takes_book.same_book u) key n h = h
  take_registered d (takes_book.learned_book w q r s f) key n h = registered_more b.entries (fresh w.key w.version b.taken ∷ []) key n h
  take_registered d (takes_book.closed_book w q r s) key n h = registered_changed closed w.key b.entries (λ e. refl) (λ e. refl) key n h

  -- a key that is taken to be learned is registered with that version, if it wasn't registered
  pub learn_registers : (d : Book) → TakesBook l numbers ended x b d → (key : KeyView) (n : ℕ)
      → read_report l x ≡ Some (record { kind = Learn; version = n; key = key }) → state_of key.vip n numbers ≡ Some Current
      → IsRegisteredWith d.entries key n ⊎ (is_registered key b.entries ≡ true)
  learn_registers d (takes_book.same_book u) key n read current =
      by (u (record { kind = Learn; version = n; key = key }) read)
    where
      by : IsOld numbers b.entries (record { kind = Learn; version = n; key = key }) → IsRegisteredWith b.entries key n ⊎ (is_registered key b.entries ≡ true)
      by (inl h) = inr h
      by (inr h) = absurd (true≢false (sym (ap is_current_at current) ∙ h))
  learn_registers d (takes_book.learned_book w q r s f) key n read current =
      let is : w ≡ record { kind = Learn; version = n; key = key } = same_Some w (record { kind = Learn; version = n; key = key }) (sym q ∙ read) in
      inl (subst (λ z. IsRegisteredWith (b.entries ++ fresh w.key w.version b.taken ∷ []) z.key z.version) is (registered_new b.entries w.key w.version b.taken f))
  learn_registers d (takes_book.closed_book w q r s) key n read current =
      let is : w ≡ record { kind = Learn; version = n; key = key } = same_Some w (record { kind = Learn; version = n; key = key }) (sym q ∙ read) in
      absurd (apart (sym r ∙ ap (λ z. z.kind) is))
    where
      apart : Close ≡ Learn → ⊥
      apart z = cc

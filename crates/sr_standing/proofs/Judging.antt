-- A put that is made live: what the book is then.
use Rattle.std.proofs.Common.{◌≡◌, ℕ, Bool, true, false, cond, ◌||◌, List, [], ◌∷◌, ◌++◌, IfSome, if◌then◌else◌, Some, None, Option, sym, refl, ap, ◌∙◌, subst, true≢false, arith}
use Rattle.std.proofs.lemmas.Bool.Decides.{nat_tests}
use Rattle.std.proofs.lemmas.Option.{same_Some}
use Rattle.std.specs.List.{AllByRecursion}
use Rattle.sr_base.proofs.Sameness.{same_key-self}
use Rattle.sr_base.specs.Key.{KeyView, same_key}
use Rattle.sr_base.specs.Place.{same_place}
use Rattle.sr_base.specs.declared.place.Place.{Place}
use Rattle.sr_base.specs.declared.place.Place.TheVariants.{Slot, Row}
use Rattle.sr_inv_facts.proofs.Entries.{find_later}
use Rattle.sr_inv_facts.proofs.Lists.{all_back, all_both, all_front, all_more}
use Rattle.sr_inv_facts.specs.InJobs.{StandsAt, leaving_by}
use Rattle.sr_machine.specs.declared.put.Aim.{Aim}
use Rattle.sr_machine.specs.declared.put.Aim.TheVariants as aim
use Rattle.sr_machine.specs.declared.put.Put.{Put}
use Rattle.sr_shadow.proofs.Books.{distinct_more}
use Rattle.sr_shadow.proofs.Places.{holder_more, holder_settled, once_more, once_settled}
use Rattle.sr_shadow.proofs.Splits.{Split, split, changed_split, entry_for_none, registered_none}
use Rattle.sr_shadow.specs.Book.{DistinctKeys, HeldOnce, entry_for, holder_of, is_registered, with_changed, with_settled, with_taken}
use Rattle.sr_shadow.specs.Entry.{fresh, is_of, settled}
use Rattle.sr_shadow.specs.declared.book.Book.{Book}
use Rattle.sr_shadow.specs.declared.entry.Entry.{Entry}
use Rattle.sr_standing.specs.Standing.{AimStands, PutStands}

pub same_place-sym : (a b : Place) → same_place a b ≡ same_place b a
same_place-sym (Slot way bucket cell) (Slot v g h) = grind (arith, nat_tests)
same_place-sym (Slot way bucket cell) (Row row) = refl
same_place-sym (Row row) (Slot way bucket cell) = refl
same_place-sym (Row row) (Row other) = grind (arith, nat_tests)

pub registered_some : (key : KeyView) (es : List Entry) (e : Entry) → entry_for key es ≡ Some e → is_registered key es ≡ true
registered_some key es e q = at (is_registered key es) refl
  where
    at : (b : Bool) → is_registered key es ≡ b → b ≡ true
    at true r = refl
    at false r = absurd (none_some (sym (entry_for_none key es r) ∙ q))
      where
        none_some : None ≡ Some e → ⊥
        none_some t = cc

none_of : (key : KeyView) (es : List Entry) → is_registered key es ≡ false → AllByRecursion (λ e. is_of key e ≡ false) es
none_of key [] h = tt
none_of key (e ∷ es) h = at (is_of key e) refl h (none_of key es)
  where
    at : (b : Bool) → is_of key e ≡ b → (b || is_registered key es) ≡ false
        → (is_registered key es ≡ false → AllByRecursion (λ e. is_of key e ≡ false) es)
        → AllByRecursion (λ e. is_of key e ≡ false) (e ∷ es)
    at true q r more = cc
    at false q r more = (q, more r)

-- a key that is to be made live has an entry: the one that it had, or a new one
record Entered (es : List Entry) (p : Put) : Type 0 where
  entry : Entry
  found : entry_for p.key es ≡ Some entry
  from : entry.place ≡ leaving_by p.key p p.aim
  distinct : DistinctKeys es
  once : HeldOnce es
  free : holder_of p.place es ≡ None
  alone : AllByRecursion (λ e. e.also ≡ None) es

-- the book once a put is made live
pub record JudgedBook (es fs : List Entry) (p : Put) : Type 0 where
  pub once : HeldOnce fs
  pub holders : (q : Place) → same_place p.place q ≡ false → holder_of q fs ≡ holder_of q es
  pub stands : StandsAt p.key p.place fs
  pub also : AllByRecursion (λ e. e.also ≡ leaving_by e.key p p.aim) fs

leaves_other : (key : KeyView) (p : Put) (a : Aim) → same_key p.key key ≡ false → leaving_by key p a ≡ None
leaves_other key p aim.Pending e = refl
leaves_other key p (aim.Held h) e = refl
leaves_other key p (aim.Move from planned) e = ap (λ b. if b then Some from else None) e

module _ (p : Put) (gs : List Entry) (g : Entered gs p) where
  judged_split : Split p.key gs g.entry → JudgedBook gs (with_changed (settled p.place) p.key gs) p
  judged_split s =
      let e = g.entry in
      let is : with_changed (settled p.place) p.key gs ≡ s.front ++ settled p.place e ∷ s.back =
      ap (with_changed (settled p.place) p.key) s.is ∙ changed_split (settled p.place) p.key s.front s.back e s.own s.before s.after in
      let o : HeldOnce (s.front ++ e ∷ s.back) = subst HeldOnce s.is g.once in
      let n : AllByRecursion (λ e. e.also ≡ None) (s.front ++ e ∷ s.back) = subst (AllByRecursion (λ e. e.also ≡ None)) s.is g.alone in
      let m : e.also ≡ None = (all_back (λ e. e.also ≡ None) s.front (e ∷ s.back) n).0 in
      let f : holder_of p.place (s.front ++ e ∷ s.back) ≡ None = ap (holder_of p.place) (sym s.is) ∙ g.free in
      let same : same_key p.key e.key ≡ true = ap (same_key p.key) s.own ∙ same_key-self p.key in
      record {
        once = subst HeldOnce (sym is) (once_settled p.place s.front s.back e o m f);
        holders = λ q d.
            ap (holder_of q) is
            ∙ (holder_settled p.place s.front s.back e o m f q
            ∙ (ap (λ b. cond b (Some e.key) (holder_of q (s.front ++ e ∷ s.back))) (same_place-sym q p.place ∙ d) ∙ ap (holder_of q) (sym s.is)));
        stands =
            (settled p.place e, ap (entry_for p.key) is ∙ (find_later (is_of p.key) s.front (settled p.place e ∷ s.back) (entry_for_none p.key s.front s.before) ∙ ap (λ b. cond b (Some (settled p.place e)) (entry_for p.key s.back)) same), refl);
        also = subst (AllByRecursion (λ e. e.also ≡ leaving_by e.key p p.aim)) (sym is) (all_more (λ e. e.also ≡ leaving_by e.key p p.aim) s.front (settled p.place e ∷ s.back) (all_both (λ e. e.also ≡ None) (λ e. is_of p.key e ≡ false) (λ e. e.also ≡ leaving_by e.key p p.aim) (λ e a d. a ∙ sym (leaves_other e.key p p.aim d)) s.front (all_front (λ e. e.also ≡ None) s.front (e ∷ s.back) n) (none_of p.key s.front s.before))
            (g.from ∙ ap (λ k. leaving_by k p p.aim) (sym s.own), all_both (λ e. e.also ≡ None) (λ e. is_of p.key e ≡ false) (λ e. e.also ≡ leaving_by e.key p p.aim) (λ e a d. a ∙ sym (leaves_other e.key p p.aim d)) s.back (all_back (λ e. e.also ≡ None) s.front (e ∷ s.back) n).1 (none_of p.key s.back s.after)));
      }

module _ (b : Book) (p : Put) (m : PutStands b.entries p) (d : DistinctKeys b.entries) (once : HeldOnce b.entries) (alone : AllByRecursion (λ e. e.also ≡ None) b.entries) where
  own_from : (a : Aim) (e : Entry) → AimStands b.entries p.key a → entry_for p.key b.entries ≡ Some e → e.place ≡ leaving_by p.key p a
  own_from aim.Pending e n t = subst (λ o. IfSome o (λ e. e.place ≡ None)) t n
  own_from (aim.Held h) e n t = subst (λ o. IfSome o (λ e. e.place ≡ None)) t n
  own_from (aim.Move from planned) e (f, q, r) t =
      ap (λ z. z.place) (same_Some e f (sym t ∙ q)) ∙ (r ∙ ap (λ c. if c then Some from else None) (sym (same_key-self p.key)))

  new_from : (a : Aim) → AimStands b.entries p.key a → entry_for p.key b.entries ≡ None → None ≡ leaving_by p.key p a
  new_from aim.Pending n t = refl
  new_from (aim.Held h) n t = refl
  new_from (aim.Move from planned) (f, q, r) t = absurd cc

  pub judged_book_is : (version : ℕ) → JudgedBook b.entries (with_settled p.key p.place (with_taken p.key version b)).entries p
  judged_book_is version = at (is_registered p.key b.entries) refl
    where
      known : (o : Option Entry) → entry_for p.key b.entries ≡ o → is_registered p.key b.entries ≡ true → Entered b.entries p
      known None q r = absurd (true≢false (sym r ∙ registered_none p.key b.entries q))
      known (Some e) q r = record {
        entry = e;
        found = q;
        from = own_from p.aim e m.aim q;
        distinct = d;
        once = once;
        free = m.free;
        alone = alone;
      }

      new : is_registered p.key b.entries ≡ false → Entered (b.entries ++ fresh p.key version b.taken ∷ []) p
      new r = record {
        entry = fresh p.key version b.taken;
        found =
            find_later (is_of p.key) b.entries (fresh p.key version b.taken ∷ []) (entry_for_none p.key b.entries r) ∙ ap (λ c. cond c (Some (fresh p.key version b.taken)) None) (same_key-self p.key);
        from = new_from p.aim m.aim (entry_for_none p.key b.entries r);
        distinct = distinct_more b.entries (fresh p.key version b.taken) r d;
        once = once_more b.entries (fresh p.key version b.taken) refl refl once;
        free = holder_more p.place b.entries (fresh p.key version b.taken) refl refl ∙ m.free;
        alone = all_more (λ e. e.also ≡ None) b.entries (fresh p.key version b.taken ∷ []) alone (refl, tt);
      }

      with_holders : (gs : List Entry) → ((q : Place) → holder_of q gs ≡ holder_of q b.entries) → Entered gs p
          → JudgedBook b.entries (with_changed (settled p.place) p.key gs) p
      with_holders gs h g =
          let j = judged_split p gs g (split p.key gs g.entry g.distinct g.found) in
          record { once = j.once; holders = λ q e. j.holders q e ∙ h q; stands = j.stands; also = j.also }

      at : (r : Bool) → is_registered p.key b.entries ≡ r
          → JudgedBook b.entries (with_changed (settled p.place) p.key (if r then b.entries else (b.entries ++ fresh p.key version b.taken ∷ []))) p
      at true r = with_holders b.entries (λ q. refl) (known (entry_for p.key b.entries) refl r)
      at false r =
          with_holders (b.entries ++ fresh p.key version b.taken ∷ []) (λ q. holder_more q b.entries (fresh p.key version b.taken) refl refl) (new r)

use Rattle.std.proofs.Common.{refl, ap, subst, sym, ◌∙◌, false, ◌≡◌, arith}
use Rattle.sr_base.specs.Key.{IsKey}
use Rattle.sr_shadow.specs.Book.{is_registered}
use Rattle.sr_shadow.specs.declared.entry.Entry.{Entry}
use Rattle.sr_shadow.proofs.Keeping.{few_entries, indexed_more}
use Rattle.sr_shadow.proofs.indexed_book.IndexedBook.enter.Goals as goal

pub join-requires-2 : goal.join-requires-2
join-requires-2 c = let h = c.self.invariant.0 in (c.self.inside.roll.entries, h.counted, few_entries c.self.inside.roll.entries c.self.inside.roll.taken h.book)

pub join-requires-3-clause-few : goal.join-requires-3-clause-few
join-requires-3-clause-few c = let h = c.self.invariant.0 in (c.self.inside.roll.entries, h.first, few_entries c.self.inside.roll.entries c.self.inside.roll.taken h.book)

pub join-requires-4-clause-few : goal.join-requires-4-clause-few
join-requires-4-clause-few c = let h = c.self.invariant.0 in (c.self.inside.roll.entries, h.second, few_entries c.self.inside.roll.entries c.self.inside.roll.taken h.book)

pub invariant_of-self : goal.invariant_of-self
invariant_of-self c =
    let h = c.self.invariant.0 in
    let es = c.self.inside.roll.entries in
    let made = c.new_entry-entry.ensures in
    let none : is_registered c.args.key es ≡ false = ap (λ s. is_registered c.args.key s.book.entries) c.self.view_is ∙ c.requires.new in (
      indexed_more c.self.inside.layout es _ c.self.inside.roll.taken _ _ _ _ _ _ _ _ _ _ _ c.push.ensures.entries c.push.ensures.taken (subst (λ (e : Entry). IsKey e.key) (sym made) c.key_ranges.ensures) (subst (λ (e : Entry). is_registered e.key es ≡ false) (sym made) none) (ap (λ (e : Entry). e.taken) made ∙ c.taken.ensures) (ap (λ (e : Entry). e.place) made) (ap (λ (e : Entry). e.also) made)
          (omega (arith, ap (λ s. s.book.taken) c.self.view_is, c.requires.few))
          (c.join.ensures.more es _ (ap (λ (e : Entry). e.key) made) refl none h.numbered) (c.join-2.ensures es h.counted) (c.join-3.ensures.more es h.first) (c.join-4.ensures.more es h.second) h,
      c.push.ensures.lives ∙ c.self.invariant.1,
    )

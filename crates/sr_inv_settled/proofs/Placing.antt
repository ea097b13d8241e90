-- Once nothing is left to do, each open connection has a place, or there is none for it.
use Rattle.std.proofs.Common.{◌≡◌, ℕ, ◌<◌, ◌≤◌, ◌⊎◌, inl, inr, ◌||◌, not, nat_lt, true, List, [], ◌∷◌, length, is_some, is_none, Some, None, Option, option_map, if◌then◌else◌, sym, refl, ap, ◌∙◌, subst, arith}
use Rattle.std.proofs.lemmas.Bool.{cases_lt}
use Rattle.std.specs.List.{list_all}
use Rattle.std.specs.Option.{option_or}
use Rattle.sr_base.specs.Key.{KeyView}
use Rattle.sr_base.specs.declared.place.Place.{Place}
use Rattle.sr_base.specs.declared.shape.Shape.{Shape}
use Rattle.sr_inv_causes.proofs.Told.{group_full}
use Rattle.sr_inv_causes.proofs.Refusals.{or_first}
use Rattle.sr_inv_facts.proofs.Books.{found_key}
use Rattle.sr_inv_facts.proofs.Pipes.{pipe_there}
use Rattle.sr_inv_facts.specs.InCauses.{endings_in, setup_of}
use Rattle.sr_inv_facts.specs.InJobs.{IsGroupHeld, book_taking}
use Rattle.sr_inv_facts.specs.InOpenings.{IsReported}
use Rattle.sr_inv_facts.specs.Invariant.{Invariant}
use Rattle.sr_inv_facts.specs.Readings.{In, SomeLearn, ring_words}
use Rattle.sr_inv_final.proofs.Resting.{all_taken, zero_reported}
use Rattle.sr_inv_final.specs.Rest.{AreEmpty}
use Rattle.sr_inv_jobs.proofs.JobBegins.{group_held}
use Rattle.sr_inv_matching.proofs.Members.{in_found}
use Rattle.sr_inv_matching.proofs.Saying.{at_held, holder_found}
use Rattle.sr_inv_order.proofs.Placing.{taken_at}
use Rattle.sr_inv_order.proofs.Rising.{and_true}
use Rattle.sr_inv_settled.proofs.Standing.{HasPlaced, stands}
use Rattle.sr_inv_settled.specs.Quiet.{HasNothingToDo}
use Rattle.sr_inv_table.proofs.Ringing.{rings}
use Rattle.sr_inv_verdicts.proofs.MoreLines.{or_second}
use Rattle.sr_law.specs.Opening.{opening}
use Rattle.sr_law.specs.Rows.{is_group_full}
use Rattle.sr_law.specs.Settled.{has_place, places_settled, standing}
use Rattle.sr_law.specs.Ticks.{key_of}
use Rattle.sr_law.specs.declared.line.Line.{Line}
use Rattle.sr_law.specs.declared.opening.Opening.{Opening}
use Rattle.sr_machine.specs.Core.{Core, printed}
use Rattle.sr_machine.specs.Deciding.{ring_count}
use Rattle.sr_law.specs.Taken.{taken}
use Rattle.sr_machine.specs.Starting.{first_put, pending_put, planned_put, with_job}
use Rattle.sr_machine.specs.declared.draw.Draw.TheVariants as draw
use Rattle.sr_machine.specs.declared.job.Job.TheVariants as job
use Rattle.sr_machine.specs.declared.put.Aim.TheVariants as aim
use Rattle.sr_machine.specs.declared.put.Put.{Put}
use Rattle.sr_shadow.proofs.Splits.{registered_none}
use Rattle.sr_shadow.specs.Book.{entry_for}
use Rattle.sr_shadow.specs.Entry.{is_of, is_pending}
use Rattle.sr_shadow.specs.declared.entry.Entry.{Entry}

-- ---- a key without a plan

-- where no pending key has a put, the group of each is held
no_puts : (shape : Shape) (es some : List Entry) → first_put shape es some ≡ None → (e : Entry) → In e some → is_pending e ≡ true
    → IsGroupHeld shape es e.key
no_puts shape es [] n e i p = absurd i
no_puts shape es (x ∷ some) n e i p = at (pending_put shape es x) refl n i (λ h j. no_puts shape es some h e j p)
  where
    at : (o : Option Put) → pending_put shape es x ≡ o → option_or o (first_put shape es some) ≡ None → In e (x ∷ some)
        → (first_put shape es some ≡ None → In e some → IsGroupHeld shape es e.key)
        → IsGroupHeld shape es e.key
    at (Some q) r h i more = cc
    at None r h (inr i) more = more h i
    at None r h (inl same) more =
        group_held shape es e.key aim.Pending
        (subst (λ b. (if b then planned_put shape es e.key aim.Pending else None) ≡ None) p (subst (λ z. pending_put shape es z ≡ None) (sym same) r))

-- ---- rings that are empty

module _ (s : Core) (i : Invariant s) (none : AreEmpty s) where
  emptied : (p cell : ℕ) → ring_words s.words p cell ≡ 0
  emptied p cell = at (cases_lt p s.config.layout.shape.pipes)
    where
      at : (p < s.config.layout.shape.pipes) ⊎ (s.config.layout.shape.pipes ≤ p) → ring_words s.words p cell ≡ 0
      at (inl h) =
          let there = pipe_there s.pipes p (subst (λ m. p < m) (sym i.shape.pipes.count) h) in
          let taken = (ring_count s.controller.rings p).words in
          let whole = all_taken s.config.layout (ring_words s.words p) taken there.0.pushed (i.words.ring p there.0 there.1) (none p h) in
          (rings s i p there.0 there.1).others cell (λ n low high. absurd (omega (arith, whole, low, high)))
      at (inr h) = i.matching.matching.beyond p cell (inl h)

  pub none_learned : (key : KeyView) (version : ℕ) → SomeLearn s.config.layout (ring_words s.words) key version → ⊥
  none_learned key version (p, cell, read) = zero_reported s.config.layout (ring_words s.words p cell) _ (emptied p cell) read

-- ---- an open connection

module _ (s : Core) (i : Invariant s) (h : HasNothingToDo s) where
  abbrev pub es : List Entry
  es = s.controller.book.entries

  -- it is registered
  pub registered : (key : KeyView) (o : Opening) → opening (printed s) key ≡ Some o → (e : Entry) × (entry_for key es ≡ Some e)
  registered key o q = at (entry_for key es) refl
    where
      at : (e : Option Entry) → entry_for key es ≡ e → (e : Entry) × (entry_for key es ≡ Some e)
      at (Some e) r = (e, r)
      at None r =
          let told : IsReported s.config.layout (ring_words s.words) s.controller.named key (Some o) =
          subst (IsReported s.config.layout (ring_words s.words) s.controller.named key) q (i.openings.openings.reported key (registered_none key es r)) in
          absurd (none_learned s i h.empty key o.version told.0)

  -- by the lines a place is had by its holder in the book
  pub held_by : (place : Place) → taken (printed s) place ≡ book_taking es place
  held_by place = taken_at s i job.Free h.free place

  -- so the entry that stands there was placed by them
  pub placed_by_lines : (key : KeyView) (e : Entry) (place : Place) → entry_for key es ≡ Some e → e.place ≡ Some place
      → HasPlaced (printed s) place key
  placed_by_lines key e place q r =
      let own : key ≡ e.key = found_key key es e q in
      held_by place
      ∙ (ap (λ (o : Option Entry). option_map (λ (k : KeyView). record { key = k; placed = true }) (option_map (λ (e : Entry). e.key) o)) (holder_found es key place e i.shape.book.distinct i.jobs.holds.once q (at_held place e r))
      ∙ ap (λ (k : KeyView). Some (record { key = k; placed = true })) (sym own))

  -- the group of a pending key is full
  pub pending_full : (key : KeyView) (e : Entry) → entry_for key es ≡ Some e → e.place ≡ None
      → is_group_full s.config.layout.shape (printed s) key ≡ true
  pending_full key e q r =
      let none = none_put (first_put s.config.layout.shape es es) h.none.pending in
      let held = no_puts s.config.layout.shape es es none e (in_found (is_of key) es e q) (ap is_none r) in
      subst (λ k. is_group_full s.config.layout.shape (printed s) k ≡ true) (sym (found_key key es e q))
      (group_full s i job.Free h.free (λ place. refl) e.key held)
    where
      none_put : (o : Option Put) → option_map (λ p. with_job s.controller (job.Draw (draw.Reserved p))) o ≡ None → o ≡ None
      none_put None e = refl
      none_put (Some p) e = cc

  -- a key of a line
  key_placed : (key : KeyView) → has_place (setup_of s.config) (printed s) (Some key) ≡ true
  key_placed key = at (opening (printed s) key) refl
    where
      stood : (e : Entry) → entry_for key es ≡ Some e → (o : Option Place) → e.place ≡ o
          → (nat_lt 0 (length (standing key [] (printed s))) || is_group_full s.config.layout.shape (printed s) key) ≡ true
      stood e q None r = or_second _ _ (pending_full key e q r)
      stood e q (Some place) r =
          or_first _ _ (stands (setup_of s.config) (endings_in s.pipes (printed s)) (printed s) i.causes.causes.clauses place key [] (placed_by_lines key e place q r) refl)

      at : (o : Option Opening) → opening (printed s) key ≡ o
          → (not (is_some (opening (printed s) key)) || (nat_lt 0 (length (standing key [] (printed s))) || is_group_full s.config.layout.shape (printed s) key)) ≡ true
      at None q = or_first _ _ (ap (λ o. not (is_some o)) q)
      at (Some o) q = let r = registered key o q in or_second _ _ (stood r.0 r.1 r.0.place refl)

  each_placed : (lines : List Line) → list_all (λ line. has_place (setup_of s.config) (printed s) (key_of line)) lines ≡ true
  each_placed [] = refl
  each_placed (l ∷ lines) = and_true _ _ (at (key_of l)) (each_placed lines)
    where
      at : (o : Option KeyView) → has_place (setup_of s.config) (printed s) o ≡ true
      at None = refl
      at (Some key) = key_placed key

  pub all_placed : places_settled (setup_of s.config) (printed s) ≡ true
  all_placed = each_placed (printed s)

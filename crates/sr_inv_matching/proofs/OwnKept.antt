-- Only an entry's own places speak live to its key, where it is outside the full-key table.
use Rattle.std.proofs.Common.{◌≡◌, ℕ, Bool, true, false, true≢false, not, ◌&&◌, ◌||◌, ◌⊎◌, ◌==◌, List, [], ◌∷◌, ◌++◌, if◌then◌else◌, unwrap_or, is_some, option_map, Some, None, Option, sym, refl, ap, ◌∙◌, subst, inl, inr, arith}
use Rattle.std.proofs.lemmas.Bool.{or_parts}
use Rattle.std.proofs.lemmas.Bool.Decides.{nat_tests}
use Rattle.std.proofs.lemmas.Option.{same_Some}
use Rattle.std.specs.List.{AllByRecursion, list_any}
use Rattle.sr_base.proofs.Sameness.{same_key-self, same_key-true, same_place-self, same_place-true}
use Rattle.sr_base.specs.Key.{KeyView, same_key}
use Rattle.sr_base.specs.Layout.{LayoutView}
use Rattle.sr_base.specs.Place.{same_place}
use Rattle.sr_base.specs.declared.place.Place.{Place}
use Rattle.sr_base.specs.declared.place.Place.TheVariants.{Row, Slot}
use Rattle.sr_base.specs.declared.shape.Shape.{Shape}
use Rattle.sr_hash.specs.Clash.{clashes}
use Rattle.sr_hash.specs.Uses.{is_place_of}
use Rattle.sr_inv_facts.proofs.Books.{changed_all}
use Rattle.sr_inv_facts.proofs.Lists.{all_both, all_filtered, all_in, all_more, all_then, all_to_in, of_some}
use Rattle.sr_inv_facts.proofs.Ranges.{PutFits, put_fits, version_below}
use Rattle.sr_inv_facts.proofs.Taking.{TakesBook, closed_book, learned_book, same_book, takes}
use Rattle.sr_inv_facts.specs.Fitted.{IsPacket}
use Rattle.sr_inv_facts.specs.InJobs.{AimHolds, JobHolds, PutHolds, leaving, seen}
use Rattle.sr_inv_facts.specs.InMatching.{IsClearPut, IsUnspoken, OwnAreFound, OwnSpeak}
use Rattle.sr_inv_facts.specs.InShape.{EntryFits, PlaceFits}
use Rattle.sr_inv_facts.specs.InWords.{job_word, put_word}
use Rattle.sr_inv_facts.specs.Invariant.{Invariant}
use Rattle.sr_inv_facts.specs.Laws.{OpensWith}
use Rattle.sr_inv_facts.specs.Doing.{OnPut}
use Rattle.sr_inv_facts.specs.Readings.{IfLearn, In, Speaks, SpeaksLive, entry_words}
use Rattle.sr_machine.specs.declared.why.Why.{Why}
use Rattle.sr_shadow.proofs.Finding.{found_passes}
use Rattle.sr_inv_matching.proofs.Members.{any_in, in_found, in_front, in_mapped, in_own, in_parts, member_other}
use Rattle.sr_inv_matching.proofs.Saying.{empty_silent, speaks_live, live_speaks, reserved_not_live}
use Rattle.sr_inv_matching.proofs.Stepping.{stage_entries}
use Rattle.sr_inv_matching.proofs.UnmatchedKept.{LeavesEntries}
use Rattle.sr_machine.specs.Core.{Core, printed}
use Rattle.sr_machine.specs.Deciding.{dead_reply, is_contested, is_withdrawn, rivals_of, version_for}
use Rattle.sr_machine.specs.Jobs.{book_next, job_op, judged_book}
use Rattle.sr_machine.specs.Keeping.{AfterJob, AfterStage, Keeps}
use Rattle.sr_machine.specs.Opening.{opening_controller}
use Rattle.sr_machine.specs.Ops.{op_answer, op_name}
use Rattle.sr_machine.specs.Pipe.{pipe_op}
use Rattle.sr_machine.specs.Reads.{live_word, read_flag, reserved_word, says, stands_for}
use Rattle.sr_machine.specs.Stores.{judged_word}
use Rattle.sr_machine.specs.Taking.{ended_by}
use Rattle.sr_machine.specs.declared.job.Job.{Job}
use Rattle.sr_machine.specs.declared.op.Op.{Op}
use Rattle.sr_machine.specs.declared.pipe_view.PipeView.{PipeView}
use Rattle.sr_machine.specs.declared.put.Aim.{Aim}
use Rattle.sr_machine.specs.declared.put.Put.{Put}
use Rattle.sr_machine.specs.declared.stage.Stage.{Stage}
use Rattle.sr_shadow.specs.Book.{entries_with, entry_for, holder_entry, is_registered, is_rival, with_changed}
use Rattle.sr_shadow.specs.Entry.{closed, fresh, holds, is_at, is_of, is_outside, is_row, is_slot, left_other, settled, swept}
use Rattle.sr_shadow.specs.Plan.{clashes_at, is_clear, is_mistaken}
use Rattle.sr_shadow.specs.declared.book.Book.{Book}
use Rattle.sr_shadow.specs.declared.entry.Entry.{Entry}
use Rattle.sr_machine.specs.declared.draw.Draw.TheVariants as draw
use Rattle.sr_machine.specs.declared.job.Job.TheVariants as job
use Rattle.sr_machine.specs.declared.name.Name.TheVariants as name
use Rattle.sr_machine.specs.declared.put.Aim.TheVariants as aim
use Rattle.sr_machine.specs.declared.store.Store.TheVariants as store
use Rattle.sr_machine.specs.declared.why.Why.TheVariants as why

-- ---- keys that are taken for one another

-- in a cell of both their buckets, the one's entry is taken for the other's just where they clash
stands_clash : (l : LayoutView) (way bucket cell : ℕ) (a b : KeyView) → stands_for l (Slot way bucket cell) a b ≡ true
    → is_place_of l.shape a (Slot way bucket cell) ≡ true → is_place_of l.shape b (Slot way bucket cell) ≡ true → clashes l.shape way a b ≡ true
stands_clash l way bucket cell a b t p q = grind (arith, nat_tests)

ways_of : (shape : Shape) (way bucket cell : ℕ) (key : KeyView) → is_place_of shape key (Slot way bucket cell) ≡ true → ((way == 1) || (way == 2)) ≡ true
ways_of shape way bucket cell key h = grind (arith, nat_tests)

clash_turned : (shape : Shape) (way : ℕ) (a b : KeyView) → clashes shape way a b ≡ true → clashes shape way b a ≡ true
clash_turned shape way a b h = grind (arith, nat_tests)

at_is : (place : Place) (o : Option Place) → is_at place o ≡ true → o ≡ Some place
at_is place None e = cc
at_is place (Some q) e = ap Some (sym (same_place-true place q e))

place_turned : (a b : Place) → same_place a b ≡ false → same_place b a ≡ false
place_turned a b h = at (same_place b a) refl
  where
    at : (t : Bool) → same_place b a ≡ t → t ≡ false
    at false q = refl
    at true q = absurd (true≢false (sym (same_place-self a) ∙ (ap (same_place a) (sym (same_place-true b a q)) ∙ h)))

-- an entry that is about to leave no place holds the one where it stands alone
held_alone : (place : Place) (e : Entry) → e.also ≡ None → holds place e ≡ true → is_at place e.place ≡ true
held_alone place e none h = by (is_at place e.place) (ap (λ o. is_at place e.place || is_at place o) (sym none) ∙ h)
  where
    by : (b : Bool) → (b || false) ≡ true → b ≡ true
    by true t = refl
    by false t = t

module _ (s : Core) (i : Invariant s) where
  abbrev l : LayoutView
  l = s.config.layout

  abbrev es : List Entry
  es = s.controller.book.entries

  abbrev w : Place → ℕ
  w = entry_words s.words

  stage_kept : (p : ℕ) (v : PipeView) (a : Stage) (o : Option Op) → pipe_op l v a ≡ o → AfterStage OwnAreFound s p v a o
  stage_kept p v a None g = tt
  stage_kept p v a (Some o) g = subst (λ z. AllByRecursion (OwnSpeak l z) es) (sym (stage_entries s.words l v a o g)) i.matching.matching.own

  abbrev Own : Entry → Type 0
  Own = OwnSpeak l w

  frame : (j : Job) (o : Option Op) → LeavesEntries s o → ((x : ℕ) → AllByRecursion Own (book_next s.config s.controller j x).entries)
      → AfterJob OwnAreFound s j o
  frame j None same h = tt
  frame j (Some o) same h =
      let x = op_answer o (s.words (op_name o)) in
      subst (λ z. AllByRecursion (OwnSpeak l z) (book_next s.config s.controller j x).entries) (sym same) (h x)

  -- a key that is learned now has no place that speaks live to it
  take_own : (ended : Option KeyView) (pipe cell : ℕ) (b d : Book) → AllByRecursion Own b.entries
      → TakesBook l s.controller.numbers ended (s.words (name.Ring pipe cell)) b d → AllByRecursion Own d.entries
  take_own ended pipe cell b d h (same_book u) = h
  take_own ended pipe cell b d h (learned_book r read kind c f) =
      all_more Own b.entries (fresh r.key r.version b.taken ∷ []) h ((λ out place own sp. absurd (unspoken place own sp)), tt)
    where
      unspoken : IsUnspoken l w r.key
      unspoken = subst (λ k. IfLearn k (IsUnspoken l w r.key)) kind (i.matching.matching.unlearned pipe cell r read)
  take_own ended pipe cell b d h (closed_book r read kind c) = changed_all Own Own closed r.key (λ e q g. g) (λ e q g. g) b.entries h

  -- a place is rewritten by what speaks live to none of the others
  abbrev after : Place → ℕ → Place → ℕ
  after at x place = if same_place at place then x else w place

  rewritten_own : (at : Place) (x : ℕ) (e : Entry) → (SpeaksLive (says l at e.key x) → is_place_of l.shape e.key at ≡ true → is_outside e ≡ true → holds at e ≡ true)
      → Own e → OwnSpeak l (after at x) e
  rewritten_own at x e turn h out place own = by (same_place at place) refl
    where
      by : (b : Bool) → same_place at place ≡ b → SpeaksLive (says l place e.key (if b then x else w place)) → holds place e ≡ true
      by false t sp = h out place own sp
      by true t sp =
          let q : at ≡ place = same_place-true at place t in
          subst (λ z. holds z e ≡ true) q (turn (subst (λ z. SpeaksLive (says l z e.key x)) (sym q) sp) (subst (λ z. is_place_of l.shape e.key z ≡ true) (sym q) own) out)

  silent_zero : (at : Place) (key : KeyView) → SpeaksLive (says l at key 0) → ⊥
  silent_zero at key sp = empty_silent l at key 0 refl (speaks_live (says l at key 0) sp)

  emptied_all : (at : Place) → AllByRecursion (OwnSpeak l (after at 0)) es
  emptied_all at =
      all_then Own (OwnSpeak l (after at 0)) (λ e h. rewritten_own at 0 e (λ sp own out. absurd (silent_zero at e.key sp)) h) es i.matching.matching.own

  holds_of : (j : Job) → s.controller.job ≡ j → JobHolds s.config (seen s.controller) (printed s) j
  holds_of j e = subst (JobHolds s.config (seen s.controller) (printed s)) e i.jobs.holds.stands

  leaves_of : (j : Job) → s.controller.job ≡ j → AllByRecursion (λ e. e.also ≡ leaving j e.key) es
  leaves_of j e = subst (λ m. AllByRecursion (λ n. n.also ≡ leaving m n.key) es) e i.jobs.holds.also

  fits_of : (q : Put) → PutHolds l.shape es s.controller.held q → PutFits l q
  fits_of q put = put_fits s.config i.shape.config.layout s.controller i.shape.book i.shape.controller q put

  -- a place is emptied, and its key's entry leaves it
  left_own : (key : KeyView) (at : Place) (y : Why) → s.controller.job ≡ job.Store (store.Empty key at y)
      → AllByRecursion (OwnSpeak l (after at 0)) (with_changed left_other key es)
  left_own key at y e =
      changed_all (λ n. Own n × (n.also ≡ leaving (job.Store (store.Empty key at y)) n.key)) (OwnSpeak l (after at 0)) left_other key
      (λ n t h. leaves n h) (λ n t h. rewritten_own at 0 n (λ sp own out. absurd (silent_zero at n.key sp)) h.0) es
      (all_both Own (λ n. n.also ≡ leaving (job.Store (store.Empty key at y)) n.key) (λ n. Own n × (n.also ≡ leaving (job.Store (store.Empty key at y)) n.key)) (λ n a b. (a, b)) es
      i.matching.matching.own (leaves_of (job.Store (store.Empty key at y)) e))
    where
      only_at : (n : KeyView) (y : Why) (o : Option Place) → o ≡ leaving (job.Store (store.Empty key at y)) n → (o ≡ None) ⊎ (o ≡ Some at)
      only_at n why.Source o t = two (same_key key n) t
        where
          two : (b : Bool) → o ≡ (if b then Some at else None) → (o ≡ None) ⊎ (o ≡ Some at)
          two true t = inr t
          two false t = inl t
      only_at n (why.Withdrawn r) o t = inl t
      only_at n (why.Retired version) o t = inl t

      leaves : (n : Entry) → Own n × (n.also ≡ leaving (job.Store (store.Empty key at y)) n.key) → OwnSpeak l (after at 0) (left_other n)
      leaves n h out place own = by (same_place at place) refl
        where
          stays : (place : Place) → same_place at place ≡ false → (n.also ≡ None) ⊎ (n.also ≡ Some at) → holds place n ≡ true → (is_at place n.place || false) ≡ true
          stays place t (inl a) k = ap (λ o. is_at place n.place || is_at place o) (sym a) ∙ k
          stays place t (inr a) k =
              ap (λ b. is_at place n.place || b) (sym (ap (is_at place) a ∙ place_turned at place t)) ∙ k

          by : (b : Bool) → same_place at place ≡ b → SpeaksLive (says l place n.key (if b then 0 else w place)) → holds place (left_other n) ≡ true
          by true t sp = absurd (silent_zero place n.key sp)
          by false t sp = stays place t (only_at n.key y n.also h.1) (h.0 out place own sp)

  -- ---- a put is made live, or given up

  module _ (q : Put) (e : s.controller.job ≡ job.Store (store.Judge q)) where
    abbrev version : ℕ
    version = version_for s.controller.vips es q.key

    put : PutHolds l.shape es s.controller.held q
    put = (holds_of (job.Store (store.Judge q)) e).0

    fits : PutFits l q
    fits = fits_of q put

    no_also : (n : Entry) → In n es → n.also ≡ None
    no_also n m = all_in (λ n. n.also ≡ None) es n (leaves_of (job.Store (store.Judge q)) e) m

    entry_in : (n : Entry) → In n es → EntryFits l n
    entry_in n m = all_in (EntryFits l) es n i.shape.book.entries m

    -- where the key isn't registered, no place but the put's speaks live to it
    clear_silent : is_registered q.key es ≡ false → is_slot q.place ≡ true → (place : Place) → is_place_of l.shape q.key place ≡ true
        → same_place q.place place ≡ false → SpeaksLive (says l place q.key (w place)) → ⊥
    clear_silent none slot place own apart sp = at (holder_entry place es) refl
      where
        clear : is_clear l.shape es q.key ≡ true
        clear = (subst (λ z. OnPut z (IsClearPut l.shape es)) e i.matching.matching.clear) slot none

        word : (o : Option Entry) → holder_entry place es ≡ o
            → w place ≡ unwrap_or (option_map (λ n. live_word l place n.key n.version) o) (put_word l place q)
        word o h =
            i.words.others.table place
            ∙ (ap (λ o. unwrap_or (option_map (λ n. live_word l place n.key n.version) o) (job_word l place s.controller.job)) h
            ∙ ap (λ j. unwrap_or (option_map (λ n. live_word l place n.key n.version) o) (job_word l place j)) e)

        mistaken : (n : Entry) → In n es → (place : Place) → n.place ≡ Some place → is_place_of l.shape q.key place ≡ true → is_place_of l.shape n.key place ≡ true
            → stands_for l place n.key q.key ≡ true → is_mistaken l.shape q.key n ≡ true
        mistaken n m (Row row) stands a b t = absurd (true≢false (sym t ∙ member_other q.key es n none m))
        mistaken n m (Slot way bucket cell) stands a b t =
            let c : clashes l.shape way q.key n.key ≡ true = clash_turned l.shape way n.key q.key (stands_clash l way bucket cell n.key q.key t b a) in
            ap (λ x. not x && clashes_at l.shape q.key n.key n.place) (member_other q.key es n none m)
            ∙ (ap (clashes_at l.shape q.key n.key) stands ∙ (ap (λ x. x && clashes l.shape way q.key n.key) (ways_of l.shape way bucket cell q.key a) ∙ c))

        at : (o : Option Entry) → holder_entry place es ≡ o → ⊥
        at None h = empty_silent l place q.key (w place) (word None h ∙ ap (λ b. if b then reserved_word l q.place q.key else 0) apart) (speaks_live (says l place q.key (w place)) sp)
        at (Some n) h =
            let m : In n es = in_found (holds place) es n h in
            let f = entry_in n m in
            let here : n.place ≡ Some place = at_is place n.place (held_alone place n (no_also n m) (found_passes (holds place) es n h)) in
            let t : stands_for l place n.key q.key ≡ true =
            live_speaks l i.shape.config.layout place n.key q.key n.version f.key f.version (subst (λ x. Speaks (says l place q.key x)) (word (Some n) h) (speaks_live (says l place q.key (w place)) sp)) in
            true≢false (sym (any_in (is_mistaken l.shape q.key) es n m (mistaken n m place here own (subst (PlaceFits l.shape n.key) here f.place) t)) ∙ not_true (list_any (is_mistaken l.shape q.key) es) clear)
          where
            not_true : (b : Bool) → not b ≡ true → b ≡ false
            not_true true z = cc
            not_true false z = refl

    -- the put isn't withdrawn
    module _ (stays : is_withdrawn s.config s.controller q ≡ false) where
      uncontested : is_contested l.shape q.place q.key (rivals_of q.aim es) ≡ false
      unfolding is_withdrawn
      uncontested = (or_parts (is_contested l.shape q.place q.key (rivals_of q.aim es)) (is_some (dead_reply s.config s.controller q.aim)) stays).0

      rival_in : (a : Aim) (n : Entry) → In n es → In n (rivals_of a es)
      rival_in aim.Pending n m = m
      rival_in (aim.Held h) n m = m
      rival_in (aim.Move from planned) n m = at (is_registered planned es)
        where
          at : (b : Bool) → In n (if b then es else (es ++ fresh planned 0 0 ∷ []))
          at true = m
          at false = in_front es (fresh planned 0 0 ∷ []) n m

      -- no other entry's packets are taken for the put's
      pub others_silent : (n : Entry) → In n es → is_of q.key n ≡ false → is_outside n ≡ true → (at : Place) → q.place ≡ at → is_place_of l.shape n.key at ≡ true
          → is_place_of l.shape q.key at ≡ true → stands_for l at q.key n.key ≡ true → ⊥
      others_silent n m other out (Row row) here a b t = true≢false (sym (ap (λ k. same_key q.key k) (same_key-true n.key q.key t) ∙ same_key-self q.key) ∙ other)
      others_silent n m other out (Slot way bucket cell) here a b t =
          let c : clashes l.shape way q.key n.key ≡ true = stands_clash l way bucket cell q.key n.key t b a in
          let rival : is_rival l.shape way q.key n ≡ true =
          ap (λ x. x && (not (is_of q.key n) && clashes l.shape way q.key n.key)) out ∙ (ap (λ x. not x && clashes l.shape way q.key n.key) other ∙ c) in
          true≢false (sym (any_in (is_rival l.shape way q.key) (rivals_of q.aim es) n (rival_in q.aim n m) rival)
          ∙ (ap (λ z. is_contested l.shape z q.key (rivals_of q.aim es)) (sym here) ∙ uncontested))

      abbrev word : ℕ
      word = live_word l q.place q.key version

      speaks_for : (key : KeyView) → SpeaksLive (says l q.place key word) → stands_for l q.place q.key key ≡ true
      speaks_for key sp =
          live_speaks l i.shape.config.layout q.place q.key key version fits.key.is_key
          (version_below s.config i.shape.config.layout s.controller i.shape.book i.shape.controller q.key) (speaks_live (says l q.place key word) sp)

      other_own : (n : Entry) → In n es → is_of q.key n ≡ false → OwnSpeak l (after q.place word) n
      other_own n m other =
          rewritten_own q.place word n (λ sp own out. absurd (others_silent n m other out q.place refl own fits.place (speaks_for n.key sp)))
          (all_in Own es n i.matching.matching.own m)

      -- the entry that it had is outside the full-key table
      was_outside : (n : Entry) → entry_for q.key es ≡ Some n → (a : Aim) → AimHolds es s.controller.held q a → is_outside n ≡ true
      was_outside n f aim.Pending h =
          let same : n ≡ h.0 = same_Some n h.0 (sym f ∙ h.1) in ap (λ z. not (is_row z.place)) same ∙ ap (λ o. not (is_row o)) h.2
      was_outside n f (aim.Held o) h = ap (λ z. not (is_row z)) (of_some (λ z. z.place ≡ None) (entry_for q.key es) n h.2 f)
      was_outside n f (aim.Move from planned) h =
          let same : n ≡ h.0.0 = same_Some n h.0.0 (sym f ∙ h.0.1) in
          ap (λ z. not (is_row z.place)) same ∙ (ap (λ o. not (is_row o)) h.0.2 ∙ slot_out from h.1)
        where
          slot_out : (place : Place) → is_slot place ≡ true → not (is_row (Some place)) ≡ true
          slot_out (Slot way bucket cell) z = refl
          slot_out (Row row) z = cc

      -- its own new entry
      settled_own : (n : Entry) → (In n es × (n.key ≡ q.key)) ⊎ ((is_registered q.key es ≡ false) × (n.key ≡ q.key)) → OwnSpeak l (after q.place word) (settled q.place n)
      settled_own n c out place own = by (same_place q.place place) refl
        where
          at_self : (place : Place) → q.place ≡ place → (is_at place (Some q.place) || is_at place n.place) ≡ true
          at_self place t = ap (λ b. b || is_at place n.place) (ap (same_place place) t ∙ same_place-self place)

          slot_is : (place : Place) → not (is_row (Some place)) ≡ true → is_slot place ≡ true
          slot_is (Slot way bucket cell) z = refl
          slot_is (Row row) z = cc

          or_right : (b : Bool) → (b || true) ≡ true
          or_right true = refl
          or_right false = refl

          old : (In n es × (n.key ≡ q.key)) ⊎ ((is_registered q.key es ≡ false) × (n.key ≡ q.key)) → same_place q.place place ≡ false → SpeaksLive (says l place n.key (w place)) → is_at place n.place ≡ true
          old (inl (m, k)) t sp =
              let f : entry_for q.key es ≡ Some n = subst (λ z. entry_for z es ≡ Some n) k (in_own es n i.shape.book.distinct m) in
              held_alone place n (no_also n m) (all_in Own es n i.matching.matching.own m (was_outside n f q.aim put.aim) place own sp)
          old (inr (none, k)) t sp =
              absurd (clear_silent none (slot_is q.place out) place (subst (λ z. is_place_of l.shape z place ≡ true) k own) t (subst (λ z. SpeaksLive (says l place z (w place))) k sp))

          by : (b : Bool) → same_place q.place place ≡ b → SpeaksLive (says l place n.key (if b then word else w place)) → holds place (settled q.place n) ≡ true
          by true t sp = at_self place (same_place-true q.place place t)
          by false t sp = ap (λ b. is_at place (Some q.place) || b) (old c t sp) ∙ or_right (is_at place (Some q.place))

      -- each entry once the key is taken
      each_own : (n : Entry) → In n (entries_with q.key version s.controller.book.taken es)
          → OwnSpeak l (after q.place word) (if is_of q.key n then settled q.place n else n)
      each_own n m = two (is_registered q.key es) refl m
        where
          by : (b : Bool) → is_of q.key n ≡ b → In n es → OwnSpeak l (after q.place word) (if b then settled q.place n else n)
          by true t m = settled_own n (inl (m, sym (same_key-true q.key n.key t)))
          by false t m = other_own n m t

          new : (b : Bool) → is_of q.key n ≡ b → is_registered q.key es ≡ false → n ≡ fresh q.key version s.controller.book.taken
              → OwnSpeak l (after q.place word) (if b then settled q.place n else n)
          new true t none z = settled_own n (inr (none, ap (λ y. y.key) z))
          new false t none z = absurd (true≢false (sym (ap (λ y. same_key q.key y.key) z ∙ same_key-self q.key) ∙ t))

          parts : is_registered q.key es ≡ false → In n es ⊎ In n (fresh q.key version s.controller.book.taken ∷ [])
              → OwnSpeak l (after q.place word) (if is_of q.key n then settled q.place n else n)
          parts none (inl m) = by (is_of q.key n) refl m
          parts none (inr (inl z)) = new (is_of q.key n) refl none z
          parts none (inr (inr z)) = absurd z

          two : (b : Bool) → is_registered q.key es ≡ b → In n (if b then es else (es ++ fresh q.key version s.controller.book.taken ∷ []))
              → OwnSpeak l (after q.place word) (if is_of q.key n then settled q.place n else n)
          two true r m = by (is_of q.key n) refl m
          two false r m = parts r (in_parts es (fresh q.key version s.controller.book.taken ∷ []) n m)

      live_own : AllByRecursion (OwnSpeak l (after q.place word)) (judged_book false q version s.controller.book).entries
      live_own =
          all_to_in (OwnSpeak l (after q.place word)) (judged_book false q version s.controller.book).entries (λ f m.
          let r = in_mapped (λ n. if is_of q.key n then settled q.place n else n) (entries_with q.key version s.controller.book.taken es) f m in
          subst (OwnSpeak l (after q.place word)) (sym r.2) (each_own r.0 r.1))

    judged_own : (b : Bool) → is_withdrawn s.config s.controller q ≡ b
        → AllByRecursion (OwnSpeak l (after q.place (judged_word b l q version))) (judged_book b q version s.controller.book).entries
    judged_own true t = emptied_all q.place
    judged_own false t = live_own t

  job_kept : (j : Job) → s.controller.job ≡ j → AfterJob OwnAreFound s j (job_op s.config s.controller j)
  job_kept job.Free e = tt
  job_kept (job.Drain pipe count wt) e =
      take_own (ended_by (job.Drain pipe count wt)) pipe _ s.controller.book _ i.matching.matching.own (takes s.config s.controller (ended_by (job.Drain pipe count wt)) pipe _).book
  job_kept (job.Look pipe) e = take_own None pipe _ s.controller.book _ i.matching.matching.own (takes s.config s.controller None pipe _).book
  job_kept (job.Hit from ms key at n) e =
      frame (job.Hit from ms key at n) (job_op s.config s.controller (job.Hit from ms key at n)) refl (λ x. changed_all Own Own (swept (read_flag x)) key (λ e q g. g) (λ e q g. g) es i.matching.matching.own)
  job_kept (job.Draw (draw.Retired key at n)) e =
      frame (job.Draw (draw.Retired key at n)) (job_op s.config s.controller (job.Draw (draw.Retired key at n))) refl (λ x. all_filtered Own (λ e. not (is_of key e)) es i.matching.matching.own)
  job_kept (job.Store (store.Reserved q)) e =
      let fits = fits_of q (holds_of (job.Store (store.Reserved q)) e).0 in
      all_then Own (OwnSpeak l (after q.place (reserved_word l q.place q.key))) (λ n h. rewritten_own q.place (reserved_word l q.place q.key) n (λ sp own out. absurd (reserved_not_live l i.shape.config.layout q.place q.key n.key fits.key.is_key sp)) h) es i.matching.matching.own
  job_kept (job.Store (store.Judge q)) e = judged_own q e (is_withdrawn s.config s.controller q) refl
  job_kept (job.Store (store.Empty key at y)) e = left_own key at y e
  job_kept j e = frame j (job_op s.config s.controller j) refl (λ x. i.matching.matching.own)

pub own_keep : Keeps IsPacket Invariant OwnAreFound
own_keep = record {
  stages = λ s p v at q e i h. stage_kept s i p v at (pipe_op s.config.layout v at) refl;
  begins = λ s i h. h;
  jobs = λ s j q b i h. job_kept s i j q;
  enters = λ s p v packet q r u n a i h. h;
  clocks = λ s ms q i h. h;
  refusals = λ s q i h. h;
}

pub own_open : OpensWith OwnAreFound
unfolding opening_controller
own_open k f = tt

-- The controller's steps keep the words of the tables.
use Rattle.std.proofs.Common.{◌≡◌, ℕ, Bool, true, false, cond, ◌||◌, List, [], ◌∷◌, ◌++◌, if◌then◌else◌, Some, None, Option, option_map, unwrap_or, sym, refl, ap, ◌∙◌, subst, true≢false}
use Rattle.std.specs.List.{AllByRecursion}
use Rattle.sr_base.proofs.Sameness.{same_place-self, same_place-true}
use Rattle.sr_base.specs.Key.{KeyView, same_key}
use Rattle.sr_base.specs.Layout.{LayoutView}
use Rattle.sr_base.specs.Place.{same_place}
use Rattle.sr_base.specs.declared.place.Place.{Place}
use Rattle.sr_base.specs.declared.vip_word.Phase.{Phase}
use Rattle.sr_base.specs.declared.vip_word.Phase.TheVariants.{Steady, Recording, Holding, Transit}
use Rattle.sr_base.specs.declared.vip_word.VipWord.{VipWord}
use Rattle.sr_inv_facts.proofs.Lists.{all_back, all_more, all_then}
use Rattle.sr_inv_facts.specs.InJobs.{JobHolds, PutHolds, RetiredHolds, leaving, IsLeft, seen}
use Rattle.sr_inv_facts.specs.InShape.{JobFits}
use Rattle.sr_inv_facts.specs.InWords.{held_word, job_word, judged_place, table_word}
use Rattle.sr_inv_facts.specs.Invariant.{Invariant}
use Rattle.sr_inv_words.proofs.OtherJobs.{AtOp}
use Rattle.sr_inv_words.proofs.Tables.{holder_mine, holder_skip, nobody, settled_else, settled_here, swept_held, take_held, taken_entry, taken_holder, held_changed}
use Rattle.sr_machine.proofs.Following.{goes}
use Rattle.sr_machine.specs.Config.{Config}
use Rattle.sr_machine.specs.Core.{Core, printed}
use Rattle.sr_machine.specs.Deciding.{dead_reply, is_withdrawn, version_for}
use Rattle.sr_machine.specs.Draws.{cleared_job, phase_job}
use Rattle.sr_machine.specs.Goes.{Goes}
use Rattle.sr_machine.specs.Jobs.{book_next, job_next, job_op, judged_book}
use Rattle.sr_machine.specs.Keeping.{AfterJob}
use Rattle.sr_machine.specs.Names.{rewritten}
use Rattle.sr_machine.specs.Ops.{op_answer, op_name, op_words}
use Rattle.sr_machine.specs.Reads.{live_word, read_flag, reserved_word}
use Rattle.sr_machine.specs.Stores.{judged_draw, judged_word, vip_draw}
use Rattle.sr_machine.specs.Taking.{ended_by}
use Rattle.sr_machine.specs.Waiting.{all_passed, live_job, passed_phase, waited_job, waited_phase}
use Rattle.sr_machine.specs.declared.controller_view.ControllerView.{ControllerView}
use Rattle.sr_machine.specs.declared.job.Job.{Job}
use Rattle.sr_machine.specs.declared.op.Op.{Op}
use Rattle.sr_machine.specs.declared.pool_update.PoolUpdate.{PoolUpdate}
use Rattle.sr_machine.specs.declared.put.Aim.{Aim}
use Rattle.sr_machine.specs.declared.put.Put.{Put}
use Rattle.sr_machine.specs.declared.reply.Reply.{Reply}
use Rattle.sr_machine.specs.declared.wait.Wait.{Wait}
use Rattle.sr_machine.specs.declared.why.Why.{Why}
use Rattle.sr_shadow.proofs.Places.{held_elsewhere, holder_left}
use Rattle.sr_shadow.proofs.Splits.{Split, split, without_split, changed_none, changed_split}
use Rattle.sr_shadow.specs.Book.{HeldOnce, holder_entry, is_registered, with_settled, with_taken, without_key, entry_for, holder_of, with_changed}
use Rattle.sr_shadow.specs.Entry.{fresh, holds as holds_place, is_at, left_other, is_of, is_placed}
use Rattle.sr_shadow.specs.declared.book.Book.{Book}
use Rattle.sr_shadow.specs.declared.entry.Entry.{Entry}
use Rattle.sr_machine.specs.Goes as go
use Rattle.sr_machine.specs.declared.draw.Draw.TheVariants as draw
use Rattle.sr_machine.specs.declared.store.Store.TheVariants as store
use Rattle.sr_machine.specs.declared.wait.Wait.TheVariants as wait
use Rattle.sr_machine.specs.declared.why.Why.TheVariants as why
use Rattle.sr_machine.specs.declared.put.Aim.TheVariants as aim
use Rattle.sr_machine.specs.declared.job.Job.TheVariants as job
use Rattle.sr_machine.specs.declared.name.Name.TheVariants as name

-- ---- the word of a place that no entry holds, as the job goes on

module _ (l : LayoutView) (place : Place) where
  phase_word_none : (u : PoolUpdate) (p : Phase) → job_word l place (phase_job u p) ≡ 0
  phase_word_none u Steady = refl
  phase_word_none u Recording = refl
  phase_word_none u Holding = refl
  phase_word_none u Transit = refl

  vip_word_none : (u : PoolUpdate) (p : Phase) → job_word l place (job.Draw (vip_draw u p)) ≡ 0
  vip_word_none u Steady = refl
  vip_word_none u Recording = refl
  vip_word_none u Holding = refl
  vip_word_none u Transit = refl

  cleared_word : (key : KeyView) (w : Why) → job_word l place (cleared_job key w) ≡ 0
  cleared_word key (why.Withdrawn None) = refl
  cleared_word key (why.Withdrawn (Some r)) = refl
  cleared_word key why.Source = refl
  cleared_word key (why.Retired version) = refl

  passed_phase_word : (u : PoolUpdate) (p : Phase) → job_word l place (passed_phase u p) ≡ 0
  passed_phase_word u Steady = refl
  passed_phase_word u Recording = refl
  passed_phase_word u Holding = refl
  passed_phase_word u Transit = refl

  passed_word : (w : Wait) → job_word l place (all_passed w) ≡ judged_place l place w
  passed_word (wait.Comes u p) = passed_phase_word u p
  passed_word w = refl

  live_job_word : (vips : List VipWord) (es : List Entry) (p : Put) (a : Aim) → job_word l place (live_job vips es p a) ≡ 0
  live_job_word vips es p aim.Pending = refl
  live_job_word vips es p (aim.Held h) = refl
  live_job_word vips es p (aim.Move from planned) = refl

  waited_phase_word : (u : PoolUpdate) (p : Phase) → job_word l place (waited_phase u p) ≡ 0
  waited_phase_word u Steady = refl
  waited_phase_word u Recording = refl
  waited_phase_word u Holding = refl
  waited_phase_word u Transit = refl

  waited_word : (vips : List VipWord) (es : List Entry) (w : Wait) → job_word l place (waited_job vips es w) ≡ judged_place l place w
  waited_word vips es (wait.Live p) = live_job_word vips es p p.aim
  waited_word vips es (wait.Comes u p) = waited_phase_word u p
  waited_word vips es w = refl

-- jobs that write no entry, and take none out
abbrev pub IsOffTable : Job → Type 0
IsOffTable (job.Store (store.Reserved p)) = ⊥
IsOffTable (job.Store (store.Judge p)) = ⊥
IsOffTable (job.Store (store.Empty key place w)) = ⊥
IsOffTable (job.Draw (draw.Retired key place version)) = ⊥
IsOffTable j = Unit {0}

module _ (k : Config) (c : ControllerView) (x : ℕ) where
  goes_word : (place : Place) (j m : Job) → Goes k c x j m → IsOffTable j → job_word k.layout place m ≡ job_word k.layout place j
  goes_word place j m (go.comes u p) off = phase_word_none k.layout place u p
  goes_word place j m (go.cleared key at w) off = cleared_word k.layout place key w
  goes_word place j m (go.retired key at version) off = absurd off
  goes_word place j m (go.phase_stored u p) off = vip_word_none k.layout place u p
  goes_word place j m (go.reserve_stored p) off = absurd off
  goes_word place j m (go.judged_live p e) off = absurd off
  goes_word place j m (go.judged_withdrawn p e) off = absurd off
  goes_word place j m (go.emptied key at w) off = absurd off
  goes_word place j m (go.pass_last g pipe w a b) off = passed_word k.layout place w
  goes_word place j m (go.drain_last pipe count w a b) off = waited_word k.layout place c.vips _ w
  goes_word place j m g off = refl

  -- the book as they leave it
  book_word : (place : Place) (j : Job) → IsOffTable j → held_word k.layout place (book_next k c j x).entries ≡ held_word k.layout place c.book.entries
  book_word place (job.Draw (draw.Retired key at version)) off = absurd off
  book_word place (job.Store (store.Judge p)) off = absurd off
  book_word place (job.Store (store.Empty key at w)) off = absurd off
  book_word place (job.Drain pipe count w) off = take_held k c (ended_by (job.Drain pipe count w)) pipe x place
  book_word place (job.Look pipe) off = take_held k c None pipe x place
  book_word place (job.Hit from ms key at taken) off = swept_held k.layout place key (read_flag x) c.book
  book_word place j off = refl

abbrev pub TableIs : Core → Type 0
TableIs t = (place : Place) → t.words (name.Entry place) ≡ table_word t.config.layout t.controller.book.entries t.controller.job place

-- a place that no entry holds has the job's word
unheld : (l : LayoutView) (es : List Entry) (j : Job) (place : Place) → holder_entry place es ≡ None → table_word l es j place ≡ job_word l place j
unheld l es j place none = ap (λ o. unwrap_or (option_map (λ e. live_word l place e.key e.version) o) (job_word l place j)) none

-- two jobs without a word there
pub alike : (l : LayoutView) (es after : List Entry) (j m : Job) (place : Place) → held_word l place after ≡ held_word l place es
    → job_word l place m ≡ job_word l place j → table_word l after m place ≡ table_word l es j place
alike l es after j m place h w = ap (λ o. unwrap_or o (job_word l place m)) h ∙ ap (unwrap_or (held_word l place es)) w

-- two places differ either way
place_apart : (a b : Place) → same_place a b ≡ false → same_place b a ≡ false
place_apart a b q = at (same_place b a) refl
  where
    at : (t : Bool) → same_place b a ≡ t → t ≡ false
    at false r = refl
    at true r = absurd (true≢false (sym (same_place-self b) ∙ (ap (λ z. same_place z b) (same_place-true b a r) ∙ q)))

-- a test of places
chosen : (at place : Place) (b : Bool) → same_place at place ≡ b → (x y : ℕ) → (if same_place at place then x else y) ≡ (if b then x else y)
chosen at place b q x y = ap (λ t. if t then x else y) q

module _ (s : Core) (i : Invariant s) where
  table_after : (j : Job) (o : Option Op) → s.controller.job ≡ j → IsOffTable j
      → AtOp o (λ o. (place : Place) → op_words s.words o (name.Entry place) ≡ s.words (name.Entry place)) → AfterJob TableIs s j o
  table_after j None e off words = tt
  table_after j (Some o) e off words = λ place.
      let x = op_answer o (s.words (op_name o)) in
      let m = job_next s.config s.controller j x in
      words place ∙ (i.words.others.table place ∙ (ap (λ a. table_word s.config.layout s.controller.book.entries a place) e
      ∙ sym (alike s.config.layout s.controller.book.entries (book_next s.config s.controller j x).entries j m place
      (book_word s.config s.controller x place j off)
      (goes_word s.config s.controller x place j m (goes s.config s.controller x j) off))))

  -- the table before the step
  before : (j : Job) → s.controller.job ≡ j → (place : Place) → s.words (name.Entry place) ≡ table_word s.config.layout s.controller.book.entries j place
  before j e place = i.words.others.table place ∙ ap (λ a. table_word s.config.layout s.controller.book.entries a place) e

  holds : (j : Job) → s.controller.job ≡ j → JobHolds s.config (seen s.controller) (printed s) j
  holds j e = subst (JobHolds s.config (seen s.controller) (printed s)) e i.jobs.holds.stands

  leaves : (j : Job) → s.controller.job ≡ j → AllByRecursion (λ e. e.also ≡ leaving j e.key) s.controller.book.entries
  leaves j e = subst (λ m. AllByRecursion (λ n. n.also ≡ leaving m n.key) s.controller.book.entries) e i.jobs.holds.also

  -- a place is reserved
  reserved_table : (p : Put) → s.controller.job ≡ job.Store (store.Reserved p)
      → AfterJob TableIs s (job.Store (store.Reserved p)) (job_op s.config s.controller (job.Store (store.Reserved p)))
  reserved_table p e = λ place. at place (same_place p.place place) refl
    where
      word : ℕ
      word = reserved_word s.config.layout p.place p.key

      next : Job
      next = job.Draw (draw.Grace (wait.Judge p))

      at : (place : Place) (b : Bool) → same_place p.place place ≡ b
          → (if b then word else s.words (name.Entry place)) ≡ table_word s.config.layout s.controller.book.entries next place
      at place true q =
          let here : p.place ≡ place = same_place-true p.place place q in
          let none = subst (λ a. holder_entry a s.controller.book.entries ≡ None) here (nobody p.place s.controller.book.entries (holds (job.Store (store.Reserved p)) e).0.free) in
          sym (unheld s.config.layout s.controller.book.entries next place none ∙ chosen p.place place true q word 0)
      at place false q =
          before (job.Store (store.Reserved p)) e place
          ∙ sym (alike s.config.layout s.controller.book.entries s.controller.book.entries (job.Store (store.Reserved p)) next place refl (chosen p.place place false q word 0))

  -- a put is withdrawn, or made live
  judged_table : (p : Put) → s.controller.job ≡ job.Store (store.Judge p)
      → AfterJob TableIs s (job.Store (store.Judge p)) (job_op s.config s.controller (job.Store (store.Judge p)))
  judged_table p e = by (is_withdrawn s.config s.controller p)
    where
      l : LayoutView
      l = s.config.layout

      es : List Entry
      es = s.controller.book.entries

      version : ℕ
      version = version_for s.controller.vips es p.key

      book : Book
      book = with_taken p.key version s.controller.book

      reply : Option Reply
      reply = dead_reply s.config s.controller p.aim

      put : PutHolds s.config.layout.shape es s.controller.held p
      put = (holds (job.Store (store.Judge p)) e).0

      old : (place : Place) → same_place p.place place ≡ false → s.words (name.Entry place) ≡ table_word l es job.Free place
      old place q = before (job.Store (store.Judge p)) e place ∙ alike l es es job.Free (job.Store (store.Judge p)) place refl (chosen p.place place false q (reserved_word l p.place p.key) 0)

      withdrawn : (place : Place) (t : Bool) → same_place p.place place ≡ t
          → (if t then 0 else s.words (name.Entry place)) ≡ table_word l es (job.Draw (draw.Cleared p.key p.place (why.Withdrawn reply))) place
      withdrawn place true q =
          sym (unheld l es (job.Draw (draw.Cleared p.key p.place (why.Withdrawn reply))) place (subst (λ a. holder_entry a es ≡ None) (same_place-true p.place place q) (nobody p.place es put.free)))
      withdrawn place false q = old place q

      alone : AllByRecursion (λ e. e.also ≡ None) book.entries
      alone = taken_alone (is_registered p.key es)
        where
          taken_alone : (b : Bool) → AllByRecursion (λ e. e.also ≡ None) (if b then es else (es ++ fresh p.key version s.controller.book.taken ∷ []))
          taken_alone true = leaves (job.Store (store.Judge p)) e
          taken_alone false =
              all_more (λ e. e.also ≡ None) es (fresh p.key version s.controller.book.taken ∷ []) (leaves (job.Store (store.Judge p)) e) (refl, tt)

      live : (place : Place) (t : Bool) → same_place p.place place ≡ t
          → (if t then live_word l p.place p.key version else s.words (name.Entry place))
          ≡ table_word l (with_settled p.key p.place book).entries (job.Draw (draw.Placed p)) place
      live place true q =
          let t = taken_entry s.controller.vips p.key s.controller.book in
          let here : p.place ≡ place = same_place-true p.place place q in
          let there = settled_here p.place p.key book.entries t.entry (taken_holder p.place p.key version s.controller.book ∙ nobody p.place es put.free) t.found in
          sym (subst (λ a. table_word l (with_settled p.key p.place book).entries (job.Draw (draw.Placed p)) a ≡ live_word l p.place p.key version) here
          (ap (λ o. unwrap_or (option_map (λ e. live_word l p.place e.key e.version) o) 0) there
          ∙ (ap (λ key. live_word l p.place key t.entry.version) t.own ∙ ap (live_word l p.place p.key) t.with_version)))
      live place false q =
          let apart : same_place place p.place ≡ false = place_apart p.place place q in
          old place q
          ∙ sym (alike l es (with_settled p.key p.place book).entries job.Free (job.Draw (draw.Placed p)) place
          (settled_else l p.place place p.key book.entries apart alone ∙ ap (option_map (λ e. live_word l place e.key e.version)) (taken_holder place p.key version s.controller.book)) refl)

      by : (b : Bool) → (place : Place)
          → rewritten s.words (name.Entry p.place) (judged_word b l p version) (name.Entry place)
          ≡ table_word l (judged_book b p version s.controller.book).entries (job.Draw (judged_draw b p reply)) place
      by true = λ place. withdrawn place (same_place p.place place) refl
      by false = λ place. live place (same_place p.place place) refl

  -- a connection is over: its key is out, its word still there
  retired_table : (key : KeyView) (at : Place) (version : ℕ) → s.controller.job ≡ job.Draw (draw.Retired key at version)
      → AfterJob TableIs s (job.Draw (draw.Retired key at version)) (job_op s.config s.controller (job.Draw (draw.Retired key at version)))
  retired_table key at version e = λ place. before (job.Draw (draw.Retired key at version)) e place ∙ sym (by place (same_place at place) refl)
    where
      l : LayoutView
      l = s.config.layout

      es : List Entry
      es = s.controller.book.entries

      next : Job
      next = job.Store (store.Empty key at (why.Retired version))

      r : RetiredHolds s.config es key at version
      r = holds (job.Draw (draw.Retired key at version)) e

      d : Split key es r.entry
      d = split key es r.entry i.shape.book.distinct r.found

      once : HeldOnce (d.front ++ r.entry ∷ d.back)
      once = subst HeldOnce d.is i.jobs.holds.once

      also : r.entry.also ≡ None
      also =
          (all_back (λ n. n.also ≡ leaving (job.Draw (draw.Retired key at version)) n.key) d.front (r.entry ∷ d.back)
          (subst (AllByRecursion (λ n. n.also ≡ leaving (job.Draw (draw.Retired key at version)) n.key)) d.is (leaves (job.Draw (draw.Retired key at version)) e))).0

      out : without_key key es ≡ d.front ++ d.back
      out = ap (without_key key) d.is ∙ without_split key d.front d.back r.entry d.own d.before d.after

      at_holds : (place : Place) (b : Bool) → same_place place at ≡ b → holds_place place r.entry ≡ b
      at_holds place b q = ap (λ o. is_at place o || is_at place r.entry.also) r.stands ∙ (ap (λ o. same_place place at || is_at place o) also ∙ (orfalse (same_place place at) ∙ q))
        where
          orfalse : (b : Bool) → (b || false) ≡ b
          orfalse true = refl
          orfalse false = refl

      by : (place : Place) (b : Bool) → same_place at place ≡ b
          → table_word l (without_key key es) next place ≡ table_word l es (job.Draw (draw.Retired key at version)) place
      by place true q =
          let here : at ≡ place = same_place-true at place q in
          let mine : holds_place place r.entry ≡ true = at_holds place true (ap (same_place place) here ∙ same_place-self place) in
          let none : holder_entry place (d.front ++ d.back) ≡ None = nobody place (d.front ++ d.back) (held_elsewhere place d.front d.back r.entry once mine) in
          let was : holder_entry place es ≡ Some r.entry = ap (holder_entry place) d.is ∙ holder_mine place d.front d.back r.entry mine none in
          unheld l (without_key key es) next place (ap (holder_entry place) out ∙ none)
          ∙ (chosen at place true q (live_word l at key version) 0
          ∙ sym (ap (λ o. unwrap_or (option_map (λ e. live_word l place e.key e.version) o) 0) was
          ∙ (ap (λ a. live_word l a r.entry.key r.entry.version) (sym here) ∙ (ap (λ x. live_word l at x r.entry.version) d.own ∙ ap (live_word l at key) r.with_version))))
      by place false q =
          let apart : same_place place at ≡ false = place_apart at place q in
          alike l es (without_key key es) (job.Draw (draw.Retired key at version)) next place
          (ap (held_word l place) out ∙ (ap (option_map (λ e. live_word l place e.key e.version)) (sym (holder_skip place d.front d.back r.entry (at_holds place false apart))) ∙ ap (held_word l place) (sym d.is)))
          (chosen at place false q (live_word l at key version) 0)

  -- a moved entry has left its old place
  source_table : (key : KeyView) (at : Place) → s.controller.job ≡ job.Store (store.Empty key at why.Source)
      → AfterJob TableIs s (job.Store (store.Empty key at why.Source)) (job_op s.config s.controller (job.Store (store.Empty key at why.Source)))
  source_table key at e = λ place. by place (same_place at place) refl
    where
      l : LayoutView
      l = s.config.layout

      es : List Entry
      es = s.controller.book.entries

      here : Job
      here = job.Store (store.Empty key at why.Source)

      next : Job
      next = job.Draw (draw.Cleared key at why.Source)

      h : (n : Entry) × (entry_for key es ≡ Some n) × (is_placed n ≡ true) × (n.also ≡ Some at)
      h = holds here e

      d : Split key es h.0
      d = split key es h.0 i.shape.book.distinct h.1

      once : HeldOnce (d.front ++ h.0 ∷ d.back)
      once = subst HeldOnce d.is i.jobs.holds.once

      left : with_changed left_other key es ≡ d.front ++ left_other h.0 ∷ d.back
      left = ap (with_changed left_other key) d.is ∙ changed_split left_other key d.front d.back h.0 d.own d.before d.after

      mine : is_at at h.0.also ≡ true
      mine = ap (is_at at) h.3 ∙ same_place-self at

      none : holder_entry at (with_changed left_other key es) ≡ None
      none =
          ap (holder_entry at) left
          ∙ nobody at (d.front ++ left_other h.0 ∷ d.back)
          (holder_left d.front d.back h.0 once at ∙ ap (λ b. cond b None (holder_of at (d.front ++ h.0 ∷ d.back))) mine)

      kept : (place : Place) → same_place place at ≡ false → held_word l place (with_changed left_other key es) ≡ held_word l place es
      kept place apart =
          held_changed l place left_other key es (λ n. refl)
          (all_then (λ n. n.also ≡ leaving here n.key) (λ n. is_of key n ≡ true → holds_place place (left_other n) ≡ holds_place place n)
          (λ n g own. at_entry n g own) es (leaves here e))
        where
          at_entry : (n : Entry) → n.also ≡ (if same_key key n.key then Some at else None) → same_key key n.key ≡ true
              → holds_place place (left_other n) ≡ holds_place place n
          at_entry n g own =
              let also : n.also ≡ Some at = g ∙ ap (λ b. if b then Some at else None) own in
              sym (ap (λ o. is_at place n.place || is_at place o) also ∙ ap (λ b. is_at place n.place || b) apart)

      by : (place : Place) (b : Bool) → same_place at place ≡ b
          → (if b then 0 else s.words (name.Entry place)) ≡ table_word l (with_changed left_other key es) next place
      by place true q =
          sym (unheld l (with_changed left_other key es) next place (subst (λ a. holder_entry a (with_changed left_other key es) ≡ None) (same_place-true at place q) none))
      by place false q =
          before here e place ∙ sym (alike l es (with_changed left_other key es) here next place (kept place (place_apart at place q)) refl)

  -- and so has one that was retired
  emptied_table : (key : KeyView) (at : Place) (version : ℕ) → s.controller.job ≡ job.Store (store.Empty key at (why.Retired version))
      → AfterJob TableIs s (job.Store (store.Empty key at (why.Retired version)))
      (job_op s.config s.controller (job.Store (store.Empty key at (why.Retired version))))
  emptied_table key at version e = λ place. by place (same_place at place) refl
    where
      l : LayoutView
      l = s.config.layout

      es : List Entry
      es = s.controller.book.entries

      here : Job
      here = job.Store (store.Empty key at (why.Retired version))

      next : Job
      next = job.Draw (draw.Cleared key at (why.Retired version))

      h : IsLeft l.shape es key at × (is_registered key es ≡ false)
      h = holds here e

      same : with_changed left_other key es ≡ es
      same = changed_none left_other key es h.1

      by : (place : Place) (b : Bool) → same_place at place ≡ b
          → (if b then 0 else s.words (name.Entry place)) ≡ table_word l (with_changed left_other key es) next place
      by place true q =
          sym (unheld l (with_changed left_other key es) next place
          (ap (holder_entry place) same ∙ subst (λ a. holder_entry a es ≡ None) (same_place-true at place q) (nobody at es h.0.free)))
      by place false q =
          before here e place
          ∙ sym (alike l es (with_changed left_other key es) here next place (ap (held_word l place) same) (sym (chosen at place false q (live_word l at key version) 0)))

  pub table_job : (j : Job) → s.controller.job ≡ j → AfterJob TableIs s j (job_op s.config s.controller j)
  table_job job.Free e = tt
  table_job (job.Store (store.Reserved p)) e = reserved_table p e
  table_job (job.Store (store.Judge p)) e = judged_table p e
  table_job (job.Store (store.Empty key at why.Source)) e = source_table key at e
  table_job (job.Store (store.Empty key at (why.Retired version))) e = emptied_table key at version e
  table_job (job.Store (store.Empty key at (why.Withdrawn r))) e = absurd (subst (JobFits s.config.layout) e i.shape.controller.job)
  table_job (job.Draw (draw.Retired key at version)) e = retired_table key at version e
  table_job j e = table_after j (job_op s.config s.controller j) e tt (λ place. refl)

-- Each step keeps what is said of the changes that are still to be made, and the open group of lines.
use Rattle.std.proofs.Common.{◌≡◌, ℕ, ◌+◌, ◌<◌, ◌≤◌, Bool, true, false, cond, ◌&&◌, ◌||◌, ◌⊎◌, List, [], ◌∷◌, ◌++◌, length, if◌then◌else◌, nat_le, ◌==◌, slice_set, Some, None, Option, option_to_list, sym, refl, ap, ◌∙◌, subst, inl, inr, true≢false, arith}
use Rattle.std.proofs.lemmas.Bool.Decides.{nat_tests}
use Rattle.std.proofs.lemmas.List.Sums.{sum_by-append, sum_by-cons}
use Rattle.std.specs.List.{list_any, AllByRecursion}
use Rattle.sr_base.specs.Key.{KeyView}
use Rattle.sr_base.specs.Layout.{LayoutView}
use Rattle.sr_base.specs.declared.vip_word.Phase.{Phase}
use Rattle.sr_base.specs.declared.vip_word.Phase.TheVariants.{Steady, Recording, Holding, Transit}
use Rattle.sr_base.specs.declared.vip_word.VipWord.{VipWord}
use Rattle.sr_inv_facts.proofs.Lists.{all_both, all_then, of_some}
use Rattle.sr_inv_facts.proofs.Printing.{tells}
use Rattle.sr_inv_facts.proofs.Taking.{TakesBook, same_book, learned_book, closed_book, takes}
use Rattle.sr_inv_facts.specs.InShape.{ControllerFits, JobFits}
use Rattle.sr_inv_facts.specs.InUpdate.{IsToCome, OnRefused, OnUngiven, is_ungiven, ChangesHold, IsAtLeisure, IsRefused, JobAt, MayBeRefused, NothingFree, UpdateHolds, group_by, UpdateFits}
use Rattle.sr_inv_update.proofs.GroupSteps.{plain_cleared, plain_waited, line_group, over_group, passed_group, comes_group, given_group, stored_group}
use Rattle.sr_inv_update.proofs.Groups.{IsPlainGroup, group_last, plain_group}
use Rattle.sr_inv_update.proofs.Phases.{storing}
use Rattle.sr_inv_update.proofs.Versions.{phase_given, vip_given, draws_given, same_ungiven, ungiven_same}
use Rattle.sr_law.specs.Groups.{was_given_past}
use Rattle.sr_law.specs.Order.{refused_past}
use Rattle.sr_law.specs.declared.line.Line.{Line}
use Rattle.sr_machine.proofs.Following.{goes}
use Rattle.sr_machine.specs.Config.{Config}
use Rattle.sr_machine.specs.Draws.{cleared_job, draw_line, phase_job, phase_line}
use Rattle.sr_machine.specs.Goes.{Goes}
use Rattle.sr_machine.specs.Jobs.{book_next, drained, job_next, numbers_next, update_next, vips_next}
use Rattle.sr_machine.specs.Stores.{vip_draw, is_last_filter, phase_word}
use Rattle.sr_machine.specs.Taking.{taking}
use Rattle.sr_machine.specs.Waiting.{all_passed, live_job, passed_phase, waited_job, waited_phase}
use Rattle.sr_machine.specs.declared.controller_view.ControllerView.{ControllerView}
use Rattle.sr_machine.specs.declared.draw.Draw.{Draw}
use Rattle.sr_machine.specs.declared.job.Job.{Job}
use Rattle.sr_machine.specs.declared.pool_update.PoolUpdate.{PoolUpdate}
use Rattle.sr_machine.specs.declared.put.Aim.{Aim}
use Rattle.sr_machine.specs.declared.put.Put.{Put}
use Rattle.sr_machine.specs.declared.wait.Wait.{Wait}
use Rattle.sr_machine.specs.declared.why.Why.{Why}
use Rattle.sr_shadow.specs.Book.{count_of, with_changed, without_key}
use Rattle.sr_shadow.specs.Entry.{left_other, closed, has_version, fresh, is_of}
use Rattle.sr_shadow.specs.declared.book.Book.{Book}
use Rattle.sr_shadow.specs.declared.entry.Entry.{Entry}
use Rattle.sr_update.specs.Numbers.{with_state, NumberRows, state_of}
use Rattle.sr_update.specs.declared.give_change.GiveChange.{GiveChange}
use Rattle.sr_update.specs.declared.number_state.NumberState.TheVariants.{Current, Draining}
use Rattle.sr_machine.specs.Goes as go
use Rattle.sr_machine.specs.declared.draw.Draw.TheVariants as draw
use Rattle.sr_machine.specs.declared.wait.Wait.TheVariants as wait
use Rattle.sr_machine.specs.declared.why.Why.TheVariants as why
use Rattle.sr_machine.specs.declared.put.Aim.TheVariants as aim
use Rattle.sr_machine.specs.declared.job.Job.TheVariants as job
use Rattle.sr_law.specs.declared.line.Line.TheVariants as line
use Rattle.sr_machine.specs.declared.store.Store.TheVariants as store

-- ---- no step but a beginning refuses a change

abbrev NoRefusal : Job → Type 0
NoRefusal (job.Draw (draw.Refused change)) = ⊥
NoRefusal j = Unit {0}

phase_refuses : (u : PoolUpdate) (p : Phase) → NoRefusal (phase_job u p)
phase_refuses u Steady = tt
phase_refuses u Recording = tt
phase_refuses u Holding = tt
phase_refuses u Transit = tt

vip_refuses : (u : PoolUpdate) (p : Phase) → NoRefusal (job.Draw (vip_draw u p))
vip_refuses u Steady = tt
vip_refuses u Recording = tt
vip_refuses u Holding = tt
vip_refuses u Transit = tt

cleared_refuses : (key : KeyView) (w : Why) → NoRefusal (cleared_job key w)
cleared_refuses key (why.Withdrawn None) = tt
cleared_refuses key (why.Withdrawn (Some r)) = tt
cleared_refuses key why.Source = tt
cleared_refuses key (why.Retired n) = tt

passed_phase_refuses : (u : PoolUpdate) (p : Phase) → NoRefusal (passed_phase u p)
passed_phase_refuses u Steady = tt
passed_phase_refuses u Recording = tt
passed_phase_refuses u Holding = tt
passed_phase_refuses u Transit = tt

passed_refuses : (w : Wait) → NoRefusal (all_passed w)
passed_refuses (wait.Comes u p) = passed_phase_refuses u p
passed_refuses w = tt

live_refuses : (vips : List VipWord) (es : List Entry) (p : Put) (a : Aim) → NoRefusal (live_job vips es p a)
live_refuses vips es p aim.Pending = tt
live_refuses vips es p (aim.Held h) = tt
live_refuses vips es p (aim.Move from planned) = tt

waited_phase_refuses : (u : PoolUpdate) (p : Phase) → NoRefusal (waited_phase u p)
waited_phase_refuses u Steady = tt
waited_phase_refuses u Recording = tt
waited_phase_refuses u Holding = tt
waited_phase_refuses u Transit = tt

waited_refuses : (vips : List VipWord) (es : List Entry) (w : Wait) → NoRefusal (waited_job vips es w)
waited_refuses vips es (wait.Live p) = live_refuses vips es p p.aim
waited_refuses vips es (wait.Comes u p) = waited_phase_refuses u p
waited_refuses vips es w = tt

none_refused : (k : Config) (c : ControllerView) (x : ℕ) (j m : Job) → Goes k c x j m → NoRefusal m
none_refused k c x j m (go.comes u p) = phase_refuses u p
none_refused k c x j m (go.cleared key place w) = cleared_refuses key w
none_refused k c x j m (go.phase_stored u p) = vip_refuses u p
none_refused k c x j m (go.pass_last g pipe w e n) = passed_refuses w
none_refused k c x j m (go.drain_last pipe count w e n) = waited_refuses c.vips (book_next k c (job.Drain pipe count w) x).entries w
none_refused k c x j m g = tt

on_none : (P : ℕ → Type 0) (j : Job) → NoRefusal j → OnRefused j P
on_none P (job.Draw (draw.Refused change)) n = absurd n
on_none P j n = tt

-- ---- facts of ungiven updates

pub none_ungiven : (update : Option PoolUpdate) (m : Job) (P : PoolUpdate → Type 0) → is_ungiven m ≡ false → OnUngiven update m P
none_ungiven None m P e = tt
none_ungiven (Some u) m P e = λ t. absurd (true≢false (sym t ∙ e))

-- ---- entries that are counted stay

count_more : (l : LayoutView) (numbers : NumberRows) (ended : Option KeyView) (x v n : ℕ) (b d : Book) → TakesBook l numbers ended x b d
    → count_of v n b.entries ≤ count_of v n d.entries
count_more l numbers ended x v n b d (same_book u) = omega arith
count_more l numbers ended x v n b d (learned_book w q r s f) =
    omega (arith, sum_by-append (λ e. cond (has_version v n e) 1 0) b.entries (fresh w.key w.version b.taken ∷ []))
count_more l numbers ended x v n b d (closed_book w q r s) = omega (arith, kept b.entries)
  where
    same : (e : Entry) → has_version v n (if is_of w.key e then closed e else e) ≡ has_version v n e
    same e = at (is_of w.key e)
      where
        at : (t : Bool) → has_version v n (if t then closed e else e) ≡ has_version v n e
        at true = refl
        at false = refl

    kept : (es : List Entry) → count_of v n (with_changed closed w.key es) ≡ count_of v n es
    kept [] = refl
    kept (e ∷ es) =
        sum_by-cons (λ e. cond (has_version v n e) 1 0) (if is_of w.key e then closed e else e) (with_changed closed w.key es)
        ∙ (cc (same e, kept es) ∙ sym (sum_by-cons (λ e. cond (has_version v n e) 1 0) e es))

-- ---- the lines that a step prints

module _ (k : Config) (c : ControllerView) (x : ℕ) (lines : List Line) where
  -- a change is still to come after a line that neither gives nor refuses
  come_on : (d : Draw) → draws_given (job.Draw d) ≡ false → NoRefusal (job.Draw d) → (g : GiveChange) → IsToCome lines g
      → IsToCome (option_to_list (draw_line k c d x) ++ lines) g
  come_on (draw.Given u) e n g h = cc
  come_on (draw.Refused i) e n g h = absurd n
  come_on (draw.Grace w) e n g h = h
  come_on (draw.From ms) e n g h = h
  come_on (draw.TakenDown i) e n g h = record { pool = h.pool; position = h.position }
  come_on (draw.Comes u Steady) e n g h = record { pool = h.pool; position = h.position }
  come_on (draw.Comes u Recording) e n g h = record { pool = h.pool; position = h.position }
  come_on (draw.Comes u Holding) e n g h = record { pool = h.pool; position = h.position }
  come_on (draw.Comes u Transit) e n g h = record { pool = h.pool; position = h.position }
  come_on (draw.Reserved p) e n g h = record { pool = h.pool; position = h.position }
  come_on (draw.Placed p) e n g h = record { pool = h.pool; position = h.position }
  come_on (draw.Cleared key place w) e n g h = record { pool = h.pool; position = h.position }
  come_on (draw.Retired key place i) e n g h = record { pool = h.pool; position = h.position }
  come_on (draw.Answer r) e n g h = record { pool = h.pool; position = h.position }
  come_on (draw.Swept from ms) e n g h = record { pool = h.pool; position = h.position }

  enough_on : (o : Option Line) → k.layout.vips ≤ length lines → k.layout.vips ≤ length (option_to_list o ++ lines)
  enough_on None h = h
  enough_on (Some l) h = omega arith

  -- a pool that is given is below those that are still to come
  given_come : (u : PoolUpdate) (g : GiveChange) → IsToCome lines g → (g.vip ≡ u.vip → u.pool < g.pool)
      → IsToCome (line.Given x u.vip u.given u.pool ∷ lines) g
  given_come u g h a = record { pool = at (u.vip == g.vip) refl; position = h.position }
    where
      at : (b : Bool) → (u.vip == g.vip) ≡ b → ((b && nat_le g.pool u.pool) || list_any (was_given_past g.vip g.pool) lines) ≡ false
      at true q =
          let e : g.vip ≡ u.vip = grind (arith, nat_tests) in
          let less : nat_le g.pool u.pool ≡ false = grind (arith, nat_tests, a e) in
          ap (λ b. b || list_any (was_given_past g.vip g.pool) lines) less ∙ h.pool
      at false q = h.pool

  refused_come : (i : ℕ) (g : GiveChange) → IsToCome lines g → i < g.position → IsToCome (line.Refused x i ∷ lines) g
  refused_come i g h a =
      let less : nat_le g.position i ≡ false = grind (arith, nat_tests) in
      record { pool = h.pool; position = ap (λ b. b || list_any (refused_past g.position) lines) less ∙ h.position }

-- ---- steps that are no update's lead to jobs that are none

-- a wait that ends, and what belongs to an update, are looked at by themselves
abbrev IsSmooth : Job → Type 0
IsSmooth (job.Draw (draw.Given u)) = ⊥
IsSmooth (job.Draw (draw.Comes u p)) = ⊥
IsSmooth (job.Draw (draw.Refused i)) = ⊥
IsSmooth (job.Store (store.Vip u p)) = ⊥
IsSmooth (job.Store (store.Head u)) = ⊥
IsSmooth (job.Store (store.Filter u index)) = ⊥
IsSmooth (job.Pass g pipe w) = ⊥
IsSmooth j = Unit {0}

smooth_goes : (k : Config) (c : ControllerView) (x : ℕ) (j m : Job) → Goes k c x j m → IsSmooth j → JobFits k.layout j → IsPlainGroup m
smooth_goes k c x j m (go.given u) s f = absurd s
smooth_goes k c x j m (go.comes u p) s f = absurd s
smooth_goes k c x j m (go.phase_stored u p) s f = absurd s
smooth_goes k c x j m (go.pass_stays g pipe w e) s f = absurd s
smooth_goes k c x j m (go.pass_next g pipe w e n) s f = absurd s
smooth_goes k c x j m (go.pass_last g pipe w e n) s f = absurd s
smooth_goes k c x j m (go.cleared key place w) s f = plain_cleared key w
smooth_goes k c x j m (go.drain_last pipe count w e n) s f = plain_waited c.vips (book_next k c (job.Drain pipe count w) x).entries w f.2
smooth_goes k c x j m g s f = tt

smooth_plain : (j : Job) → IsSmooth j → IsPlainGroup j
smooth_plain (job.Draw (draw.Comes u p)) s = absurd s
smooth_plain (job.Store (store.Vip u p)) s = absurd s
smooth_plain j s = tt

-- ---- every step

module _ (k : Config) (c : ControllerView) (x : ℕ) (lines : List Line) (w : ControllerFits k c) where
  abbrev pub Was : Job → Type 0
  Was j = ChangesHold k lines c.update c.vips c.numbers c.book.entries c.gives c.refusing j

  abbrev pub Is : Job → Job → Type 0
  Is j m = ChangesHold k (tells k c j x ++ lines) (update_next k c j) (vips_next c j) (numbers_next k c j x) (book_next k c j x).entries c.gives c.refusing m

  -- a line is drawn that is no update's and refuses nothing
  drawn : (d : Draw) (numbers : NumberRows) (es : List Entry) → IsSmooth (job.Draw d) → draws_given (job.Draw d) ≡ false → NoRefusal (job.Draw d)
      → ((u : PoolUpdate) → d ≡ draw.Given u → ⊥) → (IsAtLeisure (job.Draw d) → ⊥) → is_ungiven (job.Draw d) ≡ false
      → Was (job.Draw d) → ChangesHold k (option_to_list (draw_line k c d x) ++ lines) c.update c.vips numbers es c.gives c.refusing (job_next k c (job.Draw d) x)
  drawn d numbers es s e n not_given busy u h =
      let j = job.Draw d in
      let m = job_next k c j x in
      let g = goes k c x j in
      let un : is_ungiven m ≡ false = same_ungiven k c x j m g e ∙ u in
      record {
        may_refuse = λ t. absurd (busy (h.may_refuse t).leisure);
        refused = on_none (IsRefused k c.update numbers es c.gives) m (none_refused k c x j m g);
        unrefused = on_none (λ i. list_any (refused_past i) (option_to_list (draw_line k c d x) ++ lines) ≡ false) m (none_refused k c x j m g);
        to_come = all_then (IsToCome lines) (IsToCome (option_to_list (draw_line k c d x) ++ lines)) (come_on k c x lines d e n) c.gives h.to_come;
        new = none_ungiven c.update m (λ u. list_any (was_given_past u.vip u.pool) (option_to_list (draw_line k c d x) ++ lines) ≡ false) un;
        after = none_ungiven c.update m (λ u. AllByRecursion (λ g. g.vip ≡ u.vip → u.pool < g.pool) c.gives) un;
        enough = enough_on k c x lines (draw_line k c d x) h.enough;
        group = ap (group_by c.update c.vips m) (line_group k c x lines h.enough d (smooth_plain j s) not_given) ∙ (plain_group c.update c.vips j m (group_last k.layout.vips lines) (smooth_plain j s) (smooth_goes k c x j m g s tt) ∙ h.group);
      }

  -- nothing is drawn, and no update's step is made
  quiet : (j : Job) (numbers : NumberRows) (es : List Entry) → IsPlainGroup j → IsPlainGroup (job_next k c j x) → draws_given j ≡ false
      → (c.refusing ≡ true → MayBeRefused k.layout.shape.versions c.update numbers es c.gives (job_next k c j x))
      → Was j → ChangesHold k lines c.update c.vips numbers es c.gives c.refusing (job_next k c j x)
  quiet j numbers es s n e may h =
      let m = job_next k c j x in
      let g = goes k c x j in
      record {
        may_refuse = may;
        refused = on_none (IsRefused k c.update numbers es c.gives) m (none_refused k c x j m g);
        unrefused = on_none (λ i. list_any (refused_past i) lines ≡ false) m (none_refused k c x j m g);
        to_come = h.to_come;
        new = ungiven_same j m (same_ungiven k c x j m g e) c.update (λ u. list_any (was_given_past u.vip u.pool) lines ≡ false) h.new;
        after = ungiven_same j m (same_ungiven k c x j m g e) c.update (λ u. AllByRecursion (λ g. g.vip ≡ u.vip → u.pool < g.pool) c.gives) h.after;
        enough = h.enough;
        group = plain_group c.update c.vips j m (group_last k.layout.vips lines) s n ∙ h.group;
      }

  -- with another update, word or line
  other : (j : Job) (now : List Line) (update : Option PoolUpdate) (vips : List VipWord) (numbers : NumberRows) (m : Job) → NoRefusal m → (IsAtLeisure j → ⊥)
      → is_ungiven m ≡ false → Was j → AllByRecursion (IsToCome now) c.gives → k.layout.vips ≤ length now
      → group_by update vips m (group_last k.layout.vips now) ≡ true
      → ChangesHold k now update vips numbers c.book.entries c.gives c.refusing m
  other j now update vips numbers m n busy un h come enough group = record {
    may_refuse = λ t. absurd (busy (h.may_refuse t).leisure);
    refused = on_none (IsRefused k update numbers c.book.entries c.gives) m n;
    unrefused = on_none (λ i. list_any (refused_past i) now ≡ false) m n;
    to_come = come;
    new = none_ungiven update m (λ u. list_any (was_given_past u.vip u.pool) now ≡ false) un;
    after = none_ungiven update m (λ u. AllByRecursion (λ g. g.vip ≡ u.vip → u.pool < g.pool) c.gives) un;
    enough = enough;
    group = group;
  }

  -- the first change stays refusable as words are taken
  nothing_free : (gives : List GiveChange) (es fs : List Entry) → ((v n : ℕ) → count_of v n es ≤ count_of v n fs)
      → NothingFree k.layout.shape.versions c.numbers es gives
      → NothingFree k.layout.shape.versions c.numbers fs gives
  nothing_free [] es fs g h = absurd h
  nothing_free (g ∷ rest) es fs more h = λ n b. sum_counts n (h n b)
    where
      sum_counts : (n : ℕ) → (state_of g.vip n c.numbers ≡ Some Current) ⊎ ((state_of g.vip n c.numbers ≡ Some Draining) × (1 ≤ count_of g.vip n es))
          → (state_of g.vip n c.numbers ≡ Some Current) ⊎ ((state_of g.vip n c.numbers ≡ Some Draining) × (1 ≤ count_of g.vip n fs))
      sum_counts n (inl a) = inl a
      sum_counts n (inr a) = let t = more g.vip n in inr (a.0, omega (arith, a.1, t))

  look_leisure : (pipe : ℕ) (m : Job) → Goes k c x (job.Look pipe) m → IsAtLeisure m
  look_leisure pipe m (go.look_next p e n) = tt
  look_leisure pipe m (go.look_last p e n) = tt
  look_leisure pipe m (go.look_took p e) = tt

  pass_group : (g pipe : ℕ) (wt : Wait) (m : Job) (o : Option Line) → Goes k c x (job.Pass g pipe wt) m → JobAt k c.update c.vips (job.Pass g pipe wt)
      → group_by c.update c.vips (job.Pass g pipe wt) o ≡ true → group_by c.update c.vips m o ≡ true
  pass_group g pipe wt m o (go.pass_stays h p v e) a t = t
  pass_group g pipe wt m o (go.pass_next h p v e n) a t = plain_group c.update c.vips (job.Pass g pipe wt) (job.Pass g (pipe + 1) wt) o tt tt ∙ t
  pass_group g pipe wt m o (go.pass_last h p v e n) a t = passed_group k c o g pipe wt a t

  filter_on : (u : PoolUpdate) (index : ℕ) (last : Bool) → UpdateHolds k c.update c.vips (job.Store (store.Filter u index)) → Was (job.Store (store.Filter u index))
      → ChangesHold k lines (if last then None else c.update) c.vips (drained last u c.numbers) c.book.entries c.gives c.refusing (if last then job.Free else job.Store (store.Filter u (index + 1)))
  filter_on u index true p h =
      other (job.Store (store.Filter u index)) lines None c.vips (drained true u c.numbers) job.Free tt (λ t. t) refl h h.to_come h.enough (over_group k c x lines h.enough u index (group_last k.layout.vips lines) p.phase.0 h.group)
  filter_on u index false p h =
      other (job.Store (store.Filter u index)) lines c.update c.vips c.numbers (job.Store (store.Filter u (index + 1))) tt (λ t. t) refl h h.to_come h.enough (plain_group c.update c.vips (job.Store (store.Filter u index)) (job.Store (store.Filter u (index + 1))) (group_last k.layout.vips lines) tt tt ∙ h.group)

  given_all : (u : PoolUpdate) (gives : List GiveChange) → AllByRecursion (IsToCome lines) gives → AllByRecursion (λ g. g.vip ≡ u.vip → u.pool < g.pool) gives
      → AllByRecursion (IsToCome (line.Given x u.vip u.given u.pool ∷ lines)) gives
  given_all u gives a b =
      all_both (IsToCome lines) (λ g. g.vip ≡ u.vip → u.pool < g.pool) (IsToCome (line.Given x u.vip u.given u.pool ∷ lines)) (λ g. given_come k c x lines u g) gives a b

  pub changes_go : (j : Job) → UpdateHolds k c.update c.vips j → JobFits k.layout j → Was j → Is j (job_next k c j x)
  changes_go (job.Draw (draw.Given u)) p f h =
      let e = p.phase.0 in
      let fits : UpdateFits k u = of_some (UpdateFits k) c.update u p.fits e in
      let after : OnUngiven (Some u) (job.Draw (draw.Given u)) (λ u. AllByRecursion (λ g. g.vip ≡ u.vip → u.pool < g.pool) c.gives) =
      subst (λ o. OnUngiven o (job.Draw (draw.Given u)) (λ u. AllByRecursion (λ g. g.vip ≡ u.vip → u.pool < g.pool) c.gives)) e h.after in
      other (job.Draw (draw.Given u)) (line.Given x u.vip u.given u.pool ∷ lines) c.update c.vips (with_state u.vip u.given Current c.numbers) (job.Draw (draw.Comes u Recording)) tt (λ t. t) refl h
      (given_all u c.gives h.to_come (after refl)) (omega (arith, h.enough)) (given_group k c x lines h.enough u fits p.phase)
  changes_go (job.Draw (draw.Comes u p)) q f h =
      other (job.Draw (draw.Comes u p)) (phase_line u x p ∷ lines) c.update c.vips c.numbers (phase_job u p) (phase_refuses u p) (λ t. t) (phase_given u p) h
      (all_then (IsToCome lines) (IsToCome (phase_line u x p ∷ lines)) (come_on k c x lines (draw.Comes u p) refl tt) c.gives h.to_come) (omega (arith, h.enough)) (comes_group k c x lines h.enough u p (comes_fits p q) q.phase)
    where
      comes_fits : (p : Phase) → UpdateHolds k c.update c.vips (job.Draw (draw.Comes u p)) → UpdateFits k u
      comes_fits Steady q = of_some (UpdateFits k) c.update u q.fits q.phase.0
      comes_fits Recording q = of_some (UpdateFits k) c.update u q.fits q.phase.0
      comes_fits Holding q = of_some (UpdateFits k) c.update u q.fits q.phase.0
      comes_fits Transit q = of_some (UpdateFits k) c.update u q.fits q.phase.0
  changes_go (job.Draw (draw.Refused i)) p f h =
      other (job.Draw (draw.Refused i)) (line.Refused x i ∷ lines) c.update c.vips c.numbers job.Free tt (λ t. t) refl h
      (all_both (IsToCome lines) (λ g. i < g.position) (IsToCome (line.Refused x i ∷ lines)) (λ g. refused_come k c x lines i g) c.gives h.to_come h.refused.later) (omega (arith, h.enough))
      (ap (group_by c.update c.vips job.Free) (line_group k c x lines h.enough (draw.Refused i) tt (λ u t. cc)) ∙ (plain_group c.update c.vips (job.Draw (draw.Refused i)) job.Free (group_last k.layout.vips lines) tt tt ∙ h.group))
  changes_go (job.Draw (draw.Grace wt)) p f h = drawn (draw.Grace wt) c.numbers c.book.entries tt refl tt (λ u t. cc) (λ t. t) refl h
  changes_go (job.Draw (draw.TakenDown i)) p f h = drawn (draw.TakenDown i) c.numbers c.book.entries tt refl tt (λ u t. cc) (λ t. t) refl h
  changes_go (job.Draw (draw.Reserved q)) p f h = drawn (draw.Reserved q) c.numbers c.book.entries tt refl tt (λ u t. cc) (λ t. t) refl h
  changes_go (job.Draw (draw.Placed q)) p f h = drawn (draw.Placed q) c.numbers c.book.entries tt refl tt (λ u t. cc) (λ t. t) refl h
  changes_go (job.Draw (draw.Cleared key place y)) p f h = drawn (draw.Cleared key place y) c.numbers c.book.entries tt refl tt (λ u t. cc) (λ t. t) refl h
  changes_go (job.Draw (draw.Retired key place n)) p f h =
      drawn (draw.Retired key place n) c.numbers (without_key key c.book.entries) tt refl tt (λ u t. cc) (λ t. t) refl h
  changes_go (job.Draw (draw.Answer r)) p f h = drawn (draw.Answer r) c.numbers c.book.entries tt refl tt (λ u t. cc) (λ t. t) refl h
  changes_go (job.Draw (draw.From ms)) p f h = drawn (draw.From ms) c.numbers c.book.entries tt refl tt (λ u t. cc) (λ t. t) refl h
  changes_go (job.Draw (draw.Swept from ms)) p f h = drawn (draw.Swept from ms) c.numbers c.book.entries tt refl tt (λ u t. cc) (λ t. t) refl h
  changes_go (job.Store (store.Vip u p)) q f h =
      let fits : UpdateFits k u = of_some (UpdateFits k) c.update u q.fits (storing k c.update c.vips u p q.phase) in
      other (job.Store (store.Vip u p)) lines c.update (slice_set c.vips u.vip (phase_word u p)) c.numbers (job.Draw (vip_draw u p)) (vip_refuses u p) (λ t. t) (vip_given u p) h h.to_come h.enough
      (stored_group k c x lines h.enough u p (group_last k.layout.vips lines) fits w.vips q.phase h.group)
  changes_go (job.Store (store.Filter u index)) p f h = filter_on u index (is_last_filter k.layout index) p h
  changes_go (job.Store (store.Head u)) p f h =
      quiet (job.Store (store.Head u)) c.numbers c.book.entries tt tt refl (λ t. absurd (h.may_refuse t).leisure) h
  changes_go (job.Pass g pipe wt) p f h =
      let m = job_next k c (job.Pass g pipe wt) x in
      let t = goes k c x (job.Pass g pipe wt) in
      other (job.Pass g pipe wt) lines c.update c.vips c.numbers m (none_refused k c x (job.Pass g pipe wt) m t) (λ z. z) (same_ungiven k c x (job.Pass g pipe wt) m t refl) h h.to_come h.enough
      (pass_group g pipe wt m (group_last k.layout.vips lines) t p.phase h.group)
  changes_go (job.Look pipe) p f h =
      let m = job_next k c (job.Look pipe) x in
      let g = goes k c x (job.Look pipe) in
      let t = taking k c None pipe x in
      quiet (job.Look pipe) c.numbers t.book.entries tt (smooth_goes k c x (job.Look pipe) m g tt f) refl
      (λ r. let o = h.may_refuse r in record { none = o.none; leisure = look_leisure pipe m g; full = nothing_free c.gives c.book.entries t.book.entries (λ v n. count_more k.layout c.numbers None x v n c.book t.book (takes k c None pipe x).book) o.full }) h
  changes_go job.Free p f h = quiet job.Free c.numbers c.book.entries tt tt refl h.may_refuse h
  changes_go (job.Drain pipe count wt) p f h =
      let m = job_next k c (job.Drain pipe count wt) x in
      let g = goes k c x (job.Drain pipe count wt) in
      quiet (job.Drain pipe count wt) (numbers_next k c (job.Drain pipe count wt) x) (book_next k c (job.Drain pipe count wt) x).entries tt (smooth_goes k c x (job.Drain pipe count wt) m g tt f) refl (λ t. absurd (h.may_refuse t).leisure) h
  changes_go (job.Hit from ms key place n) p f h =
      let m = job_next k c (job.Hit from ms key place n) x in
      let g = goes k c x (job.Hit from ms key place n) in
      quiet (job.Hit from ms key place n) c.numbers (book_next k c (job.Hit from ms key place n) x).entries tt (smooth_goes k c x (job.Hit from ms key place n) m g tt f) refl (λ t. absurd (h.may_refuse t).leisure) h
  changes_go (job.Store (store.Down i)) p f h = quiet (job.Store (store.Down i)) c.numbers c.book.entries tt tt refl (λ t. absurd (h.may_refuse t).leisure) h
  changes_go (job.Store (store.Member u i)) p f h =
      let m = job_next k c (job.Store (store.Member u i)) x in
      let g = goes k c x (job.Store (store.Member u i)) in
      quiet (job.Store (store.Member u i)) c.numbers c.book.entries tt (smooth_goes k c x (job.Store (store.Member u i)) m g tt f) refl (λ t. absurd (h.may_refuse t).leisure) h
  changes_go (job.Store (store.Reserved q)) p f h = quiet (job.Store (store.Reserved q)) c.numbers c.book.entries tt tt refl (λ t. absurd (h.may_refuse t).leisure) h
  changes_go (job.Store (store.Judge q)) p f h =
      let m = job_next k c (job.Store (store.Judge q)) x in
      let g = goes k c x (job.Store (store.Judge q)) in
      quiet (job.Store (store.Judge q)) c.numbers (book_next k c (job.Store (store.Judge q)) x).entries tt (smooth_goes k c x (job.Store (store.Judge q)) m g tt f) refl (λ t. absurd (h.may_refuse t).leisure) h
  changes_go (job.Store (store.Empty key place y)) p f h =
      quiet (job.Store (store.Empty key place y)) c.numbers (with_changed left_other key c.book.entries) tt tt refl (λ t. absurd (h.may_refuse t).leisure) h

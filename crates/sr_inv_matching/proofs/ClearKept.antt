-- A key that isn't registered and is put into a slot is clear, until it is made live or given up.
use Rattle.std.proofs.Common.{◌≡◌, ℕ, Bool, true, false, true≢false, not, ◌&&◌, ◌||◌, List, [], ◌∷◌, ◌++◌, map, if◌then◌else◌, Some, None, Option, sym, refl, ap, ◌∙◌, subst}
use Rattle.std.proofs.lemmas.Option.{same_Some}
use Rattle.sr_base.specs.Key.{KeyView, same_key}
use Rattle.sr_base.specs.Layout.{LayoutView}
use Rattle.sr_base.specs.declared.place.Place.TheVariants.{Row}
use Rattle.sr_base.specs.declared.shape.Shape.{Shape}
use Rattle.sr_base.specs.declared.vip_word.Phase.TheVariants.{Steady, Recording, Holding, Transit}
use Rattle.sr_base.specs.declared.vip_word.VipWord.{VipWord}
use Rattle.sr_inv_facts.proofs.Beginning.{begun_by}
use Rattle.std.specs.List.{list_any}
use Rattle.sr_inv_facts.proofs.Books.{field_kept}
use Rattle.sr_inv_facts.proofs.Taking.{TakesBook, closed_book, learned_book, same_book, takes}
use Rattle.sr_inv_facts.specs.Doing.{OnJudge, OnPut}
use Rattle.sr_inv_facts.specs.Fitted.{IsPacket}
use Rattle.sr_inv_facts.specs.InMatching.{IsClearPut, PutsAreClear}
use Rattle.sr_inv_facts.specs.Invariant.{Invariant}
use Rattle.sr_inv_facts.specs.Laws.{OpensWith}
use Rattle.sr_inv_matching.proofs.Members.{registered_found}
use Rattle.sr_machine.proofs.Following.{goes}
use Rattle.sr_machine.specs.Begins.{Begins}
use Rattle.sr_machine.specs.Core.{Core}
use Rattle.sr_machine.specs.Deciding.{dead_reply, is_withdrawn, version_for}
use Rattle.sr_machine.specs.Goes.{Goes}
use Rattle.sr_machine.specs.Jobs.{book_next, job_next, job_op, judged_book}
use Rattle.sr_machine.specs.Keeping.{AfterJob, AfterStage, Keeps, begun_core}
use Rattle.sr_machine.specs.Opening.{opening_controller}
use Rattle.sr_machine.specs.Ops.{op_answer, op_name}
use Rattle.sr_machine.specs.Pipe.{pipe_op}
use Rattle.sr_machine.specs.Starting.{Start, put_of}
use Rattle.sr_machine.specs.Stores.{judged_draw}
use Rattle.sr_machine.specs.Taking.{ended_by}
use Rattle.sr_machine.specs.Waiting.{all_passed, live_job, waited_job}
use Rattle.sr_machine.specs.declared.job.Job.{Job}
use Rattle.sr_machine.specs.declared.op.Op.{Op}
use Rattle.sr_machine.specs.declared.pipe_view.PipeView.{PipeView}
use Rattle.sr_machine.specs.declared.put.Aim.{Aim}
use Rattle.sr_machine.specs.declared.put.Put.{Put}
use Rattle.sr_machine.specs.declared.stage.Stage.{Stage}
use Rattle.sr_machine.specs.declared.wait.Wait.{Wait}
use Rattle.sr_shadow.proofs.MovedEntry.{mover_at}
use Rattle.sr_shadow.proofs.Planned.{slot_given}
use Rattle.sr_shadow.specs.Book.{is_registered}
use Rattle.sr_shadow.specs.Entry.{closed, fresh, is_of}
use Rattle.sr_shadow.specs.Plan.{clashes_at, first_plan, is_mistaken}
use Rattle.sr_shadow.specs.declared.book.Book.{Book}
use Rattle.sr_shadow.specs.declared.entry.Entry.{Entry}
use Rattle.sr_shadow.specs.declared.plan.Plan.{Plan}
use Rattle.sr_update.specs.Numbers.{NumberRows}
use Rattle.sr_machine.specs.Begins as begin
use Rattle.sr_machine.specs.Goes as go
use Rattle.sr_machine.specs.declared.draw.Draw.TheVariants as draw
use Rattle.sr_machine.specs.declared.job.Job.TheVariants as job
use Rattle.sr_machine.specs.declared.put.Aim.TheVariants as aim
use Rattle.sr_machine.specs.declared.store.Store.TheVariants as store
use Rattle.sr_machine.specs.declared.wait.Wait.TheVariants as wait
use Rattle.sr_machine.specs.declared.why.Why.TheVariants as why
use Rattle.sr_shadow.specs.declared.plan.Plan.TheVariants as plan

-- ---- the book grows

registered_more : (key : KeyView) (es : List Entry) (e : Entry) → is_registered key (es ++ e ∷ []) ≡ false → is_registered key es ≡ false
registered_more key [] e h = refl
registered_more key (x ∷ es) e h = at (is_of key x) h (registered_more key es e)
  where
    at : (b : Bool) → (b || is_registered key (es ++ e ∷ [])) ≡ false → (is_registered key (es ++ e ∷ []) ≡ false → is_registered key es ≡ false)
        → (b || is_registered key es) ≡ false
    at true q more = cc
    at false q more = more q

fresh_nowhere : (shape : Shape) (key own : KeyView) (version taken : ℕ) → is_mistaken shape key (fresh own version taken) ≡ false
fresh_nowhere shape key own version taken = at (is_of key (fresh own version taken))
  where
    at : (b : Bool) → (not b && false) ≡ false
    at true = refl
    at false = refl

mistaken_more : (shape : Shape) (key : KeyView) (es : List Entry) (e : Entry) → is_mistaken shape key e ≡ false
    → list_any (is_mistaken shape key) (es ++ e ∷ []) ≡ list_any (is_mistaken shape key) es
mistaken_more shape key [] e h = ap (λ b. b || false) h
mistaken_more shape key (x ∷ es) e h = ap (λ b. is_mistaken shape key x || b) (mistaken_more shape key es e h)

-- what doesn't change whose entries stand where
module _ (shape : Shape) (key : KeyView) (g : Entry → Entry) (keys : (e : Entry) → (g e).key ≡ e.key) (places : (e : Entry) → (g e).place ≡ e.place) where
  registered_same : (es : List Entry) → is_registered key (map g es) ≡ is_registered key es
  registered_same [] = refl
  registered_same (e ∷ es) = cc (ap (same_key key) (keys e), registered_same es)

  mistaken_same : (es : List Entry) → list_any (is_mistaken shape key) (map g es) ≡ list_any (is_mistaken shape key) es
  mistaken_same [] = refl
  mistaken_same (e ∷ es) = cc (one, mistaken_same es)
    where
      one : is_mistaken shape key (g e) ≡ is_mistaken shape key e
      one =
          ap (λ k. not (same_key key k) && clashes_at shape key k (g e).place) (keys e)
          ∙ ap (λ o. not (same_key key e.key) && clashes_at shape key e.key o) (places e)

clear_take : (l : LayoutView) (numbers : NumberRows) (ended : Option KeyView) (x : ℕ) (b d : Book) → TakesBook l numbers ended x b d → (q : Put)
    → IsClearPut l.shape b.entries q → IsClearPut l.shape d.entries q
clear_take l numbers ended x b d (same_book u) q h = h
clear_take l numbers ended x b d (learned_book w r k c f) q h = λ slot none.
    ap not (mistaken_more l.shape q.key b.entries (fresh w.key w.version b.taken) (fresh_nowhere l.shape q.key w.key w.version b.taken))
    ∙ h slot (registered_more q.key b.entries (fresh w.key w.version b.taken) none)
clear_take l numbers ended x b d (closed_book w r k c) q h = λ slot none.
    ap not (mistaken_same l.shape q.key g keys places b.entries) ∙ h slot (sym (registered_same l.shape q.key g keys places b.entries) ∙ none)
  where
    g : Entry → Entry
    g = λ e. if is_of w.key e then closed e else e

    keys : (e : Entry) → (g e).key ≡ e.key
    keys e = field_kept (λ e. e.key) closed (λ e. refl) w.key e

    places : (e : Entry) → (g e).place ≡ e.place
    places e = field_kept (λ e. e.place) closed (λ e. refl) w.key e

-- ---- which job follows

judge_then : (w : Wait) (P Q : Put → Type 0) → ((q : Put) → P q → Q q) → OnJudge w P → OnJudge w Q
judge_then (wait.Judge p) P Q f h = f p h
judge_then (wait.Live p) P Q f h = tt
judge_then (wait.Retire key) P Q f h = tt
judge_then (wait.Comes u p) P Q f h = tt
judge_then (wait.Release vip n) P Q f h = tt

module _ (P : Put → Type 0) where
  put_passed : (w : Wait) → OnJudge w P → OnPut (all_passed w) P
  put_passed (wait.Judge p) h = h
  put_passed (wait.Live p) h = tt
  put_passed (wait.Retire key) h = tt
  put_passed (wait.Comes u Steady) h = tt
  put_passed (wait.Comes u Recording) h = tt
  put_passed (wait.Comes u Holding) h = tt
  put_passed (wait.Comes u Transit) h = tt
  put_passed (wait.Release vip n) h = tt

  put_lived : (vips : List VipWord) (es : List Entry) (p : Put) (a : Aim) → OnPut (live_job vips es p a) P
  put_lived vips es p aim.Pending = tt
  put_lived vips es p (aim.Held h) = tt
  put_lived vips es p (aim.Move from planned) = tt

  put_waited : (vips : List VipWord) (es : List Entry) (w : Wait) → OnJudge w P → OnPut (waited_job vips es w) P
  put_waited vips es (wait.Judge p) h = h
  put_waited vips es (wait.Live p) h = put_lived vips es p p.aim
  put_waited vips es (wait.Retire key) h = tt
  put_waited vips es (wait.Comes u Steady) h = tt
  put_waited vips es (wait.Comes u Recording) h = tt
  put_waited vips es (wait.Comes u Holding) h = tt
  put_waited vips es (wait.Comes u Transit) h = tt
  put_waited vips es (wait.Release vip n) h = tt

  module _ (s : Core) where
    put_goes : (x : ℕ) (j m : Job) → Goes s.config s.controller x j m → OnPut j P → OnPut m P
    put_goes x j m (go.waits w) h = h
    put_goes x j m (go.reserved p) h = h
    put_goes x j m (go.reserve_stored p) h = h
    put_goes x j m (go.comes u Steady) h = tt
    put_goes x j m (go.comes u Recording) h = tt
    put_goes x j m (go.comes u Holding) h = tt
    put_goes x j m (go.comes u Transit) h = tt
    put_goes x j m (go.cleared key at (why.Withdrawn None)) h = tt
    put_goes x j m (go.cleared key at (why.Withdrawn (Some r))) h = tt
    put_goes x j m (go.cleared key at why.Source) h = tt
    put_goes x j m (go.cleared key at (why.Retired version)) h = tt
    put_goes x j m (go.phase_stored u Steady) h = tt
    put_goes x j m (go.phase_stored u Recording) h = tt
    put_goes x j m (go.phase_stored u Holding) h = tt
    put_goes x j m (go.phase_stored u Transit) h = tt
    put_goes x j m (go.pass_stays g pipe w a) h = h
    put_goes x j m (go.pass_next g pipe w a b) h = h
    put_goes x j m (go.pass_last g pipe w a b) h = put_passed w h
    put_goes x j m (go.drain_stays pipe count w a) h = h
    put_goes x j m (go.drain_next pipe count w a b) h = h
    put_goes x j m (go.drain_last pipe count w a b) h = put_waited s.controller.vips _ w h
    put_goes x j m g h = tt

module _ (s : Core) (i : Invariant s) where
  abbrev es : List Entry
  es = s.controller.book.entries

  abbrev Clear : List Entry → Put → Type 0
  Clear fs = IsClearPut s.config.layout.shape fs

  now : (j : Job) → s.controller.job ≡ j → OnPut j (Clear es)
  now j e = subst (λ z. OnPut z (Clear es)) e i.matching.matching.clear

  frame : (j : Job) (o : Option Op) → ((x : ℕ) → OnPut j (Clear (book_next s.config s.controller j x).entries)) → AfterJob PutsAreClear s j o
  frame j None h = tt
  frame j (Some o) h =
      let x = op_answer o (s.words (op_name o)) in
      put_goes (Clear (book_next s.config s.controller j x).entries) s x j (job_next s.config s.controller j x) (goes s.config s.controller x j) (h x)

  stage_kept : (p : ℕ) (v : PipeView) (at : Stage) (o : Option Op) → AfterStage PutsAreClear s p v at o
  stage_kept p v at None = tt
  stage_kept p v at (Some o) = i.matching.matching.clear

  job_kept : (j : Job) → s.controller.job ≡ j → AfterJob PutsAreClear s j (job_op s.config s.controller j)
  job_kept (job.Drain pipe count w) e =
      frame (job.Drain pipe count w) (job_op s.config s.controller (job.Drain pipe count w)) (λ x.
      judge_then w (Clear es) _ (clear_take s.config.layout s.controller.numbers (ended_by (job.Drain pipe count w)) x s.controller.book _ (takes s.config s.controller (ended_by (job.Drain pipe count w)) pipe x).book) (now (job.Drain pipe count w) e))
  job_kept (job.Look pipe) e = frame (job.Look pipe) (job_op s.config s.controller (job.Look pipe)) (λ x. tt)
  job_kept (job.Hit from ms key at n) e = frame (job.Hit from ms key at n) (job_op s.config s.controller (job.Hit from ms key at n)) (λ x. tt)
  job_kept (job.Draw (draw.Retired key at n)) e =
      frame (job.Draw (draw.Retired key at n)) (job_op s.config s.controller (job.Draw (draw.Retired key at n))) (λ x. tt)
  job_kept (job.Store (store.Empty key at y)) e =
      frame (job.Store (store.Empty key at y)) (job_op s.config s.controller (job.Store (store.Empty key at y))) (λ x. tt)
  job_kept (job.Store (store.Judge q)) e = by (is_withdrawn s.config s.controller q)
    where
      by : (b : Bool) → OnPut (job.Draw (judged_draw b q (dead_reply s.config s.controller q.aim))) (Clear (judged_book b q (version_for s.controller.vips es q.key) s.controller.book).entries)
      by true = tt
      by false = tt
  job_kept j e = frame j (job_op s.config s.controller j) (λ x. now j e)

  -- ---- what is begun

  planned : (key : KeyView) (what : Aim) (pl : Plan) (p : Put) → first_plan s.config.layout.shape es key ≡ pl → put_of key what pl ≡ Some p → Clear es p
  planned key what (plan.Slot place) p e q =
      subst (Clear es) (same_Some (record { key = key; place = place; aim = what }) p q) (λ slot none. (slot_given s.config.layout.shape es key place e).clear)
  planned key what (plan.Move other from to last) p e q =
      subst (Clear es) (same_Some (record { key = other; place = to; aim = aim.Move from key }) p q) (λ slot none.
      let m = mover_at s.config.layout.shape es key other from to last e i.shape.book.distinct in
      absurd (true≢false (sym (registered_found other es m.0 m.1) ∙ none)))
  planned key what (plan.FullKey row) p e q =
      subst (Clear es) (same_Some (record { key = key; place = Row row; aim = what }) p q) (λ slot none. cc)
  planned key what plan.NoRoom p e q = cc

  starts : (t : Start) → Begins s.config s.controller t → OnPut t.job (Clear es)
  starts t (begin.places_held h rest p r f g) = planned h.key (aim.Held h) (first_plan s.config.layout.shape es h.key) p refl g
  starts t (begin.places e p r f g) = planned e.key aim.Pending (first_plan s.config.layout.shape es e.key) p refl g
  starts t g = tt

  begins_kept : PutsAreClear (begun_core s)
  begins_kept = begun_by s.config s.controller (λ c. OnPut c.job (Clear es)) i.matching.matching.clear (λ q t g. starts t g)

pub clear_keep : Keeps IsPacket Invariant PutsAreClear
clear_keep = record {
  stages = λ s p v at q e i h. stage_kept s i p v at (pipe_op s.config.layout v at);
  begins = λ s i h. begins_kept s i;
  jobs = λ s j q b i h. job_kept s i j q;
  enters = λ s p v packet q r u n a i h. h;
  clocks = λ s ms q i h. h;
  refusals = λ s q i h. h;
}

pub clear_open : OpensWith PutsAreClear
unfolding opening_controller
clear_open k f = tt

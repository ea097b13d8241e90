-- Behind the drain before a put is made live no report is of a key that the put's place speaks to.
use Rattle.std.proofs.Common.{◌≡◌, ℕ, ◌+◌, ◌-◌, ◌*◌, ◌/◌, ◌%◌, ◌<◌, ◌≤◌, Bool, true, false, ◌||◌, ◌≢◌, ◌⊎◌, List, if◌then◌else◌, ◌==◌, slice_get, Some, None, Option, sym, refl, ap, ◌∙◌, subst, inl, inr, arith, div-add-mod'}
use Rattle.std.proofs.lemmas.Bool.{cases_lt}
use Rattle.std.proofs.lemmas.Bool.Decides.{nat_tests}
use Rattle.std.proofs.lemmas.Nat.{mod-mul-add, mod_below}
use Rattle.sr_base.specs.Layout.{LayoutView}
use Rattle.sr_base.specs.declared.place.Place.{Place}
use Rattle.sr_base.specs.declared.ring_word.RingWord.{RingWord}
use Rattle.sr_base.specs.declared.vip_word.Phase.TheVariants.{Steady, Recording, Holding, Transit}
use Rattle.sr_hash.specs.Uses.{is_place_of}
use Rattle.sr_inv_facts.proofs.Beginning.{begun_by}
use Rattle.sr_inv_facts.proofs.Ranges.{PutFits, put_fits}
use Rattle.sr_inv_facts.proofs.RingTakes.{Moved, moved}
use Rattle.sr_inv_facts.specs.Doing.{MissedReserved}
use Rattle.sr_inv_facts.specs.InWords.{job_word, put_word}
use Rattle.sr_machine.specs.declared.put.Aim.{Aim}
use Rattle.sr_machine.specs.declared.put.Aim.TheVariants as aim
use Rattle.sr_machine.specs.Waiting.{live_job}
use Rattle.sr_shadow.specs.declared.entry.Entry.{Entry}
use Rattle.sr_base.specs.declared.vip_word.VipWord.{VipWord}
use Rattle.sr_inv_facts.proofs.Taking.{none_reported}
use Rattle.sr_inv_facts.specs.Fitted.{IsPacket}
use Rattle.sr_inv_facts.specs.InJobs.{JobHolds, PutHolds, seen}
use Rattle.sr_inv_facts.specs.InMatching.{DrainsAreApart, IsApart, Judged}
use Rattle.sr_inv_facts.specs.InShape.{JobFits}
use Rattle.sr_inv_facts.specs.Invariant.{Invariant}
use Rattle.sr_inv_facts.specs.Laws.{OpensWith}
use Rattle.sr_inv_facts.specs.Readings.{EachBehind, IsBehind, Speaks, ring_words}
use Rattle.sr_inv_matching.proofs.Reports.{RingsAre, Stores, own_report, rings_stage, sent_missed}
use Rattle.sr_inv_matching.proofs.Saying.{reserved_is, reserved_speaks}
use Rattle.sr_machine.proofs.Following.{goes}
use Rattle.sr_machine.specs.Core.{Core, printed}
use Rattle.sr_machine.specs.Deciding.{ring_count}
use Rattle.sr_machine.specs.Goes.{Goes}
use Rattle.sr_machine.specs.Jobs.{job_next, job_op}
use Rattle.sr_machine.specs.Keeping.{AfterJob, AfterStage, Keeps, begun_core}
use Rattle.sr_machine.specs.Names.{rewritten, same_name}
use Rattle.sr_machine.specs.Opening.{opening_controller}
use Rattle.sr_machine.specs.Ops.{op_answer, op_name, op_words}
use Rattle.sr_machine.specs.Pipe.{pipe_op}
use Rattle.sr_machine.specs.Reads.{read_report, says, stands_for}
use Rattle.sr_machine.specs.Stages.{ring_cell}
use Rattle.sr_machine.specs.Taking.{taking}
use Rattle.sr_machine.specs.Waiting.{is_ring_done}
use Rattle.sr_machine.specs.declared.flight.Flight.{Flight}
use Rattle.sr_machine.specs.declared.job.Job.{Job}
use Rattle.sr_machine.specs.declared.name.Name.{Name}
use Rattle.sr_machine.specs.declared.op.Op.{Op}
use Rattle.sr_machine.specs.declared.pipe_view.PipeView.{PipeView}
use Rattle.sr_machine.specs.declared.put.Put.{Put}
use Rattle.sr_machine.specs.declared.ring_count.RingCount.{RingCount}
use Rattle.sr_machine.specs.declared.stage.Stage.{Stage}
use Rattle.sr_machine.specs.declared.stage.Stage.TheVariants.{Fly}
use Rattle.sr_base.specs.declared.kind.Kind.TheVariants.{Opener}
use Rattle.sr_machine.specs.declared.leg.Leg.TheVariants as leg
use Rattle.sr_machine.specs.declared.leg.Last.TheVariants as last
use Rattle.sr_law.specs.declared.verdict.Verdict.TheVariants as verdict
use Rattle.sr_machine.specs.Begins.{Begins}
use Rattle.sr_machine.specs.Begins as begin
use Rattle.sr_machine.specs.Starting.{Start}
use Rattle.sr_machine.specs.Goes as go
use Rattle.sr_machine.specs.declared.job.Job.TheVariants as job
use Rattle.sr_machine.specs.declared.name.Name.TheVariants as name
use Rattle.sr_machine.specs.declared.store.Store.TheVariants as store
use Rattle.sr_machine.specs.declared.wait.Wait.TheVariants as wait
use Rattle.sr_machine.specs.declared.why.Why.TheVariants as why

-- ---- a pipe's step

module _ (s : Core) (i : Invariant s) where
  abbrev l : LayoutView
  l = s.config.layout

  -- an opener that was sent is of no key that a reserved place speaks to
  sent_apart : (y : Put) (j : Job) → s.controller.job ≡ j → ((p entered : ℕ) (place : Place) → MissedReserved j p entered place → ⊥)
      → PutHolds l.shape s.controller.book.entries s.controller.held y → job_word l y.place j ≡ put_word l y.place y
      → (p : ℕ) (v : PipeView) (q : slice_get s.pipes p ≡ Some v) (f : Flight) (server version pool : ℕ)
      → v.stage ≡ Fly f (leg.Judged (verdict.To server version pool) last.Push) → f.packet.kind ≡ Opener
      → is_place_of l.shape f.packet.key y.place ≡ true → stands_for l y.place y.key f.packet.key ≡ false
  sent_apart y j e none put word p v q f server version pool at o own = by (stands_for l y.place y.key f.packet.key) refl
    where
      fits : PutFits l y
      fits = put_fits s.config i.shape.config.layout s.controller i.shape.book i.shape.controller y put

      by : (b : Bool) → stands_for l y.place y.key f.packet.key ≡ b → b ≡ false
      by false t = refl
      by true t =
          absurd (none p f.entered y.place (subst (λ z. MissedReserved z p f.entered y.place) e
          (sent_missed s i p v q f server version pool at o y.place own
          (subst (λ x. Speaks (says l y.place f.packet.key x)) (sym (reserved_is s i y j e put word)) (reserved_speaks l i.shape.config.layout y.place y.key f.packet.key fits.key.is_key t)))))

  holds : (j : Job) → s.controller.job ≡ j → JobHolds s.config (seen s.controller) (printed s) j
  holds j e = subst (JobHolds s.config (seen s.controller) (printed s)) e i.jobs.holds.stands

  stage_apart : (p : ℕ) (v : PipeView) (q : slice_get s.pipes p ≡ Some v) (t : ℕ → ℕ → ℕ)
      → ((n c : ℕ) → (t n c ≡ s.words (name.Ring n c)) ⊎ Stores s i p v q n c (t n c)) → (j : Job) → s.controller.job ≡ j
      → Judged l s.controller.rings (ring_words s.words) j → Judged l s.controller.rings t j
  stage_apart p v q t are (job.Drain pipe count (wait.Judge y)) e h = λ n m b c behind r read.
      at n ((((ring_count s.controller.rings n).words) + m) % l.shape.ring) r read (h n m b c behind r) (are n ((((ring_count s.controller.rings n).words) + m) % l.shape.ring))
    where
      at : (n c : ℕ) (r : RingWord) → read_report l (t n c) ≡ Some r → (read_report l (s.words (name.Ring n c)) ≡ Some r → IsApart l y r)
          → (t n c ≡ s.words (name.Ring n c)) ⊎ Stores s i p v q n c (t n c) → IsApart l y r
      at n c r read old (inl same) = old (ap (read_report l) (sym same) ∙ read)
      at n c r read old (inr st) =
          own_report s i p v q n c (t n c) r st read (λ key version. is_place_of l.shape key y.place ≡ true → stands_for l y.place y.key key ≡ false)
          (λ f server version pool at o. sent_apart y (job.Drain pipe count (wait.Judge y)) e (λ n entered place z. z) (holds (job.Drain pipe count (wait.Judge y)) e).0 refl p v q f server version pool at o)
  stage_apart p v q t are (job.Store (store.Judge y)) e h = λ n c r read. at n c r read (h n c r) (are n c)
    where
      at : (n c : ℕ) (r : RingWord) → read_report l (t n c) ≡ Some r → (read_report l (s.words (name.Ring n c)) ≡ Some r → IsApart l y r)
          → (t n c ≡ s.words (name.Ring n c)) ⊎ Stores s i p v q n c (t n c) → IsApart l y r
      at n c r read old (inl same) = old (ap (read_report l) (sym same) ∙ read)
      at n c r read old (inr st) =
          own_report s i p v q n c (t n c) r st read (λ key version. is_place_of l.shape key y.place ≡ true → stands_for l y.place y.key key ≡ false)
          (λ f server version pool at o. sent_apart y (job.Store (store.Judge y)) e (λ n entered place z. z) (holds (job.Store (store.Judge y)) e).0 refl p v q f server version pool at o)
  stage_apart p v q t are j e h = h

  stage_kept : (p : ℕ) (v : PipeView) (q : slice_get s.pipes p ≡ Some v) (a : Stage) (o : Option Op) → AfterStage (RingsAre s i p v q) s p v a o
      → AfterStage DrainsAreApart s p v a o
  stage_kept p v q a None are = tt
  stage_kept p v q a (Some o) are = stage_apart p v q (ring_words (op_words s.words o)) are s.controller.job refl i.matching.matching.judged

  -- ---- a step that drains nothing

  abbrev Drainless : Job → Type 0
  Drainless (job.Drain pipe count (wait.Judge y)) = ⊥
  Drainless j = Unit {0}

  module _ (rings : List RingCount) (t : ℕ → ℕ → ℕ) where
    live_apart : (vips : List VipWord) (es : List Entry) (y : Put) (a : Aim) → Judged l rings t (live_job vips es y a)
    live_apart vips es y aim.Pending = tt
    live_apart vips es y (aim.Held h) = tt
    live_apart vips es y (aim.Move from planned) = tt

    begins_apart : (y : Put) → Judged l rings t (job.Drain 0 0 (wait.Judge y))
    begins_apart y n m b c (inl h) = absurd (omega arith)
    begins_apart y n m b c (inr h) = absurd (omega (arith, h.1))

    goes_apart : (x : ℕ) (j m : Job) → Goes s.config s.controller x j m → Drainless j → Judged l rings t m
    goes_apart x j m (go.comes u Steady) d = tt
    goes_apart x j m (go.comes u Recording) d = tt
    goes_apart x j m (go.comes u Holding) d = tt
    goes_apart x j m (go.comes u Transit) d = tt
    goes_apart x j m (go.cleared key at (why.Withdrawn None)) d = tt
    goes_apart x j m (go.cleared key at (why.Withdrawn (Some r))) d = tt
    goes_apart x j m (go.cleared key at why.Source) d = tt
    goes_apart x j m (go.cleared key at (why.Retired version)) d = tt
    goes_apart x j m (go.pass_last g pipe (wait.Judge y) a b) d = begins_apart y
    goes_apart x j m (go.pass_last g pipe (wait.Live y) a b) d = tt
    goes_apart x j m (go.pass_last g pipe (wait.Retire key) a b) d = tt
    goes_apart x j m (go.pass_last g pipe (wait.Release vip n) a b) d = tt
    goes_apart x j m (go.pass_last g pipe (wait.Comes u Steady) a b) d = tt
    goes_apart x j m (go.pass_last g pipe (wait.Comes u Recording) a b) d = tt
    goes_apart x j m (go.pass_last g pipe (wait.Comes u Holding) a b) d = tt
    goes_apart x j m (go.pass_last g pipe (wait.Comes u Transit) a b) d = tt
    goes_apart x j m (go.drain_stays pipe count (wait.Judge y) a) d = absurd d
    goes_apart x j m (go.drain_next pipe count (wait.Judge y) a b) d = absurd d
    goes_apart x j m (go.drain_last pipe count (wait.Judge y) a b) d = absurd d
    goes_apart x j m (go.drain_last pipe count (wait.Live y) a b) d = live_apart s.controller.vips _ y y.aim
    goes_apart x j m (go.drain_last pipe count (wait.Retire key) a b) d = tt
    goes_apart x j m (go.drain_last pipe count (wait.Release vip n) a b) d = tt
    goes_apart x j m (go.drain_last pipe count (wait.Comes u Steady) a b) d = tt
    goes_apart x j m (go.drain_last pipe count (wait.Comes u Recording) a b) d = tt
    goes_apart x j m (go.drain_last pipe count (wait.Comes u Holding) a b) d = tt
    goes_apart x j m (go.drain_last pipe count (wait.Comes u Transit) a b) d = tt
    goes_apart x j m (go.judged_live y a) d = tt
    goes_apart x j m g d = tt

  frame : (j : Job) (o : Option Op) → Drainless j → AfterJob DrainsAreApart s j o
  frame j None d = tt
  frame j (Some o) d =
      let x = op_answer o (s.words (op_name o)) in
      goes_apart _ (ring_words (op_words s.words o)) x j (job_next s.config s.controller j x) (goes s.config s.controller x j) d

  -- ---- a step that drains

  -- each cell of a ring stands somewhere from the controller's place on
  cell_index : (ring taken c : ℕ) → c < ring → (m : ℕ) × (m < ring) × ((taken + m) % ring ≡ c)
  cell_index ring taken c b = at (cases_lt c (taken % ring))
    where
      whole : taken / ring * ring + taken % ring ≡ taken
      whole = div-add-mod' taken ring

      low : taken % ring < ring
      low = mod_below taken ring (omega arith)

      at : (c < taken % ring) ⊎ (taken % ring ≤ c) → (m : ℕ) × (m < ring) × ((taken + m) % ring ≡ c)
      at (inl h) =
          let m : ℕ = (ring - taken % ring) + c in
          let sum : taken + m ≡ (taken / ring + 1) * ring + c = omega (arith, whole, low) in
          (m, omega (arith, low), ap (λ z. z % ring) sum ∙ mod-mul-add (taken / ring + 1) ring c b)
      at (inr h) =
          let m : ℕ = c - taken % ring in
          let sum : taken + m ≡ taken / ring * ring + c = omega (arith, whole, low) in
          (m, omega arith, ap (λ z. z % ring) sum ∙ mod-mul-add (taken / ring) ring c b)

  done_full : (count x : ℕ) → is_ring_done l count x ≡ true → x ≢ 0 → count + 1 ≡ l.shape.ring
  done_full count x done full = at (x == 0) ((count + 1) == l.shape.ring) refl refl done
    where
      at : (a z : Bool) → (x == 0) ≡ a → ((count + 1) == l.shape.ring) ≡ z → (a || z) ≡ true → count + 1 ≡ l.shape.ring
      at true z p q d = absurd (full (grind (arith, nat_tests)))
      at false true p q d = grind (arith, nat_tests)
      at false false p q d = cc

  module _ (pipe count : ℕ) (y : Put) (e : s.controller.job ≡ job.Drain pipe count (wait.Judge y)) where
    abbrev here : Job
    here = job.Drain pipe count (wait.Judge y)

    abbrev cell : Name
    cell = ring_cell l pipe (ring_count s.controller.rings pipe).words

    abbrev x : ℕ
    x = s.words cell

    abbrev t : ℕ → ℕ → ℕ
    t = ring_words (rewritten s.words cell 0)

    abbrev rings : List RingCount
    rings = (taking s.config s.controller None pipe x).rings

    within : pipe < l.shape.pipes
    within = (subst (JobFits l) e i.shape.controller.job).0

    old : EachBehind l s.controller.rings (ring_words s.words) pipe count (IsApart l y)
    old = subst (Judged l s.controller.rings (ring_words s.words)) e i.matching.matching.judged

    -- a report behind the drain as it goes on was behind it
    by_place : (n m : ℕ) (r : RingWord) → n < l.shape.pipes → m < l.shape.ring
        → (n ≢ pipe → n < pipe) → (n ≡ pipe → x ≢ 0 → l.shape.ring ≤ (m + 1) + count) → Moved s i pipe within n m r → IsApart l y r
    by_place n m r b c other own (inl h) = old n m b c (inl (other h.0)) r h.1
    by_place n m r b c other own (inr h) = old pipe (m + 1) within h.2 (inr (refl, own h.0 h.1)) r h.3

    drained : (m : Job) → Goes s.config s.controller x here m → Judged l rings t m
    drained m (go.drain_stays at c w a) = λ n k b d behind r read.
        by_place n k r b d (λ apart. other n k apart behind) (λ same full. own n k d same behind) (moved s i pipe within None n k d r read)
      where
        other : (n k : ℕ) → n ≢ pipe → IsBehind l pipe (count + 1) n k → n < pipe
        other n k apart (inl h) = h
        other n k apart (inr h) = absurd (apart h.0)

        own : (n k : ℕ) → k < l.shape.ring → n ≡ pipe → IsBehind l pipe (count + 1) n k → l.shape.ring ≤ (k + 1) + count
        own n k d same (inl h) = absurd (omega arith)
        own n k d same (inr h) = omega (arith, h.1)
    drained m (go.drain_next at c w a next) = λ n k b d behind r read.
        by_place n k r b d (λ apart. other n k d apart behind) (λ same full. omega (arith, done_full count x a full)) (moved s i pipe within None n k d r read)
      where
        other : (n k : ℕ) → k < l.shape.ring → n ≢ pipe → IsBehind l (pipe + 1) 0 n k → n < pipe
        other n k d apart (inl h) = omega arith
        other n k d apart (inr h) = absurd (omega (arith, h.1))
    drained m (go.drain_last d c w a last) = λ n k r read. at n k r read (cases_lt n l.shape.pipes) (cases_lt k l.shape.ring)
      where
        end : l.shape.pipes ≤ pipe + 1
        end = grind (arith, nat_tests)

        far : (n k : ℕ) (r : RingWord) → read_report l (t n k) ≡ Some r → (l.shape.pipes ≤ n) ⊎ (l.shape.ring ≤ k) → ⊥
        far n k r read h = none_reported l (t n k) r (none (same_name cell (name.Ring n k))) read
          where
            none : (b : Bool) → ((if b then 0 else s.words (name.Ring n k)) == 0) ≡ true
            none true = refl
            none false = let z : s.words (name.Ring n k) ≡ 0 = i.matching.matching.beyond n k h in grind (arith, nat_tests)

        at : (n k : ℕ) (r : RingWord) → read_report l (t n k) ≡ Some r → (n < l.shape.pipes) ⊎ (l.shape.pipes ≤ n) → (k < l.shape.ring) ⊎ (l.shape.ring ≤ k) → IsApart l y r
        at n k r read (inr h) d = absurd (far n k r read (inl h))
        at n k r read (inl b) (inr h) = absurd (far n k r read (inr h))
        at n k r read (inl b) (inl d) =
            let f = cell_index l.shape.ring (ring_count rings n).words k d in
            by_place n f.0 r b f.1 (λ apart. omega (arith, end)) (λ same full. omega (arith, done_full count x a full))
            (moved s i pipe within None n f.0 f.1 r (ap (λ z. read_report l (t n z)) f.2 ∙ read))

  job_kept : (j : Job) → s.controller.job ≡ j → AfterJob DrainsAreApart s j (job_op s.config s.controller j)
  job_kept (job.Drain pipe count (wait.Judge y)) e =
      drained pipe count y e (job_next s.config s.controller (job.Drain pipe count (wait.Judge y)) (x pipe count y e)) (goes s.config s.controller (x pipe count y e) (job.Drain pipe count (wait.Judge y)))
  job_kept j e = frame j (job_op s.config s.controller j) tt

  begins_kept : DrainsAreApart (begun_core s)
  begins_kept = begun_by s.config s.controller (λ c. Judged l c.rings (ring_words s.words) c.job) i.matching.matching.judged (λ q z g. by z g)
    where
      by : (z : Start) → Begins s.config s.controller z → Judged l s.controller.rings (ring_words s.words) z.job
      by z (begin.refuses g rest r e) = tt
      by z g = tt

pub apart_keep : Keeps IsPacket Invariant DrainsAreApart
apart_keep = record {
  stages = λ s p v at q e i h. stage_kept s i p v q at (pipe_op s.config.layout v at) (rings_stage s i p v q at e);
  begins = λ s i h. begins_kept s i;
  jobs = λ s j q b i h. job_kept s i j q;
  enters = λ s p v packet q r u n a i h. h;
  clocks = λ s ms q i h. h;
  refusals = λ s q i h. h;
}

pub apart_open : OpensWith DrainsAreApart
unfolding opening_controller
apart_open k f = tt

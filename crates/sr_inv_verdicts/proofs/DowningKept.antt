-- Every event keeps that a server that is being taken down is known to nobody yet.
use Rattle.std.proofs.Common.{◌≡◌, ℕ, ◌+◌, ◌≤◌, ◌&&◌, ◌||◌, ◌==◌, nat_eq, nat_lt, Bool, true, false, cond, List, [], ◌∷◌, ◌++◌, count_by, Some, None, Option, sym, refl, ap, ◌∙◌, subst, arith}
use Rattle.std.proofs.lemmas.Bool.Decides.{nat_tests}
use Rattle.std.proofs.lemmas.List.Sums.{sum_by-cons}
use Rattle.std.specs.List.{list_any}
use Rattle.sr_base.specs.Fitting.{takes_down as change_takes_down}
use Rattle.sr_base.specs.declared.change.Change.{Change}
use Rattle.sr_base.specs.declared.change.What.{What}
use Rattle.sr_base.specs.declared.change.What.TheVariants.{Give, TakeDown}
use Rattle.sr_inv_facts.proofs.Beginning.{begun_by}
use Rattle.sr_inv_facts.proofs.Plain.{OfPlain, plain_cleared, plain_passed, plain_phase, plain_vip, plain_waited}
use Rattle.sr_inv_facts.proofs.Printing.{prints, job_tells, stage_prints, tells, pipe_silent}
use Rattle.sr_inv_facts.specs.Fitted.{IsPacket}
use Rattle.sr_inv_facts.specs.InCauses.{OnDowning}
use Rattle.sr_inv_facts.specs.InShape.{downing, servers_of}
use Rattle.sr_inv_facts.specs.Invariant.{Invariant}
use Rattle.sr_inv_facts.specs.Laws.{OpensWith}
use Rattle.sr_inv_order.proofs.Rising.{or_false}
use Rattle.sr_inv_verdicts.specs.Caused.{DowningUnknown}
use Rattle.sr_law.specs.TakenDown.{is_down as told_down, is_known_down, takes_down, takes_down_before}
use Rattle.sr_law.specs.Ticks.{is_controller, out_of}
use Rattle.sr_law.specs.declared.line.Line.{Line}
use Rattle.sr_machine.proofs.Following.{goes}
use Rattle.sr_machine.specs.Begins.{Begins}
use Rattle.sr_machine.specs.Config.{Config}
use Rattle.sr_machine.specs.Core.{Core, printed}
use Rattle.sr_machine.specs.Deciding.{is_down}
use Rattle.sr_machine.specs.Goes.{Goes}
use Rattle.sr_machine.specs.Jobs.{job_next, job_op}
use Rattle.sr_machine.specs.Keeping.{AfterJob, AfterStage, Keeps, begun_core}
use Rattle.sr_machine.specs.Opening.{opening_controller, outages_in}
use Rattle.sr_machine.specs.Ops.{op_answer, op_name}
use Rattle.sr_machine.specs.Pipe.{pipe_op}
use Rattle.sr_machine.specs.Starting.{Start}
use Rattle.sr_machine.specs.declared.controller_view.ControllerView.{ControllerView}
use Rattle.sr_machine.specs.declared.job.Job.{Job}
use Rattle.sr_machine.specs.declared.leg.Leg.TheVariants.{Judged}
use Rattle.sr_machine.specs.declared.op.Op.{Op}
use Rattle.sr_machine.specs.declared.pipe_view.PipeView.{PipeView}
use Rattle.sr_machine.specs.declared.stage.Stage.{Stage}
use Rattle.sr_machine.specs.declared.stage.Stage.TheVariants.{Fly, Enter}
use Rattle.sr_machine.specs.Begins as begin
use Rattle.sr_machine.specs.Goes as go
use Rattle.sr_machine.specs.declared.draw.Draw.TheVariants as draw
use Rattle.sr_machine.specs.declared.store.Store.TheVariants as store
use Rattle.sr_machine.specs.declared.job.Job.TheVariants as job
use Rattle.sr_machine.specs.declared.leg.Last.TheVariants as last
use Rattle.sr_law.specs.declared.line.Line.TheVariants as line
use Rattle.sr_machine.specs.declared.name.Name.TheVariants as name

abbrev Unknown : List Line → Job → Type 0
Unknown lines j = OnDowning j (λ server. (tick : ℕ) → is_known_down lines server tick ≡ false)

-- ---- a pipe's step

packet_unknown : (lines : List Line) (n : ℕ) (a : Stage) (x : ℕ) (j : Job) → Unknown lines j → Unknown (prints n a x ++ lines) j
packet_unknown lines n a x (job.Store (store.Down server)) h = at a
  where
    at : (a : Stage) → Unknown (prints n a x ++ lines) (job.Store (store.Down server))
    at (Fly f (Judged v last.Out)) = h
    at a = h
packet_unknown lines n a x j h = h

stage_unknown : (s : Core) (p : ℕ) (v : PipeView) (a : Stage) (o : Option Op) (lines : List Line)
    → AfterStage (λ t. printed t ≡ lines) s p v a o → Unknown lines s.controller.job → AfterStage DowningUnknown s p v a o
stage_unknown s p v a None lines e h = tt
stage_unknown s p v a (Some o) lines e h = subst (λ ls. Unknown ls s.controller.job) (sym e) h

-- ---- which servers are taken down

abbrev occurs : ℕ → List ℕ → ℕ
occurs n [] = 0
occurs n (x ∷ xs) = cond (x == n) 1 0 + occurs n xs

occurs_joined : (n : ℕ) (xs ys : List ℕ) → occurs n (xs ++ ys) ≡ occurs n xs + occurs n ys
occurs_joined n [] ys = omega arith
occurs_joined n (x ∷ xs) ys = omega (arith, occurs_joined n xs ys)

occurs_down : (n : ℕ) (xs : List ℕ) → is_down xs n ≡ true → 1 ≤ occurs n xs
occurs_down n [] h = cc
occurs_down n (x ∷ xs) h = at (nat_eq n x) (x == n) (grind (arith, nat_tests)) h (occurs_down n xs)
  where
    at : (a b : Bool) → a ≡ b → (a || is_down xs n) ≡ true → (is_down xs n ≡ true → 1 ≤ occurs n xs) → 1 ≤ cond b 1 0 + occurs n xs
    at true true e g more = omega arith
    at false false e g more = omega (arith, more g)
    at true false e g more = cc
    at false true e g more = cc

outages_counted : (n : ℕ) (changes : List Change)
    → occurs n (servers_of (outages_in changes)) ≡ count_by (λ change. change_takes_down n change.what) changes
outages_counted n [] = refl
outages_counted n (change ∷ rest) =
    at change.what (outages_counted n rest) ∙ sym (sum_by-cons (λ change. cond (change_takes_down n change.what) 1 0) change rest)
  where
    at : (what : What) → occurs n (servers_of (outages_in rest)) ≡ count_by (λ change. change_takes_down n change.what) rest
        → occurs n (servers_of (elim what [ Give vip pool ↦ outages_in rest | TakeDown server ↦ record { at_ms = change.at_ms; server = server } ∷ outages_in rest ])) ≡ cond (change_takes_down n what) 1 0 + count_by (λ change. change_takes_down n change.what) rest
    at (Give vip pool) h = omega (arith, h)
    at (TakeDown server) h = omega (arith, h)

-- a server whose line is about to be drawn wasn't taken down
not_yet : (s : Core) → Invariant s → (server : ℕ) → s.controller.job ≡ job.Draw (draw.TakenDown server)
    → is_down s.controller.down server ≡ false
not_yet s i server e = at (is_down s.controller.down server) refl
  where
    at : (b : Bool) → is_down s.controller.down server ≡ b → b ≡ false
    at false q = refl
    at true q =
        let c = s.controller in
        let some = occurs_down server c.down q in
        let all = outages_counted server s.config.changes in
        let once = i.shape.config.fits.once server in
        let there = ap (occurs server) i.shape.controller.outages in
        let parts = occurs_joined server (c.down ++ downing c.job) (servers_of c.outages) in
        let front = occurs_joined server c.down (downing c.job) in
        let own : occurs server (downing c.job) ≡ 1 = ap (λ j. occurs server (downing j)) e ∙ alone in
        absurd (omega (arith, some, all, once, there, parts, front, own))
      where
        once_if : (b : Bool) → b ≡ true → cond b 1 0 + 0 ≡ 1
        once_if true t = omega arith
        once_if false t = cc

        alone : occurs server (server ∷ []) ≡ 1
        alone = once_if (server == server) (grind (arith, nat_tests))

none_before : (server tick : ℕ) (lines : List Line) → told_down lines server ≡ false → list_any (takes_down_before server tick) lines ≡ false
none_before server tick [] h = refl
none_before server tick (l ∷ rest) h = at (takes_down server l) h (none_before server tick rest)
  where
    at : (b : Bool) → (b || told_down rest server) ≡ false
        → (told_down rest server ≡ false → list_any (takes_down_before server tick) rest ≡ false)
        → ((b && nat_lt (out_of l) tick) || list_any (takes_down_before server tick) rest) ≡ false
    at true g more = cc
    at false g more = more g

pub none_known : (server tick : ℕ) (lines : List Line) → told_down lines server ≡ false → is_known_down lines server tick ≡ false
none_known server tick [] h = refl
none_known server tick (l ∷ rest) h = at (takes_down server l) h (none_known server tick rest)
  where
    at : (b : Bool) → (b || told_down rest server) ≡ false → (told_down rest server ≡ false → is_known_down rest server tick ≡ false)
        → is_known_down (l ∷ rest) server tick ≡ false
    at true g more = cc
    at false g more =
        or_false ((is_controller l && nat_lt (out_of l) tick) && list_any (takes_down_before server tick) rest) (is_known_down rest server tick)
        (last (is_controller l && nat_lt (out_of l) tick) (none_before server tick rest g)) (more g)
      where
        last : (a : Bool) → list_any (takes_down_before server tick) rest ≡ false → (a && list_any (takes_down_before server tick) rest) ≡ false
        last true q = q
        last false q = refl

-- ---- the controller's step

plain_unknown : (lines : List Line) → OfPlain (Unknown lines)
plain_unknown lines = record {
  free = tt;
  comes = λ u p. tt;
  coming = λ u p. tt;
  retiring = λ key. tt;
  answer = λ r. tt;
  phase = λ u p. tt;
  filter = λ u. tt;
  source = λ key from. tt;
  judge = λ p. tt;
  drain = λ w. tt;
}

goes_unknown : (k : Config) (c : ControllerView) (x : ℕ) (lines : List Line) (j m : Job) → Goes k c x j m
    → ((server : ℕ) → j ≡ job.Draw (draw.TakenDown server) → Unknown lines (job.Store (store.Down server)))
    → Unknown lines m
goes_unknown k c x lines j m (go.taken_down server) own = own server refl
goes_unknown k c x lines j m (go.comes u p) own = plain_phase (Unknown lines) (plain_unknown lines) u p
goes_unknown k c x lines j m (go.cleared key place w) own = plain_cleared (Unknown lines) (plain_unknown lines) key w
goes_unknown k c x lines j m (go.phase_stored u p) own = plain_vip (Unknown lines) (plain_unknown lines) u p
goes_unknown k c x lines j m (go.pass_last g pipe w a b) own = plain_passed (Unknown lines) (plain_unknown lines) w
goes_unknown k c x lines j m (go.drain_last pipe count w a b) own = plain_waited (Unknown lines) (plain_unknown lines) c.vips _ w
goes_unknown k c x lines j m g own = tt

own_unknown : (s : Core) → Invariant s → (server : ℕ) → s.controller.job ≡ job.Draw (draw.TakenDown server) → (t : ℕ)
    → Unknown (line.TakenDown t server ∷ printed s) (job.Store (store.Down server))
own_unknown s i server e t tick =
    let none : told_down (printed s) server ≡ false = i.jobs.holds.downs server ∙ not_yet s i server e in
    or_false (nat_lt t tick && list_any (takes_down_before server tick) (printed s)) (is_known_down (printed s) server tick)
    (last (nat_lt t tick) (none_before server tick (printed s) none)) (none_known server tick (printed s) none)
  where
    last : (a : Bool) → list_any (takes_down_before server tick) (printed s) ≡ false
        → (a && list_any (takes_down_before server tick) (printed s)) ≡ false
    last true q = q
    last false q = refl

job_unknown : (s : Core) (j : Job) (o : Option Op) → Invariant s → s.controller.job ≡ j
    → AfterJob (λ t. printed t ≡ tells s.config s.controller j (s.words name.Tick) ++ printed s) s j o
    → AfterJob DowningUnknown s j o
job_unknown s j None i q e = tt
job_unknown s j (Some o) i q e =
    let x = op_answer o (s.words (op_name o)) in
    let all = tells s.config s.controller j (s.words name.Tick) ++ printed s in
    subst (λ ls. Unknown ls (job_next s.config s.controller j x)) (sym e)
    (goes_unknown s.config s.controller x all j (job_next s.config s.controller j x) (goes s.config s.controller x j)
    (λ server r. subst (λ m. Unknown (tells s.config s.controller m (s.words name.Tick) ++ printed s) (job.Store (store.Down server))) (sym r) (own_unknown s i server (q ∙ r) (s.words name.Tick))))

-- ---- what it begins

begins_unknown : (s : Core) → DowningUnknown s → DowningUnknown (begun_core s)
begins_unknown s h = begun_by s.config s.controller (λ c. Unknown (printed s) c.job) h (λ free start b. at start b)
  where
    at : (start : Start) → Begins s.config s.controller start → Unknown (printed s) start.job
    at start (begin.refuses g rest r e) = tt
    at start (begin.takes_down o rest e d) = tt
    at start (begin.holds u e p w) = tt
    at start (begin.finishes u e p w) = tt
    at start (begin.changes g rest number u e d f) = tt
    at start (begin.answers o rest e r f) = tt
    at start (begin.places_held o rest p r f g) = tt
    at start (begin.has_no_place o rest r f g) = tt
    at start (begin.places e p r f g) = tt
    at start (begin.retires e place r f) = tt
    at start (begin.sweeps ms r f) = tt
    at start (begin.releases vip m r) = tt
    at start (begin.looks r) = tt

pub downing_keep : Keeps IsPacket Invariant DowningUnknown
downing_keep = record {
  stages = λ s p v a q e i h.
      stage_unknown s p v a (pipe_op s.config.layout v a) (prints v.number a (s.words name.Tick) ++ printed s) (stage_prints s p v a i.ticks q)
      (packet_unknown (printed s) v.number a (s.words name.Tick) s.controller.job h);
  begins = λ s i h. begins_unknown s h;
  jobs = λ s j e b i h. job_unknown s j (job_op s.config s.controller j) i e (job_tells s j i.ticks);
  enters = λ s p v packet q r u n a i h.
      subst (λ ls. Unknown ls s.controller.job) (sym (pipe_silent s p v (record v { stage = Enter packet }) q refl s.words)) h;
  clocks = λ s ms q i h. h;
  refusals = λ s q i h. h;
}

pub downing_part : (s : Core) → Invariant s → DowningUnknown s
downing_part s i = i.causes.causes.downing

pub downing_open : OpensWith DowningUnknown
unfolding opening_controller
downing_open k f = tt

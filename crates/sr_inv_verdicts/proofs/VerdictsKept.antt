-- Every event keeps that a packet in flight has a cause for what became of it.
use Rattle.std.proofs.Common.{◌≡◌, ℕ, ◌%◌, ◌<◌, ◌≢◌, ◌&&◌, ◌==◌, not, Bool, true, false, List, [], ◌∷◌, ◌++◌, slice_get, slice_set, if◌then◌else◌, Some, None, Option, option_to_list, sym, refl, ap, ◌∙◌, subst, inl, arith}
use Rattle.std.proofs.lemmas.Bool.Decides.{nat_tests}
use Rattle.std.proofs.lemmas.Option.{same_Some}
use Rattle.sr_base.specs.declared.kind.Kind.{Kind}
use Rattle.sr_base.specs.declared.kind.Kind.TheVariants.{Opener, Carry, Ending}
use Rattle.sr_base.specs.declared.place.Place.{Place}
use Rattle.sr_base.specs.declared.vip_word.Phase.{Phase}
use Rattle.sr_base.specs.declared.vip_word.Phase.TheVariants.{Steady, Recording, Holding, Transit}
use Rattle.sr_hash.specs.Uses.{is_place_of}
use Rattle.sr_inv_facts.proofs.Lists.{in_end, ranged_at}
use Rattle.sr_inv_facts.proofs.Pipes.{set_cases}
use Rattle.sr_inv_facts.proofs.Printing.{line_out, prints, job_tells, pipe_silent, stage_prints, tells}
use Rattle.sr_inv_facts.specs.Fitted.{IsPacket}
use Rattle.sr_inv_facts.specs.Flying.{IfOpener, OnLeg}
use Rattle.sr_inv_facts.specs.InCauses.{LegCaused, OnDowning, VerdictCaused}
use Rattle.sr_inv_facts.specs.InShape.{StageFits}
use Rattle.sr_inv_facts.specs.InWords.{down_word, is_downing}
use Rattle.sr_inv_facts.specs.Invariant.{Invariant}
use Rattle.sr_inv_facts.specs.Laws.{OpensWith}
use Rattle.sr_inv_facts.specs.Readings.{EachPipe, Speaks}
use Rattle.sr_inv_matching.proofs.Stepping.{entered_drawn}
use Rattle.sr_inv_verdicts.proofs.DowningKept.{none_known}
use Rattle.sr_inv_verdicts.proofs.Filling.{filled}
use Rattle.sr_inv_verdicts.proofs.MoreLines.{IsOther, leg_more}
use Rattle.sr_inv_verdicts.proofs.OwnPlaces.{looked_own}
use Rattle.sr_inv_verdicts.proofs.Speaking.{speaks_clash}
use Rattle.sr_inv_verdicts.specs.Caused.{FlightsCaused}
use Rattle.sr_law.specs.Held.{may_clash}
use Rattle.sr_law.specs.TakenDown.{is_known_down}
use Rattle.sr_law.specs.Ticks.{out_of}
use Rattle.sr_law.specs.declared.line.Line.{Line}
use Rattle.sr_law.specs.declared.verdict.Verdict.{Verdict}
use Rattle.sr_machine.specs.Core.{Core, opening, printed}
use Rattle.sr_machine.specs.Deciding.{is_down}
use Rattle.sr_machine.specs.Draws.{draw_line, phase_line}
use Rattle.sr_machine.specs.Jobs.{job_op}
use Rattle.sr_machine.specs.Keeping.{AfterJob, AfterStage, Keeps}
use Rattle.sr_machine.specs.Opening.{opening_pipes}
use Rattle.sr_machine.specs.Ops.{op_answer, op_name}
use Rattle.sr_machine.specs.Pipe.{fresh_pipe, packet_line, pipe_after, pipe_op}
use Rattle.sr_machine.specs.Reads.{read_flag, says}
use Rattle.sr_machine.specs.Stages.{begun_flight, filtered, filtering, is_opener, key_bits, key_places, last_at, last_by, looked, looking, missed_in, stage_after, verdict_at, verdict_by}
use Rattle.sr_machine.specs.declared.draw.Draw.{Draw}
use Rattle.sr_machine.specs.declared.flight.Flight.{Flight}
use Rattle.sr_machine.specs.declared.job.Job.{Job}
use Rattle.sr_machine.specs.declared.leg.Leg.{Leg}
use Rattle.sr_machine.specs.declared.leg.Leg.TheVariants.{Look, Hit, Filter, Chosen, Judged}
use Rattle.sr_machine.specs.declared.leg.Last.{Last}
use Rattle.sr_machine.specs.declared.op.Op.{Op}
use Rattle.sr_machine.specs.declared.pipe_view.PipeView.{PipeView}
use Rattle.sr_machine.specs.declared.pool_update.PoolUpdate.{PoolUpdate}
use Rattle.sr_machine.specs.declared.said.Said.{Said}
use Rattle.sr_machine.specs.declared.stage.Stage.{Stage}
use Rattle.sr_machine.specs.declared.stage.Stage.TheVariants.{Idle, Enter, Note, Vip, Fly, Leave}
use Rattle.sr_machine.specs.declared.draw.Draw.TheVariants as draw
use Rattle.sr_machine.specs.declared.store.Store.TheVariants as store
use Rattle.sr_machine.specs.declared.job.Job.TheVariants as job
use Rattle.sr_machine.specs.declared.leg.Last.TheVariants as last
use Rattle.sr_machine.specs.declared.leg.Load.TheVariants as load
use Rattle.sr_machine.specs.declared.name.Name.TheVariants as name
use Rattle.sr_machine.specs.declared.said.Said.TheVariants as said
use Rattle.sr_law.specs.declared.verdict.Verdict.TheVariants as verdict
use Rattle.sr_law.specs.declared.verdict.HeldBy.TheVariants as by

module _ (s : Core) (i : Invariant s) (p : ℕ) (v : PipeView) (there : slice_get s.pipes p ≡ Some v) where
  abbrev Caused : Flight → Leg → Type 0
  Caused f leg = LegCaused s.config.layout.shape (printed s) p f leg

  -- ---- what a packet comes to without a cause that is asked

  held_caused : (f : Flight) (n : ℕ) (b : Bool) → (b ≡ true → may_clash s.config.layout.shape (printed s) f.packet.key f.entered ≡ true)
      → Caused f (if b then Judged (verdict.Held by.Clash) last.Ring else Chosen n load.Head)
  held_caused f n true h = h refl
  held_caused f n false h = tt

  hold_caused : (f : Flight) (n : ℕ) (b : Bool) → Caused f (if b then Judged (verdict.Held by.Hold) last.Ring else Chosen n load.Head)
  hold_caused f n true = tt
  hold_caused f n false = tt

  transit_caused : (f : Flight) (n : ℕ) (b : Bool) → Caused f (if b then Judged (verdict.Held by.Transit) last.Ring else Chosen n load.Head)
  transit_caused f n true = tt
  transit_caused f n false = tt

  filtering_caused : (f : Flight) (bits : List ℕ) → Caused f (filtering f bits)
  filtering_caused f [] = transit_caused f f.vip.cur (is_opener f.packet.kind)
  filtering_caused f (bit ∷ rest) = tt

  filtered_caused : (f : Flight) (bits : List ℕ) (b : Bool) → Caused f (filtered f bits b)
  filtered_caused f bits true = filtering_caused f bits
  filtered_caused f bits false = tt

  missed_caused : (f : Flight) (q : Phase) → Caused f (missed_in s.config.layout f q)
  missed_caused f Steady = tt
  missed_caused f Recording = tt
  missed_caused f Holding = hold_caused f f.vip.cur (is_opener f.packet.kind)
  missed_caused f Transit = filtering_caused f (key_bits s.config.layout f.packet.key)

  looking_caused : (f : Flight) (places : List Place) → Caused f (looking s.config.layout f places)
  looking_caused f [] = missed_caused f f.vip.phase
  looking_caused f (place ∷ rest) = tt

  -- ---- a place

  opener_fact : (kind : Kind) (P : Type 0) → P → IfOpener kind P
  opener_fact Opener P h = h
  opener_fact Carry P h = tt
  opener_fact Ending P h = tt

  opener_has : (kind : Kind) (P : Type 0) → is_opener kind ≡ true → IfOpener kind P → P
  opener_has Opener P e h = h
  opener_has Carry P e h = cc
  opener_has Ending P e h = cc

  looked_caused : (f : Flight) (place : Place) (rest : List Place) (said_so : Said)
      → (Speaks said_so → may_clash s.config.layout.shape (printed s) f.packet.key f.entered ≡ true)
      → Caused f (looked s.config.layout f place rest said_so)
  looked_caused f place rest said.Nothing h = looking_caused f rest
  looked_caused f place rest said.Reserved h = at (is_opener f.packet.kind)
    where
      at : (b : Bool) → Caused f (if b then Judged (verdict.Held by.Clash) last.Ring else looking s.config.layout f rest)
      at true = h tt
      at false = looking_caused f rest
  looked_caused f place rest (said.Live n) h = opener_fact f.packet.kind _ (h tt)

  -- ---- a server

  unknown : (server : ℕ) (b : Bool) → is_down s.controller.down server ≡ b → (d : Bool) → is_downing s.controller.job server ≡ d → (b && not d) ≡ false
      → (tick : ℕ) → is_known_down (printed s) server tick ≡ false
  unknown server false q d e h tick = none_known server tick (printed s) (i.jobs.holds.downs server ∙ q)
  unknown server true q false e h tick = cc
  unknown server true q true e h tick = at s.controller.job i.causes.causes.downing e
    where
      at : (j : Job) → OnDowning j (λ server. (tick : ℕ) → is_known_down (printed s) server tick ≡ false) → is_downing j server ≡ true
          → is_known_down (printed s) server tick ≡ false
      at (job.Store (store.Down n)) h e = let same : n ≡ server = grind (arith, nat_tests) in subst (λ m. is_known_down (printed s) m tick ≡ false) same (h tick)
      at j h e = cc

  server_caused : (f : Flight) (version pool server : ℕ) (b : Bool) → read_flag (s.words (name.Down server)) ≡ b → (l : Last)
      → Caused f (Judged (verdict_by b server version pool) l)
  unfolding read_flag
  server_caused f version pool server b q l =
      at b (sym (ap (λ x. x == 1) (i.words.others.down server)) ∙ q)
    where
      word : Bool
      word = is_down s.controller.down server && not (is_downing s.controller.job server)

      told : (c : Bool) → (is_down s.controller.down server && not (is_downing s.controller.job server)) ≡ c
          → ((if c then 1 else 0) == 1) ≡ c
      told true e = refl
      told false e = refl

      is : (c d : Bool) → (is_down s.controller.down server && not (is_downing s.controller.job server)) ≡ c
          → ((if is_down s.controller.down server && not (is_downing s.controller.job server) then 1 else 0) == 1) ≡ d
          → c ≡ d
      is c d e g = sym (told c e) ∙ (ap (λ z. (if z then 1 else 0) == 1) (sym e) ∙ g)

      first : (a b : Bool) → (a && b) ≡ true → a ≡ true
      first true b e = refl
      first false b e = cc

      at : (b : Bool) → (down_word s.controller.down s.controller.job server == 1) ≡ b → Caused f (Judged (verdict_by b server version pool) l)
      at true g =
          let down = is (is_down s.controller.down server && not (is_downing s.controller.job server)) true refl g in
          i.jobs.holds.downs server ∙ first (is_down s.controller.down server) _ down
      at false g =
          let up = is (is_down s.controller.down server && not (is_downing s.controller.job server)) false refl g in
          unknown server (is_down s.controller.down server) refl (is_downing s.controller.job server) refl up f.entered

  -- ---- the ring

  ring_caused : (f : Flight) (w : Verdict) → v.stage ≡ Fly f (Judged w last.Ring) → VerdictCaused s.config.layout.shape (printed s) p f.packet.key f.entered w
      → (b : Bool) → (s.words (name.Ring v.number (v.pushed % s.config.layout.shape.ring)) == 0) ≡ b → (l : Last)
      → Caused f (Judged (verdict_at f w b) l)
  ring_caused f w e h true q l = h
  ring_caused f w e h false q l = at (is_opener f.packet.kind)
    where
      number : v.number ≡ p
      number = i.shape.pipes.number p v there

      full : s.words (name.Ring p (v.pushed % s.config.layout.shape.ring)) ≢ 0
      full =
          subst (λ n. s.words (name.Ring n (v.pushed % s.config.layout.shape.ring)) ≢ 0) number
          (λ z. let t : (s.words (name.Ring v.number (v.pushed % s.config.layout.shape.ring)) == 0) ≡ true = grind (arith, nat_tests) in cc)

      at : (b : Bool) → Caused f (Judged (if b then verdict.Full else w) l)
      at true = filled s i p v there f w e full f.entered
      at false = h

  -- ---- a step

  stage_caused : (a : Stage) → v.stage ≡ a → (o : Op) → pipe_op s.config.layout v a ≡ Some o → OnLeg a Caused
      → OnLeg (stage_after s.config.layout a (op_answer o (s.words (op_name o)))) Caused
  stage_caused Idle e o r h = cc
  stage_caused (Enter packet) e o r h = tt
  stage_caused (Note packet entered) e o r h = tt
  stage_caused (Vip packet entered) e o r h = looking_caused (begun_flight s.config.layout packet entered (op_answer o (s.words (op_name o)))) (key_places s.config.layout packet.key)
  stage_caused (Fly f (Look place rest)) e o r h =
      subst (λ z. Caused f (looked s.config.layout f place rest (says s.config.layout place f.packet.key (op_answer z (s.words (op_name z))))))
      (same_Some _ o r)
      (looked_caused f place rest (says s.config.layout place f.packet.key (s.words (name.Entry place)))
      (λ sp. speaks_clash s i place f.packet.key own sp f.entered))
    where
      fits : StageFits s.config.layout (Fly f (Look place rest))
      fits = subst (StageFits s.config.layout) e (i.shape.pipes.stage p v there)

      own : is_place_of s.config.layout.shape f.packet.key place ≡ true
      own =
          looked_own s.config.layout f.packet.key place
          (in_end place (place ∷ rest) (key_places s.config.layout f.packet.key) fits.1 (inl refl))
  stage_caused (Fly f (Hit place n)) e o r h =
      held_caused f n (is_opener f.packet.kind) (λ t. opener_has f.packet.kind _ t h)
  stage_caused (Fly f (Filter bit rest)) e o r h = filtered_caused f rest _
  stage_caused (Fly f (Chosen n load.Head)) e o r h = tt
  stage_caused (Fly f (Chosen n (load.Member head))) e o r h = tt
  stage_caused (Fly f (Chosen n (load.Down pool server))) e o r h =
      subst (λ z. Caused f (Judged (verdict_by (read_flag (op_answer z (s.words (op_name z)))) server n pool) (last_by f.packet.kind (read_flag (op_answer z (s.words (op_name z)))))))
      (same_Some _ o r) (server_caused f n pool server (read_flag (s.words (name.Down server))) refl (last_by f.packet.kind (read_flag (s.words (name.Down server)))))
  stage_caused (Fly f (Judged w last.Ring)) e o r h =
      subst (λ z. Caused f (Judged (verdict_at f w (op_answer z (s.words (op_name z)) == 0)) (last_at s.config.layout f w (op_answer z (s.words (op_name z)) == 0))))
      (same_Some _ o r) (ring_caused f w e h (s.words (name.Ring v.number (v.pushed % s.config.layout.shape.ring)) == 0) refl (last_at s.config.layout f w (s.words (name.Ring v.number (v.pushed % s.config.layout.shape.ring)) == 0)))
  stage_caused (Fly f (Judged w (last.Mark bit rest))) e o r h = h
  stage_caused (Fly f (Judged w last.Push)) e o r h = h
  stage_caused (Fly f (Judged w last.Out)) e o r h = tt
  stage_caused (Leave f) e o r h = tt

-- ---- the others, as a line comes

module _ (s : Core) (i : Invariant s) where
  -- a line that is out at the next tick, and isn't of this pipe
  other_leg : (x : Line) → out_of x ≡ s.words name.Tick → (p : ℕ) (v : PipeView) → slice_get s.pipes p ≡ Some v → IsOther p x → (a : Stage)
      → v.stage ≡ a
      → OnLeg a (LegCaused s.config.layout.shape (printed s) p)
      → OnLeg a (LegCaused s.config.layout.shape (x ∷ printed s) p)
  other_leg x out p v there o (Fly f leg) e h =
      leg_more s.config.layout.shape x (printed s) p f leg
      (subst (λ n. f.entered < n) (sym out) (entered_drawn s i.ticks p v f leg there e).1) o h
  other_leg x out p v there o Idle e h = tt
  other_leg x out p v there o (Enter packet) e h = tt
  other_leg x out p v there o (Note packet entered) e h = tt
  other_leg x out p v there o (Vip packet entered) e h = tt
  other_leg x out p v there o (Leave f) e h = tt

  stage_kept : (p : ℕ) (v : PipeView) (a : Stage) (o : Op) → slice_get s.pipes p ≡ Some v → v.stage ≡ a → pipe_op s.config.layout v a ≡ Some o
      → FlightsCaused s
      → EachPipe (λ q u. OnLeg u.stage (LegCaused s.config.layout.shape (prints v.number a (s.words name.Tick) ++ printed s) q)) (slice_set s.pipes p (pipe_after s.config.layout v a (op_answer o (s.words (op_name o)))))
  stage_kept p v (Fly f (Judged w last.Out)) o q e r h =
      let x = packet_line v.number f w (s.words name.Tick) in
      let number = i.shape.pipes.number p v q in
      set_cases s.pipes p v (pipe_after s.config.layout v (Fly f (Judged w last.Out)) (op_answer o (s.words (op_name o)))) q
      (λ n u. OnLeg u.stage (LegCaused s.config.layout.shape (x ∷ printed s) n)) tt
      (λ n u other there. other_leg x refl n u there (λ z. other (sym z ∙ number)) u.stage refl (h n u there))
  stage_kept p v a o q e r h = silent a e r
    where
      silent : (a : Stage) → v.stage ≡ a → pipe_op s.config.layout v a ≡ Some o
          → EachPipe (λ q u. OnLeg u.stage (LegCaused s.config.layout.shape (printed s) q)) (slice_set s.pipes p (pipe_after s.config.layout v a (op_answer o (s.words (op_name o)))))
      silent a e r =
          set_cases s.pipes p v (pipe_after s.config.layout v a (op_answer o (s.words (op_name o)))) q
          (λ n u. OnLeg u.stage (LegCaused s.config.layout.shape (printed s) n))
          (stage_caused s i p v q a e o r (subst (λ z. OnLeg z (LegCaused s.config.layout.shape (printed s) p)) e (h p v q)))
          (λ n u other there. h n u there)

  stage_after_kept : (p : ℕ) (v : PipeView) (a : Stage) (o : Option Op) → slice_get s.pipes p ≡ Some v → v.stage ≡ a → pipe_op s.config.layout v a ≡ o
      → AfterStage (λ t. printed t ≡ prints v.number a (s.words name.Tick) ++ printed s) s p v a o → FlightsCaused s
      → AfterStage FlightsCaused s p v a o
  stage_after_kept p v a None q e r lines h = tt
  stage_after_kept p v a (Some o) q e r lines h =
      subst (λ ls. EachPipe (λ n u. OnLeg u.stage (LegCaused s.config.layout.shape ls n)) (slice_set s.pipes p (pipe_after s.config.layout v a (op_answer o (s.words (op_name o)))))) (sym lines)
      (stage_kept p v a o q e r h)

  -- ---- the controller

  phase_other : (p : ℕ) (u : PoolUpdate) (q : Phase) (t : ℕ) → IsOther p (phase_line u t q)
  phase_other p u Steady t = tt
  phase_other p u Recording t = tt
  phase_other p u Holding t = tt
  phase_other p u Transit t = tt

  drawn_other : (p : ℕ) (d : Draw) (t : ℕ) (l : Line) → draw_line s.config s.controller d t ≡ Some l → IsOther p l
  drawn_other p (draw.Grace w) t l e = cc
  drawn_other p (draw.From ms) t l e = cc
  drawn_other p (draw.Comes u q) t l e = subst (IsOther p) (same_Some _ l e) (phase_other p u q t)
  drawn_other p (draw.Refused n) t l e = subst (IsOther p) (same_Some _ l e) tt
  drawn_other p (draw.TakenDown n) t l e = subst (IsOther p) (same_Some _ l e) tt
  drawn_other p (draw.Given u) t l e = subst (IsOther p) (same_Some _ l e) tt
  drawn_other p (draw.Reserved q) t l e = subst (IsOther p) (same_Some _ l e) tt
  drawn_other p (draw.Placed q) t l e = subst (IsOther p) (same_Some _ l e) tt
  drawn_other p (draw.Cleared key place w) t l e = subst (IsOther p) (same_Some _ l e) tt
  drawn_other p (draw.Retired key place n) t l e = subst (IsOther p) (same_Some _ l e) tt
  drawn_other p (draw.Answer r) t l e = subst (IsOther p) (same_Some _ l e) tt
  drawn_other p (draw.Swept from ms) t l e = subst (IsOther p) (same_Some _ l e) tt

  drawn_kept : (d : Draw) (o : Option Line) → draw_line s.config s.controller d (s.words name.Tick) ≡ o → FlightsCaused s
      → EachPipe (λ q u. OnLeg u.stage (LegCaused s.config.layout.shape (option_to_list o ++ printed s) q)) s.pipes
  drawn_kept d None e h = h
  drawn_kept d (Some l) e h = λ q u there.
      other_leg l (line_out s.config s.controller d (s.words name.Tick) l e) q u there (drawn_other q d (s.words name.Tick) l e) u.stage refl (h q u there)

  job_lines : (j : Job) → FlightsCaused s
      → EachPipe (λ q u. OnLeg u.stage (LegCaused s.config.layout.shape (tells s.config s.controller j (s.words name.Tick) ++ printed s) q)) s.pipes
  job_lines (job.Draw d) h = drawn_kept d (draw_line s.config s.controller d (s.words name.Tick)) refl h
  job_lines j h = h

  job_kept : (j : Job) (o : Option Op) → AfterJob (λ t. printed t ≡ tells s.config s.controller j (s.words name.Tick) ++ printed s) s j o
      → FlightsCaused s → AfterJob FlightsCaused s j o
  job_kept j None e h = tt
  job_kept j (Some o) e h = subst (λ ls. EachPipe (λ q u. OnLeg u.stage (LegCaused s.config.layout.shape ls q)) s.pipes) (sym e) (job_lines j h)

enter_kept : (s : Core) (p : ℕ) (v w : PipeView) → slice_get s.pipes p ≡ Some v → w.lines ≡ v.lines
    → OnLeg w.stage (LegCaused s.config.layout.shape (printed s) p) → FlightsCaused s
    → FlightsCaused (record s { pipes = slice_set s.pipes p w })
enter_kept s p v w q e own h =
    subst (λ ls. EachPipe (λ n u. OnLeg u.stage (LegCaused s.config.layout.shape ls n)) (slice_set s.pipes p w)) (sym (pipe_silent s p v w q e s.words))
    (set_cases s.pipes p v w q (λ n u. OnLeg u.stage (LegCaused s.config.layout.shape (printed s) n)) own (λ n u other there. h n u there))

pub verdicts_keep : Keeps IsPacket Invariant FlightsCaused
verdicts_keep = record {
  stages = λ s p v a q e i h. stage_after_kept s i p v a (pipe_op s.config.layout v a) q e refl (stage_prints s p v a i.ticks q) h;
  begins = λ s i h. h;
  jobs = λ s j e b i h. job_kept s i j (job_op s.config s.controller j) (job_tells s j i.ticks) h;
  enters = λ s p v packet q r u n a i h. enter_kept s p v (record v { stage = Enter packet }) q refl tt h;
  clocks = λ s ms q i h. h;
  refusals = λ s q i h. h;
}

pub verdicts_part : (s : Core) → Invariant s → FlightsCaused s
verdicts_part s i = i.causes.causes.flights

pub verdicts_open : OpensWith FlightsCaused
unfolding opening_pipes
verdicts_open k f = λ q v there.
    subst (λ a. OnLeg a (LegCaused k.layout.shape (printed (opening k)) q))
    (sym (ap (λ u. u.stage) (ranged_at fresh_pipe 0 k.layout.shape.pipes q v there))) tt

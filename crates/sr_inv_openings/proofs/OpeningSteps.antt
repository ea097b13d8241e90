-- How the opening of a connection changes with a step.
use Rattle.sr_base.proofs.Sameness.{same_key-self, same_key-true}
use Rattle.sr_base.specs.Key.{KeyView, same_key}
use Rattle.sr_base.specs.Layout.{LayoutView}
use Rattle.sr_base.specs.declared.kind.Kind.{Kind}
use Rattle.sr_base.specs.declared.kind.Kind.TheVariants.{Carry, Ending, Opener}
use Rattle.sr_base.specs.declared.vip_word.Phase.{Phase}
use Rattle.sr_base.specs.declared.vip_word.Phase.TheVariants.{Holding, Recording, Steady, Transit}
use Rattle.sr_inv_facts.proofs.Books.{found_key}
use Rattle.sr_inv_facts.proofs.Lists.{all_in}
use Rattle.sr_inv_facts.proofs.NamedPools.{named_else}
use Rattle.sr_inv_facts.proofs.Printing.{job_tells, tells}
use Rattle.sr_inv_facts.specs.Flying.{IsLeaving}
use Rattle.sr_inv_facts.specs.InJobs.{AnswerHolds, AnswerNames, JobHolds, seen}
use Rattle.sr_inv_facts.specs.InOpenings.{EntryOpened, IsReported, OpenedAs}
use Rattle.sr_inv_facts.specs.InUpdate.{AtFirst, JobAt, OnUngiven}
use Rattle.sr_inv_facts.specs.Invariant.{Invariant}
use Rattle.sr_inv_facts.specs.OnTrack.{IsKnown}
use Rattle.sr_inv_facts.specs.Readings.{ring_words}
use Rattle.sr_inv_matching.proofs.Members.{in_found}
use Rattle.sr_inv_openings.proofs.Registering.{registered_some}
use Rattle.sr_law.specs.Opening.{opened, opened_by, opening}
use Rattle.sr_law.specs.declared.line.Line.{Line}
use Rattle.sr_law.specs.declared.opening.Opening.{Opening}
use Rattle.sr_law.specs.declared.verdict.Verdict.{Verdict}
use Rattle.sr_machine.specs.Config.{Config}
use Rattle.sr_machine.specs.Core.{Core, printed}
use Rattle.sr_machine.specs.Deciding.{is_down, named_at, server_for, verdict_of, with_named}
use Rattle.sr_machine.specs.Draws.{answer_line, phase_line}
use Rattle.sr_machine.specs.Jobs.{job_op}
use Rattle.sr_machine.specs.Keeping.{AfterJob, job_core}
use Rattle.sr_machine.specs.Pipe.{packet_line}
use Rattle.sr_machine.specs.Stages.{verdict_by}
use Rattle.sr_machine.specs.declared.controller_view.ControllerView.{ControllerView}
use Rattle.sr_machine.specs.declared.flight.Flight.{Flight}
use Rattle.sr_machine.specs.declared.job.Job.{Job}
use Rattle.sr_machine.specs.declared.op.Op.{Op}
use Rattle.sr_machine.specs.declared.pool_update.PoolUpdate.{PoolUpdate}
use Rattle.sr_machine.specs.declared.reply.Reply.{Reply}
use Rattle.sr_shadow.specs.Book.{entry_for, is_registered}
use Rattle.sr_shadow.specs.Entry.{is_of}
use Rattle.sr_shadow.specs.declared.entry.Entry.{Entry}
use Rattle.sr_update.specs.Numbers.{state_of}
use Rattle.sr_update.specs.declared.number_state.NumberState.TheVariants.{Free}
use Rattle.std.proofs.Common.{Bool, List, None, Option, Some, ap, false, if◌then◌else◌, inl, inr, refl, subst, sym, true, true≢false, ℕ, ◌++◌, ◌∙◌, ◌∷◌, ◌≡◌}
use Rattle.std.proofs.lemmas.Option.{same_Some}
use Rattle.std.specs.Option.{option_or}
use Rattle.sr_machine.specs.declared.draw.Draw.TheVariants as draw
use Rattle.sr_machine.specs.declared.job.Job.TheVariants as job
use Rattle.sr_machine.specs.declared.leg.Leg.TheVariants as leg
use Rattle.sr_machine.specs.declared.leg.Last.TheVariants as last
use Rattle.sr_machine.specs.declared.stage.Stage.TheVariants as stage
use Rattle.sr_machine.specs.declared.name.Name.TheVariants as name
use Rattle.sr_law.specs.declared.verdict.Verdict.TheVariants as verdict
use Rattle.sr_law.specs.declared.line.Line.TheVariants as line

pub or_none : {X : Type 0} (o : Option X) → option_or o None ≡ o
or_none None = refl
or_none (Some x) = refl

-- ---- the controller's lines

-- a job whose line opens no connection and ends none
abbrev pub IsQuiet : Job → Type 0
IsQuiet (job.Draw (draw.Answer r)) = ⊥
IsQuiet (job.Draw (draw.Retired key place version)) = ⊥
IsQuiet j = Unit {0}

module _ (k : Config) (c : ControllerView) (x : ℕ) (lines : List Line) (key : KeyView) where
  phase_quiet : (u : PoolUpdate) (p : Phase) → opening (phase_line u x p ∷ lines) key ≡ opening lines key
  phase_quiet u Steady = or_none (opening lines key)
  phase_quiet u Recording = or_none (opening lines key)
  phase_quiet u Holding = or_none (opening lines key)
  phase_quiet u Transit = or_none (opening lines key)

  pub quiet_opens : (j : Job) → IsQuiet j → opening (tells k c j x ++ lines) key ≡ opening lines key
  quiet_opens (job.Draw (draw.Grace w)) off = refl
  quiet_opens (job.Draw (draw.From ms)) off = refl
  quiet_opens (job.Draw (draw.Comes u p)) off = phase_quiet u p
  quiet_opens (job.Draw (draw.Answer r)) off = absurd off
  quiet_opens (job.Draw (draw.Retired of place version)) off = absurd off
  quiet_opens (job.Draw (draw.Refused change)) off = or_none (opening lines key)
  quiet_opens (job.Draw (draw.TakenDown server)) off = or_none (opening lines key)
  quiet_opens (job.Draw (draw.Given u)) off = or_none (opening lines key)
  quiet_opens (job.Draw (draw.Reserved p)) off = or_none (opening lines key)
  quiet_opens (job.Draw (draw.Placed p)) off = or_none (opening lines key)
  quiet_opens (job.Draw (draw.Cleared of place w)) off = or_none (opening lines key)
  quiet_opens (job.Draw (draw.Swept from ms)) off = or_none (opening lines key)
  quiet_opens j off = refl

pub job_then : (P Q : Core → Type 0) → ((t : Core) → P t → Q t) → (s : Core) (j : Job) (o : Option Op) → AfterJob P s j o → AfterJob Q s j o
job_then P Q turn s j None h = tt
job_then P Q turn s j (Some o) h = turn (job_core s j o) h

-- openings stay with all other jobs
pub opens_quiet : (s : Core) → Invariant s → (j : Job) → IsQuiet j
    → AfterJob (λ t. (key : KeyView) → opening (printed t) key ≡ opening (printed s) key) s j (job_op s.config s.controller j)
opens_quiet s i j off =
    job_then (λ t. printed t ≡ tells s.config s.controller j (s.words name.Tick) ++ printed s) (λ t. (key : KeyView) → opening (printed t) key ≡ opening (printed s) key)
    (λ t e key. ap (λ ls. opening ls key) e ∙ quiet_opens s.config s.controller (s.words name.Tick) (printed s) key j off) s j (job_op s.config s.controller j) (job_tells s j i.ticks)

-- ---- the line of a packet

-- a packet's line opens a connection: that of an opener that was sent
pub record PacketOpens (f : Flight) (u : Verdict) (key : KeyView) (o : Opening) : Type 0 where
  pub server : ℕ
  pub sent : u ≡ verdict.To server o.version o.pool
  pub opener : f.packet.kind ≡ Opener
  pub own : f.packet.key ≡ key

pub packet_opens : (n : ℕ) (f : Flight) (u : Verdict) (x : ℕ) (key : KeyView) (o : Opening) → opened_by (packet_line n f u x) key ≡ Some o
    → PacketOpens f u key o
packet_opens n f u x key o e = at f.packet.kind refl u refl e
  where
    at : (kind : Kind) → f.packet.kind ≡ kind → (z : Verdict) → u ≡ z
        → opened_by (line.Packet f.packet.number f.entered x n f.packet.key kind z) key ≡ Some o → PacketOpens f u key o
    at Opener k (verdict.To server version pool) d g = two (same_key f.packet.key key) refl g
      where
        two : (b : Bool) → same_key f.packet.key key ≡ b
            → (if b then Some (record { out = x; server = server; version = version; pool = pool }) else None) ≡ Some o → PacketOpens f u key o
        two true t h =
            let is : record { out = x; server = server; version = version; pool = pool } ≡ o = same_Some (record { out = x; server = server; version = version; pool = pool }) o h in
            record {
              server = server;
              sent = d ∙ ap (λ z. verdict.To server z.version z.pool) is;
              opener = k;
              own = same_key-true f.packet.key key t;
            }
        two false t h = absurd cc
    at Opener k z d g = two (same_key f.packet.key key) g
      where
        two : (b : Bool) → (if b then opened x z else None) ≡ Some o → PacketOpens f u key o
        two true h = absurd cc
        two false h = absurd cc
    at Carry k z d g = absurd cc
    at Ending k z d g = absurd cc

-- an opener whose line is to be drawn opens its connection, if it isn't open
pub leaving_opens : (n : ℕ) (f : Flight) (u : Verdict) (x : ℕ) (key : KeyView) (version : ℕ) → IsLeaving key version (stage.Fly f (leg.Judged u last.Out))
    → opened_by (packet_line n f u x) key ≡ None → ⊥
leaving_opens n f (verdict.To server m pool) x key version h e =
    by f.packet.kind h.0 e
  where
    by : (kind : Kind) → kind ≡ Opener → opened_by (line.Packet f.packet.number f.entered x n f.packet.key kind (verdict.To server m pool)) key ≡ None → ⊥
    by Opener k g = two (same_key f.packet.key key) (ap (λ z. same_key f.packet.key z) (sym h.1) ∙ same_key-self f.packet.key) g
      where
        two : (b : Bool) → b ≡ true → (if b then opened x (verdict.To server m pool) else None) ≡ None → ⊥
        two true t d = cc
        two false t d = cc
    by Carry k g = cc
    by Ending k g = cc
leaving_opens n f u x key version h e = absurd h

-- ---- an answer

-- the line of an answer opens a connection: that of a registered key, by its version
pub record AnswerOpens (s : Core) (r : Reply) (key : KeyView) (o : Opening) : Type 0 where
  pub own : r.held.key ≡ key
  pub entry : Entry
  pub found : entry_for key s.controller.book.entries ≡ Some entry
  pub version : o.version ≡ entry.version
  pub pool : o.pool ≡ named_at s.controller.named key.vip entry.version

module _ (s : Core) (i : Invariant s) where
  abbrev l : LayoutView
  l = s.config.layout

  abbrev book : List Entry
  book = s.controller.book.entries

  pub answer_opens : (r : Reply) → s.controller.job ≡ job.Draw (draw.Answer r) → (x : ℕ) (key : KeyView) (o : Opening)
      → opened_by (answer_line s.config s.controller r x) key ≡ Some o → AnswerOpens s r key o
  answer_opens r e x key o g = at (same_key r.held.key key) refl g
    where
      named : List (List ℕ)
      named = s.controller.named

      holds_so : AnswerHolds s.config (seen s.controller) r
      holds_so = subst (JobHolds s.config (seen s.controller) (printed s)) e i.jobs.holds.stands

      under : (version : ℕ) (b : Bool) → is_down s.controller.down (server_for s.config s.controller.named r.held.key version) ≡ b
          → opened x (verdict_by b (server_for s.config s.controller.named r.held.key version) version (named_at s.controller.named r.held.key.vip version)) ≡ Some o
          → (b ≡ false) × (o.version ≡ version) × (o.pool ≡ named_at s.controller.named r.held.key.vip version)
      under version true t h = absurd cc
      under version false t h =
          let server = server_for s.config s.controller.named r.held.key version in
          let pool = named_at s.controller.named r.held.key.vip version in
          let is : record { out = x; server = server; version = version; pool = pool } ≡ o = same_Some (record { out = x; server = server; version = version; pool = pool }) o h in
          (refl, sym (ap (λ z. z.version) is), sym (ap (λ z. z.pool) is))

      by : r.held.key ≡ key → (version : Option ℕ) → r.version ≡ version → (w : Option Entry) → entry_for r.held.key book ≡ w
          → AnswerNames s.config (seen s.controller) r w version
          → opened x (verdict_of s.config s.controller.named s.controller.down r.held.key version) ≡ Some o
          → AnswerOpens s r key o
      by own None d w q names h = absurd cc
      by own (Some version) d None q names h =
          let z = under version (is_down s.controller.down (server_for s.config s.controller.named r.held.key version)) refl h in
          absurd (true≢false (sym names.down ∙ z.0))
      by own (Some version) d (Some w) q names h =
          let z = under version (is_down s.controller.down (server_for s.config s.controller.named r.held.key version)) refl h in
          let n : version ≡ w.version = same_Some version w.version names in
          record {
            own = own;
            entry = w;
            found = ap (λ y. entry_for y book) (sym own) ∙ q;
            version = z.1 ∙ n;
            pool = z.2 ∙ (ap (λ m. named_at s.controller.named r.held.key.vip m) n ∙ ap (λ y. named_at s.controller.named y.vip w.version) own);
          }

      at : (b : Bool) → same_key r.held.key key ≡ b
          → (if b then opened x (verdict_of s.config s.controller.named s.controller.down r.held.key r.version) else None) ≡ Some o → AnswerOpens s r key o
      at true t h =
          by (same_key-true r.held.key key t) r.version refl (entry_for r.held.key book) refl holds_so.names h
      at false t h = absurd cc

  -- ---- open connections

  -- the version of an opening is known of its key
  pub opening_known : (key : KeyView) (o : Opening) → opening (printed s) key ≡ Some o → IsKnown l (ring_words s.words) book key o.version
  opening_known key o e = at (is_registered key book) refl
    where
      at : (b : Bool) → is_registered key book ≡ b → IsKnown l (ring_words s.words) book key o.version
      at true t =
          let w = registered_some key book t in
          let same : key ≡ w.0.key = found_key key book w.0 w.1 in
          let opened_so : OpenedAs s.controller.named w.0 o =
          subst (EntryOpened s.config s.controller.vips s.controller.named s.controller.down s.controller.job s.pipes w.0) (ap (opening (printed s)) (sym same) ∙ e)
          (all_in (λ e. EntryOpened s.config s.controller.vips s.controller.named s.controller.down s.controller.job s.pipes e (opening (printed s) e.key)) book w.0 i.openings.openings.entry (in_found (is_of key) book w.0 w.1)) in
          inl (w.0, w.1, sym opened_so.version)
      at false t = inr (subst (IsReported l (ring_words s.words) s.controller.named key) e (i.openings.openings.reported key t)).0

  -- ---- a version names another pool

  -- the version that is to be named is free
  given_free : (u : PoolUpdate) → s.controller.job ≡ job.Draw (draw.Given u) → state_of u.vip u.given s.controller.numbers ≡ Some Free
  given_free u e =
      let at_first : AtFirst s.controller.update s.controller.vips u = subst (JobAt s.config s.controller.update s.controller.vips) e i.update.update.phase in
      let ungiven : OnUngiven (Some u) (job.Draw (draw.Given u)) (λ u. state_of u.vip u.given s.controller.numbers ≡ Some Free) =
      subst (λ j. OnUngiven (Some u) j (λ u. state_of u.vip u.given s.controller.numbers ≡ Some Free)) e
      (subst (λ o. OnUngiven o s.controller.job (λ u. state_of u.vip u.given s.controller.numbers ≡ Some Free)) at_first.0 i.update.versions.ungiven) in
      ungiven refl

  -- the pools of versions that aren't free stay
  pub given_named : (u : PoolUpdate) → s.controller.job ≡ job.Draw (draw.Given u) → (vip n : ℕ)
      → (state_of vip n s.controller.numbers ≡ Some Free → ⊥)
      → named_at (with_named u.vip u.given u.pool s.controller.named) vip n ≡ named_at s.controller.named vip n
  given_named u e vip n used =
      named_else s.controller.named vip n u.vip u.given u.pool
      (λ a b. used (ap (λ z. state_of z n s.controller.numbers) (sym a) ∙ (ap (λ z. state_of u.vip z s.controller.numbers) (sym b) ∙ given_free u e)))

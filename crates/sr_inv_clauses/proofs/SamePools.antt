-- Every event keeps that each packet that entered after its connection's opening has the opening's pool.
use Rattle.std.proofs.Common.{◌≡◌, ℕ, ◌<◌, ◌||◌, ◌==◌, nat_le, Bool, true, false, List, slice_get, is_some, IfSome, Some, None, Option, sym, refl, ap, ◌∙◌, subst, inl, inr, arith}
use Rattle.std.proofs.lemmas.Bool.Decides.{nat_tests}
use Rattle.std.proofs.lemmas.Option.{same_Some}
use Rattle.sr_base.specs.Key.{KeyView}
use Rattle.sr_base.specs.declared.ring_word.RingKind.TheVariants.{Learn}
use Rattle.sr_inv_clauses.proofs.Choices.{answer_at, leg_at}
use Rattle.sr_inv_clauses.proofs.Drawn.{EachDraw, drawn_by, each_phase}
use Rattle.sr_inv_clauses.proofs.Opens.{opens_each}
use Rattle.sr_inv_clauses.specs.Clauses.{PoolsSame}
use Rattle.sr_inv_facts.proofs.Books.{found_key}
use Rattle.sr_inv_facts.specs.Fitted.{IsPacket}
use Rattle.sr_inv_facts.specs.Flying.{OnLeg}
use Rattle.sr_inv_facts.specs.InCauses.{setup_of}
use Rattle.sr_inv_facts.specs.InJobs.{AnswerNames, seen}
use Rattle.sr_inv_facts.specs.InOpenings.{EntryOpened, IfUnregistered, IsReported, NothingLearned, OpenedAs}
use Rattle.sr_inv_facts.specs.Doing.{OnAnswer}
use Rattle.sr_inv_facts.specs.Invariant.{Invariant}
use Rattle.sr_inv_facts.specs.Laws.{OpensWith}
use Rattle.sr_inv_facts.specs.OnTrack.{GoesBy, GoesVerdict, IsKnown, IsOnDuty}
use Rattle.sr_inv_facts.specs.Readings.{bit_words, entry_words, ring_words}
use Rattle.sr_inv_order.proofs.Joined.{each_part}
use Rattle.sr_inv_order.proofs.Lines.{lines_keep}
use Rattle.sr_law.specs.Opening.{opening}
use Rattle.sr_law.specs.Same.{keeps_choice, keeps_pool, meets_same}
use Rattle.sr_law.specs.Ticks.{chosen}
use Rattle.sr_law.specs.declared.line.Line.{Line}
use Rattle.sr_law.specs.declared.opening.Opening.{Opening}
use Rattle.sr_law.specs.declared.verdict.Verdict.{Verdict}
use Rattle.sr_machine.specs.Config.{Config}
use Rattle.sr_machine.specs.Core.{Core, printed}
use Rattle.sr_machine.specs.Deciding.{is_down, named_at, server_for, verdict_of}
use Rattle.sr_machine.specs.Draws.{answer_line}
use Rattle.sr_machine.specs.Keeping.{Keeps}
use Rattle.sr_machine.specs.Pipe.{packet_line}
use Rattle.sr_machine.specs.Stages.{verdict_by}
use Rattle.sr_machine.specs.declared.flight.Flight.{Flight}
use Rattle.sr_machine.specs.declared.leg.Leg.TheVariants.{Judged}
use Rattle.sr_machine.specs.declared.pipe_view.PipeView.{PipeView}
use Rattle.sr_machine.specs.declared.reply.Reply.{Reply}
use Rattle.sr_machine.specs.declared.stage.Stage.TheVariants.{Fly}
use Rattle.sr_shadow.proofs.Books.{registered_found}
use Rattle.sr_shadow.specs.Book.{entry_for, is_registered}
use Rattle.sr_shadow.specs.Entry.{is_of}
use Rattle.sr_shadow.specs.declared.entry.Entry.{Entry}
use Rattle.sr_update.proofs.Dues.{all_find}
use Rattle.sr_machine.specs.declared.draw.Draw.TheVariants as draw
use Rattle.sr_machine.specs.declared.job.Job.TheVariants as job
use Rattle.sr_machine.specs.declared.leg.Last.TheVariants as last
use Rattle.sr_machine.specs.declared.name.Name.TheVariants as name
use Rattle.sr_law.specs.declared.verdict.Verdict.TheVariants as verdict

-- what the controller knows of an is_open connection: its version, by its entry or by a report, and the pool that the version names
pub record IsKnownOpen (s : Core) (key : KeyView) (o : Opening) : Type 0 where
  pub known : IsKnown s.config.layout (ring_words s.words) s.controller.book.entries key o.version
  pub pool : o.pool ≡ named_at s.controller.named key.vip o.version

module _ (s : Core) (i : Invariant s) where
  abbrev pub Opened : Entry → Option Opening → Type 0
  Opened e o = EntryOpened s.config s.controller.vips s.controller.named s.controller.down s.controller.job s.pipes e o

  pub entry_opened : (key : KeyView) (e : Entry) → entry_for key s.controller.book.entries ≡ Some e → Opened e (opening (printed s) key)
  entry_opened key e q =
      subst (λ n. Opened e (opening (printed s) n)) (sym (found_key key s.controller.book.entries e q))
      (all_find (λ e. Opened e (opening (printed s) e.key)) (is_of key) s.controller.book.entries e i.openings.openings.entry q)

  pub unregistered : (key : KeyView) → entry_for key s.controller.book.entries ≡ None → is_registered key s.controller.book.entries ≡ false
  unregistered key q = registered_found key s.controller.book.entries ∙ ap is_some q

  pub known_open : (key : KeyView) (o : Opening) → opening (printed s) key ≡ Some o → IsKnownOpen s key o
  known_open key o e = at (entry_for key s.controller.book.entries) refl
    where
      at : (n : Option Entry) → entry_for key s.controller.book.entries ≡ n → IsKnownOpen s key o
      at (Some n) q =
          let own = found_key key s.controller.book.entries n q in
          let is : OpenedAs s.controller.named n o = subst (Opened n) e (entry_opened key n q) in record {
            known = inl (n, q, sym is.version);
            pool = is.pool
                ∙ (ap (λ k. named_at s.controller.named k.vip n.version) (sym own) ∙ ap (named_at s.controller.named key.vip) (sym is.version));
          }
      at None q =
          let is : IsReported s.config.layout (ring_words s.words) s.controller.named key (Some o) =
          subst (IsReported s.config.layout (ring_words s.words) s.controller.named key) e (i.openings.openings.reported key (unregistered key q)) in record {
            known = inr is.0;
            pool = is.1;
          }

  -- ---- a packet

  -- one that is on duty goes by the version of its connection
  pub on_duty : (p : ℕ) (v : PipeView) → slice_get s.pipes p ≡ Some v → (f : Flight) (w : Verdict) → v.stage ≡ Fly f (Judged w last.Out)
      → (o : Opening) → opening (printed s) f.packet.key ≡ Some o → o.out < f.entered → GoesVerdict o.version w
  on_duty p v q f w e o is_open late =
      let track = i.track.track.track p v q in
      let own = subst (λ a. OnLeg a (λ f leg. (n : ℕ) → IsKnown s.config.layout (ring_words s.words) s.controller.book.entries f.packet.key n → IsOnDuty (printed s) f
      → GoesBy s.config.layout (entry_words s.words) (bit_words s.words) n f leg)) e track in
      own o.version (known_open f.packet.key o is_open).known (inr (o, is_open, late))

  packet_same_by : (p : ℕ) (v : PipeView) → slice_get s.pipes p ≡ Some v → (f : Flight) (w : Verdict) → v.stage ≡ Fly f (Judged w last.Out)
      → (version number : ℕ) → ((n : ℕ) → GoesVerdict n w → version ≡ n) → named_at s.controller.named f.packet.key.vip version ≡ number
      → keeps_pool (opening (printed s) f.packet.key) f.entered number ≡ true
  packet_same_by p v q f w e version number goes names = at (opening (printed s) f.packet.key) refl
    where
      at : (o : Option Opening) → opening (printed s) f.packet.key ≡ o → keeps_pool o f.entered number ≡ true
      at None is_open = refl
      at (Some o) is_open = by (nat_le f.entered o.out) refl
        where
          by : (b : Bool) → nat_le f.entered o.out ≡ b → (b || (number == o.pool)) ≡ true
          by true t = refl
          by false t =
              let late : o.out < f.entered = grind (arith, nat_tests) in
              let is : version ≡ o.version = goes o.version (on_duty p v q f w e o is_open late) in
              let pool : number ≡ o.pool =
              sym names ∙ (ap (named_at s.controller.named f.packet.key.vip) is ∙ sym (known_open f.packet.key o is_open).pool) in
              grind (arith, nat_tests)

  packet_same : (p : ℕ) (v : PipeView) → slice_get s.pipes p ≡ Some v → (f : Flight) (w : Verdict) → v.stage ≡ Fly f (Judged w last.Out)
      → meets_same (printed s) (packet_line v.number f w (s.words name.Tick)) ≡ true
  packet_same p v q f (verdict.To server version number) e =
      packet_same_by p v q f (verdict.To server version number) e version number (λ n g. g)
      (leg_at s i p v q f (verdict.To server version number) e).server.names
  packet_same p v q f (verdict.Down server version number) e =
      packet_same_by p v q f (verdict.Down server version number) e version number (λ n g. g)
      (leg_at s i p v q f (verdict.Down server version number) e).server.names
  packet_same p v q f (verdict.Held why) e = refl
  packet_same p v q f verdict.Full e = refl
  packet_same p v q f verdict.NoPlace e = refl

  -- ---- an answer

  -- a key that is answered for a server that is down isn't is_open
  dead_closed : (r : Reply) → s.controller.job ≡ job.Draw (draw.Answer r) → entry_for r.held.key s.controller.book.entries ≡ None
      → (version : ℕ) → r.version ≡ Some version → (o : Opening) → opening (printed s) r.held.key ≡ Some o → (P : Type 0) → P
  dead_closed r e none version is o is_open P =
      let out = unregistered r.held.key none in
      let dead : OnAnswer (job.Draw (draw.Answer r)) (λ r. IfUnregistered s.controller.book.entries r (NothingLearned s.config.layout (ring_words s.words) s.pipes r.held.key)) =
      subst (λ j. OnAnswer j (λ r. IfUnregistered s.controller.book.entries r (NothingLearned s.config.layout (ring_words s.words) s.pipes r.held.key))) e
      i.openings.openings.dead in
      let nothing : NothingLearned s.config.layout (ring_words s.words) s.pipes r.held.key =
      subst (λ v. IfSome v (λ version. NothingLearned s.config.layout (ring_words s.words) s.pipes r.held.key)) is (dead out) in
      let told : IsReported s.config.layout (ring_words s.words) s.controller.named r.held.key (Some o) =
      subst (IsReported s.config.layout (ring_words s.words) s.controller.named r.held.key) is_open (i.openings.openings.reported r.held.key out) in
      let learn = told.0 in
      absurd (nothing.ring_free learn.0 learn.1 (record { kind = Learn; version = o.version; key = r.held.key }) learn.2 refl)

  answer_pool : (r : Reply) → s.controller.job ≡ job.Draw (draw.Answer r) → (version : ℕ) → r.version ≡ Some version
      → keeps_pool (opening (printed s) r.held.key) (s.words name.Tick) (named_at s.controller.named r.held.key.vip version) ≡ true
  answer_pool r e version is = at (opening (printed s) r.held.key) refl
    where
      at : (o : Option Opening) → opening (printed s) r.held.key ≡ o
          → keeps_pool o (s.words name.Tick) (named_at s.controller.named r.held.key.vip version) ≡ true
      at None is_open = refl
      at (Some o) is_open = by (entry_for r.held.key s.controller.book.entries) refl
          (subst (AnswerNames s.config (seen s.controller) r (entry_for r.held.key s.controller.book.entries)) is (answer_at s i r e).names)
        where
          or_second : (a b : Bool) → b ≡ true → (a || b) ≡ true
          or_second true b h = refl
          or_second false b h = h

          by : (n : Option Entry) → entry_for r.held.key s.controller.book.entries ≡ n → AnswerNames s.config (seen s.controller) r n (Some version)
              → (nat_le (s.words name.Tick) o.out || (named_at s.controller.named r.held.key.vip version == o.pool)) ≡ true
          by None none names = dead_closed r e none version is o is_open _
          by (Some n) found names =
              let same : version ≡ n.version = same_Some version n.version names in
              let opened : OpenedAs s.controller.named n o = subst (Opened n) is_open (entry_opened r.held.key n found) in
              let pool : named_at s.controller.named r.held.key.vip version ≡ o.pool =
              ap (λ k. named_at s.controller.named k.vip version) (found_key r.held.key s.controller.book.entries n found)
              ∙ (ap (named_at s.controller.named n.key.vip) same ∙ sym opened.pool) in
              or_second (nat_le (s.words name.Tick) o.out) (named_at s.controller.named r.held.key.vip version == o.pool) (grind (arith, nat_tests))

  answer_same : (r : Reply) → s.controller.job ≡ job.Draw (draw.Answer r)
      → meets_same (printed s) (answer_line s.config s.controller r (s.words name.Tick)) ≡ true
  answer_same r e = at r.version refl
    where
      by : (b : Bool) (version : ℕ)
          → keeps_pool (opening (printed s) r.held.key) (s.words name.Tick) (named_at s.controller.named r.held.key.vip version) ≡ true
          → keeps_choice (printed s) (s.words name.Tick) (chosen r.held.key (verdict_by b (server_for s.config s.controller.named r.held.key version) version (named_at s.controller.named r.held.key.vip version))) ≡ true
      by true version h = h
      by false version h = h

      at : (o : Option ℕ) → r.version ≡ o
          → keeps_choice (printed s) (s.words name.Tick) (chosen r.held.key (verdict_of s.config s.controller.named s.controller.down r.held.key o)) ≡ true
      at None q = refl
      at (Some version) q =
          by (is_down s.controller.down (server_for s.config s.controller.named r.held.key version)) version (answer_pool r e version q)

  drawn_same : EachDraw s (λ l. meets_same (printed s) l ≡ true)
  drawn_same = record {
    refused = λ n e. refl;
    taken_down = λ n e. refl;
    given = λ u e. refl;
    comes = λ u p e. each_phase (λ l. meets_same (printed s) l ≡ true) u (s.words name.Tick) refl refl refl refl p;
    reserved = λ p e. refl;
    placed = λ p e. refl;
    cleared = λ key place w e. refl;
    retired = λ key place version e. refl;
    answer = λ r e. answer_same r e;
    swept = λ from ms e. refl;
  }

abbrev pub SamePool : Config → List Line → Line → Type 0
SamePool k before l = meets_same before l ≡ true

pub same_keep : Keeps IsPacket Invariant PoolsSame
same_keep = lines_keep SamePool (record {
  packet = λ s i p v q f w e. packet_same s i p v q f w e;
  drawn = λ s i d e l q. drawn_by s (SamePool s.config (printed s)) (drawn_same s i) d e l q;
})

pub same_part : (s : Core) → Invariant s → PoolsSame s
same_part s i = each_part (setup_of s.config) _ (SamePool s.config) (λ before l m. m.same) (printed s) i.causes.causes.clauses

pub same_open : OpensWith PoolsSame
same_open k f = opens_each SamePool (λ k f n h. refl) k f

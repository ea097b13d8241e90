-- Every event keeps that each opening uses the pool of the last switch before it, or a later one that was given.
use Rattle.std.proofs.Common.{◌≡◌, ℕ, ◌<◌, ◌||◌, Bool, true, false, List, slice_get, is_some, Some, None, Option, if◌then◌else◌, sym, refl, ap, ◌∙◌, subst, inl, inr}
use Rattle.std.proofs.lemmas.Option.{same_Some}
use Rattle.sr_base.specs.Key.{KeyView, same_key}
use Rattle.sr_base.specs.declared.kind.Kind.{Kind}
use Rattle.sr_base.specs.declared.kind.Kind.TheVariants.{Opener, Carry, Ending}
use Rattle.sr_inv_clauses.proofs.Choices.{answer_at, leg_at}
use Rattle.sr_inv_clauses.proofs.Drawn.{EachDraw, drawn_by, each_phase}
use Rattle.sr_inv_clauses.proofs.Learned.{learned_pool, leaving_learned, sent_learned}
use Rattle.sr_inv_clauses.proofs.Opens.{opens_each}
use Rattle.sr_inv_clauses.proofs.SamePools.{Opened, entry_opened}
use Rattle.sr_inv_clauses.specs.Clauses.{PoolsNewer}
use Rattle.sr_inv_facts.proofs.Books.{found_key}
use Rattle.sr_inv_facts.proofs.Ranges.{opener_key}
use Rattle.sr_inv_facts.specs.Fitted.{IsPacket}
use Rattle.sr_inv_facts.specs.InCauses.{setup_of}
use Rattle.sr_inv_facts.specs.InJobs.{AnswerNames, seen}
use Rattle.sr_inv_facts.specs.InOpenings.{IsUnopened}
use Rattle.sr_inv_facts.specs.InShape.{StageFits}
use Rattle.sr_inv_facts.specs.Invariant.{Invariant}
use Rattle.sr_inv_facts.specs.Laws.{OpensWith}
use Rattle.sr_inv_order.proofs.Joined.{each_part}
use Rattle.sr_inv_order.proofs.Lines.{lines_keep}
use Rattle.sr_law.specs.Newer.{is_new_pool, meets_newer}
use Rattle.sr_law.specs.Opening.{is_open, opened, opened_by, opening}
use Rattle.sr_law.specs.declared.line.Line.{Line}
use Rattle.sr_law.specs.declared.opening.Opening.{Opening}
use Rattle.sr_law.specs.declared.verdict.Verdict.{Verdict}
use Rattle.sr_machine.specs.Config.{Config}
use Rattle.sr_machine.specs.Core.{Core, printed}
use Rattle.sr_machine.specs.Deciding.{is_down, learned, named_at, server_for, verdict_of}
use Rattle.sr_machine.specs.Draws.{answer_line}
use Rattle.sr_machine.specs.Keeping.{Keeps}
use Rattle.sr_machine.specs.Pipe.{packet_line}
use Rattle.sr_machine.specs.Stages.{verdict_by}
use Rattle.sr_machine.specs.declared.flight.Flight.{Flight}
use Rattle.sr_machine.specs.declared.leg.Leg.TheVariants.{Judged}
use Rattle.sr_machine.specs.declared.pipe_view.PipeView.{PipeView}
use Rattle.sr_machine.specs.declared.reply.Reply.{Reply}
use Rattle.sr_machine.specs.declared.stage.Stage.TheVariants.{Fly}
use Rattle.sr_shadow.specs.Book.{entry_for}
use Rattle.sr_shadow.specs.declared.entry.Entry.{Entry}
use Rattle.sr_machine.specs.declared.draw.Draw.TheVariants as draw
use Rattle.sr_machine.specs.declared.job.Job.TheVariants as job
use Rattle.sr_machine.specs.declared.leg.Last.TheVariants as last
use Rattle.sr_law.specs.declared.line.Line.TheVariants as line
use Rattle.sr_machine.specs.declared.name.Name.TheVariants as name
use Rattle.sr_law.specs.declared.verdict.Verdict.TheVariants as verdict

or_true : (a : Bool) → (a || true) ≡ true
or_true true = refl
or_true false = refl

-- where the connection isn't open, the line's opening owes its pool
open_or : (o : Option Opening) (b : Bool) → (o ≡ None → b ≡ true) → (is_some o || b) ≡ true
open_or None b h = h refl
open_or (Some o) b h = refl

module _ (s : Core) (i : Invariant s) where
  -- ---- a packet

  new_pool : (key : KeyView) (t out server version number : ℕ) → key.vip < s.config.layout.vips → version ≡ learned s.controller.vips key.vip
      → named_at s.controller.named key.vip version ≡ number
      → (b : Bool) → is_new_pool (printed s) key.vip t (if b then opened out (verdict.To server version number) else None) ≡ true
  new_pool key t out server version number h l n true =
      learned_pool s i key.vip t number h (ap (named_at s.controller.named key.vip) (sym l) ∙ n)
  new_pool key t out server version number h l n false = refl

  closed_pool : (key : KeyView) (t out : ℕ) (w : Verdict) (b : Bool) → opened out w ≡ None
      → is_new_pool (printed s) key.vip t (if b then opened out w else None) ≡ true
  closed_pool key t out w true h = ap (is_new_pool (printed s) key.vip t) h
  closed_pool key t out w false h = refl

  packet_newer : (p : ℕ) (v : PipeView) → slice_get s.pipes p ≡ Some v → (f : Flight) (w : Verdict) → v.stage ≡ Fly f (Judged w last.Out)
      → meets_newer (printed s) (packet_line v.number f w (s.words name.Tick)) ≡ true
  unfolding meets_newer
  packet_newer p v q f w e = open_or (opening (printed s) key) _ (λ closed. at f.packet.kind refl w e)
    where
      key : KeyView
      key = f.packet.key

      vip : f.packet.key.vip < s.config.layout.vips
      vip = (subst (StageFits s.config.layout) e (i.shape.pipes.stage p v q)).0.packet.vip

      by : (w : Verdict) → v.stage ≡ Fly f (Judged w last.Out) → f.packet.kind ≡ Opener
          → is_new_pool (printed s) f.packet.key.vip f.entered (opened_by (line.Packet f.packet.number f.entered (s.words name.Tick) v.number f.packet.key Opener w) f.packet.key) ≡ true
      by (verdict.To server version number) e k =
          new_pool f.packet.key f.entered (s.words name.Tick) server version number vip (sent_learned s i p v q f server version number e k)
          (leg_at s i p v q f (verdict.To server version number) e).server.names (same_key f.packet.key f.packet.key)
      by (verdict.Down server version number) e k =
          closed_pool f.packet.key f.entered (s.words name.Tick) (verdict.Down server version number) (same_key f.packet.key f.packet.key) refl
      by (verdict.Held why) e k = closed_pool f.packet.key f.entered (s.words name.Tick) (verdict.Held why) (same_key f.packet.key f.packet.key) refl
      by verdict.Full e k = closed_pool f.packet.key f.entered (s.words name.Tick) verdict.Full (same_key f.packet.key f.packet.key) refl
      by verdict.NoPlace e k = closed_pool f.packet.key f.entered (s.words name.Tick) verdict.NoPlace (same_key f.packet.key f.packet.key) refl

      at : (kind : Kind) → f.packet.kind ≡ kind → (w : Verdict) → v.stage ≡ Fly f (Judged w last.Out)
          → is_new_pool (printed s) f.packet.key.vip f.entered (opened_by (line.Packet f.packet.number f.entered (s.words name.Tick) v.number f.packet.key f.packet.kind w) f.packet.key) ≡ true
      at Opener k w e =
          subst (λ n. is_new_pool (printed s) f.packet.key.vip f.entered (opened_by (line.Packet f.packet.number f.entered (s.words name.Tick) v.number f.packet.key n w) f.packet.key) ≡ true)
          (sym k) (by w e k)
      at Carry k w e =
          subst (λ n. is_new_pool (printed s) f.packet.key.vip f.entered (opened_by (line.Packet f.packet.number f.entered (s.words name.Tick) v.number f.packet.key n w) f.packet.key) ≡ true)
          (sym k) refl
      at Ending k w e =
          subst (λ n. is_new_pool (printed s) f.packet.key.vip f.entered (opened_by (line.Packet f.packet.number f.entered (s.words name.Tick) v.number f.packet.key n w) f.packet.key) ≡ true)
          (sym k) refl

  -- ---- an answer

  -- a key that isn't open yet has the version that openers learn now
  entry_newest : (key : KeyView) (e : Entry) → entry_for key s.controller.book.entries ≡ Some e → opening (printed s) key ≡ None
      → e.version ≡ learned s.controller.vips key.vip
  entry_newest key e found closed =
      at (subst (Opened s i e) closed (entry_opened s i key e found)) ∙ ap (λ k. learned s.controller.vips k.vip) (sym own)
    where
      own : key ≡ e.key
      own = found_key key s.controller.book.entries e found

      at : IsUnopened s.config s.controller.vips s.controller.named s.controller.down s.controller.job s.pipes e
          → e.version ≡ learned s.controller.vips e.key.vip
      at (inl h) = leaving_learned s i e.key e.version h.1
      at (inr h) = h.newest

  answer_newer : (r : Reply) → s.controller.job ≡ job.Draw (draw.Answer r)
      → meets_newer (printed s) (answer_line s.config s.controller r (s.words name.Tick)) ≡ true
  unfolding meets_newer
  answer_newer r e = open_or (opening (printed s) r.held.key) _ (λ closed. at closed r.version refl)
    where
      by : opening (printed s) r.held.key ≡ None → (version : ℕ) → r.version ≡ Some version → (n : Option Entry)
          → entry_for r.held.key s.controller.book.entries ≡ n
          → AnswerNames s.config (seen s.controller) r n (Some version)
          → is_new_pool (printed s) r.held.key.vip (s.words name.Tick) (opened_by (line.Answer (s.words name.Tick) r.held.pipe r.held.nth r.held.key (verdict_of s.config s.controller.named s.controller.down r.held.key (Some version))) r.held.key) ≡ true
      by closed version is (Some n) found names = two (is_down s.controller.down (server_for s.config s.controller.named r.held.key version))
        where
          vip : r.held.key.vip < s.config.layout.vips
          vip = (opener_key s.config i.shape.config.layout s.controller i.shape.book i.shape.controller r.held (answer_at s i r e).first).vip

          newest : version ≡ learned s.controller.vips r.held.key.vip
          newest = same_Some version n.version names ∙ entry_newest r.held.key n found closed

          two : (b : Bool)
              → is_new_pool (printed s) r.held.key.vip (s.words name.Tick) (if same_key r.held.key r.held.key then opened (s.words name.Tick) (verdict_by b (server_for s.config s.controller.named r.held.key version) version (named_at s.controller.named r.held.key.vip version)) else None) ≡ true
          two true = closed_pool r.held.key (s.words name.Tick) (s.words name.Tick) (verdict.Down (server_for s.config s.controller.named r.held.key version) version (named_at s.controller.named r.held.key.vip version)) (same_key r.held.key r.held.key) refl
          two false = new_pool r.held.key (s.words name.Tick) (s.words name.Tick) (server_for s.config s.controller.named r.held.key version) version (named_at s.controller.named r.held.key.vip version) vip newest refl (same_key r.held.key r.held.key)
      by closed version is None none dead =
          subst (λ b. is_new_pool (printed s) r.held.key.vip (s.words name.Tick) (if same_key r.held.key r.held.key then opened (s.words name.Tick) (verdict_by b (server_for s.config s.controller.named r.held.key version) version (named_at s.controller.named r.held.key.vip version)) else None) ≡ true)
          (sym dead.down) (closed_pool r.held.key (s.words name.Tick) (s.words name.Tick) (verdict.Down (server_for s.config s.controller.named r.held.key version) version (named_at s.controller.named r.held.key.vip version)) (same_key r.held.key r.held.key) refl)

      at : opening (printed s) r.held.key ≡ None → (o : Option ℕ) → r.version ≡ o
          → is_new_pool (printed s) r.held.key.vip (s.words name.Tick) (opened_by (line.Answer (s.words name.Tick) r.held.pipe r.held.nth r.held.key (verdict_of s.config s.controller.named s.controller.down r.held.key r.version)) r.held.key) ≡ true
      at closed None is =
          subst (λ o. is_new_pool (printed s) r.held.key.vip (s.words name.Tick) (opened_by (line.Answer (s.words name.Tick) r.held.pipe r.held.nth r.held.key (verdict_of s.config s.controller.named s.controller.down r.held.key o)) r.held.key) ≡ true)
          (sym is) (closed_pool r.held.key (s.words name.Tick) (s.words name.Tick) verdict.NoPlace (same_key r.held.key r.held.key) refl)
      at closed (Some version) is =
          subst (λ o. is_new_pool (printed s) r.held.key.vip (s.words name.Tick) (opened_by (line.Answer (s.words name.Tick) r.held.pipe r.held.nth r.held.key (verdict_of s.config s.controller.named s.controller.down r.held.key o)) r.held.key) ≡ true)
          (sym is)
          (by closed version is (entry_for r.held.key s.controller.book.entries) refl (subst (AnswerNames s.config (seen s.controller) r (entry_for r.held.key s.controller.book.entries)) is (answer_at s i r e).names))

  drawn_newer : EachDraw s (λ l. meets_newer (printed s) l ≡ true)
  unfolding meets_newer
  drawn_newer = record {
    refused = λ n e. refl;
    taken_down = λ n e. refl;
    given = λ u e. refl;
    comes = λ u p e. each_phase (λ l. meets_newer (printed s) l ≡ true) u (s.words name.Tick) refl refl refl refl p;
    reserved = λ p e. or_true (is_open (printed s) p.key);
    placed = λ p e. or_true (is_open (printed s) p.key);
    cleared = λ key place w e. or_true (is_open (printed s) key);
    retired = λ key place version e. or_true (is_open (printed s) key);
    answer = λ r e. answer_newer r e;
    swept = λ from ms e. refl;
  }

abbrev pub IsNewer : Config → List Line → Line → Type 0
IsNewer k before l = meets_newer before l ≡ true

pub newer_keep : Keeps IsPacket Invariant PoolsNewer
newer_keep = lines_keep IsNewer (record {
  packet = λ s i p v q f w e. packet_newer s i p v q f w e;
  drawn = λ s i d e l q. drawn_by s (IsNewer s.config (printed s)) (drawn_newer s i) d e l q;
})

pub newer_part : (s : Core) → Invariant s → PoolsNewer s
newer_part s i = each_part (setup_of s.config) _ (IsNewer s.config) (λ before l m. m.newer) (printed s) i.causes.causes.clauses

pub newer_open : OpensWith PoolsNewer
unfolding meets_newer
newer_open k f = opens_each IsNewer (λ k f n h. refl) k f

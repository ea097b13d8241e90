-- Every event keeps that each server is the right one.
use Rattle.std.proofs.Common.{◌≡◌, ℕ, ◌+◌, ◌<◌, ◌≤◌, ◌&&◌, ◌==◌, Bool, true, false, List, [], ◌∷◌, slice_get, Some, None, Option, option_map, if◌then◌else◌, sym, refl, ap, ◌∙◌, subst, arith}
use Rattle.std.proofs.lemmas.Bool.Decides.{nat_tests}
use Rattle.std.proofs.lemmas.Option.{same_Some}
use Rattle.sr_base.specs.Key.{KeyView}
use Rattle.sr_inv_clauses.proofs.Choices.{answer_at, entry_used, leg_at, next_used, used_server}
use Rattle.sr_inv_clauses.proofs.Drawn.{EachDraw, drawn_by, each_phase}
use Rattle.sr_inv_clauses.specs.Clauses.{ServersRight}
use Rattle.sr_inv_facts.proofs.Books.{found_key}
use Rattle.sr_inv_facts.proofs.Ranges.{opener_key}
use Rattle.sr_inv_facts.specs.Fitted.{IsPacket}
use Rattle.sr_inv_facts.specs.InCauses.{setup_of}
use Rattle.sr_inv_facts.specs.InFlight.{HasServer}
use Rattle.sr_inv_facts.specs.InJobs.{AnswerNames, seen}
use Rattle.sr_inv_facts.specs.InUpdate.{is_used, is_ungiven, pool_given}
use Rattle.sr_inv_facts.specs.Invariant.{Invariant}
use Rattle.sr_inv_order.proofs.Joined.{each_part}
use Rattle.sr_inv_order.proofs.Lines.{lines_keep}
use Rattle.sr_inv_order.proofs.Rising.{and_true}
use Rattle.sr_law.specs.Given.{has_pool, last_version}
use Rattle.sr_law.specs.Pools.{VipPools, picked, pool_of, server_of}
use Rattle.sr_law.specs.Server.{is_number, is_right_choice, meets_server}
use Rattle.sr_law.specs.declared.giving.Giving.{Giving}
use Rattle.sr_law.specs.declared.line.Line.{Line}
use Rattle.sr_law.specs.declared.verdict.Verdict.{Verdict}
use Rattle.sr_machine.specs.Config.{Config}
use Rattle.sr_machine.specs.Core.{Core, printed}
use Rattle.sr_machine.specs.Deciding.{is_down, named_at, server_for, verdict_of}
use Rattle.sr_machine.specs.Draws.{answer_line}
use Rattle.sr_machine.specs.Keeping.{Keeps}
use Rattle.sr_machine.specs.Pipe.{packet_line}
use Rattle.sr_machine.specs.Stages.{verdict_by}
use Rattle.sr_machine.specs.declared.flight.Flight.{Flight}
use Rattle.sr_machine.specs.declared.leg.Leg.TheVariants.{Judged}
use Rattle.sr_machine.specs.declared.pipe_view.PipeView.{PipeView}
use Rattle.sr_machine.specs.declared.reply.Reply.{Reply}
use Rattle.sr_machine.specs.declared.stage.Stage.TheVariants.{Fly}
use Rattle.sr_shadow.specs.Book.{entry_for}
use Rattle.sr_shadow.specs.declared.entry.Entry.{Entry}
use Rattle.sr_law.specs.Ticks.{chosen}
use Rattle.sr_machine.specs.declared.draw.Draw.TheVariants as draw
use Rattle.sr_machine.specs.declared.job.Job.TheVariants as job
use Rattle.sr_machine.specs.declared.leg.Last.TheVariants as last
use Rattle.sr_machine.specs.declared.name.Name.TheVariants as name
use Rattle.sr_law.specs.declared.verdict.Verdict.TheVariants as verdict

-- ---- a choice

-- a pool that is there is no pool 0
pool_of_none : (pools : List VipPools) (vip : ℕ) (pool : List ℕ) → pool_of pools vip 0 ≡ Some pool → (P : Type 0) → P
pool_of_none pools vip pool e P = at (slice_get pools vip) e
  where
    at : (o : Option VipPools) → Rattle.std.proofs.Common.option_and_then (λ own. Rattle.sr_law.specs.Pools.numbered own 0) o ≡ Some pool → P
    at None q = absurd (cc)
    at (Some own) q = absurd (cc)

-- what the controller knows of a choice, the lines tell
pub right_choice : (s : Core) → Invariant s → (key : KeyView) (version number server : ℕ)
    → HasServer s.config s.controller.named key version number server
    → is_right_choice s.config.pools (printed s) (Some (record { key = key; server = server; version = version; pool = number })) ≡ true
right_choice s i key version number server h =
    and_true (has_pool (last_version (printed s) key.vip version) number) (is_number (server_of s.config.pools number key) server)
    (at (last_version (printed s) key.vip version) (sym (i.update.versions.pool key.vip version) ∙ h.names))
    (ap (λ o. is_number (option_map (λ pool. picked pool key) o) server) h.there ∙ same h.is)
  where
    same : server ≡ picked h.pool key → (picked h.pool key == server) ≡ true
    same e = grind (arith, nat_tests)

    at : (o : Option Giving) → pool_given o ≡ number → has_pool o number ≡ true
    at None e = pool_of_none s.config.pools key.vip h.pool (ap (λ n. pool_of s.config.pools key.vip n) e ∙ h.there) (false ≡ true)
    at (Some g) e = grind (arith, nat_tests)

module _ (s : Core) (i : Invariant s) where
  packet_right : (p : ℕ) (v : PipeView) → slice_get s.pipes p ≡ Some v → (f : Flight) (w : Verdict)
      → v.stage ≡ Fly f (Judged w last.Out)
      → meets_server s.config.pools (printed s) (packet_line v.number f w (s.words name.Tick)) ≡ true
  packet_right p v q f (verdict.To server version number) e =
      right_choice s i f.packet.key version number server (leg_at s i p v q f (verdict.To server version number) e).server
  packet_right p v q f (verdict.Down server version number) e =
      right_choice s i f.packet.key version number server (leg_at s i p v q f (verdict.Down server version number) e).server
  packet_right p v q f (verdict.Held why) e = refl
  packet_right p v q f verdict.Full e = refl
  packet_right p v q f verdict.NoPlace e = refl

  -- the version of an answer is in use
  pub answer_used : (r : Reply) → s.controller.job ≡ job.Draw (draw.Answer r) → (version : ℕ) → r.version ≡ Some version
      → is_used s.controller.numbers r.held.key.vip version ≡ true
  answer_used r e version q =
      at (entry_for r.held.key s.controller.book.entries) refl
      (subst (AnswerNames s.config (seen s.controller) r (entry_for r.held.key s.controller.book.entries)) q (answer_at s i r e).names)
    where
      at : (o : Option Entry) → entry_for r.held.key s.controller.book.entries ≡ o → AnswerNames s.config (seen s.controller) r o (Some version)
          → is_used s.controller.numbers r.held.key.vip version ≡ true
      at (Some n) f names =
          let is : version ≡ n.version = same_Some version n.version names in
          subst (λ key. is_used s.controller.numbers key.vip version ≡ true) (sym (found_key r.held.key s.controller.book.entries n f))
          (subst (λ m. is_used s.controller.numbers n.key.vip m ≡ true) (sym is) (entry_used s i r.held.key n f))
      at None f dead =
          let fits = opener_key s.config i.shape.config.layout s.controller i.shape.book i.shape.controller r.held dead.first in
          subst (λ m. is_used s.controller.numbers r.held.key.vip m ≡ true) (sym dead.next)
          (next_used s i r.held.key.vip fits.vip (ap is_ungiven e))

  answer_right : (r : Reply) → s.controller.job ≡ job.Draw (draw.Answer r)
      → meets_server s.config.pools (printed s) (answer_line s.config s.controller r (s.words name.Tick)) ≡ true
  answer_right r e = at r.version refl
    where
      key : KeyView
      key = r.held.key

      by : (b : Bool) (version : ℕ) → is_used s.controller.numbers r.held.key.vip version ≡ true
          → is_right_choice s.config.pools (printed s) (chosen r.held.key (verdict_by b (server_for s.config s.controller.named r.held.key version) version (named_at s.controller.named r.held.key.vip version))) ≡ true
      by true version u =
          right_choice s i r.held.key version (named_at s.controller.named r.held.key.vip version) (server_for s.config s.controller.named r.held.key version) (used_server s i r.held.key version u)
      by false version u =
          right_choice s i r.held.key version (named_at s.controller.named r.held.key.vip version) (server_for s.config s.controller.named r.held.key version) (used_server s i r.held.key version u)

      at : (o : Option ℕ) → r.version ≡ o
          → is_right_choice s.config.pools (printed s) (chosen r.held.key (verdict_of s.config s.controller.named s.controller.down r.held.key o)) ≡ true
      at None q = refl
      at (Some version) q =
          by (is_down s.controller.down (server_for s.config s.controller.named r.held.key version)) version (answer_used r e version q)

  drawn_right : EachDraw s (λ l. meets_server s.config.pools (printed s) l ≡ true)
  drawn_right = record {
    refused = λ n e. refl;
    taken_down = λ n e. refl;
    given = λ u e. refl;
    comes = λ u p e.
        each_phase (λ l. meets_server s.config.pools (printed s) l ≡ true) u (s.words name.Tick) refl refl refl refl p;
    reserved = λ p e. refl;
    placed = λ p e. refl;
    cleared = λ key place w e. refl;
    retired = λ key place version e. refl;
    answer = λ r e. answer_right r e;
    swept = λ from ms e. refl;
  }

abbrev pub Right : Config → List Line → Line → Type 0
Right k before l = meets_server k.pools before l ≡ true

pub servers_keep : Keeps IsPacket Invariant ServersRight
servers_keep = lines_keep Right (record {
  packet = λ s i p v q f w e. packet_right s i p v q f w e;
  drawn = λ s i d e l q. drawn_by s (Right s.config (printed s)) (drawn_right s i) d e l q;
})

pub servers_part : (s : Core) → Invariant s → ServersRight s
servers_part s i = each_part (setup_of s.config) _ (Right s.config) (λ before l m. m.server) (printed s) i.causes.causes.clauses

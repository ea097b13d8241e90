-- What a line's verdict has chosen is what the controller knows of its version.
use Rattle.std.proofs.Common.{◌≡◌, ℕ, ◌<◌, Bool, true, false, not, slice_get, Some, None, Option, option_map, unwrap_or, refl, ap, subst}
use Rattle.sr_base.specs.Key.{KeyView}
use Rattle.sr_inv_facts.proofs.Ranges.{learned_below}
use Rattle.sr_inv_facts.specs.InFlight.{HasServer, LegHolds}
use Rattle.sr_inv_facts.specs.InJobs.{AnswerHolds, seen}
use Rattle.sr_inv_facts.specs.InUpdate.{is_used, is_used_by, is_ungiven}
use Rattle.sr_inv_facts.specs.InWords.{HoldsPool}
use Rattle.sr_inv_facts.specs.Invariant.{Invariant}
use Rattle.sr_inv_facts.specs.Flying.{OnLeg}
use Rattle.sr_inv_facts.specs.Readings.{bit_words}
use Rattle.sr_inv_order.proofs.Placing.{holds_at}
use Rattle.sr_inv_update.proofs.VersionEntries.{learned_used}
use Rattle.sr_law.specs.Pools.{picked}
use Rattle.sr_law.specs.declared.verdict.Verdict.{Verdict}
use Rattle.sr_machine.specs.Core.{Core, printed}
use Rattle.sr_machine.specs.Deciding.{learned, named_at, server_for}
use Rattle.sr_machine.specs.declared.flight.Flight.{Flight}
use Rattle.sr_machine.specs.declared.leg.Leg.TheVariants.{Judged}
use Rattle.sr_machine.specs.declared.pipe_view.PipeView.{PipeView}
use Rattle.sr_machine.specs.declared.reply.Reply.{Reply}
use Rattle.sr_machine.specs.declared.stage.Stage.TheVariants.{Fly}
use Rattle.sr_shadow.specs.Book.{entry_for}
use Rattle.sr_shadow.specs.declared.entry.Entry.{Entry}
use Rattle.sr_update.proofs.Dues.{all_find}
use Rattle.sr_update.specs.Numbers.{state_of}
use Rattle.sr_update.specs.declared.number_state.NumberState.{NumberState}
use Rattle.sr_update.specs.Numbers.{is_free}
use Rattle.sr_machine.specs.declared.draw.Draw.TheVariants as draw
use Rattle.sr_machine.specs.declared.job.Job.TheVariants as job
use Rattle.sr_machine.specs.declared.leg.Last.TheVariants as last

module _ (s : Core) (i : Invariant s) where
  -- of the leg of a packet in flight
  pub leg_at : (p : ℕ) (v : PipeView) → slice_get s.pipes p ≡ Some v → (f : Flight) (w : Verdict) → v.stage ≡ Fly f (Judged w last.Out)
      → LegHolds s.config (bit_words s.words) s.controller.named s.controller.numbers s.controller.rings s.controller.job p v.pushed f (Judged w last.Out)
  leg_at p v q f w e =
      subst (λ a. OnLeg a (LegHolds s.config (bit_words s.words) s.controller.named s.controller.numbers s.controller.rings s.controller.job p v.pushed)) e
      (i.flight.legs p v q)

  -- a version that is in use has its pool
  pub used_pool : (vip version : ℕ) → is_used s.controller.numbers vip version ≡ true
      → HoldsPool s.config s.words vip version (named_at s.controller.named vip version)
  used_pool vip version u = at (state_of vip version s.controller.numbers) refl u
    where
      at : (o : Option NumberState) → state_of vip version s.controller.numbers ≡ o → is_used_by o ≡ true
          → HoldsPool s.config s.words vip version (named_at s.controller.named vip version)
      at None q h = cc
      at (Some is) q h = i.words.others.version vip version is q (by (is_free is) h)
        where
          by : (b : Bool) → not b ≡ true → b ≡ false
          by true e = cc
          by false e = refl

  -- and so its server is the one that the pool's hash picks
  pub used_server : (key : KeyView) (version : ℕ) → is_used s.controller.numbers key.vip version ≡ true
      → HasServer s.config s.controller.named key version (named_at s.controller.named key.vip version) (server_for s.config s.controller.named key version)
  used_server key version u =
      let h = used_pool key.vip version u in record {
        pool = h.pool;
        there = h.there;
        names = refl;
        is = ap (λ o. unwrap_or (option_map (λ pool. picked pool key) o) 0) h.there;
      }

  -- ---- an answer

  pub answer_at : (r : Reply) → s.controller.job ≡ job.Draw (draw.Answer r) → AnswerHolds s.config (seen s.controller) r
  answer_at r e = holds_at s i (job.Draw (draw.Answer r)) e

  -- the version of an entry is in use
  pub entry_used : (key : KeyView) (e : Entry) → entry_for key s.controller.book.entries ≡ Some e
      → is_used s.controller.numbers e.key.vip e.version ≡ true
  entry_used key e q = all_find (λ e. is_used s.controller.numbers e.key.vip e.version ≡ true) _ s.controller.book.entries e i.update.versions.used q

  -- so is the one that an opener learns, where no change is about to be given
  pub next_used : (vip : ℕ) → vip < s.config.layout.vips → is_ungiven s.controller.job ≡ false
      → is_used s.controller.numbers vip (learned s.controller.vips vip) ≡ true
  next_used vip h g =
      let c = s.controller in
      learned_used s.config (printed s) c.update c.vips c.numbers c.named c.book.entries c.mark c.job i.update.versions i.update.update g vip h
      (learned_below s.config i.shape.config.layout c i.shape.book i.shape.controller vip)

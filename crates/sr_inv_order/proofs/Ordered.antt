-- Every event keeps the lines in order.
use Rattle.std.proofs.Common.{◌≡◌, ℕ, ◌+◌, ◌<◌, ◌≤◌, nat_lt, ◌&&◌, true, false, ◌∷◌, slice_get, Some, sym, refl, subst, arith}
use Rattle.std.proofs.lemmas.Option.{same_Some, slice_get_within}
use Rattle.std.specs.List.{AllByRecursion, list_any}
use Rattle.sr_base.specs.Key.{KeyView}
use Rattle.sr_base.specs.declared.place.Place.{Place}
use Rattle.sr_base.specs.declared.vip_word.Phase.{Phase}
use Rattle.sr_base.specs.declared.vip_word.Phase.TheVariants.{Steady, Recording, Holding, Transit}
use Rattle.sr_hash.specs.Uses.{is_place_of}
use Rattle.sr_inv_facts.proofs.Books.{found_key}
use Rattle.sr_inv_facts.proofs.Lists.{of_some}
use Rattle.sr_inv_facts.proofs.Ranges.{KeyFits, entry_fits, entry_key, opener_key, put_fits}
use Rattle.sr_inv_facts.specs.Fitted.{IsPacket}
use Rattle.sr_inv_facts.specs.Flying.{OnEntered}
use Rattle.sr_inv_facts.specs.InCauses.{setup_of}
use Rattle.sr_inv_facts.specs.InShape.{OpenerFits, StageFits}
use Rattle.sr_inv_facts.specs.InTicks.{AllOutBefore, OnSweep, job_times, stage_times}
use Rattle.sr_inv_facts.specs.InUpdate.{OnRefused}
use Rattle.sr_inv_facts.specs.Invariant.{Invariant}
use Rattle.sr_inv_order.proofs.Grouped.{fits, given_next, given_over, grouped, phase_at, phase_goes_on, phase_next, pools_count}
use Rattle.sr_inv_order.proofs.InRange.{RangeOwed, answer_below, downing_below, is_below, ranged, verdict_below}
use Rattle.sr_inv_order.proofs.Lines.{Owed, lines_keep}
use Rattle.sr_inv_order.proofs.Placing.{cleared_own, cleared_vip, holds_at, placed_own, reserved_free}
use Rattle.sr_inv_order.proofs.Rising.{IsFresh, after_controller, after_its_pipe, and_true, entered_fresh, not_false, rises_next, same_self, sweep_fresh}
use Rattle.sr_inv_order.specs.Meeting.{OrderKept}
use Rattle.sr_law.specs.Groups.{after_gives, goes_on, keeps_groups, last_of_update, names_next_pool}
use Rattle.sr_law.specs.Order.{meets_order, refused_past, refuses_next}
use Rattle.sr_law.specs.Ranges.{in_range}
use Rattle.sr_law.specs.Rising.{has_two_ticks, one_by_one, rises, was_controlling, was_in_pipe}
use Rattle.sr_law.specs.Taken.{keeps_places}
use Rattle.sr_law.specs.Ticks.{out_of, start_of}
use Rattle.sr_law.specs.declared.line.Line.{Line}
use Rattle.sr_law.specs.declared.verdict.Verdict.{Verdict}
use Rattle.sr_machine.specs.Core.{Core, printed}
use Rattle.sr_machine.specs.Draws.{answer_line, draw_line, phase_line}
use Rattle.sr_machine.specs.Keeping.{Keeps}
use Rattle.sr_machine.specs.Pipe.{packet_line}
use Rattle.sr_machine.specs.declared.draw.Draw.{Draw}
use Rattle.sr_machine.specs.declared.flight.Flight.{Flight}
use Rattle.sr_machine.specs.declared.leg.Leg.TheVariants.{Judged}
use Rattle.sr_machine.specs.declared.pipe_view.PipeView.{PipeView}
use Rattle.sr_machine.specs.declared.pool_update.PoolUpdate.{PoolUpdate}
use Rattle.sr_machine.specs.declared.put.Put.{Put}
use Rattle.sr_machine.specs.declared.reply.Reply.{Reply}
use Rattle.sr_machine.specs.declared.stage.Stage.TheVariants.{Fly}
use Rattle.sr_machine.specs.declared.why.Why.{Why}
use Rattle.sr_machine.specs.declared.draw.Draw.TheVariants as draw
use Rattle.sr_machine.specs.declared.job.Job.TheVariants as job
use Rattle.sr_machine.specs.declared.leg.Last.TheVariants as last
use Rattle.sr_law.specs.declared.line.Line.TheVariants as line
use Rattle.sr_machine.specs.declared.name.Name.TheVariants as name

-- ---- a line in order

-- what a line owes
pub record OrderOwed (s : Core) (l : Line) : Type 0 where
  pub on : goes_on (last_of_update (after_gives s.config.layout.vips (printed s))) l ≡ true
  pub next : names_next_pool s.config.pools (printed s) l ≡ true
  pub out : out_of l ≡ s.words name.Tick
  pub two : has_two_ticks l ≡ true → IsFresh s (start_of l)
  pub one : one_by_one (printed s) l ≡ true
  pub range : RangeOwed s l
  pub places : keeps_places (printed s) l ≡ true
  pub refuses : refuses_next (printed s) l ≡ true

module _ (s : Core) (i : Invariant s) where
  some_tick : 1 ≤ s.words name.Tick
  some_tick = omega (arith, i.words.tick)

  ordered : (l : Line) → OrderOwed s l → meets_order (setup_of s.config) (printed s) l ≡ true
  unfolding meets_order
  ordered l o =
      let k = setup_of s.config in
      let before = printed s in
      and_true (((keeps_groups k before l && rises before l) && in_range k l) && keeps_places before l) (refuses_next before l)
      (and_true ((keeps_groups k before l && rises before l) && in_range k l) (keeps_places before l)
      (and_true (keeps_groups k before l && rises before l) (in_range k l)
      (and_true (keeps_groups k before l) (rises before l) (grouped s i l o.on o.next) (rises_next s i.ticks some_tick l o.out o.two o.one))
      (ranged s i l o.range)) o.places) o.refuses

  vip_fits : (key : KeyView) → KeyFits s.config.layout key → nat_lt key.vip s.config.layout.vips ≡ true
  vip_fits key f = is_below key.vip s.config.layout.vips f.vip

  -- ---- a packet's

  pub packet_ordered : (p : ℕ) (v : PipeView) → slice_get s.pipes p ≡ Some v → (f : Flight) (w : Verdict)
      → v.stage ≡ Fly f (Judged w last.Out)
      → meets_order (setup_of s.config) (printed s) (packet_line v.number f w (s.words name.Tick)) ≡ true
  unfolding keeps_places
  packet_ordered p v q f w e =
      let stage : StageFits s.config.layout (Fly f (Judged w last.Out)) = subst (StageFits s.config.layout) e (i.shape.pipes.stage p v q) in
      let number = i.shape.pipes.number p v q in
      let within : p < s.config.layout.shape.pipes = subst (λ n. p < n) i.shape.pipes.count (slice_get_within s.pipes p v q) in
      let entered : AllOutBefore f.entered v.lines = subst (λ a. OnEntered a (λ tick. AllOutBefore tick v.lines)) e (i.ticks.pipes p v q).entered in
      let times = subst (λ a. stage_times f.entered a ≡ 1) (sym e) (same_self f.entered) in
      ordered (packet_line v.number f w (s.words name.Tick)) (record {
        on = refl;
        next = refl;
        out = refl;
        two = λ t. entered_fresh s i.ticks p v q f.entered times;
        one = not_false (list_any (was_in_pipe v.number f.entered) (printed s))
            (subst (λ n. list_any (was_in_pipe n f.entered) (printed s) ≡ false) (sym number) (after_its_pipe s i.ticks p v q f.entered entered));
        range = record {
          vip = is_below f.packet.key.vip s.config.layout.vips stage.0.packet.vip;
          pipe = subst (λ n. nat_lt n s.config.layout.shape.pipes ≡ true) (sym number) (is_below p s.config.layout.shape.pipes within);
          server = verdict_below s.config.layout f.packet.key w stage.1.0;
          place = refl;
        };
        places = refl;
        refuses = refl;
      })

  -- ---- the controller's

  -- a line that names no update, no sweep and no place
  plain : (l : Line) → goes_on (last_of_update (after_gives s.config.layout.vips (printed s))) l ≡ true → names_next_pool s.config.pools (printed s) l ≡ true
      → out_of l ≡ s.words name.Tick
      → has_two_ticks l ≡ false → one_by_one (printed s) l ≡ true → RangeOwed s l → keeps_places (printed s) l ≡ true → refuses_next (printed s) l ≡ true
      → meets_order (setup_of s.config) (printed s) l ≡ true
  plain l on next out two one range places refuses = ordered l (record {
    on = on;
    next = next;
    out = out;
    two = λ t. cc;
    one = one;
    range = range;
    places = places;
    refuses = refuses;
  })

  refused_ordered : (n : ℕ) → s.controller.job ≡ job.Draw (draw.Refused n)
      → meets_order (setup_of s.config) (printed s) (line.Refused (s.words name.Tick) n) ≡ true
  unfolding keeps_places
  refused_ordered n e =
      let new : list_any (refused_past n) (printed s) ≡ false =
      subst (λ j. OnRefused j (λ change. list_any (refused_past change) (printed s) ≡ false)) e i.update.changes.unrefused in
      plain (line.Refused (s.words name.Tick) n) refl refl refl refl refl (record { vip = refl; pipe = refl; server = refl; place = refl }) refl
      (not_false (list_any (refused_past n) (printed s)) new)

  taken_down_ordered : (n : ℕ) → s.controller.job ≡ job.Draw (draw.TakenDown n)
      → meets_order (setup_of s.config) (printed s) (line.TakenDown (s.words name.Tick) n) ≡ true
  unfolding keeps_places
  taken_down_ordered n e =
      plain (line.TakenDown (s.words name.Tick) n) refl refl refl refl refl
      (record { vip = refl; pipe = refl; server = is_below n s.config.layout.servers (downing_below s i n e); place = refl }) refl refl

  given_ordered : (u : PoolUpdate) → s.controller.job ≡ job.Draw (draw.Given u)
      → meets_order (setup_of s.config) (printed s) (line.Given (s.words name.Tick) u.vip u.given u.pool) ≡ true
  unfolding keeps_places
  given_ordered u e =
      let vip = (fits s i u (phase_at s i (job.Draw (draw.Given u)) e).0).vip in
      plain (line.Given (s.words name.Tick) u.vip u.given u.pool) (given_over s i u e) (given_next s i u (s.words name.Tick) e) refl refl refl
      (record { vip = is_below u.vip s.config.layout.vips vip; pipe = refl; server = refl; place = refl }) refl refl

  phase_ordered : (u : PoolUpdate) (p : Phase) → s.controller.job ≡ job.Draw (draw.Comes u p)
      → meets_order (setup_of s.config) (printed s) (phase_line u (s.words name.Tick) p) ≡ true
  unfolding keeps_places
  phase_ordered u p e = at p e (phase_goes_on s i u p (s.words name.Tick) e) (phase_next s i u p (s.words name.Tick) e)
    where
      by : (l : Line) → goes_on (last_of_update (after_gives s.config.layout.vips (printed s))) l ≡ true
          → names_next_pool s.config.pools (printed s) l ≡ true
          → out_of l ≡ s.words name.Tick → has_two_ticks l ≡ false → one_by_one (printed s) l ≡ true → RangeOwed s l
          → keeps_places (printed s) l ≡ true
          → refuses_next (printed s) l ≡ true
          → meets_order (setup_of s.config) (printed s) l ≡ true
      by = plain

      vip : (w : Phase) → s.controller.job ≡ job.Draw (draw.Comes u w) → nat_lt u.vip s.config.layout.vips ≡ true
      vip Steady r = is_below u.vip s.config.layout.vips (fits s i u (phase_at s i (job.Draw (draw.Comes u Steady)) r).0).vip
      vip Recording r = is_below u.vip s.config.layout.vips (fits s i u (phase_at s i (job.Draw (draw.Comes u Recording)) r).0).vip
      vip Holding r = is_below u.vip s.config.layout.vips (fits s i u (phase_at s i (job.Draw (draw.Comes u Holding)) r).0).vip
      vip Transit r = is_below u.vip s.config.layout.vips (fits s i u (phase_at s i (job.Draw (draw.Comes u Transit)) r).0).vip

      at : (w : Phase) → s.controller.job ≡ job.Draw (draw.Comes u w)
          → goes_on (last_of_update (after_gives s.config.layout.vips (printed s))) (phase_line u (s.words name.Tick) w) ≡ true
          → names_next_pool s.config.pools (printed s) (phase_line u (s.words name.Tick) w) ≡ true
          → meets_order (setup_of s.config) (printed s) (phase_line u (s.words name.Tick) w) ≡ true
      at Steady r on next = by (phase_line u (s.words name.Tick) Steady) on next refl refl refl (record { vip = vip Steady r; pipe = refl; server = refl; place = refl }) refl refl
      at Recording r on next = by (phase_line u (s.words name.Tick) Recording) on next refl refl refl (record { vip = vip Recording r; pipe = refl; server = refl; place = refl }) refl refl
      at Holding r on next = by (phase_line u (s.words name.Tick) Holding) on next refl refl refl (record { vip = vip Holding r; pipe = refl; server = refl; place = refl }) refl refl
      at Transit r on next = by (phase_line u (s.words name.Tick) Transit) on next refl refl refl (record { vip = vip Transit r; pipe = refl; server = refl; place = refl }) refl refl

  keys : (key : KeyView) → KeyFits s.config.layout key → nat_lt key.vip s.config.layout.vips ≡ true
  keys key f = is_below key.vip s.config.layout.vips f.vip

  reserved_ordered : (p : Put) → s.controller.job ≡ job.Draw (draw.Reserved p)
      → meets_order (setup_of s.config) (printed s) (line.Reserved (s.words name.Tick) p.key p.place) ≡ true
  unfolding keeps_places
  reserved_ordered p e =
      let put = put_fits s.config i.shape.config.layout s.controller i.shape.book i.shape.controller p (holds_at s i (job.Draw (draw.Reserved p)) e).0 in
      plain (line.Reserved (s.words name.Tick) p.key p.place) refl refl refl refl refl
      (record { vip = keys p.key put.key; pipe = refl; server = refl; place = put.place }) (reserved_free s i p e) refl

  placed_ordered : (p : Put) → s.controller.job ≡ job.Draw (draw.Placed p)
      → meets_order (setup_of s.config) (printed s) (line.Placed (s.words name.Tick) p.key p.place) ≡ true
  unfolding keeps_places
  placed_ordered p e =
      let stands = (holds_at s i (job.Draw (draw.Placed p)) e).1.stands in
      let c = s.controller in
      let entry = entry_fits s.config i.shape.config.layout c i.shape.book i.shape.controller p.key stands.0 stands.1 in
      let key = entry_key s.config i.shape.config.layout c i.shape.book i.shape.controller p.key stands.0 stands.1 in
      plain (line.Placed (s.words name.Tick) p.key p.place) refl refl refl refl refl
      (record {
        vip = keys p.key key;
        pipe = refl;
        server = refl;
        place = subst (λ n. is_place_of s.config.layout.shape n p.place ≡ true) (sym (found_key p.key c.book.entries stands.0 stands.1))
            (of_some (λ q. is_place_of s.config.layout.shape stands.0.key q ≡ true) stands.0.place p.place entry.place stands.2);
      }) (placed_own s i p e) refl

  cleared_ordered : (key : KeyView) (place : Place) (w : Why) → s.controller.job ≡ job.Draw (draw.Cleared key place w)
      → meets_order (setup_of s.config) (printed s) (line.Cleared (s.words name.Tick) key place) ≡ true
  unfolding keeps_places
  cleared_ordered key place w e =
      let left = (holds_at s i (job.Draw (draw.Cleared key place w)) e).0 in
      plain (line.Cleared (s.words name.Tick) key place) refl refl refl refl refl
      (record {
        vip = subst (λ n. nat_lt key.vip n ≡ true) (pools_count s.config i.shape.config) (cleared_vip s i key place w e);
        pipe = refl;
        server = refl;
        place = left.own;
      }) (cleared_own s i key place w e) refl

  retired_ordered : (key : KeyView) (place : Place) (version : ℕ) → s.controller.job ≡ job.Draw (draw.Retired key place version)
      → meets_order (setup_of s.config) (printed s) (line.Retired (s.words name.Tick) key) ≡ true
  unfolding keeps_places
  retired_ordered key place version e =
      let r = holds_at s i (job.Draw (draw.Retired key place version)) e in
      let fit = entry_key s.config i.shape.config.layout s.controller i.shape.book i.shape.controller key r.entry r.found in
      plain (line.Retired (s.words name.Tick) key) refl refl refl refl refl
      (record { vip = keys key fit; pipe = refl; server = refl; place = refl }) refl refl

  answer_ordered : (r : Reply) → s.controller.job ≡ job.Draw (draw.Answer r)
      → meets_order (setup_of s.config) (printed s) (answer_line s.config s.controller r (s.words name.Tick)) ≡ true
  unfolding keeps_places
  answer_ordered r e =
      let a = holds_at s i (job.Draw (draw.Answer r)) e in
      let fit = opener_key s.config i.shape.config.layout s.controller i.shape.book i.shape.controller r.held a.first in
      let all : AllByRecursion (OpenerFits s.config.layout) (r.held ∷ a.first.0) =
      subst (AllByRecursion (OpenerFits s.config.layout)) a.first.1 i.shape.controller.held in
      plain (answer_line s.config s.controller r (s.words name.Tick)) refl refl refl refl refl
      (record { vip = keys r.held.key fit; pipe = is_below r.held.pipe s.config.layout.shape.pipes all.0.pipe; server = answer_below s i r.held.key r.version; place = refl }) refl refl

  swept_ordered : (from ms : ℕ) → s.controller.job ≡ job.Draw (draw.Swept from ms)
      → meets_order (setup_of s.config) (printed s) (line.Swept (s.controller.sweeps + 1) from (s.words name.Tick) ms) ≡ true
  unfolding keeps_places
  swept_ordered from ms e =
      let begun : AllOutBefore from s.controller.lines = subst (λ j. OnSweep j (λ tick. AllOutBefore tick s.controller.lines)) e i.ticks.controller.from in
      let times = subst (λ j. job_times from j ≡ 1) (sym e) (same_self from) in
      ordered (line.Swept (s.controller.sweeps + 1) from (s.words name.Tick) ms) (record {
        on = refl;
        next = refl;
        out = refl;
        two = λ t. sweep_fresh s i.ticks from times;
        one = not_false (list_any (was_controlling from) (printed s)) (after_controller s i.ticks from begun);
        range = record { vip = refl; pipe = refl; server = refl; place = refl };
        places = refl;
        refuses = refl;
      })

  pub drawn_ordered : (d : Draw) → s.controller.job ≡ job.Draw d → (l : Line)
      → draw_line s.config s.controller d (s.words name.Tick) ≡ Some l → meets_order (setup_of s.config) (printed s) l ≡ true
  drawn_ordered d e l q = at d e q
    where
      by : (m : Line) → Some m ≡ Some l → meets_order (setup_of s.config) (printed s) m ≡ true
          → meets_order (setup_of s.config) (printed s) l ≡ true
      by m r h = subst (λ z. meets_order (setup_of s.config) (printed s) z ≡ true) (same_Some m l r) h

      at : (d : Draw) → s.controller.job ≡ job.Draw d → draw_line s.config s.controller d (s.words name.Tick) ≡ Some l
          → meets_order (setup_of s.config) (printed s) l ≡ true
      at (draw.Grace w) e q = cc
      at (draw.From ms) e q = cc
      at (draw.Refused n) e q = by _ q (refused_ordered n e)
      at (draw.TakenDown n) e q = by _ q (taken_down_ordered n e)
      at (draw.Given u) e q = by _ q (given_ordered u e)
      at (draw.Comes u p) e q = by _ q (phase_ordered u p e)
      at (draw.Reserved p) e q = by _ q (reserved_ordered p e)
      at (draw.Placed p) e q = by _ q (placed_ordered p e)
      at (draw.Cleared key place w) e q = by _ q (cleared_ordered key place w e)
      at (draw.Retired key place version) e q = by _ q (retired_ordered key place version e)
      at (draw.Answer r) e q = by _ q (answer_ordered r e)
      at (draw.Swept from ms) e q = by _ q (swept_ordered from ms e)

-- ---- all of it

order_owed : Owed (λ k before l. meets_order (setup_of k) before l ≡ true)
order_owed = record {
  packet = λ s i p v q f w e. packet_ordered s i p v q f w e;
  drawn = λ s i d e l q. drawn_ordered s i d e l q;
}

pub order_keep : Keeps IsPacket Invariant OrderKept
order_keep = lines_keep (λ k before l. meets_order (setup_of k) before l ≡ true) order_owed

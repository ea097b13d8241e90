-- A packet's steps keep what it has loaded in range.
use Rattle.std.proofs.Common.{◌≡◌, ℕ, ◌<◌, Bool, true, false, ◌&&◌, List, [], ◌∷◌, set, if◌then◌else◌, ◌==◌, sym, refl, subst, inl}
use Rattle.std.proofs.lemmas.Bool.{and_parts}
use Rattle.sr_base.specs.Layout.{IsLayout, LayoutView}
use Rattle.sr_base.specs.declared.kind.Kind.{Kind}
use Rattle.sr_base.specs.declared.kind.Kind.TheVariants.{Opener, Carry, Ending}
use Rattle.sr_base.specs.declared.place.Place.{Place}
use Rattle.sr_base.specs.declared.vip_word.Phase.{Phase}
use Rattle.sr_base.specs.declared.vip_word.Phase.TheVariants.{Steady, Recording, Holding, Transit}
use Rattle.sr_inv_facts.proofs.Lists.{end_rest, end_whole, in_end}
use Rattle.sr_inv_facts.proofs.Reading.{said_below, server_fits, vip_fits}
use Rattle.sr_inv_facts.specs.InShape.{FilterFits, FlightFits, LastFits, LegFits, LoadFits, MarkFits, MayBeOut, MayReport, StageFits, VerdictFits}
use Rattle.sr_inv_facts.specs.Readings.{IsEnd}
use Rattle.sr_law.specs.declared.verdict.HeldBy.{HeldBy}
use Rattle.sr_law.specs.declared.verdict.Verdict.{Verdict}
use Rattle.sr_machine.specs.Reads.{has_bit, read_flag, says}
use Rattle.sr_machine.specs.Stages.{is_opener, is_to, looking, begun_flight, filtered, filtering, held_or, is_recorded, is_recording, key_bits, key_places, last_after, last_at, last_by, loaded, looked, marking, missed_in, stage_after, verdict_at, verdict_by}
use Rattle.sr_machine.specs.declared.flight.Flight.{Flight}
use Rattle.sr_machine.specs.declared.leg.Last.{Last}
use Rattle.sr_machine.specs.declared.leg.Leg.TheVariants.{Look, Hit, Filter, Chosen, Judged}
use Rattle.sr_machine.specs.declared.leg.Load.{Load}
use Rattle.sr_machine.specs.declared.said.Said.{Said}
use Rattle.sr_machine.specs.declared.stage.Stage.{Stage}
use Rattle.sr_machine.specs.declared.stage.Stage.TheVariants.{Idle, Enter, Note, Vip, Fly, Leave}
use Rattle.sr_machine.specs.declared.said.Said.TheVariants as said
use Rattle.sr_machine.specs.declared.leg.Last.TheVariants as last
use Rattle.sr_machine.specs.declared.leg.Load.TheVariants as load
use Rattle.sr_law.specs.declared.verdict.Verdict.TheVariants as verdict
use Rattle.sr_law.specs.declared.verdict.HeldBy.TheVariants as by

module _ (l : LayoutView) (i : IsLayout l) where
  -- an opener is held, another packet has a version
  held_fits : (f : Flight) (why : HeldBy) (n : ℕ) → n < l.shape.versions → LegFits l f (held_or f why n)
  held_fits f why n b = at f.packet.kind refl
    where
      at : (kind : Kind) → f.packet.kind ≡ kind
          → LegFits l f (if is_opener kind then Judged (verdict.Held why) last.Ring else Chosen n load.Head)
      at Opener e = (tt, subst (λ k. MayReport k (verdict.Held why)) (sym e) tt)
      at Carry e = (b, tt)
      at Ending e = (b, tt)

  filtering_fits : (f : Flight) (bits : List ℕ) → f.vip.cur < l.shape.versions → f.vip.phase ≡ Transit
      → IsEnd bits (key_bits l f.packet.key)
      → LegFits l f (filtering f bits)
  filtering_fits f [] c t e = held_fits f by.Transit f.vip.cur c
  filtering_fits f (bit ∷ rest) c t e = record { transit = t; end = e }

  missed_fits : (f : Flight) → FlightFits l f → (p : Phase) → f.vip.phase ≡ p → LegFits l f (missed_in l f p)
  missed_fits f h Steady e = (h.word.cur, tt)
  missed_fits f h Recording e = (h.word.cur, tt)
  missed_fits f h Holding e = held_fits f by.Hold f.vip.cur h.word.cur
  missed_fits f h Transit e = filtering_fits f (key_bits l f.packet.key) h.word.cur e (end_whole (key_bits l f.packet.key))

  looking_fits : (f : Flight) → FlightFits l f → (places : List Place) → IsEnd places (key_places l f.packet.key)
      → LegFits l f (looking l f places)
  looking_fits f h [] e = missed_fits f h f.vip.phase refl
  looking_fits f h (place ∷ rest) e = e

  looked_fits : (f : Flight) → FlightFits l f → (place : Place) (rest : List Place) → IsEnd (place ∷ rest) (key_places l f.packet.key)
      → (s : Said) → ((n : ℕ) → s ≡ said.Live n → n < l.shape.versions) → LegFits l f (looked l f place rest s)
  looked_fits f h place rest e said.Nothing below = looking_fits f h rest (end_rest place rest (key_places l f.packet.key) e)
  looked_fits f h place rest e said.Reserved below = at f.packet.kind refl
    where
      at : (kind : Kind) → f.packet.kind ≡ kind
          → LegFits l f (if is_opener kind then Judged (verdict.Held by.Clash) last.Ring else looking l f rest)
      at Opener q = (tt, subst (λ k. MayReport k (verdict.Held by.Clash)) (sym q) tt)
      at Carry q = looking_fits f h rest (end_rest place rest (key_places l f.packet.key) e)
      at Ending q = looking_fits f h rest (end_rest place rest (key_places l f.packet.key) e)
  looked_fits f h place rest e (said.Live n) below = record {
    own = in_end place (place ∷ rest) (key_places l f.packet.key) e (inl refl);
    below = below n refl;
  }

  filtered_fits : (f : Flight) → FlightFits l f → (bit : ℕ) (rest : List ℕ) → FilterFits l f (bit ∷ rest) → (set : Bool)
      → LegFits l f (filtered f rest set)
  filtered_fits f h bit rest g true =
      filtering_fits f rest h.word.cur g.transit (end_rest bit rest (key_bits l f.packet.key) g.end)
  filtered_fits f h bit rest g false = (h.word.next, tt)

  judged_fits : (f : Flight) (kind : Kind) → f.packet.kind ≡ kind → (down : Bool) (server n pool : ℕ) → server < l.servers
      → n < l.shape.versions → LegFits l f (Judged (verdict_by down server n pool) (last_by kind down))
  judged_fits f Opener e true server n pool s b = ((s, b), tt)
  judged_fits f Opener e false server n pool s b =
      ((s, b), subst (λ k. MayReport k (verdict.To server n pool)) (sym e) tt)
  judged_fits f Carry e true server n pool s b = ((s, b), tt)
  judged_fits f Carry e false server n pool s b = ((s, b), tt)
  judged_fits f Ending e true server n pool s b =
      ((s, b), subst (λ k. MayReport k (verdict.Down server n pool)) (sym e) tt)
  judged_fits f Ending e false server n pool s b =
      ((s, b), subst (λ k. MayReport k (verdict.To server n pool)) (sym e) tt)

  loaded_fits : (f : Flight) (n : ℕ) (next : Load) (x : ℕ) → n < l.shape.versions → LoadFits l next → LegFits l f (loaded l f n next x)
  loaded_fits f n load.Head x b h = (b, tt)
  loaded_fits f n (load.Member head) x b h = (b, server_fits l i x)
  loaded_fits f n (load.Down pool server) x b h = judged_fits f f.packet.kind refl (read_flag x) server n pool h b

  -- what may be reported may be told by a line
  report_out : (kind : Kind) (v : Verdict) → MayReport kind v → MayBeOut kind v
  report_out Opener (verdict.To s n p) h = tt
  report_out Opener (verdict.Held why) h = tt
  report_out Opener (verdict.Down s n p) h = tt
  report_out Opener verdict.Full h = tt
  report_out Opener verdict.NoPlace h = absurd h
  report_out Carry (verdict.To s n p) h = tt
  report_out Carry (verdict.Held why) h = absurd h
  report_out Carry (verdict.Down s n p) h = tt
  report_out Carry verdict.Full h = absurd h
  report_out Carry verdict.NoPlace h = absurd h
  report_out Ending (verdict.To s n p) h = tt
  report_out Ending (verdict.Held why) h = absurd h
  report_out Ending (verdict.Down s n p) h = tt
  report_out Ending verdict.Full h = absurd h
  report_out Ending verdict.NoPlace h = absurd h

  opener_reports : (kind : Kind) (v : Verdict) → kind ≡ Opener → is_to v ≡ true → MayReport kind v
  opener_reports kind (verdict.To s n p) e t = subst (λ k. MayReport k (verdict.To s n p)) (sym e) tt
  opener_reports kind (verdict.Held why) e t = cc
  opener_reports kind (verdict.Down s n p) e t = cc
  opener_reports kind verdict.Full e t = cc
  opener_reports kind verdict.NoPlace e t = cc

  marking_fits : (f : Flight) (v : Verdict) (bits : List ℕ) → VerdictFits l v → MarkFits l f v bits
      → LegFits l f (Judged v (marking bits))
  marking_fits f v [] h m = (h, opener_reports f.packet.kind v m.opener m.sent)
  marking_fits f v (bit ∷ rest) h m = (h, m)

  recording_is : (p : Phase) → is_recording p ≡ true → p ≡ Recording
  recording_is Recording e = refl
  recording_is Steady e = cc
  recording_is Holding e = cc
  recording_is Transit e = cc

  opener_is : (kind : Kind) → is_opener kind ≡ true → kind ≡ Opener
  opener_is Opener e = refl
  opener_is Carry e = cc
  opener_is Ending e = cc

  mark_fits : (f : Flight) (v : Verdict) → is_recorded f v ≡ true → MarkFits l f v (key_bits l f.packet.key)
  mark_fits f v e =
      let a = and_parts (is_opener f.packet.kind) (is_to v && is_recording f.vip.phase) e in
      let b = and_parts (is_to v) (is_recording f.vip.phase) a.1 in
      record {
        opener = opener_is f.packet.kind a.0;
        sent = b.0;
        recording = recording_is f.vip.phase b.1;
        end = end_whole (key_bits l f.packet.key);
      }

  ring_fits : (f : Flight) (v : Verdict) (empty : Bool) → VerdictFits l v → MayReport f.packet.kind v
      → LegFits l f (Judged (verdict_at f v empty) (last_at l f v empty))
  ring_fits f v true h m = at (is_recorded f v) refl
    where
      at : (b : Bool) → is_recorded f v ≡ b
          → LegFits l f (Judged v (if b then marking (key_bits l f.packet.key) else last.Push))
      at true e = marking_fits f v (key_bits l f.packet.key) h (mark_fits f v e)
      at false e = (h, m)
  ring_fits f v false h m = at f.packet.kind refl
    where
      at : (kind : Kind) → f.packet.kind ≡ kind → LegFits l f (Judged (if is_opener kind then verdict.Full else v) last.Out)
      at Opener e = (tt, subst (λ k. MayBeOut k verdict.Full) (sym e) tt)
      at Carry e = (h, report_out f.packet.kind v m)
      at Ending e = (h, report_out f.packet.kind v m)

  last_fits : (f : Flight) → FlightFits l f → (v : Verdict) (next : Last) (x : ℕ) → VerdictFits l v → LastFits l f v next
      → StageFits l (last_after l f v next x)
  last_fits f h v last.Ring x g m = (h, ring_fits f v (x == 0) g m)
  last_fits f h v (last.Mark bit rest) x g m = (
    h,
    marking_fits f v rest g (record {
      opener =
          m.opener;
      sent = m.sent;
      recording = m.recording;
      end = end_rest bit rest (key_bits l f.packet.key) m.end;
    }),
  )
  last_fits f h v last.Push x g m = (h, (g, report_out f.packet.kind v m))
  last_fits f h v last.Out x g m = h

  -- the stage after a step is in range, whatever the step answered
  pub stage_fits : (at : Stage) (x : ℕ) → StageFits l at → StageFits l (stage_after l at x)
  stage_fits Idle x h = tt
  stage_fits (Enter packet) x h = h
  stage_fits (Note packet e) x h = h
  stage_fits (Vip packet e) x h =
      let f = begun_flight l packet e x in
      let g : FlightFits l f = record { packet = h; word = vip_fits l i x } in
      (g, looking_fits f g (key_places l packet.key) (end_whole (key_places l packet.key)))
  stage_fits (Fly f (Look place rest)) x h =
      (h.0, looked_fits f h.0 place rest h.1 (says l place f.packet.key x) (λ n e. said_below l place f.packet.key x n e))
  stage_fits (Fly f (Hit place n)) x h = (h.0, held_fits f by.Clash n h.1.below)
  stage_fits (Fly f (Filter bit rest)) x h = (h.0, filtered_fits f h.0 bit rest h.1 (has_bit bit x))
  stage_fits (Fly f (Chosen n next)) x h = (h.0, loaded_fits f n next x h.1.0 h.1.1)
  stage_fits (Fly f (Judged v next)) x h = last_fits f h.0 v next x h.1.0 h.1.1
  stage_fits (Leave f) x h = tt

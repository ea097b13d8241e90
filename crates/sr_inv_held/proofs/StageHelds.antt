-- Each step of a pipe keeps its held openers.
use Rattle.std.proofs.Common.{◌≡◌, ℕ, zero, suc, ◌+◌, ◌-◌, ◌%◌, ◌<◌, ◌≤◌, Bool, true, false, ◌&&◌, ◌≢◌, ◌⊎◌, List, [], ◌∷◌, ◌++◌, length, drop, if◌then◌else◌, ◌==◌, slice_get, slice_set, Some, sym, refl, ap, ◌∙◌, subst, inl, inr, append-nil, arith, length-append}
use Rattle.std.proofs.lemmas.Bool.{cases_lt}
use Rattle.std.proofs.lemmas.Bool.Decides.{nat_tests}
use Rattle.std.proofs.lemmas.Option.{slice_get_within, same_Some}
use Rattle.sr_base.specs.Key.{KeyView}
use Rattle.sr_base.specs.Layout.{LayoutView, IsLayout}
use Rattle.sr_base.specs.RingWord.{packed_ring}
use Rattle.sr_base.specs.declared.kind.Kind.{Kind}
use Rattle.sr_base.specs.declared.kind.Kind.TheVariants.{Opener, Carry, Ending}
use Rattle.sr_base.specs.declared.ring_word.RingKind.TheVariants.{Learn, Punt, Close}
use Rattle.sr_inv_facts.proofs.Windows.{cells_apart}
use Rattle.sr_inv_facts.specs.Flying.{OnLeg}
use Rattle.sr_inv_facts.specs.InFlight.{LegHolds}
use Rattle.sr_inv_facts.specs.InHeld.{report_by, reports_in, report_at, reports_of, PipeHeld, Waiting, after_held, held_as, held_at, held_in_lines, held_of, is_held, keys_of, punt_in, punts_from}
use Rattle.sr_inv_facts.specs.InShape.{MayReport, FlightFits, StageFits, VerdictFits}
use Rattle.sr_inv_facts.specs.Invariant.{Invariant}
use Rattle.sr_inv_facts.specs.Readings.{ring_words, bit_words}
use Rattle.sr_inv_held.proofs.PipeHelds.{Grown, IsQuiet, down_silent, filtered_quiet, held_lines, held_or_quiet, line_held, looked_quiet, looking_quiet, marking_quiet, pipe_stays, quiet_goes, report_lines, ring_silent}
use Rattle.sr_inv_held.proofs.Punting.{after_one, held_marks, marks_of, punts_fewer, punts_more, punts_same}
use Rattle.sr_law.specs.declared.verdict.Verdict.{Verdict}
use Rattle.sr_machine.proofs.Written.{report_read}
use Rattle.sr_machine.specs.Core.{Core}
use Rattle.sr_machine.specs.Deciding.{ring_count}
use Rattle.sr_machine.specs.Keeping.{AfterStage}
use Rattle.sr_machine.specs.Names.{rewritten}
use Rattle.sr_machine.specs.Pipe.{pipe_after, packet_line, pipe_op}
use Rattle.sr_machine.specs.Reads.{read_report}
use Rattle.sr_machine.specs.Stages.{report_by as reported, key_places, report_of, ring_cell, begun_flight}
use Rattle.sr_machine.specs.declared.flight.Flight.{Flight}
use Rattle.sr_machine.specs.declared.leg.Leg.TheVariants.{Judged, Look, Hit, Filter, Chosen}
use Rattle.sr_machine.specs.declared.pipe_view.PipeView.{PipeView}
use Rattle.sr_machine.specs.declared.ring_count.RingCount.{RingCount}
use Rattle.sr_machine.specs.declared.stage.Stage.{Stage}
use Rattle.sr_machine.specs.declared.stage.Stage.TheVariants.{Fly, Idle, Enter, Note, Vip, Leave}
use Rattle.sr_update.proofs.Rows.{get_set_same}
use Rattle.sr_machine.specs.declared.leg.Last.TheVariants as last
use Rattle.sr_law.specs.declared.verdict.Verdict.TheVariants as verdict
use Rattle.sr_machine.specs.declared.leg.Load.TheVariants as load
use Rattle.sr_law.specs.declared.verdict.HeldBy.TheVariants as by
use Rattle.sr_machine.specs.declared.name.Name.TheVariants as name

pub drop_more : {X : Type 0} (n : ℕ) (xs ys : List X) → n ≤ length xs → drop n (xs ++ ys) ≡ drop n xs ++ ys
drop_more zero xs ys h = refl
drop_more (suc n) [] ys h = absurd (omega arith)
drop_more (suc n) (x ∷ xs) ys h = drop_more n xs ys (omega arith)

pub drop_long : {X : Type 0} (n : ℕ) (xs : List X) → n ≤ length xs → n + length (drop n xs) ≡ length xs
drop_long zero xs h = omega arith
drop_long (suc n) [] h = absurd (omega arith)
drop_long (suc n) (x ∷ xs) h = omega (arith, drop_long n xs (omega arith))

keys_more : (xs ys : List Waiting) → keys_of (xs ++ ys) ≡ keys_of xs ++ keys_of ys
keys_more [] ys = refl
keys_more (x ∷ xs) ys = ap (λ zs. x.key ∷ zs) (keys_more xs ys)

pub keys_long : (xs : List Waiting) → length (keys_of xs) ≡ length xs
keys_long [] = refl
keys_long (x ∷ xs) = omega (arith, keys_long xs)

-- so many are told and wait to be told
pub told_count : (l : LayoutView) (ring : ℕ → ℕ) (taken : RingCount) (v : PipeView) → PipeHeld l ring taken v
    → taken.punts + length (punts_from l ring taken.words (v.pushed - taken.words)) ≡ length (held_of v)
told_count l ring taken v h =
    let same : length (drop taken.punts (keys_of (held_of v))) ≡ length (punts_from l ring taken.words (v.pushed - taken.words)) = ap length h.told in
    let long : length (keys_of (held_of v)) ≡ length (held_of v) = keys_long (held_of v) in
    omega (arith, same, long, drop_long taken.punts (keys_of (held_of v)) (omega (arith, h.count, long)))

-- ---- a report

-- a held opener is told by its key, and no other packet is
told_by : (key : KeyView) (kind : Kind) (v : Verdict) (entered : ℕ) → MayReport kind v
    → keys_of (held_as v (record { key = key; entered = entered })) ≡ punt_in (Some (reported key kind v))
told_by key Opener (verdict.To server version pool) entered m = refl
told_by key Opener (verdict.Held why) entered m = refl
told_by key Opener (verdict.Down server version pool) entered m = absurd m
told_by key Opener verdict.Full entered m = absurd m
told_by key Opener verdict.NoPlace entered m = absurd m
told_by key Ending (verdict.To server version pool) entered m = refl
told_by key Ending (verdict.Down server version pool) entered m = refl
told_by key Ending (verdict.Held why) entered m = absurd m
told_by key Ending verdict.Full entered m = absurd m
told_by key Ending verdict.NoPlace entered m = absurd m
told_by key Carry v entered m = absurd m

-- what is reported leaves a word
leaves_one : (kind : Kind) (v : Verdict) → MayReport kind v → report_by kind v ≡ is_held v ∷ []
leaves_one Opener (verdict.To server version pool) m = refl
leaves_one Opener (verdict.Held why) m = refl
leaves_one Opener (verdict.Down server version pool) m = absurd m
leaves_one Opener verdict.Full m = absurd m
leaves_one Opener verdict.NoPlace m = absurd m
leaves_one Ending (verdict.To server version pool) m = refl
leaves_one Ending (verdict.Down server version pool) m = refl
leaves_one Ending (verdict.Held why) m = absurd m
leaves_one Ending verdict.Full m = absurd m
leaves_one Ending verdict.NoPlace m = absurd m
leaves_one Carry v m = absurd m

-- a report is stored in the next cell
pub pushed_grows : (l : LayoutView) (ring after : ℕ → ℕ) (taken : RingCount) (v : PipeView) (f : Flight) (w : Verdict) (x : ℕ)
    → PipeHeld l ring taken v → v.stage ≡ Fly f (Judged w last.Push) → MayReport f.packet.kind w → taken.words ≤ v.pushed
    → v.pushed < taken.words + l.shape.ring → read_report l (after (v.pushed % l.shape.ring)) ≡ Some (reported f.packet.key f.packet.kind w)
    → ((c : ℕ) → (v.pushed % l.shape.ring) ≢ c → after c ≡ ring c)
    → Grown l after taken v (pipe_after l v (Fly f (Judged w last.Push)) x)
pushed_grows l ring after taken v f w x h e m least room own other = record {
  holds = record {
    count = omega (arith, h.count, ap length held, length-append {A = Waiting});
    told =
        ap (λ xs. drop taken.punts (keys_of xs)) held
        ∙ (ap (drop taken.punts) (keys_more (held_of v) more)
        ∙ (drop_more taken.punts (keys_of (held_of v)) (keys_of more) (omega (arith, h.count, keys_long (held_of v)))
        ∙ (ap (λ xs. xs ++ keys_of more) h.told
        ∙ (ap (λ xs. punts_from l ring taken.words n ++ xs) (told_by f.packet.key f.packet.kind w f.entered m)
        ∙ sym words_all))));
    reports = λ j b. reports j b (cases_lt n j);
  };
  more = more;
  held = held;
}
  where
    n : ℕ
    n = v.pushed - taken.words

    more : List Waiting
    more = held_as w (record { key = f.packet.key; entered = f.entered })

    after_pipe : PipeView
    after_pipe = pipe_after l v (Fly f (Judged w last.Push)) x

    none : held_at v.stage ≡ []
    none = ap held_at e

    held : held_of after_pipe ≡ held_of v ++ more
    held = ap (λ xs. xs ++ more) (sym (append-nil (held_in_lines v.lines)) ∙ ap (λ xs. held_in_lines v.lines ++ xs) (sym none))

    words : (j : ℕ) → j ≤ n → punts_from l after taken.words j ≡ punts_from l ring taken.words j
    words j b =
        punts_same l ring after taken.words j (λ k low high.
        other (k % l.shape.ring) (λ z. cells_apart l.shape.ring k v.pushed (omega arith) (omega (arith, room)) (sym z)))

    last_word : punt_in (read_report l (after ((taken.words + n) % l.shape.ring))) ≡ punt_in (Some (reported f.packet.key f.packet.kind w))
    last_word =
        let at : taken.words + n ≡ v.pushed = omega (arith, least) in
        ap punt_in (ap (λ k. read_report l (after (k % l.shape.ring))) at ∙ own)

    words_all : punts_from l after taken.words ((v.pushed + 1) - taken.words)
        ≡ punts_from l ring taken.words n ++ punt_in (Some (reported f.packet.key f.packet.kind w))
    words_all =
        let one : (v.pushed + 1) - taken.words ≡ suc n = omega (arith, least) in
        ap (punts_from l after taken.words) one
        ∙ (punts_more l after taken.words n
        ∙ (ap (λ xs. xs ++ punt_in (read_report l (after ((taken.words + n) % l.shape.ring)))) (words n (omega arith))
        ∙ ap (λ xs. punts_from l ring taken.words n ++ xs) last_word))

    marks : reports_of after_pipe ≡ reports_of v ++ is_held w ∷ []
    marks =
        ap (λ xs. reports_in v.lines ++ xs) (leaves_one f.packet.kind w m)
        ∙ ap (λ xs. xs ++ is_held w ∷ []) (sym (append-nil (reports_in v.lines)) ∙ ap (λ xs. reports_in v.lines ++ xs) (sym (ap report_at e)))

    reports : (j : ℕ) → j ≤ (v.pushed + 1) - taken.words → (n < j) ⊎ (j ≤ n)
        → ((v.pushed + 1) - taken.words) - j ≤ after_held (taken.punts + length (punts_from l after taken.words j)) (reports_of after_pipe)
    reports j b (inl past) = omega arith
    reports j b (inr within) =
        let k : ℕ = taken.punts + length (punts_from l ring taken.words j) in
        let same_words : length (punts_from l after taken.words j) ≡ length (punts_from l ring taken.words j) = ap length (words j within) in
        let now : after_held (taken.punts + length (punts_from l after taken.words j)) (reports_of after_pipe) ≡ after_held k (reports_of v ++ is_held w ∷ []) =
        ap (λ z. after_held (taken.punts + z) (reports_of after_pipe)) same_words ∙ ap (after_held k) marks in
        let few : k ≤ held_marks (reports_of v) =
        omega (arith, punts_fewer l ring taken.words j n within, told_count l ring taken v h, marks_of v) in
        omega (arith, now, after_one k (reports_of v) (is_held w) few, h.reports j within, least)

-- ---- each step

-- the report that a packet stores is read as it was written
push_read : (l : LayoutView) (f : Flight) (w : Verdict) → IsLayout l → FlightFits l f → VerdictFits l w
    → read_report l (report_of f w) ≡ Some (reported f.packet.key f.packet.kind w)
push_read l f w i fits v = at f.packet.kind w v
  where
    at : (kind : Kind) (w : Verdict) → VerdictFits l w
        → read_report l (packed_ring (reported f.packet.key kind w)) ≡ Some (reported f.packet.key kind w)
    at Opener (verdict.To server version pool) v =
        report_read l (record { kind = Learn; version = version; key = f.packet.key }) (record { key = fits.packet.key; version = omega (arith, v.1, i.versions.1); tells = tt }) fits.packet.vip
    at Opener w v =
        report_read l (record { kind = Punt; version = 0; key = f.packet.key }) (record { key = fits.packet.key; version = omega arith; tells = refl }) fits.packet.vip
    at kind w v =
        report_read l (record { kind = Close; version = 0; key = f.packet.key }) (record { key = fits.packet.key; version = omega arith; tells = refl }) fits.packet.vip

module _ (s : Core) (i : Invariant s) (p : ℕ) (v : PipeView) (q : slice_get s.pipes p ≡ Some v) where
  own_held : PipeHeld s.config.layout (ring_words s.words p) (ring_count s.controller.rings p) v
  own_held = i.held.held.pipe p v q

  -- a pipe that stores no report
  goes : (w : PipeView) → w.lines ≡ v.lines → w.pushed ≡ v.pushed → IsQuiet v.stage → held_at w.stage ≡ []
      → Grown s.config.layout (ring_words s.words p) (ring_count s.controller.rings p) v w
  goes = quiet_goes s.config.layout (ring_words s.words p) (ring_count s.controller.rings p) v own_held

  quiet_now : (a : Stage) → v.stage ≡ a → IsQuiet a → IsQuiet v.stage
  quiet_now a e h = subst IsQuiet (sym e) h

  own_fits : (a : Stage) → v.stage ≡ a → StageFits s.config.layout a
  own_fits a e = subst (StageFits s.config.layout) e (i.shape.pipes.stage p v q)

  own_leg : (a : Stage) → v.stage ≡ a → OnLeg a (LegHolds s.config (bit_words s.words) s.controller.named s.controller.numbers s.controller.rings s.controller.job p v.pushed)
  own_leg a e = subst (λ z. OnLeg z (LegHolds s.config (bit_words s.words) s.controller.named s.controller.numbers s.controller.rings s.controller.job p v.pushed)) e (i.flight.legs p v q)

  -- a line is drawn
  line_goes : (f : Flight) (w : Verdict) (x : ℕ) → v.stage ≡ Fly f (Judged w last.Out)
      → Grown s.config.layout (ring_words s.words p) (ring_count s.controller.rings p) v (pipe_after s.config.layout v (Fly f (Judged w last.Out)) x)
  line_goes f w x e =
      pipe_stays s.config.layout (ring_words s.words p) (ring_count s.controller.rings p) v own_held _ [] refl
      (append-nil (held_in_lines (v.lines ++ packet_line v.number f w x ∷ []))
      ∙ (held_lines v.lines (packet_line v.number f w x ∷ [])
      ∙ ap (λ xs. held_in_lines v.lines ++ xs) (line_held f w v.number x ∙ sym (ap held_at e))))
      (append-nil (reports_in (v.lines ++ packet_line v.number f w x ∷ []))
      ∙ (report_lines v.lines (packet_line v.number f w x ∷ [])
      ∙ (ap (λ xs. reports_in v.lines ++ xs) (append-nil (report_by f.packet.kind w) ∙ sym (ap report_at e))
      ∙ sym (append-nil (reports_of v)))))

  abbrev pub GrownAt : Core → Type 0
  GrownAt t =
      (w : PipeView) → slice_get t.pipes p ≡ Some w
      → Grown s.config.layout (ring_words t.words p) (ring_count s.controller.rings p) v w

  -- what holds of the new pipe holds of the one that is found there
  found_new : (ring : ℕ → ℕ) (w : PipeView) → Grown s.config.layout ring (ring_count s.controller.rings p) v w → (u : PipeView)
      → slice_get (slice_set s.pipes p w) p ≡ Some u → Grown s.config.layout ring (ring_count s.controller.rings p) v u
  found_new ring w g u e =
      subst (Grown s.config.layout ring (ring_count s.controller.rings p) v)
      (same_Some w u (sym (get_set_same s.pipes p w (slice_get_within s.pipes p v q)) ∙ e)) g

  pushed_here : (f : Flight) (w : Verdict) → v.stage ≡ Fly f (Judged w last.Push)
      → Grown s.config.layout (ring_words (rewritten s.words (ring_cell s.config.layout v.number v.pushed) (report_of f w)) p)
      (ring_count s.controller.rings p) v (pipe_after s.config.layout v (Fly f (Judged w last.Push)) (report_of f w))
  pushed_here f w e =
      let fits = own_fits (Fly f (Judged w last.Push)) e in
      pushed_grows s.config.layout (ring_words s.words p) _ (ring_count s.controller.rings p) v f w (report_of f w) own_held e fits.1.1
      (i.words.ring p v q).least (own_leg (Fly f (Judged w last.Push)) e).cell
      (ap (read_report s.config.layout) (here (v.number == p) (v.pushed % s.config.layout.shape.ring == v.pushed % s.config.layout.shape.ring) (grind (arith, nat_tests, i.shape.pipes.number p v q)) (grind (arith, nat_tests)))
      ∙ push_read s.config.layout f w i.shape.config.layout fits.0 fits.1.0)
      (λ c apart. there c (v.number == p) (v.pushed % s.config.layout.shape.ring == c) (grind (arith, nat_tests)))
    where
      here : (a b : Bool) → a ≡ true → b ≡ true
          → (if a && b then report_of f w else s.words (name.Ring p (v.pushed % s.config.layout.shape.ring))) ≡ report_of f w
      here true true x y = refl
      here true false x y = cc
      here false b x y = cc

      there : (c : ℕ) (a b : Bool) → b ≡ false → (if a && b then report_of f w else s.words (name.Ring p c)) ≡ s.words (name.Ring p c)
      there c true true x = cc
      there c true false x = refl
      there c false b x = refl

  pub grown_stage : (a : Stage) → v.stage ≡ a → AfterStage GrownAt s p v a (pipe_op s.config.layout v a)
  grown_stage Idle e = tt
  grown_stage (Enter packet) e = found_new (ring_words s.words p) _ (goes _ refl refl (quiet_now (Enter packet) e (refl, refl)) refl)
  grown_stage (Note packet entered) e = found_new (ring_words s.words p) _ (goes _ refl refl (quiet_now (Note packet entered) e (refl, refl)) refl)
  grown_stage (Vip packet entered) e =
      found_new (ring_words s.words p) _ (goes _ refl refl (quiet_now (Vip packet entered) e (refl, refl)) (looking_quiet (begun_flight s.config.layout packet entered (s.words (name.Vip packet.key.vip))) s.config.layout (key_places s.config.layout packet.key)).0)
  grown_stage (Fly f (Look place rest)) e =
      found_new (ring_words s.words p) _ (goes _ refl refl (quiet_now (Fly f (Look place rest)) e (refl, refl)) (looked_quiet f s.config.layout place rest _).0)
  grown_stage (Fly f (Hit place n)) e =
      found_new (ring_words s.words p) _ (goes _ refl refl (quiet_now (Fly f (Hit place n)) e (refl, refl)) (held_or_quiet f by.Clash n).0)
  grown_stage (Fly f (Filter bit rest)) e =
      found_new (ring_words s.words p) _ (goes _ refl refl (quiet_now (Fly f (Filter bit rest)) e (refl, refl)) (filtered_quiet f rest _).0)
  grown_stage (Fly f (Chosen n load.Head)) e = found_new (ring_words s.words p) _ (goes _ refl refl (quiet_now (Fly f (Chosen n load.Head)) e (refl, refl)) refl)
  grown_stage (Fly f (Chosen n (load.Member head))) e =
      found_new (ring_words s.words p) _ (goes _ refl refl (quiet_now (Fly f (Chosen n (load.Member head))) e (refl, refl)) refl)
  grown_stage (Fly f (Chosen n (load.Down pool server))) e =
      found_new (ring_words s.words p) _ (goes _ refl refl (quiet_now (Fly f (Chosen n (load.Down pool server))) e (refl, refl)) (down_silent f f.packet.kind _ server n pool))
  grown_stage (Fly f (Judged w last.Ring)) e =
      found_new (ring_words s.words p) _ (goes _ refl refl (quiet_now (Fly f (Judged w last.Ring)) e (refl, refl)) (ring_silent f s.config.layout f.packet.kind w _ refl (own_fits (Fly f (Judged w last.Ring)) e).1.1))
  grown_stage (Fly f (Judged w (last.Mark bit rest))) e =
      found_new (ring_words s.words p) _ (goes _ refl refl (quiet_now (Fly f (Judged w (last.Mark bit rest))) e (refl, refl)) (marking_quiet f w rest).0)
  grown_stage (Fly f (Judged w last.Push)) e = found_new (ring_words (rewritten s.words (ring_cell s.config.layout v.number v.pushed) (report_of f w)) p) _ (pushed_here f w e)
  grown_stage (Fly f (Judged w last.Out)) e = found_new (ring_words s.words p) _ (line_goes f w _ e)
  grown_stage (Leave f) e = found_new (ring_words s.words p) _ (goes _ refl refl (quiet_now (Leave f) e (refl, refl)) refl)

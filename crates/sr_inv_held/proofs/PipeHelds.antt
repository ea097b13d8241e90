-- A pipe's steps keep its held openers and its reports.
use Rattle.std.proofs.Common.{◌≡◌, ℕ, ◌+◌, ◌-◌, ◌%◌, ◌≤◌, Bool, true, false, List, [], ◌∷◌, ◌++◌, length, drop, if◌then◌else◌, sym, refl, ap, ◌∙◌, subst, append_assoc, append-nil, arith}
use Rattle.sr_base.specs.Layout.{LayoutView}
use Rattle.sr_base.specs.declared.kind.Kind.{Kind}
use Rattle.sr_base.specs.declared.kind.Kind.TheVariants.{Opener, Carry, Ending}
use Rattle.sr_base.specs.declared.place.Place.{Place}
use Rattle.sr_base.specs.declared.vip_word.Phase.{Phase}
use Rattle.sr_base.specs.declared.vip_word.Phase.TheVariants.{Steady, Recording, Holding, Transit}
use Rattle.sr_inv_facts.specs.InHeld.{report_by, reports_in, report_at, reports_of, PipeHeld, Waiting, after_held, held_at, held_in_line, held_in_lines, held_of, keys_of, punts_from, held_as}
use Rattle.sr_inv_facts.specs.InShape.{MayReport}
use Rattle.sr_inv_facts.specs.InTicks.{same}
use Rattle.sr_inv_held.proofs.Punting.{after_more, punts_same}
use Rattle.sr_law.specs.declared.line.Line.{Line}
use Rattle.sr_law.specs.declared.verdict.HeldBy.{HeldBy}
use Rattle.sr_law.specs.declared.verdict.Verdict.{Verdict}
use Rattle.sr_machine.specs.Pipe.{packet_line}
use Rattle.sr_machine.specs.Stages.{filtered, filtering, held_or, is_recorded, key_bits, last_at, last_by, looked, looking, marking, missed_in, verdict_at, verdict_by, is_opener}
use Rattle.sr_machine.specs.declared.flight.Flight.{Flight}
use Rattle.sr_machine.specs.declared.leg.Leg.TheVariants.{Chosen, Judged}
use Rattle.sr_machine.specs.declared.pipe_view.PipeView.{PipeView}
use Rattle.sr_machine.specs.declared.ring_count.RingCount.{RingCount}
use Rattle.sr_machine.specs.declared.said.Said.{Said}
use Rattle.sr_machine.specs.declared.stage.Stage.{Stage}
use Rattle.sr_machine.specs.declared.stage.Stage.TheVariants.{Fly}
use Rattle.sr_machine.specs.declared.said.Said.TheVariants as said
use Rattle.sr_machine.specs.declared.leg.Last.TheVariants as last
use Rattle.sr_machine.specs.declared.leg.Load.TheVariants as load
use Rattle.sr_law.specs.declared.verdict.Verdict.TheVariants as verdict
use Rattle.sr_law.specs.declared.verdict.HeldBy.TheVariants as by
use Rattle.sr_law.specs.declared.line.Line.TheVariants as line

-- ---- a pipe with no packet at its line

abbrev pub IsQuiet : Stage → Type 0
IsQuiet a = (held_at a ≡ []) × (report_at a ≡ [])

module _ (f : Flight) where
  pub held_or_quiet : (why : HeldBy) (n : ℕ) → IsQuiet (Fly f (held_or f why n))
  held_or_quiet why n = at (is_opener f.packet.kind)
    where
      at : (b : Bool) → IsQuiet (Fly f (if b then Judged (verdict.Held why) last.Ring else Chosen n load.Head))
      at true = (refl, refl)
      at false = (refl, refl)

  filtering_quiet : (bits : List ℕ) → IsQuiet (Fly f (filtering f bits))
  filtering_quiet [] = held_or_quiet by.Transit f.vip.cur
  filtering_quiet (bit ∷ rest) = (refl, refl)

  missed_quiet : (l : LayoutView) (p : Phase) → IsQuiet (Fly f (missed_in l f p))
  missed_quiet l Steady = (refl, refl)
  missed_quiet l Recording = (refl, refl)
  missed_quiet l Holding = held_or_quiet by.Hold f.vip.cur
  missed_quiet l Transit = filtering_quiet (key_bits l f.packet.key)

  pub looking_quiet : (l : LayoutView) (places : List Place) → IsQuiet (Fly f (looking l f places))
  looking_quiet l [] = missed_quiet l f.vip.phase
  looking_quiet l (place ∷ rest) = (refl, refl)

  pub looked_quiet : (l : LayoutView) (place : Place) (rest : List Place) (s : Said) → IsQuiet (Fly f (looked l f place rest s))
  looked_quiet l place rest said.Nothing = looking_quiet l rest
  looked_quiet l place rest said.Reserved = at (is_opener f.packet.kind)
    where
      at : (b : Bool) → IsQuiet (Fly f (if b then Judged (verdict.Held by.Clash) last.Ring else looking l f rest))
      at true = (refl, refl)
      at false = looking_quiet l rest
  looked_quiet l place rest (said.Live version) = (refl, refl)

  pub filtered_quiet : (rest : List ℕ) (b : Bool) → IsQuiet (Fly f (filtered f rest b))
  filtered_quiet rest true = filtering_quiet rest
  filtered_quiet rest false = (refl, refl)

  pub marking_quiet : (v : Verdict) (bits : List ℕ) → IsQuiet (Fly f (Judged v (marking bits)))
  marking_quiet v [] = (refl, refl)
  marking_quiet v (bit ∷ rest) = (refl, refl)

  -- a verdict that names a server holds nobody
  pub down_silent : (kind : Kind) (down : Bool) (server version pool : ℕ)
      → held_at (Fly f (Judged (verdict_by down server version pool) (last_by kind down))) ≡ []
  down_silent Opener true server version pool = refl
  down_silent Opener false server version pool = refl
  down_silent Carry true server version pool = refl
  down_silent Carry false server version pool = refl
  down_silent Ending true server version pool = refl
  down_silent Ending false server version pool = refl

  -- nor does a full ring
  pub ring_silent : (l : LayoutView) (kind : Kind) (v : Verdict) (empty : Bool) → f.packet.kind ≡ kind → MayReport kind v
      → held_at (Fly f (Judged (verdict_at f v empty) (last_at l f v empty))) ≡ []
  ring_silent l kind v true e m = at (is_recorded f v)
    where
      at : (b : Bool) → held_at (Fly f (Judged v (if b then marking (key_bits l f.packet.key) else last.Push))) ≡ []
      at true = (marking_quiet v (key_bits l f.packet.key)).0
      at false = refl
  ring_silent l kind v false e m = ap (λ z. held_at (Fly f (Judged (if is_opener z then verdict.Full else v) last.Out))) e ∙ at kind v m
    where
      at : (kind : Kind) (v : Verdict) → MayReport kind v → held_at (Fly f (Judged (if is_opener kind then verdict.Full else v) last.Out)) ≡ []
      at Opener v m = refl
      at Ending (verdict.To server version pool) m = refl
      at Ending (verdict.Down server version pool) m = refl
      at Ending (verdict.Held why) m = absurd m
      at Ending verdict.Full m = absurd m
      at Ending verdict.NoPlace m = absurd m
      at Carry v m = absurd m

-- ---- what a step leaves of a pipe's held openers

-- they are the same or more
pub record Grown (l : LayoutView) (ring : ℕ → ℕ) (taken : RingCount) (v w : PipeView) : Type 0 where
  pub holds : PipeHeld l ring taken w
  pub more : List Waiting
  pub held : held_of w ≡ held_of v ++ more

module _ (l : LayoutView) (ring : ℕ → ℕ) (taken : RingCount) (v : PipeView) (h : PipeHeld l ring taken v) where
  -- the same words
  pub pipe_same : (after : ℕ → ℕ) → ((cell : ℕ) → after cell ≡ ring cell) → PipeHeld l after taken v
  pipe_same after same = record {
    count = h.count;
    told = h.told ∙ sym (words (v.pushed - taken.words));
    reports = λ j b. subst (λ xs. (v.pushed - taken.words) - j ≤ after_held (taken.punts + length xs) (reports_of v)) (sym (words j)) (h.reports j b);
  }
    where
      words : (n : ℕ) → punts_from l after taken.words n ≡ punts_from l ring taken.words n
      words n = punts_same l ring after taken.words n (λ m low high. same (m % l.shape.ring))

  -- the same held openers, and the same reports or more
  pub pipe_stays : (w : PipeView) (more : List Bool) → w.pushed ≡ v.pushed → held_of w ≡ held_of v → reports_of w ≡ reports_of v ++ more
      → Grown l ring taken v w
  pipe_stays w more pushed held reports = record {
    holds = record {
      count = subst (λ xs. taken.punts ≤ length xs) (sym held) h.count;
      told = ap (λ xs. drop taken.punts (keys_of xs)) held ∙ (h.told ∙ ap (λ n. punts_from l ring taken.words (n - taken.words)) (sym pushed));
      reports = λ j b.
          let n : ℕ = taken.punts + length (punts_from l ring taken.words j) in
          let old : (v.pushed - taken.words) - j ≤ after_held n (reports_of v) = h.reports j (omega (arith, pushed, b)) in
          let now : after_held n (reports_of w) ≡ after_held n (reports_of v ++ more) = ap (after_held n) reports in
          omega (arith, pushed, old, now, after_more n (reports_of v) more);
    };
    more = [];
    held = held ∙ sym (append-nil (held_of v));
  }

  -- a packet that isn't at its line goes on
  pub quiet_goes : (w : PipeView) → w.lines ≡ v.lines → w.pushed ≡ v.pushed → IsQuiet v.stage → held_at w.stage ≡ [] → Grown l ring taken v w
  quiet_goes w lines pushed quiet silent =
      pipe_stays w (report_at w.stage) pushed
      (ap (λ xs. held_in_lines xs ++ held_at w.stage) lines ∙ ap (λ xs. held_in_lines v.lines ++ xs) (silent ∙ sym quiet.0))
      (ap (λ xs. reports_in xs ++ report_at w.stage) lines ∙ ap (λ xs. xs ++ report_at w.stage) (sym (append-nil (reports_in v.lines)) ∙ ap (λ xs. reports_in v.lines ++ xs) (sym quiet.1)))

-- ---- lines

pub held_lines : (xs ys : List Line) → held_in_lines (xs ++ ys) ≡ held_in_lines xs ++ held_in_lines ys
held_lines [] ys = refl
held_lines (x ∷ xs) ys = ap (λ zs. held_in_line x ++ zs) (held_lines xs ys) ∙ sym (append_assoc (held_in_line x) (held_in_lines xs) (held_in_lines ys))

pub report_lines : (xs ys : List Line) → reports_in (xs ++ ys) ≡ reports_in xs ++ reports_in ys
report_lines [] ys = refl
report_lines (line.Packet number entered out pipe key kind v ∷ xs) ys =
    ap (λ zs. report_by kind v ++ zs) (report_lines xs ys) ∙ sym (append_assoc (report_by kind v) (reports_in xs) (reports_in ys))
report_lines (x ∷ xs) ys = report_lines xs ys

-- the line of a packet tells what its pipe knew
pub line_held : (f : Flight) (v : Verdict) (pipe out : ℕ) → held_in_lines (packet_line pipe f v out ∷ []) ≡ held_at (Fly f (Judged v last.Out))
line_held f v pipe out = append-nil (held_as v (record { key = f.packet.key; entered = f.entered }))

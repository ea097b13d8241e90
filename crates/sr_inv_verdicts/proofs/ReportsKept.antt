-- Every event keeps that the lines tell of each pipe's reports in their order.
use Rattle.std.proofs.Common.{◌≡◌, ℕ, zero, suc, ◌≢◌, ◌==◌, map, Bool, true, false, List, [], ◌∷◌, ◌++◌, slice_get, slice_set, reverse, if◌then◌else◌, Some, None, Option, option_to_list, sym, refl, ap, ◌∙◌, subst, append-nil, append_assoc, arith}
use Rattle.std.proofs.lemmas.Bool.Decides.{nat_tests}
use Rattle.std.proofs.lemmas.List.{reverse-append}
use Rattle.std.proofs.lemmas.Option.{same_Some}
use Rattle.std.specs.List.{range_with_len}
use Rattle.sr_base.specs.declared.kind.Kind.{Kind}
use Rattle.sr_base.specs.declared.vip_word.Phase.{Phase}
use Rattle.sr_base.specs.declared.vip_word.Phase.TheVariants.{Steady, Recording, Holding, Transit}
use Rattle.sr_inv_facts.proofs.Lists.{ranged_at}
use Rattle.sr_inv_facts.proofs.OpeningLines.{opened_lines, opening_printed}
use Rattle.sr_inv_facts.proofs.Pipes.{set_cases}
use Rattle.sr_inv_facts.proofs.Printing.{prints, job_tells, stage_prints, tells, pipe_silent}
use Rattle.sr_inv_facts.specs.Fitted.{IsPacket}
use Rattle.sr_inv_facts.specs.InCauses.{told_report, told_reports}
use Rattle.sr_inv_facts.specs.InHeld.{report_by, reports_in}
use Rattle.sr_inv_facts.specs.Invariant.{Invariant}
use Rattle.sr_inv_facts.specs.Laws.{OpensWith}
use Rattle.sr_inv_facts.specs.Readings.{EachPipe}
use Rattle.sr_inv_verdicts.specs.Caused.{ReportsTold}
use Rattle.sr_law.specs.Full.{leaves_word}
use Rattle.sr_law.specs.declared.line.Line.{Line}
use Rattle.sr_law.specs.declared.verdict.Verdict.{Verdict}
use Rattle.sr_machine.specs.Config.{Config}
use Rattle.sr_machine.specs.Core.{Core, printed}
use Rattle.sr_machine.specs.Draws.{draw_line, phase_line}
use Rattle.sr_machine.specs.Jobs.{job_op}
use Rattle.sr_machine.specs.Keeping.{AfterJob, AfterStage, Keeps}
use Rattle.sr_machine.specs.Opening.{opening_pipes}
use Rattle.sr_machine.specs.Ops.{op_answer, op_name}
use Rattle.sr_machine.specs.Pipe.{fresh_pipe, lines_after, packet_line, pipe_after, pipe_op}
use Rattle.sr_machine.specs.declared.controller_view.ControllerView.{ControllerView}
use Rattle.sr_machine.specs.declared.draw.Draw.{Draw}
use Rattle.sr_machine.specs.declared.flight.Flight.{Flight}
use Rattle.sr_machine.specs.declared.job.Job.{Job}
use Rattle.sr_machine.specs.declared.leg.Leg.TheVariants.{Judged}
use Rattle.sr_machine.specs.declared.op.Op.{Op}
use Rattle.sr_machine.specs.declared.pipe_view.PipeView.{PipeView}
use Rattle.sr_machine.specs.declared.pool_update.PoolUpdate.{PoolUpdate}
use Rattle.sr_machine.specs.declared.stage.Stage.{Stage}
use Rattle.sr_machine.specs.declared.stage.Stage.TheVariants.{Fly, Enter}
use Rattle.sr_machine.specs.declared.draw.Draw.TheVariants as draw
use Rattle.sr_machine.specs.declared.job.Job.TheVariants as job
use Rattle.sr_machine.specs.declared.leg.Last.TheVariants as last
use Rattle.sr_law.specs.declared.line.Line.TheVariants as line
use Rattle.sr_machine.specs.declared.name.Name.TheVariants as name

-- ---- lists

-- of a list of one or none
one_or_none : (b c : Bool) → reverse (if b then c ∷ [] else []) ≡ (if b then c ∷ [] else [])
one_or_none true c = refl
one_or_none false c = refl

report_reverse : (kind : Kind) (v : Verdict) → reverse (report_by kind v) ≡ report_by kind v
report_reverse kind v = one_or_none (leaves_word kind v) _

reports_more : (lines : List Line) (l : Line) → reports_in (lines ++ l ∷ []) ≡ reports_in lines ++ reports_in (l ∷ [])
reports_more [] l = refl
reports_more (m ∷ rest) l = at m (reports_more rest l)
  where
    at : (m : Line) → reports_in (rest ++ l ∷ []) ≡ reports_in rest ++ reports_in (l ∷ [])
        → reports_in (m ∷ (rest ++ l ∷ [])) ≡ reports_in (m ∷ rest) ++ reports_in (l ∷ [])
    at (line.Packet number e out pipe key kind v) h =
        ap (λ xs. report_by kind v ++ xs) h ∙ sym (append_assoc (report_by kind v) (reports_in rest) (reports_in (l ∷ [])))
    at m h = h

-- ---- a pipe's step

-- one line more, of this pipe or another
told_own : (p : ℕ) (n : ℕ) (f : Flight) (w : Verdict) (x : ℕ) → n ≡ p → told_report p (packet_line n f w x) ≡ report_by f.packet.kind w
told_own p n f w x e = at (n == p) (grind (arith, nat_tests))
  where
    at : (b : Bool) → b ≡ true → (if b then report_by f.packet.kind w else []) ≡ report_by f.packet.kind w
    at true t = refl
    at false t = cc

told_other : (q n : ℕ) (f : Flight) (w : Verdict) (x : ℕ) → n ≢ q → told_report q (packet_line n f w x) ≡ []
told_other q n f w x e = at (n == q) (grind (arith, nat_tests))
  where
    at : (b : Bool) → b ≡ false → (if b then report_by f.packet.kind w else []) ≡ []
    at true t = cc
    at false t = refl

own_reports : (p n : ℕ) (a : Stage) (x : ℕ) (lines all : List Line) → n ≡ p → told_reports p all ≡ reverse (reports_in lines)
    → told_reports p (prints n a x ++ all) ≡ reverse (reports_in (lines_after n a x lines))
own_reports p n (Fly f (Judged w last.Out)) x lines all e h =
    let more : reverse (reports_in (lines ++ packet_line n f w x ∷ [])) ≡ report_by f.packet.kind w ++ reverse (reports_in lines) =
    ap reverse (reports_more lines (packet_line n f w x) ∙ ap (λ xs. reports_in lines ++ xs) (append-nil (report_by f.packet.kind w)))
    ∙ (reverse-append (reports_in lines) (report_by f.packet.kind w) ∙ ap (λ xs. xs ++ reverse (reports_in lines)) (report_reverse f.packet.kind w)) in
    ap (λ xs. xs ++ told_reports p all) (told_own p n f w x e) ∙ (ap (λ xs. report_by f.packet.kind w ++ xs) h ∙ sym more)
own_reports p n a x lines all e h = h

other_reports : (q n : ℕ) (a : Stage) (x : ℕ) (all : List Line) → n ≢ q → told_reports q (prints n a x ++ all) ≡ told_reports q all
other_reports q n (Fly f (Judged w last.Out)) x all e = ap (λ xs. xs ++ told_reports q all) (told_other q n f w x e)
other_reports q n a x all e = refl

stage_reports : (s : Core) (p : ℕ) (v : PipeView) (a : Stage) (o : Option Op) (lines : List Line) → slice_get s.pipes p ≡ Some v → Invariant s
    → pipe_op s.config.layout v a ≡ o
    → AfterStage (λ t. printed t ≡ prints v.number a (s.words name.Tick) ++ printed s) s p v a o
    → ReportsTold s
    → AfterStage ReportsTold s p v a o
stage_reports s p v a None lines q i r e h = tt
stage_reports s p v a (Some o) lines q i r e h =
    let x = op_answer o (s.words (op_name o)) in
    let number = i.shape.pipes.number p v q in
    let out : lines_after v.number a x v.lines ≡ lines_after v.number a (s.words name.Tick) v.lines = answered a r in
    subst (λ ls. EachPipe (λ n u. told_reports n ls ≡ reverse (reports_in u.lines)) (slice_set s.pipes p (pipe_after s.config.layout v a x))) (sym e)
    (set_cases s.pipes p v (pipe_after s.config.layout v a x) q
    (λ n u. told_reports n (prints v.number a (s.words name.Tick) ++ printed s) ≡ reverse (reports_in u.lines))
    (own_reports p v.number a (s.words name.Tick) v.lines (printed s) number (h p v q) ∙ ap (λ ls. reverse (reports_in ls)) (sym out))
    (λ n u other there. other_reports n v.number a (s.words name.Tick) (printed s) (λ z. other (sym z ∙ number)) ∙ h n u there))
  where
    answered : (a : Stage) → pipe_op s.config.layout v a ≡ Some o
        → lines_after v.number a (op_answer o (s.words (op_name o))) v.lines ≡ lines_after v.number a (s.words name.Tick) v.lines
    answered (Fly f (Judged w last.Out)) r =
        ap (λ z. lines_after v.number (Fly f (Judged w last.Out)) (op_answer z (s.words (op_name z))) v.lines) (sym (same_Some _ o r))
    answered a r = refl

-- ---- the controller's step

phase_silent : (q : ℕ) (u : PoolUpdate) (p : Phase) (t : ℕ) → told_report q (phase_line u t p) ≡ []
phase_silent q u Steady t = refl
phase_silent q u Recording t = refl
phase_silent q u Holding t = refl
phase_silent q u Transit t = refl

drawn_silent : (k : Config) (c : ControllerView) (q : ℕ) (d : Draw) (t : ℕ) (all : List Line)
    → told_reports q (option_to_list (draw_line k c d t) ++ all) ≡ told_reports q all
drawn_silent k c q (draw.Comes u p) t all = ap (λ xs. xs ++ told_reports q all) (phase_silent q u p t)
drawn_silent k c q d t all = refl

job_silent : (k : Config) (c : ControllerView) (q : ℕ) (j : Job) (t : ℕ) (all : List Line)
    → told_reports q (tells k c j t ++ all) ≡ told_reports q all
job_silent k c q (job.Draw d) t all = drawn_silent k c q d t all
job_silent k c q j t all = refl

job_reports : (s : Core) (j : Job) (o : Option Op)
    → AfterJob (λ t. printed t ≡ tells s.config s.controller j (s.words name.Tick) ++ printed s) s j o → ReportsTold s
    → AfterJob ReportsTold s j o
job_reports s j None e h = tt
job_reports s j (Some o) e h = λ q u there. ap (told_reports q) e ∙ (job_silent s.config s.controller q j (s.words name.Tick) (printed s) ∙ h q u there)

enter_reports : (s : Core) (p : ℕ) (v w : PipeView) → slice_get s.pipes p ≡ Some v → w.lines ≡ v.lines → ReportsTold s
    → ReportsTold (record s { pipes = slice_set s.pipes p w })
enter_reports s p v w q e h =
    subst (λ ls. EachPipe (λ n u. told_reports n ls ≡ reverse (reports_in u.lines)) (slice_set s.pipes p w))
    (sym (pipe_silent s p v w q e s.words))
    (set_cases s.pipes p v w q (λ n u. told_reports n (printed s) ≡ reverse (reports_in u.lines))
    (h p v q ∙ ap (λ ls. reverse (reports_in ls)) (sym e)) (λ n u other there. h n u there))

pub reports_keep : Keeps IsPacket Invariant ReportsTold
reports_keep = record {
  stages = λ s p v a q e i h.
      stage_reports s p v a (pipe_op s.config.layout v a) [] q i refl (stage_prints s p v a i.ticks q) h;
  begins = λ s i h. h;
  jobs = λ s j e b i h. job_reports s j (job_op s.config s.controller j) (job_tells s j i.ticks) h;
  enters = λ s p v packet q r u n a i h. enter_reports s p v (record v { stage = Enter packet }) q refl h;
  clocks = λ s ms q i h. h;
  refusals = λ s q i h. h;
}

pub reports_part : (s : Core) → Invariant s → ReportsTold s
reports_part s i = i.causes.causes.reports

opened_silent : (q n : ℕ) → told_reports q (opened_lines n) ≡ []
opened_silent q zero = refl
opened_silent q (suc n) = opened_silent q n

fresh_silent : (a n p : ℕ) (v : PipeView) → slice_get (map fresh_pipe (range_with_len a n)) p ≡ Some v → v.lines ≡ []
fresh_silent a n p v e = ap (λ z. z.lines) (ranged_at fresh_pipe a n p v e)

pub reports_open : OpensWith ReportsTold
unfolding opening_pipes
reports_open k f = λ q v there.
    ap (told_reports q) (opening_printed k)
    ∙ (opened_silent q k.layout.vips ∙ ap (λ ls. reverse (reports_in ls)) (sym (fresh_silent 0 k.layout.shape.pipes q v there)))

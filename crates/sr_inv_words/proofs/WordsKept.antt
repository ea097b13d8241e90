-- Each event keeps the words.
use Rattle.std.proofs.Common.{◌≡◌, ℕ, Bool, true, false, not, ◌&&◌, slice_get, slice_set, Some, None, filter, Option, sym, refl, ap, ◌∙◌, subst, arith}
use Rattle.sr_base.specs.declared.packet.Packet.{Packet}
use Rattle.sr_base.specs.declared.place.Place.{Place}
use Rattle.sr_inv_facts.proofs.Beginning.{begun_by}
use Rattle.sr_inv_facts.proofs.Pipes.{idle}
use Rattle.sr_inv_facts.specs.Fitted.{IsPacket}
use Rattle.sr_inv_facts.specs.InWords.{ClearedBelow, InWords, IsCleared, WordsHold, Written, down_word, is_downing, job_word, note_of, stage_ticks, table_word}
use Rattle.sr_inv_facts.specs.Invariant.{Invariant}
use Rattle.sr_inv_words.proofs.JobTicks.{note_job, ring_job, tick_job}
use Rattle.sr_inv_words.proofs.OtherJobs.{DownsAre, FilterKept, VipsAre, WrittenIs, down_job, filter_job, kept_cleared, part, vip_job, written_job}
use Rattle.sr_inv_words.proofs.PipeTicks.{NotesAre, TickIs, note_same, note_stage, tick_same, tick_stage}
use Rattle.sr_inv_words.proofs.PipeWords.{OthersHold, RingsHold, others_stage, ring_same, ring_stage}
use Rattle.sr_inv_words.proofs.PoolWords.{pool_same}
use Rattle.sr_inv_words.proofs.TableJobs.{TableIs, alike, table_job}
use Rattle.sr_inv_words.proofs.VersionJobs.{VersionsAre, version_job}
use Rattle.sr_machine.specs.Begins.{Begins}
use Rattle.sr_machine.specs.Config.{Config}
use Rattle.sr_machine.specs.Core.{Core}
use Rattle.sr_machine.specs.Deciding.{is_down}
use Rattle.sr_machine.specs.Jobs.{job_op}
use Rattle.sr_machine.specs.Keeping.{AfterJob, AfterStage, Keeps, begun_core}
use Rattle.sr_machine.specs.Pipe.{is_idle, pipe_op}
use Rattle.sr_machine.specs.Starting.{Start, with_job, with_start}
use Rattle.sr_machine.specs.declared.controller_view.ControllerView.{ControllerView}
use Rattle.sr_machine.specs.declared.job.Job.{Job}
use Rattle.sr_machine.specs.declared.name.Name.{Name}
use Rattle.sr_machine.specs.declared.op.Op.{Op}
use Rattle.sr_machine.specs.declared.pipe_view.PipeView.{PipeView}
use Rattle.sr_machine.specs.declared.stage.Stage.{Stage}
use Rattle.sr_machine.specs.declared.stage.Stage.TheVariants.{Enter}
use Rattle.sr_inv_facts.specs.Putting.{put_core}
use Rattle.sr_machine.specs.declared.put.Put.{Put}
use Rattle.sr_machine.specs.Begins as begin
use Rattle.sr_machine.specs.declared.draw.Draw.TheVariants as draw
use Rattle.sr_machine.specs.declared.job.Job.TheVariants as job

-- ---- a step

-- what each of the four kinds of words keeps, all keep
stage_all : (s : Core) (p : ℕ) (v : PipeView) (a : Stage) (o : Option Op) → AfterStage TickIs s p v a o → AfterStage NotesAre s p v a o
    → AfterStage RingsHold s p v a o → AfterStage OthersHold s p v a o → AfterStage InWords s p v a o
stage_all s p v a None tick note ring others = tt
stage_all s p v a (Some o) tick note ring others = record { tick = tick; note = note; ring = ring; others = others }

job_all : (s : Core) (j : Job) (o : Option Op) → AfterJob TickIs s j o → AfterJob NotesAre s j o → AfterJob RingsHold s j o
    → AfterJob TableIs s j o → AfterJob VipsAre s j o → AfterJob DownsAre s j o → AfterJob VersionsAre s j o → AfterJob WrittenIs s j o
    → AfterJob FilterKept s j o → AfterJob InWords s j o
job_all s j None tick note ring table vip down version written filter = tt
job_all s j (Some o) tick note ring table vip down version written filter = record {
  tick = tick;
  note = note;
  ring = ring;
  others = record { table = table; vip = vip; down = down; version = version; written = written; filter = filter };
}

-- ---- what the controller begins

module _ (k : Config) (words : Name → ℕ) (c : ControllerView) (h : WordsHold k words c) (free : c.job ≡ job.Free) where
  begun_words : (s : Start) → ((place : Place) → job_word k.layout place s.job ≡ 0) → ((n : ℕ) → is_downing s.job n ≡ false)
      → Written k words s.job → ((n : ℕ) → IsCleared s.update c.vips s.job n → IsCleared c.update c.vips c.job n)
      → WordsHold k words (with_start c s)
  begun_words s none undowned written cleared = record {
    table = λ place.
        h.table place ∙ (ap (λ j. table_word k.layout c.book.entries j place) free
        ∙ sym (alike k.layout c.book.entries c.book.entries job.Free s.job place refl (none place)));
    vip = h.vip;
    down = λ n.
        h.down n ∙ (ap (λ j. down_word c.down j n) free ∙ ap (λ b. part (is_down c.down n && not b)) (sym (undowned n)));
    version = λ vip n is e f. pool_same k words words vip n _ refl (λ m. refl) (h.version vip n is e f);
    written = written;
    filter = λ n b e. h.filter n b (cleared n e);
  }

  -- where only the job changes
  begun_job : (m : Job) → ((place : Place) → job_word k.layout place m ≡ 0) → ((n : ℕ) → is_downing m n ≡ false) → Written k words m
      → ((n : ℕ) → ClearedBelow m n → ⊥) → WordsHold k words (with_start c (with_job c m))
  begun_job m none undowned written uncleared =
      begun_words (with_job c m) none undowned written (λ n e. kept_cleared c.update c.vips c.job m n (uncleared n) e)

  words_begun : (s : Start) → Begins k c s → WordsHold k words (with_start c s)
  words_begun s (begin.refuses g rest r e) =
      begun_words _ (λ p. refl) (λ n. refl) tt (λ n e. kept_cleared c.update c.vips c.job _ n (λ z. z) e)
  words_begun s (begin.takes_down o rest e d) =
      begun_words _ (λ p. refl) (λ n. refl) tt (λ n e. kept_cleared c.update c.vips c.job _ n (λ z. z) e)
  words_begun s (begin.holds u e p w) = begun_job _ (λ p. refl) (λ n. refl) tt (λ n z. z)
  words_begun s (begin.finishes u e p w) = begun_job _ (λ p. refl) (λ n. refl) tt (λ n z. z)
  words_begun s (begin.changes g rest number u e d f) =
      begun_words _ (λ p. refl) (λ n. refl) (λ n less. absurd (omega arith)) (λ n e. subst (λ o. IsCleared o c.vips c.job n) (sym u) tt)
  words_begun s (begin.answers o rest e r f) = begun_job _ (λ p. refl) (λ n. refl) tt (λ n z. z)
  words_begun s (begin.places_held o rest p r f g) = begun_job _ (λ p. refl) (λ n. refl) tt (λ n z. z)
  words_begun s (begin.has_no_place o rest r f g) = begun_job _ (λ p. refl) (λ n. refl) tt (λ n z. z)
  words_begun s (begin.places e p r f g) = begun_job _ (λ p. refl) (λ n. refl) tt (λ n z. z)
  words_begun s (begin.retires e place r f) = begun_job _ (λ p. refl) (λ n. refl) tt (λ n z. z)
  words_begun s (begin.sweeps ms r f) = begun_job _ (λ p. refl) (λ n. refl) tt (λ n z. z)
  words_begun s (begin.releases vip n r) = begun_job _ (λ p. refl) (λ n. refl) tt (λ n z. z)
  words_begun s (begin.looks r) = begun_job _ (λ p. refl) (λ n. refl) tt (λ n z. z)

begins_kept : (s : Core) → InWords s → InWords (begun_core s)
begins_kept s f = record {
  tick = f.tick;
  note = f.note;
  ring = f.ring;
  others = begun_by s.config s.controller (WordsHold s.config s.words) f.others (words_begun s.config s.words s.controller f.others);
}

pub words_put : (s : Core) (p : Put) → s.controller.job ≡ job.Free → InWords s → InWords (put_core s p)
words_put s p free f = record {
  tick = f.tick;
  note = f.note;
  ring = f.ring;
  others = begun_job s.config s.words s.controller f.others free (job.Draw (draw.Reserved p)) (λ q. refl) (λ n. refl) tt (λ n z. z);
}

-- ---- a packet enters

enter_kept : (s : Core) (p : ℕ) (v : PipeView) (packet : Packet) → slice_get s.pipes p ≡ Some v → is_idle v.stage ≡ true → Invariant s
    → InWords (record s { pipes = slice_set s.pipes p (record v { stage = Enter packet }) })
enter_kept s p v packet q r i =
    let stage = idle v.stage r in
    let none : stage_ticks v.stage ≡ 0 = ap stage_ticks stage in
    record {
      tick = tick_same s i p v q (record v { stage = Enter packet }) (omega (arith, none));
      note = note_same s i p v q (record v { stage = Enter packet }) (sym (ap note_of stage));
      ring = ring_same s i p v q (record v { stage = Enter packet }) refl;
      others = i.words.others;
    }

-- ---- all of them

same_controller : (k : Config) (words : Name → ℕ) (c : ControllerView) (clock : Option ℕ) (refusing : Bool) → WordsHold k words c
    → WordsHold k words (record c { clock = clock; refusing = refusing })
same_controller k words c clock refusing h = record {
  table = h.table;
  vip = h.vip;
  down = h.down;
  version = h.version;
  written = h.written;
  filter = h.filter;
}

pub words_keep : Keeps IsPacket Invariant InWords
words_keep = record {
  stages = λ s p v a q e i f.
      stage_all s p v a (pipe_op s.config.layout v a) (tick_stage s i p v q a e) (note_stage s i p v q a e) (ring_stage s i p v q a e) (others_stage s i p v q a e);
  begins = λ s i f. begins_kept s f;
  jobs = λ s j q b i f.
      job_all s j (job_op s.config s.controller j) (tick_job s i j) (note_job s i j) (ring_job s i j q) (table_job s i j q) (vip_job s i j q) (down_job s i j q) (version_job s i j q) (written_job s i j q) (filter_job s i j q);
  enters = λ s p v packet q r u n a i f. enter_kept s p v packet q r i;
  clocks = λ s ms q i f. record {
    tick = f.tick;
    note = f.note;
    ring = f.ring;
    others = same_controller s.config s.words s.controller (Some ms) s.controller.refusing f.others;
  };
  refusals = λ s q i f. record {
    tick = f.tick;
    note = f.note;
    ring = f.ring;
    others = same_controller s.config s.words s.controller s.controller.clock true f.others;
  };
}

-- What a reader of either form answers is what comes next.
use Rattle.std.proofs.Common.{◌≡◌, ℕ, ◌+◌, List, [], length, Option, Some, None, Result, Ok, Err, refl, sym, ap, subst, ◌∙◌}
use Rattle.sr_pcap.specs.declared.format.Format.{Format}
use Rattle.sr_pcap.specs.declared.next.Next.{Next}
use Rattle.sr_pcap.specs.declared.next.Next.TheVariants as classic
use Rattle.sr_pcap.specs.Next.{next_at, size_at, frame_at, rest_at}
use Rattle.sr_pcap.specs.Reader.{ReaderView, Answers as ClassicAnswers, Steps, TakesRecord, offset_after, with_record}
use Rattle.sr_pcapng.specs.declared.ng_next.NgNext.{NgNext}
use Rattle.sr_pcapng.specs.declared.ng_next.NgNext.TheVariants as ng
use Rattle.sr_pcapng.specs.Reader.{ReaderView as NgView, Answers as NgAnswers, next_at as ng_at}
use Rattle.sr_capture.specs.declared.capture_reader.CaptureReader.TheVariants as reader
use Rattle.sr_capture.specs.declared.capture_refusal.CaptureRefusal.{CaptureRefusal}
use Rattle.sr_capture.specs.declared.record.Record.{Record}
use Rattle.sr_capture.specs.Reader.{Answers, Arrives}
use Rattle.sr_capture.specs.Record.{classic_record, ng_record}
use Rattle.sr_capture.specs.Records.{Arrival, Place, Classic, Ng, classic_next, ng_next, next_record}

-- ---- classic

classic_is : (format : Format) (offset : ℕ) (xs : List ℕ) (next : Next) → next_at format offset xs ≡ next → next_record (Classic format offset) xs ≡ classic_next format offset xs next
unfolding next_record
classic_is format offset xs next e = ap (classic_next format offset xs) e

arrival : ℕ → ℕ → List ℕ → ℕ → Place → List ℕ → Result Arrival (Option CaptureRefusal)
arrival ms link bytes at place rest = Ok (record { frame = record { ms = ms; link = link; bytes = bytes }; offset = at; place = place; rest = rest })

classic_whole : (old new : ReaderView) (link ms at : ℕ) (xs : List ℕ) (left : Option (List ℕ)) → link ≡ new.format.link → new ≡ with_record old new.bytes new.window
    → TakesRecord ms at old.format old.offset xs new left → Arrives ms link at (next_record (Classic old.format old.offset) xs) (reader.Classic new) left
unfolding arrival
classic_whole old new link ms at xs left l step taken =
    let format : new.format ≡ old.format = ap (λ (r : ReaderView). r.format) step in
    let offset : new.offset ≡ offset_after old.offset (size_at old.format xs) = ap (λ (r : ReaderView). r.offset) step ∙ ap (offset_after old.offset) taken.size in
    record {
      rest = rest_at old.format xs;
      same =
          classic_is old.format old.offset xs (classic.Whole ms at) taken.next
          ∙ ap (λ n. arrival ms n (frame_at old.format xs) at (Classic old.format (offset_after old.offset (size_at old.format xs))) (rest_at old.format xs)) (ap (λ (f : Format). f.link) (sym format) ∙ sym l)
          ∙ ap (λ (bytes : List ℕ). arrival ms link bytes at (Classic old.format (offset_after old.offset (size_at old.format xs))) (rest_at old.format xs)) (sym taken.frame)
          ∙ ap (λ (f : Format). arrival ms link new.bytes at (Classic f (offset_after old.offset (size_at old.format xs))) (rest_at old.format xs)) (sym format)
          ∙ ap (λ n. arrival ms link new.bytes at (Classic new.format n) (rest_at old.format xs)) (sym offset);
      pending = taken.rest;
    }

classic_said : (old new : ReaderView) (link : ℕ) (next : Next) (xs : List ℕ) (left : Option (List ℕ)) → link ≡ new.format.link → Steps next old new
    → ClassicAnswers next old.format old.offset xs new left → Answers (classic_record next link) (next_record (Classic old.format old.offset) xs) (reader.Classic new) left
classic_said old new link (classic.Whole ms at) xs left l step answered = classic_whole old new link ms at xs left l step.2 answered
classic_said old new link classic.End xs left l step answered = (classic_is old.format old.offset xs classic.End answered.0.0, λ none. answered.0.1)
classic_said old new link (classic.Truncated at) xs left l step answered = (classic_is old.format old.offset xs (classic.Truncated at) answered.0.0, λ none. absurd (cc none))
classic_said old new link classic.ReadFault xs left l step answered = tt
classic_said old new link (classic.TooLong at size) xs left l step answered = (classic_is old.format old.offset xs (classic.TooLong at size) answered.0, λ none. absurd (cc none))

pub classic_answered : (old new : ReaderView) (link : ℕ) (next : Next) (said : Record) (xs : List ℕ) (left : Option (List ℕ)) → said ≡ classic_record next link → link ≡ new.format.link
    → Steps next old new → ClassicAnswers next old.format old.offset xs new left → Answers said (next_record (Classic old.format old.offset) xs) (reader.Classic new) left
classic_answered old new link next said xs left e l step answered =
    subst (λ r. Answers r (next_record (Classic old.format old.offset) xs) (reader.Classic new) left) (sym e) (classic_said old new link next xs left l step answered)

-- ---- pcapng

ng_is : (old : NgView) (xs : List ℕ) → next_record (Ng old.place) xs ≡ ng_next (ng_at old.place xs)
unfolding next_record
ng_is old xs = refl

ng_said : (old new : NgView) (next : NgNext) (xs : List ℕ) (left : Option (List ℕ)) → NgAnswers next (ng_at old.place xs) new left
    → Answers (ng_record next) (next_record (Ng old.place) xs) (reader.Ng new) left
ng_said old new (ng.Whole ms link at) xs left a = record { rest = a.rest; same = ng_is old xs ∙ ap ng_next a.same; pending = a.told }
ng_said old new ng.End xs left a = (ng_is old xs ∙ ap ng_next a.0, λ none. a.1)
ng_said old new (ng.Truncated at) xs left a = (ng_is old xs ∙ ap ng_next a, λ none. absurd (cc none))
ng_said old new ng.ReadFault xs left a = tt
ng_said old new (ng.TooLong at size) xs left a = (ng_is old xs ∙ ap ng_next a, λ none. absurd (cc none))
ng_said old new (ng.Block at) xs left a = (ng_is old xs ∙ ap ng_next a, λ none. absurd (cc none))
ng_said old new ng.Magic xs left a = (ng_is old xs ∙ ap ng_next a, λ none. absurd (cc none))
ng_said old new ng.Major xs left a = (ng_is old xs ∙ ap ng_next a, λ none. absurd (cc none))
ng_said old new (ng.TooMany at) xs left a = (ng_is old xs ∙ ap ng_next a, λ none. absurd (cc none))

pub ng_answered : (old new : NgView) (next : NgNext) (said : Record) (xs : List ℕ) (left : Option (List ℕ)) → said ≡ ng_record next → NgAnswers next (ng_at old.place xs) new left
    → Answers said (next_record (Ng old.place) xs) (reader.Ng new) left
ng_answered old new next said xs left e a = subst (λ r. Answers r (next_record (Ng old.place) xs) (reader.Ng new) left) (sym e) (ng_said old new next xs left a)

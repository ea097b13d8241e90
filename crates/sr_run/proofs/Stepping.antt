-- What each status of a command that plays a capture says, put together from its parts.
use Rattle.std.proofs.Common.{◌≡◌, ℕ, List, [], Option, Some, None, Result, Ok, Err, refl, sym, ap, ◌∙◌, subst, inl, inr}
use Rattle.sr_base.specs.Key.{KeyView}
use Rattle.sr_capture.specs.Capture.{Keeps, Reads, capture_of}
use Rattle.sr_capture.specs.Records.{Records}
use Rattle.sr_capture.specs.declared.capture_refusal.CaptureRefusal.{CaptureRefusal}
use Rattle.sr_capture.specs.declared.captured.Captured.{Captured}
use Rattle.sr_io.specs.Faults.{Counts}
use Rattle.sr_io.specs.Sink.{SinkKnown, Adds}
use Rattle.sr_io.specs.Source.{SourceKnown}
use Rattle.sr_io.proofs.Adding.{adds_nothing}
use Rattle.sr_io.proofs.Counting.{counts_as, counts_none}
use Rattle.sr_inv_entered.specs.Entered.{AreTakable, given}
use Rattle.sr_inv_final.specs.Rest.{setup_with}
use Rattle.sr_law.specs.Lawful.{IsLawful}
use Rattle.sr_law.specs.declared.line.Line.{Line}
use Rattle.sr_pcap.specs.declared.begin_refusal.BeginRefusal.{BeginRefusal}
use Rattle.sr_pcap.specs.declared.begin_refusal.BeginRefusal.TheVariants as begin
use Rattle.sr_played.proofs.Playing.{played}
use Rattle.sr_played.specs.Captured.{played_packets, timed}
use Rattle.sr_rounds.specs.declared.timed.Timed.{Timed}
use Rattle.sr_script.specs.Fitting.{IsFitting}
use Rattle.sr_script.specs.Spelled.{Spelled}
use Rattle.sr_script.specs.declared.script.Script.{Script as AScript}
use Rattle.sr_script.specs.declared.refusal.ScriptRefusal.{ScriptRefusal}
use Rattle.sr_scripted.specs.Config.{config_of}
use Rattle.sr_run.specs.Capture.{header_refusal, status_without}
use Rattle.sr_run.specs.Outside.{Outside, WritesNothing}
use Rattle.sr_scripted.specs.Played.{AreSettled}
use Rattle.sr_run.specs.ScriptText.{IsScript, Fetches, IsReady}
use Rattle.sr_run.specs.Played.{EndsCapture, EndsPlay, IsLogOf, IsRunOf, MadeBy, PlaysCapture, PlaysCaptured, PlaySays, status_after}
use Rattle.sr_text.specs.LineText.{log_text}
use Rattle.sr_run.specs.declared.status.Status.{Status}
use Rattle.sr_run.specs.declared.way.Way.{Way}
use Rattle.sr_run.specs.declared.way.Way.TheVariants as ways
use Rattle.sr_run.specs.declared.status.Status.TheVariants.{Done, Usage, Script, Capture, ReadFault, WriteFault, Memory, Waiting, Breach}

-- ---- a capture that was not read

refused_header : (why : BeginRefusal) (s : Spelled) (way : Way) (xs : List ℕ) (source : SourceKnown) (sink : SinkKnown) → capture_of xs ≡ Err why
    → PlaysCapture (Capture (header_refusal why)) s way xs source sink sink
refused_header why s way xs source sink refused = inl (why, refused, refl, adds_nothing sink.taken)

pub plays_unread : (why : BeginRefusal) (s : Spelled) (way : Way) (xs : List ℕ) (source : SourceKnown) (sink : SinkKnown) → Reads timed (Err why) s.vips xs source.left
    → PlaysCapture (status_without why) s way xs source sink sink
plays_unread (begin.Truncated offset) s way xs source sink read = refused_header (begin.Truncated offset) s way xs source sink read
plays_unread begin.Magic s way xs source sink read = refused_header begin.Magic s way xs source sink read
plays_unread begin.Major s way xs source sink read = refused_header begin.Major s way xs source sink read
plays_unread begin.LinkType s way xs source sink read = refused_header begin.LinkType s way xs source sink read
plays_unread begin.ReadFault s way xs source sink read = adds_nothing sink.taken
plays_unread begin.Memory s way xs source sink read = adds_nothing sink.taken

pub unread_ends : (why : BeginRefusal) → EndsCapture (status_without why)
unread_ends (begin.Truncated offset) = tt
unread_ends begin.Magic = tt
unread_ends begin.Major = tt
unread_ends begin.LinkType = tt
unread_ends begin.ReadFault = tt
unread_ends begin.Memory = tt

-- ---- a capture that was read, and played

-- the lines are lawful, if the machine can take the packets, in whichever way they are made
made_lawful : (way : Way) (s : Spelled) (packets : List Timed) (lines : List Line) (awaited : Option KeyView)
    → MadeBy way s packets lines awaited → AreTakable (config_of s) packets
    → IsLawful (setup_with (config_of s) (given packets)) lines
made_lawful (ways.Picked seed) s packets lines awaited h = h.lawful
made_lawful ways.OnThreads s packets lines awaited h = h.lawful

-- and settled
made_settled : (way : Way) (s : Spelled) (packets : List Timed) (lines : List Line) (awaited : Option KeyView) → MadeBy way s packets lines awaited
    → AreSettled s packets lines awaited
made_settled (ways.Picked seed) s packets lines awaited h = h.settled
made_settled ways.OnThreads s packets lines awaited h = h.settled

module _ (s : Spelled) (way : Way) (xs : List ℕ) (captured : Captured Timed) (records : Records) (taken : capture_of xs ≡ Ok records)
    (source : SourceKnown) (keeps : Keeps timed s.vips records source.left captured) (fits : IsFitting s) where
  -- the log of what was kept is that of the run
  run_of : (awaited : Option KeyView) (log : List ℕ) → IsLogOf s way captured.skips.items captured.packets.items awaited log
      → IsRunOf s way xs captured.ending awaited log
  run_of awaited log is =
      let made = subst (λ packets. MadeBy way s packets is.lines awaited) keeps.packets is.plays in record {
        records = records;
        taken = taken;
        ended = sym keeps.ending;
        lines = is.lines;
        plays = made;
        told = played s xs records is.lines awaited fits taken
            (made_lawful way s (played_packets s records) is.lines awaited made)
            (made_settled way s (played_packets s records) is.lines awaited made);
        printed = is.printed ∙ ap (λ skips. log_text skips is.lines) keeps.skips;
      }

  run_with : (ending : Option CaptureRefusal) (awaited : Option KeyView) (log : List ℕ) → captured.ending ≡ ending
      → IsLogOf s way captured.skips.items captured.packets.items awaited log → IsRunOf s way xs ending awaited log
  run_with ending awaited log e is = subst (λ k. IsRunOf s way xs k awaited log) e (run_of awaited log is)

  -- a status that says how the capture ended and what is waited for
  done_from : (ending : Option CaptureRefusal) (awaited : Option KeyView) → Done ≡ status_after ending awaited → (ending ≡ None) × (awaited ≡ None)
  done_from None None e = (refl, refl)
  done_from None (Some key) e = absurd cc
  done_from (Some why) awaited e = absurd cc

  waiting_from : (key : KeyView) (ending : Option CaptureRefusal) (awaited : Option KeyView) → Waiting key ≡ status_after ending awaited
      → (ending ≡ None) × (awaited ≡ Some key)
  waiting_from key None None e = absurd cc
  waiting_from key None (Some other) e = let same : other ≡ key = cc in (refl, ap Some same)
  waiting_from key (Some why) awaited e = absurd cc

  refused_from : (why : CaptureRefusal) (ending : Option CaptureRefusal) (awaited : Option KeyView) → Capture why ≡ status_after ending awaited
      → ending ≡ Some why
  refused_from why None None e = absurd cc
  refused_from why None (Some key) e = absurd cc
  refused_from why (Some other) awaited e = cc

  pub plays_read : (status : Status) (before after : SinkKnown) → PlaysCaptured status s way captured before after
      → PlaysCapture status s way xs source before after
  plays_read Done before after plays =
      let is = done_from captured.ending plays.0 plays.3 in (
        plays.1,
        run_with None None plays.1 is.0 (subst (λ k. IsLogOf s way captured.skips.items captured.packets.items k plays.1) is.1 plays.2),
        keeps.all is.0,
        plays.4.taken,
      )
  plays_read (Waiting key) before after plays =
      let is = waiting_from key captured.ending plays.0 plays.3 in (
        plays.1,
        run_with None (Some key) plays.1 is.0 (subst (λ k. IsLogOf s way captured.skips.items captured.packets.items k plays.1) is.1 plays.2),
        keeps.all is.0,
        plays.4.taken,
      )
  plays_read (Capture why) before after plays =
      inr (plays.0, plays.1, run_with (Some why) plays.0 plays.1 (refused_from why captured.ending plays.0 plays.3) plays.2, plays.4.taken)
  plays_read WriteFault before after plays =
      (captured.ending, plays.0, plays.1, run_of plays.0 plays.1 plays.2, keeps.all, plays.3.taken)
  plays_read Memory before after plays = subst (λ (k : SinkKnown). Adds before.taken k.taken []) (sym plays) (adds_nothing before.taken)
  plays_read Usage before after plays = absurd plays
  plays_read (Script refusal) before after plays = absurd plays
  plays_read ReadFault before after plays = absurd plays
  plays_read (Breach line what) before after plays = absurd plays

pub played_ends : (status : Status) (s : Spelled) (way : Way) (captured : Captured Timed) (before after : SinkKnown) → PlaysCaptured status s way captured before after
    → EndsCapture status
played_ends Done s way captured before after plays = tt
played_ends (Waiting key) s way captured before after plays = tt
played_ends (Capture why) s way captured before after plays = tt
played_ends WriteFault s way captured before after plays = tt
played_ends Memory s way captured before after plays = tt
played_ends Usage s way captured before after plays = absurd plays
played_ends (Script refusal) s way captured before after plays = absurd plays
played_ends ReadFault s way captured before after plays = absurd plays
played_ends (Breach line what) s way captured before after plays = absurd plays

pub played_quiet : (status : Status) (s : Spelled) (way : Way) (captured : Captured Timed) (before after : SinkKnown) → PlaysCaptured status s way captured before after
    → WritesNothing status before after
played_quiet Done s way captured before after plays = tt
played_quiet (Waiting key) s way captured before after plays = tt
played_quiet (Capture why) s way captured before after plays = tt
played_quiet WriteFault s way captured before after plays = tt
played_quiet Memory s way captured before after plays = subst (λ (k : SinkKnown). Adds before.taken k.taken []) (sym plays) (adds_nothing before.taken)
played_quiet Usage s way captured before after plays = absurd plays
played_quiet (Script refusal) s way captured before after plays = absurd plays
played_quiet ReadFault s way captured before after plays = absurd plays
played_quiet (Breach line what) s way captured before after plays = absurd plays

pub played_counts : (status : Status) (s : Spelled) (way : Way) (captured : Captured Timed) (before after : SinkKnown) → PlaysCaptured status s way captured before after
    → Counts (status ≡ WriteFault) before.faults after.faults
played_counts Done s way captured before after plays = counts_as (λ f. cc) (λ f. cc) plays.4.faults
played_counts (Waiting key) s way captured before after plays = counts_as (λ f. cc) (λ f. cc) plays.4.faults
played_counts (Capture why) s way captured before after plays = counts_as (λ f. cc) (λ f. cc) plays.4.faults
played_counts WriteFault s way captured before after plays = counts_as (λ f. refl) (λ f. refl) plays.3.faults
played_counts Memory s way captured before after plays =
    subst (λ (k : SinkKnown). Counts (Memory ≡ WriteFault) before.faults k.faults) (sym plays) (counts_none before.faults (λ f. cc))
played_counts Usage s way captured before after plays = absurd plays
played_counts (Script refusal) s way captured before after plays = absurd plays
played_counts ReadFault s way captured before after plays = absurd plays
played_counts (Breach line what) s way captured before after plays = absurd plays

pub played_sound : (status : Status) (s : Spelled) (way : Way) (captured : Captured Timed) (before after : SinkKnown) → PlaysCaptured status s way captured before after
    → status ≡ ReadFault → ⊥
played_sound status s way captured before after plays fault = rw fault at plays

-- ---- a script that was fetched, and the capture that was played by it

pub says_played : (status : Status) (text : Option (List ℕ)) (s : Spelled) (way : Way) (bytes : List ℕ) (before after : Outside) → IsScript text s
    → PlaysCapture status s way bytes after.source before.sink after.sink → Counts (status ≡ ReadFault) before.source.faults after.source.faults
    → PlaySays status text way bytes before after
says_played Done text s way bytes before after script plays counts = (s, script, plays)
says_played (Waiting key) text s way bytes before after script plays counts = (s, script, plays)
says_played (Capture why) text s way bytes before after script plays counts = (s, script, plays)
says_played WriteFault text s way bytes before after script plays counts = (s, script, plays)
says_played ReadFault text s way bytes before after script plays counts = (plays, inr (s, script, counts.rose refl))
says_played Memory text s way bytes before after script plays counts = plays
says_played Usage text s way bytes before after script plays counts = absurd plays
says_played (Script refusal) text s way bytes before after script plays counts = absurd plays
says_played (Breach line what) text s way bytes before after script plays counts = absurd plays

pub ends_played : (status : Status) → EndsCapture status → EndsPlay status
ends_played Done ends = tt
ends_played (Waiting key) ends = tt
ends_played (Capture why) ends = tt
ends_played WriteFault ends = tt
ends_played ReadFault ends = tt
ends_played Memory ends = tt
ends_played Usage ends = absurd ends
ends_played (Script refusal) ends = absurd ends
ends_played (Breach line what) ends = absurd ends

pub no_script_refusal : (status : Status) → EndsCapture status → (refusal : ScriptRefusal) → status ≡ Script refusal → ⊥
no_script_refusal status ends refusal e = rw e at ends

-- no script: the shelf failed, the text was refused, or no memory was found
pub says_unscripted : (status : Status) (text : Option (List ℕ)) (way : Way) (bytes : List ℕ) (before after : Outside) → Fetches (Err status) text → after.sink ≡ before.sink
    → Counts (◌≡◌ {A = Result AScript Status} (Err status) (Err ReadFault)) before.shelf.faults after.shelf.faults → PlaySays status text way bytes before after
says_unscripted (Script refusal) text way bytes before after fetched sink counts =
    (fetched, subst (λ (k : SinkKnown). Adds before.sink.taken k.taken []) (sym sink) (adds_nothing before.sink.taken))
says_unscripted ReadFault text way bytes before after fetched sink counts =
    (subst (λ (k : SinkKnown). Adds before.sink.taken k.taken []) (sym sink) (adds_nothing before.sink.taken), inl (counts.rose refl))
says_unscripted Memory text way bytes before after fetched sink counts =
    subst (λ (k : SinkKnown). Adds before.sink.taken k.taken []) (sym sink) (adds_nothing before.sink.taken)
says_unscripted Done text way bytes before after fetched sink counts = absurd fetched
says_unscripted (Waiting key) text way bytes before after fetched sink counts = absurd fetched
says_unscripted (Capture why) text way bytes before after fetched sink counts = absurd fetched
says_unscripted WriteFault text way bytes before after fetched sink counts = absurd fetched
says_unscripted Usage text way bytes before after fetched sink counts = absurd fetched
says_unscripted (Breach line what) text way bytes before after fetched sink counts = absurd fetched

pub ends_unscripted : (status : Status) → IsReady (Err status) → EndsPlay status
ends_unscripted (Script refusal) ready = tt
ends_unscripted ReadFault ready = tt
ends_unscripted Memory ready = tt
ends_unscripted Done ready = absurd ready
ends_unscripted (Waiting key) ready = absurd ready
ends_unscripted (Capture why) ready = absurd ready
ends_unscripted WriteFault ready = absurd ready
ends_unscripted Usage ready = absurd ready
ends_unscripted (Breach line what) ready = absurd ready

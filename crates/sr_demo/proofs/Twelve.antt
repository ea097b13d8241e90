-- A demonstration that comes past the time of its last change, and ends with nothing waited for, makes twelve switches.
use Rattle.std.proofs.Common.{◌≡◌, ℕ, suc, ◌+◌, ◌<◌, ◌≤◌, nat_le, Bool, true, false, List, [], ◌∷◌, ◌++◌, length, count_by, None, Option, Some, Ok, Result, if◌then◌else◌, refl, sym, ◌∙◌, subst, arith}
use Rattle.std.proofs.lemmas.Bool.{le-leb}
use Rattle.std.specs.List.{AllByRecursion}
use Rattle.sr_audit.specs.Counts.{is_switch}
use Rattle.sr_base.specs.Key.{KeyView}
use Rattle.sr_base.specs.declared.change.Change.{Change}
use Rattle.sr_base.specs.declared.change.What.{What}
use Rattle.sr_base.specs.declared.change.What.TheVariants.{Give, TakeDown}
use Rattle.sr_capture.specs.Capture.{capture_of}
use Rattle.sr_capture.specs.Records.{Records}
use Rattle.sr_demo.proofs.Lasting.{Past, last_past}
use Rattle.sr_demo.proofs.Timely.{comes}
use Rattle.sr_demo.specs.Script.{demo_script}
use Rattle.sr_gen.specs.Capture.{capture_of as made_of, most_packets}
use Rattle.sr_law.specs.Pools.{gives_to}
use Rattle.sr_law.specs.Settled.{due_gives, is_due}
use Rattle.sr_law.specs.declared.line.Line.{Line}
use Rattle.sr_made.proofs.Made.{made_frames}
use Rattle.sr_made.specs.Made.{frames_from}
use Rattle.sr_pcap.specs.declared.begin_refusal.BeginRefusal.{BeginRefusal}
use Rattle.sr_played.specs.Captured.{last_time, played_packets}
use Rattle.sr_played.specs.Lines.{AreRunLines}

-- ---- the changes that are due

-- this gives a pool
abbrev Gives : What → Type 0
Gives (Give vip pool) = Unit {0}
Gives (TakeDown server) = ⊥

-- so does the change, and its time has come
abbrev IsDue : Option ℕ → Change → Type 0
IsDue clock change = (is_due clock change.at_ms ≡ true) × Gives change.what

one_due : (clock : Option ℕ) (earlier rest : List Change) (position at_ms : ℕ) (what : What) → is_due clock at_ms ≡ true → Gives what
    → length (due_gives clock (record { at_ms = at_ms; what = what } ∷ earlier) (position + 1) rest) ≡ length rest
    → length (due_gives clock earlier position (record { at_ms = at_ms; what = what } ∷ rest)) ≡ suc (length rest)
one_due clock earlier rest position at_ms (TakeDown server) due gives more = absurd gives
one_due clock earlier rest position at_ms (Give vip pool) due gives more = at (is_due clock at_ms) due
  where
    at : (b : Bool) → b ≡ true
        → length ((if b then (record { position = position; vip = vip; pool = 2 + length (gives_to vip earlier) } ∷ []) else [])
        ++ due_gives clock (record { at_ms = at_ms; what = Give vip pool } ∷ earlier) (position + 1) rest)
        ≡ suc (length rest)
    at true e = omega (arith, more)
    at false e = cc

all_due : (clock : Option ℕ) (earlier : List Change) (position : ℕ) (changes : List Change) → AllByRecursion (IsDue clock) changes
    → length (due_gives clock earlier position changes) ≡ length changes
all_due clock earlier position [] h = refl
all_due clock earlier position (change ∷ rest) h =
    one_due clock earlier rest position change.at_ms change.what h.0.0 h.0.1 (all_due clock (change ∷ earlier) (position + 1) rest h.1)

twelve_due : (clock : Option ℕ) → Past 18000 clock → length (due_gives clock [] 0 demo_script.changes) ≡ 12
twelve_due None h = absurd h
twelve_due (Some clock) h =
    all_due (Some clock) [] 0 demo_script.changes (
      due 1500 (omega arith),
      (
        due 3000 (omega arith),
        (
          due 4500 (omega arith),
          (
            due 6000 (omega arith),
            (
              due 7500 (omega arith),
              (
                due 9000 (omega arith),
                (
                  due 10500 (omega arith),
                  (
                    due 12000 (omega arith),
                    (due 13500 (omega arith), (due 15000 (omega arith), (due 16500 (omega arith), (due 18000 (omega arith), tt)))),
                  ),
                ),
              ),
            ),
          ),
        ),
      ),
    )
  where
    due : (at_ms : ℕ) → at_ms ≤ 18000 → (nat_le at_ms clock ≡ true) × Unit {0}
    due at_ms early = (le-leb at_ms clock (omega (arith, h, early)), tt)

-- ---- the time of the last round

-- where the capture is that of so many packets, the last round begins at the time of the last change or later
pub time_past : (number packets : ℕ) (records : Records) → packets ≤ most_packets → 180000 < packets → capture_of (made_of number packets) ≡ Ok records
    → Past 18000 (last_time demo_script (played_packets demo_script records))
time_past number packets records few many taken =
    subst (λ r. Past 18000 (last_time demo_script (played_packets demo_script r))) same
    (last_past 100 18000 (played_packets demo_script made) (comes 18000 number packets (omega (arith, many)) (omega (arith, many))))
  where
    made : Records
    made = record { frames = frames_from number 0 packets; ending = None }

    same : made ≡ records
    same = let both : ◌≡◌ {A = Result Records BeginRefusal} (Ok made) (Ok records) = sym (made_frames number packets few) ∙ taken in cc

-- ---- the switches

pub twelve : (number packets : ℕ) (records : Records) (awaited : Option KeyView) (lines : List Line) → packets ≤ most_packets
    → capture_of (made_of number packets) ≡ Ok records
    → AreRunLines demo_script (played_packets demo_script records) awaited lines
    → awaited ≡ None → 180000 < packets
    → count_by is_switch lines ≡ 12
twelve number packets records awaited lines few taken told none many =
    let due = twelve_due (last_time demo_script (played_packets demo_script records)) (time_past number packets records few many taken) in
    told.switches none (omega (arith, due)) ∙ due

-- What is said of a quiet entry goes on, where the lines tell nothing new of its key.
use Rattle.sr_base.specs.Key.{KeyView}
use Rattle.sr_inv_facts.proofs.Plain.{OfPlain, plain_cleared, plain_passed, plain_phase, plain_vip, plain_waited}
use Rattle.sr_inv_facts.specs.InSweeps.{EntryQuiet, QuietHolds, is_past, last_moved, moved_by, rounds, running_from, since, sweep_from, sweep_to}
use Rattle.sr_inv_facts.specs.InTicks.{same}
use Rattle.sr_law.specs.Retire.{is_before, last_placed, numbered_sweep, of_number, placed_by, sweep_by, uses_between}
use Rattle.sr_law.specs.Ticks.{is_controller}
use Rattle.sr_law.specs.declared.line.Line.{Line}
use Rattle.sr_machine.specs.Config.{Config}
use Rattle.sr_machine.specs.Goes.{Goes, comes}
use Rattle.sr_machine.specs.declared.controller_view.ControllerView.{ControllerView}
use Rattle.sr_machine.specs.declared.job.Job.{Job}
use Rattle.sr_shadow.specs.declared.entry.Entry.{Entry}
use Rattle.std.proofs.Common.{IfSome, List, None, Option, Some, ap, arith, false, if◌then◌else◌, max, option_map, refl, subst, sym, true, unwrap_or, ℕ, ◌+◌, ◌-◌, ◌<◌, ◌==◌, ◌||◌, ◌∙◌, ◌∷◌, ◌≡◌, ◌≤◌}
use Rattle.std.specs.List.{list_any}
use Rattle.std.specs.Option.{option_or}
use Rattle.sr_machine.specs.declared.draw.Draw.TheVariants as draw
use Rattle.sr_machine.specs.declared.job.Job.TheVariants as job
use Rattle.sr_law.specs.declared.line.Line.TheVariants as line
use Rattle.sr_machine.specs.Goes as go

-- ---- lines that tell nothing of a key's place

pub record IsCalm (l : Line) (before : List Line) (key : KeyView) : Type 0 where
  pub placed : placed_by l key ≡ None
  pub moved : moved_by l before key ≡ None
  pub sweep : sweep_by l ≡ None

pub calm_placed : (l : Line) (before : List Line) (key : KeyView) → IsCalm l before key → last_placed (l ∷ before) key ≡ last_placed before key
calm_placed l before key c = ap (λ o. option_or o (last_placed before key)) c.placed

pub calm_since : (l : Line) (before : List Line) (key : KeyView) → IsCalm l before key → since (l ∷ before) key ≡ since before key
calm_since l before key c =
    ap (λ o. max (unwrap_or o 0) (last_moved (l ∷ before) key)) (calm_placed l before key c)
    ∙ ap (λ o. max (unwrap_or (last_placed before key) 0) (unwrap_or o (last_moved before key))) c.moved

pub calm_numbered : (l : Line) (before : List Line) (n : ℕ) → sweep_by l ≡ None → numbered_sweep (l ∷ before) n ≡ numbered_sweep before n
calm_numbered l before n e = ap (λ o. option_or (of_number n o) (numbered_sweep before n)) e

-- ---- a quiet entry

-- what is told of a key and of the sweeps up to this one stays
pub record Carries (lines after : List Line) (sweeps next : ℕ) (j m : Job) (key : KeyView) (gone : ℕ) : Type 0 where
  pub placed : last_placed after key ≡ last_placed lines key
  pub moved : since after key ≡ since lines key
  pub from : (n : ℕ) → n ≤ gone → sweep_from after next m n ≡ sweep_from lines sweeps j n
  pub to : (n : ℕ) → n < gone → sweep_to after n ≡ sweep_to lines n
  pub uses : (to from n : ℕ) → sweep_from lines sweeps j n ≡ Some from → list_any (uses_between key to from) lines ≡ false
      → list_any (uses_between key to from) after ≡ false

pub quiet_turns : (lines after : List Line) (sweeps next : ℕ) (j m : Job) (key : KeyView) (gone quiet : ℕ)
    → Carries lines after sweeps next j m key gone → QuietHolds lines sweeps j key gone quiet → QuietHolds after next m key gone quiet
quiet_turns lines after sweeps next j m key gone quiet c h = record {
  less = h.less;
  began = record {
    from = h.began.from;
    began = c.from (gone - quiet) (omega arith) ∙ h.began.began;
    placed = ap (λ o. is_before o h.began.from) c.placed ∙ h.began.placed;
    since_then = subst (λ n. n < h.began.from) (sym c.moved) h.began.since_then;
  };
  idle = λ some to from a b.
      let less : gone - quiet < gone = let q = h.less in omega arith in
      let was : sweep_from lines sweeps j gone ≡ Some from = sym (c.from gone (omega arith)) ∙ b in
      c.uses to from gone was (h.idle some to from (sym (c.to (gone - quiet) less) ∙ a) was);
}

-- the sweeps of a job are those of another
pub from_same : (lines after : List Line) (sweeps : ℕ) (j m : Job) → running_from m ≡ running_from j
    → ((n : ℕ) → numbered_sweep after n ≡ numbered_sweep lines n) → (n : ℕ) → sweep_from after sweeps m n ≡ sweep_from lines sweeps j n
from_same lines after sweeps j m running same n =
    ap (λ o. if n == (sweeps + 1) then o else option_map (λ w. w.from) (numbered_sweep after n)) running
    ∙ ap (λ o. if n == (sweeps + 1) then running_from j else option_map (λ w. w.from) o) (same n)

-- nothing is printed
pub carries_silent : (lines : List Line) (sweeps : ℕ) (j m : Job) → running_from m ≡ running_from j → (key : KeyView) (gone : ℕ)
    → Carries lines lines sweeps sweeps j m key gone
carries_silent lines sweeps j m running key gone = record {
  placed = refl;
  moved = refl;
  from = λ n h. from_same lines lines sweeps j m running (λ n. refl) n;
  to = λ n h. refl;
  uses = λ to from n e h. h;
}

-- a line of the controller that tells nothing of the key
pub carries_calm : (lines : List Line) (l : Line) (sweeps : ℕ) (j m : Job) → is_controller l ≡ true → running_from m ≡ running_from j → (key : KeyView) (gone : ℕ)
    → IsCalm l lines key
    → Carries lines (l ∷ lines) sweeps sweeps j m key gone
carries_calm lines l sweeps j m own running key gone c = record {
  placed = calm_placed l lines key c;
  moved = calm_since l lines key c;
  from = λ n h. from_same lines (l ∷ lines) sweeps j m running (λ n. calm_numbered l lines n c.sweep) n;
  to = λ n h. ap (option_map (λ w. w.to)) (calm_numbered l lines n c.sweep);
  uses = λ to from n e h. ap (λ b. b || list_any (uses_between key to from) lines) (unused l own to from) ∙ h;
}
  where
    unused : (l : Line) → is_controller l ≡ true → (to from : ℕ) → uses_between key to from l ≡ false
    unused (line.Packet number entered out pipe of kind v) e to from = cc
    unused l e to from = refl

-- ---- an entry

pub if_some_then : {X : Type 0} (o : Option X) (P Q : X → Type 0) → ((x : X) → o ≡ Some x → P x → Q x) → IfSome o P → IfSome o Q
if_some_then None P Q turn h = tt
if_some_then (Some x) P Q turn h = turn x refl h

pub none_quiet : (lines : List Line) (sweeps : ℕ) (j : Job) (e : Entry) → e.quiet ≡ None → EntryQuiet lines sweeps j e
none_quiet lines sweeps j e q = subst (λ o. IfSome o (QuietHolds lines sweeps j e.key (rounds sweeps j e.taken))) (sym q) tt

pub entry_turns : (lines after : List Line) (sweeps next : ℕ) (j m : Job) (e : Entry) → rounds next m e.taken ≡ rounds sweeps j e.taken
    → Carries lines after sweeps next j m e.key (rounds sweeps j e.taken)
    → EntryQuiet lines sweeps j e → EntryQuiet after next m e
entry_turns lines after sweeps next j m e same c h =
    if_some_then e.quiet (QuietHolds lines sweeps j e.key (rounds sweeps j e.taken)) (QuietHolds after next m e.key (rounds next m e.taken))
    (λ n q g. subst (λ gone. QuietHolds after next m e.key gone n) (sym same) (quiet_turns lines after sweeps next j m e.key (rounds sweeps j e.taken) n c g)) h

-- ---- jobs that are no part of a sweep

-- no sweep is under way
pub record NoSweep (j : Job) : Type 0 where
  pub running : running_from j ≡ None
  pub past : (n : ℕ) → is_past j n ≡ false

none_plain : OfPlain NoSweep
none_plain = record {
  free = record { running = refl; past = λ n. refl };
  comes = λ u p. record { running = refl; past = λ n. refl };
  coming = λ u p. record { running = refl; past = λ n. refl };
  retiring = λ key. record { running = refl; past = λ n. refl };
  answer = λ r. record { running = refl; past = λ n. refl };
  phase = λ u p. record { running = refl; past = λ n. refl };
  filter = λ u. record { running = refl; past = λ n. refl };
  source = λ key from. record { running = refl; past = λ n. refl };
  judge = λ p. record { running = refl; past = λ n. refl };
  drain = λ w. record { running = refl; past = λ n. refl };
}

abbrev pub IsOffSweep : Job → Type 0
IsOffSweep (job.Draw (draw.From ms)) = ⊥
IsOffSweep (job.Draw (draw.Swept from ms)) = ⊥
IsOffSweep (job.Hit from ms key place number) = ⊥
IsOffSweep j = Unit {0}

pub off_none : (j : Job) → IsOffSweep j → NoSweep j
off_none (job.Draw (draw.From ms)) off = absurd off
off_none (job.Draw (draw.Swept from ms)) off = absurd off
off_none (job.Hit from ms key place number) off = absurd off
off_none j off = record { running = refl; past = λ n. refl }

pub goes_none : (k : Config) (c : ControllerView) (x : ℕ) (j m : Job) → Goes k c x j m → IsOffSweep j → NoSweep m
goes_none k c x j m (go.comes u p) off = plain_phase NoSweep none_plain u p
goes_none k c x j m (go.cleared key place w) off = plain_cleared NoSweep none_plain key w
goes_none k c x j m (go.phase_stored u p) off = plain_vip NoSweep none_plain u p
goes_none k c x j m (go.pass_last g pipe w a b) off = plain_passed NoSweep none_plain w
goes_none k c x j m (go.drain_last pipe count w a b) off = plain_waited NoSweep none_plain c.vips _ w
goes_none k c x j m (go.sweep_begins ms e place s) off = absurd off
goes_none k c x j m (go.sweep_empty ms e) off = absurd off
goes_none k c x j m (go.swept from ms) off = absurd off
goes_none k c x j m (go.hit_next from ms key place n e at s) off = absurd off
goes_none k c x j m (go.hit_last from ms key place n e) off = absurd off
goes_none k c x j m g off = record { running = refl; past = λ n. refl }

pub rounds_none : (sweeps n : ℕ) (j : Job) → NoSweep j → rounds sweeps j n ≡ sweeps
rounds_none sweeps n j h = ap (λ b. if b then sweeps + 1 else sweeps) (h.past n)

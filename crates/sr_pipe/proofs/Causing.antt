-- Why a packet's verdict is what it is: backwards from its last step, by what the words say that are loaded from there on.
use Rattle.std.proofs.Common.{◌≡◌, ◌∙◌, ℕ, ◌+◌, ◌==◌, ◌&&◌, ◌||◌, not, ◌++◌, Bool, true, false, List, [], ◌∷◌, Some, refl, sym, ap, subst, if◌then◌else◌}
use Rattle.sr_base.specs.Key.{KeyView}
use Rattle.sr_base.specs.Layout.{LayoutView}
use Rattle.sr_base.specs.declared.kind.Kind.{Kind}
use Rattle.sr_base.specs.declared.kind.Kind.TheVariants.{Opener, Carry, Ending}
use Rattle.sr_base.specs.declared.packet.Packet.{Packet}
use Rattle.sr_base.specs.declared.place.Place.{Place}
use Rattle.sr_base.specs.declared.vip_word.Phase.{Phase}
use Rattle.sr_base.specs.declared.vip_word.Phase.TheVariants.{Steady, Recording, Holding, Transit}
use Rattle.sr_base.specs.declared.vip_word.VipWord.{VipWord}
use Rattle.sr_law.specs.declared.line.Line.{Line}
use Rattle.sr_law.specs.declared.line.Line.TheVariants as line
use Rattle.sr_law.specs.declared.verdict.HeldBy.{HeldBy}
use Rattle.sr_law.specs.declared.verdict.HeldBy.TheVariants as by
use Rattle.sr_law.specs.declared.verdict.Verdict.{Verdict}
use Rattle.sr_law.specs.declared.verdict.Verdict.TheVariants as verdict
use Rattle.sr_machine.specs.Pipe.{is_idle, packet_line}
use Rattle.sr_machine.specs.Reads.{has_bit, read_flag, read_head, read_server, read_vip, says}
use Rattle.sr_machine.specs.Stages.{filtered, filtering, held_or, is_opener, is_recorded, key_bits, key_places, last_at, last_by, looked, looking, marking, missed_in, verdict_at, verdict_by}
use Rattle.sr_machine.specs.declared.flight.Flight.{Flight}
use Rattle.sr_machine.specs.declared.leg.Last.TheVariants as last
use Rattle.sr_machine.specs.declared.leg.Leg.{Leg}
use Rattle.sr_machine.specs.declared.leg.Leg.TheVariants.{Chosen, Judged}
use Rattle.sr_machine.specs.declared.leg.Load.TheVariants as load
use Rattle.sr_machine.specs.declared.pipe_view.PipeView.{PipeView}
use Rattle.sr_machine.specs.declared.said.Said.{Said}
use Rattle.sr_machine.specs.declared.said.Said.TheVariants as said
use Rattle.sr_machine.specs.declared.stage.Stage.TheVariants.{Fly}
use Rattle.sr_pipe.specs.Causes.{HasCause, is_clash, is_down, is_full, is_hold, is_transit_held}
use Rattle.sr_pipe.specs.Handling.{with_packet}
use Rattle.sr_pipe.specs.Steps.{AreSteps, steps_made, view_after_all}
use Rattle.sr_pipe.specs.Told.{Told, all_set, is_holding, is_match, is_transit, says_down, says_empty, says_full, told_by, untold}

-- The verdict of a packet, an opener or not, is held for one of these reasons exactly where it is true; it is down or finds no
-- room by what was told.
record Tells (opener clash hold transit : Bool) (u : Verdict) (t : Told) : Type 0 where
  by_clash : is_clash u ≡ (opener && clash)
  by_hold : is_hold u ≡ (opener && hold)
  by_transit : is_transit_held u ≡ (opener && transit)
  by_down : is_down u ≡ says_down t.down
  by_full : is_full u ≡ (opener && (not (says_down t.down) && says_full t.cell))

-- the same, where no place was found to match
abbrev TellsUnmatched : Bool → Bool → Bool → Bool → Verdict → Told → Type 0
TellsUnmatched opener clash hold transit u t = Tells opener clash hold transit u t × (t.matched ≡ false)

-- it has this verdict, and nothing was told after
abbrev IsThen : Verdict → Verdict → Told → Type 0
IsThen v u t = (u ≡ v) × (t ≡ untold)

moved : (C : Verdict → Told → Type 0) (u v : Verdict) (t s : Told) → u ≡ v → t ≡ s → C v s → C u t
moved C u v t s e f c = subst (λ (w : Verdict). C w t) (sym e) (subst (λ (r : Told). C v r) (sym f) c)

module _ (l : LayoutView) (n number : ℕ) (key : KeyView) (entered : ℕ) (vip : VipWord) where
  abbrev flight : Kind → Flight
  flight k = record { packet = record { number = number; key = key; kind = k }; entered = entered; vip = vip }

  abbrev fly : Kind → Leg → ℕ → List Line → PipeView
  fly k leg pushed lines = record { number = n; stage = Fly (flight k) leg; pushed = pushed; lines = lines }

  -- the steps that answered these end with the packet's line, and with this of its verdict and of what was told
  record Ends (k : Kind) (v : PipeView) (xs : List ℕ) (C : Verdict → Told → Type 0) : Type 0 where
    verdict : Verdict
    out : ℕ
    lines : (view_after_all l v xs).lines ≡ v.lines ++ packet_line n (flight k) verdict out ∷ []
    claims : C verdict (told_by l key (steps_made l v xs))

  abbrev EndsFrom : Kind → Leg → (Verdict → Told → Type 0) → Type 0
  EndsFrom k leg C =
      (p : ℕ) (ls : List Line) (xs : List ℕ) → AreSteps l (fly k leg p ls) xs
      → is_idle (view_after_all l (fly k leg p ls) xs).stage ≡ true → Ends k (fly k leg p ls) xs C

  -- ---- from the verdict on

  out_ends : (k : Kind) (v : Verdict) → EndsFrom k (Judged v last.Out) (IsThen v)
  out_ends k v p ls [] a i = cc
  out_ends k v p ls (x ∷ []) a i = cc
  out_ends k v p ls (x ∷ y ∷ []) a i = record { verdict = v; out = x; lines = refl; claims = (refl, refl) }
  out_ends k v p ls (x ∷ y ∷ z ∷ xs) a i = cc (a.1.1.0)

  push_ends : (k : Kind) (v : Verdict) → EndsFrom k (Judged v last.Push) (IsThen v)
  push_ends k v p ls [] a i = cc
  push_ends k v p ls (x ∷ xs) a i =
      let r = out_ends k v (p + 1) ls xs a.1 i in
      record { verdict = r.verdict; out = r.out; lines = r.lines; claims = r.claims }

  marks_end : (k : Kind) (v : Verdict) (bits : List ℕ) → EndsFrom k (Judged v (marking bits)) (IsThen v)
  marks_end k v [] p ls xs a i = push_ends k v p ls xs a i
  marks_end k v (bit ∷ rest) p ls [] a i = cc
  marks_end k v (bit ∷ rest) p ls (x ∷ xs) a i =
      let r = marks_end k v rest p ls xs a.1 i in
      record { verdict = r.verdict; out = r.out; lines = r.lines; claims = r.claims }

  marked_if : (k : Kind) (v : Verdict) (recorded : Bool)
      → EndsFrom k (Judged v (if recorded then marking (key_bits l key) else last.Push)) (IsThen v)
  marked_if k v true p ls xs a i = marks_end k v (key_bits l key) p ls xs a i
  marked_if k v false p ls xs a i = push_ends k v p ls xs a i

  celled_ends : (k : Kind) (v : Verdict) (empty : Bool)
      → EndsFrom k (Judged (verdict_at (flight k) v empty) (last_at l (flight k) v empty)) (IsThen (verdict_at (flight k) v empty))
  celled_ends k v true p ls xs a i = marked_if k v (is_recorded (flight k) v) p ls xs a i
  celled_ends k v false p ls xs a i = out_ends k (if is_opener k then verdict.Full else v) p ls xs a i

  ring_ends : (k : Kind) (v : Verdict)
      → EndsFrom k (Judged v last.Ring) (λ u t. (x : ℕ) × (u ≡ verdict_at (flight k) v (x == 0)) × (t ≡ record untold {
        cell = Some x;
      }))
  ring_ends k v p ls [] a i = cc
  ring_ends k v p ls (x ∷ xs) a i =
      let r = celled_ends k v (x == 0) p ls xs a.1 i in
      record {
        verdict = r.verdict;
        out = r.out;
        lines = r.lines;
        claims = (x, r.claims.0, ap (λ (t : Told). record t { cell = Some x }) r.claims.1);
      }

  -- ---- with a version

  -- the verdict by the down word
  sent : (k : Kind) (x : ℕ) (down : Bool) (server version pool : ℕ) → read_flag x ≡ down
      → EndsFrom k (Judged (verdict_by down server version pool) (last_by k down)) (λ u t. TellsUnmatched (is_opener k) false false false u (record t {
        down = Some x;
      }))
  sent Opener x true server version pool e p ls xs a i =
      let r = out_ends Opener (verdict.Down server version pool) p ls xs a i in
      record {
        verdict = r.verdict;
        out = r.out;
        lines = r.lines;
        claims =
            moved (λ u t. TellsUnmatched true false false false u (record t { down = Some x })) r.verdict
            (verdict.Down server version pool) (told_by l key (steps_made l (fly Opener (Judged (verdict.Down server version pool) last.Out) p ls) xs))
            untold r.claims.0 r.claims.1
            (record { by_clash = refl; by_hold = refl; by_transit = refl; by_down = sym e; by_full = ap (λ d. not d && false) (sym e) }, refl);
      }
  sent Opener x false server version pool e p ls xs a i =
      let r = ring_ends Opener (verdict.To server version pool) p ls xs a i in
      record {
        verdict = r.verdict;
        out = r.out;
        lines = r.lines;
        claims = moved (λ u t. TellsUnmatched true false false false u (record t { down = Some x })) r.verdict
            (verdict_at (flight Opener) (verdict.To server version pool) (r.claims.0 == 0))
            (told_by l key (steps_made l (fly Opener (Judged (verdict.To server version pool) last.Ring) p ls) xs))
            (record untold { cell = Some r.claims.0 }) r.claims.1 r.claims.2 (at (r.claims.0) (r.claims.0 == 0) refl);
      }
    where
      at : (y : ℕ) (empty : Bool) → (y == 0) ≡ empty
          → TellsUnmatched true false false false (verdict_at (flight Opener) (verdict.To server version pool) empty)
          (record untold { down = Some x; cell = Some y })
      at y true h = (
        record {
          by_clash = refl;
          by_hold = refl;
          by_transit = refl;
          by_down = sym e;
          by_full = rw (e, h) refl;
        },
        refl,
      )
      at y false h = (
        record {
          by_clash = refl;
          by_hold = refl;
          by_transit = refl;
          by_down = sym e;
          by_full = rw (e, h) refl;
        },
        refl,
      )
  sent Carry x down server version pool e p ls xs a i =
      let r = out_ends Carry (verdict_by down server version pool) p ls xs a i in
      record {
        verdict = r.verdict;
        out = r.out;
        lines = r.lines;
        claims = moved (λ u t. TellsUnmatched false false false false u (record t { down = Some x })) r.verdict
            (verdict_by down server version pool)
            (told_by l key (steps_made l (fly Carry (Judged (verdict_by down server version pool) last.Out) p ls) xs)) untold
            r.claims.0 r.claims.1 (at down e);
      }
    where
      at : (d : Bool) → read_flag x ≡ d → TellsUnmatched false false false false (verdict_by d server version pool) (record untold {
        down = Some x;
      })
      at true h = (record { by_clash = refl; by_hold = refl; by_transit = refl; by_down = sym h; by_full = refl }, refl)
      at false h = (record { by_clash = refl; by_hold = refl; by_transit = refl; by_down = sym h; by_full = refl }, refl)
  sent Ending x down server version pool e p ls xs a i =
      let r = ring_ends Ending (verdict_by down server version pool) p ls xs a i in
      record {
        verdict = r.verdict;
        out = r.out;
        lines = r.lines;
        claims = moved (λ u t. TellsUnmatched false false false false u (record t { down = Some x })) r.verdict
            (verdict_at (flight Ending) (verdict_by down server version pool) (r.claims.0 == 0))
            (told_by l key (steps_made l (fly Ending (Judged (verdict_by down server version pool) last.Ring) p ls) xs))
            (record untold { cell = Some r.claims.0 }) r.claims.1 r.claims.2 (at (r.claims.0) (r.claims.0 == 0) down e);
      }
    where
      at : (y : ℕ) (empty d : Bool) → read_flag x ≡ d
          → TellsUnmatched false false false false (verdict_at (flight Ending) (verdict_by d server version pool) empty)
          (record untold { down = Some x; cell = Some y })
      at y true true h = (record { by_clash = refl; by_hold = refl; by_transit = refl; by_down = sym h; by_full = refl }, refl)
      at y true false h = (record { by_clash = refl; by_hold = refl; by_transit = refl; by_down = sym h; by_full = refl }, refl)
      at y false true h = (record { by_clash = refl; by_hold = refl; by_transit = refl; by_down = sym h; by_full = refl }, refl)
      at y false false h = (record { by_clash = refl; by_hold = refl; by_transit = refl; by_down = sym h; by_full = refl }, refl)

  down_ends : (k : Kind) (version pool server : ℕ)
      → EndsFrom k (Chosen version (load.Down pool server)) (TellsUnmatched (is_opener k) false false false)
  down_ends k version pool server p ls [] a i = cc
  down_ends k version pool server p ls (x ∷ xs) a i =
      let r = sent k x (read_flag x) server version pool refl p ls xs a.1 i in
      record { verdict = r.verdict; out = r.out; lines = r.lines; claims = r.claims }

  chosen_ends : (k : Kind) (version : ℕ) → EndsFrom k (Chosen version load.Head) (TellsUnmatched (is_opener k) false false false)
  chosen_ends k version p ls [] a i = cc
  chosen_ends k version p ls (x ∷ []) a i = cc
  chosen_ends k version p ls (x ∷ y ∷ xs) a i =
      let r = down_ends k version ((read_head l x).pool) (read_server l y) p ls xs a.1.1 i in
      record { verdict = r.verdict; out = r.out; lines = r.lines; claims = r.claims }

  -- ---- held, or with a version

  abbrev TellsHeld : Bool → HeldBy → Verdict → Told → Type 0
  TellsHeld opener why u t =
      TellsUnmatched opener (is_clash (verdict.Held why) && says_empty t.cell) (is_hold (verdict.Held why) && says_empty t.cell)
      (is_transit_held (verdict.Held why) && says_empty t.cell) u t

  held_ends : (why : HeldBy) → EndsFrom Opener (Judged (verdict.Held why) last.Ring) (TellsHeld true why)
  held_ends why p ls xs a i =
      let r = ring_ends Opener (verdict.Held why) p ls xs a i in
      record {
        verdict = r.verdict;
        out = r.out;
        lines = r.lines;
        claims = moved (TellsHeld true why) r.verdict (verdict_at (flight Opener) (verdict.Held why) (r.claims.0 == 0))
            (told_by l key (steps_made l (fly Opener (Judged (verdict.Held why) last.Ring) p ls) xs))
            (record untold { cell = Some r.claims.0 }) r.claims.1 r.claims.2 (at why (r.claims.0) (r.claims.0 == 0) refl);
      }
    where
      at : (w : HeldBy) (y : ℕ) (empty : Bool) → (y == 0) ≡ empty
          → TellsHeld true w (verdict_at (flight Opener) (verdict.Held w) empty) (record untold { cell = Some y })
      at by.Clash y true h = (record { by_clash = sym h; by_hold = refl; by_transit = refl; by_down = refl; by_full = rw h refl }, refl)
      at by.Clash y false h = (record { by_clash = sym h; by_hold = refl; by_transit = refl; by_down = refl; by_full = rw h refl }, refl)
      at by.Hold y true h = (record { by_clash = refl; by_hold = sym h; by_transit = refl; by_down = refl; by_full = rw h refl }, refl)
      at by.Hold y false h = (record { by_clash = refl; by_hold = sym h; by_transit = refl; by_down = refl; by_full = rw h refl }, refl)
      at by.Transit y true h = (record { by_clash = refl; by_hold = refl; by_transit = sym h; by_down = refl; by_full = rw h refl }, refl)
      at by.Transit y false h = (record { by_clash = refl; by_hold = refl; by_transit = sym h; by_down = refl; by_full = rw h refl }, refl)

  held_or_ends : (k : Kind) (why : HeldBy) (version : ℕ)
      → EndsFrom k (held_or (flight k) why version) (TellsHeld (is_opener k) why)
  held_or_ends Opener why version p ls xs a i = held_ends why p ls xs a i
  held_or_ends Carry why version p ls xs a i =
      let r = chosen_ends Carry version p ls xs a i in
      record {
        verdict = r.verdict;
        out = r.out;
        lines = r.lines;
        claims = (
          record {
            by_clash = r.claims.0.by_clash;
            by_hold = r.claims.0.by_hold;
            by_transit = r.claims.0.by_transit;
            by_down = r.claims.0.by_down;
            by_full = r.claims.0.by_full;
          },
          r.claims.1,
        );
      }
  held_or_ends Ending why version p ls xs a i =
      let r = chosen_ends Ending version p ls xs a i in
      record {
        verdict = r.verdict;
        out = r.out;
        lines = r.lines;
        claims = (
          record {
            by_clash = r.claims.0.by_clash;
            by_hold = r.claims.0.by_hold;
            by_transit = r.claims.0.by_transit;
            by_down = r.claims.0.by_down;
            by_full = r.claims.0.by_full;
          },
          r.claims.1,
        );
      }

  -- ---- nothing matched

  -- by these places of the filter, of an address in this phase
  abbrev TellsMissed : Bool → Bool → Bool → (List ℕ → Bool) → Verdict → Told → Type 0
  TellsMissed opener holding transit set u t =
      TellsUnmatched opener false (holding && says_empty t.cell) (transit && (set t.filter && says_empty t.cell)) u t

  filter_step : (k : Kind) (rest : List ℕ) (set : Bool)
      → EndsFrom k (filtering (flight k) rest) (TellsMissed (is_opener k) false true (all_set rest))
      → EndsFrom k (filtered (flight k) rest set) (TellsMissed (is_opener k) false true (λ words. set && all_set rest words))
  filter_step k rest true go p ls xs a i = go p ls xs a i
  filter_step k rest false go p ls xs a i = chosen_ends k vip.next p ls xs a i

  filtering_ends : (k : Kind) (bits : List ℕ)
      → EndsFrom k (filtering (flight k) bits) (TellsMissed (is_opener k) false true (all_set bits))
  filtering_ends k [] p ls xs a i = held_or_ends k by.Transit vip.cur p ls xs a i
  filtering_ends k (bit ∷ rest) p ls [] a i = cc
  filtering_ends k (bit ∷ rest) p ls (x ∷ xs) a i =
      let r = filter_step k rest (has_bit bit x) (filtering_ends k rest) p ls xs a.1 i in
      record {
        verdict = r.verdict;
        out = r.out;
        lines = r.lines;
        claims = (
          record {
            by_clash = r.claims.0.by_clash;
            by_hold = r.claims.0.by_hold;
            by_transit = r.claims.0.by_transit;
            by_down = r.claims.0.by_down;
            by_full = r.claims.0.by_full;
          },
          r.claims.1,
        );
      }

  missed_ends : (k : Kind) (phase : Phase)
      → EndsFrom k (missed_in l (flight k) phase)
      (TellsMissed (is_opener k) (is_holding phase) (is_transit phase) (all_set (key_bits l key)))
  missed_ends k Steady p ls xs a i = chosen_ends k vip.cur p ls xs a i
  missed_ends k Recording p ls xs a i = chosen_ends k vip.cur p ls xs a i
  missed_ends k Holding p ls xs a i = held_or_ends k by.Hold vip.cur p ls xs a i
  missed_ends k Transit p ls xs a i = filtering_ends k (key_bits l key) p ls xs a i

  -- ---- the places of the key

  -- this is true of whether a place matched from here on
  abbrev TellsLooked : Bool → (Bool → Bool) → Verdict → Told → Type 0
  TellsLooked opener matched u t =
      Tells opener (matched t.matched && says_empty t.cell)
      (not (matched t.matched) && (is_holding vip.phase && says_empty t.cell))
      (not (matched t.matched) && (is_transit vip.phase && (all_set (key_bits l key) t.filter && says_empty t.cell))) u t

  look_step : (k : Kind) (place : Place) (rest : List Place) (s : Said)
      → EndsFrom k (looking l (flight k) rest) (TellsLooked (is_opener k) (λ m. m))
      → EndsFrom k (looked l (flight k) place rest s) (TellsLooked (is_opener k) (λ m. is_match s || m))
  look_step k place rest said.Nothing go p ls xs a i = go p ls xs a i
  look_step Opener place rest said.Reserved go p ls xs a i =
      let r = held_ends by.Clash p ls xs a i in
      record {
        verdict = r.verdict;
        out = r.out;
        lines = r.lines;
        claims = record {
          by_clash = r.claims.0.by_clash;
          by_hold = r.claims.0.by_hold;
          by_transit = r.claims.0.by_transit;
          by_down = r.claims.0.by_down;
          by_full = r.claims.0.by_full;
        };
      }
  look_step Carry place rest said.Reserved go p ls xs a i =
      let r = go p ls xs a i in
      record {
        verdict = r.verdict;
        out = r.out;
        lines = r.lines;
        claims = record {
          by_clash = r.claims.by_clash;
          by_hold = r.claims.by_hold;
          by_transit = r.claims.by_transit;
          by_down = r.claims.by_down;
          by_full = r.claims.by_full;
        };
      }
  look_step Ending place rest said.Reserved go p ls xs a i =
      let r = go p ls xs a i in
      record {
        verdict = r.verdict;
        out = r.out;
        lines = r.lines;
        claims = record {
          by_clash = r.claims.by_clash;
          by_hold = r.claims.by_hold;
          by_transit = r.claims.by_transit;
          by_down = r.claims.by_down;
          by_full = r.claims.by_full;
        };
      }
  look_step k place rest (said.Live version) go p ls [] a i = cc
  look_step k place rest (said.Live version) go p ls (x ∷ xs) a i =
      let r = held_or_ends k by.Clash version p ls xs a.1 i in
      record {
        verdict = r.verdict;
        out = r.out;
        lines = r.lines;
        claims = record {
          by_clash = r.claims.0.by_clash;
          by_hold = r.claims.0.by_hold;
          by_transit = r.claims.0.by_transit;
          by_down = r.claims.0.by_down;
          by_full = r.claims.0.by_full;
        };
      }

  looking_ends : (k : Kind) (places : List Place)
      → EndsFrom k (looking l (flight k) places) (TellsLooked (is_opener k) (λ m. m))
  looking_ends k [] p ls xs a i =
      let r = missed_ends k vip.phase p ls xs a i in
      let t = told_by l key (steps_made l (fly k (missed_in l (flight k) vip.phase) p ls) xs) in
      record {
        verdict = r.verdict;
        out = r.out;
        lines = r.lines;
        claims = record {
          by_clash = r.claims.0.by_clash ∙ ap (λ m. is_opener k && (m && says_empty t.cell)) (sym r.claims.1);
          by_hold =
              r.claims.0.by_hold
              ∙ ap (λ m. is_opener k && (not m && (is_holding vip.phase && says_empty t.cell))) (sym r.claims.1);
          by_transit =
              r.claims.0.by_transit
              ∙ ap (λ m. is_opener k && (not m && (is_transit vip.phase && (all_set (key_bits l key) t.filter && says_empty t.cell))))
              (sym r.claims.1);
          by_down = r.claims.0.by_down;
          by_full = r.claims.0.by_full;
        };
      }
  looking_ends k (place ∷ rest) p ls [] a i = cc
  looking_ends k (place ∷ rest) p ls (x ∷ xs) a i =
      let r = look_step k place rest (says l place key x) (looking_ends k rest) p ls xs a.1 i in
      record {
        verdict = r.verdict;
        out = r.out;
        lines = r.lines;
        claims = record {
          by_clash = r.claims.by_clash;
          by_hold = r.claims.by_hold;
          by_transit = r.claims.by_transit;
          by_down = r.claims.by_down;
          by_full = r.claims.by_full;
        };
      }

-- ---- the whole packet

-- A packet that entered and has made its last step has its line, with a verdict that has its cause.
pub record HasLeft (l : LayoutView) (packet : Packet) (v : PipeView) (xs : List ℕ) : Type 0 where
  pub verdict : Verdict
  pub entered : ℕ
  pub out : ℕ
  pub lines : (view_after_all l (with_packet packet v) xs).lines
      ≡ v.lines ++ line.Packet packet.number entered out v.number packet.key packet.kind verdict ∷ []
  pub cause : HasCause l packet (told_by l packet.key (steps_made l (with_packet packet v) xs)) verdict

pub has_left : (l : LayoutView) (packet : Packet) (v : PipeView) (xs : List ℕ) → AreSteps l (with_packet packet v) xs
    → is_idle (view_after_all l (with_packet packet v) xs).stage ≡ true → HasLeft l packet v xs
has_left l packet v [] a i = cc
has_left l packet v (x ∷ []) a i = cc
has_left l packet v (x ∷ y ∷ []) a i = cc
has_left l packet v (x ∷ y ∷ z ∷ xs) a i =
    let r = looking_ends l v.number packet.number packet.key x (read_vip l z) packet.kind (key_places l packet.key) v.pushed v.lines xs
    a.1.1.1 i in
    record {
      verdict = r.verdict;
      entered = x;
      out = r.out;
      lines = r.lines;
      cause = record {
        clash = r.claims.by_clash;
        hold = r.claims.by_hold;
        transit = r.claims.by_transit;
        down = r.claims.by_down;
        full = r.claims.by_full;
      };
    }

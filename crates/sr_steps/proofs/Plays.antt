-- What events, turns and picks make of a held machine.
use Rattle.std.proofs.Common.{◌≡◌, ◌∙◌, ℕ, zero, suc, ◌+◌, ◌%◌, ◌<◌, ◌≤◌, nat_eq, Bool, true, false, not, find, List, [], ◌∷◌, ◌++◌, length, drop, Option, None, Some, refl, sym, ap, subst, unwrap_or, slice_get, slice_set, arith, get_or, MatchOption}
use Rattle.std.proofs.lemmas.Bool.Decides.{nat_tests}
use Rattle.std.proofs.lemmas.Option.{slice_get_past, slice_get_read}
use Rattle.sr_base.specs.declared.packet.Packet.{Packet}
use Rattle.sr_core.specs.HeldCore.{HeldCore, MakesStep, Shows, StepsTo, state_of}
use Rattle.sr_core.specs.PlainWords.{ShowsWords}
use Rattle.sr_machine.specs.Controller.{controller_op}
use Rattle.sr_machine.specs.Core.{Core}
use Rattle.sr_machine.specs.Turning.{controlled, turn_of_op}
use Rattle.sr_machine.specs.declared.name.Name.{Name}
use Rattle.sr_machine.specs.declared.op.Op.{Op}
use Rattle.sr_machine.specs.declared.stepped.Stepped.TheVariants.{Made, NotNow}
use Rattle.sr_machine.specs.declared.turn.Turn.{Turn}
use Rattle.sr_base.specs.WordName.{word_at}
use Rattle.sr_gen.specs.Generator.{drawn, next_state}
use Rattle.sr_machine.specs.Names.{word_name}
use Rattle.sr_picks.proofs.Lowers.{picks_lower}
use Rattle.sr_picks.proofs.Acts.{acted_on}
use Rattle.sr_picks.proofs.Picked.{found_goes_on, none_found, none_picked}
use Rattle.sr_picks.specs.Left.{left_of}
use Rattle.sr_core.specs.HeldPipes.{idle_of, is_idle_at}
use Rattle.sr_machine.specs.declared.actor.Actor.TheVariants as actor
use Rattle.sr_machine.specs.declared.event.Event.{Event}
use Rattle.sr_machine.specs.declared.event.Event.TheVariants.{Enter, Step}
use Rattle.sr_machine.specs.declared.pipe_view.PipeView.{PipeView}
use Rattle.sr_picks.specs.Play.{ActsTo, Play, PlaysTo, act_of, acted, all_done, controller_picked, finds_nothing, has_ended, is_handled, order_from, pick, pick_by, picked, pipe_idle, pipe_picked, played, share_of, stepped_by, waits_after}
use Rattle.sr_picks.specs.Turn.{Turned, after, ended_or, turn_in, turn_of, turn_on}
use Rattle.sr_steps.specs.Standing.{EventMade, EventsMade, PlayMade, StandingView, StandsForPlay, TakesAt, TakesFrom, no_words, play_of}

-- ---- an event

-- two events, one after the other
pub events_made : (first second : Event) (old mid new : HeldCore) → EventMade first old mid → EventMade second mid new
    → EventsMade first second old new
events_made first second old mid new one two words shows =
    let there = one words shows in
    subst (λ s. Shows new (after second s)) (sym there.2) (two there.0 there.1)

pub event_made : (o : Option Core) (s : Core) (old new : HeldCore) → StepsTo Made o old new → Shows new (unwrap_or o s)
event_made None s old new h = absurd h
event_made (Some t) s old new h = h

pub event_missed : (o : Option Core) (old new : HeldCore) (words : Name → ℕ) → ShowsWords old.config.layout old.words words
    → StepsTo NotNow o old new → Shows new (unwrap_or o (state_of old words))
event_missed None old new words shows h = subst (λ n. Shows n (state_of old words)) (sym h) (words, shows, refl)
event_missed (Some t) old new words shows h = absurd h

-- ---- a turn

-- the turn so far came to this, and goes on with so many steps
abbrev pub TurnGoes : Turned → ℕ → HeldCore → Type 0
TurnGoes t n h = (words : Name → ℕ) × ShowsWords h.config.layout h.words words × (t ≡ turn_in n (state_of h words))

goes_by : (n : ℕ) (s : Core) (new : HeldCore) (o : Option Op) → MakesStep None s o new → TurnGoes (turn_on s (turn_in n) o) n new
goes_by n s new None h = absurd h
goes_by n s new (Some o) h =
    (h.1.0, h.1.1, ap (λ e. ended_or (controlled s o) e (turn_in n (controlled s o))) h.0 ∙ ap (turn_in n) h.1.2)

pub goes_on : (t : Turned) (m n : ℕ) (h new : HeldCore) → m ≡ suc n → TurnGoes t m h
    → ((words : Name → ℕ) → ShowsWords h.config.layout h.words words
    → MakesStep None (state_of h words) (controller_op h.config h.controller) new)
    → TurnGoes t n new
goes_on t m n h new more g step =
    let on = goes_by n (state_of h g.0) new (controller_op h.config h.controller) (step g.0 g.1) in
    (on.0, on.1, g.2 ∙ ap (λ k. turn_in k (state_of h g.0)) more ∙ on.2)

ends_by : (n : ℕ) (a : Turn) (s : Core) (new : HeldCore) (o : Option Op) → MakesStep (Some a) s o new
    → ((turn_on s (turn_in n) o).answer ≡ Some a) × Shows new (turn_on s (turn_in n) o).state
ends_by n a s new None h = absurd h
ends_by n a s new (Some o) h =
    let is : ended_or (controlled s o) (turn_of_op s o) (turn_in n (controlled s o)) ≡ record { answer = Some a; state = controlled s o } =
    ap (λ e. ended_or (controlled s o) e (turn_in n (controlled s o))) h.0 in
    (ap (λ r. r.answer) is, subst (Shows new) (sym (ap (λ r. r.state) is)) h.1)

pub ends_at : (t : Turned) (m n : ℕ) (h new : HeldCore) (a : Turn) → m ≡ suc n → TurnGoes t m h
    → ((words : Name → ℕ) → ShowsWords h.config.layout h.words words
    → MakesStep (Some a) (state_of h words) (controller_op h.config h.controller) new)
    → (t.answer ≡ Some a) × Shows new t.state
ends_at t m n h new a more g step =
    let end = ends_by n a (state_of h g.0) new (controller_op h.config h.controller) (step g.0 g.1) in
    let is : t ≡ turn_in (suc n) (state_of h g.0) = g.2 ∙ ap (λ k. turn_in k (state_of h g.0)) more in
    (ap (λ r. r.answer) is ∙ end.0, subst (Shows new) (sym (ap (λ r. r.state) is)) end.1)

pub stops_at : (t : Turned) (m n : ℕ) (h new : HeldCore) → m ≡ suc n → TurnGoes t m h
    → ((words : Name → ℕ) → ShowsWords h.config.layout h.words words → (controller_op h.config h.controller ≡ None) × (new ≡ h))
    → (t.answer ≡ None) × Shows new t.state
stops_at t m n h new more g step =
    let none = step g.0 g.1 in
    let is : t ≡ record { answer = None; state = state_of h g.0 } =
    g.2 ∙ ap (λ k. turn_in k (state_of h g.0)) more ∙ ap (turn_on (state_of h g.0) (turn_in n)) none.0 in (
      ap (λ r. r.answer) is,
      subst (λ r. Shows r t.state) (sym none.1) (subst (Shows h) (sym (ap (λ r. r.state) is)) (g.0, g.1, refl)),
    )

-- ---- a pick

pub turned_play : (h new : HeldCore) (was is : StandingView) (words : Name → ℕ) (answer : Option Turn) (done nothing : Bool)
    → ((turn_of (state_of h words)).answer ≡ answer) × Shows new (turn_of (state_of h words)).state
    → done ≡ all_done h.pipes was.shares → nothing ≡ finds_nothing answer
    → is ≡ record was { turns = was.turns + 1; waits = waits_after done nothing was.waits }
    → StandsForPlay new is (controller_picked (play_of h words was))
turned_play h new was is words answer done nothing made d n e = (
  made.1.0,
  made.1.1,
  ap (λ s. record { state = s; shares = was.shares; turns = was.turns + 1; waits = waits_after (all_done h.pipes was.shares) (finds_nothing (turn_of (state_of h words)).answer) was.waits; generator = was.generator }) made.1.2
      ∙ ap (λ a. record { state = state_of new made.1.0; shares = was.shares; turns = was.turns + 1; waits = waits_after (all_done h.pipes was.shares) (finds_nothing a) was.waits; generator = was.generator }) made.0
      ∙ ap (λ b. record { state = state_of new made.1.0; shares = was.shares; turns = was.turns + 1; waits = waits_after (all_done h.pipes was.shares) b was.waits; generator = was.generator }) (sym n)
      ∙ ap (λ b. record { state = state_of new made.1.0; shares = was.shares; turns = was.turns + 1; waits = waits_after b nothing was.waits; generator = was.generator }) (sym d)
      ∙ ap (λ r. play_of new made.1.0 r) (sym e),
)

idle_same : (o : Option PipeView) → idle_of o ≡ pipe_idle o
idle_same None = refl
idle_same (Some v) = refl

-- a pipe's step alone
stepped_play : (h new : HeldCore) (was : StandingView) (words : Name → ℕ) (pipe : ℕ)
    → Shows new (after (Step (actor.Pipe pipe)) (state_of h words))
    → StandsForPlay new was (record (play_of h words was) { state = after (Step (actor.Pipe pipe)) (state_of h words) })
stepped_play h new was words pipe made = (made.0, made.1, ap (λ s. record (play_of h words was) { state = s }) made.2)

pub busy_play : (h new : HeldCore) (was : StandingView) (words : Name → ℕ) (pipe : ℕ) → is_idle_at pipe h.pipes ≡ false
    → Shows new (after (Step (actor.Pipe pipe)) (state_of h words))
    → StandsForPlay new was (pipe_picked (play_of h words was) pipe)
busy_play h new was words pipe busy made =
    subst (λ b. StandsForPlay new was (stepped_by (play_of h words was) pipe b (share_of (slice_get was.shares pipe))))
    (sym (sym (idle_same (slice_get h.pipes pipe)) ∙ busy)) (stepped_play h new was words pipe made)

pub empty_play : (h new : HeldCore) (was is : StandingView) (words : Name → ℕ) (pipe : ℕ) → is_idle_at pipe h.pipes ≡ true
    → TakesFrom None pipe was is → Shows new (after (Step (actor.Pipe pipe)) (state_of h words))
    → StandsForPlay new is (pipe_picked (play_of h words was) pipe)
empty_play h new was is words pipe idle taken made =
    subst (λ r. StandsForPlay new r (pipe_picked (play_of h words was) pipe)) (same_standing was is taken)
    (subst (λ b. StandsForPlay new was (stepped_by (play_of h words was) pipe b (share_of (slice_get was.shares pipe))))
    (sym (sym (idle_same (slice_get h.pipes pipe)) ∙ idle))
    (subst (λ x. StandsForPlay new was (stepped_by (play_of h words was) pipe true x)) (sym taken.0.0) (stepped_play h new was words pipe made)))
  where
    same_standing : (was is : StandingView) → TakesFrom None pipe was is → was ≡ is
    same_standing was is taken =
        ap (λ x. record { shares = x; turns = was.turns; waits = was.waits; generator = was.generator }) (sym taken.0.1)
        ∙ ap (λ x. record { shares = is.shares; turns = x; waits = was.waits; generator = was.generator }) (sym taken.1)
        ∙ ap (λ x. record { shares = is.shares; turns = is.turns; waits = x; generator = was.generator }) (sym taken.2)
        ∙ ap (λ x. record { shares = is.shares; turns = is.turns; waits = is.waits; generator = x }) (sym taken.3)

pub taken_play : (h new : HeldCore) (was is : StandingView) (words : Name → ℕ) (pipe : ℕ) (packet : Packet) → is_idle_at pipe h.pipes ≡ true
    → TakesFrom (Some packet) pipe was is
    → Shows new (after (Step (actor.Pipe pipe)) (after (Enter pipe packet) (state_of h words)))
    → StandsForPlay new is (pipe_picked (play_of h words was) pipe)
taken_play h new was is words pipe packet idle taken made =
    subst (λ b. StandsForPlay new is (stepped_by (play_of h words was) pipe b (share_of (slice_get was.shares pipe))))
    (sym (sym (idle_same (slice_get h.pipes pipe)) ∙ idle))
    (subst (λ x. StandsForPlay new is (stepped_by (play_of h words was) pipe true x)) (sym taken.0.1) (
      made.0,
      made.1,
      ap (λ s. record { state = s; shares = slice_set was.shares pipe taken.0.0; turns = was.turns; waits = was.waits; generator = was.generator }) made.2
          ∙ ap (λ x. record { state = state_of new made.0; shares = x; turns = was.turns; waits = was.waits; generator = was.generator }) (sym taken.0.2)
          ∙ ap (λ x. record { state = state_of new made.0; shares = is.shares; turns = x; waits = was.waits; generator = was.generator }) (sym taken.1)
          ∙ ap (λ x. record { state = state_of new made.0; shares = is.shares; turns = is.turns; waits = x; generator = was.generator }) (sym taken.2)
          ∙ ap (λ x. record { state = state_of new made.0; shares = is.shares; turns = is.turns; waits = is.waits; generator = x }) (sym taken.3),
    ))

-- ---- a share

pub handled_at : (xs : List Packet) (n : ℕ) → n ≤ length xs → nat_eq n (length xs) ≡ is_handled (drop n xs)
handled_at [] zero h = refl
handled_at [] (suc n) h = absurd (omega (arith, h))
handled_at (x ∷ xs) zero h = grind (arith, nat_tests)
handled_at (x ∷ xs) (suc n) h =
    let same : nat_eq (suc n) (length (x ∷ xs)) ≡ nat_eq n (length xs) = grind (arith, nat_tests) in
    same ∙ handled_at xs n (omega (arith, h))

set_there : {A : Type 0} → (xs : List A) (i : ℕ) (x : A) → i < length xs → x ≡ get_or xs i x → slice_set xs i x ≡ xs
set_there [] i x h e = refl
set_there (y ∷ ys) zero x h e = ap (λ z. z ∷ ys) e
set_there (y ∷ ys) (suc i) x h e = ap (λ zs. y ∷ zs) (set_there ys i x (omega (arith, h)) e)

-- a packet is taken from the share of this number
pub share_past : (shares : List (List Packet)) (pipe : ℕ) → length shares ≤ pipe → TakesAt None pipe shares shares
share_past shares pipe h = (ap share_of (slice_get_past shares pipe h), refl)

pub share_there : (shares : List (List Packet)) (pipe : ℕ) (share : List Packet) → pipe < length shares → share ≡ get_or shares pipe share
    → share_of (slice_get shares pipe) ≡ share
share_there shares pipe share h is = ap share_of (slice_get_read shares (length shares) pipe share refl h is)

pub takes_there : (shares : List (List Packet)) (pipe : ℕ) (share new : List Packet) (packet : Option Packet) → pipe < length shares
    → share ≡ get_or shares pipe share
    → MatchOption packet ((share ≡ []) × (new ≡ [])) (λ p. share ≡ p ∷ new)
    → TakesAt packet pipe shares (slice_set shares pipe new)
takes_there shares pipe share new None h is e = (
  share_there shares pipe share h is ∙ e.0,
  ap (slice_set shares pipe) (e.1 ∙ sym e.0) ∙ set_there shares pipe share h is,
)
takes_there shares pipe share new (Some p) h is e = (new, share_there shares pipe share h is ∙ e, refl)

-- ---- picks, one after another

-- the words of a held machine, by their names
own_words : HeldCore → Name → ℕ
own_words h name = word_at h.config.layout h.words (word_name name)

own_shown : (h : HeldCore) → ShowsWords h.config.layout h.words (own_words h)
unfolding own_words
own_shown h name has = refl

pub picked_is : (h : HeldCore) (st : StandingView) (x d g pipes : ℕ) (o : Option ℕ) → g ≡ st.generator → x ≡ next_state g → d ≡ drawn x
    → pipes ≡ h.config.layout.shape.pipes
    → o ≡ find (λ i. not (has_ended (play_of h no_words st) i)) (order_from h.config.layout.shape.pipes (d % (pipes + 1)))
    → picked (play_of h no_words st) (next_state st.generator) ≡ o
picked_is h st x d g pipes o at step draw many e =
    let first : drawn (next_state st.generator) % (h.config.layout.shape.pipes + 1) ≡ d % (pipes + 1) =
    ap (λ y. drawn (next_state y) % (h.config.layout.shape.pipes + 1)) (sym at)
    ∙ ap (λ y. drawn y % (h.config.layout.shape.pipes + 1)) (sym step)
    ∙ ap (λ y. y % (h.config.layout.shape.pipes + 1)) (sym draw)
    ∙ ap (λ y. d % (y + 1)) (sym many) in
    ap (λ f. find (λ i. not (has_ended (play_of h no_words st) i)) (order_from h.config.layout.shape.pipes f)) first ∙ sym e

-- a pick lowers what is left
pub lowers_play : (h new : HeldCore) (st made is : StandingView) (x i : ℕ) → has_ended (play_of h no_words st) i ≡ false
    → PlayMade (λ p. act_of p i) h st new made → is ≡ record made { generator = x }
    → left_of (play_of new no_words is) < left_of (play_of h no_words st)
lowers_play h new st made is x i going acts e =
    let there = acts (own_words h) (own_shown h) in
    let lower : left_of (act_of (play_of h (own_words h) st) i) < left_of (play_of h (own_words h) st) =
    picks_lower (play_of h (own_words h) st) i going in
    let same : left_of (act_of (play_of h (own_words h) st) i) ≡ left_of (play_of new no_words made) = ap left_of there.2 in
    let standing : left_of (play_of new no_words is) ≡ left_of (play_of new no_words made) =
    ap (λ r. left_of (play_of new no_words r)) e in
    omega (arith, lower, same, standing)

played_more : (n : ℕ) (p : Play) → played (suc n) p ≡ pick (played n p)
played_more zero p = refl
played_more (suc n) p = played_more n (pick p)

-- and is one pick more
pub plays_on : (p : Play) (n : ℕ) (h new : HeldCore) (st made is : StandingView) (now : Name → ℕ) (x i : ℕ)
    → ShowsWords h.config.layout h.words now → played n p ≡ play_of h now st
    → picked (play_of h no_words st) (next_state st.generator) ≡ Some i
    → PlayMade (λ q. act_of q i) h st new made → x ≡ next_state st.generator → is ≡ record made { generator = x }
    → (m : ℕ) × (then_words : Name → ℕ) × ShowsWords new.config.layout new.words then_words
    × (played m p ≡ play_of new then_words is)
plays_on p n h new st made is now x i shows so_far chosen acts step e =
    let there = acts now shows in (
      suc n,
      there.0,
      there.1,
      played_more n p ∙ ap pick so_far
          ∙ ap (pick_by (play_of h now st) (next_state st.generator)) chosen
          ∙ ap (λ (q : Play). record q { generator = next_state st.generator }) there.2
          ∙ ap (λ g. play_of new there.0 (record made { generator = g })) (sym step)
          ∙ ap (play_of new there.0) (sym e),
    )

-- where nobody is picked the round is over
pub plays_over : (p : Play) (h : HeldCore) (st : StandingView)
    → ((n : ℕ) × (now : Name → ℕ) × ShowsWords h.config.layout h.words now × (played n p ≡ play_of h now st))
    → picked (play_of h no_words st) (next_state st.generator) ≡ None
    → (q : Play) × PlaysTo p q × StandsForPlay h st q
plays_over p h st so_far none = (
  play_of h so_far.1 st,
  (so_far.0, so_far.3, none_picked (play_of h so_far.1 st) (next_state st.generator) none),
  (so_far.1, so_far.2, refl),
)

-- ---- acts in order, one after another

-- the first actor that goes on is found, whatever the words
pub first_goes_on : (h : HeldCore) (st : StandingView) (i : ℕ)
    → Some i ≡ find (λ j. not (has_ended (play_of h no_words st) j)) (order_from h.config.layout.shape.pipes 0)
    → has_ended (play_of h no_words st) i ≡ false
first_goes_on h st i e = found_goes_on (play_of h no_words st) 0 i (sym e)

pub acts_on : (p : Play) (actors : List ℕ) (h new : HeldCore) (st is : StandingView) (now : Name → ℕ) (i : ℕ)
    → ShowsWords h.config.layout h.words now → acted actors p ≡ play_of h now st → PlayMade (λ q. act_of q i) h st new is
    → (more : List ℕ) × (then_words : Name → ℕ) × ShowsWords new.config.layout new.words then_words
    × (acted more p ≡ play_of new then_words is)
acts_on p actors h new st is now i shows so_far acts =
    let there = acts now shows in
    (actors ++ i ∷ [], there.0, there.1, acted_on actors (i ∷ []) p ∙ ap (λ q. act_of q i) so_far ∙ there.2)

pub acts_over : (p : Play) (h : HeldCore) (st : StandingView)
    → ((actors : List ℕ) × (now : Name → ℕ) × ShowsWords h.config.layout h.words now × (acted actors p ≡ play_of h now st))
    → None ≡ find (λ j. not (has_ended (play_of h no_words st) j)) (order_from h.config.layout.shape.pipes 0)
    → (q : Play) × ActsTo p q × StandsForPlay h st q
acts_over p h st so_far e = (
  play_of h so_far.1 st,
  (so_far.0, so_far.3, none_found (play_of h so_far.1 st) 0 (omega arith) (sym e)),
  (so_far.1, so_far.2, refl),
)

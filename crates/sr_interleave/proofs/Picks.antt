-- What acts and picks make of a round on the plain words.
use Rattle.std.proofs.Common.{◌≡◌, ◌∙◌, ℕ, zero, suc, ◌+◌, ◌%◌, ◌<◌, ◌≤◌, Bool, true, false, not, find, List, [], ◌∷◌, length, Option, None, Some, refl, sym, ap, subst, slice_get, slice_set, arith, get_or, MatchOption}
use Rattle.std.proofs.lemmas.Option.{slice_get_past, slice_get_read}
use Rattle.sr_base.specs.WordName.{word_at}
use Rattle.sr_base.specs.declared.packet.Packet.{Packet}
use Rattle.sr_core.specs.HeldCore.{HeldCore, Shows, state_of}
use Rattle.sr_core.specs.HeldPipe.{HeldPipe}
use Rattle.sr_core.specs.HeldPipes.{views_of}
use Rattle.sr_core.specs.PlainWords.{HeldWords, ShowsWords}
use Rattle.sr_ctl.specs.SeenController.{SeenController}
use Rattle.sr_gen.specs.Generator.{drawn, next_state}
use Rattle.sr_interleave.specs.Acting.{BothMadeOn, MadeOn, TurnMadeOn}
use Rattle.sr_interleave.specs.Standing.{PlayMade, StandingView, StandsForPlay, TakesAt, TakesFrom, no_words, play_of, seen_play}
use Rattle.sr_interleave.specs.Together.{held}
use Rattle.sr_machine.specs.Names.{word_name}
use Rattle.sr_machine.specs.declared.actor.Actor.TheVariants as actor
use Rattle.sr_machine.specs.declared.event.Event.TheVariants.{Enter, Step}
use Rattle.sr_machine.specs.declared.name.Name.{Name}
use Rattle.sr_picks.proofs.Lowers.{picks_lower}
use Rattle.sr_picks.proofs.Picked.{none_picked}
use Rattle.sr_picks.specs.Left.{left_of}
use Rattle.sr_picks.specs.Play.{Play, PlaysTo, act_of, all_done, controller_picked, finds_nothing, has_ended, order_from, pick, pick_by, picked, pipe_idle, pipe_picked, played, share_of, stepped_by, waits_after}
use Rattle.sr_picks.specs.Turn.{after, turn_of}

-- ---- an act

-- a turn, where the round counts it
pub turned_play : (board new : HeldWords) (ps : List HeldPipe) (c d : SeenController) (was is : StandingView) (done nothing : Bool)
    → TurnMadeOn nothing board c new d → done ≡ all_done (views_of ps) was.shares
    → is ≡ record was { turns = was.turns + 1; waits = waits_after done nothing was.waits }
    → PlayMade controller_picked (held board ps c) was (held new ps d) is
turned_play board new ps c d was is done nothing made dn e words shows =
    let turn = made.turn ps words shows in
    let h = held board ps c in
    let last = held new ps d in (
      turn.1.0,
      turn.1.1,
      ap (λ s. record { state = s; shares = was.shares; turns = was.turns + 1; waits = waits_after (all_done h.pipes was.shares) (finds_nothing (turn_of (state_of h words)).answer) was.waits; generator = was.generator }) turn.1.2
          ∙ ap (λ a. record { state = state_of last turn.1.0; shares = was.shares; turns = was.turns + 1; waits = waits_after (all_done h.pipes was.shares) (finds_nothing a) was.waits; generator = was.generator }) turn.0
          ∙ ap (λ b. record { state = state_of last turn.1.0; shares = was.shares; turns = was.turns + 1; waits = waits_after (all_done h.pipes was.shares) b was.waits; generator = was.generator }) (sym made.found)
          ∙ ap (λ b. record { state = state_of last turn.1.0; shares = was.shares; turns = was.turns + 1; waits = waits_after b nothing was.waits; generator = was.generator }) (sym dn)
          ∙ ap (λ r. play_of last turn.1.0 r) (sym e),
    )

-- nothing was taken
same_standing : (pipe : ℕ) (was is : StandingView) → TakesFrom None pipe was is → was ≡ is
same_standing pipe was is taken =
    ap (λ x. record { shares = x; turns = was.turns; waits = was.waits; generator = was.generator }) (sym taken.0.1)
    ∙ ap (λ x. record { shares = is.shares; turns = x; waits = was.waits; generator = was.generator }) (sym taken.1)
    ∙ ap (λ x. record { shares = is.shares; turns = is.turns; waits = x; generator = was.generator }) (sym taken.2)
    ∙ ap (λ x. record { shares = is.shares; turns = is.turns; waits = is.waits; generator = x }) (sym taken.3)

module _ (board new : HeldWords) (ps qs : List HeldPipe) (c : SeenController) (same : c.config.layout ≡ board.layout) (was : StandingView) (pipe : ℕ) where
  abbrev h : HeldCore
  h = held board ps c

  abbrev last : HeldCore
  last = held new qs c

  -- a pipe's step alone
  stepped_play : MadeOn (Step (actor.Pipe pipe)) board ps new qs → (words : Name → ℕ) → ShowsWords c.config.layout board.words words
      → StandsForPlay last was (record (play_of h words was) { state = after (Step (actor.Pipe pipe)) (state_of h words) })
  stepped_play steps words shows =
      let made = steps c same words shows in
      (made.0, made.1, ap (λ s. record (play_of h words was) { state = s }) made.2)

  pub busy_play : false ≡ pipe_idle (slice_get (views_of ps) pipe) → MadeOn (Step (actor.Pipe pipe)) board ps new qs
      → PlayMade (λ p. pipe_picked p pipe) h was last was
  busy_play busy made words shows =
      subst (λ b. StandsForPlay last was (stepped_by (play_of h words was) pipe b (share_of (slice_get was.shares pipe)))) busy
      (stepped_play made words shows)

  module _ (is : StandingView) (idle : true ≡ pipe_idle (slice_get (views_of ps) pipe)) where
    pub empty_play : TakesFrom None pipe was is → MadeOn (Step (actor.Pipe pipe)) board ps new qs
        → PlayMade (λ p. pipe_picked p pipe) h was last is
    empty_play taken made words shows =
        subst (λ r. StandsForPlay last r (pipe_picked (play_of h words was) pipe)) (same_standing pipe was is taken)
        (subst (λ b. StandsForPlay last was (stepped_by (play_of h words was) pipe b (share_of (slice_get was.shares pipe)))) idle
        (subst (λ x. StandsForPlay last was (stepped_by (play_of h words was) pipe true x)) (sym taken.0.0) (stepped_play made words shows)))

    pub taken_play : (packet : Packet) → TakesFrom (Some packet) pipe was is
        → BothMadeOn (Enter pipe packet) (Step (actor.Pipe pipe)) board ps new qs
        → PlayMade (λ p. pipe_picked p pipe) h was last is
    taken_play packet taken both words shows =
        let made = both c same words shows in
        subst (λ b. StandsForPlay last is (stepped_by (play_of h words was) pipe b (share_of (slice_get was.shares pipe)))) idle
        (subst (λ x. StandsForPlay last is (stepped_by (play_of h words was) pipe true x)) (sym taken.0.1) (
          made.0,
          made.1,
          ap (λ s. record { state = s; shares = slice_set was.shares pipe taken.0.0; turns = was.turns; waits = was.waits; generator = was.generator }) made.2
              ∙ ap (λ x. record { state = state_of last made.0; shares = x; turns = was.turns; waits = was.waits; generator = was.generator }) (sym taken.0.2)
              ∙ ap (λ x. record { state = state_of last made.0; shares = is.shares; turns = x; waits = was.waits; generator = was.generator }) (sym taken.1)
              ∙ ap (λ x. record { state = state_of last made.0; shares = is.shares; turns = is.turns; waits = x; generator = was.generator }) (sym taken.2)
              ∙ ap (λ x. record { state = state_of last made.0; shares = is.shares; turns = is.turns; waits = is.waits; generator = x }) (sym taken.3),
        ))

-- what the pipes know is all of them that the machine has
pub held_same : (board new : HeldWords) (ps qs : List HeldPipe) (c : SeenController) → (new ≡ board) × (views_of qs ≡ views_of ps)
    → held new qs c ≡ held board ps c
held_same board new ps qs c e =
    ap (λ (w : HeldWords). record (held w qs c) { words = w.words }) e.0 ∙ ap (λ vs. record (held board ps c) { pipes = vs }) e.1

pub held_turned : (board new : HeldWords) (ps : List HeldPipe) (c d : SeenController) → (new ≡ board) × (d ≡ c)
    → held new ps d ≡ held board ps c
held_turned board new ps c d e = ap (λ (w : HeldWords). held w ps d) e.0 ∙ ap (held board ps) e.1

-- ---- a share

share_there : (shares : List (List Packet)) (pipe : ℕ) (share : List Packet) → pipe < length shares → share ≡ get_or shares pipe share
    → share_of (slice_get shares pipe) ≡ share
share_there shares pipe share h is = ap share_of (slice_get_read shares (length shares) pipe share refl h is)

set_there : {A : Type 0} → (xs : List A) (i : ℕ) (x : A) → i < length xs → x ≡ get_or xs i x → slice_set xs i x ≡ xs
set_there [] i x h e = refl
set_there (y ∷ ys) zero x h e = ap (λ z. z ∷ ys) e
set_there (y ∷ ys) (suc i) x h e = ap (λ zs. y ∷ zs) (set_there ys i x (omega (arith, h)) e)

-- a packet is taken from the share of this number
pub share_past : (shares : List (List Packet)) (pipe : ℕ) → length shares ≤ pipe → TakesAt None pipe shares shares
share_past shares pipe h = (ap share_of (slice_get_past shares pipe h), refl)

pub takes_there : (shares : List (List Packet)) (pipe : ℕ) (share new : List Packet) (packet : Option Packet) → pipe < length shares
    → share ≡ get_or shares pipe share
    → MatchOption packet ((share ≡ []) × (new ≡ [])) (λ p. share ≡ p ∷ new)
    → TakesAt packet pipe shares (slice_set shares pipe new)
takes_there shares pipe share new None h is e = (
  share_there shares pipe share h is ∙ e.0,
  ap (slice_set shares pipe) (e.1 ∙ sym e.0) ∙ set_there shares pipe share h is,
)
takes_there shares pipe share new (Some p) h is e = (new, share_there shares pipe share h is ∙ e, refl)

-- ---- picks, one after another

-- the words of a held machine, by their names
own_words : HeldCore → Name → ℕ
own_words h name = word_at h.config.layout h.words (word_name name)

own_shown : (h : HeldCore) → ShowsWords h.config.layout h.words (own_words h)
unfolding own_words
own_shown h name has = refl

-- who is picked, as the round has it
pub picked_is : (ps : List HeldPipe) (c : SeenController) (st : StandingView) (g x d pipes : ℕ) (o : Option ℕ) → g ≡ st.generator
    → x ≡ next_state g → d ≡ drawn x → pipes ≡ c.config.layout.shape.pipes
    → o ≡ find (λ i. not (has_ended (seen_play ps c st) i)) (order_from c.config.layout.shape.pipes (d % (pipes + 1)))
    → picked (seen_play ps c st) (next_state st.generator) ≡ o
picked_is ps c st g x d pipes o at step draw many e =
    let first : drawn (next_state st.generator) % (c.config.layout.shape.pipes + 1) ≡ d % (pipes + 1) =
    ap (λ y. drawn (next_state y) % (c.config.layout.shape.pipes + 1)) (sym at)
    ∙ ap (λ y. drawn y % (c.config.layout.shape.pipes + 1)) (sym step)
    ∙ ap (λ y. y % (c.config.layout.shape.pipes + 1)) (sym draw)
    ∙ ap (λ y. d % (y + 1)) (sym many) in
    ap (λ f. find (λ i. not (has_ended (seen_play ps c st) i)) (order_from c.config.layout.shape.pipes f)) first ∙ sym e

-- a pick lowers what is left
pub lowers_play : (h new : HeldCore) (st made is : StandingView) (x i : ℕ) → has_ended (play_of h no_words st) i ≡ false
    → PlayMade (λ p. act_of p i) h st new made → is ≡ record made { generator = x }
    → left_of (play_of new no_words is) < left_of (play_of h no_words st)
lowers_play h new st made is x i going acts e =
    let there = acts (own_words h) (own_shown h) in
    let lower : left_of (act_of (play_of h (own_words h) st) i) < left_of (play_of h (own_words h) st) =
    picks_lower (play_of h (own_words h) st) i going in
    let same : left_of (act_of (play_of h (own_words h) st) i) ≡ left_of (play_of new no_words made) = ap left_of there.2 in
    let standing : left_of (play_of new no_words is) ≡ left_of (play_of new no_words made) =
    ap (λ r. left_of (play_of new no_words r)) e in
    omega (arith, lower, same, standing)

-- so many picks have led here
abbrev pub HavePicked : Play → HeldCore → StandingView → Type 0
HavePicked p h st = (n : ℕ) × (now : Name → ℕ) × ShowsWords h.config.layout h.words now × (played n p ≡ play_of h now st)

played_more : (n : ℕ) (p : Play) → played (suc n) p ≡ pick (played n p)
played_more zero p = refl
played_more (suc n) p = played_more n (pick p)

-- and one pick more
pub picks_on : (p : Play) (h new : HeldCore) (st made is : StandingView) (x i : ℕ) → HavePicked p h st
    → picked (play_of h no_words st) (next_state st.generator) ≡ Some i
    → PlayMade (λ q. act_of q i) h st new made → x ≡ next_state st.generator → is ≡ record made { generator = x }
    → HavePicked p new is
picks_on p h new st made is x i (n, now, shows, so_far) chosen acts step e =
    let there = acts now shows in (
      suc n,
      there.0,
      there.1,
      played_more n p ∙ ap pick so_far
          ∙ ap (pick_by (play_of h now st) (next_state st.generator)) chosen
          ∙ ap (λ (q : Play). record q { generator = next_state st.generator }) there.2
          ∙ ap (λ g. play_of new there.0 (record made { generator = g })) (sym step)
          ∙ ap (play_of new there.0) (sym e),
    )

-- where nobody is picked the round is over
pub picks_over : (p : Play) (h : HeldCore) (st : StandingView) → HavePicked p h st
    → picked (play_of h no_words st) (next_state st.generator) ≡ None
    → (q : Play) × PlaysTo p q × StandsForPlay h st q
picks_over p h st (n, now, shows, so_far) none = (
  play_of h now st,
  (n, so_far, none_picked (play_of h now st) (next_state st.generator) none),
  (now, shows, refl),
)

-- what whole picks have led to stays where an act failed
pub picks_stop : (p : Play) (h new : HeldCore) (st : StandingView) → HavePicked p h st → new ≡ h → (n : ℕ) × Shows new (played n p).state
picks_stop p h new st (n, now, shows, so_far) e =
    (n, subst (λ k. Shows k (played n p).state) (sym e) (now, shows, ap (λ (q : Play). q.state) so_far))

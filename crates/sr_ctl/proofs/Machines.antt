-- Turns on a board that shows the words of a state are the machine's turns from that state.
use Rattle.std.proofs.Common.{◌≡◌, ◌∙◌, ℕ, zero, suc, ◌+◌, ◌≤◌, ◌++◌, List, [], ◌∷◌, length, IsSome, Option, Some, None, option_and_then, option_map, refl, sym, ap, subst, arith}
use Rattle.std.proofs.lemmas.Option.{same_Some}
use Rattle.sr_core.specs.Making.{AnsweredBy, Made, made_before, words_after}
use Rattle.sr_ctl.proofs.Turning.{end_of, step_not_over}
use Rattle.sr_ctl.specs.Laws.{SettlesAsMachine, TurnsAsMachine, stepped_to}
use Rattle.sr_ctl.specs.Settles.{Ended, EndsSo, Turns, begin, more, next_view}
use Rattle.sr_ctl.specs.Steps.{AreSteps, steps_made}
use Rattle.sr_ctl.specs.Turned.{Turned}
use Rattle.sr_machine.specs.Config.{Config}
use Rattle.sr_machine.specs.Controller.{controller_after, controller_op}
use Rattle.sr_machine.specs.Core.{Core}
use Rattle.sr_machine.specs.Ops.{op_answer, op_name, op_words}
use Rattle.sr_machine.specs.Settling.{Follows, More, Over, OrRefusal, Settles, awaited, ending_of, follows, on_or, refused, settled_in}
use Rattle.sr_machine.specs.Telling.{told_to_refuse}
use Rattle.sr_machine.specs.Turning.{controlled, ends_with, most_steps, over_or, turn_by, turn_from, turn_of_op, turned, turned_in}
use Rattle.sr_machine.specs.declared.controller_view.ControllerView.{ControllerView}
use Rattle.sr_machine.specs.declared.name.Name.{Name}
use Rattle.sr_machine.specs.declared.op.Op.{Op}
use Rattle.sr_machine.specs.declared.settled.Settled.{Settled}
use Rattle.sr_machine.specs.declared.settled.Settled.TheVariants as settled
use Rattle.sr_machine.specs.declared.turn.Turn.{Turn}

-- ---- steps one after another

words_both : (words : Name → ℕ) (xs ys : List Made) → words_after words (xs ++ ys) ≡ words_after (words_after words xs) ys
words_both words [] ys = refl
words_both words (m ∷ xs) ys = words_both (op_words words m.op) xs ys

answered_first : (words : Name → ℕ) (xs ys : List Made) → AnsweredBy words (xs ++ ys) → AnsweredBy words xs
answered_first words [] ys h = tt
answered_first words (m ∷ xs) ys h = (h.0, answered_first (op_words words m.op) xs ys h.1)

answered_rest : (words : Name → ℕ) (xs ys : List Made) → AnsweredBy words (xs ++ ys) → AnsweredBy (words_after words xs) ys
answered_rest words [] ys h = h
answered_rest words (m ∷ xs) ys h = answered_rest (op_words words m.op) xs ys h.1

-- ---- a turn

same_turn : (p q : Turn × ControllerView) → Some p ≡ Some q → (p.0 ≡ q.0) × (p.1 ≡ q.1)
same_turn p q e =
    let h : p ≡ q = same_Some p q e in
    (ap (λ (x : Turn × ControllerView). x.0) h, ap (λ (x : Turn × ControllerView). x.1) h)

-- the steps of a turn of the controller of a state, which found its words
abbrev AreFound : Core → List ℕ → Type 0
AreFound s xs = AreSteps s.config s.controller xs × AnsweredBy s.words (steps_made s.config s.controller xs)

-- one step: what it leads to, and what it ends
step_is : (s : Core) (x : ℕ) (xs : List ℕ) (o : Op) → controller_op s.config s.controller ≡ Some o → AreFound s (x ∷ xs)
    → (x ≡ op_answer o (s.words (op_name o))) × AnsweredBy (op_words s.words o) (steps_made s.config (controller_after s.config s.controller x) xs)
    × (steps_made s.config s.controller (x ∷ xs) ≡ record { op = o; answer = x } ∷ steps_made s.config (controller_after s.config s.controller x) xs)
step_is s x xs o is found =
    let rest : List Made = steps_made s.config (controller_after s.config s.controller x) xs in
    let all : made_before (controller_op s.config s.controller) x rest ≡ record { op = o; answer = x } ∷ rest = ap (λ p. made_before p x rest) is in
    let h : AnsweredBy s.words (record { op = o; answer = x } ∷ rest) = subst (AnsweredBy s.words) all found.1 in
    (h.0, h.1, all)

-- where a first step answered x, the machine's is this state
step_to : (s : Core) (x : ℕ) (o : Op) → x ≡ op_answer o (s.words (op_name o))
    → controlled s o ≡ record s { words = op_words s.words o; controller = controller_after s.config s.controller x }
step_to s x o e = ap (λ n. record s { words = op_words s.words o; controller = controller_after s.config s.controller n }) (sym e)

module _ (n : ℕ) (x : ℕ) (xs : List ℕ) (t : Turn) (d : ControllerView) where
  -- the turn goes on as its later steps do
  abbrev Again : Core → Type 0
  Again u =
      AreFound u xs → turn_by u.config u.controller xs ≡ Some (t, d)
      → turned_in n u ≡ Some (t, stepped_to u (steps_made u.config u.controller xs) d)

  module _ (s : Core) (found : AreFound s (x ∷ xs)) (by : turn_by s.config s.controller (x ∷ xs) ≡ Some (t, d))
      (again : (u : Core) → Again u) where
    abbrev next : ControllerView
    next = controller_after s.config s.controller x

    abbrev Ends : Option (Turn × Core) → Type 0
    Ends o = o ≡ Some (t, stepped_to s (steps_made s.config s.controller (x ∷ xs)) d)

    -- the step ends nothing
    on : (o : Op) → controller_op s.config s.controller ≡ Some o → end_of s.config s.controller x ≡ None → Ends (turned_in n (controlled s o))
    on o is none =
        let h = step_is s x xs o is found in
        let s2 : Core = record s { words = op_words s.words o; controller = next } in
        let later : turned_in n s2 ≡ Some (t, stepped_to s2 (steps_made s.config next xs) d) =
        again s2 (found.0.1, h.1) (sym (step_not_over s.config s.controller x xs none) ∙ by) in
        ap (turned_in n) (step_to s x o h.0) ∙ later
        ∙ ap (λ (steps : List Made). Some (t, stepped_to s steps d)) (sym h.2)

    -- it ends the turn, and is the last one
    last : (o : Op) (u : Turn) (ys : List ℕ) → controller_op s.config s.controller ≡ Some o → end_of s.config s.controller x ≡ Some u → xs ≡ ys
        → Ends (Some (u, controlled s o))
    last o u [] is some e =
        let one : turn_by s.config s.controller (x ∷ xs) ≡ Some (u, next) =
        ap (λ ys. turn_by s.config s.controller (x ∷ ys)) e ∙ ap (λ end. ends_with next end [] None) some in
        let same = same_turn (u, next) (t, d) (sym one ∙ by) in
        let h = step_is s x xs o is found in
        ap (λ (v : Turn). Some (v, controlled s o)) same.0
        ∙ ap (λ (c : Core). Some (t, c)) (step_to s x o h.0)
        ∙ ap (λ (c : ControllerView). Some (t, record s { words = op_words s.words o; controller = c })) same.1
        ∙ ap (λ (ys : List ℕ). Some (t, record s { words = words_after (op_words s.words o) (steps_made s.config next ys); controller = d })) (sym e)
        ∙ ap (λ (steps : List Made). Some (t, stepped_to s steps d)) (sym h.2)
    last o u (y ∷ ys) is some e =
        let none : turn_by s.config s.controller (x ∷ xs) ≡ None =
        ap (λ zs. turn_by s.config s.controller (x ∷ zs)) e
        ∙ ap (λ end. ends_with next end (y ∷ ys) (turn_from s.config next (y ∷ ys))) some in
        cc

    by_end : (o : Op) (end : Option Turn) → controller_op s.config s.controller ≡ Some o → end_of s.config s.controller x ≡ end
        → Ends (over_or (controlled s o) end (turned_in n (controlled s o)))
    by_end o None is e = on o is e
    by_end o (Some u) is e = last o u xs is e refl

    by_op : (o : Option Op) → controller_op s.config s.controller ≡ o → IsSome o → Ends (turned_in (suc n) s)
    by_op None is some = absurd (cc some)
    by_op (Some o) is some =
        ap (option_and_then (λ p. over_or (controlled s p) (turn_of_op s p) (turned_in n (controlled s p)))) is
        ∙ ap (λ m. over_or (controlled s o) (end_of s.config s.controller m) (turned_in n (controlled s o))) (sym (step_is s x xs o is found).0)
        ∙ by_end o (end_of s.config s.controller x) is refl

turn_is : (n : ℕ) (s : Core) (xs : List ℕ) (t : Turn) (d : ControllerView) → length xs ≤ n → AreFound s xs
    → turn_by s.config s.controller xs ≡ Some (t, d)
    → turned_in n s ≡ Some (t, stepped_to s (steps_made s.config s.controller xs) d)
turn_is n s [] t d few found by = cc
turn_is zero s (x ∷ xs) t d few found by = absurd (omega arith)
turn_is (suc n) s (x ∷ xs) t d few found by =
    by_op n x xs t d s found by (λ u. turn_is n u xs t d (omega arith)) (controller_op s.config s.controller) refl found.0.0

pub turns_as_machine : TurnsAsMachine
turns_as_machine s t d answers h found = turn_is (most_steps s.config.layout) s answers t d h.few (h.each, found) h.act

-- ---- all turns

-- the machine's turns go on from this state as they go from that one
abbrev GoesOnFrom : Core → Core → Type 0
GoesOnFrom s u = (m : ℕ) × ((n : ℕ) (r : Settled) (t : Core) → settled_in n u ≡ Some (r, t) → settled_in (m + n) s ≡ Some (r, t))

refused_is : (f : Follows) (s : Core) (w e : ControllerView) → s.controller ≡ w → next_view w f ≡ Some e → refused s f ≡ Some (record s { controller = e })
refused_is More s w e same next = ap (λ (c : ControllerView). Some (record s { controller = c })) (same ∙ same_Some w e next)
refused_is Over s w e same next = cc
refused_is OrRefusal s w e same next = ap (option_map (λ d. record s { controller = d })) (ap told_to_refuse same ∙ next)

refused_not : (f : Follows) (s : Core) (w : ControllerView) → s.controller ≡ w → next_view w f ≡ None → refused s f ≡ None
refused_not More s w same next = cc
refused_not Over s w same next = refl
refused_not OrRefusal s w same next = ap (option_map (λ d. record s { controller = d })) (ap told_to_refuse same ∙ next)

module _ (s : Core) where
  turned_is : (steps : List Made) (v w : ControllerView) (t : Turn) (answers : List ℕ) → Turned s.config v t w answers
      → AnsweredBy (words_after s.words steps) (steps_made s.config v answers)
      → turned (stepped_to s steps v) ≡ Some (t, stepped_to s (steps ++ steps_made s.config v answers) w)
  turned_is steps v w t answers h found =
      turn_is (most_steps s.config.layout) (stepped_to s steps v) answers t w h.few (h.each, found) h.act
      ∙ ap (λ (words : Name → ℕ). Some (t, record s { words = words; controller = w })) (sym (words_both s.words steps (steps_made s.config v answers)))

  goes_on : (steps : List Made) (d : ControllerView) → Turns s.config s.controller steps d → AnsweredBy s.words steps
      → GoesOnFrom s (stepped_to s steps d)
  goes_on steps d begin found = (0, λ n r t e. subst (λ m. settled_in m s ≡ Some (r, t)) (omega arith) e)
  goes_on steps d (more before v w e t answers turns turned next) found =
      let ms : List Made = steps_made s.config v answers in
      let first = goes_on before v turns (answered_first s.words before ms found) in
      let one = turned_is before v w t answers turned (answered_rest s.words before ms found) in
      let told = refused_is (follows t) (stepped_to s (before ++ ms) w) w e refl next in (
        first.0 + 1,
        λ n r u is.
            let more_by : first.0 + suc n ≡ first.0 + 1 + n = omega arith in
            let goes : settled_in (suc n) (stepped_to s before v) ≡ Some (r, u) =
            ap (option_and_then (λ p. on_or p.1 (settled_in n) (refused p.1 (follows p.0)))) one
            ∙ ap (on_or (stepped_to s (before ++ ms) w) (settled_in n)) told ∙ is in
            subst (λ m. settled_in m s ≡ Some (r, u)) more_by (first.1 (suc n) r u goes),
      )

  ended_so : (r : Settled) (steps : List Made) (d : ControllerView) → Ended s.config s.controller r steps d → AnsweredBy s.words steps
      → Settles s r (stepped_to s steps d)
  ended_so r steps d h found =
      let ms : List Made = steps_made s.config h.view h.answers in
      let all : AnsweredBy s.words (h.before ++ ms) = subst (AnsweredBy s.words) h.all found in
      let first = goes_on h.before h.view h.turns (answered_first s.words h.before ms all) in
      let one = turned_is h.before h.view d h.answer h.answers h.last (answered_rest s.words h.before ms all) in
      let over = refused_not (follows h.answer) (stepped_to s (h.before ++ ms) d) d refl h.over in
      let goes : settled_in 1 (stepped_to s h.before h.view) ≡ Some (r, stepped_to s (h.before ++ ms) d) =
      ap (option_and_then (λ p. on_or p.1 (settled_in 0) (refused p.1 (follows p.0)))) one
      ∙ ap (on_or (stepped_to s (h.before ++ ms) d) (settled_in 0)) over
      ∙ ap (λ x. Some (x, stepped_to s (h.before ++ ms) d)) (sym h.ending) in
      subst (λ (xs : List Made). Settles s r (stepped_to s xs d)) (sym h.all) (first.0 + 1, first.1 1 r (stepped_to s (h.before ++ ms) d) goes)

pub settles_as_machine : SettlesAsMachine
settles_as_machine s settled.Quiet steps d some h found = ended_so s settled.Quiet steps d h found
settles_as_machine s (settled.Waiting key) steps d some h found = ended_so s (settled.Waiting key) steps d h found
settles_as_machine s settled.Memory steps d some h found = absurd (some refl)

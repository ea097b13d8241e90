-- Once no packet is in hand, the lines tell of the packets that entered.
use Rattle.std.proofs.Common.{◌≡◌, ℕ, zero, suc, ◌+◌, ◌==◌, true, List, [], ◌∷◌, map, sum_by, refl, ap, ◌∙◌, arith}
use Rattle.std.proofs.lemmas.Bool.Decides.{nat_tests}
use Rattle.std.proofs.lemmas.List.Sums.{sum_by-append, sum_by-cons}
use Rattle.std.specs.List.{list_all, range_with_len}
use Rattle.sr_base.specs.declared.packet.Packet.{Packet}
use Rattle.sr_inv_facts.proofs.Lists.{all_then}
use Rattle.sr_inv_facts.proofs.Pipes.{idle}
use Rattle.sr_inv_facts.specs.InTicks.{InTicks}
use Rattle.sr_inv_facts.specs.Readings.{EachPipe}
use Rattle.sr_inv_final.proofs.Entering.{came, came_in_run, hand_of, times, told_sum, told_times}
use Rattle.sr_inv_final.proofs.Summing.{printed_sum, zero_sum}
use Rattle.sr_inv_final.specs.Reached.{IsReached, entered_in}
use Rattle.sr_inv_final.specs.Rest.{AreIdle}
use Rattle.sr_inv_order.proofs.Rising.{and_true}
use Rattle.sr_law.specs.Final.{is_as_often, packets_of, same_packets}
use Rattle.sr_law.specs.Ticks.{is_controller}
use Rattle.sr_law.specs.declared.line.Line.{Line}
use Rattle.sr_machine.specs.Config.{Config}
use Rattle.sr_machine.specs.Core.{Core, opening, pipe_lines, printed}
use Rattle.sr_machine.specs.Opening.{opening_pipes}
use Rattle.sr_machine.specs.Pipe.{fresh_pipe, is_idle}
use Rattle.sr_machine.specs.declared.pipe_view.PipeView.{PipeView}
use Rattle.sr_law.specs.declared.line.Line.TheVariants as line

-- ---- two lists

as_often : (xs ys : List Packet) (z : Packet) → times z xs ≡ times z ys → is_as_often xs ys z ≡ true
unfolding is_as_often
as_often xs ys z h = alike (times z xs) (times z ys) h
  where
    alike : (a b : ℕ) → a ≡ b → (a == b) ≡ true
    alike a b e = grind (arith, nat_tests)

listed_as_often : (xs ys : List Packet) → ((x : Packet) → times x xs ≡ times x ys) → (zs : List Packet)
    → list_all (is_as_often xs ys) zs ≡ true
listed_as_often xs ys h [] = refl
listed_as_often xs ys h (z ∷ zs) =
    and_true (is_as_often xs ys z) (list_all (is_as_often xs ys) zs) (as_often xs ys z (h z)) (listed_as_often xs ys h zs)

-- lists that have each packet as often have the same packets
pub same_by_times : (xs ys : List Packet) → ((x : Packet) → times x xs ≡ times x ys) → same_packets xs ys ≡ true
same_by_times xs ys h =
    and_true (list_all (is_as_often xs ys) xs) (list_all (is_as_often xs ys) ys) (listed_as_often xs ys h xs) (listed_as_often xs ys h ys)

-- ---- those that entered, and those that lines tell of

module _ (packet : Packet) where
  fresh_came : (a n : ℕ) → sum_by (came packet) (map fresh_pipe (range_with_len a n)) ≡ 0
  fresh_came a zero = refl
  fresh_came a (suc n) =
      omega (arith, sum_by-cons (came packet) (fresh_pipe a) (map fresh_pipe (range_with_len (a + 1) n)), fresh_came (a + 1) n)

  pub none_came : (k : Config) → sum_by (came packet) (opening k).pipes ≡ 0
  unfolding opening_pipes
  none_came k = fresh_came 0 k.layout.shape.pipes

  -- where no packet is in hand, what came on the pipes is what their lines tell of
  pub idle_came : (pipes : List PipeView) → EachPipe (λ p v. is_idle v.stage ≡ true) pipes
      → sum_by (told_times packet) (pipe_lines pipes) ≡ sum_by (came packet) pipes
  idle_came [] h = refl
  idle_came (v ∷ rest) h =
      let none : times packet (hand_of v.stage) ≡ 0 = ap (λ a. times packet (hand_of a)) (idle v.stage (h 0 v refl)) in
      let lines = sum_by-append (told_times packet) v.lines (pipe_lines rest) in
      omega (arith, none, lines, sum_by-cons (came packet) v rest, idle_came rest (λ p w e. h (suc p) w e))

  untold : (l : Line) → is_controller l ≡ true → told_times packet l ≡ 0
  untold (line.Packet number entered out pipe key kind v) h = cc
  untold l h = refl

  -- where no packet is in hand, the lines tell of what came on the pipes
  pub told_as_came : (s : Core) → InTicks s → AreIdle s → times packet (packets_of (printed s)) ≡ sum_by (came packet) s.pipes
  told_as_came s t h =
      let own = all_then (λ l. is_controller l ≡ true) (λ l. told_times packet l ≡ 0) untold s.controller.lines t.controller.own in
      let none = zero_sum (told_times packet) s.controller.lines own in
      let lines = told_sum packet (printed s) ∙ printed_sum (told_times packet) s in
      omega (arith, none, lines, idle_came s.pipes h)

  -- and what came is what entered
  pub came_as_entered : (k : Config) (s : Core) (r : IsReached k s) → sum_by (came packet) s.pipes ≡ times packet (entered_in r.events)
  came_as_entered k s r = omega (arith, came_in_run packet r.events (opening k) s r.leads, none_came k)

-- the packets of the lines are those that entered
pub packets_are_told : (k : Config) (s : Core) (r : IsReached k s) → InTicks s → AreIdle s
    → same_packets (packets_of (printed s)) (entered_in r.events) ≡ true
packets_are_told k s r t h =
    same_by_times (packets_of (printed s)) (entered_in r.events) (λ x. told_as_came x s t h ∙ came_as_entered x k s r)

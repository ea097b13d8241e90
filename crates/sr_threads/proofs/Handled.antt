-- All packets were handled, each once.
use Rattle.std.proofs.Common.{◌≡◌, ◌∙◌, ℕ, zero, suc, ◌+◌, ◌<◌, ◌≤◌, ◌==◌, ◌&&◌, ◌||◌, Bool, true, false, cond, List, [], ◌∷◌, ◌++◌, map, sum_by, refl, sym, ap, if◌then◌else◌, option_to_list, slice_get, Some, arith}
use Rattle.std.proofs.Math.Nat.{mod-lt}
use Rattle.std.proofs.lemmas.List.{append_assoc}
use Rattle.std.proofs.lemmas.List.Sums.{sum_by-append, sum_by-cons}
use Rattle.std.proofs.lemmas.Option.{same_Some}
use Rattle.std.specs.List.{AllByRecursion, filter, list_any, range_with_len}
use Rattle.atomic_table.specs.Seated.{TableId}
use Rattle.sr_base.specs.Layout.{LayoutView}
use Rattle.sr_base.specs.declared.packet.Packet.{Packet}
use Rattle.sr_hash.specs.Keyed.{hash_of}
use Rattle.sr_hash.specs.Uses.{pipe_number}
use Rattle.sr_inv_entered.proofs.Sharing.{shares_count}
use Rattle.sr_inv_entered.specs.Entered.{AreTakable, MayEnter, given}
use Rattle.sr_inv_final.proofs.Entering.{times}
use Rattle.sr_inv_final.specs.Rest.{AreIdle}
use Rattle.sr_inv_lawful.specs.Lawful.{HaveHandled}
use Rattle.sr_law.specs.Final.{packet_by, packets_of, same_packet}
use Rattle.sr_law.specs.declared.line.Line.{Line}
use Rattle.sr_machine.specs.Config.{Config}
use Rattle.sr_machine.specs.Core.{Core, pipe_lines}
use Rattle.sr_machine.specs.Pipe.{has_vip, is_idle}
use Rattle.sr_machine.specs.declared.pipe_view.PipeView.{PipeView}
use Rattle.sr_rounds.specs.declared.timed.Timed.{Timed}
use Rattle.sr_threads.specs.Hiring.{Hired, IsHired, views_in}
use Rattle.sr_threads.specs.Replayed.{AreAtWork}
use Rattle.sr_threads.specs.Working.{AllWorked, Worked, is_own, share_in}
use Rattle.sr_threads.specs.declared.worker.Worker.{Worker}

-- ---- the packets of lines

packets_both : (xs ys : List Line) → packets_of (xs ++ ys) ≡ packets_of xs ++ packets_of ys
packets_both [] ys = refl
packets_both (x ∷ xs) ys =
    ap (λ ps. option_to_list (packet_by x) ++ ps) (packets_both xs ys)
    ∙ sym (append_assoc (option_to_list (packet_by x)) (packets_of xs) (packets_of ys))

-- ---- the packets of a pipe, where each packet may enter

own_alone : (l : LayoutView) (i : ℕ) (ys : List Packet) → AllByRecursion (λ y. has_vip l y ≡ true) ys
    → filter (is_own l i) ys ≡ filter (λ y. pipe_number y.key l.shape.pipes == i) ys
own_alone l i [] may = refl
own_alone l i (y ∷ ys) may = at (pipe_number y.key l.shape.pipes == i) (has_vip l y) may.0 (own_alone l i ys may.1)
  where
    at : (a b : Bool) → b ≡ true → filter (is_own l i) ys ≡ filter (λ z. pipe_number z.key l.shape.pipes == i) ys
        → cond (a && b) (y ∷ filter (is_own l i) ys) (filter (is_own l i) ys)
        ≡ cond a (y ∷ filter (λ z. pipe_number z.key l.shape.pipes == i) ys) (filter (λ z. pipe_number z.key l.shape.pipes == i) ys)
    at a false e rest = cc
    at true true e rest = ap (λ zs. y ∷ zs) rest
    at false true e rest = rest

first_part : (a b : Bool) → (a || b) ≡ false → (a ≡ false) × (b ≡ false)
first_part true b e = cc
first_part false b e = (refl, e)

module _ (k : Config) (t : TableId) (packets : List Timed) (x : Packet) (may : AllByRecursion (MayEnter k) (given packets)) where
  abbrev pipes : ℕ
  pipes = k.layout.shape.pipes

  abbrev shares : ℕ → ℕ → List (List Packet)
  shares from n = map (λ i. filter (λ y. pipe_number y.key pipes == i) (given packets)) (range_with_len from n)

  own_packets : (n : ℕ) (w v : Worker) → IsHired k t n w → Worked w (share_in k.layout w.pipe.view.number packets) v → v.short ≡ false
      → packets_of v.pipe.view.lines ≡ filter (λ y. pipe_number y.key pipes == n) (given packets)
  own_packets n w v h d whole =
      (d.handled whole).1
      ∙ ap (λ (u : PipeView). packets_of u.lines ++ share_in k.layout u.number packets) h.view
      ∙ own_alone k.layout n (given packets) may

  handled_sum : (from n : ℕ) (ws vs : List Worker) → Hired k t from n ws → AllWorked k.layout packets ws vs → list_any (λ v. v.short) vs ≡ false
      → times x (packets_of (pipe_lines (views_in vs))) ≡ sum_by (times x) (shares from n)
  handled_sum from zero [] [] h d whole = refl
  handled_sum from zero [] (v ∷ vs) h d whole = absurd d
  handled_sum from zero (w ∷ ws) vs h d whole = absurd h
  handled_sum from (suc n) [] vs h d whole = absurd h
  handled_sum from (suc n) (w ∷ ws) [] h d whole = absurd d
  handled_sum from (suc n) (w ∷ ws) (v ∷ vs) h d whole =
      let parts = first_part v.short (list_any (λ u. u.short) vs) whole in
      let own : packets_of v.pipe.view.lines ≡ filter (λ y. pipe_number y.key pipes == from) (given packets) =
      own_packets from w v h.0 d.0 parts.0 in
      let rest = handled_sum (from + 1) n ws vs h.1 d.1 parts.1 in
      let both : times x (packets_of (v.pipe.view.lines ++ pipe_lines (views_in vs)))
      ≡ times x (packets_of v.pipe.view.lines) + times x (packets_of (pipe_lines (views_in vs))) =
      ap (times x) (packets_both v.pipe.view.lines (pipe_lines (views_in vs)))
      ∙ sum_by-append (λ z. if same_packet x z then 1 else 0) (packets_of v.pipe.view.lines) (packets_of (pipe_lines (views_in vs))) in
      both
      ∙ ap (λ m. m + times x (packets_of (pipe_lines (views_in vs)))) (ap (times x) own)
      ∙ ap (λ m. times x (filter (λ y. pipe_number y.key pipes == from) (given packets)) + m) rest
      ∙ sym (sum_by-cons (times x) (filter (λ y. pipe_number y.key pipes == from) (given packets)) (shares (from + 1) n))

pub have_handled : (k : Config) (t : TableId) (packets : List Timed) (ws vs : List Worker) (s : Core) → 1 ≤ k.layout.shape.pipes
    → Hired k t 0 k.layout.shape.pipes ws → AllWorked k.layout packets ws vs → list_any (λ v. v.short) vs ≡ false → s.pipes ≡ views_in vs
    → AreTakable k packets → HaveHandled (given packets) s
have_handled k t packets ws vs s some h d whole are may x =
    let n : ℕ = k.layout.shape.pipes in
    let of : Packet → ℕ = λ y. pipe_number y.key n in
    let more : 0 < n = omega (arith, some) in
    let within : (y : Packet) → of y < n = λ y. mod-lt (hash_of 9 y.key) more in
    let once : (y : Packet) (zs : List Packet) → times x (y ∷ zs) ≡ (if same_packet x y then 1 else 0) + times x zs =
    sum_by-cons (λ z. if same_packet x z then 1 else 0) in
    ap (λ (us : List PipeView). times x (packets_of (pipe_lines us))) are
    ∙ handled_sum k t packets x may.each 0 n ws vs h d whole
    ∙ shares_count (times x) (λ y. if same_packet x y then 1 else 0) refl once of n (given packets) within

-- ---- no packet is in hand

idle_from : (k : Config) (t : TableId) (from n : ℕ) (vs : List Worker) → AreAtWork k t from n vs → (p : ℕ) (u : PipeView)
    → slice_get (views_in vs) p ≡ Some u → is_idle u.stage ≡ true
idle_from k t from zero [] h p u e = cc
idle_from k t from zero (v ∷ vs) h p u e = absurd h
idle_from k t from (suc n) [] h p u e = absurd h
idle_from k t from (suc n) (v ∷ vs) h zero u e =
    ap (λ (w : PipeView). is_idle w.stage) (sym (same_Some v.pipe.view u e)) ∙ h.0.idle
idle_from k t from (suc n) (v ∷ vs) h (suc p) u e = idle_from k t (from + 1) n vs h.1 p u e

pub are_idle : (k : Config) (t : TableId) (n : ℕ) (vs : List Worker) (s : Core) → AreAtWork k t 0 n vs → s.pipes ≡ views_in vs → AreIdle s
are_idle k t n vs s h are = λ p u e. idle_from k t 0 n vs h p u (ap (λ (us : List PipeView). slice_get us p) (sym are) ∙ e)

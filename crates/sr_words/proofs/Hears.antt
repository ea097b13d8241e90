-- What is told makes known what was told before it, too.
use Rattle.std.proofs.Common.{◌≡◌, ◌∙◌, ℕ, ◌+◌, ◌^◌, ◌&&◌, nat_le, nat_lt, Bool, true, false, length, Option, Some, None, option_map, option_and_then, refl, sym, ap, arith, if◌then◌else◌}
use Rattle.std.proofs.lemmas.Bool.Decides.{nat_tests}
use Rattle.std.proofs.lemmas.Option.{same_Some}
use Rattle.sr_base.specs.declared.packet.Packet.{Packet}
use Rattle.sr_machine.specs.Boards.{FitsTold, told_ms, told_packet, told_refusal}
use Rattle.sr_machine.specs.Config.{Config}
use Rattle.sr_machine.specs.Pipe.{entered, has_vip, is_idle}
use Rattle.sr_machine.specs.Telling.{is_no_earlier, may_refuse, told_time, told_to_refuse}
use Rattle.sr_machine.specs.declared.controller_view.ControllerView.{ControllerView}
use Rattle.sr_machine.specs.declared.pipe_view.PipeView.{PipeView}
use Rattle.sr_machine.specs.declared.stage.Stage.TheVariants as stage
use Rattle.sr_machine.specs.declared.view.View.{View}
use Rattle.sr_machine.specs.declared.view.View.TheVariants.{OfPipe, OfController}
use Rattle.sr_words.proofs.Follows.{bound}
use Rattle.sr_words.specs.Hearing.{told, told_ms_if, with_ms, with_refusal}
use Rattle.sr_words.specs.Steps.{FitsSeat}
use Rattle.sr_words.specs.declared.heard.Heard.{Heard}
use Rattle.sr_words.specs.declared.heard.Heard.TheVariants.{Nothing, Entered, Time, Refusal}
use Rattle.sr_words.specs.declared.seated.Seated.{Seated}

chains : {X Y : Type 0} (f : X → Option Y) (o : Option X) (x : X) (y : Y) → o ≡ Some x → f x ≡ Some y → option_and_then f o ≡ Some y
chains f o x y e h = ap (option_and_then f) e ∙ h

-- ---- what each telling leaves

-- a packet enters on a pipe, on which none can enter then
module _ (k : Config) where
  entered_then : (b : Bool) (v : PipeView) (packet other : Packet) (y : View)
      → option_map OfPipe (if b then Some (record v { stage = stage.Enter packet }) else None) ≡ Some y
      → told_packet other k y ≡ None
  entered_then true v packet other y e =
      ap (told_packet other k) (sym (same_Some (OfPipe (record v { stage = stage.Enter packet })) y e))
  entered_then false v packet other y e = cc

  enters_once : (packet other : Packet) (x y : View) → told_packet packet k x ≡ Some y → told_packet other k y ≡ None
  enters_once packet other (OfPipe v) y e =
      entered_then (is_idle v.stage && (has_vip k.layout packet && nat_lt (length v.lines + 1) (2 ^ 32))) v packet other y e
  enters_once packet other (OfController c) y e = cc

  busy_then : (b : Bool) (v w : PipeView) (packet : Packet)
      → option_map OfPipe (if b then Some (record v { stage = stage.Enter packet }) else None) ≡ Some (OfPipe w) → is_idle w.stage ≡ false
  busy_then true v w packet e =
      let same : OfPipe (record v { stage = stage.Enter packet }) ≡ OfPipe w =
      same_Some (OfPipe (record v { stage = stage.Enter packet })) (OfPipe w) e in
      let is : record v { stage = stage.Enter packet } ≡ w = cc in ap (λ (u : PipeView). is_idle u.stage) (sym is)
  busy_then false v w packet e = cc

  pub enters_busy : (packet : Packet) (x : View) (w : PipeView) → told_packet packet k x ≡ Some (OfPipe w) → is_idle w.stage ≡ false
  enters_busy packet (OfPipe v) w e =
      busy_then (is_idle v.stage && (has_vip k.layout packet && nat_lt (length v.lines + 1) (2 ^ 32))) v w packet e
  enters_busy packet (OfController c) w e = cc

  number_then : (b : Bool) (v w : PipeView) (packet : Packet)
      → option_map OfPipe (if b then Some (record v { stage = stage.Enter packet }) else None) ≡ Some (OfPipe w) → w.number ≡ v.number
  number_then true v w packet e =
      let same : OfPipe (record v { stage = stage.Enter packet }) ≡ OfPipe w =
      same_Some (OfPipe (record v { stage = stage.Enter packet })) (OfPipe w) e in
      let is : record v { stage = stage.Enter packet } ≡ w = cc in ap (λ (u : PipeView). u.number) (sym is)
  number_then false v w packet e = cc

  pub enters_number : (packet : Packet) (v w : PipeView) → told_packet packet k (OfPipe v) ≡ Some (OfPipe w) → w.number ≡ v.number
  enters_number packet v w e =
      number_then (is_idle v.stage && (has_vip k.layout packet && nat_lt (length v.lines + 1) (2 ^ 32))) v w packet e

  -- the other tellings are the controller's
  pipe_then : (o : Option PipeView) (y : View) → option_map OfPipe o ≡ Some y → (w : PipeView) × (y ≡ OfPipe w)
  pipe_then None y e = cc
  pipe_then (Some w) y e = (w, sym (same_Some (OfPipe w) y e))

  packet_pipe : (packet : Packet) (x y : View) → told_packet packet k x ≡ Some y → (w : PipeView) × (y ≡ OfPipe w)
  packet_pipe packet (OfPipe v) y e = pipe_then (entered k.layout packet v) y e
  packet_pipe packet (OfController c) y e = cc

  controller_then : (o : Option ControllerView) (y : View) → option_map OfController o ≡ Some y
      → (c : ControllerView) × (y ≡ OfController c)
  controller_then None y e = cc
  controller_then (Some d) y e = (d, sym (same_Some (OfController d) y e))

  pub time_controller : (ms : ℕ) (x y : View) → told_ms ms k x ≡ Some y → (c : ControllerView) × (y ≡ OfController c)
  time_controller ms (OfPipe v) y e = cc
  time_controller ms (OfController c) y e = controller_then (told_time ms c) y e

  refusal_controller : (x y : View) → told_refusal k x ≡ Some y → (c : ControllerView) × (y ≡ OfController c)
  refusal_controller (OfPipe v) y e = cc
  refusal_controller (OfController c) y e = controller_then (told_to_refuse c) y e

  time_if_controller : (o : Option ℕ) (x y : View) (c : ControllerView) → x ≡ OfController c → told_ms_if k o x ≡ Some y
      → (d : ControllerView) × (y ≡ OfController d)
  time_if_controller None x y c e f = (c, sym (same_Some x y f) ∙ e)
  time_if_controller (Some ms) x y c e f = time_controller ms x y f

  -- a time leaves all but the clock
  timed_by : (b : Bool) (c : ControllerView) (ms : ℕ) (y : View)
      → option_map OfController (if b then Some (record c { clock = Some ms }) else None) ≡ Some y
      → (b ≡ true) × (y ≡ OfController (record c { clock = Some ms }))
  timed_by true c ms y e = (refl, sym (same_Some (OfController (record c { clock = Some ms })) y e))
  timed_by false c ms y e = cc

  -- a time that was told before doesn't matter
  no_earlier : (o : Option ℕ) (m n : ℕ) → is_no_earlier o m ≡ true → nat_le m n ≡ true → is_no_earlier o n ≡ true
  no_earlier None m n a b = refl
  no_earlier (Some clock) m n a b = grind (arith, nat_tests)

  told_again : (m n : ℕ) (x y z : View) → told_ms m k x ≡ Some y → told_ms n k y ≡ Some z → told_ms n k x ≡ Some z
  told_again m n (OfPipe v) y z e f = cc
  told_again m n (OfController c) y z e f =
      let p = timed_by (is_no_earlier c.clock m) c m y e in
      let g : told_ms n k (OfController (record c { clock = Some m })) ≡ Some z = ap (told_ms n k) (sym p.1) ∙ f in
      let q = timed_by (nat_le m n) (record c { clock = Some m }) n z g in
      ap (λ (b : Bool). option_map OfController (if b then Some (record c { clock = Some n }) else None))
      (no_earlier c.clock m n p.0 q.0)
      ∙ ap Some (sym q.1)

  told_if_again : (o : Option ℕ) (n : ℕ) (x y z : View) → told_ms_if k o x ≡ Some y → told_ms n k y ≡ Some z → told_ms n k x ≡ Some z
  told_if_again None n x y z e f = ap (told_ms n k) (same_Some x y e) ∙ f
  told_if_again (Some m) n x y z e f = told_again m n x y z e f

  -- a refusal is told once
  refused_then : (b : Bool) (c : ControllerView) (o : Option ℕ) (y z : View)
      → option_map OfController (if b then Some (record c { refusing = true }) else None) ≡ Some y → told_ms_if k o y ≡ Some z
      → told_refusal k z ≡ None
  refused_then true c None y z e f =
      ap (told_refusal k) (sym (same_Some (OfController (record c { refusing = true })) y e ∙ same_Some y z f))
  refused_then true c (Some ms) y z e f =
      let d : ControllerView = record c { refusing = true } in
      let g : told_ms ms k (OfController d) ≡ Some z = ap (told_ms ms k) (same_Some (OfController d) y e) ∙ f in
      ap (told_refusal k) (timed_by (is_no_earlier c.clock ms) d ms z g).1
  refused_then false c o y z e f = cc

  refuses_once : (o : Option ℕ) (x y z : View) → told_refusal k x ≡ Some y → told_ms_if k o y ≡ Some z → told_refusal k z ≡ None
  refuses_once o (OfPipe v) y z e f = cc
  refuses_once o (OfController c) y z e f = refused_then (may_refuse c) c o y z e f

  -- what a refusal and times leave is a controller's
  pub refusal_then : (before after : Option ℕ) (x y : View) → told (Refusal before after) k x ≡ Some y
      → (c : ControllerView) × (y ≡ OfController c)
  refusal_then before after x y e =
      let a = bound (told_ms_if k after) (option_and_then (told_refusal k) (told_ms_if k before x)) y e in
      let b = bound (told_refusal k) (told_ms_if k before x) a.0 a.1 in
      let c = refusal_controller b.0 a.0 b.2 in
      time_if_controller after a.0 y c.0 c.1 a.2

  no_packet : (packet : Packet) (y z : View) (c : ControllerView) → y ≡ OfController c → told_packet packet k y ≡ Some z → ⊥
  no_packet packet y z c e f = let g : told_packet packet k (OfController c) ≡ Some z = ap (told_packet packet k) (sym e) ∙ f in cc

  no_time : (ms : ℕ) (y z : View) (w : PipeView) → y ≡ OfPipe w → told_ms ms k y ≡ Some z → ⊥
  no_time ms y z w e f = let g : told_ms ms k (OfPipe w) ≡ Some z = ap (told_ms ms k) (sym e) ∙ f in cc

  no_refusal : (y z : View) (w : PipeView) → y ≡ OfPipe w → told_refusal k y ≡ Some z → ⊥
  no_refusal y z w e f = let g : told_refusal k (OfPipe w) ≡ Some z = ap (told_refusal k) (sym e) ∙ f in cc

  -- ---- what was told before is known with it

  packet_heard : (h : Heard) (packet : Packet) (x v w : View) → told h k x ≡ Some v → told_packet packet k v ≡ Some w
      → told (Entered packet) k x ≡ Some w
  packet_heard Nothing packet x v w e t = ap (told_packet packet k) (same_Some x v e) ∙ t
  packet_heard (Entered other) packet x v w e t = let none = enters_once other packet x v e in cc
  packet_heard (Time ms) packet x v w e t = let c = time_controller ms x v e in absurd (no_packet packet v w c.0 c.1 t)
  packet_heard (Refusal before after) packet x v w e t =
      let c = refusal_then before after x v e in absurd (no_packet packet v w c.0 c.1 t)

  time_heard : (h : Heard) (ms : ℕ) (x v w : View) → told h k x ≡ Some v → told_ms ms k v ≡ Some w → told (with_ms ms h) k x ≡ Some w
  time_heard Nothing ms x v w e t = ap (told_ms ms k) (same_Some x v e) ∙ t
  time_heard (Entered packet) ms x v w e t = let p = packet_pipe packet x v e in absurd (no_time ms v w p.0 p.1 t)
  time_heard (Time m) ms x v w e t = told_again m ms x v w e t
  time_heard (Refusal before after) ms x v w e t =
      let a = bound (told_ms_if k after) (option_and_then (told_refusal k) (told_ms_if k before x)) v e in
      chains (told_ms_if k (Some ms)) (option_and_then (told_refusal k) (told_ms_if k before x)) a.0 w a.1
      (told_if_again after ms a.0 v w a.2 t)

  refusal_heard : (h : Heard) (x v w : View) → told h k x ≡ Some v → told_refusal k v ≡ Some w → told (with_refusal h) k x ≡ Some w
  refusal_heard Nothing x v w e t =
      chains (told_ms_if k None) (told_refusal k x) w w (ap (told_refusal k) (same_Some x v e) ∙ t) refl
  refusal_heard (Entered packet) x v w e t = let p = packet_pipe packet x v e in absurd (no_refusal v w p.0 p.1 t)
  refusal_heard (Time m) x v w e t =
      chains (told_ms_if k None) (option_and_then (told_refusal k) (told_ms m k x)) w w (chains (told_refusal k) (told_ms m k x) v w e t) refl
  refusal_heard (Refusal before after) x v w e t =
      let a = bound (told_ms_if k after) (option_and_then (told_refusal k) (told_ms_if k before x)) v e in
      let b = bound (told_refusal k) (told_ms_if k before x) a.0 a.1 in
      let none = refuses_once after b.0 a.0 v b.2 a.2 in cc

-- ---- a board's telling

module _ (made_for : Config) (seat : Seated) (h now : Heard) where
  pub hears_packet : (packet : Packet) → now ≡ Entered packet → FitsTold (FitsSeat made_for seat h) (told_packet packet) (FitsSeat made_for seat now)
  hears_packet packet e k v w f t =
      (f.0, f.1, f.2, f.3, ap (λ (j : Heard). told j k f.1) e ∙ packet_heard k h packet f.1 v w f.4 t)

  pub hears_time : (ms : ℕ) → now ≡ with_ms ms h → FitsTold (FitsSeat made_for seat h) (told_ms ms) (FitsSeat made_for seat now)
  hears_time ms e k v w f t = (f.0, f.1, f.2, f.3, ap (λ (j : Heard). told j k f.1) e ∙ time_heard k h ms f.1 v w f.4 t)

  pub hears_refusal : now ≡ with_refusal h → FitsTold (FitsSeat made_for seat h) told_refusal (FitsSeat made_for seat now)
  hears_refusal e k v w f t = (f.0, f.1, f.2, f.3, ap (λ (j : Heard). told j k f.1) e ∙ refusal_heard k h f.1 v w f.4 t)

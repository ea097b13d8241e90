-- A pipe handles packets one after another.
use Rattle.std.proofs.Common.{◌≡◌, ◌∙◌, ℕ, ◌+◌, ◌<◌, ◌==◌, ◌&&◌, Bool, true, false, cond, List, [], ◌∷◌, ◌++◌, length, map, take, get_or, option_to_list, refl, sym, ap, subst, if◌then◌else◌}
use Rattle.std.proofs.lemmas.List.{append-nil, append_assoc, take_more, map-append}
use Rattle.std.proofs.lemmas.List.Elements.{filter-append}
use Rattle.std.specs.List.{filter}
use Rattle.sr_base.specs.Layout.{LayoutView}
use Rattle.sr_base.specs.declared.packet.Packet.{Packet}
use Rattle.sr_hash.specs.Uses.{pipe_number}
use Rattle.sr_law.specs.Final.{packet_by, packets_of}
use Rattle.sr_law.specs.declared.line.Line.{Line}
use Rattle.sr_law.specs.declared.verdict.Verdict.{Verdict}
use Rattle.sr_machine.specs.Pipe.{has_vip, is_idle, pipe_after}
use Rattle.sr_machine.specs.declared.pipe_view.PipeView.{PipeView}
use Rattle.sr_machine.specs.declared.view.View.TheVariants.{OfPipe}
use Rattle.sr_pipe.specs.Handling.{HandledOn, IsLineOf, with_packet}
use Rattle.sr_pipe.specs.Known.{IsFor, Known}
use Rattle.sr_pipe.specs.Steps.{view_after_all}
use Rattle.sr_rounds.specs.declared.timed.Timed.{Timed}
use Rattle.sr_threads.specs.Working.{Fits, IsReady, Worked, beside, is_own, share_in}
use Rattle.sr_threads.specs.declared.worker.Worker.{Worker}

-- ---- the packet of a line

packets_more : (ls : List Line) (l : Line) → packets_of (ls ++ l ∷ []) ≡ packets_of ls ++ option_to_list (packet_by l)
packets_more [] l = append-nil (option_to_list (packet_by l))
packets_more (x ∷ ls) l =
    ap (λ ps. option_to_list (packet_by x) ++ ps) (packets_more ls l)
    ∙ sym (append_assoc (option_to_list (packet_by x)) (packets_of ls) (option_to_list (packet_by l)))

line_packet : (pipe : ℕ) (packet : Packet) (v : Verdict) (l : Line) → IsLineOf pipe packet v l → option_to_list (packet_by l) ≡ packet ∷ []
line_packet pipe packet v l h = ap (λ x. option_to_list (packet_by x)) h.2

-- a pipe keeps its number
numbered : (l : LayoutView) (v : PipeView) (answers : List ℕ) → (view_after_all l v answers).number ≡ v.number
numbered l v [] = refl
numbered l v (x ∷ rest) = numbered l (pipe_after l v v.stage x) rest

-- ---- no packet, one packet, more packets

module _ (l : LayoutView) (w v : Worker) (ready : IsReady l w) where
  -- nothing was handled
  pub worked_still : (packets : List Packet) → v.board ≡ w.board → v.pipe.layout ≡ w.pipe.layout → v.pipe.view ≡ w.pipe.view
      → (v.short ≡ false → (w.short ≡ false) × (packets ≡ []))
      → Worked w packets v
  worked_still packets board layout view short = record {
    layout = layout;
    idle = ap (λ (x : PipeView). is_idle x.stage) view ∙ ready.idle;
    board = subst (λ b. IsFor (Fits (record v { board = b })) (beside (record v { board = b })) v.pipe) (sym board)
        (record {
          layout = ready.board.layout ∙ sym layout;
          view = (ready.board.view.0, ready.board.view.1 ∙ sym layout, subst (λ (x : PipeView). Fits w ready.board.view.0 (OfPipe x)) (sym view) ready.board.view.2);
        });
    belongs = ap (λ b. beside (record v { board = b })) board;
    fits = λ k same f. subst (λ (x : PipeView). Fits v k (OfPipe x)) (sym view) (subst (λ b. Fits (record v { board = b }) k (OfPipe w.pipe.view)) (sym board) f);
    number = ap (λ (x : PipeView). x.number) view;
    handled = λ s.
        let h = short s in (
          h.0,
          ap (λ (x : PipeView). packets_of x.lines) view
              ∙ sym (append-nil (packets_of w.pipe.view.lines))
              ∙ ap (λ ps. packets_of w.pipe.view.lines ++ ps) (sym h.1),
        );
  }

  -- a packet was handled
  pub worked_one : (packet : Packet) (written : Line) (old new : Known) → old.fits ≡ Fits w → new.fits ≡ Fits v
      → v.pipe.layout ≡ w.pipe.layout → is_idle v.pipe.view.stage ≡ true
      → IsFor (Fits v) (beside v) v.pipe → beside v ≡ beside w → v.short ≡ w.short
      → HandledOn w.pipe.layout packet old w.pipe.view new v.pipe.view written
      → Worked w (packet ∷ []) v
  worked_one packet written old new before after layout idle board belongs short h = record {
    layout = layout;
    idle = idle;
    board = board;
    belongs = belongs;
    fits = λ k same f.
        subst (λ g. g k (OfPipe v.pipe.view)) after (h.fits k same (subst (λ g. g k (OfPipe w.pipe.view)) (sym before) f));
    number =
        ap (λ (x : PipeView). x.number) (sym h.handled.view) ∙ numbered w.pipe.layout (with_packet packet w.pipe.view) h.answers;
    handled = λ s. (
      sym short ∙ s,
      ap packets_of h.handled.line ∙ packets_more w.pipe.view.lines written
          ∙ ap (λ ps. packets_of w.pipe.view.lines ++ ps)
          (line_packet w.pipe.view.number packet h.handled.verdict.0 written h.handled.verdict.1),
    );
  }

pub worked_then : (w v u : Worker) (xs ys : List Packet) → Worked w xs v → Worked v ys u → Worked w (xs ++ ys) u
worked_then w v u xs ys a b = record {
  layout = b.layout ∙ a.layout;
  idle = b.idle;
  board = b.board;
  belongs = b.belongs ∙ a.belongs;
  fits = λ k same f. b.fits k (same ∙ sym a.layout) (a.fits k same f);
  number = b.number ∙ a.number;
  handled = λ s.
      let h = b.handled s in
      let g = a.handled h.0 in
      (g.0, h.1 ∙ ap (λ ps. ps ++ ys) g.1 ∙ append_assoc (packets_of w.pipe.view.lines) xs ys);
}

pub ready_then : (l : LayoutView) (w v : Worker) (ps : List Packet) → IsReady l w → Worked w ps v → IsReady l v
ready_then l w v ps r h = record { layout = h.layout ∙ r.layout; idle = h.idle; board = h.board }

-- ---- the packets of a pipe

-- those of two lists
pub share_both : (l : LayoutView) (n : ℕ) (xs ys : List Timed) → share_in l n (xs ++ ys) ≡ share_in l n xs ++ share_in l n ys
share_both l n xs ys =
    ap (filter (is_own l n)) (map-append (λ (t : Timed). t.packet) xs ys)
    ∙ filter-append (is_own l n) (map (λ (t : Timed). t.packet) xs) (map (λ (t : Timed). t.packet) ys)

-- one more packet was looked at
share_more : (l : LayoutView) (n i : ℕ) (packets : List Timed) (t : Timed) → i < length packets → t ≡ get_or packets i t
    → share_in l n (take (i + 1) packets) ≡ share_in l n (take i packets) ++ cond (is_own l n t.packet) (t.packet ∷ []) []
share_more l n i packets t b e =
    ap (share_in l n) (take_more packets i t b) ∙ share_both l n (take i packets) (get_or packets i t ∷ [])
    ∙ ap (λ (x : Timed). share_in l n (take i packets) ++ share_in l n (x ∷ [])) (sym e)

pub more_own : (l : LayoutView) (n i : ℕ) (packets : List Timed) (t : Timed) (w v u : Worker) → i < length packets → t ≡ get_or packets i t
    → (pipe_number t.packet.key l.shape.pipes == n) ≡ true
    → Worked w (share_in l n (take i packets)) v → Worked v (if has_vip l t.packet then t.packet ∷ [] else []) u
    → Worked w (share_in l n (take (i + 1) packets)) u
more_own l n i packets t w v u b e own a h =
    subst (λ ps. Worked w ps u)
    (ap (λ (o : Bool). share_in l n (take i packets) ++ cond (o && has_vip l t.packet) (t.packet ∷ []) []) (sym own) ∙ sym (share_more l n i packets t b e))
    (worked_then w v u (share_in l n (take i packets)) (if has_vip l t.packet then t.packet ∷ [] else []) a h)

pub more_else : (l : LayoutView) (n i : ℕ) (packets : List Timed) (t : Timed) (w v : Worker) → i < length packets → t ≡ get_or packets i t
    → (pipe_number t.packet.key l.shape.pipes == n) ≡ false
    → Worked w (share_in l n (take i packets)) v
    → Worked w (share_in l n (take (i + 1) packets)) v
more_else l n i packets t w v b e own a =
    subst (λ ps. Worked w ps v)
    (sym (append-nil (share_in l n (take i packets)))
    ∙ ap (λ (o : Bool). share_in l n (take i packets) ++ cond (o && has_vip l t.packet) (t.packet ∷ []) []) (sym own) ∙ sym (share_more l n i packets t b e)) a

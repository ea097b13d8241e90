use Rattle.std.proofs.Common.{◌≡◌, ◌⊎◌, ℕ, ◌-◌, ◌+◌, ◌≤◌, List, [], Some, true, length, ap, sym, subst, ◌∙◌, inl, inr, arith}
use Rattle.std.specs.List.{slice_range}
use Rattle.std.proofs.lemmas.List.{with_items_is}
use Rattle.sr_io.specs.Window.{WindowView, ReadsOn}
use Rattle.sr_io.proofs.Windows.{reads_bytes, reads_none, moved_parts}
use Rattle.sr_io.proofs.window.Window.read_more.Goals as goal

pub returns-in-Bytes-clause-reads : goal.returns-in-Bytes-clause-reads
returns-in-Bytes-clause-reads g c =
    let old = c.args.self.now in
    let inside = c.self.inside in
    let new = c.read_behind-got.new.buffer in
    let front = c.in-Bytes.ensures.front ∙ ap (λ (l : List ℕ). slice_range l inside.start inside.end) c.deref_mut.ensures.value in
    let parts = moved_parts inside.buffer.items new inside.start inside.at inside.end _ inside.over old c.self.invariant.0 c.self.invariant.1 (omega arith) front c.self.view_is in
    let same : length new ≡ inside.buffer.len = omega (arith, c.deref_mut.ensures.len, ap length c.deref_mut.ensures.value) in
    let e : (inside.end - inside.start) + c.in-Bytes.n ≡ (inside.at - inside.start) + (inside.end - inside.at) + c.in-Bytes.n = let i = c.self.invariant in omega arith in
    let count : inside.end - inside.start ≡ (inside.at - inside.start) + (inside.end - inside.at) = let i = c.self.invariant in omega arith in
    let before = (g.S.Source.known c.args.source.now).left in
    let after = (g.S.Source.known c.read_behind-got.new.source).left in
    let P : List ℕ → Type 0 = λ l. ReadsOn old before (record { used = slice_range l 0 (inside.at - inside.start); unread = slice_range l (inside.at - inside.start) ((inside.end - inside.start) + c.in-Bytes.n); room = inside.buffer.len; over = inside.over }) after in
    let Q : ℕ → Type 0 = λ k. ReadsOn old before (record { used = slice_range new 0 (inside.at - inside.start); unread = slice_range new (inside.at - inside.start) k; room = inside.buffer.len; over = inside.over }) after in
    subst P (sym (with_items_is inside.buffer new same))
    (subst Q (sym e) (reads_bytes old new (inside.at - inside.start) (inside.end - inside.at) c.in-Bytes.n _ inside.over _ _ parts.0 parts.1 parts.2
    (sym (ap (λ (w : WindowView). w.room) c.self.view_is)) (sym (ap (λ (w : WindowView). w.over) c.self.view_is))
    (rw (← count) c.in-Bytes.ensures.bytes)))

pub returns-in-End-clause-reads : goal.returns-in-End-clause-reads
returns-in-End-clause-reads g c =
    let old = c.args.self.now in
    let inside = c.self.inside in
    let new = c.read_behind-got.new.buffer in
    let front = c.in-End.ensures.front ∙ ap (λ (l : List ℕ). slice_range l inside.start inside.end) c.deref_mut.ensures.value in
    let parts = moved_parts inside.buffer.items new inside.start inside.at inside.end _ inside.over old c.self.invariant.0 c.self.invariant.1 (omega arith) front c.self.view_is in
    let same : length new ≡ inside.buffer.len = omega (arith, c.deref_mut.ensures.len, ap length c.deref_mut.ensures.value) in
    let count : inside.end - inside.start ≡ (inside.at - inside.start) + (inside.end - inside.at) = let i = c.self.invariant in omega arith in
    let before = (g.S.Source.known c.args.source.now).left in
    let after = (g.S.Source.known c.read_behind-got.new.source).left in
    let P : List ℕ → Type 0 = λ l. ReadsOn old before (record { used = slice_range l 0 (inside.at - inside.start); unread = slice_range l (inside.at - inside.start) (inside.end - inside.start); room = inside.buffer.len; over = true }) after in
    let Q : ℕ → Type 0 = λ k. ReadsOn old before (record { used = slice_range new 0 (inside.at - inside.start); unread = slice_range new (inside.at - inside.start) k; room = inside.buffer.len; over = true }) after in
    subst P (sym (with_items_is inside.buffer new same))
    (subst Q (sym count) (reads_none old new (inside.at - inside.start) (inside.end - inside.at) _ true _ _ parts.0 parts.1 parts.2
    (sym (ap (λ (w : WindowView). w.room) c.self.view_is))
    (λ xs told. let t = c.in-End.ensures.bytes xs told in (t.1 ∙ ap (λ (ys : List ℕ). Some ys) (sym t.0), λ e. inr t.0))))

pub returns-in-Failed-clause-reads : goal.returns-in-Failed-clause-reads
returns-in-Failed-clause-reads g c =
    let old = c.args.self.now in
    let inside = c.self.inside in
    let new = c.read_behind-got.new.buffer in
    let front = c.in-Failed.ensures.front ∙ ap (λ (l : List ℕ). slice_range l inside.start inside.end) c.deref_mut.ensures.value in
    let parts = moved_parts inside.buffer.items new inside.start inside.at inside.end _ inside.over old c.self.invariant.0 c.self.invariant.1 (omega arith) front c.self.view_is in
    let same : length new ≡ inside.buffer.len = omega (arith, c.deref_mut.ensures.len, ap length c.deref_mut.ensures.value) in
    let count : inside.end - inside.start ≡ (inside.at - inside.start) + (inside.end - inside.at) = let i = c.self.invariant in omega arith in
    let before = (g.S.Source.known c.args.source.now).left in
    let after = (g.S.Source.known c.read_behind-got.new.source).left in
    let P : List ℕ → Type 0 = λ l. ReadsOn old before (record { used = slice_range l 0 (inside.at - inside.start); unread = slice_range l (inside.at - inside.start) (inside.end - inside.start); room = inside.buffer.len; over = inside.over }) after in
    let Q : ℕ → Type 0 = λ k. ReadsOn old before (record { used = slice_range new 0 (inside.at - inside.start); unread = slice_range new (inside.at - inside.start) k; room = inside.buffer.len; over = inside.over }) after in
    subst P (sym (with_items_is inside.buffer new same))
    (subst Q (sym count) (reads_none old new (inside.at - inside.start) (inside.end - inside.at) _ inside.over _ _ parts.0 parts.1 parts.2
    (sym (ap (λ (w : WindowView). w.room) c.self.view_is))
    (λ xs told. (c.in-Failed.ensures.bytes xs told, λ e. inl (sym (ap (λ (w : WindowView). w.over) c.self.view_is) ∙ e)))))

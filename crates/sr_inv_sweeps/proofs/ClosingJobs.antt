-- The controller's steps keep which connections are closed.
use Rattle.std.proofs.Common.{◌≡◌, ℕ, ◌+◌, ◌<◌, Bool, true, false, cond, ◌⊎◌, List, [], ◌∷◌, ◌++◌, if◌then◌else◌, Some, None, filter, Option, option_to_list, sym, refl, ap, ◌∙◌, subst, inl, inr, true≢false, arith}
use Rattle.std.proofs.lemmas.Option.{same_Some}
use Rattle.std.specs.List.{AllByRecursion}
use Rattle.sr_base.proofs.Sameness.{same_key-true}
use Rattle.sr_base.specs.Key.{KeyView, same_key}
use Rattle.sr_base.specs.declared.ring_word.RingKind.TheVariants.{Close}
use Rattle.sr_base.specs.declared.ring_word.RingWord.{RingWord}
use Rattle.sr_base.specs.declared.vip_word.Phase.{Phase}
use Rattle.sr_base.specs.declared.vip_word.Phase.TheVariants.{Steady, Recording, Holding, Transit}
use Rattle.sr_inv_facts.proofs.Books.{changed_all}
use Rattle.sr_inv_facts.proofs.Lists.{all_more, all_then}
use Rattle.sr_inv_facts.proofs.Printing.{tells}
use Rattle.sr_inv_facts.proofs.Taking.{TakesBook, takes}
use Rattle.sr_inv_facts.specs.InSweeps.{ClosedAre, ClosedHold, HasEnded, IsRetiring}
use Rattle.sr_inv_facts.specs.InTicks.{same}
use Rattle.sr_inv_facts.specs.Invariant.{Invariant}
use Rattle.sr_inv_facts.specs.Readings.{IsBehind, ring_words}
use Rattle.sr_inv_sweeps.proofs.ClosingStages.{if_close}
use Rattle.sr_inv_sweeps.proofs.Ending.{ended_more}
use Rattle.sr_law.specs.Retire.{retired_by}
use Rattle.sr_law.specs.declared.line.Line.{Line}
use Rattle.sr_machine.proofs.Following.{goes}
use Rattle.sr_machine.specs.Config.{Config}
use Rattle.sr_machine.specs.Core.{Core, printed}
use Rattle.sr_machine.specs.Deciding.{is_withdrawn, version_for}
use Rattle.sr_machine.specs.Draws.{answer_line, draw_line, phase_line}
use Rattle.sr_machine.specs.Goes.{Goes}
use Rattle.sr_machine.specs.Jobs.{book_next, job_next, judged_book, rings_next}
use Rattle.sr_machine.specs.Keeping.{AfterJob}
use Rattle.sr_machine.specs.Ops.{op_answer, op_name, op_words}
use Rattle.sr_machine.specs.Reads.{read_flag, read_report}
use Rattle.sr_machine.specs.Taking.{Taken, is_ended, taking}
use Rattle.sr_machine.specs.declared.controller_view.ControllerView.{ControllerView}
use Rattle.sr_machine.specs.declared.draw.Draw.{Draw}
use Rattle.sr_machine.specs.declared.job.Job.{Job}
use Rattle.sr_machine.specs.declared.op.Op.{Op}
use Rattle.sr_machine.specs.declared.pool_update.PoolUpdate.{PoolUpdate}
use Rattle.sr_shadow.specs.Book.{is_registered, with_changed, with_taken}
use Rattle.sr_shadow.specs.Entry.{fresh, closed, swept, settled, left_other}
use Rattle.sr_shadow.specs.declared.book.Book.{Book}
use Rattle.sr_shadow.specs.declared.entry.Entry.{Entry}
use Rattle.sr_inv_facts.proofs.Taking as takes_book
use Rattle.sr_machine.specs.Goes as go
use Rattle.sr_machine.specs.declared.draw.Draw.TheVariants as draw
use Rattle.sr_machine.specs.declared.store.Store.TheVariants as store
use Rattle.sr_machine.specs.declared.wait.Wait.TheVariants as wait
use Rattle.sr_machine.specs.declared.why.Why.TheVariants as why
use Rattle.sr_machine.specs.declared.job.Job.TheVariants as job
use Rattle.sr_law.specs.declared.line.Line.TheVariants as line
use Rattle.sr_machine.specs.declared.name.Name.TheVariants as name

-- of the step that there is
abbrev pub AtOp : Option Op → (Op → Type 0) → Type 0
AtOp None P = Unit {0}
AtOp (Some o) P = P o

-- ---- lines

phase_unretired : (u : PoolUpdate) (p : Phase) (x : ℕ) (key : KeyView) → retired_by (phase_line u x p) key ≡ None
phase_unretired u Steady x key = refl
phase_unretired u Recording x key = refl
phase_unretired u Holding x key = refl
phase_unretired u Transit x key = refl

-- a job retires this key with its line
abbrev pub Retires : Job → KeyView → Type 0
Retires (job.Draw (draw.Retired of place version)) key = of ≡ key
Retires j key = ⊥

line_unretired : (k : Config) (c : ControllerView) (d : Draw) (x : ℕ) (l : Line) (key : KeyView) → (Retires (job.Draw d) key → ⊥)
    → draw_line k c d x ≡ Some l → retired_by l key ≡ None
line_unretired k c (draw.Grace w) x l key off e = cc
line_unretired k c (draw.From ms) x l key off e = cc
line_unretired k c (draw.Comes u p) x l key off e = ap (λ z. retired_by z key) (sym (same_Some (phase_line u x p) l e)) ∙ phase_unretired u p x key
line_unretired k c (draw.Retired of place n) x l key off e = ap (λ z. retired_by z key) (sym (same_Some (line.Retired x of) l e)) ∙ at (same_key of key) refl
  where
    at : (b : Bool) → same_key of key ≡ b → (if b then Some x else None) ≡ None
    at true q = absurd (off (same_key-true of key q))
    at false q = refl
line_unretired k c (draw.Answer r) x l key off e = ap (λ z. retired_by z key) (sym (same_Some (answer_line k c r x) l e))
line_unretired k c (draw.Refused n) x l key off e = ap (λ z. retired_by z key) (sym (same_Some (line.Refused x n) l e))
line_unretired k c (draw.TakenDown n) x l key off e = ap (λ z. retired_by z key) (sym (same_Some (line.TakenDown x n) l e))
line_unretired k c (draw.Given u) x l key off e = ap (λ z. retired_by z key) (sym (same_Some (line.Given x u.vip u.given u.pool) l e))
line_unretired k c (draw.Reserved p) x l key off e = ap (λ z. retired_by z key) (sym (same_Some (line.Reserved x p.key p.place) l e))
line_unretired k c (draw.Placed p) x l key off e = ap (λ z. retired_by z key) (sym (same_Some (line.Placed x p.key p.place) l e))
line_unretired k c (draw.Cleared of place w) x l key off e = ap (λ z. retired_by z key) (sym (same_Some (line.Cleared x of place) l e))
line_unretired k c (draw.Swept from ms) x l key off e = ap (λ z. retired_by z key) (sym (same_Some (line.Swept (c.sweeps + 1) from x ms) l e))

-- a connection that isn't retired with the step had an Ending packet still
pub ended_tells : (s : Core) (j : Job) (key : KeyView) → (Retires j key → ⊥) → HasEnded s.pipes (printed s) key
    → HasEnded s.pipes (tells s.config s.controller j (s.words name.Tick) ++ printed s) key
ended_tells s (job.Draw d) key off h = at (draw_line s.config s.controller d (s.words name.Tick)) refl
  where
    at : (o : Option Line) → draw_line s.config s.controller d (s.words name.Tick) ≡ o → HasEnded s.pipes (option_to_list o ++ printed s) key
    at None e = h
    at (Some l) e = ended_more s.pipes l (printed s) key (line_unretired s.config s.controller d (s.words name.Tick) l key off e) h
ended_tells s j key off h = h

-- ---- a retirement goes on

-- jobs that take no word
abbrev pub IsOffTake : Job → Type 0
IsOffTake (job.Drain pipe count w) = ⊥
IsOffTake (job.Look pipe) = ⊥
IsOffTake j = Unit {0}

module _ (k : Config) (c : ControllerView) (x : ℕ) (key : KeyView) (p n : ℕ) (below : n < k.layout.shape.ring) where
  pub goes_retiring : (j m : Job) → Goes k c x j m → IsOffTake j → IsRetiring k.layout j key p n → IsRetiring k.layout m key p n
  goes_retiring j m (go.waits (wait.Retire of)) off h = h
  goes_retiring j m (go.cleared of place (why.Retired version)) off h = h
  goes_retiring j m (go.emptied of place (why.Retired version)) off h = h
  goes_retiring j m (go.pass_stays g pipe (wait.Retire of) e) off h = h
  goes_retiring j m (go.pass_next g pipe (wait.Retire of) e z) off h = h
  goes_retiring j m (go.pass_last g pipe (wait.Retire of) a b) off h = (h, λ z. none z)
    where
      none : IsBehind k.layout 0 0 p n → ⊥
      none (inl z) = omega arith
      none (inr z) = omega (arith, z.1)
  goes_retiring j m (go.drain_stays pipe count w e) off h = absurd off
  goes_retiring j m (go.drain_next pipe count w e z) off h = absurd off
  goes_retiring j m (go.drain_last pipe count w a b) off h = absurd off
  goes_retiring j m g off h = absurd h

-- ---- the book

pub all_passing : {X : Type 0} (P Q : X → Type 0) (test : X → Bool) → ((x : X) → test x ≡ true → P x → Q x) → (xs : List X) → AllByRecursion P xs
    → AllByRecursion Q (filter test xs)
all_passing P Q test turn [] a = tt
all_passing P Q test turn (x ∷ xs) a = at (test x) refl (all_passing P Q test turn xs a.1)
  where
    at : (b : Bool) → test x ≡ b → AllByRecursion Q (filter test xs) → AllByRecursion Q (cond b (x ∷ filter test xs) (filter test xs))
    at true q rest = (turn x q a.0, rest)
    at false q rest = rest

-- a fact of the keys of closed entries
abbrev pub ClosedBy : (KeyView → Type 0) → List Entry → Type 0
ClosedBy P es = AllByRecursion (λ e. e.closed ≡ true → P e.key) es

module _ (P : KeyView → Type 0) where
  pub closed_changed : (change : Entry → Entry) (key : KeyView) (es : List Entry) → ((e : Entry) → (change e).key ≡ e.key)
      → ((e : Entry) → (change e).closed ≡ e.closed) → ClosedBy P es → ClosedBy P (with_changed change key es)
  closed_changed change key es keys same a =
      changed_all (λ e. e.closed ≡ true → P e.key) (λ e. e.closed ≡ true → P e.key) change key
      (λ e q h c. subst P (sym (keys e)) (h (sym (same e) ∙ c))) (λ e q h. h) es a

  pub closed_taken : (key : KeyView) (version : ℕ) (book : Book) → ClosedBy P book.entries → ClosedBy P (with_taken key version book).entries
  closed_taken key version book a = at (is_registered key book.entries)
    where
      at : (b : Bool) → ClosedBy P (if b then book.entries else (book.entries ++ fresh key version book.taken ∷ []))
      at true = a
      at false =
          all_more (λ e. e.closed ≡ true → P e.key) book.entries (fresh key version book.taken ∷ []) a ((λ c. absurd (true≢false (sym c))), tt)

  -- a step that takes no word and retires nobody
  pub closed_book : (k : Config) (c : ControllerView) (j : Job) (x : ℕ) → IsOffTake j → ((key : KeyView) → Retires j key → ⊥)
      → ClosedBy P c.book.entries → ClosedBy P (book_next k c j x).entries
  closed_book k c (job.Draw (draw.Retired key place version)) x off none a = absurd (none key refl)
  closed_book k c (job.Store (store.Judge p)) x off none a = by (is_withdrawn k c p)
    where
      by : (b : Bool) → ClosedBy P (judged_book b p (version_for c.vips c.book.entries p.key) c.book).entries
      by true = a
      by false =
          closed_changed (settled p.place) p.key (with_taken p.key (version_for c.vips c.book.entries p.key) c.book).entries (λ e. refl) (λ e. refl)
          (closed_taken p.key (version_for c.vips c.book.entries p.key) c.book a)
  closed_book k c (job.Store (store.Empty key place w)) x off none a = closed_changed left_other key c.book.entries (λ e. refl) (λ e. refl) a
  closed_book k c (job.Drain pipe count w) x off none a = absurd off
  closed_book k c (job.Look pipe) x off none a = absurd off
  closed_book k c (job.Hit from ms key place taken) x off none a = closed_changed (swept (read_flag x)) key c.book.entries (λ e. refl) (λ e. refl) a
  closed_book k c j x off none a = a

  -- a word that is taken
  pub closed_take : (k : Config) (c : ControllerView) (ended : Option KeyView) (pipe x : ℕ)
      → ((w : RingWord) → read_report k.layout x ≡ Some w → w.kind ≡ Close → is_ended w.key ended ≡ false → P w.key)
      → ClosedBy P c.book.entries → ClosedBy P (taking k c ended pipe x).book.entries
  closed_take k c ended pipe x new a = at (taking k c ended pipe x) (takes k c ended pipe x).book
    where
      by : (b : Book) → TakesBook k.layout c.numbers ended x c.book b → ClosedBy P b.entries
      by b (takes_book.same_book u) = a
      by b (takes_book.learned_book w r q s n) =
          all_more (λ e. e.closed ≡ true → P e.key) c.book.entries (fresh w.key w.version c.book.taken ∷ []) a ((λ z. absurd (true≢false (sym z))), tt)
      by b (takes_book.closed_book w r q s) =
          changed_all (λ e. e.closed ≡ true → P e.key) (λ e. e.closed ≡ true → P e.key) closed w.key
          (λ e own h z. subst P (same_key-true w.key e.key own) (new w r q s)) (λ e own h. h) c.book.entries a

      at : (t : Taken) → TakesBook k.layout c.numbers ended x c.book t.book → ClosedBy P t.book.entries
      at t h = by t.book h

-- ---- a step without a take

module _ (s : Core) (i : Invariant s) where
  pub was_closed : (j : Job) → s.controller.job ≡ j
      → ClosedHold s.config.layout (ring_words s.words) s.controller.rings s.pipes s.controller.book.entries j (printed s)
  was_closed j e =
      subst (λ m. ClosedHold s.config.layout (ring_words s.words) s.controller.rings s.pipes s.controller.book.entries m (printed s)) e i.sweeps.sweeps.ended

  pub plain_closed : (j : Job) (o : Option Op) → s.controller.job ≡ j → IsOffTake j → ((key : KeyView) → Retires j key → ⊥)
      → ((x : ℕ) → rings_next s.config s.controller j x ≡ s.controller.rings)
      → AtOp o (λ o. (n c : ℕ) → op_words s.words o (name.Ring n c) ≡ s.words (name.Ring n c))
      → AfterJob (λ t. printed t ≡ tells s.config s.controller j (s.words name.Tick) ++ printed s) s j o → AfterJob ClosedAre s j o
  plain_closed j None e off none rings words lines = tt
  plain_closed j (Some o) e off none rings words lines =
      let x = op_answer o (s.words (op_name o)) in
      let m = job_next s.config s.controller j x in
      let now = tells s.config s.controller j (s.words name.Tick) ++ printed s in
      subst (ClosedHold s.config.layout (ring_words (op_words s.words o)) (rings_next s.config s.controller j x) s.pipes (book_next s.config s.controller j x).entries m)
      (sym lines)
      (subst (λ rs. ClosedHold s.config.layout (ring_words (op_words s.words o)) rs s.pipes (book_next s.config s.controller j x).entries m now) (sym (rings x)) (record {
        closed =
            closed_book (HasEnded s.pipes now) s.config s.controller j x off none
            (all_then (λ n. n.closed ≡ true → HasEnded s.pipes (printed s) n.key) (λ n. n.closed ≡ true → HasEnded s.pipes now n.key)
            (λ n h c. ended_tells s j n.key (none n.key) (h c)) s.controller.book.entries i.sweeps.sweeps.ended.closed);
        closes = λ p n b c r read.
            if_close r.kind (HasEnded s.pipes (printed s) r.key ⊎ IsRetiring s.config.layout j r.key p n) (HasEnded s.pipes now r.key ⊎ IsRetiring s.config.layout m r.key p n)
            (turn j x (job_next s.config s.controller j x) (goes s.config s.controller x j) off none p n c r)
            ((was_closed j e).closes p n b c r (ap (read_report s.config.layout) (sym (words p _)) ∙ read));
      }))
    where
      turn : (j : Job) (x : ℕ) (m : Job) → Goes s.config s.controller x j m → IsOffTake j → ((key : KeyView) → Retires j key → ⊥) → (p n : ℕ)
          → n < s.config.layout.shape.ring → (r : RingWord) → HasEnded s.pipes (printed s) r.key ⊎ IsRetiring s.config.layout j r.key p n
          → HasEnded s.pipes (tells s.config s.controller j (s.words name.Tick) ++ printed s) r.key ⊎ IsRetiring s.config.layout m r.key p n
      turn j x m g off none p n c r (inl h) = inl (ended_tells s j r.key (none r.key) h)
      turn j x m g off none p n c r (inr h) = inr (goes_retiring s.config s.controller x r.key p n c j m g off h)

-- In the controller's hands a board at rest stays so.
use Rattle.std.proofs.Common.{◌≡◌, ◌≢◌, ◌∙◌, ℕ, ◌+◌, ◌<◌, ◌==◌, ◌&&◌, ◌⊎◌, inl, inr, Bool, true, false, List, Option, Some, None, refl, sym, ap, subst, zero-add, if◌then◌else◌, arith}
use Rattle.std.proofs.lemmas.Bool.Decides.{nat_tests}
use Rattle.sr_base.specs.Layout.{LayoutView}
use Rattle.sr_base.specs.WordName.{HasWord, word_at}
use Rattle.sr_base.specs.declared.place.Place.{Place}
use Rattle.sr_base.specs.declared.word_name.WordName.{WordName}
use Rattle.sr_base.specs.declared.word_name.WordName.TheVariants as word
use Rattle.sr_core.specs.PlainWords.{HeldWords, ShowsWords}
use Rattle.sr_machine.proofs.Words.{named_there, rewritten_else, rewritten_here}
use Rattle.sr_machine.specs.Boards.{IsNext, QuietNote, ReportsAfter, ShowsAfter, StaysAtRest}
use Rattle.sr_machine.specs.Config.{Config}
use Rattle.sr_machine.specs.Controller.{controller_op}
use Rattle.sr_machine.specs.Deciding.{in_bounds}
use Rattle.sr_machine.specs.Jobs.{job_op}
use Rattle.sr_machine.specs.Names.{name_for, rewritten, word_name}
use Rattle.sr_machine.specs.Ops.{op_answer, op_name, op_words}
use Rattle.sr_machine.specs.Starting.{begun}
use Rattle.sr_machine.specs.Stores.{store_name}
use Rattle.sr_machine.specs.declared.actor.Actor.{Actor}
use Rattle.sr_machine.specs.declared.actor.Actor.TheVariants.{Pipe, Controller}
use Rattle.sr_machine.specs.declared.controller_view.ControllerView.{ControllerView}
use Rattle.sr_machine.specs.declared.job.Job.{Job}
use Rattle.sr_machine.specs.declared.job.Job.TheVariants as job
use Rattle.sr_machine.specs.declared.name.Name.{Name}
use Rattle.sr_machine.specs.declared.name.Name.TheVariants.{Tick, Note, Ring, Hit}
use Rattle.sr_machine.specs.declared.op.Op.{Op}
use Rattle.sr_machine.specs.declared.op.Op.TheVariants.{Loads, Stores, Swaps, Adds, Ors}
use Rattle.sr_machine.specs.declared.store.Store.{Store}
use Rattle.sr_machine.specs.declared.store.Store.TheVariants as store
use Rattle.sr_machine.specs.declared.view.View.{View}
use Rattle.sr_machine.specs.declared.view.View.TheVariants.{OfPipe, OfController}
use Rattle.sr_plain.proofs.Totals.{total_less, total_same}
use Rattle.sr_plain.specs.Actors.{FitsActor, IsOf}
use Rattle.sr_plain.specs.Resting.{IsAtRest, filled, reports_in, total}

-- ---- what the controller does to a word

-- no controller stores a note or a report; what it swaps, it swaps for 0; it adds to the tick alone
abbrev pub Makes : Op → Type 0
Makes (Loads n) = Unit {0}
Makes (Stores n x) = (s : Store) × (n ≡ store_name s)
Makes (Swaps n x) = ((p : ℕ) → n ≢ Note p) × (x ≡ 0)
Makes (Adds n x) = n ≡ Tick
Makes (Ors n x) = ⊥

job_makes : (k : Config) (c : ControllerView) (j : Job) (op : Op) → job_op k c j ≡ Some op → Makes op
job_makes k c job.Free op e = cc
job_makes k c (job.Draw d) op e = let same : Adds Tick 1 ≡ op = cc in subst Makes same refl
job_makes k c (job.Store s) (Loads n) e = tt
job_makes k c (job.Store s) (Stores n x) e = (s, cc)
job_makes k c (job.Store s) (Swaps n x) e = cc
job_makes k c (job.Store s) (Adds n x) e = cc
job_makes k c (job.Store s) (Ors n x) e = cc
job_makes k c (job.Pass grace pipe w) (Loads n) e = tt
job_makes k c (job.Pass grace pipe w) (Stores n x) e = cc
job_makes k c (job.Pass grace pipe w) (Swaps n x) e = cc
job_makes k c (job.Pass grace pipe w) (Adds n x) e = cc
job_makes k c (job.Pass grace pipe w) (Ors n x) e = cc
job_makes k c (job.Drain pipe count w) (Loads n) e = tt
job_makes k c (job.Drain pipe count w) (Stores n x) e = cc
job_makes k c (job.Drain pipe count w) (Swaps n x) e = (λ p f. cc, cc)
job_makes k c (job.Drain pipe count w) (Adds n x) e = cc
job_makes k c (job.Drain pipe count w) (Ors n x) e = cc
job_makes k c (job.Look pipe) (Loads n) e = tt
job_makes k c (job.Look pipe) (Stores n x) e = cc
job_makes k c (job.Look pipe) (Swaps n x) e = (λ p f. cc, cc)
job_makes k c (job.Look pipe) (Adds n x) e = cc
job_makes k c (job.Look pipe) (Ors n x) e = cc
job_makes k c (job.Hit from ms key place taken) (Loads n) e = tt
job_makes k c (job.Hit from ms key place taken) (Stores n x) e = cc
job_makes k c (job.Hit from ms key place taken) (Swaps n x) e = (λ p f. cc, cc)
job_makes k c (job.Hit from ms key place taken) (Adds n x) e = cc
job_makes k c (job.Hit from ms key place taken) (Ors n x) e = cc

made_if : (b : Bool) (k : Config) (c : ControllerView) (op : Op) → (if b then job_op k c c.job else None) ≡ Some op → Makes op
made_if true k c op e = job_makes k c c.job op e
made_if false k c op e = cc

-- the next step of the controller's board
pub next_makes : (l : LayoutView) (a : Actor) (op : Op) → IsNext (FitsActor l a) op → a ≡ Controller → Makes op
next_makes l (Pipe p) op n e = cc
next_makes l Controller op (k, OfPipe v, h, o) e = absurd h.1
next_makes l Controller op (k, OfController c, h, o) e = made_if (in_bounds c) k (begun k c) op o

module _ (words : Name → ℕ) (x : ℕ) where
  store_note : (s : Store) (p : ℕ) → rewritten words (store_name s) x (Note p) ≡ words (Note p)
  store_note (store.Down server) p = refl
  store_note (store.Member u index) p = refl
  store_note (store.Head u) p = refl
  store_note (store.Vip u phase) p = refl
  store_note (store.Filter u index) p = refl
  store_note (store.Reserved put) p = refl
  store_note (store.Judge put) p = refl
  store_note (store.Empty key place w) p = refl

  store_ring : (s : Store) (p c : ℕ) → rewritten words (store_name s) x (Ring p c) ≡ words (Ring p c)
  store_ring (store.Down server) p c = refl
  store_ring (store.Member u index) p c = refl
  store_ring (store.Head u) p c = refl
  store_ring (store.Vip u phase) p c = refl
  store_ring (store.Filter u index) p c = refl
  store_ring (store.Reserved put) p c = refl
  store_ring (store.Judge put) p c = refl
  store_ring (store.Empty key place w) p c = refl

-- ---- the words after a step

-- After a step the board has this layout and these words.
pub record Stepped (h g : HeldWords) (op : Op) : Type 0 where
  pub same : g.layout ≡ h.layout
  pub words : (words : Name → ℕ) → ShowsWords h.layout h.words words → ShowsWords g.layout g.words (op_words words op)

pub stepped_by : (h i g : HeldWords) (op other : Op) → i ≡ h → op ≡ other → g.layout ≡ i.layout
    → ((words : Name → ℕ) → ShowsWords i.layout i.words words → ShowsWords g.layout g.words (op_words words op))
    → Stepped h g other
stepped_by h i g op other e o same words =
    subst (λ (m : Op). Stepped h g m) o
    (subst (λ (k : HeldWords). Stepped k g op) e (record { same = same; words = words }))

-- what was told of the words is told of them after the step
pub shown_by : (h i g : HeldWords) (op other : Op) (x : ℕ) → i ≡ h → op ≡ other
    → ((words : Name → ℕ) → ShowsWords i.layout i.words words → x ≡ op_answer op (words (op_name op))) → Stepped h g other
    → ShowsAfter (ShowsWords h.layout h.words) other x (ShowsWords g.layout g.words)
shown_by h i g op other x e o answer after words s = (
  subst (λ (m : Op). x ≡ op_answer m (words (op_name m))) o
      (answer words (subst (λ (k : HeldWords). ShowsWords k.layout k.words words) (sym e) s)),
  after.words words s,
)

-- the word of a name, whatever the layout has
abbrev shown : HeldWords → Name → ℕ
shown h name = word_at h.layout h.words (word_name name)

pub answer_is : (h i : HeldWords) (x : ℕ) (n : Name) (at : WordName) → i ≡ h → n ≡ name_for at
    → ((words : Name → ℕ) → ShowsWords i.layout i.words words → x ≡ words n) → x ≡ word_at h.layout h.words at
answer_is h i x n at e o answer =
    answer (shown i) (λ name has. refl) ∙ ap (λ (k : HeldWords). shown k n) e ∙ ap (shown h) o
    ∙ ap (word_at h.layout h.words) (named_there at)

-- a note is 0 at rest
pub quiet_note : (h : HeldWords) (a : Actor) (at : WordName) (x : ℕ) → HasWord h.layout at → x ≡ word_at h.layout h.words at
    → IsAtRest h a → QuietNote at x
quiet_note h a word.Tick x has e r = tt
quiet_note h a (word.Note pipe) x has e r = e ∙ r.notes pipe has
quiet_note h a (word.Ring pipe cell) x has e r = tt
quiet_note h a (word.Slot way bucket cell) x has e r = tt
quiet_note h a (word.Full row) x has e r = tt
quiet_note h a (word.Hit place) x has e r = tt
quiet_note h a (word.Vip vip) x has e r = tt
quiet_note h a (word.Head vip version) x has e r = tt
quiet_note h a (word.Member vip version index) x has e r = tt
quiet_note h a (word.Down server) x has e r = tt
quiet_note h a (word.Filter index) x has e r = tt

module _ (h g : HeldWords) (op : Op) (after : Stepped h g op) where
  now : (name : Name) → HasWord g.layout (word_name name) → shown g name ≡ op_words (shown h) op name
  now = after.words (shown h) (λ name has. refl)

  rest_kept : (a : Actor) → ((p : ℕ) → op_words (shown h) op (Note p) ≡ shown h (Note p)) → IsAtRest h a → IsAtRest g a
  rest_kept a leaves r = record {
    actor = r.actor;
    notes = λ p b. now (Note p) b ∙ leaves p ∙ r.notes p (subst (λ (l : LayoutView). p < l.shape.pipes) after.same b);
  }

  -- the reports after the step, read off the words before it
  reports_then : reports_in g
      ≡ total h.layout.shape.pipes (λ p. total h.layout.shape.ring (λ c. filled (op_words (shown h) op (Ring p c))))
  reports_then =
      total_same g.layout.shape.pipes
      (λ p. total g.layout.shape.ring (λ c. filled (shown g (Ring p c))))
      (λ p. total g.layout.shape.ring (λ c. filled (op_words (shown h) op (Ring p c))))
      (λ p b. total_same g.layout.shape.ring (λ c. filled (shown g (Ring p c)))
      (λ c. filled (op_words (shown h) op (Ring p c))) (λ c d. ap filled (now (Ring p c) (b, d))))
      ∙ ap (λ (l : LayoutView). total l.shape.pipes (λ p. total l.shape.ring (λ c. filled (op_words (shown h) op (Ring p c))))) after.same

  reports_kept : ((p c : ℕ) → op_words (shown h) op (Ring p c) ≡ shown h (Ring p c)) → reports_in g ≡ reports_in h
  reports_kept leaves =
      reports_then
      ∙ total_same h.layout.shape.pipes
      (λ p. total h.layout.shape.ring (λ c. filled (op_words (shown h) op (Ring p c))))
      (λ p. total h.layout.shape.ring (λ c. filled (shown h (Ring p c))))
      (λ p b. total_same h.layout.shape.ring (λ c. filled (op_words (shown h) op (Ring p c)))
      (λ c. filled (shown h (Ring p c))) (λ c d. ap filled (leaves p c)))

-- ---- each kind of step

pub load_rests : (h g : HeldWords) (n : Name) → Stepped h g (Loads n) → (a : Actor)
    → StaysAtRest (IsAtRest h a) (reports_in h) (IsAtRest g a) (reports_in g)
load_rests h g n after a = record {
  still = rest_kept h g (Loads n) after a (λ p. refl);
  same = λ r. reports_kept h g (Loads n) after (λ p c. refl);
}

pub store_rests : (h g : HeldWords) (n : Name) (x : ℕ) → Stepped h g (Stores n x) → (a : Actor)
    → IsNext (FitsActor h.layout a) (Stores n x) → StaysAtRest (IsAtRest h a) (reports_in h) (IsAtRest g a) (reports_in g)
store_rests h g n x after a next = record {
  still = λ r.
      let s = next_makes h.layout a (Stores n x) next r.actor in
      rest_kept h g (Stores n x) after a
      (λ p. ap (λ (m : Name). rewritten (shown h) m x (Note p)) s.1 ∙ store_note (shown h) x s.0 p) r;
  same = λ r.
      let s = next_makes h.layout a (Stores n x) next r.actor in
      reports_kept h g (Stores n x) after
      (λ p c. ap (λ (m : Name). rewritten (shown h) m x (Ring p c)) s.1 ∙ store_ring (shown h) x s.0 p c);
}

pub add_rests : (h g : HeldWords) (n : Name) (x : ℕ) → Stepped h g (Adds n x) → (a : Actor)
    → IsNext (FitsActor h.layout a) (Adds n x) → StaysAtRest (IsAtRest h a) (reports_in h) (IsAtRest g a) (reports_in g)
add_rests h g n x after a next = record {
  still = λ r.
      rest_kept h g (Adds n x) after a
      (λ p. ap (λ (m : Name). op_words (shown h) (Adds m x) (Note p)) (next_makes h.layout a (Adds n x) next r.actor)) r;
  same = λ r.
      reports_kept h g (Adds n x) after
      (λ p c. ap (λ (m : Name). op_words (shown h) (Adds m x) (Ring p c)) (next_makes h.layout a (Adds n x) next r.actor));
}

-- ---- a swap

swapped_pipe : (w : Name → ℕ) (q d p c x : ℕ) → p ≢ q → rewritten w (Ring q d) x (Ring p c) ≡ w (Ring p c)
swapped_pipe w q d p c x h = rewritten_else w (Ring q d) (Ring p c) x (grind (arith, nat_tests))

swapped_cell : (w : Name → ℕ) (q d c x : ℕ) → c ≢ d → rewritten w (Ring q d) x (Ring q c) ≡ w (Ring q c)
swapped_cell w q d c x h = rewritten_else w (Ring q d) (Ring q c) x (grind (arith, nat_tests))

-- a cell that was emptied had this report
taken_from : (w : Name → ℕ) (pipes ring q d : ℕ) → q < pipes → d < ring
    → total pipes (λ p. total ring (λ c. filled (w (Ring p c))))
    ≡ total pipes (λ p. total ring (λ c. filled (rewritten w (Ring q d) 0 (Ring p c)))) + filled (w (Ring q d))
taken_from w pipes ring q d b e =
    total_less pipes q (filled (w (Ring q d))) (λ p. total ring (λ c. filled (w (Ring p c))))
    (λ p. total ring (λ c. filled (rewritten w (Ring q d) 0 (Ring p c)))) b
    (total_less ring d (filled (w (Ring q d))) (λ c. filled (w (Ring q c))) (λ c. filled (rewritten w (Ring q d) 0 (Ring q c))) e
    (sym (zero-add (filled (w (Ring q d)))) ∙ ap (λ n. filled n + filled (w (Ring q d))) (sym (rewritten_here w (Ring q d) 0)))
    (λ c f k. ap filled (sym (swapped_cell w q d c 0 k))))
    (λ p f k. total_same ring (λ c. filled (w (Ring p c))) (λ c. filled (rewritten w (Ring q d) 0 (Ring p c)))
    (λ c m. ap filled (sym (swapped_pipe w q d p c 0 k))))

module _ (h g : HeldWords) (a : Actor) (x : ℕ) where
  pub swap_rests : (at : WordName) → HasWord h.layout at → Stepped h g (Swaps (name_for at) x)
      → IsNext (FitsActor h.layout a) (Swaps (name_for at) x) → IsAtRest h a → IsAtRest g a
  swap_rests word.Tick has after next r = rest_kept h g (Swaps (name_for word.Tick) x) after a (λ p. refl) r
  swap_rests (word.Note pipe) has after next r =
      absurd ((next_makes h.layout a (Swaps (Note pipe) x) next r.actor).0 pipe refl)
  swap_rests (word.Ring pipe cell) has after next r = rest_kept h g (Swaps (Ring pipe cell) x) after a (λ p. refl) r
  swap_rests (word.Slot way bucket cell) has after next r =
      rest_kept h g (Swaps (name_for (word.Slot way bucket cell)) x) after a (λ p. refl) r
  swap_rests (word.Full row) has after next r = rest_kept h g (Swaps (name_for (word.Full row)) x) after a (λ p. refl) r
  swap_rests (word.Hit place) has after next r = rest_kept h g (Swaps (name_for (word.Hit place)) x) after a (λ p. refl) r
  swap_rests (word.Vip vip) has after next r = rest_kept h g (Swaps (name_for (word.Vip vip)) x) after a (λ p. refl) r
  swap_rests (word.Head vip version) has after next r =
      rest_kept h g (Swaps (name_for (word.Head vip version)) x) after a (λ p. refl) r
  swap_rests (word.Member vip version index) has after next r =
      rest_kept h g (Swaps (name_for (word.Member vip version index)) x) after a (λ p. refl) r
  swap_rests (word.Down server) has after next r = rest_kept h g (Swaps (name_for (word.Down server)) x) after a (λ p. refl) r
  swap_rests (word.Filter index) has after next r = rest_kept h g (Swaps (name_for (word.Filter index)) x) after a (λ p. refl) r

  pub swap_reports : (at : WordName) (answer : ℕ) → HasWord h.layout at → answer ≡ word_at h.layout h.words at
      → Stepped h g (Swaps (name_for at) x) → IsNext (FitsActor h.layout a) (Swaps (name_for at) x) → IsAtRest h a
      → ReportsAfter at answer (reports_in h) (reports_in g)
  swap_reports word.Tick answer has e after next r = reports_kept h g (Swaps (name_for word.Tick) x) after (λ p c. refl)
  swap_reports (word.Note pipe) answer has e after next r = reports_kept h g (Swaps (Note pipe) x) after (λ p c. refl)
  swap_reports (word.Ring pipe cell) answer has e after next r =
      let emptied : x ≡ 0 = (next_makes h.layout a (Swaps (Ring pipe cell) x) next r.actor).1 in
      taken_from (shown h) h.layout.shape.pipes h.layout.shape.ring pipe cell has.0 has.1
      ∙ ap (λ n. n + filled (shown h (Ring pipe cell)))
      (ap (λ y. total h.layout.shape.pipes (λ p. total h.layout.shape.ring (λ c. filled (rewritten (shown h) (Ring pipe cell) y (Ring p c)))))
      (sym emptied) ∙ sym (reports_then h g (Swaps (Ring pipe cell) x) after))
      ∙ ap (λ y. reports_in g + filled y) (sym e)
  swap_reports (word.Slot way bucket cell) answer has e after next r =
      reports_kept h g (Swaps (name_for (word.Slot way bucket cell)) x) after (λ p c. refl)
  swap_reports (word.Full row) answer has e after next r = reports_kept h g (Swaps (name_for (word.Full row)) x) after (λ p c. refl)
  swap_reports (word.Hit place) answer has e after next r =
      reports_kept h g (Swaps (name_for (word.Hit place)) x) after (λ p c. refl)
  swap_reports (word.Vip vip) answer has e after next r = reports_kept h g (Swaps (name_for (word.Vip vip)) x) after (λ p c. refl)
  swap_reports (word.Head vip version) answer has e after next r =
      reports_kept h g (Swaps (name_for (word.Head vip version)) x) after (λ p c. refl)
  swap_reports (word.Member vip version index) answer has e after next r =
      reports_kept h g (Swaps (name_for (word.Member vip version index)) x) after (λ p c. refl)
  swap_reports (word.Down server) answer has e after next r =
      reports_kept h g (Swaps (name_for (word.Down server)) x) after (λ p c. refl)
  swap_reports (word.Filter index) answer has e after next r =
      reports_kept h g (Swaps (name_for (word.Filter index)) x) after (λ p c. refl)

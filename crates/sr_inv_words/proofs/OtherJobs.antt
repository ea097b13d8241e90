-- The controller's steps keep the words of virtual addresses and servers, those that are being written, and those of the filter.
use Rattle.std.proofs.Common.{◌≡◌, ℕ, ◌+◌, ◌<◌, ◌≤◌, Bool, true, false, cond, not, ◌&&◌, ◌||◌, List, [], ◌∷◌, ◌++◌, length, if◌then◌else◌, nat_eq, ◌==◌, slice_index, slice_set, Some, None, count_by, Option, sym, refl, ap, ◌∙◌, subst, inl, inr, arith, get_or-set_other, get_or-set_same}
use Rattle.std.proofs.lemmas.Bool.Decides.{nat_tests}
use Rattle.std.proofs.lemmas.List.Sums.{sum_by-cons}
use Rattle.sr_base.specs.Fitting.{takes_down}
use Rattle.sr_base.specs.VipWord.{packed_vip}
use Rattle.sr_base.specs.WordName.{filter_words}
use Rattle.sr_base.specs.declared.change.Change.{Change}
use Rattle.sr_base.specs.declared.change.What.{What}
use Rattle.sr_base.specs.declared.change.What.TheVariants.{Give, TakeDown}
use Rattle.sr_base.specs.declared.vip_word.Phase.{Phase}
use Rattle.sr_base.specs.declared.vip_word.Phase.TheVariants.{Steady, Recording, Holding, Transit}
use Rattle.sr_base.specs.declared.vip_word.VipWord.{VipWord}
use Rattle.sr_inv_facts.proofs.Lists.{of_some}
use Rattle.sr_inv_facts.proofs.Plain.{OfPlain, plain_cleared, plain_passed, plain_phase, plain_vip, plain_waited}
use Rattle.sr_inv_facts.specs.InJobs.{JobHolds, seen}
use Rattle.sr_inv_facts.specs.InShape.{servers_of, downing}
use Rattle.sr_inv_facts.specs.InUpdate.{AtPhase, JobAt, UpdateFits}
use Rattle.sr_inv_facts.specs.InWords.{ClearedBelow, Written, is_downing, IsCleared, MembersWritten, down_word}
use Rattle.sr_inv_facts.specs.Invariant.{Invariant}
use Rattle.sr_inv_words.proofs.Marking.{holding_isnt, recording_isnt, transit_isnt}
use Rattle.sr_inv_words.proofs.PoolWords.{FilterIs}
use Rattle.sr_machine.proofs.Following.{goes}
use Rattle.sr_machine.proofs.Words.{rewritten_here}
use Rattle.sr_machine.specs.Config.{Config}
use Rattle.sr_machine.specs.Core.{Core, printed}
use Rattle.sr_machine.specs.Deciding.{is_down, vip_at, update_pool}
use Rattle.sr_machine.specs.Goes.{Goes}
use Rattle.sr_machine.specs.Jobs.{down_next, job_next, job_op, update_next, vips_next}
use Rattle.sr_machine.specs.Keeping.{AfterJob}
use Rattle.sr_machine.specs.Names.{rewritten}
use Rattle.sr_machine.specs.Opening.{outages_in}
use Rattle.sr_machine.specs.Ops.{op_answer, op_name, op_words}
use Rattle.sr_machine.specs.Reads.{steady}
use Rattle.sr_machine.specs.Stores.{is_last_filter, is_last_member, phase_word, vip_draw}
use Rattle.sr_machine.specs.declared.controller_view.ControllerView.{ControllerView}
use Rattle.sr_machine.specs.declared.job.Job.{Job}
use Rattle.sr_machine.specs.declared.name.Name.{Name}
use Rattle.sr_machine.specs.declared.op.Op.{Op}
use Rattle.sr_machine.specs.declared.pool_update.PoolUpdate.{PoolUpdate}
use Rattle.sr_machine.specs.Goes as go
use Rattle.sr_machine.specs.declared.draw.Draw.TheVariants as draw
use Rattle.sr_machine.specs.declared.store.Store.TheVariants as store
use Rattle.sr_machine.specs.declared.job.Job.TheVariants as job
use Rattle.sr_machine.specs.declared.name.Name.TheVariants as name

-- a virtual address's word after a write
vip_set : (vips : List VipWord) (m n : ℕ) (w : VipWord) → m < length vips → vip_at (slice_set vips m w) n ≡ (if m == n then w else vip_at vips n)
vip_set vips m n w b = at (m == n) refl
  where
    at : (t : Bool) → (m == n) ≡ t → vip_at (slice_set vips m w) n ≡ (if t then w else vip_at vips n)
    at true e = let same : m ≡ n = grind (arith, nat_tests) in subst (λ z. vip_at (slice_set vips m w) z ≡ w) same (get_or-set_same vips m w (steady 0) b)
    at false e = get_or-set_other vips m n w (steady 0) (grind (arith, nat_tests))

-- ---- servers

abbrev pub part : Bool → ℕ
part b = if b then 1 else 0

counts : (b : Bool) → b ≡ true → 1 ≤ cond b 1 0
counts true e = omega arith
counts false e = cc

-- how often a server is taken down by the changes
module _ (x : ℕ) where
  counted : (changes : List Change)
      → count_by (nat_eq x) (servers_of (outages_in changes)) ≤ count_by (λ change. takes_down x change.what) changes
  counted [] = omega arith
  counted (change ∷ rest) = omega (arith, at (counted rest) change.what, sum_by-cons (λ c. cond (takes_down x c.what) 1 0) change rest)
    where
      at : count_by (nat_eq x) (servers_of (outages_in rest)) ≤ count_by (λ c. takes_down x c.what) rest → (w : What)
          → count_by (nat_eq x) (servers_of (elim w [
            | Give vip pool ↦ outages_in rest
            | TakeDown server ↦ record { at_ms = change.at_ms; server = server } ∷ outages_in rest
          ]))
          ≤ cond (takes_down x w) 1 0 + count_by (λ c. takes_down x c.what) rest
      at more (Give vip pool) = omega arith
      at more (TakeDown server) =
          let one : part (nat_eq x server) ≡ part (server == x) = ap part (grind (arith, nat_tests)) in
          omega (arith, more, one, sum_by-cons (λ n. cond (nat_eq x n) 1 0) server (servers_of (outages_in rest)))

  one_here : (down rest : List ℕ) → 1 ≤ count_by (nat_eq x) ((down ++ x ∷ []) ++ rest)
  one_here [] rest = omega (arith, counts (nat_eq x x) (grind (arith, nat_tests)), sum_by-cons (λ n. cond (nat_eq x n) 1 0) x rest)
  one_here (y ∷ down) rest = omega (arith, one_here down rest, sum_by-cons (λ n. cond (nat_eq x n) 1 0) y ((down ++ x ∷ []) ++ rest))

  -- one that is counted at most once wasn't taken down before
  not_yet : (down rest : List ℕ) → count_by (nat_eq x) ((down ++ x ∷ []) ++ rest) ≤ 1 → is_down down x ≡ false
  not_yet [] rest h = refl
  not_yet (y ∷ down) rest h = at (nat_eq x y) refl (not_yet down rest)
    where
      most : cond (nat_eq x y) 1 0 + count_by (nat_eq x) ((down ++ x ∷ []) ++ rest) ≤ 1
      most = omega (arith, h, sum_by-cons (λ n. cond (nat_eq x n) 1 0) y ((down ++ x ∷ []) ++ rest))

      at : (t : Bool) → nat_eq x y ≡ t → (count_by (nat_eq x) ((down ++ x ∷ []) ++ rest) ≤ 1 → is_down down x ≡ false) → (t || is_down down x) ≡ false
      at true e more = absurd (omega (arith, counts (nat_eq x y) e, most, one_here down rest))
      at false e more = more (omega (arith, most))

-- the servers taken down are one more
down_more : (down : List ℕ) (x n : ℕ) → is_down (down ++ x ∷ []) n ≡ (is_down down n || (nat_eq n x || false))
down_more [] x n = refl
down_more (y ∷ down) x n = by (nat_eq n y) (down_more down x n)
  where
    by : (b : Bool) → is_down (down ++ x ∷ []) n ≡ (is_down down n || (nat_eq n x || false))
        → (b || is_down (down ++ x ∷ []) n) ≡ ((b || is_down down n) || (nat_eq n x || false))
    by true h = refl
    by false h = h

-- ---- what follows tells no server down, writes no version and has cleared nothing

none_downing : (n : ℕ) → OfPlain (λ j. is_downing j n ≡ false)
none_downing n = record {
  free = refl;
  comes = λ u p. refl;
  coming = λ u p. refl;
  retiring = λ key. refl;
  answer = λ r. refl;
  phase = λ u p. refl;
  filter = λ u. refl;
  source = λ key from. refl;
  judge = λ p. refl;
  drain = λ w. refl;
}

none_written : (k : Config) (words : Name → ℕ) → OfPlain (Written k words)
none_written k words = record {
  free = tt;
  comes = λ u p. tt;
  coming = λ u p. tt;
  retiring = λ key. tt;
  answer = λ r. tt;
  phase = λ u p. tt;
  filter = λ u. tt;
  source = λ key from. tt;
  judge = λ p. tt;
  drain = λ w. tt;
}

none_cleared : (n : ℕ) → OfPlain (λ j. ClearedBelow j n → ⊥)
none_cleared n = record {
  free = λ c. c;
  comes = λ u p c. c;
  coming = λ u p c. c;
  retiring = λ key c. c;
  answer = λ r c. c;
  phase = λ u p c. c;
  filter = λ u c. omega arith;
  source = λ key from c. c;
  judge = λ p c. c;
  drain = λ w c. c;
}

module _ (k : Config) (c : ControllerView) (x : ℕ) where
  goes_undowned : (n : ℕ) (j m : Job) → Goes k c x j m → downing j ≡ [] → is_downing m n ≡ false
  goes_undowned n j m (go.taken_down server) e = cc
  goes_undowned n j m (go.comes u p) e = plain_phase (λ j. is_downing j n ≡ false) (none_downing n) u p
  goes_undowned n j m (go.cleared key place w) e = plain_cleared (λ j. is_downing j n ≡ false) (none_downing n) key w
  goes_undowned n j m (go.phase_stored u p) e = plain_vip (λ j. is_downing j n ≡ false) (none_downing n) u p
  goes_undowned n j m (go.pass_last g pipe w a b) e = plain_passed (λ j. is_downing j n ≡ false) (none_downing n) w
  goes_undowned n j m (go.drain_last pipe count w a b) e = plain_waited (λ j. is_downing j n ≡ false) (none_downing n) c.vips _ w
  goes_undowned n j m g e = refl

-- ---- a step

-- of the step that there is
abbrev pub AtOp : Option Op → (Op → Type 0) → Type 0
AtOp None P = Unit {0}
AtOp (Some o) P = P o

-- jobs that store no phase and clear no filter
abbrev pub IsOffFilter : Job → Type 0
IsOffFilter (job.Store (store.Vip u p)) = ⊥
IsOffFilter (job.Store (store.Filter u index)) = ⊥
IsOffFilter j = Unit {0}

-- jobs that tell no server down
abbrev pub IsOffDown : Job → Type 0
IsOffDown (job.Draw (draw.TakenDown server)) = ⊥
IsOffDown (job.Store (store.Down server)) = ⊥
IsOffDown j = Unit {0}

-- jobs that write no version
abbrev pub IsOffPools : Job → Type 0
IsOffPools (job.Store (store.Member u index)) = ⊥
IsOffPools (job.Store (store.Head u)) = ⊥
IsOffPools j = Unit {0}

module _ (k : Config) (c : ControllerView) (x : ℕ) where
  goes_uncleared : (n : ℕ) (j m : Job) → Goes k c x j m → IsOffFilter j → ClearedBelow m n → ⊥
  goes_uncleared n j m (go.comes u p) e h = plain_phase (λ j. ClearedBelow j n → ⊥) (none_cleared n) u p h
  goes_uncleared n j m (go.cleared key place w) e h = plain_cleared (λ j. ClearedBelow j n → ⊥) (none_cleared n) key w h
  goes_uncleared n j m (go.phase_stored u p) e h = absurd e
  goes_uncleared n j m (go.filter_next u index a) e h = absurd e
  goes_uncleared n j m (go.filter_last u index a) e h = absurd e
  goes_uncleared n j m (go.pass_last g pipe w a b) e h = plain_passed (λ j. ClearedBelow j n → ⊥) (none_cleared n) w h
  goes_uncleared n j m (go.drain_last pipe count w a b) e h = plain_waited (λ j. ClearedBelow j n → ⊥) (none_cleared n) c.vips _ w h
  goes_uncleared n j m g e h = absurd h

  goes_unwritten : (words : Name → ℕ) (j m : Job) → Goes k c x j m → IsOffPools j → Written k words m
  goes_unwritten words j m (go.comes u p) e = plain_phase (Written k words) (none_written k words) u p
  goes_unwritten words j m (go.cleared key place w) e = plain_cleared (Written k words) (none_written k words) key w
  goes_unwritten words j m (go.member_next u index a) e = absurd e
  goes_unwritten words j m (go.member_last u index a) e = absurd e
  goes_unwritten words j m (go.head u) e = absurd e
  goes_unwritten words j m (go.phase_stored u p) e = plain_vip (Written k words) (none_written k words) u p
  goes_unwritten words j m (go.pass_last g pipe w a b) e = plain_passed (Written k words) (none_written k words) w
  goes_unwritten words j m (go.drain_last pipe count w a b) e = plain_waited (Written k words) (none_written k words) c.vips _ w
  goes_unwritten words j m g e = tt

-- what isn't cleared by a job is cleared before it
pub kept_cleared : (o : Option PoolUpdate) (vips : List VipWord) (j m : Job) (n : ℕ) → (ClearedBelow m n → ⊥) → IsCleared o vips m n
    → IsCleared o vips j n
kept_cleared None vips j m n none c = tt
kept_cleared (Some u) vips j m n none (inl h) = inl h
kept_cleared (Some u) vips j m n none (inr h) = absurd (none h)

abbrev pub VipsAre : Core → Type 0
VipsAre t = (vip : ℕ) → t.words (name.Vip vip) ≡ packed_vip (vip_at t.controller.vips vip)

abbrev pub DownsAre : Core → Type 0
DownsAre t = (server : ℕ) → t.words (name.Down server) ≡ down_word t.controller.down t.controller.job server

abbrev pub WrittenIs : Core → Type 0
WrittenIs t = Written t.config t.words t.controller.job

abbrev pub FilterKept : Core → Type 0
FilterKept t = FilterIs t.config t.words t.controller

module _ (s : Core) (i : Invariant s) where
  at_phase : (j : Job) → s.controller.job ≡ j → JobAt s.config s.controller.update s.controller.vips j
  at_phase j e = subst (JobAt s.config s.controller.update s.controller.vips) e i.update.update.phase

  -- ---- phases

  -- a phase that is stored is that of the update under way
  storing : (u : PoolUpdate) (p : Phase) → s.controller.job ≡ job.Store (store.Vip u p) → s.controller.update ≡ Some u
  storing u p e = at p (at_phase (job.Store (store.Vip u p)) e)
    where
      at : (p : Phase) → JobAt s.config s.controller.update s.controller.vips (job.Store (store.Vip u p)) → s.controller.update ≡ Some u
      at Steady a = a.0
      at Recording a = a.0
      at Holding a = a.0
      at Transit a = a.0

  fits : (u : PoolUpdate) → s.controller.update ≡ Some u → UpdateFits s.config u
  fits u e = of_some (UpdateFits s.config) s.controller.update u i.update.update.fits e

  vip_stored : (u : PoolUpdate) (p : Phase) → s.controller.job ≡ job.Store (store.Vip u p) → (n : ℕ)
      → vip_at (slice_set s.controller.vips u.vip (phase_word u p)) n ≡ (if u.vip == n then phase_word u p else vip_at s.controller.vips n)
  vip_stored u p e n =
      vip_set s.controller.vips u.vip n (phase_word u p) (omega (arith, (fits u (storing u p e)).vip, i.shape.controller.vips))

  pub vip_job : (j : Job) → s.controller.job ≡ j → AfterJob VipsAre s j (job_op s.config s.controller j)
  vip_job job.Free e = tt
  vip_job (job.Store (store.Vip u p)) e = λ n. at n (u.vip == n) ∙ sym (ap packed_vip (vip_stored u p e n))
    where
      at : (n : ℕ) (t : Bool) → (if t then packed_vip (phase_word u p) else s.words (name.Vip n))
          ≡ packed_vip (if t then phase_word u p else vip_at s.controller.vips n)
      at n true = refl
      at n false = i.words.others.vip n
  vip_job j e = i.words.others.vip

  -- ---- servers

  down_off : (j m : Job) (n : ℕ) → IsOffDown j → is_downing m n ≡ false
      → down_word s.controller.down m n ≡ down_word s.controller.down j n
  down_off j m n off none = ap (λ b. part (is_down s.controller.down n && not b)) (none ∙ sym (at j off))
    where
      at : (j : Job) → IsOffDown j → is_downing j n ≡ false
      at (job.Store (store.Down server)) off = absurd off
      at (job.Draw (draw.TakenDown server)) off = absurd off
      at j off = refl

  down_after : (j : Job) (o : Option Op) → s.controller.job ≡ j → IsOffDown j → down_next s.controller j ≡ s.controller.down
      → AtOp o (λ o. (n : ℕ) → op_words s.words o (name.Down n) ≡ s.words (name.Down n)) → AfterJob DownsAre s j o
  down_after j None e off kept words = tt
  down_after j (Some o) e off kept words = λ n.
      let x = op_answer o (s.words (op_name o)) in
      let next = goes_undowned s.config s.controller x n j (job_next s.config s.controller j x) (goes s.config s.controller x j) (plain j off) in
      words n ∙ (i.words.others.down n ∙ (ap (λ m. down_word s.controller.down m n) e
      ∙ (sym (down_off j (job_next s.config s.controller j x) n off next)
      ∙ ap (λ d. down_word d (job_next s.config s.controller j x) n) (sym kept))))
    where
      plain : (j : Job) → IsOffDown j → downing j ≡ []
      plain (job.Draw (draw.TakenDown server)) off = absurd off
      plain j off = refl

  -- a server is told down after its line
  fresh_down : (server : ℕ) → s.controller.job ≡ job.Draw (draw.TakenDown server) → is_down s.controller.down server ≡ false
  fresh_down server e =
      not_yet server s.controller.down (servers_of s.controller.outages)
      (subst (λ xs. count_by (nat_eq server) xs ≤ 1) (i.shape.controller.outages ∙ ap (λ j. (s.controller.down ++ downing j) ++ servers_of s.controller.outages) e)
      (omega (arith, counted server s.config.changes, i.shape.config.fits.once server)))

  pub down_job : (j : Job) → s.controller.job ≡ j → AfterJob DownsAre s j (job_op s.config s.controller j)
  down_job (job.Draw (draw.TakenDown server)) e = λ n.
      i.words.others.down n ∙ (ap (λ m. down_word s.controller.down m n) e
      ∙ (at n (is_down s.controller.down n) (nat_eq n server) refl refl ∙ ap (λ b. part (b && not (server == n))) (sym (down_more s.controller.down server n))))
    where
      at : (n : ℕ) (a b : Bool) → is_down s.controller.down n ≡ a → nat_eq n server ≡ b
          → part (a && true) ≡ part ((a || (b || false)) && not (server == n))
      at n a true p q =
          let here : n ≡ server = grind (arith, nat_tests) in
          let none : a ≡ false = sym p ∙ (ap (is_down s.controller.down) here ∙ fresh_down server e) in
          let told : (server == n) ≡ true = grind (arith, nat_tests) in
          by a none (server == n) told
        where
          by : (a : Bool) → a ≡ false → (t : Bool) → t ≡ true → part (a && true) ≡ part ((a || true) && not t)
          by true f t g = cc
          by false f true g = refl
          by false f false g = cc
      at n a false p q =
          let untold : (server == n) ≡ false = grind (arith, nat_tests) in
          by a (server == n) untold
        where
          by : (a t : Bool) → t ≡ false → part (a && true) ≡ part ((a || false) && not t)
          by true false g = refl
          by false false g = refl
          by a true g = cc
  down_job (job.Store (store.Down server)) e = λ n. at n (server == n) refl
    where
      at : (n : ℕ) (t : Bool) → (server == n) ≡ t
          → (if t then 1 else s.words (name.Down n)) ≡ part (is_down s.controller.down n && true)
      at n true q =
          let here : server ≡ n = grind (arith, nat_tests) in
          let told = subst (λ m. is_down s.controller.down m ≡ true) here (subst (JobHolds s.config (seen s.controller) (printed s)) e i.jobs.holds.stands).0 in
          by (is_down s.controller.down n) told
        where
          by : (a : Bool) → a ≡ true → part true ≡ part (a && true)
          by true f = refl
          by false f = cc
      at n false q = i.words.others.down n ∙ (ap (λ m. down_word s.controller.down m n) e ∙ ap (λ b. part (is_down s.controller.down n && not b)) q)
  down_job job.Free e = tt
  down_job j e = down_after j (job_op s.config s.controller j) e tt refl (λ n. refl)

  -- ---- versions that are being written

  written_after : (j : Job) (o : Option Op) → IsOffPools j → AfterJob WrittenIs s j o
  written_after j None off = tt
  written_after j (Some o) off =
      let x = op_answer o (s.words (op_name o)) in
      goes_unwritten s.config s.controller x (op_words s.words o) j (job_next s.config s.controller j x) (goes s.config s.controller x j) off

  pub written_job : (j : Job) → s.controller.job ≡ j → AfterJob WrittenIs s j (job_op s.config s.controller j)
  written_job (job.Store (store.Member u index)) e = next (is_last_member s.config u index) refl
    where
      value : ℕ
      value = slice_index (update_pool s.config u) index

      words : Name → ℕ
      words = rewritten s.words (name.Member u.vip u.given index) value

      before : MembersWritten s.config s.words u index
      before = subst (Written s.config s.words) e i.words.others.written

      at : (n : ℕ) (a b t : Bool) → a ≡ true → b ≡ true → (index == n) ≡ t → n < index + 1
          → (if a && (b && t) then value else s.words (name.Member u.vip u.given n)) ≡ slice_index (update_pool s.config u) n
      at n true true true p q r less = ap (slice_index (update_pool s.config u)) (grind (arith, nat_tests))
      at n true true false p q r less = before n (grind (arith, nat_tests))
      at n true false t p q r less = cc
      at n false b t p q r less = cc

      after : (n : ℕ) → n < index + 1 → words (name.Member u.vip u.given n) ≡ slice_index (update_pool s.config u) n
      after n less = at n (u.vip == u.vip) (u.given == u.given) (index == n) (grind (arith, nat_tests)) (grind (arith, nat_tests)) refl less

      next : (t : Bool) → is_last_member s.config u index ≡ t
          → Written s.config words (job.Store (if t then store.Head u else store.Member u (index + 1)))
      next true last = λ n less. after n (omega (arith, short last))
        where
          short : is_last_member s.config u index ≡ true → length (update_pool s.config u) ≤ index + 1
          short last = grind (arith, nat_tests)
      next false more = after
  written_job (job.Store (store.Head u)) e =
      ((subst (Written s.config s.words) e i.words.others.written), rewritten_here s.words (name.Head u.vip u.given) _)
  written_job j e = written_after j (job_op s.config s.controller j) tt

  -- ---- the filter

  filter_after : (j : Job) (o : Option Op) → s.controller.job ≡ j → IsOffFilter j
      → update_next s.config s.controller j ≡ s.controller.update → vips_next s.controller j ≡ s.controller.vips
      → AtOp o (λ o. (n : ℕ) → op_words s.words o (name.Filter n) ≡ s.words (name.Filter n)) → AfterJob FilterKept s j o
  filter_after j None e off update vips words = tt
  filter_after j (Some o) e off update vips words = λ n b c.
      let x = op_answer o (s.words (op_name o)) in
      let m = job_next s.config s.controller j x in
      words n ∙ i.words.others.filter n b
      (kept_cleared s.controller.update s.controller.vips s.controller.job m n (goes_uncleared s.config s.controller x n j m (goes s.config s.controller x j) off)
      (subst (λ o. IsCleared o s.controller.vips m n) update (subst (λ v. IsCleared (update_next s.config s.controller j) v m n) vips c)))

  -- once the update has come to Steady, its first word is past
  not_first : (u : PoolUpdate) → s.controller.update ≡ Some u → phase_word u Steady ≡ steady u.replaced → ⊥
  not_first u e h = (fits u e).other (sym (ap (λ w. w.cur) h))

  unstored : (u : PoolUpdate) (p : Phase) → s.controller.update ≡ Some u → phase_word u p ≡ steady u.replaced → ⊥
  unstored u Steady e h = not_first u e h
  unstored u Recording e h = recording_isnt (ap (λ w. w.phase) h)
  unstored u Holding e h = holding_isnt (ap (λ w. w.phase) h)
  unstored u Transit e h = transit_isnt (ap (λ w. w.phase) h)

  pub filter_job : (j : Job) → s.controller.job ≡ j → AfterJob FilterKept s j (job_op s.config s.controller j)
  filter_job (job.Store (store.Vip u p)) e = λ n b c. absurd (at n (subst (λ o. IsCleared o (slice_set s.controller.vips u.vip (phase_word u p)) (job.Draw (vip_draw u p)) n) (storing u p e) c))
    where
      here : vip_at (slice_set s.controller.vips u.vip (phase_word u p)) u.vip ≡ phase_word u p
      here = vip_stored u p e u.vip ∙ by (u.vip == u.vip) (grind (arith, nat_tests))
        where
          by : (t : Bool) → t ≡ true → (if t then phase_word u p else vip_at s.controller.vips u.vip) ≡ phase_word u p
          by true q = refl
          by false q = cc

      at : (n : ℕ) → IsCleared (Some u) (slice_set s.controller.vips u.vip (phase_word u p)) (job.Draw (vip_draw u p)) n → ⊥
      at n (inl h) = unstored u p (storing u p e) (sym here ∙ h)
      at n (inr h) = plain_vip (λ j. ClearedBelow j n → ⊥) (none_cleared n) u p h
  filter_job (job.Store (store.Filter u index)) e = next (is_last_filter s.config.layout index) refl
    where
      phase : AtPhase s.controller.update s.controller.vips u Steady
      phase = (at_phase (job.Store (store.Filter u index)) e).0

      old : (n : ℕ) → n < filter_words s.config.layout.shape → n < index → s.words (name.Filter n) ≡ 0
      old n b less =
          i.words.others.filter n b
          (subst (λ o. IsCleared o s.controller.vips s.controller.job n) (sym phase.0)
          (inr (subst (λ m. ClearedBelow m n) (sym e) less)))

      clear : (n : ℕ) → n < filter_words s.config.layout.shape → n < index + 1 → rewritten s.words (name.Filter index) 0 (name.Filter n) ≡ 0
      clear n b less = at (index == n) refl
        where
          at : (t : Bool) → (index == n) ≡ t → (if t then 0 else s.words (name.Filter n)) ≡ 0
          at true q = refl
          at false q = old n b (grind (arith, nat_tests))

      under : (n : ℕ) → IsCleared (Some u) s.controller.vips (job.Store (store.Filter u (index + 1))) n → n < index + 1
      under n (inl h) = absurd (not_first u phase.0 (sym phase.1 ∙ h))
      under n (inr h) = h

      next : (t : Bool) → is_last_filter s.config.layout index ≡ t → (n : ℕ) → n < filter_words s.config.layout.shape
          → IsCleared (if t then None else s.controller.update) s.controller.vips (if t then job.Free else job.Store (store.Filter u (index + 1))) n
          → rewritten s.words (name.Filter index) 0 (name.Filter n) ≡ 0
      next true last n b c = clear n b (grind (arith, nat_tests))
      next false more n b c = clear n b (under n (subst (λ o. IsCleared o s.controller.vips (job.Store (store.Filter u (index + 1))) n) phase.0 c))
  filter_job job.Free e = tt
  filter_job j e = filter_after j (job_op s.config s.controller j) e tt refl refl (λ n. refl)

-- What a packet has loaded of its version, up to its server, is what the version's pool says.
use Rattle.std.proofs.Common.{◌≡◌, ℕ, ◌<◌, ◌≤◌, Bool, true, false, List, length, if◌then◌else◌, ◌==◌, slice_get, slice_index, Some, None, Option, sym, refl, ap, ◌∙◌, subst, arith}
use Rattle.std.proofs.lemmas.Nat.{mod_below}
use Rattle.std.proofs.lemmas.Option.{same_Some}
use Rattle.sr_base.specs.Key.{KeyView}
use Rattle.sr_base.specs.Layout.{LayoutView}
use Rattle.sr_base.specs.declared.row_head.RowHead.{RowHead}
use Rattle.sr_hash.specs.Uses.{selected}
use Rattle.sr_hash.specs.Keyed.{hash_of}
use Rattle.sr_inv_facts.proofs.FittedPools.{PoolFits, pool_fits, server_below}
use Rattle.sr_inv_facts.proofs.Lists.{ranged_at}
use Rattle.sr_inv_facts.proofs.NamedPools.{IsElse, named_else}
use Rattle.sr_inv_facts.proofs.Pipes.{each_set}
use Rattle.sr_inv_facts.specs.Fitted.{IsPacket}
use Rattle.sr_inv_facts.specs.Flying.{OnLeg, OnNumber}
use Rattle.sr_inv_facts.specs.InFlight.{HasPool, HasServer, LegHolds, LegTells, ServersTold, VerdictTells}
use Rattle.sr_inv_facts.specs.InShape.{LegFits, StageFits}
use Rattle.sr_inv_facts.specs.InUpdate.{JobAt, OnUngiven, is_used, is_used_by}
use Rattle.sr_inv_facts.specs.InWords.{HoldsPool}
use Rattle.sr_inv_facts.specs.Invariant.{Invariant}
use Rattle.sr_inv_facts.specs.Laws.{OpensWith}
use Rattle.sr_inv_facts.specs.Readings.{EachPipe, bit_words}
use Rattle.sr_inv_flight.proofs.Steps.{Finds, OnOp, filtered_finds, found_or, leg_then, looked_finds, looking_finds}
use Rattle.sr_inv_flight.proofs.UsedNumbers.{number_then, used_part, used_some}
use Rattle.sr_law.specs.Pools.{pool_of}
use Rattle.sr_law.specs.declared.verdict.Verdict.{Verdict}
use Rattle.sr_machine.proofs.Written.{head_read, server_read}
use Rattle.sr_machine.specs.Config.{Config}
use Rattle.sr_machine.specs.Core.{Core, opening}
use Rattle.sr_machine.specs.Deciding.{named_at, with_named}
use Rattle.sr_machine.specs.Jobs.{job_op}
use Rattle.sr_machine.specs.Keeping.{AfterJob, AfterStage, Keeps}
use Rattle.sr_machine.specs.Opening.{opening_pipes}
use Rattle.sr_machine.specs.Ops.{op_answer, op_name}
use Rattle.sr_machine.specs.Pipe.{fresh_pipe, pipe_after, pipe_op}
use Rattle.sr_machine.specs.Reads.{has_bit, read_flag, read_head, read_server, says}
use Rattle.sr_machine.specs.Stages.{begun_flight, is_opener, key_places, looking, leg_after, leg_op, loaded, stage_after, verdict_at, verdict_by}
use Rattle.sr_machine.specs.declared.flight.Flight.{Flight}
use Rattle.sr_machine.specs.declared.job.Job.{Job}
use Rattle.sr_machine.specs.declared.leg.Last.{Last}
use Rattle.sr_machine.specs.declared.leg.Leg.{Leg}
use Rattle.sr_machine.specs.declared.leg.Leg.TheVariants.{Look, Hit, Filter, Chosen, Judged}
use Rattle.sr_machine.specs.declared.leg.Load.{Load}
use Rattle.sr_machine.specs.declared.op.Op.{Op}
use Rattle.sr_machine.specs.declared.pipe_view.PipeView.{PipeView}
use Rattle.sr_machine.specs.declared.pool_update.PoolUpdate.{PoolUpdate}
use Rattle.sr_machine.specs.declared.stage.Stage.{Stage}
use Rattle.sr_machine.specs.declared.stage.Stage.TheVariants.{Idle, Enter, Note, Vip, Fly, Leave}
use Rattle.sr_update.specs.Numbers.{is_free, state_of}
use Rattle.sr_update.specs.declared.number_state.NumberState.{NumberState}
use Rattle.sr_update.specs.declared.number_state.NumberState.TheVariants.{Free, Current, Draining}
use Rattle.sr_law.specs.declared.verdict.HeldBy.TheVariants as by
use Rattle.sr_law.specs.declared.verdict.Verdict.TheVariants as verdict
use Rattle.sr_machine.specs.declared.draw.Draw.TheVariants as draw
use Rattle.sr_machine.specs.declared.job.Job.TheVariants as job
use Rattle.sr_machine.specs.declared.leg.Last.TheVariants as last
use Rattle.sr_machine.specs.declared.leg.Load.TheVariants as load
use Rattle.sr_machine.specs.declared.name.Name.TheVariants as name
use Rattle.sr_machine.specs.declared.stage.Stage.TheVariants as stage

-- ---- a packet's step

-- what the loads of a version answer is its pool's
abbrev AnswersPool : LayoutView → Config → List (List ℕ) → KeyView → Leg → ℕ → Type 0
AnswersPool l k named key (Chosen n load.Head) x = HasPool k named key n (read_head l x).size (read_head l x).pool
AnswersPool l k named key (Chosen n (load.Member head)) x = HasServer k named key n head.pool (read_server l x)
AnswersPool l k named key leg x = Unit {0}

module _ (l : LayoutView) (k : Config) (named : List (List ℕ)) (f : Flight) where
  -- nothing is loaded of a version before it is chosen
  unloaded : Finds f (LegTells k named f.packet.key)
  unloaded = record { look = λ place rest. tt; filter = λ bit rest. tt; held = λ why. tt; current = tt }

  pub begins_tells : LegTells k named f.packet.key (looking l f (key_places l f.packet.key))
  begins_tells = looking_finds l f (LegTells k named f.packet.key) unloaded (key_places l f.packet.key)

  loaded_tells : (n : ℕ) (next : Load) (x : ℕ) → LegTells k named f.packet.key (Chosen n next) → AnswersPool l k named f.packet.key (Chosen n next) x
      → LegTells k named f.packet.key (loaded l f n next x)
  loaded_tells n load.Head x h a = a
  loaded_tells n (load.Member head) x h a = a
  loaded_tells n (load.Down pool server) x h a = at (read_flag x)
    where
      at : (b : Bool) → VerdictTells k named f.packet.key (verdict_by b server n pool)
      at true = h
      at false = h

  ring_tells : (v : Verdict) (empty : Bool) → VerdictTells k named f.packet.key v → VerdictTells k named f.packet.key (verdict_at f v empty)
  ring_tells v true h = h
  ring_tells v false h = at (is_opener f.packet.kind)
    where
      at : (b : Bool) → VerdictTells k named f.packet.key (if b then verdict.Full else v)
      at true = tt
      at false = h

  last_tells : (v : Verdict) (next : Last) (x : ℕ) → VerdictTells k named f.packet.key v
      → OnLeg (leg_after l f (Judged v next) x) (λ g after. LegTells k named g.packet.key after)
  last_tells v last.Ring x h = ring_tells v (x == 0) h
  last_tells v (last.Mark bit rest) x h = h
  last_tells v last.Push x h = h
  last_tells v last.Out x h = tt

  leg_tells : (leg : Leg) (x : ℕ) → LegFits l f leg → LegTells k named f.packet.key leg → AnswersPool l k named f.packet.key leg x
      → OnLeg (leg_after l f leg x) (λ g after. LegTells k named g.packet.key after)
  leg_tells (Look place rest) x g h a =
      looked_finds l f (LegTells k named f.packet.key) unloaded place rest (says l place f.packet.key x) (λ n e. tt)
  leg_tells (Hit place n) x g h a = found_or l f (LegTells k named f.packet.key) unloaded by.Clash n tt
  leg_tells (Filter bit rest) x g h a = filtered_finds l f (LegTells k named f.packet.key) unloaded rest (has_bit bit x) (λ e. tt)
  leg_tells (Chosen n next) x g h a = loaded_tells n next x h a
  leg_tells (Judged v next) x g h a = last_tells v next x h

-- ---- what the words of a version say

module _ (s : Core) (i : Invariant s) (key : KeyView) (n : ℕ) (used : is_used s.controller.numbers key.vip n ≡ true) where
  -- its words are those of the pool that its number names
  pool_words : HoldsPool s.config s.words key.vip n (named_at s.controller.named key.vip n)
  pool_words =
      let o = used_some (state_of key.vip n s.controller.numbers) used in
      i.words.others.version key.vip n o.0 o.1 (unfree o.0 (ap is_used_by (sym o.1) ∙ used))
    where
      unfree : (is : NumberState) → is_used_by (Some is) ≡ true → is_free is ≡ false
      unfree Free e = cc
      unfree Current e = refl
      unfree Draining e = refl

  pool_in : PoolFits s.config.layout (named_at s.controller.named key.vip n) pool_words.pool
  pool_in = pool_fits s.config i.shape.config key.vip (named_at s.controller.named key.vip n) pool_words.pool pool_words.there

  head_told : HasPool s.config s.controller.named key n (read_head s.config.layout (s.words (name.Head key.vip n))).size (read_head s.config.layout (s.words (name.Head key.vip n))).pool
  head_told =
      subst (λ h. HasPool s.config s.controller.named key n h.size h.pool) (sym read) (record {
        pool = pool_words.pool;
        there = pool_words.there;
        names = refl;
        sized = refl;
      })
    where
      head : RowHead
      head = record { size = length pool_words.pool; pool = named_at s.controller.named key.vip n }

      read : read_head s.config.layout (s.words (name.Head key.vip n)) ≡ record { size = length pool_words.pool; pool = named_at s.controller.named key.vip n }
      read =
          ap (read_head s.config.layout) pool_words.head
          ∙ head_read s.config.layout (record { size = length pool_words.pool; pool = named_at s.controller.named key.vip n })
          (record { fits = record { size = pool_in.is.some; pool = pool_in.small }; size = omega (arith, pool_in.is.most, i.shape.config.layout.pool_max.1) })
          pool_in.is.most

  server_told : (head : RowHead) → HasPool s.config s.controller.named key n head.size head.pool
      → HasServer s.config s.controller.named key n head.pool (read_server s.config.layout (s.words (name.Member key.vip n (selected head.size key))))
  server_told head h = record {
    pool = h.pool;
    there = h.there;
    names = h.names;
    is =
        server_read s.config.layout (s.words (name.Member key.vip n (selected head.size key))) below
        ∙ (member ∙ ap (λ p. slice_index p (selected head.size key)) same ∙ ap (λ m. slice_index h.pool (selected m key)) h.sized);
  }
    where
      same : pool_words.pool ≡ h.pool
      same =
          same_Some pool_words.pool h.pool
          (sym pool_words.there ∙ (ap (pool_of s.config.pools key.vip) h.names ∙ h.there))

      within : selected head.size key < length pool_words.pool
      within =
          let long : length pool_words.pool ≡ head.size = ap length same ∙ sym h.sized in
          let some : 1 ≤ head.size = omega (arith, pool_in.is.some, long) in
          omega (arith, long, mod_below (hash_of 0 key) head.size (omega (arith, some)))

      member : s.words (name.Member key.vip n (selected head.size key)) ≡ slice_index pool_words.pool (selected head.size key)
      member = pool_words.members (selected head.size key) within

      below : s.words (name.Member key.vip n (selected head.size key)) < s.config.layout.servers
      below =
          subst (λ x. x < s.config.layout.servers) (sym member)
          (server_below s.config.layout pool_words.pool (selected head.size key) (omega (arith, i.shape.config.layout.servers.0)) pool_in.is)

-- ---- a pipe's step

module _ (s : Core) (i : Invariant s) (p : ℕ) (v : PipeView) (q : slice_get s.pipes p ≡ Some v) where
  own_used : (f : Flight) (leg : Leg) → v.stage ≡ Fly f leg → OnNumber leg (λ n. is_used s.controller.numbers f.packet.key.vip n ≡ true)
  own_used f leg e =
      subst (λ z. OnLeg z (λ f leg. OnNumber leg (λ n. is_used s.controller.numbers f.packet.key.vip n ≡ true))) e (used_part s i p v q)

  answers : (f : Flight) (leg : Leg) → OnNumber leg (λ n. is_used s.controller.numbers f.packet.key.vip n ≡ true)
      → LegTells s.config s.controller.named f.packet.key leg
      → AnswersPool s.config.layout s.config s.controller.named f.packet.key leg
      (op_answer (leg_op s.config.layout v.number v.pushed f leg) (s.words (op_name (leg_op s.config.layout v.number v.pushed f leg))))
  answers f (Chosen n load.Head) u h = head_told s i f.packet.key n u
  answers f (Chosen n (load.Member head)) u h = server_told s i f.packet.key n u head h
  answers f (Chosen n (load.Down pool server)) u h = tt
  answers f leg u h = tt

  step_tells : (at : Stage) → v.stage ≡ at → OnLeg at (λ f leg. LegTells s.config s.controller.named f.packet.key leg)
      → OnOp (pipe_op s.config.layout v at)
      (λ o. OnLeg (stage_after s.config.layout at (op_answer o (s.words (op_name o)))) (λ f leg. LegTells s.config s.controller.named f.packet.key leg))
  step_tells Idle e h = tt
  step_tells (Enter packet) e h = tt
  step_tells (Note packet t) e h = tt
  step_tells (Vip packet t) e h =
      begins_tells s.config.layout s.config s.controller.named (begun_flight s.config.layout packet t (s.words (name.Vip packet.key.vip)))
  step_tells (Fly f leg) e h =
      leg_tells s.config.layout s.config s.controller.named f leg
      (op_answer (leg_op s.config.layout v.number v.pushed f leg) (s.words (op_name (leg_op s.config.layout v.number v.pushed f leg))))
      (subst (StageFits s.config.layout) e (i.shape.pipes.stage p v q)).1 h (answers f leg (own_used f leg e) h)
  step_tells (Leave f) e h = tt

stage_kept : (s : Core) (p : ℕ) (v : PipeView) (at : Stage) (o : Option Op) → slice_get s.pipes p ≡ Some v → ServersTold s
    → OnOp o (λ o. OnLeg (stage_after s.config.layout at (op_answer o (s.words (op_name o)))) (λ f leg. LegTells s.config s.controller.named f.packet.key leg))
    → AfterStage ServersTold s p v at o
stage_kept s p v at None q h g = tt
stage_kept s p v at (Some o) q h g =
    each_set s.pipes p v (pipe_after s.config.layout v at (op_answer o (s.words (op_name o)))) q
    (λ n u. OnLeg u.stage (λ f leg. LegTells s.config s.controller.named f.packet.key leg)) h g

-- ---- the controller's step

-- a version that names the pool that it named
module _ (k : Config) (named after : List (List ℕ)) (key : KeyView) where
  abbrev Names : ℕ → Type 0
  Names n = named_at after key.vip n ≡ named_at named key.vip n

  pool_kept : (n size number : ℕ) → Names n → HasPool k named key n size number → HasPool k after key n size number
  pool_kept n size number e h = record { pool = h.pool; there = h.there; names = e ∙ h.names; sized = h.sized }

  server_kept : (n number server : ℕ) → Names n → HasServer k named key n number server → HasServer k after key n number server
  server_kept n number server e h = record { pool = h.pool; there = h.there; names = e ∙ h.names; is = h.is }

  tells_kept : (leg : Leg) → OnNumber leg Names → LegTells k named key leg → LegTells k after key leg
  tells_kept (Chosen n load.Head) e h = tt
  tells_kept (Chosen n (load.Member head)) e h = pool_kept n head.size head.pool e h
  tells_kept (Chosen n (load.Down number server)) e h = server_kept n number server e h
  tells_kept (Judged (verdict.To server n number) next) e h = server_kept n number server e h
  tells_kept (Judged (verdict.Down server n number) next) e h = server_kept n number server e h
  tells_kept (Judged v next) e h = tt
  tells_kept leg e h = tt

free_isnt : (numbers : List (List NumberState)) (vip n : ℕ) → state_of vip n numbers ≡ Some Free → is_used numbers vip n ≡ true → ⊥
free_isnt numbers vip n e u = at (sym (ap is_used_by e) ∙ u)
  where
    at : false ≡ true → ⊥
    at e = cc

module _ (s : Core) (i : Invariant s) where
  -- the number that an update gives isn't a packet's yet
  given_else : (u : PoolUpdate) → s.controller.job ≡ job.Draw (draw.Given u) → (vip n : ℕ) → is_used s.controller.numbers vip n ≡ true
      → IsElse vip n u.vip u.given
  given_else u q vip n used a b =
      let at = subst (JobAt s.config s.controller.update s.controller.vips) q i.update.update.phase in
      let free : state_of u.vip u.given s.controller.numbers ≡ Some Free =
      subst (λ o. OnUngiven o (job.Draw (draw.Given u)) (λ w. state_of w.vip w.given s.controller.numbers ≡ Some Free)) at.0
      (subst (λ j. OnUngiven s.controller.update j (λ w. state_of w.vip w.given s.controller.numbers ≡ Some Free)) q i.update.versions.ungiven) refl in
      free_isnt s.controller.numbers vip n (ap (λ z. state_of z n s.controller.numbers) (sym a) ∙ (ap (λ z. state_of u.vip z s.controller.numbers) (sym b) ∙ free)) used

  given_tells : (u : PoolUpdate) → s.controller.job ≡ job.Draw (draw.Given u) → ServersTold s
      → EachPipe (λ p v. OnLeg v.stage (λ f leg. LegTells s.config (with_named u.vip u.given u.pool s.controller.named) f.packet.key leg)) s.pipes
  given_tells u q h p v r =
      leg_then v.stage (λ f leg. LegTells s.config s.controller.named f.packet.key leg)
      (λ f leg. LegTells s.config (with_named u.vip u.given u.pool s.controller.named) f.packet.key leg)
      (λ f leg e k.
      tells_kept s.config s.controller.named (with_named u.vip u.given u.pool s.controller.named) f.packet.key leg
      (number_then leg (λ n. is_used s.controller.numbers f.packet.key.vip n ≡ true)
      (λ n. named_at (with_named u.vip u.given u.pool s.controller.named) f.packet.key.vip n ≡ named_at s.controller.named f.packet.key.vip n)
      (λ n used. named_else s.controller.named f.packet.key.vip n u.vip u.given u.pool (given_else u q f.packet.key.vip n used)) (own_used s i p v r f leg e)) k)
      (h p v r)

  told_job : (j : Job) → s.controller.job ≡ j → ServersTold s → AfterJob ServersTold s j (job_op s.config s.controller j)
  told_job job.Free q h = tt
  told_job (job.Draw (draw.Given u)) q h = given_tells u q h
  told_job j q h = h

-- ---- every event

pub servers_keep : Keeps IsPacket Invariant ServersTold
servers_keep = record {
  stages = λ s p v at q e i h.
      stage_kept s p v at (pipe_op s.config.layout v at) q h
      (step_tells s i p v q at e (subst (λ z. OnLeg z (λ f leg. LegTells s.config s.controller.named f.packet.key leg)) e (h p v q)));
  begins = λ s i h. h;
  jobs = λ s j q b i h. told_job s i j q h;
  enters = λ s p v packet q r u n a i h.
      each_set s.pipes p v (record v { stage = stage.Enter packet }) q
      (λ n u. OnLeg u.stage (λ f leg. LegTells s.config s.controller.named f.packet.key leg)) h tt;
  clocks = λ s ms q i h. h;
  refusals = λ s q i h. h;
}

pub servers_part : (s : Core) → Invariant s → ServersTold s
servers_part s i p v q =
    leg_then v.stage (LegHolds s.config (bit_words s.words) s.controller.named s.controller.numbers s.controller.rings s.controller.job p v.pushed)
    (λ f leg. LegTells s.config s.controller.named f.packet.key leg) (λ f leg e h. h.server) (i.flight.legs p v q)

pub servers_open : OpensWith ServersTold
unfolding opening_pipes
servers_open k f p v e =
    subst (λ u. OnLeg u.stage (λ f leg. LegTells k (opening k).controller.named f.packet.key leg))
    (sym (ranged_at fresh_pipe 0 k.layout.shape.pipes p v e)) tt

-- The cases of what a controller begins and of which job follows are all the cases there are.
use Rattle.std.proofs.Common.{◌≡◌, ℕ, zero, suc, ◌+◌, ◌==◌, ◌&&◌, nat_le, Bool, true, false, List, [], ◌∷◌, Contains, find, cond, is_some, is_none, Option, Some, None, unwrap_or, option_map, option_and_then, refl, sym, ap, subst, ◌∙◌, arith, if◌then◌else◌}
use Rattle.std.specs.Option.{option_or}
use Rattle.std.proofs.lemmas.Bool.{true≢false, and_parts}
use Rattle.std.proofs.lemmas.Option.{same_Some}
use Rattle.sr_base.specs.declared.place.Place.{Place}
use Rattle.sr_base.specs.declared.vip_word.Phase.{Phase}
use Rattle.sr_base.specs.declared.vip_word.Phase.TheVariants.{Steady, Recording, Holding, Transit}
use Rattle.sr_shadow.specs.Book.{entry_for, first_retirable, placed_from}
use Rattle.sr_shadow.specs.Entry.{is_pending, is_placed}
use Rattle.sr_base.specs.Key.{KeyView}
use Rattle.sr_shadow.specs.declared.entry.Entry.{Entry}
use Rattle.sr_machine.specs.Begins.{Begins, refuses, takes_down, holds, finishes, changes, answers, places_held, has_no_place, places, retires, sweeps, releases, looks}
use Rattle.sr_machine.specs.Config.{Config}
use Rattle.sr_machine.specs.Deciding.{dead_reply, is_withdrawn, vip_at}
use Rattle.sr_machine.specs.Draws.{hit_job, sweep_job}
use Rattle.sr_machine.specs.Goes.{Goes, stays_free, waits, refused, taken_down, given, comes, reserved, placed, cleared, retired, answered, sweep_begins, sweep_empty, swept, downed, member_next, member_last, head, phase_stored, filter_next, filter_last, reserve_stored, judged_live, judged_withdrawn, emptied, pass_stays, pass_next, pass_last, drain_stays, drain_next, drain_last, look_next, look_last, look_took, hit_next, hit_last}
use Rattle.sr_machine.specs.Jobs.{book_next, job_next}
use Rattle.sr_update.specs.Numbers.{first_drained, least_free}
use Rattle.sr_update.specs.Updates.{has_come}
use Rattle.sr_machine.specs.Starting.{Start, change_of, first_act, first_put, going_on, opener_act, opener_job, opener_of, outage_act, outage_of, outage_start, pending_act, planned_put, refusal_act, refusal_of, release_act, retire_act, retirement, sweep_act, sweep_of, update_act, update_of, update_to, beginning, with_job}
use Rattle.sr_machine.specs.Stores.{is_last_filter, is_last_member, judged_draw}
use Rattle.sr_update.specs.Waits.{first_before_finish, first_before_hold}
use Rattle.sr_machine.specs.Waiting.{all_passed, has_next, is_ring_done, is_under_way, waited_job}
use Rattle.sr_machine.specs.declared.controller_view.ControllerView.{ControllerView}
use Rattle.sr_machine.specs.declared.draw.Draw.TheVariants as draw
use Rattle.sr_machine.specs.declared.held_opener.HeldOpener.{HeldOpener}
use Rattle.sr_machine.specs.declared.job.Job.{Job}
use Rattle.sr_machine.specs.declared.job.Job.TheVariants.{Free, Draw, Store, Pass, Drain, Look, Hit}
use Rattle.sr_machine.specs.declared.outage.Outage.{Outage}
use Rattle.sr_update.specs.declared.give_change.GiveChange.{GiveChange}
use Rattle.sr_machine.specs.declared.put.Aim.TheVariants as aim
use Rattle.sr_machine.specs.declared.put.Put.{Put}
use Rattle.sr_machine.specs.declared.store.Store.TheVariants as store
use Rattle.sr_machine.specs.declared.wait.Wait.{Wait}
use Rattle.sr_machine.specs.declared.wait.Wait.TheVariants as wait
use Rattle.sr_machine.specs.declared.pool_update.PoolUpdate.{PoolUpdate}

-- ---- what is found

module _ {X : Type 0} (p : X → Bool) where
  found_by : (b : Bool) (x : X) (rest : Option X) (e : X) → p x ≡ b → (rest ≡ Some e → p e ≡ true)
      → cond b (Some x) rest ≡ Some e → p e ≡ true
  found_by true x rest e q later f = ap p (sym (same_Some x e f)) ∙ q
  found_by false x rest e q later f = later f

  -- what is found passes the test
  pub found : (xs : List X) (e : X) → find p xs ≡ Some e → p e ≡ true
  found [] e f = cc
  found (x ∷ xs) e f = found_by (p x) x (find p xs) e refl (found xs e) f

none_placed : (e : Entry) → e.place ≡ None → is_placed e ≡ true → ⊥
none_placed e n q = true≢false (sym q ∙ ap is_some n)

-- ---- which job follows

module _ (k : Config) (c : ControllerView) (x : ℕ) where
  sweep_from : (number : ℕ) (ms : ℕ) (next : Option Entry) → placed_from 0 c.book.entries ≡ next
      → Goes k c x (Draw (draw.From ms)) (sweep_job x ms next)
  sweep_from number ms None q = sweep_empty ms q
  sweep_from number ms (Some e) q = at e.place refl
    where
      at : (place : Option Place) → e.place ≡ place → Goes k c x (Draw (draw.From ms)) (hit_job x ms e place)
      at None n =
          absurd (none_placed e n (and_parts (nat_le 0 e.taken) (is_placed e) (found (λ e. nat_le 0 e.taken && is_placed e) c.book.entries e q)).1)
      at (Some place) n = sweep_begins ms e place (record { found = q; stands = n })

  sweep_on : (from ms : ℕ) (key : KeyView) (place : Place) (taken : ℕ) (next : Option Entry)
      → placed_from (taken + 1) (book_next k c (Hit from ms key place taken) x).entries ≡ next
      → Goes k c x (Hit from ms key place taken) (sweep_job from ms next)
  sweep_on from ms key place taken None q = hit_last from ms key place taken q
  sweep_on from ms key place taken (Some e) q = at e.place refl
    where
      at : (stands : Option Place) → e.place ≡ stands → Goes k c x (Hit from ms key place taken) (hit_job from ms e stands)
      at None n =
          absurd (none_placed e n (and_parts (nat_le (taken + 1) e.taken) (is_placed e) (found (λ e. nat_le (taken + 1) e.taken && is_placed e) (book_next k c (Hit from ms key place taken) x).entries e q)).1)
      at (Some stands) n = hit_next from ms key place taken e stands (record { found = q; stands = n })

  member_goes : (u : PoolUpdate) (index : ℕ) (b : Bool) → is_last_member k u index ≡ b
      → Goes k c x (Store (store.Member u index)) (Store (if b then store.Head u else store.Member u (index + 1)))
  member_goes u index true q = member_last u index q
  member_goes u index false q = member_next u index q

  filter_goes : (u : PoolUpdate) (index : ℕ) (b : Bool) → is_last_filter k.layout index ≡ b
      → Goes k c x (Store (store.Filter u index)) (if b then Free else Store (store.Filter u (index + 1)))
  filter_goes u index true q = filter_last u index q
  filter_goes u index false q = filter_next u index q

  judge_goes : (p : Put) (b : Bool) → is_withdrawn k c p ≡ b
      → Goes k c x (Store (store.Judge p)) (Draw (judged_draw b p (dead_reply k c p.aim)))
  judge_goes p true q = judged_withdrawn p q
  judge_goes p false q = judged_live p q

  pass_goes : (g pipe : ℕ) (w : Wait) (a b : Bool) → is_under_way g x ≡ a → has_next k.layout pipe ≡ b
      → Goes k c x (Pass g pipe w) (if a then Pass g pipe w else (if b then Pass g (pipe + 1) w else all_passed w))
  pass_goes g pipe w true b q r = pass_stays g pipe w q
  pass_goes g pipe w false true q r = pass_next g pipe w q r
  pass_goes g pipe w false false q r = pass_last g pipe w q r

  drain_goes : (pipe count : ℕ) (w : Wait) (a b : Bool) → is_ring_done k.layout count x ≡ a → has_next k.layout pipe ≡ b
      → Goes k c x (Drain pipe count w) (if a then (if b then Drain (pipe + 1) 0 w else waited_job c.vips (book_next k c (Drain pipe count w) x).entries w) else Drain pipe (count + 1) w)
  drain_goes pipe count w false b q r = drain_stays pipe count w q
  drain_goes pipe count w true true q r = drain_next pipe count w q r
  drain_goes pipe count w true false q r = drain_last pipe count w q r

  look_goes : (pipe : ℕ) (a b : Bool) → (x == 0) ≡ a → has_next k.layout pipe ≡ b
      → Goes k c x (Look pipe) (if a && b then Look (pipe + 1) else Free)
  look_goes pipe false b q r = look_took pipe q
  look_goes pipe true true q r = look_next pipe q r
  look_goes pipe true false q r = look_last pipe q r

  pub goes : (j : Job) → Goes k c x j (job_next k c j x)
  goes Free = stays_free
  goes (Draw (draw.Grace w)) = waits w
  goes (Draw (draw.Refused change)) = refused change
  goes (Draw (draw.TakenDown server)) = taken_down server
  goes (Draw (draw.Given u)) = given u
  goes (Draw (draw.Comes u p)) = comes u p
  goes (Draw (draw.Reserved p)) = reserved p
  goes (Draw (draw.Placed p)) = placed p
  goes (Draw (draw.Cleared key place w)) = cleared key place w
  goes (Draw (draw.Retired key place version)) = retired key place version
  goes (Draw (draw.Answer r)) = answered r
  goes (Draw (draw.From ms)) = sweep_from 0 ms (placed_from 0 c.book.entries) refl
  goes (Draw (draw.Swept from ms)) = swept from ms
  goes (Store (store.Down server)) = downed server
  goes (Store (store.Member u index)) = member_goes u index (is_last_member k u index) refl
  goes (Store (store.Head u)) = head u
  goes (Store (store.Vip u p)) = phase_stored u p
  goes (Store (store.Filter u index)) = filter_goes u index (is_last_filter k.layout index) refl
  goes (Store (store.Reserved p)) = reserve_stored p
  goes (Store (store.Judge p)) = judge_goes p (is_withdrawn k c p) refl
  goes (Store (store.Empty key place w)) = emptied key place w
  goes (Pass g pipe w) = pass_goes g pipe w (is_under_way g x) (has_next k.layout pipe) refl refl
  goes (Drain pipe count w) = drain_goes pipe count w (is_ring_done k.layout count x) (has_next k.layout pipe) refl refl
  goes (Look pipe) = look_goes pipe (x == 0) (has_next k.layout pipe) refl refl
  goes (Hit from ms key place taken) =
      sweep_on from ms key place taken (placed_from (taken + 1) (book_next k c (Hit from ms key place taken) x).entries) refl

-- ---- what is begun

module _ {X : Type 0} (P : X → Type 0) where
  -- the first of two, or else what follows
  or_cases : (a b : Option X) (d : X) → ((s : X) → a ≡ Some s → P s) → (a ≡ None → P (unwrap_or b d))
      → P (unwrap_or (option_or a b) d)
  or_cases (Some s) b d one more = one s refl
  or_cases None b d one more = more refl

  last_cases : (a : Option X) (d : X) → ((s : X) → a ≡ Some s → P s) → (a ≡ None → P d) → P (unwrap_or a d)
  last_cases (Some s) d one more = one s refl
  last_cases None d one more = more refl

module _ (k : Config) (c : ControllerView) where
  refusal_begins : (b : Bool) (gives : List GiveChange) → c.refusing ≡ b → c.gives ≡ gives → (s : Start)
      → refusal_of c b gives ≡ Some s → Begins k c s
  refusal_begins true (g ∷ rest) q r s e = subst (Begins k c) (same_Some _ s e) (refuses g rest q r)
  refusal_begins true [] q r s e = cc
  refusal_begins false gives q r s e = cc

  outage_begins : (outages : List Outage) → c.outages ≡ outages → (s : Start) → outage_of c outages ≡ Some s → Begins k c s
  outage_begins [] q s e = cc
  outage_begins (o ∷ rest) q s e = at (has_come o.at_ms c.clock) refl e
    where
      at : (b : Bool) → has_come o.at_ms c.clock ≡ b → (if b then Some (outage_start c o rest) else None) ≡ Some s → Begins k c s
      at true r e = subst (Begins k c) (same_Some _ s e) (takes_down o rest q r)
      at false r e = cc

  going_begins : (u : PoolUpdate) (p : Phase) → c.update ≡ Some u → (vip_at c.vips u.vip).phase ≡ p → (s : Start)
      → option_map (with_job c) (going_on c u p) ≡ Some s → Begins k c s
  going_begins u Steady q r s e = cc
  going_begins u Holding q r s e = cc
  going_begins u Recording q r s e = at (first_before_hold u.vip c.mark c.book.entries) refl e
    where
      at : (o : Option Entry) → first_before_hold u.vip c.mark c.book.entries ≡ o
          → option_map (with_job c) (if is_none o then Some (Draw (draw.Comes u Holding)) else None) ≡ Some s → Begins k c s
      at None f e = subst (Begins k c) (same_Some _ s e) (holds u q r f)
      at (Some w) f e = cc
  going_begins u Transit q r s e = at (first_before_finish u.vip u.replaced c.book.entries) refl e
    where
      at : (o : Option Entry) → first_before_finish u.vip u.replaced c.book.entries ≡ o
          → option_map (with_job c) (if is_none o then Some (Store (store.Vip u Steady)) else None) ≡ Some s → Begins k c s
      at None f e = subst (Begins k c) (same_Some _ s e) (finishes u q r f)
      at (Some w) f e = cc

  change_begins : (gives : List GiveChange) → c.update ≡ None → c.gives ≡ gives → (s : Start) → change_of c gives ≡ Some s
      → Begins k c s
  change_begins [] q r s e = cc
  change_begins (g ∷ rest) q r s e = at (has_come g.at_ms c.clock) (least_free g.vip c.numbers) refl refl e
    where
      at : (b : Bool) (o : Option ℕ) → has_come g.at_ms c.clock ≡ b → least_free g.vip c.numbers ≡ o
          → (if b then option_map (λ number. beginning c rest (update_to c g number)) o else None) ≡ Some s → Begins k c s
      at true (Some number) d f e = subst (Begins k c) (same_Some _ s e) (changes g rest number q r d f)
      at true None d f e = cc
      at false o d f e = cc

  update_begins : (update : Option PoolUpdate) → c.update ≡ update → (s : Start) → update_of c update ≡ Some s → Begins k c s
  update_begins None q s e = change_begins c.gives q refl s e
  update_begins (Some u) q s e = going_begins u (vip_at c.vips u.vip).phase q refl s e

  opener_begins : (held : List HeldOpener) → c.held ≡ held → (s : Start) → opener_of k c held ≡ Some s → Begins k c s
  opener_begins [] q s e = cc
  opener_begins (h ∷ rest) q s e =
      at (entry_for h.key c.book.entries) (planned_put k.layout.shape c.book.entries h.key (aim.Held h)) refl refl e
    where
      at : (o : Option Entry) (p : Option Put) → entry_for h.key c.book.entries ≡ o
          → planned_put k.layout.shape c.book.entries h.key (aim.Held h) ≡ p
          → Some (with_job c (opener_job h o p)) ≡ Some s → Begins k c s
      at (Some w) p f g e = subst (Begins k c) (same_Some _ s e) (answers h rest w q f)
      at None (Some p) f g e = subst (Begins k c) (same_Some _ s e) (places_held h rest p q f g)
      at None None f g e = subst (Begins k c) (same_Some _ s e) (has_no_place h rest q f g)

  put_begins : (e : Entry) (rest : Option Put) (p : Put) (b : Bool) (o : Option Put) → Contains c.book.entries e
      → is_pending e ≡ b
      → planned_put k.layout.shape c.book.entries e.key aim.Pending ≡ o
      → (rest ≡ Some p → Begins k c (with_job c (Draw (draw.Reserved p))))
      → option_or (if b then o else None) rest ≡ Some p → Begins k c (with_job c (Draw (draw.Reserved p)))
  put_begins e rest p true (Some r) within a f more g = places e p within a (f ∙ g)
  put_begins e rest p true None within a f more g = more g
  put_begins e rest p false o within a f more g = more g

  first_put_begins : (es : List Entry) → ((e : Entry) → Contains es e → Contains c.book.entries e) → (p : Put)
      → first_put k.layout.shape c.book.entries es ≡ Some p → Begins k c (with_job c (Draw (draw.Reserved p)))
  first_put_begins [] within p e = cc
  first_put_begins (e ∷ rest) within p q =
      put_begins e (first_put k.layout.shape c.book.entries rest) p (is_pending e) (planned_put k.layout.shape c.book.entries e.key aim.Pending)
      (within e (zero, omega arith, refl)) refl refl
      (first_put_begins rest (λ w h. within w (suc h.0, omega (arith, h.1), h.2)) p) q

  retirement_begins : (o : Option Entry) → first_retirable k.layout.shape.lives c.book.entries ≡ o → (s : Start)
      → option_map (with_job c) (option_and_then retirement o) ≡ Some s → Begins k c s
  retirement_begins None q s e = cc
  retirement_begins (Some w) q s e = at w.place refl e
    where
      at : (o : Option Place) → w.place ≡ o
          → option_map (with_job c) (option_map (λ place. Draw (draw.Retired w.key place w.version)) o) ≡ Some s → Begins k c s
      at None f g = cc
      at (Some place) f g = subst (Begins k c) (same_Some _ s g) (retires w place q f)

  sweep_begins_at : (o : Option ℕ) → c.clock ≡ o → (s : Start) → sweep_of k.layout.shape c o ≡ Some s → Begins k c s
  sweep_begins_at None q s e = cc
  sweep_begins_at (Some ms) q s e = at (nat_le (c.swept_ms + k.layout.shape.idle_ms) ms) refl e
    where
      at : (b : Bool) → nat_le (c.swept_ms + k.layout.shape.idle_ms) ms ≡ b
          → (if b then Some (with_job c (Draw (draw.From ms))) else None) ≡ Some s → Begins k c s
      at true f g = subst (Begins k c) (same_Some _ s g) (sweeps ms q f)
      at false f g = cc

  release_begins : (o : Option (ℕ × ℕ)) → first_drained c.numbers c.book.entries ≡ o → (s : Start)
      → option_map (λ p. with_job c (Draw (draw.Grace (wait.Release p.0 p.1)))) o ≡ Some s → Begins k c s
  release_begins None q s e = cc
  release_begins (Some (vip, version)) q s e = subst (Begins k c) (same_Some _ s e) (releases vip version q)

  pending_begins : (o : Option Put) → first_put k.layout.shape c.book.entries c.book.entries ≡ o → (s : Start)
      → option_map (λ p. with_job c (Draw (draw.Reserved p))) o ≡ Some s → Begins k c s
  pending_begins None q s e = cc
  pending_begins (Some p) q s e = subst (Begins k c) (same_Some _ s e) (first_put_begins c.book.entries (λ w h. h) p q)

  -- a controller without a job begins one of these
  pub first_begins : Begins k c (first_act k c)
  unfolding first_act
  first_begins =
      let P = Begins k c in
      or_cases P (refusal_act c) _ _ (λ s e. refusal_begins c.refusing c.gives refl refl s e) (λ a.
      or_cases P (outage_act c) _ _ (λ s e. outage_begins c.outages refl s e) (λ b.
      or_cases P (update_act c) _ _ (λ s e. update_begins c.update refl s e) (λ d.
      or_cases P (opener_act k c) _ _ (λ s e. opener_begins c.held refl s e) (λ f.
      or_cases P (pending_act k c) _ _ (λ s e. pending_begins _ refl s e) (λ g.
      or_cases P (retire_act k c) _ _ (λ s e. retirement_begins _ refl s e) (λ h.
      or_cases P (sweep_act k c) _ _ (λ s e. sweep_begins_at c.clock refl s e) (λ i.
      last_cases P (release_act c) _ (λ s e. release_begins _ refl s e) (λ j.
      looks (record {
        refusal =
            a;
        outage = b;
        update = d;
        opener = f;
        pending = g;
        retirement = h;
        sweep = i;
        release = j;
      })))))))))

-- What the words at places say: an entry's place tells it, and a reserved one the put.
use Rattle.std.proofs.Common.{◌≡◌, ℕ, Bool, true, false, cond, ◌||◌, ◌<◌, List, [], ◌∷◌, ◌++◌, if◌then◌else◌, Some, None, Option, option_map, find, unwrap_or, sym, refl, ap, ◌∙◌, subst, arith}
use Rattle.std.proofs.lemmas.Bool.Decides.{nat_tests}
use Rattle.sr_base.proofs.Sameness.{same_key-self, same_place-self}
use Rattle.sr_base.specs.Key.{IsKey, KeyView}
use Rattle.sr_base.specs.Layout.{IsLayout, LayoutView}
use Rattle.sr_base.specs.declared.place.Place.{Place}
use Rattle.sr_base.specs.declared.place.Place.TheVariants.{Row, Slot}
use Rattle.sr_inv_facts.proofs.Books.{found_key}
use Rattle.sr_inv_facts.proofs.Ranges.{PutFits, entry_fits, put_fits}
use Rattle.sr_inv_facts.specs.Doing.{MissedReserved}
use Rattle.sr_inv_facts.specs.InJobs.{JobHolds, PutHolds, seen}
use Rattle.sr_inv_facts.specs.InWords.{job_word, put_word}
use Rattle.sr_inv_facts.specs.Invariant.{Invariant}
use Rattle.sr_inv_facts.specs.Readings.{Speaks, SpeaksLive, entry_words}
use Rattle.sr_machine.proofs.Written.{empty_says, live_says, reserved_says}
use Rattle.sr_machine.specs.Core.{Core, printed}
use Rattle.sr_machine.specs.Reads.{live_word, reserved_word, says, stands_for}
use Rattle.sr_machine.specs.declared.job.Job.{Job}
use Rattle.sr_machine.specs.declared.put.Put.{Put}
use Rattle.sr_machine.specs.declared.said.Said.{Said}
use Rattle.sr_shadow.proofs.Places.{held_elsewhere}
use Rattle.sr_shadow.proofs.Splits.{Split, split}
use Rattle.sr_shadow.specs.Book.{DistinctKeys, HeldOnce, entry_for, holder_entry, holder_of}
use Rattle.sr_shadow.specs.Entry.{holds, is_at}
use Rattle.sr_shadow.specs.declared.entry.Entry.{Entry}
use Rattle.sr_machine.specs.declared.draw.Draw.TheVariants as draw
use Rattle.sr_machine.specs.declared.job.Job.TheVariants as job
use Rattle.sr_machine.specs.declared.said.Said.TheVariants as said
use Rattle.sr_machine.specs.declared.store.Store.TheVariants as store
use Rattle.sr_machine.specs.declared.wait.Wait.TheVariants as wait

-- ---- who holds a place

-- nobody's key is no one
nobody : (place : Place) (es : List Entry) → holder_of place es ≡ None → holder_entry place es ≡ None
nobody place es = at (holder_entry place es)
  where
    at : (o : Option Entry) → option_map (λ e. e.key) o ≡ None → o ≡ None
    at None h = refl
    at (Some e) h = cc

-- the entry that holds a place that no other holds
holder_alone : (place : Place) (front back : List Entry) (e : Entry) → holds place e ≡ true → holder_entry place (front ++ back) ≡ None
    → holder_entry place (front ++ e ∷ back) ≡ Some e
holder_alone place [] back e h none = ap (λ b. cond b (Some e) (find (holds place) back)) h
holder_alone place (x ∷ front) back e h none = at (holds place x) none (holder_alone place front back e h)
  where
    at : (b : Bool) → cond b (Some x) (holder_entry place (front ++ back)) ≡ None
        → (holder_entry place (front ++ back) ≡ None → holder_entry place (front ++ e ∷ back) ≡ Some e)
        → cond b (Some x) (holder_entry place (front ++ e ∷ back)) ≡ Some e
    at true q more = cc
    at false q more = more q

-- a key's entry is the holder of the places that it holds
pub holder_found : (es : List Entry) (key : KeyView) (place : Place) (e : Entry) → DistinctKeys es → HeldOnce es → entry_for key es ≡ Some e
    → holds place e ≡ true → holder_entry place es ≡ Some e
holder_found es key place e d once q h = at (split key es e d q)
  where
    at : Split key es e → holder_entry place es ≡ Some e
    at t =
        let o : HeldOnce (t.front ++ e ∷ t.back) = subst HeldOnce t.is once in
        ap (holder_entry place) t.is
        ∙ holder_alone place t.front t.back e h (nobody place (t.front ++ t.back) (held_elsewhere place t.front t.back e o h))

-- an entry at a place holds it
pub at_held : (place : Place) (e : Entry) → e.place ≡ Some place → holds place e ≡ true
at_held place e q = ap (λ o. is_at place o || is_at place e.also) q ∙ ap (λ b. b || is_at place e.also) (same_place-self place)

-- ---- what a word says

-- a place is taken for that of its own key
pub stands_self : (l : LayoutView) (place : Place) (key : KeyView) → stands_for l place key key ≡ true
stands_self l (Slot way bucket cell) key = grind (arith, nat_tests)
stands_self l (Row row) key = same_key-self key

pub reserved_not_live : (l : LayoutView) → IsLayout l → (place : Place) (key other : KeyView) → IsKey key
    → SpeaksLive (says l place other (reserved_word l place key)) → ⊥
reserved_not_live l i place key other h sp = at (stands_for l place key other) (subst SpeaksLive (reserved_says l i place key other h) sp)
  where
    at : (b : Bool) → SpeaksLive (if b then said.Reserved else said.Nothing) → ⊥
    at true t = t
    at false t = t

-- what speaks of a reserved place is taken for its key
pub reserved_speaks : (l : LayoutView) → IsLayout l → (place : Place) (key other : KeyView) → IsKey key
    → stands_for l place key other ≡ true → Speaks (says l place other (reserved_word l place key))
reserved_speaks l i place key other h t =
    subst Speaks (sym (reserved_says l i place key other h ∙ ap (λ b. if b then said.Reserved else said.Nothing) t)) tt

pub live_speaks : (l : LayoutView) → IsLayout l → (place : Place) (key other : KeyView) (version : ℕ) → IsKey key
    → version < l.shape.versions → Speaks (says l place other (live_word l place key version)) → stands_for l place key other ≡ true
live_speaks l i place key other version h v sp = at (stands_for l place key other) refl (subst Speaks (live_says l i place key other version h v) sp)
  where
    at : (b : Bool) → stands_for l place key other ≡ b → Speaks (if b then said.Live version else said.Nothing) → b ≡ true
    at true q t = refl
    at false q t = absurd t

pub speaks_live : (s : Said) → SpeaksLive s → Speaks s
speaks_live said.Nothing t = t
speaks_live said.Reserved t = tt
speaks_live (said.Live n) t = tt

-- an empty place says nothing
pub empty_silent : (l : LayoutView) (place : Place) (other : KeyView) (x : ℕ) → x ≡ 0 → Speaks (says l place other x) → ⊥
empty_silent l place other x e sp = subst Speaks (ap (says l place other) e ∙ empty_says l place other) sp

-- ---- the words of a state

module _ (s : Core) (i : Invariant s) where
  abbrev l : LayoutView
  l = s.config.layout

  abbrev es : List Entry
  es = s.controller.book.entries

  abbrev w : Place → ℕ
  w = entry_words s.words

  -- the word of an entry's place
  pub held_word_is : (key : KeyView) (e : Entry) (place : Place) → entry_for key es ≡ Some e → holds place e ≡ true
      → w place ≡ live_word l place e.key e.version
  held_word_is key e place q h =
      i.words.others.table place
      ∙ ap (λ o. unwrap_or (option_map (λ x. live_word l place x.key x.version) o) (job_word l place s.controller.job)) (holder_found es key place e i.shape.book.distinct i.jobs.holds.once q h)

  -- and of a place that no entry holds
  pub unheld_word_is : (place : Place) (j : Job) → s.controller.job ≡ j → holder_of place es ≡ None → w place ≡ job_word l place j
  unheld_word_is place j q h =
      i.words.others.table place
      ∙ (ap (λ o. unwrap_or (option_map (λ x. live_word l place x.key x.version) o) (job_word l place s.controller.job)) (nobody place es h) ∙ ap (job_word l place) q)

  -- what the key's own entry says to it
  pub own_said : (key : KeyView) (e : Entry) (place : Place) → entry_for key es ≡ Some e → holds place e ≡ true
      → says l place key (w place) ≡ said.Live e.version
  own_said key e place q h =
      let f = entry_fits s.config i.shape.config.layout s.controller i.shape.book i.shape.controller key e q in
      let own : key ≡ e.key = found_key key es e q in
      ap (says l place key) (held_word_is key e place q h)
      ∙ (live_says l i.shape.config.layout place e.key key e.version f.key f.version
      ∙ ap (λ b. if b then said.Live e.version else said.Nothing) (ap (stands_for l place e.key) own ∙ stands_self l place e.key))

  pub holds_put : (q : Put) → JobHolds s.config (seen s.controller) (printed s) (job.Store (store.Judge q)) → PutHolds l.shape es s.controller.held q
  holds_put q h = h.0

  put_word_here : (q : Put) → put_word l q.place q ≡ reserved_word l q.place q.key
  put_word_here q = ap (λ b. if b then reserved_word l q.place q.key else 0) (same_place-self q.place)

  -- the word of a reserved place
  pub reserved_is : (q : Put) (j : Job) → s.controller.job ≡ j → PutHolds l.shape es s.controller.held q
      → job_word l q.place j ≡ put_word l q.place q → w q.place ≡ reserved_word l q.place q.key
  reserved_is q j e h word = unheld_word_is q.place j e h.free ∙ (word ∙ put_word_here q)

  -- a place that an opener may have passed before it was reserved is reserved
  pub record IsReserved (place : Place) : Type 0 where
    pub put : Put
    pub fits : PutFits l put
    pub same : place ≡ put.place
    pub word : w put.place ≡ reserved_word l put.place put.key

  pub missed_reserved : (j : Job) (p entered : ℕ) (place : Place) → s.controller.job ≡ j → MissedReserved j p entered place → IsReserved place
  missed_reserved (job.Draw (draw.Grace (wait.Judge q))) p entered place e h =
      let put = (subst (JobHolds s.config (seen s.controller) (printed s)) e i.jobs.holds.stands).0 in
      record {
        put = q;
        fits = put_fits s.config i.shape.config.layout s.controller i.shape.book i.shape.controller q put;
        same = h;
        word = reserved_is q (job.Draw (draw.Grace (wait.Judge q))) e put refl;
      }
  missed_reserved (job.Pass g n (wait.Judge q)) p entered place e h =
      let put = (subst (JobHolds s.config (seen s.controller) (printed s)) e i.jobs.holds.stands).0 in
      record {
        put = q;
        fits = put_fits s.config i.shape.config.layout s.controller i.shape.book i.shape.controller q put;
        same = h.0;
        word = reserved_is q (job.Pass g n (wait.Judge q)) e put refl;
      }
  missed_reserved j p entered place e h = absurd h

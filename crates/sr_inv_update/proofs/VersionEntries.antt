-- The versions of entries are in use, and none has a version that is to be released, as the book changes.
use Rattle.std.proofs.Common.{◌≡◌, ℕ, ◌<◌, Bool, true, false, ◌&&◌, ◌≢◌, ◌⊎◌, List, [], ◌∷◌, ◌++◌, if◌then◌else◌, ◌==◌, Some, None, Option, sym, refl, ap, ◌∙◌, inl, inr, ⊎_elim, arith}
use Rattle.std.proofs.lemmas.Bool.Decides.{nat_tests}
use Rattle.std.specs.List.{AllByRecursion}
use Rattle.sr_base.specs.Key.{KeyView}
use Rattle.sr_base.specs.Layout.{LayoutView}
use Rattle.sr_base.specs.declared.vip_word.Phase.{Phase}
use Rattle.sr_base.specs.declared.vip_word.Phase.TheVariants.{Steady, Recording, Holding, Transit}
use Rattle.sr_base.specs.declared.vip_word.VipWord.{VipWord}
use Rattle.sr_inv_facts.proofs.Books.{changed_all}
use Rattle.sr_inv_facts.proofs.Lists.{all_more}
use Rattle.sr_inv_facts.proofs.Taking.{TakesBook, same_book, learned_book, closed_book}
use Rattle.sr_inv_facts.specs.InUpdate.{IsNew, IsWordOf, UpdateHolds, VersionsHold, is_ungiven, is_used, is_used_by, standing}
use Rattle.sr_inv_update.proofs.VersionStores.{counted_none, none_counted}
use Rattle.sr_law.specs.declared.line.Line.{Line}
use Rattle.sr_machine.specs.Config.{Config}
use Rattle.sr_machine.specs.Deciding.{learned, learned_in, vip_at}
use Rattle.sr_machine.specs.Jobs.{judged_book}
use Rattle.sr_machine.specs.Stores.{phase_word}
use Rattle.sr_machine.specs.declared.job.Job.{Job}
use Rattle.sr_machine.specs.declared.pool_update.PoolUpdate.{PoolUpdate}
use Rattle.sr_machine.specs.declared.put.Put.{Put}
use Rattle.sr_shadow.specs.Book.{count_of, is_registered, with_taken}
use Rattle.sr_shadow.specs.Entry.{closed, has_version, settled, fresh}
use Rattle.sr_shadow.specs.declared.book.Book.{Book}
use Rattle.sr_shadow.specs.declared.entry.Entry.{Entry}
use Rattle.sr_update.specs.Numbers.{NumberRows, state_of}
use Rattle.sr_update.specs.declared.number_state.NumberState.TheVariants.{Current, Draining}

-- the entry's version is in use
abbrev pub IsUsed : NumberRows → Entry → Type 0
IsUsed numbers e = is_used numbers e.key.vip e.version ≡ true

-- a fact of an entry's key and version alone, as a word is taken
module _ (l : LayoutView) (numbers : NumberRows) (ended : Option KeyView) (x : ℕ) (P : KeyView → ℕ → Type 0) where
  pub taken_versions : (b d : Book) → ((key : KeyView) (n : ℕ) → state_of key.vip n numbers ≡ Some Current → P key n) → TakesBook l numbers ended x b d
      → AllByRecursion (λ e. P e.key e.version) b.entries → AllByRecursion (λ e. P e.key e.version) d.entries
  taken_versions b d new (same_book u) a = a
  taken_versions b d new (learned_book w q r s f) a =
      all_more (λ e. P e.key e.version) b.entries (fresh w.key w.version b.taken ∷ []) a (new w.key w.version s, tt)
  taken_versions b d new (closed_book w q r s) a =
      changed_all (λ e. P e.key e.version) (λ e. P e.key e.version) closed w.key (λ e q a. a) (λ e q a. a) b.entries a

-- what is taken is in use
pub taken_used : (l : LayoutView) (numbers : NumberRows) (ended : Option KeyView) (x : ℕ) (b d : Book) → TakesBook l numbers ended x b d
    → AllByRecursion (IsUsed numbers) b.entries → AllByRecursion (IsUsed numbers) d.entries
taken_used l numbers ended x b d t a =
    taken_versions l numbers ended x (λ key n. is_used numbers key.vip n ≡ true) b d (λ key n s. ap is_used_by s) t a

-- what is taken doesn't have a version that drains
pub taken_unreleased : (l : LayoutView) (numbers : NumberRows) (ended : Option KeyView) (x : ℕ) (b d : Book) (vip version : ℕ)
    → state_of vip version numbers ≡ Some Draining → TakesBook l numbers ended x b d
    → count_of vip version b.entries ≡ 0 → count_of vip version d.entries ≡ 0
taken_unreleased l numbers ended x b d vip version drains t n =
    counted_none (has_version vip version) d.entries
    (taken_versions l numbers ended x (λ key v. ((key.vip == vip) && (v == version)) ≡ false) b d other t (none_counted (has_version vip version) b.entries n))
  where
    not_both : Some Draining ≡ Some Current → ⊥
    not_both t = cc

    other : (key : KeyView) (v : ℕ) → state_of key.vip v numbers ≡ Some Current → ((key.vip == vip) && (v == version)) ≡ false
    other key v s = at (key.vip == vip) (v == version) refl refl
      where
        at : (a c : Bool) → (key.vip == vip) ≡ a → (v == version) ≡ c → (a && c) ≡ false
        at true true q r =
            let e : key.vip ≡ vip = grind (arith, nat_tests) in
            let f : v ≡ version = grind (arith, nat_tests) in
            absurd (not_both (sym drains ∙ (ap (λ z. state_of z version numbers) (sym e) ∙ (ap (λ z. state_of key.vip z numbers) (sym f) ∙ s))))
        at true false q r = refl
        at false c q r = refl

-- ---- what is learned is in use

learned_case : (k : Config) (lines : List Line) (update : Option PoolUpdate) (vips : List VipWord) (numbers : NumberRows) (named : List (List ℕ))
    (entries : List Entry) (mark : ℕ) (j : Job)
    → VersionsHold k lines update vips numbers named entries mark j → is_ungiven j ≡ false → (v : ℕ) → v < k.layout.vips
    → learned vips v < k.layout.shape.versions
    → (learned vips v ≡ standing update vips v) ⊎ IsNew update j v (learned vips v) → is_used numbers v (learned vips v) ≡ true
learned_case k lines update vips numbers named entries mark j h u v a b c = ap is_used_by ((h.current v (learned vips v) a b).1 c)

steady_learned : (w : VipWord) → w.phase ≡ Steady → learned_in w.phase w.cur w.next ≡ w.cur
steady_learned w e = ap (λ p. learned_in p w.cur w.next) e

phase_learned : (u : PoolUpdate) (p : Phase) → (learned_in (phase_word u p).phase (phase_word u p).cur (phase_word u p).next ≡ u.replaced) ⊎ (learned_in (phase_word u p).phase (phase_word u p).cur (phase_word u p).next ≡ u.given)
phase_learned u Steady = inr refl
phase_learned u Recording = inl refl
phase_learned u Holding = inl refl
phase_learned u Transit = inr refl

-- the version that an opener learns is Current: in an update the replaced one or, once it was given, the new one
pub learned_used : (k : Config) (lines : List Line) (update : Option PoolUpdate) (vips : List VipWord) (numbers : NumberRows) (named : List (List ℕ))
    (entries : List Entry) (mark : ℕ) (j : Job)
    → VersionsHold k lines update vips numbers named entries mark j → UpdateHolds k update vips j → is_ungiven j ≡ false → (v : ℕ)
    → v < k.layout.vips → learned vips v < k.layout.shape.versions → is_used numbers v (learned vips v) ≡ true
learned_used k lines None vips numbers named entries mark j h p u v a b =
    learned_case k lines None vips numbers named entries mark j h u v a b (inl (steady_learned (vip_at vips v) (p.others v tt)))
learned_used k lines (Some w) vips numbers named entries mark j h p u v a b =
    learned_case k lines (Some w) vips numbers named entries mark j h u v a b (at (v == w.vip) refl)
  where
    at : (q : Bool) → (v == w.vip) ≡ q → (learned vips v ≡ standing (Some w) vips v) ⊎ IsNew (Some w) j v (learned vips v)
    at false q =
        let e : v ≢ w.vip = grind (arith, nat_tests) in
        inl (steady_learned (vip_at vips v) (p.others v e) ∙ sym (ap (λ b. if b then w.replaced else (vip_at vips v).cur) q))
    at true q =
        let e : v ≡ w.vip = grind (arith, nat_tests) in
        by e p.word
      where
        stood : standing (Some w) vips v ≡ w.replaced
        stood = ap (λ b. if b then w.replaced else (vip_at vips v).cur) q

        by : v ≡ w.vip → IsWordOf w (vip_at vips w.vip) → (learned vips v ≡ standing (Some w) vips v) ⊎ IsNew (Some w) j v (learned vips v)
        by e (inl r) = inl (ap (λ z. learned vips z) e ∙ (ap (λ w. learned_in w.phase w.cur w.next) r ∙ sym stood))
        by e (inr (ph, r)) =
            let is : learned vips v ≡ learned_in (phase_word w ph).phase (phase_word w ph).cur (phase_word w ph).next =
            ap (λ z. learned vips z) e ∙ ap (λ w. learned_in w.phase w.cur w.next) r in
            ⊎_elim (λ t. inl (is ∙ (t ∙ sym stood))) (λ t. inr (u, e, is ∙ t)) (phase_learned w ph)

-- ---- an entry is made live

-- the entries once a key was taken with a version that is in use, and settled
pub judged_used : (numbers : NumberRows) (p : Put) (version : ℕ) (b : Book) (w : Bool)
    → (is_registered p.key b.entries ≡ false → is_used numbers p.key.vip version ≡ true)
    → AllByRecursion (IsUsed numbers) b.entries
    → AllByRecursion (IsUsed numbers) (judged_book w p version b).entries
judged_used numbers p version b true u a = a
judged_used numbers p version b false u a =
    changed_all (IsUsed numbers) (IsUsed numbers) (settled p.place) p.key (λ e q a. a) (λ e q a. a) (with_taken p.key version b).entries (at (is_registered p.key b.entries) refl)
  where
    at : (r : Bool) → is_registered p.key b.entries ≡ r
        → AllByRecursion (IsUsed numbers) (if r then b.entries else (b.entries ++ fresh p.key version b.taken ∷ []))
    at true r = a
    at false r = all_more (IsUsed numbers) b.entries (fresh p.key version b.taken ∷ []) a (u r, tt)

-- Where fewer changes of pools are due than there are versions, none is refused, and each has its switch.
use Rattle.std.proofs.Common.{◌≡◌, ℕ, zero, suc, ◌+◌, ◌-◌, ◌<◌, ◌≤◌, ◌==◌, ◌&&◌, nat_lt, nat_le, is_some, Bool, true, false, cond, List, [], ◌∷◌, ◌++◌, length, take, reverse, count_by, Option, None, Some, if◌then◌else◌, refl, sym, ap, ◌∙◌, subst, inl, inr, arith, append_assoc, append-nil}
use Rattle.std.proofs.lemmas.Bool.{and_parts, cases_Bool, eqb-true, or_cases}
use Rattle.std.proofs.lemmas.Bool.Decides.{nat_tests}
use Rattle.std.proofs.lemmas.List.{reverse-append}
use Rattle.std.proofs.lemmas.List.Sums.{sum_by-cons}
use Rattle.std.specs.List.{list_any}
use Rattle.std.specs.Option.{option_or}
use Rattle.sr_audit.specs.Counts.{is_switch}
use Rattle.sr_base.proofs.Sameness.{same_key-true}
use Rattle.sr_base.specs.Key.{KeyView, same_key}
use Rattle.sr_base.specs.declared.kind.Kind.TheVariants.{Opener, Carry, Ending}
use Rattle.sr_law.specs.Cause.{all_in_use}
use Rattle.sr_law.specs.Given.{given_by, has_pool, has_version, last_given, last_version, of_version}
use Rattle.sr_law.specs.Groups.{after_gives, goes_on, is_of_update, is_opening_give, is_over, keeps_groups, last_of_update, was_given, was_held, was_recorded, was_switched}
use Rattle.sr_law.specs.Lawful.{MeetsClauses, NoLineBreaks}
use Rattle.sr_law.specs.Number.{holds_version, is_held_open, is_in_use, opened_with}
use Rattle.sr_law.specs.Opening.{opened, opened_by, opening, retires}
use Rattle.sr_law.specs.Order.{meets_order}
use Rattle.sr_law.specs.Pools.{VipPools}
use Rattle.sr_law.specs.Retire.{EndingPacket}
use Rattle.sr_law.specs.Server.{meets_server}
use Rattle.sr_law.specs.Settled.{DueGive, are_none, gives_settled, is_given_next, is_refused_next, rest_of, update_settled}
use Rattle.sr_law.specs.Setup.{SetupView}
use Rattle.sr_law.specs.Ticks.{key_of}
use Rattle.sr_law.specs.declared.giving.Giving.{Giving}
use Rattle.sr_law.specs.declared.line.Line.{Line}
use Rattle.sr_law.specs.declared.opening.Opening.{Opening}
use Rattle.sr_law.specs.declared.verdict.Verdict.{Verdict}
use Rattle.sr_law_causes.proofs.Walking.{Walk, walk_met}
use Rattle.sr_law.specs.declared.line.Line.TheVariants as line
use Rattle.sr_law.specs.declared.verdict.Verdict.TheVariants as verdict

-- ---- which versions were given

-- a virtual address was given this version
abbrev was_given_version : List Line → ℕ → ℕ → Bool
was_given_version before vip version = is_some (last_version before vip version)

-- a giving is of a version that was given
of_given : (giving : Option Giving) (version : ℕ) (older : Option Giving) → has_version giving version ≡ true
    → is_some (option_or (of_version version giving) older) ≡ true
of_given None version older h = cc
of_given (Some giving) version older h = at (giving.version == version) h
  where
    at : (b : Bool) → b ≡ true → is_some (option_or (if b then Some giving else None) older) ≡ true
    at true h = refl
    at false h = cc

kept_given : (newer : Option Giving) (older : Option Giving) → is_some older ≡ true → is_some (option_or newer older) ≡ true
kept_given None older h = h
kept_given (Some giving) older h = refl

given_on : (l : Line) (before : List Line) (vip version : ℕ) → was_given_version before vip version ≡ true → was_given_version (l ∷ before) vip version ≡ true
given_on l before vip version h = kept_given (of_version version (given_by l vip)) (last_version before vip version) h

-- so is the last one
last_was_given : (before : List Line) (vip version : ℕ) → has_version (last_given before vip) version ≡ true → was_given_version before vip version ≡ true
last_was_given [] vip version h = cc
last_was_given (l ∷ before) vip version h = at (given_by l vip) (last_was_given before vip version) h
  where
    at : (o : Option Giving) → (has_version (last_given before vip) version ≡ true → was_given_version before vip version ≡ true)
        → has_version (option_or o (last_given before vip)) version ≡ true
        → is_some (option_or (of_version version o) (last_version before vip version)) ≡ true
    at None older h = older h
    at (Some giving) older h = of_given (Some giving) version (last_version before vip version) h

-- ---- the version of a connection was given

abbrev OpenedGiven : List Line → Type 0
OpenedGiven before = (c : KeyView) (o : Opening) → opening before c ≡ Some o → was_given_version before c.vip o.version ≡ true

has_some : (giving : Option Giving) (pool : ℕ) → has_pool giving pool ≡ true → is_some giving ≡ true
has_some None pool h = cc
has_some (Some giving) pool h = refl

-- a line that sends a packet of this key names a version that was given
sent_given : (pools : List VipPools) (before : List Line) (key c : KeyView) (out : ℕ) (v : Verdict) (o : Opening)
    → ((server version pool : ℕ) → v ≡ verdict.To server version pool → has_pool (last_version before key.vip version) pool ≡ true)
    → (if same_key key c then opened out v else None) ≡ Some o
    → was_given_version before c.vip o.version ≡ true
sent_given pools before key c out v o right e = at (same_key key c) refl v right e
  where
    at : (b : Bool) → same_key key c ≡ b → (v : Verdict)
        → ((server version pool : ℕ) → v ≡ verdict.To server version pool → has_pool (last_version before key.vip version) pool ≡ true)
        → (if b then opened out v else None) ≡ Some o
        → was_given_version before c.vip o.version ≡ true
    at false s v right e = cc
    at true s (verdict.To server version pool) right e =
        let same : key ≡ c = same_key-true key c s in
        let made : (record { out = out; server = server; version = version; pool = pool }) ≡ o = cc in
        let of_key = has_some (last_version before key.vip version) pool (right server version pool refl) in
        subst (λ (x : Opening). was_given_version before c.vip x.version ≡ true) made (subst (λ (k : KeyView). was_given_version before k.vip version ≡ true) same of_key)
    at true s v right e = cc

chosen_given : (pools : List VipPools) (before : List Line) (l : Line) (c : KeyView) (o : Opening) → meets_server pools before l ≡ true → opened_by l c ≡ Some o
    → was_given_version before c.vip o.version ≡ true
chosen_given pools before (line.Packet number entered out pipe key Opener v) c o m e =
    sent_given pools before key c out v o (λ server version pool is. (and_parts _ _ (subst (λ v. meets_server pools before (line.Packet number entered out pipe key Opener v) ≡ true) is m)).0) e
chosen_given pools before (line.Packet number entered out pipe key Carry v) c o m e = cc
chosen_given pools before (line.Packet number entered out pipe key Ending v) c o m e = cc
chosen_given pools before (line.Answer out pipe nth key v) c o m e =
    sent_given pools before key c out v o (λ server version pool is. (and_parts _ _ (subst (λ v. meets_server pools before (line.Answer out pipe nth key v) ≡ true) is m)).0) e
chosen_given pools before l c o m e = cc

opened_more : (pools : List VipPools) (before : List Line) (l : Line) → meets_server pools before l ≡ true → OpenedGiven before → OpenedGiven (l ∷ before)
opened_more pools before l m h c o e = given_on l before c.vip o.version (at (retires l c) (opening before c) refl e)
  where
    at : (b : Bool) (older : Option Opening) → opening before c ≡ older → (if b then None else option_or older (opened_by l c)) ≡ Some o → was_given_version before c.vip o.version ≡ true
    at true older is e = cc
    at false (Some older) is e = let same : older ≡ o = cc in h c o (is ∙ ap Some same)
    at false None is e = chosen_given pools before l c o m e

-- a version that is in use was given
held_given : (before lines : List Line) (vip version : ℕ) → OpenedGiven before → list_any (λ l. holds_version before vip version (key_of l)) lines ≡ true
    → was_given_version before vip version ≡ true
held_given before [] vip version h e = cc
held_given before (l ∷ lines) vip version h e =
    elim (or_cases (holds_version before vip version (key_of l)) (list_any (λ l. holds_version before vip version (key_of l)) lines) e) [
      | inl here ↦ at (key_of l) here
      | inr later ↦ held_given before lines vip version h later
    ]
  where
    with_opening : (key : KeyView) (o : Option Opening) → opening before key ≡ o → ((key.vip == vip) && opened_with version o) ≡ true → was_given_version before vip version ≡ true
    with_opening key None is e = let parts = and_parts _ _ e in absurd (let n : false ≡ true = parts.1 in cc)
    with_opening key (Some o) is e =
        let parts = and_parts (key.vip == vip) (o.version == version) e in
        subst (λ v. was_given_version before v version ≡ true) (eqb-true key.vip vip parts.0)
        (subst (λ n. was_given_version before key.vip n ≡ true) (eqb-true o.version version parts.1) (h key o is))

    at : (k : Option KeyView) → holds_version before vip version k ≡ true → was_given_version before vip version ≡ true
    at None e = cc
    at (Some key) e = with_opening key (opening before key) refl e

used_given : (before : List Line) (vip version : ℕ) → OpenedGiven before → is_in_use before vip version ≡ true → was_given_version before vip version ≡ true
used_given before vip version h e =
    elim (or_cases (has_version (last_given before vip) version) (is_held_open before vip version) e) [
      | inl last ↦ last_was_given before vip version last
      | inr held ↦ held_given before before vip version h held
    ]

-- ---- how many versions were given

-- of the versions 1 to n
abbrev given_up_to : List Line → ℕ → ℕ → ℕ
given_up_to before vip zero = 0
given_up_to before vip (suc n) = cond (was_given_version before vip (suc n)) 1 0 + given_up_to before vip n

-- where all below this number are in use, all of them were
all_given : (before : List Line) (vip n : ℕ) → OpenedGiven before → all_in_use before vip (suc n) ≡ true → given_up_to before vip n ≡ n
all_given before vip zero h e = refl
all_given before vip (suc n) h e =
    let parts = and_parts (is_in_use before vip (suc n)) (all_in_use before vip (suc n)) e in
    let this = used_given before vip (suc n) h parts.0 in
    let rest = all_given before vip n h parts.1 in
    omega (arith, rest, ap (λ b. cond {A = ℕ} b 1 0) this)

-- a line that gives no version leaves them
given_same : (l : Line) (before : List Line) (vip n : ℕ) → ((version : ℕ) → of_version version (given_by l vip) ≡ None) → given_up_to (l ∷ before) vip n ≡ given_up_to before vip n
given_same l before vip zero none = refl
given_same l before vip (suc n) none =
    let this = ap (λ (o : Option Giving). cond {A = ℕ} (is_some (option_or o (last_version before vip (suc n)))) 1 0) (none (suc n)) in
    omega (arith, this, given_same l before vip n none)

one_bit : (a b c : Bool) → (b ≡ true → c ≡ true) → cond {A = ℕ} (a && b) 1 0 ≤ cond {A = ℕ} (a && c) 1 0
one_bit false b c h = omega arith
one_bit true false c h = omega arith
one_bit true true c h = omega (arith, ap (λ b. cond {A = ℕ} b 1 0) (h refl))

-- a Given line gives one more at most, and none if it is of version 0
one_given : (out to version pool : ℕ) (before : List Line) (vip n : ℕ)
    → given_up_to (line.Given out to version pool ∷ before) vip n ≤ given_up_to before vip n + cond (nat_le 1 version && nat_le version n) 1 0
one_given out to version pool before vip zero = omega arith
one_given out to version pool before vip (suc n) =
    at (to == vip) (version == suc n) refl refl (one_given out to version pool before vip n)
  where
    l : Line
    l = line.Given out to version pool

    known : Option Giving → ℕ
    known o = cond (is_some (option_or (of_version (suc n) o) (last_version before vip (suc n)))) 1 0

    most : (o : Option Giving) → known o ≤ 1
    most o = bit (is_some (option_or (of_version (suc n) o) (last_version before vip (suc n))))
      where
        bit : (b : Bool) → cond {A = ℕ} b 1 0 ≤ 1
        bit true = omega arith
        bit false = omega arith

    sooner : given_up_to (l ∷ before) vip n ≤ given_up_to before vip n + cond (nat_le 1 version && nat_le version n) 1 0
        → given_up_to (l ∷ before) vip n ≤ given_up_to before vip n + cond (nat_le 1 version && nat_le version (suc n)) 1 0
    sooner h =
        let wider = one_bit (nat_le 1 version) (nat_le version n) (nat_le version (suc n)) (λ e. grind (arith, nat_tests, e)) in
        omega (arith, h, wider)

    at : (a b : Bool) → (to == vip) ≡ a → (version == suc n) ≡ b
        → given_up_to (l ∷ before) vip n ≤ given_up_to before vip n + cond (nat_le 1 version && nat_le version n) 1 0
        → known (if to == vip then Some (record { version = version; pool = pool }) else None) + given_up_to (l ∷ before) vip n
        ≤ cond (was_given_version before vip (suc n)) 1 0 + given_up_to before vip n + cond (nat_le 1 version && nat_le version (suc n)) 1 0
    at a true e f h =
        let late : (nat_le 1 version && nat_le version n) ≡ false = grind (arith, nat_tests, f) in
        let now : (nat_le 1 version && nat_le version (suc n)) ≡ true = grind (arith, nat_tests, f) in
        omega (arith, h, most (if to == vip then Some (record { version = version; pool = pool }) else None), ap (λ b. cond {A = ℕ} b 1 0) late, ap (λ b. cond {A = ℕ} b 1 0) now)
    at false false e f h =
        let other = ap (λ b. known (if b then Some (record { version = version; pool = pool }) else None)) e in
        let more = sooner h in
        omega (arith, other, more)
    at true false e f h =
        let this = ap (λ b. known (if b then Some (record { version = version; pool = pool }) else None)) e in
        let other = ap (λ b. cond {A = ℕ} (is_some (option_or (if b then Some (record { version = version; pool = pool }) else None) (last_version before vip (suc n)))) 1 0) f in
        let more = sooner h in
        omega (arith, this, other, more)

-- so it gives one more at most, whichever it is
any_given : (out to version pool : ℕ) (before : List Line) (vip n : ℕ) → given_up_to (line.Given out to version pool ∷ before) vip n ≤ given_up_to before vip n + 1
any_given out to version pool before vip n =
    let wider = one_bit (nat_le 1 version) (nat_le version n) true (λ e. refl) in
    let most = one_bit (nat_le 1 version) true true (λ e. refl) in
    let all = one_bit true (nat_le 1 version && true) true (λ e. refl) in
    omega (arith, one_given out to version pool before vip n, wider, most, all)

first_given : (out to version pool : ℕ) (before : List Line) (vip n : ℕ) → (version == 0) ≡ true
    → given_up_to (line.Given out to version pool ∷ before) vip n ≤ given_up_to before vip n
first_given out to version pool before vip n e =
    let none : (nat_le 1 version && nat_le version n) ≡ false = grind (arith, nat_tests, e) in
    omega (arith, one_given out to version pool before vip n, ap (λ b. cond {A = ℕ} b 1 0) none)

-- ---- the lines of updates

-- an update that wasn't switched yet
abbrev pending : Option Line → ℕ
pending (Some (line.Given out vip version pool)) = 1
pending (Some (line.Recorded out vip)) = 1
pending (Some (line.Hold out vip)) = 1
pending last = 0

over_pending : (last : Option Line) → is_over last ≡ true → pending last ≡ 0
over_pending None h = refl
over_pending (Some (line.Finished out vip)) h = refl
over_pending (Some (line.Given out vip version pool)) h = cc
over_pending (Some (line.Recorded out vip)) h = cc
over_pending (Some (line.Hold out vip)) h = cc
over_pending (Some l) h = cc

given_pending : (vip : ℕ) (last : Option Line) → was_given vip last ≡ true → pending last ≡ 1
given_pending vip None h = cc
given_pending vip (Some (line.Given out to version pool)) h = refl
given_pending vip (Some l) h = cc

recorded_pending : (vip : ℕ) (last : Option Line) → was_recorded vip last ≡ true → pending last ≡ 1
recorded_pending vip None h = cc
recorded_pending vip (Some (line.Recorded out to)) h = refl
recorded_pending vip (Some l) h = cc

held_pending : (vip : ℕ) (last : Option Line) → was_held vip last ≡ true → pending last ≡ 1
held_pending vip None h = cc
held_pending vip (Some (line.Hold out to)) h = refl
held_pending vip (Some l) h = cc

switched_pending : (vip : ℕ) (last : Option Line) → was_switched vip last ≡ true → pending last ≡ 0
switched_pending vip None h = cc
switched_pending vip (Some (line.Switched out to pool)) h = refl
switched_pending vip (Some l) h = cc

module _ (setup : SetupView) (endings : List EndingPacket) where
  abbrev vips : ℕ
  vips = length setup.pools

  abbrev last : List Line → Option Line
  last before = last_of_update (after_gives vips before)

  -- so many changes were made by these lines, and so many of them switched
  record Going (made switches : ℕ) (before : List Line) : Type 0 where
    opened : OpenedGiven before
    few : (vip n : ℕ) → given_up_to before vip n ≤ made
    all : switches + pending (last before) ≡ made

  group_part : (before : List Line) (l : Line) → meets_order setup before l ≡ true → keeps_groups setup before l ≡ true
  unfolding meets_order
  group_part before l m = (and_parts _ _ (and_parts _ _ (and_parts _ _ (and_parts _ _ m).0).0).0).0

  goes_late : (before : List Line) (l : Line) → keeps_groups setup before l ≡ true → nat_lt (length before) vips ≡ false → goes_on (last before) l ≡ true
  unfolding keeps_groups
  goes_late before l k e =
      subst (λ b. (if b then is_opening_give (length before) l else goes_on (last before) l) ≡ true) e (and_parts _ _ k).0

  goes_early : (before : List Line) (l : Line) → keeps_groups setup before l ≡ true → nat_lt (length before) vips ≡ true
      → is_opening_give (length before) l ≡ true
  unfolding keeps_groups
  goes_early before l k e =
      subst (λ b. (if b then is_opening_give (length before) l else goes_on (last before) l) ≡ true) e (and_parts _ _ k).0

  none_early : (before : List Line) → nat_le (length before) vips ≡ true → last before ≡ None
  none_early before e =
      let none : length before - vips ≡ 0 = grind (arith, nat_tests, e) in ap (λ n. last_of_update (take n before)) none

  last_late : (before : List Line) (l : Line) → nat_lt (length before) vips ≡ false → last (l ∷ before) ≡ (if is_of_update l then Some l else last before)
  last_late before l e =
      let more : length (l ∷ before) - vips ≡ suc (length before - vips) = grind (arith, nat_tests, e) in
      ap (λ n. last_of_update (take n (l ∷ before))) more

  -- the lines and changes that are left, with so many made and switched so far
  abbrev Left : ℕ → ℕ → List Line → List DueGive → List Line → Type 0
  Left made switches before dues rest = Going made switches before × (gives_settled setup before dues rest ≡ true)

  -- after a line: the counts and what is left, which come to as many
  record Next (made switches : ℕ) (before : List Line) (dues : List DueGive) (l : Line) (rest : List Line) : Type 0 where
    made_now : ℕ
    dues_now : List DueGive
    as_many : made_now + length dues_now ≡ made + length dues
    going : Going made_now (switches + cond (is_switch l) 1 0) (l ∷ before)
    told : gives_settled setup (l ∷ before) dues_now rest ≡ true

  -- one of the first lines
  early : (made switches : ℕ) (before : List Line) (dues : List DueGive) (l : Line) (rest : List Line) → MeetsClauses setup endings before l
      → nat_lt (length before) vips ≡ true → Going made switches before
      → gives_settled setup before dues (l ∷ rest) ≡ true → Next made switches before dues l rest
  early made switches before dues (line.Given out vip version pool) rest m e g told =
      let opens = goes_early before (line.Given out vip version pool) (group_part before (line.Given out vip version pool) m.order) e in
      let zero_version : (version == 0) ≡ true = (and_parts _ _ (and_parts _ _ opens).0).1 in
      let on : nat_le (length (line.Given out vip version pool ∷ before)) vips ≡ true = grind (arith, nat_tests, e) in
      let was : nat_le (length before) vips ≡ true = grind (arith, nat_tests, e) in
      let no_more = ap pending (none_early (line.Given out vip version pool ∷ before) on) in
      let none = ap pending (none_early before was) in
      let all = g.all in record {
        made_now = made;
        dues_now = dues;
        as_many = refl;
        going = record {
          opened = opened_more setup.pools before (line.Given out vip version pool) m.server g.opened;
          few = λ v n. omega (arith, g.few v n, first_given out vip version pool before v n zero_version);
          all = omega (arith, all, none, no_more);
        };
        told = subst (λ b. (if b then gives_settled setup (line.Given out vip version pool ∷ before) dues rest
            else (is_given_next dues vip pool && gives_settled setup (line.Given out vip version pool ∷ before) (rest_of dues) rest)) ≡ true) e told;
      }
  early made switches before dues l rest m e g told = absurd (cc (goes_early before l (group_part before l m.order) e))

  -- a change that is made is one of those that were due
  one_given_next : (dues : List DueGive) (vip pool : ℕ) → is_given_next dues vip pool ≡ true → suc (length (rest_of dues)) ≡ length dues
  one_given_next [] vip pool h = cc
  one_given_next (due ∷ rest) vip pool h = refl

  -- with fewer changes than versions none is refused
  not_refused : (made switches : ℕ) (before : List Line) (dues : List DueGive) (change : ℕ) → Going made switches before → made + length dues < setup.shape.versions
      → is_refused_next setup before dues change ≡ true → ⊥
  not_refused made switches before [] change g few h = cc
  not_refused made switches before (due ∷ rest) change g few h = at setup.shape.versions few (and_parts _ _ h).1
    where
      at : (versions : ℕ) → made + length (due ∷ rest) < versions → all_in_use before due.vip versions ≡ true → ⊥
      at zero few h = omega (arith, few)
      at (suc n) few h = omega (arith, few, g.few due.vip n, all_given before due.vip n g.opened h)

  -- what a line of no update leaves
  plain : (made switches : ℕ) (before : List Line) (dues : List DueGive) (l : Line) (rest : List Line) → MeetsClauses setup endings before l
      → nat_lt (length before) vips ≡ false → Going made switches before → is_of_update l ≡ false → is_switch l ≡ false
      → ((vip version : ℕ) → of_version version (given_by l vip) ≡ None)
      → gives_settled setup (l ∷ before) dues rest ≡ true → Next made switches before dues l rest
  plain made switches before dues l rest m e g own none never told =
      let same : last (l ∷ before) ≡ last before = last_late before l e ∙ ap (λ b. if b then Some l else last before) own in
      let now = ap pending same in
      let all = g.all in
      let no = ap (λ b. cond {A = ℕ} b 1 0) none in record {
        made_now = made;
        dues_now = dues;
        as_many = refl;
        going = record {
          opened = opened_more setup.pools before l m.server g.opened;
          few = λ v n. omega (arith, g.few v n, given_same l before v n (never v));
          all = omega (arith, all, now, no);
        };
        told = told;
      }

  -- what the next line of an update leaves
  of_update : (made switches : ℕ) (before : List Line) (dues : List DueGive) (l : Line) (rest : List Line) (was : ℕ) → MeetsClauses setup endings before l
      → nat_lt (length before) vips ≡ false → Going made switches before → is_of_update l ≡ true
      → pending (last before) ≡ was → cond (is_switch l) 1 0 + pending (Some l) ≡ was
      → ((vip version : ℕ) → of_version version (given_by l vip) ≡ None)
      → gives_settled setup (l ∷ before) dues rest ≡ true → Next made switches before dues l rest
  of_update made switches before dues l rest was m e g own before_it after never told =
      let one : last (l ∷ before) ≡ Some l = last_late before l e ∙ ap (λ b. if b then Some l else last before) own in
      let now = ap pending one in
      let all = g.all in record {
        made_now = made;
        dues_now = dues;
        as_many = refl;
        going = record {
          opened = opened_more setup.pools before l m.server g.opened;
          few = λ v n. omega (arith, g.few v n, given_same l before v n (never v));
          all = omega (arith, all, now, before_it, after);
        };
        told = told;
      }

  late : (made switches : ℕ) (before : List Line) (dues : List DueGive) (l : Line) (rest : List Line) → MeetsClauses setup endings before l
      → nat_lt (length before) vips ≡ false → Going made switches before → made + length dues < setup.shape.versions
      → gives_settled setup before dues (l ∷ rest) ≡ true → Next made switches before dues l rest
  late made switches before dues (line.Given out vip version pool) rest m e g few told =
      let l = line.Given out vip version pool in
      let here : (is_given_next dues vip pool && gives_settled setup (l ∷ before) (rest_of dues) rest) ≡ true =
      subst (λ b. (if b then gives_settled setup (l ∷ before) dues rest
      else (is_given_next dues vip pool && gives_settled setup (l ∷ before) (rest_of dues) rest)) ≡ true) e told in
      let parts = and_parts (is_given_next dues vip pool) (gives_settled setup (l ∷ before) (rest_of dues) rest) here in
      let one : last (l ∷ before) ≡ Some l = last_late before l e in
      let now = ap pending one in
      let was = over_pending (last before) (goes_late before l (group_part before l m.order) e) in
      let all = g.all in record {
        made_now = suc made;
        dues_now = rest_of dues;
        as_many = omega (arith, one_given_next dues vip pool parts.0);
        going = record {
          opened = opened_more setup.pools before l m.server g.opened;
          few = λ v n. omega (arith, g.few v n, any_given out vip version pool before v n);
          all = omega (arith, all, now, was);
        };
        told = parts.1;
      }
  late made switches before dues (line.Recorded out vip) rest m e g few told =
      of_update made switches before dues (line.Recorded out vip) rest 1 m e g refl
      (given_pending vip (last before) (goes_late before (line.Recorded out vip) (group_part before (line.Recorded out vip) m.order) e)) refl (λ v n. refl) told
  late made switches before dues (line.Hold out vip) rest m e g few told =
      of_update made switches before dues (line.Hold out vip) rest 1 m e g refl
      (recorded_pending vip (last before) (goes_late before (line.Hold out vip) (group_part before (line.Hold out vip) m.order) e)) refl (λ v n. refl) told
  late made switches before dues (line.Switched out vip pool) rest m e g few told =
      of_update made switches before dues (line.Switched out vip pool) rest 1 m e g refl
      (held_pending vip (last before) (goes_late before (line.Switched out vip pool) (group_part before (line.Switched out vip pool) m.order) e)) refl (λ v n. refl) told
  late made switches before dues (line.Finished out vip) rest m e g few told =
      of_update made switches before dues (line.Finished out vip) rest 0 m e g refl
      (switched_pending vip (last before) (goes_late before (line.Finished out vip) (group_part before (line.Finished out vip) m.order) e)) refl (λ v n. refl) told
  late made switches before dues (line.Refused out change) rest m e g few told =
      absurd (not_refused made switches before dues change g few (and_parts _ _ told).0)
  late made switches before dues l rest m e g few told = plain made switches before dues l rest m e g refl refl (λ v n. refl) told

  next : (made switches : ℕ) (before : List Line) (dues : List DueGive) (l : Line) (rest : List Line) → MeetsClauses setup endings before l
      → Going made switches before → made + length dues < setup.shape.versions
      → gives_settled setup before dues (l ∷ rest) ≡ true → Next made switches before dues l rest
  next made switches before dues l rest m g few told =
      elim (cases_Bool (nat_lt (length before) vips)) [
        | inl e ↦ early made switches before dues l rest m e g told
        | inr e ↦ late made switches before dues l rest m e g few told
      ]

  turned : (l : Line) (before rest : List Line) → reverse (l ∷ rest) ++ before ≡ reverse rest ++ l ∷ before
  turned l before rest = ap (λ ls. ls ++ before) (reverse-append (l ∷ []) rest) ∙ append_assoc (reverse rest) (l ∷ []) before

  nothing_left : (dues : List DueGive) → are_none dues ≡ true → length dues ≡ 0
  nothing_left [] h = refl
  nothing_left (due ∷ rest) h = cc

  walked : (made switches : ℕ) (before : List Line) (dues : List DueGive) (lines : List Line) → Walk (MeetsClauses setup endings) before lines
      → Going made switches before → made + length dues < setup.shape.versions
      → gives_settled setup before dues lines ≡ true → is_over (last (reverse lines ++ before)) ≡ true
      → switches + count_by is_switch lines ≡ made + length dues
  walked made switches before dues [] m g few told over =
      omega (arith, g.all, over_pending (last before) over, nothing_left dues told)
  walked made switches before dues (l ∷ rest) m g few told over =
      let n = next made switches before dues l rest m.0 g few told in
      let on = walked n.made_now (switches + cond (is_switch l) 1 0) (l ∷ before) n.dues_now rest m.1 n.going (omega (arith, n.as_many, few)) n.told
      (subst (λ ls. is_over (last ls) ≡ true) (turned l before rest) over) in
      let one = sum_by-cons (λ l. cond {A = ℕ} (is_switch l) 1 0) l rest in
      omega (arith, on, n.as_many, one)

pub all_switched : (setup : SetupView) (endings : List EndingPacket) (lines : List Line) (dues : List DueGive) → NoLineBreaks setup endings lines
    → gives_settled setup [] dues lines ≡ true → update_settled setup (reverse lines) ≡ true → length dues < setup.shape.versions
    → count_by is_switch lines ≡ length dues
all_switched setup endings lines dues met told over few =
    let all = walked setup endings 0 0 [] dues lines (walk_met setup endings lines met)
    (record {
      opened = λ c o e. absurd (cc e);
      few = nothing_given;
      all = omega (arith, ap pending (none_at_all (0 - length setup.pools)));
    }) (omega (arith, few)) told (subst (λ ls. is_over (last_of_update (after_gives (length setup.pools) ls)) ≡ true) (sym (append-nil (reverse lines))) over)
    in omega (arith, all)
  where
    none_at_all : (n : ℕ) → last_of_update (take n []) ≡ None
    none_at_all zero = refl
    none_at_all (suc n) = refl

    nothing_given : (vip n : ℕ) → given_up_to [] vip n ≤ 0
    nothing_given vip zero = omega arith
    nothing_given vip (suc n) = omega (arith, nothing_given vip n)

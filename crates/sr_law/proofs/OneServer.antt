-- Same and Server together give one server: that of the opening.
use Rattle.std.proofs.Common.{◌≡◌, ℕ, ◌<◌, Bool, true, ◌&&◌, cond, List, [], ◌∷◌, Option, Some, None, sym, ◌∙◌, ap, subst, inl, inr, arith}
use Rattle.std.specs.Prelude.{nat_eq, nat_le}
use Rattle.std.specs.Option.{option_or}
use Rattle.std.proofs.lemmas.Bool.{and_parts, or_cases, eqb-true, leb-true, cases_Bool, false≢true}
use Rattle.std.proofs.lemmas.Option.{none-some, same_Some}
use Rattle.sr_base.specs.Key.{KeyView, same_key}
use Rattle.sr_base.specs.declared.kind.Kind.TheVariants.{Opener}
use Rattle.sr_law.specs.declared.line.Line.{Line}
use Rattle.sr_law.specs.declared.line.Line.TheVariants.{Packet, Answer}
use Rattle.sr_law.specs.declared.verdict.Verdict.{Verdict}
use Rattle.sr_law.specs.declared.verdict.Verdict.TheVariants.{To}
use Rattle.sr_law.specs.declared.choice.Choice.{Choice}
use Rattle.sr_law.specs.declared.opening.Opening.{Opening}
use Rattle.sr_law.specs.Pools.{VipPools, server_of}
use Rattle.sr_law.specs.Ticks.{start_of, choice_of, chosen}
use Rattle.sr_law.specs.Opening.{opened, opened_by, retires, opening}
use Rattle.sr_law.specs.Same.{keeps_pool, keeps_choice, meets_same}
use Rattle.sr_law.specs.Given.{has_pool, last_version}
use Rattle.sr_law.specs.Server.{is_number, is_right_choice, meets_server}
use Rattle.sr_base.proofs.Sameness.{same_key-true}

-- each of these lines names the right server by the lines before it
abbrev pub all_meet_server : List VipPools → List Line → Bool
all_meet_server pools [] = true
all_meet_server pools (line ∷ before) = meets_server pools before line && all_meet_server pools before

-- there is a number, so it is this one
pub is_number-true : (o : Option ℕ) (n : ℕ) → is_number o n ≡ true → o ≡ Some n
is_number-true None n e = absurd (false≢true e)
is_number-true (Some x) n e = ap Some (eqb-true x n e)

-- the server of a right choice
right_choice : (pools : List VipPools) (before : List Line) (choice : Choice) → is_right_choice pools before (Some choice) ≡ true → server_of pools choice.pool choice.key ≡ Some choice.server
right_choice pools before choice e =
    is_number-true (server_of pools choice.pool choice.key) choice.server (and_parts (has_pool (last_version before choice.key.vip choice.version) choice.pool) _ e).1

-- the opening that a verdict makes names the right server, where its choice is right
opened_right : (pools : List VipPools) (before : List Line) (out : ℕ) (key : KeyView) (verdict : Verdict) (o : Opening) → is_right_choice pools before (chosen key verdict) ≡ true → opened out verdict ≡ Some o → server_of pools o.pool key ≡ Some o.server
opened_right pools before out key (To server version pool) o right e =
    let made : Opening = record { out = out; server = server; version = version; pool = pool } in
    let same : made ≡ o = same_Some made o e in
    subst (λ x. server_of pools x.pool key ≡ Some x.server) same (right_choice pools before (record { key = key; server = server; version = version; pool = pool }) right)
opened_right pools before out key verdict o right e = absurd (none-some o e)

keyed_right : (pools : List VipPools) (before : List Line) (out : ℕ) (key c : KeyView) (verdict : Verdict) (o : Opening) → is_right_choice pools before (chosen key verdict) ≡ true → cond (same_key key c) (opened out verdict) None ≡ Some o → server_of pools o.pool c ≡ Some o.server
keyed_right pools before out key c verdict o right e =
    elim (cases_Bool (same_key key c)) [
      | inl t ↦
          let opens : opened out verdict ≡ Some o = rw t at e in
          subst (λ k. server_of pools o.pool k ≡ Some o.server) (same_key-true key c t) (opened_right pools before out key verdict o right opens)
      | inr f ↦ absurd (none-some o (rw f at e))
    ]

-- the opening that a line makes names the right server, where the line does
line_right : (pools : List VipPools) (before : List Line) (line : Line) (c : KeyView) (o : Opening) → meets_server pools before line ≡ true → opened_by line c ≡ Some o → server_of pools o.pool c ≡ Some o.server
line_right pools before (Packet number entered out pipe key Opener verdict) c o right e = keyed_right pools before out key c verdict o right e
line_right pools before (Answer out pipe nth key verdict) c o right e = keyed_right pools before out key c verdict o right e
line_right pools before line c o right e = absurd (none-some o e)

first_right : (pools : List VipPools) (before : List Line) (line : Line) (c : KeyView) (o : Opening) (first : Option Opening) → (first ≡ Some o → server_of pools o.pool c ≡ Some o.server) → meets_server pools before line ≡ true → option_or first (opened_by line c) ≡ Some o → server_of pools o.pool c ≡ Some o.server
first_right pools before line c o (Some x) older right found = older found
first_right pools before line c o None older right found = line_right pools before line c o right found

-- the opening names the right server, where every line does
pub opening_right : (pools : List VipPools) (before : List Line) (c : KeyView) (o : Opening) → all_meet_server pools before ≡ true → opening before c ≡ Some o → server_of pools o.pool c ≡ Some o.server
opening_right pools [] c o all e = absurd (none-some o e)
opening_right pools (line ∷ before) c o all e =
    let parts = and_parts (meets_server pools before line) (all_meet_server pools before) all in
    let older : opening before c ≡ Some o → server_of pools o.pool c ≡ Some o.server = opening_right pools before c o parts.1 in
    elim (cases_Bool (retires line c)) [
      | inl t ↦ absurd (none-some o (rw t at e))
      | inr f ↦ first_right pools before line c o (opening before c) older parts.0 (rw f at e)
    ]

-- a packet of an open connection that began after the opening goes to the opening's server
pub one_server : (pools : List VipPools) (before : List Line) (line : Line) → all_meet_server pools before ≡ true → meets_server pools before line ≡ true → meets_same before line ≡ true → (choice : Choice) (o : Opening) → choice_of line ≡ Some choice → opening before choice.key ≡ Some o → o.out < start_of line → choice.server ≡ o.server
one_server pools before line all server same choice o is found later =
    let right : server_of pools choice.pool choice.key ≡ Some choice.server =
    right_choice pools before choice (subst (λ x. is_right_choice pools before x ≡ true) is server) in
    let opened : server_of pools o.pool choice.key ≡ Some o.server = opening_right pools before choice.key o all found in
    let kept : keeps_pool (opening before choice.key) (start_of line) choice.pool ≡ true =
    subst (λ x. keeps_choice before (start_of line) x ≡ true) is same in
    let one : keeps_pool (Some o) (start_of line) choice.pool ≡ true = subst (λ x. keeps_pool x (start_of line) choice.pool ≡ true) found kept in
    elim (or_cases (nat_le (start_of line) o.out) (nat_eq choice.pool o.pool) one) [
      | inl early ↦ absurd (omega (arith, leb-true (start_of line) o.out early, later))
      | inr pool ↦ same_Some choice.server o.server (sym right ∙ subst (λ x. server_of pools x choice.key ≡ Some o.server) (sym (eqb-true choice.pool o.pool pool)) opened)
    ]

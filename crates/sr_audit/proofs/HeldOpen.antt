-- Who holds a version: an open connection has a line.
use Rattle.std.proofs.Common.{◌≡◌, ℕ, Bool, true, false, ◌&&◌, ◌||◌, cond, List, [], ◌∷◌, Option, None, Some, refl, sym, ap, ◌∙◌, inl, inr, subst, true≢false, arith}
use Rattle.std.specs.BTreeMap.{is_at}
use Rattle.std.specs.BTreeMap.Range.{IsLeBy}
use Rattle.std.specs.BTreeSet.{BTreeSet, contains, IsKeyInRange, IsKeyRangeOf}
use Rattle.std.specs.List.{list_any, slice_get}
use Rattle.std.specs.Option.{IfSome}
use Rattle.std.specs.Ordering.{is_gt}
use Rattle.std.specs.declared.ops.Bound.TheVariants.{Included, Unbounded}
use Rattle.std.specs.Option.{option_or}
use Rattle.std.specs.Prelude.{nat_eq, is_some}
use Rattle.std.proofs.lemmas.Bool.{cases_Bool, eqb-true, and_parts}
use Rattle.std.proofs.lemmas.Bool.Decides.{nat_tests}
use Rattle.std.proofs.lemmas.Grind.{common_steps}
use Rattle.std.proofs.lemmas.Option.{none-some, same_Some}
use Rattle.sr_base.specs.Key.{KeyView, same_key}
use Rattle.sr_base.specs.declared.kind.Kind.TheVariants.{Opener}
use Rattle.sr_base.proofs.Sameness.{same_key-true}
use Rattle.sr_law.specs.declared.line.Line.{Line}
use Rattle.sr_law.specs.declared.line.Line.TheVariants.{Packet, Answer, Retired}
use Rattle.sr_law.specs.declared.opening.Opening.{Opening}
use Rattle.sr_law.specs.Number.{opened_with, holds_version, is_held_open}
use Rattle.sr_law.specs.Opening.{opened, opened_by, retires, opening}
use Rattle.sr_law.specs.Ticks.{key_of}
use Rattle.sr_audit.specs.Holders.{holder_cmp}

by_key : (same : Bool) (o : Option Opening) → is_some (cond same o None) ≡ true → same ≡ true
by_key true o e = refl
by_key false o e = e

-- who opens a connection has a line of it
opener_key : (line : Line) (c : KeyView) → is_some (opened_by line c) ≡ true → key_of line ≡ Some c
opener_key (Packet number entered out pipe key Opener verdict) c e = ap Some (same_key-true key c (by_key (same_key key c) (opened out verdict) e))
opener_key (Answer out pipe nth key verdict) c e = ap Some (same_key-true key c (by_key (same_key key c) (opened out verdict) e))
opener_key line c e = absurd (true≢false (sym e))

newly : (over : Bool) (old new : Option Opening) → is_some old ≡ false → is_some (cond over None (option_or old new)) ≡ true → is_some new ≡ true
newly true old new f e = absurd (true≢false (sym e))
newly false None new f e = e
newly false (Some o) new f e = absurd (true≢false f)

right : (a b : Bool) → b ≡ true → (a || b) ≡ true
right true b e = refl
right false b e = e

left : (a b : Bool) → a ≡ true → (a || b) ≡ true
left a b e = rw e refl

-- an open connection has a line
open_has_line : (test : Option KeyView → Bool) (c : KeyView) → test (Some c) ≡ true → (before : List Line) → is_some (opening before c) ≡ true
    → list_any (λ line. test (key_of line)) before ≡ true
open_has_line test c own [] e = absurd (true≢false (sym e))
open_has_line test c own (line ∷ before) e =
    elim (cases_Bool (is_some (opening before c))) [
      | inl t ↦ right (test (key_of line)) (list_any (λ l. test (key_of l)) before) (open_has_line test c own before t)
      | inr f ↦
          let its : key_of line ≡ Some c = opener_key line c (newly (retires line c) (opening before c) (opened_by line c) f e) in
          left (test (key_of line)) (list_any (λ l. test (key_of l)) before) (ap test its ∙ own)
    ]

there : (version : ℕ) (o : Option Opening) → opened_with version o ≡ true → is_some o ≡ true
there version None e = e
there version (Some o) e = refl

own_vip : (vip : ℕ) (b : Bool) → b ≡ true → (nat_eq vip vip && b) ≡ true
own_vip vip b e = grind (arith, nat_tests, e)

-- an open connection that was opened with this version
pub is_held : (before : List Line) (c : KeyView) (version : ℕ) → opened_with version (opening before c) ≡ true → is_held_open before c.vip version ≡ true
is_held before c version e =
    open_has_line (holds_version before c.vip version) c (own_vip c.vip (opened_with version (opening before c)) e) before (there version (opening before c) e)

none_any : (test : Line → Bool) (before : List Line) → ((line : Line) → test line ≡ false) → list_any test before ≡ false
none_any test [] h = refl
none_any test (line ∷ before) h = rw (h line) (none_any test before h)

module _ (before : List Line) (vip version : ℕ) (none : (ip port : ℕ) → opened_with version (opening before (record { vip = vip; ip = ip; port = port })) ≡ false) where
  holds_none : (key : Option KeyView) → holds_version before vip version key ≡ false
  holds_none None = refl
  holds_none (Some key) = elim (cases_Bool (nat_eq key.vip vip)) [
    | inl t ↦
        let closed : opened_with version (opening before key) ≡ false =
        subst (λ v. opened_with version (opening before (record { vip = v; ip = key.ip; port = key.port })) ≡ false) (sym (eqb-true key.vip vip t)) (none key.ip key.port) in
        rw t closed
    | inr f ↦ rw f refl
  ]

  -- nobody was
  pub none_held : is_held_open before vip version ≡ false
  none_held = none_any (λ line. holds_version before vip version (key_of line)) before (λ line. holds_none (key_of line))

-- ---- the first holder at or after a virtual address and version

same_two : (a b c d v n ip port : ℕ) → is_gt (holder_cmp (v, n, 0, 0) (a, b, c, d)) ≡ false → is_gt (holder_cmp (a, b, c, d) (v, n, ip, port)) ≡ false
    → (nat_eq a v && nat_eq b n) ≡ true
same_two a b c d v n ip port low high = grind (arith, common_steps, nat_tests, low, high)

from_low : (v n ip port : ℕ) → is_gt (holder_cmp (v, n, 0, 0) (v, n, ip, port)) ≡ false
from_low v n ip port = grind (arith, common_steps, nat_tests)

module _ (set : BTreeSet (ℕ × ℕ × ℕ × ℕ)) (before : List Line) (vip version : ℕ)
    (tells : (c : KeyView) (n : ℕ) → contains holder_cmp set (c.vip, n, c.ip, c.port) ≡ opened_with n (opening before c)) where
  at_key : ℕ → ℕ → KeyView
  at_key ip port = record { vip = vip; ip = ip; port = port }

  pub first_holds : (r rest : List (ℕ × ℕ × ℕ × ℕ)) (k : ℕ × ℕ × ℕ × ℕ) → IsKeyRangeOf holder_cmp (Included (vip, version, 0, 0)) Unbounded set r → r ≡ k ∷ rest
      → (nat_eq k.0 vip && nat_eq k.1 version) ≡ is_held_open before vip version
  first_holds r rest k range e =
      let first = subst (λ l. IfSome (slice_get l 0) (IsKeyInRange holder_cmp (Included (vip, version, 0, 0)) Unbounded set)) e range.1 in
      elim (cases_Bool (nat_eq k.0 vip && nat_eq k.1 version)) [
        | inl t ↦
            let same = and_parts (nat_eq k.0 vip) (nat_eq k.1 version) t in
            let c : KeyView = record { vip = k.0; ip = k.2; port = k.3 } in
            let held : is_held_open before k.0 k.1 ≡ true = is_held before c k.1 (sym (tells c k.1) ∙ first.1) in
            t ∙ sym (sym (ap (λ v. is_held_open before v version) (eqb-true k.0 vip same.0)) ∙ sym (ap (is_held_open before k.0) (eqb-true k.1 version same.1)) ∙ held)
        | inr f ↦ f ∙ sym (none_held before vip version (λ ip port. elim (cases_Bool (opened_with version (opening before (record { vip = vip; ip = ip; port = port })))) [
          | inl t ↦
              let q : ℕ × ℕ × ℕ × ℕ = (vip, version, ip, port) in
              let least = subst (λ l. IfSome (slice_get l 0) (λ x. IsLeBy holder_cmp x q)) e (range.2 q (from_low vip version ip port, tt) (tells (record { vip = vip; ip = ip; port = port }) version ∙ t)) in
              absurd (true≢false (sym (same_two k.0 k.1 k.2 k.3 vip version ip port first.0.0 least) ∙ f))
          | inr none ↦ none
        ]))
      ]

  pub none_holds : (r : List (ℕ × ℕ × ℕ × ℕ)) → IsKeyRangeOf holder_cmp (Included (vip, version, 0, 0)) Unbounded set r → r ≡ [] → false ≡ is_held_open before vip version
  none_holds r range e = sym (none_held before vip version (λ ip port. sym (tells (record { vip = vip; ip = ip; port = port }) version) ∙ range.5 e (vip, version, ip, port) (from_low vip version ip port, tt)))

-- ---- one line more

same_holder : (k c : KeyView) (n m : ℕ) → is_at (holder_cmp (k.vip, n, k.ip, k.port)) (c.vip, m, c.ip, c.port) ≡ (same_key k c && nat_eq n m)
same_holder k c n m = grind (arith, common_steps, nat_tests)

or_nothing : (o : Option Opening) → option_or o None ≡ o
or_nothing None = refl
or_nothing (Some o) = refl

taken_out : (b : Bool) → cond b false b ≡ false
taken_out true = refl
taken_out false = refl

put_in : (b : Bool) → cond b true false ≡ b
put_in true = refl
put_in false = refl

none_by_key : (own c : KeyView) (o : Option Opening) → same_key own c ≡ false → cond (same_key own c) o None ≡ None
none_by_key own c o f = ap (λ b. cond b o None) f

-- a line that opens a connection opens no other, and is no retirement
opens_no_other : (line : Line) (key c : KeyView) (o : Opening) → opened_by line key ≡ Some o → same_key key c ≡ false → opened_by line c ≡ None
opens_no_other (Packet number entered out pipe own Opener verdict) key c o e f =
    none_by_key own c (opened out verdict)
    (ap (λ k. same_key k c) (same_Some own key (opener_key (Packet number entered out pipe own Opener verdict) key (ap is_some e))) ∙ f)
opens_no_other (Answer out pipe nth own verdict) key c o e f =
    none_by_key own c (opened out verdict) (ap (λ k. same_key k c) (same_Some own key (opener_key (Answer out pipe nth own verdict) key (ap is_some e))) ∙ f)
opens_no_other line key c o e f = absurd (none-some o e)

retires_none : (line : Line) (key c : KeyView) (o : Opening) → opened_by line key ≡ Some o → retires line c ≡ false
retires_none (Retired out own) key c o e = absurd (none-some o e)
retires_none line key c o e = refl

module _ (old new : ℕ × ℕ × ℕ × ℕ → Bool) (before : List Line) (key : KeyView) (o : Opening)
    (h : (c : KeyView) (n : ℕ) → old (c.vip, n, c.ip, c.port) ≡ opened_with n (opening before c)) where
  -- what a query finds, where one holder comes or goes
  stepped : (b : Bool) → ((q : ℕ × ℕ × ℕ × ℕ) → new q ≡ cond (is_at (holder_cmp (key.vip, o.version, key.ip, key.port)) q) b (old q)) → (c : KeyView) (n : ℕ)
      → new (c.vip, n, c.ip, c.port) ≡ cond (same_key key c && nat_eq o.version n) b (opened_with n (opening before c))
  stepped b step c n =
      step (c.vip, n, c.ip, c.port) ∙ ap (λ t. cond t b (old (c.vip, n, c.ip, c.port))) (same_holder key c o.version n)
      ∙ ap (cond (same_key key c && nat_eq o.version n) b) (h c n)

  -- a connection that is retired
  pub retired_more : (out : ℕ) → opening before key ≡ Some o
      → ((q : ℕ × ℕ × ℕ × ℕ) → new q ≡ cond (is_at (holder_cmp (key.vip, o.version, key.ip, key.port)) q) false (old q))
      → (c : KeyView) (n : ℕ) → new (c.vip, n, c.ip, c.port) ≡ opened_with n (opening (Retired out key ∷ before) c)
  retired_more out is step c n =
      stepped false step c n ∙ elim (cases_Bool (same_key key c)) [
        | inl t ↦
            let here : opening before c ≡ Some o = ap (opening before) (sym (same_key-true key c t)) ∙ is in
            ap (λ x. cond (x && nat_eq o.version n) false (opened_with n (opening before c))) t
            ∙ ap (λ x. cond (nat_eq o.version n) false (opened_with n x)) here ∙ taken_out (nat_eq o.version n)
            ∙ sym (ap (λ x. opened_with n (cond x None (option_or (opening before c) None))) t)
        | inr f ↦
            ap (λ x. cond (x && nat_eq o.version n) false (opened_with n (opening before c))) f
            ∙ sym (ap (λ x. opened_with n (cond x None (option_or (opening before c) None))) f ∙ ap (opened_with n) (or_nothing (opening before c)))
      ]

  -- one that is opened
  pub opened_more : (line : Line) → opening before key ≡ None → opened_by line key ≡ Some o
      → ((q : ℕ × ℕ × ℕ × ℕ) → new q ≡ cond (is_at (holder_cmp (key.vip, o.version, key.ip, key.port)) q) true (old q))
      → (c : KeyView) (n : ℕ) → new (c.vip, n, c.ip, c.port) ≡ opened_with n (opening (line ∷ before) c)
  opened_more line none is step c n =
      stepped true step c n ∙ elim (cases_Bool (same_key key c)) [
        | inl t ↦
            let one : key ≡ c = same_key-true key c t in
            let here : opening before c ≡ None = ap (opening before) (sym one) ∙ none in
            let opens : opened_by line c ≡ Some o = ap (opened_by line) (sym one) ∙ is in
            ap (λ x. cond (x && nat_eq o.version n) true (opened_with n (opening before c))) t
            ∙ ap (λ x. cond (nat_eq o.version n) true (opened_with n x)) here ∙ put_in (nat_eq o.version n)
            ∙ sym (ap (λ x. opened_with n (cond x None (option_or (opening before c) (opened_by line c)))) (retires_none line key c o is)
            ∙ ap (λ x. opened_with n (option_or x (opened_by line c))) here ∙ ap (opened_with n) opens)
        | inr f ↦
            ap (λ x. cond (x && nat_eq o.version n) true (opened_with n (opening before c))) f
            ∙ sym (ap (λ x. opened_with n (cond x None (option_or (opening before c) (opened_by line c)))) (retires_none line key c o is)
            ∙ ap (λ x. opened_with n (option_or (opening before c) x)) (opens_no_other line key c o is f) ∙ ap (opened_with n) (or_nothing (opening before c)))
      ]

pub unheld : (o : Option Opening) → is_some o ≡ false → o ≡ None
unheld None e = refl
unheld (Some o) e = absurd (true≢false e)

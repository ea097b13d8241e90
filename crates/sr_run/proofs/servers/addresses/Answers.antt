use Rattle.std.proofs.Common.{◌==◌, ap, sym, ◌∙◌, rules, lit<, [], Some, append-nil}
use Rattle.std.specs.List.{slice_split}
use Rattle.std.proofs.lemmas.Str.Pattern.{split_once_first}
use Rattle.sr_run.specs.Servers.{addresses_of}
use Rattle.sr_run.proofs.AddressLists.{prefixed, prefixed_more, prefixed_none, split_more, split_last}
use Rattle.sr_run.proofs.servers.addresses.Goals as goal

pub returns-in-None : goal.returns-in-None
returns-in-None c =
    let at = rw c.in-Some.is at (split_once_first 44 c.loop-front.rest.now c.split_once.result c.split_once.ensures.cases (lit< tt)) in
    let parts = split_more c.loop-front.rest.now c.in-Some.front.now c.in-Some.back.now at.0 at.1 at.2 in
    sym (prefixed_none c.loop-front.known.items c.in-Some.front.now (slice_split (λ b. b == 44) c.in-Some.back.now) (sym c.address.ensures ∙ c.in-None.is))
    ∙ ap (λ ps. prefixed c.loop-front.known.items (addresses_of ps)) (sym parts) ∙ c.loop-front.invariant.1

pub loop-front-preserved : goal.loop-front-preserved
loop-front-preserved c =
    let at = rw c.in-Some.is at (split_once_first 44 c.loop-front.rest.now c.split_once.result c.split_once.ensures.cases (lit< tt)) in
    let parts = split_more c.loop-front.rest.now c.in-Some.front.now c.in-Some.back.now at.0 at.1 at.2 in (
      search rules,
      ap (λ known. prefixed known (addresses_of (slice_split (λ b. b == 44) c.in-Some.back.now))) c.in_ok-push-in-Some-address.ensures.items
          ∙ sym (prefixed_more c.loop-front.known.items c.in-Some.front.now (slice_split (λ b. b == 44) c.in-Some.back.now) c.in-Some-address.a (sym c.address.ensures ∙ c.in-Some-address.is))
          ∙ ap (λ ps. prefixed c.loop-front.known.items (addresses_of ps)) (sym parts) ∙ c.loop-front.invariant.1,
    )

pub returns-in-None-address : goal.returns-in-None-address
returns-in-None-address c =
    let at = rw c.in_default.is at (split_once_first 44 c.loop-front.rest.now c.split_once.result c.split_once.ensures.cases (lit< tt)) in
    sym (prefixed_none c.loop-front.known.items c.loop-front.rest.now [] (sym c.address-2.ensures ∙ c.in-None-address.is))
    ∙ ap (λ ps. prefixed c.loop-front.known.items (addresses_of ps)) (sym (split_last c.loop-front.rest.now at)) ∙ c.loop-front.invariant.1

pub returns-in_ok-push-in-Some-address-2 : goal.returns-in_ok-push-in-Some-address-2
returns-in_ok-push-in-Some-address-2 c =
    let at = rw c.in_default.is at (split_once_first 44 c.loop-front.rest.now c.split_once.result c.split_once.ensures.cases (lit< tt)) in
    let all = c.in_ok-push-in-Some-address-2.ensures.items in
    ap Some (all ∙ sym (append-nil _))
    ∙ sym (prefixed_more c.loop-front.known.items c.loop-front.rest.now [] c.in-Some-address-2.a (sym c.address-2.ensures ∙ c.in-Some-address-2.is))
    ∙ ap (λ ps. prefixed c.loop-front.known.items (addresses_of ps)) (sym (split_last c.loop-front.rest.now at)) ∙ c.loop-front.invariant.1

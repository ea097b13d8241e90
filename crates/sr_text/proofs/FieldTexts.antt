-- The fields of lines: what is printed is read, and what is read is what is printed.
use Rattle.std.proofs.Common.{◌≡◌, ℕ, ◌+◌, ◌*◌, ◌/◌, ◌%◌, ◌^◌, ◌<◌, List, [], ◌∷◌, ◌++◌, Option, Some, None, false, refl, ap, ◌∙◌, subst, arith}
use Rattle.std.specs.Prelude.{codes}
use Rattle.std.specs.Fmt.{decimal}
use Rattle.sr_base.specs.Key.{KeyView, IsKey}
use Rattle.sr_base.specs.declared.kind.Kind.{Kind}
use Rattle.sr_base.specs.declared.kind.Kind.TheVariants.{Opener, Carry, Ending}
use Rattle.sr_base.specs.declared.place.Place.{Place}
use Rattle.sr_base.specs.declared.place.Place.TheVariants.{Slot, Row}
use Rattle.sr_decimal.specs.Front.{is_digit}
use Rattle.sr_frame.specs.declared.skip.Skip.{Skip}
use Rattle.sr_frame.specs.declared.skip.Skip.TheVariants.{NotIpv4, NotTcp, Fragment, Short, NotVip}
use Rattle.sr_law.specs.declared.verdict.HeldBy.TheVariants.{Clash, Hold, Transit}
use Rattle.sr_law.specs.declared.verdict.Verdict.{Verdict}
use Rattle.sr_law.specs.declared.verdict.Verdict.TheVariants.{To, Held, Down, Full, NoPlace}
use Rattle.sr_text.specs.Fields.{address_text, key_text, kind_text, place_text, choice_text, verdict_text}
use Rattle.sr_text.specs.LineText.{skip_word}
use Rattle.sr_text.specs.Ranges.{IsPlace, IsChoice, IsVerdict}
use Rattle.sr_text.specs.Fronts.{after_word, address_front, key_front, kind_front, slot_front, row_front, place_front, choice_front, to_front, down_front, plain_front, verdict_front, why_front, skip_front, said, choose}
use Rattle.sr_text.proofs.Decimals.{field_there, field_then, bind_some}
use Rattle.sr_text.proofs.Words.{after_word_takes}

-- what a word says was read, or the rest of the choice was
pub said_then : {A P : Type 0} (value : A) (word bytes : List ℕ) (otherwise : Option (A × List ℕ)) (x : A × List ℕ) → said value word bytes otherwise ≡ Some x
    → ((bytes ≡ word ++ x.1) → (value ≡ x.0) → P) → (otherwise ≡ Some x → P) → P
said_then {A = A} {P = P} value word bytes otherwise x e here there = go (after_word word bytes) refl e
  where
    go : (o : Option (List ℕ)) → after_word word bytes ≡ o → choose o (λ rest. Some (value, rest)) otherwise ≡ Some x → P
    go (Some rest) p q = let r : rest ≡ x.1 = cc in here (after_word_takes word bytes rest p ∙ ap (λ (ys : List ℕ). word ++ ys) r) (cc)
    go None p q = there q

pub choose_then : {B P : Type 0} (word bytes : List ℕ) (read : List ℕ → Option B) (otherwise : Option B) (x : B) → choose (after_word word bytes) read otherwise ≡ Some x
    → ((rest : List ℕ) → bytes ≡ word ++ rest → read rest ≡ Some x → P) → (otherwise ≡ Some x → P) → P
choose_then {B = B} {P = P} word bytes read otherwise x e here there = go (after_word word bytes) refl e
  where
    go : (o : Option (List ℕ)) → after_word word bytes ≡ o → choose o read otherwise ≡ Some x → P
    go (Some rest) p q = here rest (after_word_takes word bytes rest p) q
    go None p q = there q

pub address_there : (ip : ℕ) (rest : List ℕ) → ip < 2 ^ 32 → address_front (address_text ip (58 ∷ rest)) ≡ Some (ip, rest)
unfolding address_front address_text
address_there ip rest h =
    rw (field_there 255 46 (ip / 16777216) _ (omega arith) (omega arith) refl)
    (rw (field_there 255 46 (ip / 65536 % 256) _ (omega arith) (omega arith) refl)
    (rw (field_there 255 46 (ip / 256 % 256) _ (omega arith) (omega arith) refl)
    (rw (field_there 255 58 (ip % 256) rest (omega arith) (omega arith) refl)
    (ap (λ (n : ℕ). Some (n, rest)) (omega arith)))))

pub address_takes : (bytes : List ℕ) (x : ℕ × List ℕ) → address_front bytes ≡ Some x → (bytes ≡ address_text x.0 (58 ∷ x.1)) × (x.0 < 2 ^ 32)
unfolding address_front address_text
address_takes bytes x h =
    field_then 255 46 bytes _ x (omega arith) h (λ a r at fits on.
    field_then 255 46 r _ x (omega arith) on (λ b r' at' fits' on'.
    field_then 255 46 r' _ x (omega arith) on' (λ c r'' at'' fits'' on''.
    field_then 255 58 r'' _ x (omega arith) on'' (λ d r''' at''' fits''' on'''.
    let n : ((a * 256 + b) * 256 + c) * 256 + d ≡ x.0 = cc in
    let t : r''' ≡ x.1 = cc in
    let ea : a ≡ x.0 / 16777216 = omega arith in
    let eb : b ≡ x.0 / 65536 % 256 = omega arith in
    let ec : c ≡ x.0 / 256 % 256 = omega arith in
    let ed : d ≡ x.0 % 256 = omega arith in
    (cc, omega arith)))))

pub key_there : (e : ℕ) (key : KeyView) (rest : List ℕ) → IsKey key → is_digit e ≡ false → key_front e (key_text key (e ∷ rest)) ≡ Some (key, rest)
unfolding key_front key_text
key_there e key rest h stop =
    let a = h.vip in let b = h.port in
    rw (field_there 15 47 key.vip _ (omega arith) (omega arith) refl)
    (rw (address_there key.ip _ h.ip)
    (rw (field_there 65535 e key.port rest (omega arith) (omega arith) stop) refl))

pub key_takes : (e : ℕ) (bytes : List ℕ) (x : KeyView × List ℕ) → key_front e bytes ≡ Some x → (bytes ≡ key_text x.0 (e ∷ x.1)) × IsKey x.0
unfolding key_front key_text
key_takes e bytes x h =
    field_then 15 47 bytes _ x (omega arith) h (λ vip r at fits on.
    bind_some (address_front r) _ x on (λ ip p on'.
    field_then 65535 e ip.1 _ x (omega arith) on' (λ port r'' at'' fits'' on''.
    let a = address_takes r ip p in
    let at' = a.0 in
    let low = a.1 in
    let key : KeyView = record { vip = vip; ip = ip.0; port = port } in
    let whole : ◌≡◌ {A = KeyView × List ℕ} (key, r'') x = cc in
    let ev : vip ≡ x.0.vip = ap (λ (z : KeyView × List ℕ). z.0.vip) whole in
    let ei : ip.0 ≡ x.0.ip = ap (λ (z : KeyView × List ℕ). z.0.ip) whole in
    let ep : port ≡ x.0.port = ap (λ (z : KeyView × List ℕ). z.0.port) whole in
    let t : r'' ≡ x.1 = ap (λ (z : KeyView × List ℕ). z.1) whole in
    (cc, record { vip = omega arith; ip = omega arith; port = omega arith }))))

pub kind_there : (kind : Kind) (rest : List ℕ) → kind_front (kind_text kind (32 ∷ rest)) ≡ Some (kind, rest)
unfolding kind_front
kind_there Opener rest = refl
kind_there Carry rest = refl
kind_there Ending rest = refl

pub kind_takes : (bytes : List ℕ) (x : Kind × List ℕ) → kind_front bytes ≡ Some x → bytes ≡ kind_text x.0 (32 ∷ x.1)
unfolding kind_front
kind_takes bytes x h =
    said_then Opener (codes "open ") bytes _ x h (λ at v. at ∙ ap (λ k. kind_text k (32 ∷ x.1)) v) (λ h'.
    said_then Carry (codes "data ") bytes _ x h' (λ at v. at ∙ ap (λ k. kind_text k (32 ∷ x.1)) v) (λ h''.
    said_then Ending (codes "end ") bytes None x h'' (λ at v. at ∙ ap (λ k. kind_text k (32 ∷ x.1)) v) (λ e. absurd (cc))))

pub place_there : (place : Place) (rest : List ℕ) → IsPlace place → place_front (place_text place (10 ∷ rest)) ≡ Some (place, rest)
unfolding place_front slot_front row_front
place_there (Slot way bucket cell) rest h =
    let a = h.0 in let b = h.1 in let c = h.2 in
    rw (field_there 255 98 way _ (omega arith) (omega arith) refl)
    (rw (field_there 4294967295 99 bucket _ (omega arith) (omega arith) refl)
    (rw (field_there 255 10 cell rest (omega arith) (omega arith) refl) refl))
place_there (Row row) rest h = rw (field_there 4294967295 10 row rest (omega arith) (omega arith) refl) refl

pub slot_takes : (bytes : List ℕ) (x : Place × List ℕ) → slot_front bytes ≡ Some x → (119 ∷ bytes ≡ place_text x.0 (10 ∷ x.1)) × IsPlace x.0
unfolding slot_front
slot_takes bytes x h =
    field_then 255 98 bytes _ x (omega arith) h (λ way r at fits on.
    field_then 4294967295 99 r _ x (omega arith) on (λ bucket r' at' fits' on'.
    field_then 255 10 r' _ x (omega arith) on' (λ cell r'' at'' fits'' on''.
    let v : Slot way bucket cell ≡ x.0 = cc in
    let t : r'' ≡ x.1 = cc in
    let P : Place → Type 0 = IsPlace in (
      ap (λ (ys : List ℕ). 119 ∷ ys) (at ∙ ap (λ (ys : List ℕ). decimal way ++ 98 ∷ ys) (at' ∙ ap (λ (ys : List ℕ). decimal bucket ++ 99 ∷ ys) at'')) ∙ ap (λ (ys : List ℕ). place_text (Slot way bucket cell) (10 ∷ ys)) t ∙ ap (λ k. place_text k (10 ∷ x.1)) v,
      subst P v (omega arith, omega arith, omega arith),
    ))))

pub row_takes : (bytes : List ℕ) (x : Place × List ℕ) → row_front bytes ≡ Some x → (102 ∷ bytes ≡ place_text x.0 (10 ∷ x.1)) × IsPlace x.0
unfolding row_front
row_takes bytes x h =
    field_then 4294967295 10 bytes _ x (omega arith) h (λ row r at fits on.
    let v : Row row ≡ x.0 = cc in
    let t : r ≡ x.1 = cc in
    let P : Place → Type 0 = IsPlace in (
      ap (λ (ys : List ℕ). 102 ∷ ys) at ∙ ap (λ (ys : List ℕ). place_text (Row row) (10 ∷ ys)) t ∙ ap (λ k. place_text k (10 ∷ x.1)) v,
      subst P v (omega arith),
    ))

pub place_takes : (bytes : List ℕ) (x : Place × List ℕ) → place_front bytes ≡ Some x → (bytes ≡ place_text x.0 (10 ∷ x.1)) × IsPlace x.0
unfolding place_front
place_takes bytes x h =
    choose_then (119 ∷ []) bytes slot_front _ x h (λ rest at on. let t = slot_takes rest x on in (at ∙ t.0, t.1)) (λ h'.
    choose_then (102 ∷ []) bytes row_front None x h' (λ rest at on. let t = row_takes rest x on in (at ∙ t.0, t.1)) (λ e. absurd (cc)))

pub choice_there : (server version pool : ℕ) (rest : List ℕ) → IsChoice server version pool → choice_front (choice_text server version pool (10 ∷ rest)) ≡ Some (server, version, pool, rest)
unfolding choice_front
choice_there server version pool rest h =
    let a = h.0 in let b = h.1 in let c = h.2 in
    rw (field_there 4294967295 32 server _ (omega arith) (omega arith) refl)
    (rw (field_there 63 32 version _ (omega arith) (omega arith) refl)
    (rw (field_there 18446744073709551615 10 pool rest (omega arith) (omega arith) refl) refl))

pub choice_takes : (bytes : List ℕ) (x : ℕ × ℕ × ℕ × List ℕ) → choice_front bytes ≡ Some x → (bytes ≡ choice_text x.0 x.1 x.2 (10 ∷ x.3)) × IsChoice x.0 x.1 x.2
unfolding choice_front
choice_takes bytes x h =
    field_then 4294967295 32 bytes _ x (omega arith) h (λ server r at fits on.
    field_then 63 32 r _ x (omega arith) on (λ version r' at' fits' on'.
    field_then 18446744073709551615 10 r' _ x (omega arith) on' (λ pool r'' at'' fits'' on''.
    let es : server ≡ x.0 = cc in
    let ev : version ≡ x.1 = cc in
    let ep : pool ≡ x.2 = cc in
    let t : r'' ≡ x.3 = cc in
    (cc, (omega arith, omega arith, omega arith)))))

pub verdict_there : (verdict : Verdict) (rest : List ℕ) → IsVerdict verdict → verdict_front (verdict_text verdict (10 ∷ rest)) ≡ Some (verdict, rest)
unfolding verdict_front to_front down_front plain_front verdict_text
verdict_there (To server version pool) rest h = rw (choice_there server version pool rest h) refl
verdict_there (Held Clash) rest h = refl
verdict_there (Held Hold) rest h = refl
verdict_there (Held Transit) rest h = refl
verdict_there (Down server version pool) rest h = rw (choice_there server version pool rest h) refl
verdict_there Full rest h = refl
verdict_there NoPlace rest h = refl

pub to_takes : (bytes : List ℕ) (x : Verdict × List ℕ) → to_front bytes ≡ Some x → (codes "to " ++ bytes ≡ verdict_text x.0 (10 ∷ x.1)) × IsVerdict x.0
unfolding to_front verdict_text
to_takes bytes x h =
    bind_some (choice_front bytes) _ x h (λ a p on.
    let t = choice_takes bytes a p in
    let v : To a.0 a.1 a.2 ≡ x.0 = cc in
    let r : a.3 ≡ x.1 = cc in
    let P : Verdict → Type 0 = IsVerdict in
    (ap (λ (ys : List ℕ). codes "to " ++ ys) t.0 ∙ ap (λ (ys : List ℕ). verdict_text (To a.0 a.1 a.2) (10 ∷ ys)) r ∙ ap (λ k. verdict_text k (10 ∷ x.1)) v, subst P v t.1))

pub down_takes : (bytes : List ℕ) (x : Verdict × List ℕ) → down_front bytes ≡ Some x → (codes "down " ++ bytes ≡ verdict_text x.0 (10 ∷ x.1)) × IsVerdict x.0
unfolding down_front verdict_text
down_takes bytes x h =
    bind_some (choice_front bytes) _ x h (λ a p on.
    let t = choice_takes bytes a p in
    let v : Down a.0 a.1 a.2 ≡ x.0 = cc in
    let r : a.3 ≡ x.1 = cc in
    let P : Verdict → Type 0 = IsVerdict in
    (ap (λ (ys : List ℕ). codes "down " ++ ys) t.0 ∙ ap (λ (ys : List ℕ). verdict_text (Down a.0 a.1 a.2) (10 ∷ ys)) r ∙ ap (λ k. verdict_text k (10 ∷ x.1)) v, subst P v t.1))

-- a verdict that a word says
pub plain_is : (verdict : Verdict) (bytes : List ℕ) (x : Verdict × List ℕ) → IsVerdict verdict → bytes ≡ verdict_text verdict (10 ∷ x.1) → verdict ≡ x.0 → (bytes ≡ verdict_text x.0 (10 ∷ x.1)) × IsVerdict x.0
plain_is verdict bytes x h at v = let P : Verdict → Type 0 = IsVerdict in (at ∙ ap (λ k. verdict_text k (10 ∷ x.1)) v, subst P v h)

pub plain_takes : (bytes : List ℕ) (x : Verdict × List ℕ) → plain_front bytes ≡ Some x → (bytes ≡ verdict_text x.0 (10 ∷ x.1)) × IsVerdict x.0
unfolding plain_front verdict_text
plain_takes bytes x h =
    said_then (Held Clash) (codes "held clash\n") bytes _ x h (λ at v. plain_is (Held Clash) bytes x tt at v) (λ h'.
    said_then (Held Hold) (codes "held hold\n") bytes _ x h' (λ at v. plain_is (Held Hold) bytes x tt at v) (λ h''.
    said_then (Held Transit) (codes "held transit\n") bytes _ x h'' (λ at v. plain_is (Held Transit) bytes x tt at v) (λ h'''.
    said_then Full (codes "full\n") bytes _ x h''' (λ at v. plain_is Full bytes x tt at v) (λ h''''.
    said_then NoPlace (codes "noplace\n") bytes None x h'''' (λ at v. plain_is NoPlace bytes x tt at v) (λ e. absurd (cc))))))

pub verdict_takes : (bytes : List ℕ) (x : Verdict × List ℕ) → verdict_front bytes ≡ Some x → (bytes ≡ verdict_text x.0 (10 ∷ x.1)) × IsVerdict x.0
unfolding verdict_front
verdict_takes bytes x h =
    choose_then (codes "to ") bytes to_front _ x h (λ rest at on. let t = to_takes rest x on in (at ∙ t.0, t.1)) (λ h'.
    choose_then (codes "down ") bytes down_front (plain_front bytes) x h' (λ rest at on. let t = down_takes rest x on in (at ∙ t.0, t.1)) (λ h''.
    plain_takes bytes x h''))

pub why_there : (why : Skip) (rest : List ℕ) → why_front (skip_word why ++ 10 ∷ rest) ≡ Some (why, rest)
unfolding why_front
why_there NotIpv4 rest = refl
why_there NotTcp rest = refl
why_there Fragment rest = refl
why_there Short rest = refl
why_there NotVip rest = refl

pub why_takes : (bytes : List ℕ) (x : Skip × List ℕ) → why_front bytes ≡ Some x → bytes ≡ skip_word x.0 ++ 10 ∷ x.1
unfolding why_front
why_takes bytes x h =
    said_then NotIpv4 (codes "notipv4\n") bytes _ x h (λ at v. at ∙ ap (λ k. skip_word k ++ 10 ∷ x.1) v) (λ h'.
    said_then NotTcp (codes "nottcp\n") bytes _ x h' (λ at v. at ∙ ap (λ k. skip_word k ++ 10 ∷ x.1) v) (λ h''.
    said_then Fragment (codes "fragment\n") bytes _ x h'' (λ at v. at ∙ ap (λ k. skip_word k ++ 10 ∷ x.1) v) (λ h'''.
    said_then Short (codes "short\n") bytes _ x h''' (λ at v. at ∙ ap (λ k. skip_word k ++ 10 ∷ x.1) v) (λ h''''.
    said_then NotVip (codes "notvip\n") bytes None x h'''' (λ at v. at ∙ ap (λ k. skip_word k ++ 10 ∷ x.1) v) (λ e. absurd (cc))))))

pub skip_there : (skip : ℕ × Skip) (rest : List ℕ) → skip.0 < 2 ^ 32 → skip_front (codes "skip " ++ (decimal skip.0 ++ 32 ∷ (skip_word skip.1 ++ 10 ∷ rest))) ≡ Some (skip, rest)
unfolding skip_front
skip_there skip rest h =
    rw (field_there 4294967295 32 skip.0 _ (omega arith) (omega arith) refl)
    (rw (why_there skip.1 rest) refl)

pub skip_takes : (bytes : List ℕ) (x : (ℕ × Skip) × List ℕ) → skip_front bytes ≡ Some x → (bytes ≡ codes "skip " ++ (decimal x.0.0 ++ 32 ∷ (skip_word x.0.1 ++ 10 ∷ x.1))) × (x.0.0 < 2 ^ 32)
unfolding skip_front
skip_takes bytes x h =
    bind_some (after_word (codes "skip ") bytes) _ x h (λ r p on.
    field_then 4294967295 32 r _ x (omega arith) on (λ n r' at fits on'.
    bind_some (why_front r') _ x on' (λ why q on''.
    let at' = why_takes r' why q in
    let whole : ◌≡◌ {A = (ℕ × Skip) × List ℕ} ((n, why.0), why.1) x = cc in
    let en : n ≡ x.0.0 = ap (λ (z : (ℕ × Skip) × List ℕ). z.0.0) whole in
    let ew : why.0 ≡ x.0.1 = ap (λ (z : (ℕ × Skip) × List ℕ). z.0.1) whole in
    let t : why.1 ≡ x.1 = ap (λ (z : (ℕ × Skip) × List ℕ). z.1) whole in
    (after_word_takes (codes "skip ") bytes r p ∙ ap (λ (ys : List ℕ). codes "skip " ++ ys) (cc), omega arith))))

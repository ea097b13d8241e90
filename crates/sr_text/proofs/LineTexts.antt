-- Lines: what is printed is read, and what is read is what is printed.
use Rattle.std.proofs.Common.{◌≡◌, ℕ, ◌^◌, ◌<◌, ◌≤◌, List, ◌∷◌, ◌++◌, Option, Some, None, refl, sym, ap, ◌∙◌, subst, append_assoc, arith}
use Rattle.std.specs.Prelude.{codes}
use Rattle.std.specs.Fmt.{decimal}
use Rattle.std.specs.Option.{option_and_then}
use Rattle.sr_base.specs.Key.{KeyView, IsKey}
use Rattle.sr_base.specs.declared.kind.Kind.{Kind}
use Rattle.sr_base.specs.declared.kind.Kind.TheVariants.{Opener, Carry, Ending}
use Rattle.sr_base.specs.declared.place.Place.{Place}
use Rattle.sr_base.specs.declared.place.Place.TheVariants.{Slot, Row}
use Rattle.sr_law.specs.declared.line.Line.{Line}
use Rattle.sr_law.specs.declared.line.Line.TheVariants.{Packet, Answer, Given, Recorded, Hold, Switched, Finished, TakenDown, Reserved, Placed, Cleared, Swept, Retired, Refused}
use Rattle.sr_law.specs.declared.verdict.HeldBy.TheVariants as held
use Rattle.sr_law.specs.declared.verdict.Verdict.{Verdict}
use Rattle.sr_law.specs.declared.verdict.Verdict.TheVariants.{To, Held, Down, Full, NoPlace}
use Rattle.sr_text.specs.declared.name.Name.{Name}
use Rattle.sr_text.specs.declared.name.Name.TheVariants as name
use Rattle.sr_text.specs.Fields.{field, address_text, key_text, kind_text, place_text, verdict_text}
use Rattle.sr_text.specs.LineText.{line_text}
use Rattle.sr_text.specs.Ranges.{IsPlace, IsLine}
use Rattle.sr_text.specs.Fronts.{key_front, kind_front, place_front, verdict_front, name_front, change_name_front, packet_front, answer_front, give_front, switch_front, sweep_front, retire_front, numbered_front, entry_front, named_front, line_front}
use Rattle.sr_text.proofs.Decimals.{field_there, field_then, bind_some}
use Rattle.sr_text.proofs.FieldTexts.{said_then, key_there, key_takes, kind_there, kind_takes, place_there, place_takes, verdict_there, verdict_takes}

-- more text behind a field is text behind it
pub key_append : (key : KeyView) (rest more : List ℕ) → key_text key rest ++ more ≡ key_text key (rest ++ more)
unfolding key_text address_text
key_append key rest more = simp append_assoc

pub kind_append : (kind : Kind) (rest more : List ℕ) → kind_text kind rest ++ more ≡ kind_text kind (rest ++ more)
kind_append Opener rest more = refl
kind_append Carry rest more = refl
kind_append Ending rest more = refl

pub place_append : (place : Place) (rest more : List ℕ) → place_text place rest ++ more ≡ place_text place (rest ++ more)
place_append (Slot way bucket cell) rest more = simp append_assoc
place_append (Row row) rest more = simp append_assoc

pub verdict_append : (verdict : Verdict) (rest more : List ℕ) → verdict_text verdict rest ++ more ≡ verdict_text verdict (rest ++ more)
unfolding verdict_text
verdict_append (To server version pool) rest more = simp append_assoc
verdict_append (Held held.Clash) rest more = refl
verdict_append (Held held.Hold) rest more = refl
verdict_append (Held held.Transit) rest more = refl
verdict_append (Down server version pool) rest more = simp append_assoc
verdict_append Full rest more = refl
verdict_append NoPlace rest more = refl

-- a line read is that line, once its fields are
pub ends : (word bytes rest : List ℕ) (line : Line) (x : Line × List ℕ) → ◌≡◌ {A = Line × List ℕ} (line, rest) x → word ++ bytes ≡ line_text line ++ rest → IsLine line → (word ++ bytes ≡ line_text x.0 ++ x.1) × IsLine x.0
ends word bytes rest line x e text fits = subst (λ (z : Line × List ℕ). (word ++ bytes ≡ line_text z.0 ++ z.1) × IsLine z.0) e (text, fits)

-- packets
pub packet_append : (number entered out pipe : ℕ) (key : KeyView) (kind : Kind) (verdict : Verdict) (more : List ℕ) → line_text (Packet number entered out pipe key kind verdict) ++ more
    ≡ codes "packet " ++ field number (field entered (field out (field pipe (key_text key (32 ∷ kind_text kind (32 ∷ verdict_text verdict (10 ∷ more)))))))
unfolding line_text
packet_append number entered out pipe key kind verdict more = simp (append_assoc, key_append, kind_append, verdict_append)

pub packet_there : (number entered out pipe : ℕ) (key : KeyView) (kind : Kind) (verdict : Verdict) (more : List ℕ) → IsLine (Packet number entered out pipe key kind verdict)
    → packet_front (field number (field entered (field out (field pipe (key_text key (32 ∷ kind_text kind (32 ∷ verdict_text verdict (10 ∷ more)))))))) ≡ Some (Packet number entered out pipe key kind verdict, more)
unfolding packet_front IsLine
packet_there number entered out pipe key kind verdict more h =
    let a = h.0 in let b = h.1 in let c = h.2 in let d = h.3 in
    rw (field_there 4294967295 32 number _ (omega arith) (omega arith) refl)
    (rw (field_there 18446744073709551615 32 entered _ (omega arith) (omega arith) refl)
    (rw (field_there 18446744073709551615 32 out _ (omega arith) (omega arith) refl)
    (rw (field_there 255 32 pipe _ (omega arith) (omega arith) refl)
    (rw (key_there 32 key _ h.4 refl)
    (rw (kind_there kind _)
    (rw (verdict_there verdict more h.5) refl))))))

pub packet_takes : (bytes : List ℕ) (x : Line × List ℕ) → packet_front bytes ≡ Some x → (codes "packet " ++ bytes ≡ line_text x.0 ++ x.1) × IsLine x.0
unfolding packet_front IsLine
packet_takes bytes x h =
    field_then 4294967295 32 bytes _ x (omega arith) h (λ number r at fits on.
    field_then 18446744073709551615 32 r _ x (omega arith) on (λ entered r1 at1 fits1 on1.
    field_then 18446744073709551615 32 r1 _ x (omega arith) on1 (λ out r2 at2 fits2 on2.
    field_then 255 32 r2 _ x (omega arith) on2 (λ pipe r3 at3 fits3 on3.
    bind_some (key_front 32 r3) _ x on3 (λ key p on4.
    bind_some (kind_front key.1) _ x on4 (λ kind q on5.
    bind_some (verdict_front kind.1) _ x on5 (λ verdict s on6.
    let k = key_takes 32 r3 key p in
    let at4 = k.0 in
    let at5 = kind_takes key.1 kind q in
    let v = verdict_takes kind.1 verdict s in
    let at6 = v.0 in
    let text : bytes ≡ field number (field entered (field out (field pipe (key_text key.0 (32 ∷ kind_text kind.0 (32 ∷ verdict_text verdict.0 (10 ∷ verdict.1))))))) = cc in
    ends (codes "packet ") bytes verdict.1 (Packet number entered out pipe key.0 kind.0 verdict.0) x (cc)
    (ap (λ (ys : List ℕ). codes "packet " ++ ys) text ∙ sym (packet_append number entered out pipe key.0 kind.0 verdict.0 verdict.1))
    (omega arith, omega arith, omega arith, omega arith, k.1, v.1))))))))

-- answers
pub answer_append : (out pipe nth : ℕ) (key : KeyView) (verdict : Verdict) (more : List ℕ) → line_text (Answer out pipe nth key verdict) ++ more
    ≡ codes "answer " ++ field out (field pipe (field nth (key_text key (32 ∷ verdict_text verdict (10 ∷ more)))))
unfolding line_text
answer_append out pipe nth key verdict more = simp (append_assoc, key_append, verdict_append)

pub answer_there : (out pipe nth : ℕ) (key : KeyView) (verdict : Verdict) (more : List ℕ) → IsLine (Answer out pipe nth key verdict)
    → answer_front (field out (field pipe (field nth (key_text key (32 ∷ verdict_text verdict (10 ∷ more)))))) ≡ Some (Answer out pipe nth key verdict, more)
unfolding answer_front IsLine
answer_there out pipe nth key verdict more h =
    let a = h.0 in let b = h.1 in let c = h.2 in
    rw (field_there 18446744073709551615 32 out _ (omega arith) (omega arith) refl)
    (rw (field_there 255 32 pipe _ (omega arith) (omega arith) refl)
    (rw (field_there 4294967295 32 nth _ (omega arith) (omega arith) refl)
    (rw (key_there 32 key _ h.3 refl)
    (rw (verdict_there verdict more h.4) refl))))

pub answer_takes : (bytes : List ℕ) (x : Line × List ℕ) → answer_front bytes ≡ Some x → (codes "answer " ++ bytes ≡ line_text x.0 ++ x.1) × IsLine x.0
unfolding answer_front IsLine
answer_takes bytes x h =
    field_then 18446744073709551615 32 bytes _ x (omega arith) h (λ out r at fits on.
    field_then 255 32 r _ x (omega arith) on (λ pipe r1 at1 fits1 on1.
    field_then 4294967295 32 r1 _ x (omega arith) on1 (λ nth r2 at2 fits2 on2.
    bind_some (key_front 32 r2) _ x on2 (λ key p on3.
    bind_some (verdict_front key.1) _ x on3 (λ verdict s on4.
    let k = key_takes 32 r2 key p in
    let at3 = k.0 in
    let v = verdict_takes key.1 verdict s in
    let at4 = v.0 in
    let text : bytes ≡ field out (field pipe (field nth (key_text key.0 (32 ∷ verdict_text verdict.0 (10 ∷ verdict.1))))) = cc in
    ends (codes "answer ") bytes verdict.1 (Answer out pipe nth key.0 verdict.0) x (cc)
    (ap (λ (ys : List ℕ). codes "answer " ++ ys) text ∙ sym (answer_append out pipe nth key.0 verdict.0 verdict.1))
    (omega arith, omega arith, omega arith, k.1, v.1))))))

-- versions that name pools
pub give_append : (out vip version pool : ℕ) (more : List ℕ) → line_text (Given out vip version pool) ++ more
    ≡ codes "give " ++ field out (field vip (field version (decimal pool ++ 10 ∷ more)))
unfolding line_text
give_append out vip version pool more = simp append_assoc

pub give_there : (out vip version pool : ℕ) (more : List ℕ) → IsLine (Given out vip version pool)
    → give_front (field out (field vip (field version (decimal pool ++ 10 ∷ more)))) ≡ Some (Given out vip version pool, more)
unfolding give_front IsLine
give_there out vip version pool more h =
    let a = h.0 in let b = h.1 in let c = h.2 in let d = h.3 in
    rw (field_there 18446744073709551615 32 out _ (omega arith) (omega arith) refl)
    (rw (field_there 255 32 vip _ (omega arith) (omega arith) refl)
    (rw (field_there 63 32 version _ (omega arith) (omega arith) refl)
    (rw (field_there 18446744073709551615 10 pool more (omega arith) (omega arith) refl) refl)))

pub give_takes : (bytes : List ℕ) (x : Line × List ℕ) → give_front bytes ≡ Some x → (codes "give " ++ bytes ≡ line_text x.0 ++ x.1) × IsLine x.0
unfolding give_front IsLine
give_takes bytes x h =
    field_then 18446744073709551615 32 bytes _ x (omega arith) h (λ out r at fits on.
    field_then 255 32 r _ x (omega arith) on (λ vip r1 at1 fits1 on1.
    field_then 63 32 r1 _ x (omega arith) on1 (λ version r2 at2 fits2 on2.
    field_then 18446744073709551615 10 r2 _ x (omega arith) on2 (λ pool r3 at3 fits3 on3.
    let text : bytes ≡ field out (field vip (field version (decimal pool ++ 10 ∷ r3))) = cc in
    ends (codes "give ") bytes r3 (Given out vip version pool) x (cc)
    (ap (λ (ys : List ℕ). codes "give " ++ ys) text ∙ sym (give_append out vip version pool r3))
    (omega arith, omega arith, omega arith, omega arith)))))

-- switches
pub switch_append : (out vip pool : ℕ) (more : List ℕ) → line_text (Switched out vip pool) ++ more ≡ codes "switch " ++ field out (field vip (decimal pool ++ 10 ∷ more))
unfolding line_text
switch_append out vip pool more = simp append_assoc

pub switch_there : (out vip pool : ℕ) (more : List ℕ) → IsLine (Switched out vip pool) → switch_front (field out (field vip (decimal pool ++ 10 ∷ more))) ≡ Some (Switched out vip pool, more)
unfolding switch_front IsLine
switch_there out vip pool more h =
    let a = h.0 in let b = h.1 in let c = h.2 in
    rw (field_there 18446744073709551615 32 out _ (omega arith) (omega arith) refl)
    (rw (field_there 255 32 vip _ (omega arith) (omega arith) refl)
    (rw (field_there 18446744073709551615 10 pool more (omega arith) (omega arith) refl) refl))

pub switch_takes : (bytes : List ℕ) (x : Line × List ℕ) → switch_front bytes ≡ Some x → (codes "switch " ++ bytes ≡ line_text x.0 ++ x.1) × IsLine x.0
unfolding switch_front IsLine
switch_takes bytes x h =
    field_then 18446744073709551615 32 bytes _ x (omega arith) h (λ out r at fits on.
    field_then 255 32 r _ x (omega arith) on (λ vip r1 at1 fits1 on1.
    field_then 18446744073709551615 10 r1 _ x (omega arith) on1 (λ pool r2 at2 fits2 on2.
    let text : bytes ≡ field out (field vip (decimal pool ++ 10 ∷ r2)) = cc in
    ends (codes "switch ") bytes r2 (Switched out vip pool) x (cc)
    (ap (λ (ys : List ℕ). codes "switch " ++ ys) text ∙ sym (switch_append out vip pool r2))
    (omega arith, omega arith, omega arith))))

-- sweeps
pub sweep_append : (number from to at_ms : ℕ) (more : List ℕ) → line_text (Swept number from to at_ms) ++ more
    ≡ codes "sweep " ++ field number (field from (field to (decimal at_ms ++ 10 ∷ more)))
unfolding line_text
sweep_append number from to at_ms more = simp append_assoc

pub sweep_there : (number from to at_ms : ℕ) (more : List ℕ) → IsLine (Swept number from to at_ms)
    → sweep_front (field number (field from (field to (decimal at_ms ++ 10 ∷ more)))) ≡ Some (Swept number from to at_ms, more)
unfolding sweep_front IsLine
sweep_there number from to at_ms more h =
    let a = h.0 in let b = h.1 in let c = h.2 in let d = h.3 in
    rw (field_there 18446744073709551615 32 number _ (omega arith) (omega arith) refl)
    (rw (field_there 18446744073709551615 32 from _ (omega arith) (omega arith) refl)
    (rw (field_there 18446744073709551615 32 to _ (omega arith) (omega arith) refl)
    (rw (field_there 18446744073709551615 10 at_ms more (omega arith) (omega arith) refl) refl)))

pub sweep_takes : (bytes : List ℕ) (x : Line × List ℕ) → sweep_front bytes ≡ Some x → (codes "sweep " ++ bytes ≡ line_text x.0 ++ x.1) × IsLine x.0
unfolding sweep_front IsLine
sweep_takes bytes x h =
    field_then 18446744073709551615 32 bytes _ x (omega arith) h (λ number r at fits on.
    field_then 18446744073709551615 32 r _ x (omega arith) on (λ from r1 at1 fits1 on1.
    field_then 18446744073709551615 32 r1 _ x (omega arith) on1 (λ to r2 at2 fits2 on2.
    field_then 18446744073709551615 10 r2 _ x (omega arith) on2 (λ at_ms r3 at3 fits3 on3.
    let text : bytes ≡ field number (field from (field to (decimal at_ms ++ 10 ∷ r3))) = cc in
    ends (codes "sweep ") bytes r3 (Swept number from to at_ms) x (cc)
    (ap (λ (ys : List ℕ). codes "sweep " ++ ys) text ∙ sym (sweep_append number from to at_ms r3))
    (omega arith, omega arith, omega arith, omega arith)))))

-- connections that are over
pub retire_append : (out : ℕ) (key : KeyView) (more : List ℕ) → line_text (Retired out key) ++ more ≡ codes "retire " ++ field out (key_text key (10 ∷ more))
unfolding line_text
retire_append out key more = simp (append_assoc, key_append)

pub retire_there : (out : ℕ) (key : KeyView) (more : List ℕ) → IsLine (Retired out key) → retire_front (field out (key_text key (10 ∷ more))) ≡ Some (Retired out key, more)
unfolding retire_front IsLine
retire_there out key more h =
    let a = h.0 in
    rw (field_there 18446744073709551615 32 out _ (omega arith) (omega arith) refl)
    (rw (key_there 10 key more h.1 refl) refl)

pub retire_takes : (bytes : List ℕ) (x : Line × List ℕ) → retire_front bytes ≡ Some x → (codes "retire " ++ bytes ≡ line_text x.0 ++ x.1) × IsLine x.0
unfolding retire_front IsLine
retire_takes bytes x h =
    field_then 18446744073709551615 32 bytes _ x (omega arith) h (λ out r at fits on.
    bind_some (key_front 10 r) _ x on (λ key p on1.
    let k = key_takes 10 r key p in
    let at1 = k.0 in
    let text : bytes ≡ field out (key_text key.0 (10 ∷ key.1)) = cc in
    ends (codes "retire ") bytes key.1 (Retired out key.0) x (cc)
    (ap (λ (ys : List ℕ). codes "retire " ++ ys) text ∙ sym (retire_append out key.0 key.1))
    (omega arith, k.1)))

-- lines of a tick and a number
pub numbered_there : (most out number : ℕ) (more : List ℕ) → out < 2 ^ 64 → number ≤ most → most < 2 ^ 64 → numbered_front most (field out (decimal number ++ 10 ∷ more)) ≡ Some (out, number, more)
unfolding numbered_front
numbered_there most out number more h h' small =
    rw (field_there 18446744073709551615 32 out _ (omega arith) (omega arith) refl)
    (rw (field_there most 10 number more h' small refl) refl)

pub numbered_then : {P : Type 0} (most : ℕ) (bytes : List ℕ) (f : ℕ × ℕ × List ℕ → Option (Line × List ℕ)) (x : Line × List ℕ) → most < 2 ^ 64 → option_and_then f (numbered_front most bytes) ≡ Some x
    → ((out number : ℕ) (rest : List ℕ) → bytes ≡ field out (decimal number ++ 10 ∷ rest) → out < 2 ^ 64 → number ≤ most → f (out, number, rest) ≡ Some x → P) → P
unfolding numbered_front
numbered_then most bytes f x small h k =
    bind_some (numbered_front most bytes) f x h (λ y p on.
    field_then 18446744073709551615 32 bytes _ y (omega arith) p (λ out r at fits on1.
    field_then most 10 r _ y small on1 (λ number r1 at1 fits1 on2.
    let whole : ◌≡◌ {A = ℕ × ℕ × List ℕ} y (out, number, r1) = cc in
    k out number r1 (cc) (omega arith) fits1 (ap f (sym whole) ∙ on))))

-- lines of a tick, a key and a place
pub entry_there : (out : ℕ) (key : KeyView) (place : Place) (more : List ℕ) → out < 2 ^ 64 → IsKey key → IsPlace place → entry_front (field out (key_text key (32 ∷ place_text place (10 ∷ more)))) ≡ Some (out, key, place, more)
unfolding entry_front
entry_there out key place more h k p =
    rw (field_there 18446744073709551615 32 out _ (omega arith) (omega arith) refl)
    (rw (key_there 32 key _ k refl)
    (rw (place_there place more p) refl))

pub entry_then : {P : Type 0} (bytes : List ℕ) (f : ℕ × KeyView × Place × List ℕ → Option (Line × List ℕ)) (x : Line × List ℕ) → option_and_then f (entry_front bytes) ≡ Some x
    → ((out : ℕ) (key : KeyView) (place : Place) (rest : List ℕ) → bytes ≡ field out (key_text key (32 ∷ place_text place (10 ∷ rest))) → out < 2 ^ 64 → IsKey key → IsPlace place → f (out, key, place, rest) ≡ Some x → P) → P
unfolding entry_front
entry_then bytes f x h k =
    bind_some (entry_front bytes) f x h (λ y p on.
    field_then 18446744073709551615 32 bytes _ y (omega arith) p (λ out r at fits on1.
    bind_some (key_front 32 r) _ y on1 (λ key q on2.
    bind_some (place_front key.1) _ y on2 (λ place s on3.
    let kt = key_takes 32 r key q in
    let at1 = kt.0 in
    let pt = place_takes key.1 place s in
    let at2 = pt.0 in
    let whole : ◌≡◌ {A = ℕ × KeyView × Place × List ℕ} y (out, key.0, place.0, place.1) = cc in
    k out key.0 place.0 place.1 (cc) (omega arith) kt.1 pt.1 (ap f (sym whole) ∙ on)))))

-- a line's name and a space
abbrev pub name_text : Name → List ℕ
name_text name.Packet = codes "packet "
name_text name.Answer = codes "answer "
name_text name.Give = codes "give "
name_text name.Record = codes "record "
name_text name.Hold = codes "hold "
name_text name.Switch = codes "switch "
name_text name.Finish = codes "finish "
name_text name.Down = codes "down "
name_text name.Reserve = codes "reserve "
name_text name.Place = codes "place "
name_text name.Clear = codes "clear "
name_text name.Sweep = codes "sweep "
name_text name.Retire = codes "retire "
name_text name.Refuse = codes "refuse "

pub named : (n : Name) (bytes : List ℕ) (x : Name × List ℕ) → bytes ≡ name_text n ++ x.1 → n ≡ x.0 → bytes ≡ name_text x.0 ++ x.1
named n bytes x at v = at ∙ ap (λ k. name_text k ++ x.1) v

pub change_name_takes : (bytes : List ℕ) (x : Name × List ℕ) → change_name_front bytes ≡ Some x → bytes ≡ name_text x.0 ++ x.1
unfolding change_name_front
change_name_takes bytes x h =
    said_then name.Give (codes "give ") bytes _ x h (named name.Give bytes x) (λ h1.
    said_then name.Record (codes "record ") bytes _ x h1 (named name.Record bytes x) (λ h2.
    said_then name.Hold (codes "hold ") bytes _ x h2 (named name.Hold bytes x) (λ h3.
    said_then name.Switch (codes "switch ") bytes _ x h3 (named name.Switch bytes x) (λ h4.
    said_then name.Finish (codes "finish ") bytes _ x h4 (named name.Finish bytes x) (λ h5.
    said_then name.Down (codes "down ") bytes _ x h5 (named name.Down bytes x) (λ h6.
    said_then name.Refuse (codes "refuse ") bytes None x h6 (named name.Refuse bytes x) (λ e. absurd (cc))))))))

pub name_takes : (bytes : List ℕ) (x : Name × List ℕ) → name_front bytes ≡ Some x → bytes ≡ name_text x.0 ++ x.1
unfolding name_front
name_takes bytes x h =
    said_then name.Packet (codes "packet ") bytes _ x h (named name.Packet bytes x) (λ h1.
    said_then name.Answer (codes "answer ") bytes _ x h1 (named name.Answer bytes x) (λ h2.
    said_then name.Reserve (codes "reserve ") bytes _ x h2 (named name.Reserve bytes x) (λ h3.
    said_then name.Place (codes "place ") bytes _ x h3 (named name.Place bytes x) (λ h4.
    said_then name.Clear (codes "clear ") bytes _ x h4 (named name.Clear bytes x) (λ h5.
    said_then name.Retire (codes "retire ") bytes _ x h5 (named name.Retire bytes x) (λ h6.
    said_then name.Sweep (codes "sweep ") bytes (change_name_front bytes) x h6 (named name.Sweep bytes x) (λ h7.
    change_name_takes bytes x h7)))))))

pub name_there : (n : Name) (rest : List ℕ) → name_front (name_text n ++ rest) ≡ Some (n, rest)
unfolding name_front change_name_front
name_there name.Packet rest = refl
name_there name.Answer rest = refl
name_there name.Give rest = refl
name_there name.Record rest = refl
name_there name.Hold rest = refl
name_there name.Switch rest = refl
name_there name.Finish rest = refl
name_there name.Down rest = refl
name_there name.Reserve rest = refl
name_there name.Place rest = refl
name_there name.Clear rest = refl
name_there name.Sweep rest = refl
name_there name.Retire rest = refl
name_there name.Refuse rest = refl

-- lines of a tick and a number, or of a tick, a key and a place: their texts
pub recorded_append : (out vip : ℕ) (more : List ℕ) → line_text (Recorded out vip) ++ more ≡ codes "record " ++ field out (decimal vip ++ 10 ∷ more)
unfolding line_text
recorded_append out vip more = simp append_assoc

pub hold_append : (out vip : ℕ) (more : List ℕ) → line_text (Hold out vip) ++ more ≡ codes "hold " ++ field out (decimal vip ++ 10 ∷ more)
unfolding line_text
hold_append out vip more = simp append_assoc

pub finished_append : (out vip : ℕ) (more : List ℕ) → line_text (Finished out vip) ++ more ≡ codes "finish " ++ field out (decimal vip ++ 10 ∷ more)
unfolding line_text
finished_append out vip more = simp append_assoc

pub down_append : (out server : ℕ) (more : List ℕ) → line_text (TakenDown out server) ++ more ≡ codes "down " ++ field out (decimal server ++ 10 ∷ more)
unfolding line_text
down_append out server more = simp append_assoc

pub refused_append : (out change : ℕ) (more : List ℕ) → line_text (Refused out change) ++ more ≡ codes "refuse " ++ field out (decimal change ++ 10 ∷ more)
unfolding line_text
refused_append out change more = simp append_assoc

pub reserved_append : (out : ℕ) (key : KeyView) (place : Place) (more : List ℕ) → line_text (Reserved out key place) ++ more ≡ codes "reserve " ++ field out (key_text key (32 ∷ place_text place (10 ∷ more)))
unfolding line_text
reserved_append out key place more = simp (append_assoc, key_append, place_append)

pub placed_append : (out : ℕ) (key : KeyView) (place : Place) (more : List ℕ) → line_text (Placed out key place) ++ more ≡ codes "place " ++ field out (key_text key (32 ∷ place_text place (10 ∷ more)))
unfolding line_text
placed_append out key place more = simp (append_assoc, key_append, place_append)

pub cleared_append : (out : ℕ) (key : KeyView) (place : Place) (more : List ℕ) → line_text (Cleared out key place) ++ more ≡ codes "clear " ++ field out (key_text key (32 ∷ place_text place (10 ∷ more)))
unfolding line_text
cleared_append out key place more = simp (append_assoc, key_append, place_append)

-- what comes after a line's name
pub named_takes : (n : Name) (bytes : List ℕ) (x : Line × List ℕ) → named_front n bytes ≡ Some x → (name_text n ++ bytes ≡ line_text x.0 ++ x.1) × IsLine x.0
unfolding IsLine
named_takes name.Packet bytes x h = packet_takes bytes x h
named_takes name.Answer bytes x h = answer_takes bytes x h
named_takes name.Give bytes x h = give_takes bytes x h
named_takes name.Record bytes x h = numbered_then 255 bytes _ x (omega arith) h (λ out vip rest at a b on.
    ends (codes "record ") bytes rest (Recorded out vip) x (cc) (ap (λ (ys : List ℕ). codes "record " ++ ys) at ∙ sym (recorded_append out vip rest)) (a, omega arith))
named_takes name.Hold bytes x h = numbered_then 255 bytes _ x (omega arith) h (λ out vip rest at a b on.
    ends (codes "hold ") bytes rest (Hold out vip) x (cc) (ap (λ (ys : List ℕ). codes "hold " ++ ys) at ∙ sym (hold_append out vip rest)) (a, omega arith))
named_takes name.Switch bytes x h = switch_takes bytes x h
named_takes name.Finish bytes x h = numbered_then 255 bytes _ x (omega arith) h (λ out vip rest at a b on.
    ends (codes "finish ") bytes rest (Finished out vip) x (cc) (ap (λ (ys : List ℕ). codes "finish " ++ ys) at ∙ sym (finished_append out vip rest)) (a, omega arith))
named_takes name.Down bytes x h = numbered_then 4294967295 bytes _ x (omega arith) h (λ out server rest at a b on.
    ends (codes "down ") bytes rest (TakenDown out server) x (cc) (ap (λ (ys : List ℕ). codes "down " ++ ys) at ∙ sym (down_append out server rest)) (a, omega arith))
named_takes name.Reserve bytes x h = entry_then bytes _ x h (λ out key place rest at a k p on.
    ends (codes "reserve ") bytes rest (Reserved out key place) x (cc) (ap (λ (ys : List ℕ). codes "reserve " ++ ys) at ∙ sym (reserved_append out key place rest)) (a, k, p))
named_takes name.Place bytes x h = entry_then bytes _ x h (λ out key place rest at a k p on.
    ends (codes "place ") bytes rest (Placed out key place) x (cc) (ap (λ (ys : List ℕ). codes "place " ++ ys) at ∙ sym (placed_append out key place rest)) (a, k, p))
named_takes name.Clear bytes x h = entry_then bytes _ x h (λ out key place rest at a k p on.
    ends (codes "clear ") bytes rest (Cleared out key place) x (cc) (ap (λ (ys : List ℕ). codes "clear " ++ ys) at ∙ sym (cleared_append out key place rest)) (a, k, p))
named_takes name.Sweep bytes x h = sweep_takes bytes x h
named_takes name.Retire bytes x h = retire_takes bytes x h
named_takes name.Refuse bytes x h = numbered_then 4294967295 bytes _ x (omega arith) h (λ out change rest at a b on.
    ends (codes "refuse ") bytes rest (Refused out change) x (cc) (ap (λ (ys : List ℕ). codes "refuse " ++ ys) at ∙ sym (refused_append out change rest)) (a, omega arith))

-- a line that is read is that line
pub line_takes : (bytes : List ℕ) (x : Line × List ℕ) → line_front bytes ≡ Some x → (bytes ≡ line_text x.0 ++ x.1) × IsLine x.0
unfolding line_front
line_takes bytes x h =
    bind_some (name_front bytes) _ x h (λ n p on.
    let t = named_takes n.0 n.1 x on in
    (name_takes bytes n p ∙ t.0, t.1))

pub from_name : (n : Name) (bytes rest : List ℕ) (x : Line × List ℕ) → bytes ≡ name_text n ++ rest → named_front n rest ≡ Some x → line_front bytes ≡ Some x
unfolding line_front
from_name n bytes rest x at on = rw (at, name_there n rest) on

-- a line is read, whatever follows it
pub line_there : (line : Line) (more : List ℕ) → IsLine line → line_front (line_text line ++ more) ≡ Some (line, more)
unfolding IsLine
line_there (Packet number entered out pipe key kind verdict) more h = from_name name.Packet _ _ _ (packet_append number entered out pipe key kind verdict more) (packet_there number entered out pipe key kind verdict more h)
line_there (Answer out pipe nth key verdict) more h = from_name name.Answer _ _ _ (answer_append out pipe nth key verdict more) (answer_there out pipe nth key verdict more h)
line_there (Given out vip version pool) more h = from_name name.Give _ _ _ (give_append out vip version pool more) (give_there out vip version pool more h)
line_there (Recorded out vip) more h = let a = h.1 in from_name name.Record _ _ _ (recorded_append out vip more) (rw (numbered_there 255 out vip more h.0 (omega arith) (omega arith)) refl)
line_there (Hold out vip) more h = let a = h.1 in from_name name.Hold _ _ _ (hold_append out vip more) (rw (numbered_there 255 out vip more h.0 (omega arith) (omega arith)) refl)
line_there (Switched out vip pool) more h = from_name name.Switch _ _ _ (switch_append out vip pool more) (switch_there out vip pool more h)
line_there (Finished out vip) more h = let a = h.1 in from_name name.Finish _ _ _ (finished_append out vip more) (rw (numbered_there 255 out vip more h.0 (omega arith) (omega arith)) refl)
line_there (TakenDown out server) more h = let a = h.1 in from_name name.Down _ _ _ (down_append out server more) (rw (numbered_there 4294967295 out server more h.0 (omega arith) (omega arith)) refl)
line_there (Reserved out key place) more h = from_name name.Reserve _ _ _ (reserved_append out key place more) (rw (entry_there out key place more h.0 h.1 h.2) refl)
line_there (Placed out key place) more h = from_name name.Place _ _ _ (placed_append out key place more) (rw (entry_there out key place more h.0 h.1 h.2) refl)
line_there (Cleared out key place) more h = from_name name.Clear _ _ _ (cleared_append out key place more) (rw (entry_there out key place more h.0 h.1 h.2) refl)
line_there (Swept number from to at_ms) more h = from_name name.Sweep _ _ _ (sweep_append number from to at_ms more) (sweep_there number from to at_ms more h)
line_there (Retired out key) more h = from_name name.Retire _ _ _ (retire_append out key more) (retire_there out key more h)
line_there (Refused out change) more h = let a = h.1 in from_name name.Refuse _ _ _ (refused_append out change more) (rw (numbered_there 4294967295 out change more h.0 (omega arith) (omega arith)) refl)

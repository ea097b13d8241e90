-- What it says of each clause that a line breaks none.
use Rattle.std.proofs.Common.{◌≡◌, ℕ, ◌+◌, ◌↔◌, Bool, true, false, ◌&&◌, ◌||◌, refl, sym, ap, subst, ◌∙◌, List, [], ◌∷◌, ◌++◌, length, take, reverse, Option, None, inl, inr}
use Rattle.std.specs.List.{list_any}
use Rattle.std.proofs.lemmas.Bool.{and_parts, and_from, or_cases, or_left, or_right}
use Rattle.std.proofs.lemmas.List.{reverse-append}
use Rattle.std.proofs.lemmas.Option.{none-some}
use Rattle.sr_base.specs.Key.{KeyView}
use Rattle.sr_law.specs.declared.check_refusal.CheckRefusal.{CheckRefusal}
use Rattle.sr_law.specs.declared.clause.Clause.{Clause}
use Rattle.sr_law.specs.declared.clause.Clause.TheVariants as C
use Rattle.sr_law.specs.declared.line.Line.{Line}
use Rattle.sr_law.specs.declared.line.Line.TheVariants.{Swept, Retired}
use Rattle.sr_law.specs.Cause.{meets_cause}
use Rattle.sr_law.specs.Lawful.{MeetsClauses, where_met, broken, NoLineBreaks, breach_at, first_broken}
use Rattle.sr_law.specs.Newer.{meets_newer}
use Rattle.sr_law.specs.Number.{meets_number}
use Rattle.sr_law.specs.Opening.{is_open}
use Rattle.sr_law.specs.Order.{meets_order}
use Rattle.sr_law.specs.Retire.{EndingPacket, meets_retire, may_retire, may_end, last_retired, is_quiet, last_sweep}
use Rattle.sr_law.specs.Same.{meets_same}
use Rattle.sr_law.specs.Server.{meets_server}
use Rattle.sr_law.specs.Setup.{SetupView}
use Rattle.sr_law.proofs.Breaches.{first_broken-none, first_parts, first_none, at_none, none_at}

-- a clause is met, and so is what follows
pub met_parts : (met : Bool) (named : Clause) (next : Option Clause) → where_met met named next ≡ None → (met ≡ true) × (next ≡ None)
met_parts true named next e = (refl, e)
met_parts false named next e = absurd (none-some named (sym e))

-- a clause that is met, and none that follows is broken
pub met_both : (met : Bool) (named : Clause) (next : Option Clause) → met ≡ true → next ≡ None → where_met met named next ≡ None
met_both true named next e n = n
met_both false named next e n = ap (λ m. where_met m named next) e ∙ n

-- a line that breaks no clause meets each
pub meets : (setup : SetupView) (endings : List EndingPacket) (before : List Line) (line : Line) → broken setup endings before line ≡ None → MeetsClauses setup endings before line
unfolding broken
meets setup endings before line e =
    let retire : Option Clause = where_met (meets_retire setup endings before line) C.Retire None in
    let cause : Option Clause = where_met (meets_cause setup before line) C.Cause retire in
    let number : Option Clause = where_met (meets_number setup before line) C.Number cause in
    let newer : Option Clause = where_met (meets_newer before line) C.Newer number in
    let same : Option Clause = where_met (meets_same before line) C.Same newer in
    let server : Option Clause = where_met (meets_server setup.pools before line) C.Server same in
    let a = met_parts (meets_order setup before line) C.Order server e in
    let b = met_parts (meets_server setup.pools before line) C.Server same a.1 in
    let c = met_parts (meets_same before line) C.Same newer b.1 in
    let d = met_parts (meets_newer before line) C.Newer number c.1 in
    let f = met_parts (meets_number setup before line) C.Number cause d.1 in
    let g = met_parts (meets_cause setup before line) C.Cause retire f.1 in
    let h = met_parts (meets_retire setup endings before line) C.Retire None g.1 in
    record { order = a.0; server = b.0; same = c.0; newer = d.0; number = f.0; cause = g.0; retire = h.0 }

-- a line that meets each clause breaks none
pub none_broken : (setup : SetupView) (endings : List EndingPacket) (before : List Line) (line : Line) → MeetsClauses setup endings before line → broken setup endings before line ≡ None
unfolding broken
none_broken setup endings before line m =
    let retire : Option Clause = where_met (meets_retire setup endings before line) C.Retire None in
    let cause : Option Clause = where_met (meets_cause setup before line) C.Cause retire in
    let number : Option Clause = where_met (meets_number setup before line) C.Number cause in
    let newer : Option Clause = where_met (meets_newer before line) C.Newer number in
    let same : Option Clause = where_met (meets_same before line) C.Same newer in
    let server : Option Clause = where_met (meets_server setup.pools before line) C.Server same in
    met_both (meets_order setup before line) C.Order server m.order
    (met_both (meets_server setup.pools before line) C.Server same m.server
    (met_both (meets_same before line) C.Same newer m.same
    (met_both (meets_newer before line) C.Newer number m.newer
    (met_both (meets_number setup before line) C.Number cause m.number
    (met_both (meets_cause setup before line) C.Cause retire m.cause
    (met_both (meets_retire setup endings before line) C.Retire None m.retire refl))))))

-- a list and one more line
pub one_more : (setup : SetupView) (endings : List EndingPacket) (lines : List Line) (line : Line) → NoLineBreaks setup endings (lines ++ line ∷ []) ↔ (NoLineBreaks setup endings lines × (broken setup endings (reverse lines) line ≡ None))
unfolding first_broken
one_more setup endings lines line =
    let before = reverse lines in
    let turned : reverse (lines ++ line ∷ []) ≡ line ∷ before = reverse-append lines (line ∷ []) in
    let next : Option CheckRefusal = breach_at (length before + 1) (broken setup endings before line) in
    let whole = first_broken-none setup endings (lines ++ line ∷ []) in
    let front = first_broken-none setup endings lines in (
      λ met.
          let parts = first_parts (first_broken setup endings before) next (subst (λ x. first_broken setup endings x ≡ None) turned (whole.1 met)) in
          (front.0 parts.0, at_none (length before + 1) (broken setup endings before line) parts.1),
      λ met. whole.0 (subst (λ x. first_broken setup endings x ≡ None) (sym turned)
          (first_none (first_broken setup endings before) next (front.1 met.0) (none_at (length before + 1) (broken setup endings before line) met.1))),
    )

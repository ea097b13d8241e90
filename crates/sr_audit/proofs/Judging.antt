-- The last clause of a line that meets the others.
use Rattle.std.proofs.Common.{◌≡◌, Bool, true, false, List, Option, None, refl, sym, ap, ◌∙◌, true≢false}
use Rattle.sr_law.specs.declared.clause.Clause.{Clause}
use Rattle.sr_law.specs.declared.clause.Clause.TheVariants as C
use Rattle.sr_law.specs.declared.line.Line.{Line}
use Rattle.sr_law.specs.Cause.{meets_cause}
use Rattle.sr_law.specs.Lawful.{broken, where_met}
use Rattle.sr_law.specs.Newer.{meets_newer}
use Rattle.sr_law.specs.Number.{meets_number}
use Rattle.sr_law.specs.Order.{meets_order}
use Rattle.sr_law.specs.Retire.{EndingPacket, meets_retire}
use Rattle.sr_law.specs.Same.{meets_same}
use Rattle.sr_law.specs.Server.{meets_server}
use Rattle.sr_law.specs.Setup.{SetupView}

goes_on : (met : Bool) (named : Clause) (next : Option Clause) → met ≡ true → where_met met named next ≡ next
goes_on true named next e = refl
goes_on false named next e = absurd (true≢false (sym e))

-- where only the retirement is left to judge
pub last_judged : (setup : SetupView) (endings : List EndingPacket) (before : List Line) (line : Line) (met : Bool) → meets_order setup before line ≡ true → meets_server setup.pools before line ≡ true
    → meets_same before line ≡ true → meets_newer before line ≡ true → meets_number setup before line ≡ true → meets_cause setup before line ≡ true
    → met ≡ meets_retire setup endings before line → where_met met C.Retire None ≡ broken setup endings before line
unfolding broken
last_judged setup endings before line met order server same newer number cause retire =
    ap (λ b. where_met b C.Retire None) retire
    ∙ sym (goes_on (meets_order setup before line) C.Order _ order ∙ goes_on (meets_server setup.pools before line) C.Server _ server
    ∙ goes_on (meets_same before line) C.Same _ same ∙ goes_on (meets_newer before line) C.Newer _ newer
    ∙ goes_on (meets_number setup before line) C.Number _ number ∙ goes_on (meets_cause setup before line) C.Cause _ cause)

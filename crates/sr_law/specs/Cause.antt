-- Cause: a packet was held, dropped or sent, and a change refused, only for a reason.
use Rattle.std.specs.Prelude.{ℕ, zero, suc, Bool, true, false, not, ◌&&◌, ◌||◌, List, length}
use Rattle.sr_base.specs.Key.{KeyView}
use Rattle.sr_base.specs.declared.shape.Shape.{Shape}
use Rattle.sr_base.specs.declared.kind.Kind.{Kind}
use Rattle.sr_base.specs.declared.kind.Kind.TheVariants.{Opener}
use Rattle.sr_law.specs.declared.line.Line.{Line}
use Rattle.sr_law.specs.declared.line.Line.TheVariants.{Packet, Answer, Refused}
use Rattle.sr_law.specs.declared.verdict.Verdict.{Verdict}
use Rattle.sr_law.specs.declared.verdict.Verdict.TheVariants.{To, Held, Down, Full, NoPlace}
use Rattle.sr_law.specs.declared.verdict.HeldBy.{HeldBy}
use Rattle.sr_law.specs.declared.verdict.HeldBy.TheVariants.{Clash, Hold, Transit}
use Rattle.sr_law.specs.Full.{may_be_full}
use Rattle.sr_law.specs.Held.{may_clash, may_hold, may_transit}
use Rattle.sr_law.specs.Number.{is_in_use}
use Rattle.sr_law.specs.Rows.{is_group_full}
use Rattle.sr_law.specs.Setup.{SetupView}
use Rattle.sr_law.specs.TakenDown.{is_down, is_known_down}

-- it opens a connection
abbrev pub is_opener : Kind → Bool
is_opener Opener = true
is_opener kind = false

-- why the opener of a key that started at this tick was held
abbrev pub held_cause : Shape → List Line → KeyView → ℕ → HeldBy → Bool
held_cause shape before key start Clash = may_clash shape before key start
held_cause shape before key start Hold = may_hold before key.vip start
held_cause shape before key start Transit = may_transit shape before key start

-- why a packet has its verdict: nobody knew that its server was down; it is an opener that something held; its server was taken down;
-- it is an opener whose pipe's ring may be full
abbrev pub packet_cause : Shape → List Line → ℕ → ℕ → KeyView → Kind → Verdict → Bool
packet_cause shape before start pipe key kind (To server version pool) = not (is_known_down before server start)
packet_cause shape before start pipe key kind (Held why) = is_opener kind && held_cause shape before key start why
packet_cause shape before start pipe key kind (Down server version pool) = is_down before server
packet_cause shape before start pipe key kind Full = is_opener kind && may_be_full shape before pipe start
packet_cause shape before start pipe key kind NoPlace = false

-- why the answer to a held opener has its verdict: the controller, which took down what is down, knows of it; the rows of its group are full
abbrev pub answer_cause : Shape → List Line → KeyView → Verdict → Bool
answer_cause shape before key (To server version pool) = not (is_down before server)
answer_cause shape before key (Down server version pool) = is_down before server
answer_cause shape before key NoPlace = is_group_full shape before key
answer_cause shape before key verdict = false

-- each version below this number is in use for this virtual address
abbrev pub all_in_use : List Line → ℕ → ℕ → Bool
all_in_use before vip zero = true
all_in_use before vip (suc version) = is_in_use before vip version && all_in_use before vip version

-- of some virtual address below this number all versions are in use
abbrev pub some_all_in_use : List Line → ℕ → ℕ → Bool
some_all_in_use before versions zero = false
some_all_in_use before versions (suc vip) = all_in_use before vip versions || some_all_in_use before versions vip

-- a line has its cause
unfoldable pub meets_cause : SetupView → List Line → Line → Bool
meets_cause setup before (Packet number entered out pipe key kind verdict) = packet_cause setup.shape before entered pipe key kind verdict
meets_cause setup before (Answer out pipe nth key verdict) = answer_cause setup.shape before key verdict
meets_cause setup before (Refused out change) = some_all_in_use before setup.shape.versions (length setup.pools)
meets_cause setup before line = true

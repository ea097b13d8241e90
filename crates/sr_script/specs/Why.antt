-- The words for the reasons why a text is no script.
use Rattle.std.specs.Prelude.{ℕ, List, codes}
use Rattle.sr_script.specs.declared.why.Why.{Why}
use Rattle.sr_script.specs.declared.why.Why.TheVariants.{NotToml, Missing, WrongType, UnknownKey, OutOfRange, Repeated, NoSuchServer, NoSuchVip, EmptyPool, PoolTooLarge, TooManyChanges, TooManyVips, TextTooLong}

-- the word for a reason
abbrev pub word_of : Why → List ℕ
word_of NotToml = codes "not-toml"
word_of Missing = codes "missing"
word_of WrongType = codes "wrong-type"
word_of UnknownKey = codes "unknown-key"
word_of OutOfRange = codes "out-of-range"
word_of Repeated = codes "repeated"
word_of NoSuchServer = codes "no-such-server"
word_of NoSuchVip = codes "no-such-vip"
word_of EmptyPool = codes "empty-pool"
word_of PoolTooLarge = codes "pool-too-large"
word_of TooManyChanges = codes "too-many-changes"
word_of TooManyVips = codes "too-many-vips"
word_of TextTooLong = codes "text-too-long"

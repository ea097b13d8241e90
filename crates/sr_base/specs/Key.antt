-- A key as its parts, and as a number; and when two keys are one.
use Rattle.std.specs.Prelude.{ℕ, ◌+◌, ◌*◌, ◌^◌, ◌<◌, Bool, ◌&&◌, ◌==◌}
use Rattle.sr_base.specs.Fields.{bits}

-- the client's side of a connection to a virtual address
pub record KeyView : Type 0 where
  pub vip : ℕ
  pub ip : ℕ
  pub port : ℕ

-- the virtual address above 48 bits, the client's address above 16, the port below
abbrev pub packed : KeyView → ℕ
packed k = (k.vip * 2 ^ 32 + k.ip) * 2 ^ 16 + k.port

-- a key's parts are in range
pub record IsKey (k : KeyView) : Type 0 where
  pub vip : k.vip < 16
  pub ip : k.ip < 2 ^ 32
  pub port : k.port < 2 ^ 16

-- the key in the lowest 52 bits
abbrev pub key_of : ℕ → KeyView
key_of word = record { vip = bits 48 4 word; ip = bits 16 32 word; port = bits 0 16 word }

-- two keys are one
abbrev pub same_key : KeyView → KeyView → Bool
same_key a b = (a.vip == b.vip) && ((a.ip == b.ip) && (a.port == b.port))

-- A source in memory, some calls of which are to fail.
use Rattle.std.specs.Prelude.{ℕ, if◌then◌else◌}
use Rattle.sr_io.specs.declared.source.Got.{Got}
use Rattle.sr_io.specs.declared.source.Got.TheVariants.{Failed}
use Rattle.sr_io.specs.Calls.{CallsView, fails_next, after_call, after_fault}
use Rattle.sr_io.specs.SureSource.{SureSourceView, got_of, after_read}

pub record MemSourceView : Type 0 where
  pub source : SureSourceView
  pub calls : CallsView

-- a call that is to fail fails; each other gives what the source gives
abbrev pub mem_got_of : MemSourceView → ℕ → Got
mem_got_of s size = if fails_next s.calls then Failed else got_of s.source size

-- a call that fails takes no byte
abbrev pub after_mem_read : MemSourceView → Got → MemSourceView
after_mem_read s got = record { source = after_read s.source got; calls = if fails_next s.calls then after_fault s.calls else after_call s.calls }

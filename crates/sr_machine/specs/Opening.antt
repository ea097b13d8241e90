-- Where the machine begins.
use Rattle.std.specs.Prelude.{ℕ, ◌+◌, ◌-◌, ◌==◌, false, List, [], ◌∷◌, length, map, replicate, slice_index, unwrap_or, None, if◌then◌else◌}
use Rattle.std.specs.List.{range_with_len}
use Rattle.sr_base.specs.RowHead.{packed_head}
use Rattle.sr_base.specs.declared.change.Change.{Change}
use Rattle.sr_base.specs.declared.change.What.TheVariants.{Give, TakeDown}
use Rattle.sr_law.specs.Pools.{pool_of}
use Rattle.sr_law.specs.declared.line.Line.{Line}
use Rattle.sr_law.specs.declared.line.Line.TheVariants.{Given}
use Rattle.sr_machine.specs.Config.{Config}
use Rattle.sr_update.specs.Numbers.{opening_rows}
use Rattle.sr_update.specs.Updates.{gives_after}
use Rattle.sr_machine.specs.Pipe.{fresh_pipe}
use Rattle.sr_machine.specs.Reads.{steady}
use Rattle.sr_machine.specs.declared.controller_view.ControllerView.{ControllerView}
use Rattle.sr_machine.specs.declared.job.Job.TheVariants.{Free}
use Rattle.sr_machine.specs.declared.name.Name.{Name}
use Rattle.sr_machine.specs.declared.name.Name.TheVariants.{Tick, Head, Member}
use Rattle.sr_machine.specs.declared.outage.Outage.{Outage}
use Rattle.sr_machine.specs.declared.pipe_view.PipeView.{PipeView}

-- the servers that are to be taken down
abbrev pub outages_in : List Change → List Outage
outages_in [] = []
outages_in (change ∷ rest) =
    elim change.what [
      | Give vip pool ↦ outages_in rest
      | TakeDown server ↦ record {
        at_ms =
            change.at_ms;
        server = server;
      } ∷ outages_in rest
    ]

-- number 0 of each virtual address has its pool 1
abbrev pub opening_named : Config → List (List ℕ)
opening_named k = replicate k.layout.vips (1 ∷ replicate (k.layout.shape.versions - 1) 0)

-- and this line, by the ticks from 1 on
abbrev pub opening_line : ℕ → Line
opening_line vip = Given (vip + 1) vip 0 1

abbrev pub opening_lines : Config → List Line
opening_lines k = map opening_line (range_with_len 0 k.layout.vips)

unfoldable pub opening_controller : Config → ControllerView
opening_controller k = record {
  gives = gives_after [] k.changes;
  outages = outages_in k.changes;
  clock = None;
  refusing = false;
  book = record { entries = []; taken = 0 };
  rings = replicate k.layout.shape.pipes (record { words = 0; punts = 0 });
  held = [];
  numbers = opening_rows k.layout;
  named = opening_named k;
  vips = replicate k.layout.vips (steady 0);
  down = [];
  update = None;
  mark = 0;
  sweeps = 0;
  swept_ms = 0;
  job = Free;
  drawn = 0;
  lines = opening_lines k;
}

unfoldable pub opening_pipes : Config → List PipeView
opening_pipes k = map fresh_pipe (range_with_len 0 k.layout.shape.pipes)

-- the servers of a virtual address's pool 1
abbrev pub first_pool : Config → ℕ → List ℕ
first_pool k vip = unwrap_or (pool_of k.pools vip 1) []

-- the head of a pool of these servers; none for no pool
abbrev pub opening_head : List ℕ → ℕ
opening_head [] = 0
opening_head (server ∷ rest) = packed_head (record { size = length (server ∷ rest); pool = 1 })

-- the opening words: the next tick, the first pools, and else 0
unfoldable pub opening_words : Config → Name → ℕ
opening_words k Tick = k.layout.vips + 1
opening_words k (Head vip version) = if version == 0 then opening_head (first_pool k vip) else 0
opening_words k (Member vip version index) = if version == 0 then slice_index (first_pool k vip) index else 0
opening_words k name = 0

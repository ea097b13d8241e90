-- Writing a text piece by piece, for every caller that writes in a loop.
use Rattle.std.proofs.Common.{◌≡◌, ℕ, List, [], ◌++◌, refl, subst, sym, ◌∙◌, append_assoc, append-nil}
use Rattle.sr_io.specs.Sink.{SinkKnown, Writes}
use Rattle.sr_io.specs.declared.sink.Put.{Put}
use Rattle.sr_io.specs.declared.sink.Put.TheVariants.{All, Failed}
use Rattle.sr_io.proofs.Adding.{adds_nothing, adds_front_more, puts_then}
use Rattle.sr_io.proofs.Counting.{counts_none, counts_then}

-- nothing was written, and nothing failed
pub writes_nothing : (sink : SinkKnown) → Writes All sink sink []
writes_nothing sink = record { taken = adds_nothing sink.taken; faults = counts_none sink.faults (λ f. cc) }

-- these bytes, and then what an answer says of those
pub writes_then : {before now after : SinkKnown} (put : Put) (x y : List ℕ) → Writes All before now x → Writes put now after y → Writes put before after (x ++ y)
writes_then {before} {now} {after} put x y first last = record {
  taken = puts_then after.taken put x y first.taken last.taken;
  faults = counts_then (first.faults.still (λ f. cc)) last.faults;
}

-- a prefix of some bytes, behind which more was to come
pub writes_front : {before now : SinkKnown} (x y : List ℕ) → Writes Failed before now x → Writes Failed before now (x ++ y)
writes_front x y front = record { taken = adds_front_more x y front.taken; faults = front.faults }

-- Something was taken since, without a fault, and with the rest it is all the text.
pub record Wrote (before now : SinkKnown) (rest all : List ℕ) : Type 0 where
  pub done : List ℕ
  pub written : Writes All before now done
  pub joined : done ++ rest ≡ all

pub wrote_none : (sink : SinkKnown) (all : List ℕ) → Wrote sink sink all all
wrote_none sink all = record { done = []; written = writes_nothing sink; joined = refl }

pub wrote_more : {before now after : SinkKnown} {all : List ℕ} (x rest : List ℕ) → Wrote before now (x ++ rest) all → Writes All now after x → Wrote before after rest all
wrote_more x rest so_far more = record { done = so_far.done ++ x; written = writes_then All so_far.done x so_far.written more; joined = append_assoc so_far.done x rest ∙ so_far.joined }

pub wrote_failed : {before now after : SinkKnown} {all : List ℕ} (x rest : List ℕ) → Wrote before now (x ++ rest) all → Writes Failed now after x → Writes Failed before after all
wrote_failed {before} {now} {after} x rest so_far front =
    subst (λ t. Writes Failed before after t) so_far.joined (writes_then Failed so_far.done (x ++ rest) so_far.written (writes_front x rest front))

pub wrote_all : {before now : SinkKnown} {all : List ℕ} → Wrote before now [] all → Writes All before now all
wrote_all {before} {now} so_far = subst (λ t. Writes All before now t) (sym (append-nil so_far.done) ∙ so_far.joined) so_far.written

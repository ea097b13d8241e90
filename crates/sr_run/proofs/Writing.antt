-- Printing a log in its four parts, and then a flush.
use Rattle.std.proofs.Common.{List, ℕ, [], ◌++◌, append-nil, subst}
use Rattle.sr_io.specs.Sink.{SinkKnown, Writes}
use Rattle.sr_io.specs.declared.sink.Put.{Put}
use Rattle.sr_io.specs.declared.sink.Put.TheVariants.{All, Failed}
use Rattle.sr_io.proofs.Writing.{writes_then, writes_front}

-- A log is printed as four parts: the head, the skipped records, the opening line, the packets' lines. Each may fail after those before it.
pub fails_in_head : {a b : SinkKnown} (head skips lines : List ℕ) → Writes Failed a b head → Writes Failed a b (head ++ (skips ++ lines))
fails_in_head head skips lines front = writes_front head (skips ++ lines) front

pub fails_in_skips : {a b c : SinkKnown} (head skips lines : List ℕ) → Writes All a b head → Writes Failed b c skips → Writes Failed a c (head ++ (skips ++ lines))
fails_in_skips head skips lines first front = writes_then Failed head (skips ++ lines) first (writes_front skips lines front)

pub fails_in_opening : {a b c d : SinkKnown} (head skips opening lines : List ℕ) → Writes All a b head → Writes All b c skips → Writes Failed c d opening
    → Writes Failed a d (head ++ (skips ++ (opening ++ lines)))
fails_in_opening head skips opening lines first second front = writes_then Failed head (skips ++ (opening ++ lines)) first (writes_then Failed skips (opening ++ lines) second (writes_front opening lines front))

pub fails_in_packets : {a b c d e : SinkKnown} (head skips opening lines : List ℕ) → Writes All a b head → Writes All b c skips → Writes All c d opening → Writes Failed d e lines
    → Writes Failed a e (head ++ (skips ++ (opening ++ lines)))
fails_in_packets head skips opening lines first second third front =
    writes_then Failed head (skips ++ (opening ++ lines)) first (writes_then Failed skips (opening ++ lines) second (writes_then Failed opening lines third front))

whole_log : {a b c d e : SinkKnown} (head skips opening lines : List ℕ) → Writes All a b head → Writes All b c skips → Writes All c d opening → Writes All d e lines
    → Writes All a e (head ++ (skips ++ (opening ++ lines)))
whole_log head skips opening lines first second third fourth =
    writes_then All head (skips ++ (opening ++ lines)) first (writes_then All skips (opening ++ lines) second (writes_then All opening lines third fourth))

-- some bytes, and then a flush
pub then_flushed : {a b c : SinkKnown} (put : Put) (text : List ℕ) → Writes All a b text → Writes put b c [] → Writes put a c text
then_flushed {a} {b} {c} put text written last = subst (λ t. Writes put a c t) (append-nil text) (writes_then put text [] written last)

-- all four parts, and then a flush
pub flushed : {a b c d e f : SinkKnown} (put : Put) (head skips opening lines : List ℕ) → Writes All a b head → Writes All b c skips → Writes All c d opening → Writes All d e lines → Writes put e f []
    → Writes put a f (head ++ (skips ++ (opening ++ lines)))
flushed put head skips opening lines first second third fourth last =
    then_flushed put (head ++ (skips ++ (opening ++ lines))) (whole_log head skips opening lines first second third fourth) last

-- A log whose lines are printed as one part.
pub fails_in_lines : {a b c d : SinkKnown} (head skips lines : List ℕ) → Writes All a b head → Writes All b c skips → Writes Failed c d lines → Writes Failed a d (head ++ (skips ++ lines))
fails_in_lines head skips lines first second front = writes_then Failed head (skips ++ lines) first (writes_then Failed skips lines second front)

pub log_flushed : {a b c d e : SinkKnown} (put : Put) (head skips lines : List ℕ) → Writes All a b head → Writes All b c skips → Writes All c d lines → Writes put d e []
    → Writes put a e (head ++ (skips ++ lines))
log_flushed put head skips lines first second third last =
    then_flushed put (head ++ (skips ++ lines)) (writes_then All head (skips ++ lines) first (writes_then All skips lines second third)) last

use Rattle.std.proofs.Common.{◌≡◌, refl, [], ◌∷◌, Some}
use Rattle.sr_base.specs.declared.kind.Kind.TheVariants.{Opener, Carry, Ending}
use Rattle.sr_base.specs.declared.place.Place.TheVariants.{Slot, Row}
use Rattle.sr_hash.specs.Keyed.{hash_of}
use Rattle.sr_law.specs.declared.line.Line.TheVariants as line
use Rattle.sr_law.specs.declared.verdict.HeldBy.TheVariants as by
use Rattle.sr_law.specs.declared.verdict.Verdict.TheVariants as verdict
use Rattle.sr_shadow.specs.Plan.{first_plan}
use Rattle.sr_machine.specs.Deciding.{is_withdrawn}
use Rattle.sr_machine.specs.Opening.{opening_controller, opening_pipes, opening_words}
use Rattle.sr_machine.specs.Reads.{read_vip, says, reserved_word, live_word, read_head, read_server, read_flag, has_bit, read_report}
use Rattle.sr_machine.specs.Starting.{first_act}
use Rattle.sr_machine.specs.Taking.{taking}
use Rattle.sr_machine.proofs.Scenes.{small_shape, scene, give_at, down_at, client, packet_of, Handles, Comes, Pipes, Ends, Controls, Turns, Settles, Tells, lines_after, answers_after, ending_after}
use Rattle.sr_machine.specs.declared.act.Act.TheVariants as act
use Rattle.sr_machine.specs.declared.settled.Settled.TheVariants as settled
use Rattle.sr_machine.specs.declared.turn.Turn.TheVariants as turn

-- an opener that comes again before and after its connection is placed
repeated_opener : lines_after (scene small_shape [])
    (Handles 0 (packet_of 1 (client 9) Opener) ∷ Handles 0 (packet_of 2 (client 9) Opener) ∷ Controls 100
    ∷ Handles 0 (packet_of 3 (client 9) Opener) ∷ Controls 100 ∷ [])
    ≡ Some (line.Given 1 0 0 1
    ∷ line.Packet 1 2 3 0 (client 9) Opener (verdict.To 0 0 1)
    ∷ line.Packet 2 4 5 0 (client 9) Opener (verdict.To 0 0 1)
    ∷ line.Reserved 6 (client 9) (Slot 1 0 0)
    ∷ line.Placed 8 (client 9) (Slot 1 0 0)
    ∷ line.Packet 3 10 11 0 (client 9) Opener (verdict.Held by.Clash)
    ∷ line.Answer 12 0 1 (client 9) (verdict.To 0 0 1) ∷ [])
unfolding hash_of first_plan is_withdrawn opening_controller opening_pipes opening_words read_vip says reserved_word live_word read_head read_server read_flag has_bit read_report first_act taking
repeated_opener = refl

-- openers that clash come to the table of full keys, until it is full
clash_to_full_key : lines_after (scene small_shape [])
    (Handles 0 (packet_of 1 (client 9) Opener) ∷ Controls 40 ∷ Handles 0 (packet_of 2 (client 10) Opener) ∷ Controls 40
    ∷ Handles 0 (packet_of 3 (client 11) Opener) ∷ Controls 40 ∷ Handles 0 (packet_of 4 (client 12) Opener) ∷ Controls 40
    ∷ Handles 0 (packet_of 5 (client 13) Opener) ∷ Controls 40 ∷ Handles 0 (packet_of 6 (client 14) Opener) ∷ Controls 40 ∷ [])
    ≡ Some (line.Given 1 0 0 1
    ∷ line.Packet 1 2 3 0 (client 9) Opener (verdict.To 0 0 1)
    ∷ line.Reserved 4 (client 9) (Slot 1 0 0)
    ∷ line.Placed 6 (client 9) (Slot 1 0 0)
    ∷ line.Packet 2 8 9 0 (client 10) Opener (verdict.Held by.Clash)
    ∷ line.Reserved 10 (client 10) (Row 0)
    ∷ line.Placed 12 (client 10) (Row 0)
    ∷ line.Answer 14 0 1 (client 10) (verdict.To 0 0 1)
    ∷ line.Packet 3 15 16 0 (client 11) Opener (verdict.Held by.Clash)
    ∷ line.Reserved 17 (client 11) (Row 1)
    ∷ line.Placed 19 (client 11) (Row 1)
    ∷ line.Answer 21 0 2 (client 11) (verdict.To 0 0 1)
    ∷ line.Packet 4 22 23 0 (client 12) Opener (verdict.Held by.Clash)
    ∷ line.Reserved 24 (client 12) (Row 2)
    ∷ line.Placed 26 (client 12) (Row 2)
    ∷ line.Answer 28 0 3 (client 12) (verdict.To 0 0 1)
    ∷ line.Packet 5 29 30 0 (client 13) Opener (verdict.Held by.Clash)
    ∷ line.Reserved 31 (client 13) (Row 3)
    ∷ line.Placed 33 (client 13) (Row 3)
    ∷ line.Answer 35 0 4 (client 13) (verdict.To 0 0 1)
    ∷ line.Packet 6 36 37 0 (client 14) Opener (verdict.Held by.Clash)
    ∷ line.Answer 38 0 5 (client 14) verdict.NoPlace ∷ [])
unfolding hash_of first_plan is_withdrawn opening_controller opening_pipes opening_words read_vip says reserved_word live_word read_head read_server read_flag has_bit read_report first_act taking
clash_to_full_key = refl

-- a slot is withdrawn from a key with which a later one clashes
late_clash : lines_after (scene small_shape [])
    (Handles 0 (packet_of 1 (client 9) Opener) ∷ Handles 0 (packet_of 2 (client 10) Opener) ∷ Settles ∷ [])
    ≡ Some (line.Given 1 0 0 1
    ∷ line.Packet 1 2 3 0 (client 9) Opener (verdict.To 0 0 1)
    ∷ line.Packet 2 4 5 0 (client 10) Opener (verdict.To 0 0 1)
    ∷ line.Reserved 6 (client 9) (Slot 1 0 0)
    ∷ line.Cleared 8 (client 9) (Slot 1 0 0)
    ∷ line.Reserved 9 (client 9) (Row 0)
    ∷ line.Placed 11 (client 9) (Row 0)
    ∷ line.Reserved 13 (client 10) (Slot 1 0 0)
    ∷ line.Placed 15 (client 10) (Slot 1 0 0) ∷ [])
unfolding hash_of first_plan is_withdrawn opening_controller opening_pipes opening_words read_vip says reserved_word live_word read_head read_server read_flag has_bit read_report first_act taking
late_clash = refl

-- the first turns of an update
update_begins : answers_after (scene small_shape (give_at 0 1 ∷ []))
    (Tells 0 ∷ []) 5
    ≡ Some (turn.Did act.Wrote ∷ turn.Did act.Wrote ∷ turn.Did act.Phase ∷ turn.Did act.Passed ∷ turn.Did act.Drained ∷ [])
unfolding hash_of first_plan is_withdrawn opening_controller opening_pipes opening_words read_vip says reserved_word live_word read_head read_server read_flag has_bit read_report first_act taking
update_begins = refl

-- and the next ones, with an opener that was recorded
update_goes_on : answers_after (scene small_shape (give_at 0 1 ∷ []))
    (Tells 0 ∷ Turns 5 ∷ Handles 0 (packet_of 1 (client 9) Opener) ∷ []) 3
    ≡ Some (turn.Did act.Phase ∷ turn.Did act.Passed ∷ turn.Did act.Phase ∷ [])
unfolding hash_of first_plan is_withdrawn opening_controller opening_pipes opening_words read_vip says reserved_word live_word read_head read_server read_flag has_bit read_report first_act taking
update_goes_on = refl

-- an update: the connection that began before it keeps its pool, the one after it has the new one
an_update : lines_after (scene small_shape (give_at 0 1 ∷ []))
    (Tells 0 ∷ Turns 5 ∷ Handles 0 (packet_of 1 (client 9) Opener) ∷ Turns 3 ∷ Handles 0 (packet_of 2 (client 9) Carry)
    ∷ Handles 0 (packet_of 3 (client 10) Opener) ∷ Settles ∷ [])
    ≡ Some (line.Given 1 0 0 1
    ∷ line.Given 2 0 1 2
    ∷ line.Recorded 3 0
    ∷ line.Packet 1 5 6 0 (client 9) Opener (verdict.To 0 0 1)
    ∷ line.Hold 7 0
    ∷ line.Switched 9 0 2
    ∷ line.Packet 2 11 12 0 (client 9) Carry (verdict.To 0 0 1)
    ∷ line.Packet 3 13 14 0 (client 10) Opener (verdict.Held by.Transit)
    ∷ line.Reserved 15 (client 10) (Row 0)
    ∷ line.Placed 17 (client 10) (Row 0)
    ∷ line.Answer 19 0 1 (client 10) (verdict.To 1 1 2)
    ∷ line.Reserved 20 (client 9) (Slot 1 0 0)
    ∷ line.Placed 22 (client 9) (Slot 1 0 0)
    ∷ line.Finished 24 0 ∷ [])
unfolding hash_of first_plan is_withdrawn opening_controller opening_pipes opening_words read_vip says reserved_word live_word read_head read_server read_flag has_bit read_report first_act taking
an_update = refl

-- the turns after an opener was held by the phase that lets none through
held_goes_on : answers_after (scene small_shape (give_at 0 1 ∷ []))
    (Tells 0 ∷ Turns 5 ∷ Handles 0 (packet_of 1 (client 9) Opener) ∷ Turns 1 ∷ Handles 0 (packet_of 2 (client 10) Opener) ∷ []) 2
    ≡ Some (turn.Did act.Passed ∷ turn.Did act.Phase ∷ [])
unfolding hash_of first_plan is_withdrawn opening_controller opening_pipes opening_words read_vip says reserved_word live_word read_head read_server read_flag has_bit read_report first_act taking
held_goes_on = refl

-- it is answered with the new pool
held_in_hold : lines_after (scene small_shape (give_at 0 1 ∷ []))
    (Tells 0 ∷ Turns 5 ∷ Handles 0 (packet_of 1 (client 9) Opener) ∷ Turns 1 ∷ Handles 0 (packet_of 2 (client 10) Opener)
    ∷ Settles ∷ [])
    ≡ Some (line.Given 1 0 0 1
    ∷ line.Given 2 0 1 2
    ∷ line.Recorded 3 0
    ∷ line.Packet 1 5 6 0 (client 9) Opener (verdict.To 0 0 1)
    ∷ line.Hold 7 0
    ∷ line.Packet 2 9 10 0 (client 10) Opener (verdict.Held by.Hold)
    ∷ line.Switched 11 0 2
    ∷ line.Reserved 13 (client 10) (Row 0)
    ∷ line.Placed 15 (client 10) (Row 0)
    ∷ line.Answer 17 0 1 (client 10) (verdict.To 1 1 2)
    ∷ line.Reserved 18 (client 9) (Slot 1 0 0)
    ∷ line.Placed 20 (client 9) (Slot 1 0 0)
    ∷ line.Finished 22 0 ∷ [])
unfolding hash_of first_plan is_withdrawn opening_controller opening_pipes opening_words read_vip says reserved_word live_word read_head read_server read_flag has_bit read_report first_act taking
held_in_hold = refl

-- an opener that finds its ring full
ring_full : lines_after (scene (record small_shape { ring = 1 }) [])
    (Handles 0 (packet_of 1 (client 9) Opener) ∷ Handles 0 (packet_of 2 (client 10) Opener) ∷ [])
    ≡ Some (line.Given 1 0 0 1
    ∷ line.Packet 1 2 3 0 (client 9) Opener (verdict.To 0 0 1)
    ∷ line.Packet 2 4 5 0 (client 10) Opener (verdict.Full) ∷ [])
unfolding hash_of first_plan is_withdrawn opening_controller opening_pipes opening_words read_vip says reserved_word live_word read_head read_server read_flag has_bit read_report first_act taking
ring_full = refl

-- the controller waits for a packet in flight
not_yet : answers_after (scene (record small_shape { pipes = 2 }) [])
    (Handles 0 (packet_of 1 (client 9) Opener) ∷ Comes 1 (packet_of 2 (client 10) Carry) ∷ Pipes 1 2 ∷ []) 5
    ≡ Some (turn.Did act.Took ∷ turn.Did act.Reserved ∷ turn.Did act.Passed ∷ turn.NotYet 1 4 ∷ turn.NotYet 1 4 ∷ [])
unfolding hash_of first_plan is_withdrawn opening_controller opening_pipes opening_words read_vip says reserved_word live_word read_head read_server read_flag has_bit read_report first_act taking
not_yet = refl

-- until it has left
then_passed : answers_after (scene (record small_shape { pipes = 2 }) [])
    (Handles 0 (packet_of 1 (client 9) Opener) ∷ Comes 1 (packet_of 2 (client 10) Carry) ∷ Pipes 1 2 ∷ Turns 5 ∷ Ends 1 ∷ []) 1
    ≡ Some (turn.Did act.Passed ∷ [])
unfolding hash_of first_plan is_withdrawn opening_controller opening_pipes opening_words read_vip says reserved_word live_word read_head read_server read_flag has_bit read_report first_act taking
then_passed = refl

-- and these are the lines
not_yet_lines : lines_after (scene (record small_shape { pipes = 2 }) [])
    (Handles 0 (packet_of 1 (client 9) Opener) ∷ Comes 1 (packet_of 2 (client 10) Carry) ∷ Pipes 1 2 ∷ Turns 5 ∷ Ends 1 ∷ [])
    ≡ Some (line.Given 1 0 0 1
    ∷ line.Packet 1 2 3 0 (client 9) Opener (verdict.To 0 0 1)
    ∷ line.Reserved 5 (client 9) (Slot 1 0 0)
    ∷ line.Packet 2 4 7 1 (client 10) Carry (verdict.To 0 0 1) ∷ [])
unfolding hash_of first_plan is_withdrawn opening_controller opening_pipes opening_words read_vip says reserved_word live_word read_head read_server read_flag has_bit read_report first_act taking
not_yet_lines = refl

-- an insertion, up to the packet that reads it half done
mid_read_begins : answers_after (scene small_shape [])
    (Handles 0 (packet_of 1 (client 9) Opener) ∷ []) 4
    ≡ Some (turn.Did act.Took ∷ turn.Did act.Reserved ∷ turn.Did act.Passed ∷ turn.Did act.Drained ∷ [])
unfolding hash_of first_plan is_withdrawn opening_controller opening_pipes opening_words read_vip says reserved_word live_word read_head read_server read_flag has_bit read_report first_act taking
mid_read_begins = refl

-- the controller waits for that packet
mid_read_goes_on : answers_after (scene small_shape [])
    (Handles 0 (packet_of 1 (client 9) Opener) ∷ Turns 4 ∷ Comes 0 (packet_of 2 (client 9) Carry) ∷ Pipes 0 8 ∷ []) 2
    ≡ Some (turn.Did act.Committed ∷ turn.NotYet 0 6 ∷ [])
unfolding hash_of first_plan is_withdrawn opening_controller opening_pipes opening_words read_vip says reserved_word live_word read_head read_server read_flag has_bit read_report first_act taking
mid_read_goes_on = refl

-- and it keeps its connection's server
mid_read : lines_after (scene small_shape [])
    (Handles 0 (packet_of 1 (client 9) Opener) ∷ Turns 4 ∷ Comes 0 (packet_of 2 (client 9) Carry) ∷ Pipes 0 8 ∷ Turns 2
    ∷ Ends 0 ∷ [])
    ≡ Some (line.Given 1 0 0 1
    ∷ line.Packet 1 2 3 0 (client 9) Opener (verdict.To 0 0 1)
    ∷ line.Reserved 4 (client 9) (Slot 1 0 0)
    ∷ line.Placed 7 (client 9) (Slot 1 0 0)
    ∷ line.Packet 2 6 9 0 (client 9) Carry (verdict.To 0 0 1) ∷ [])
unfolding hash_of first_plan is_withdrawn opening_controller opening_pipes opening_words read_vip says reserved_word live_word read_head read_server read_flag has_bit read_report first_act taking
mid_read = refl

-- an update ends, and the next one finds no version number
versions_full : answers_after (scene (record small_shape { versions = 2 }) (give_at 0 1 ∷ give_at 0 0 ∷ []))
    (Handles 0 (packet_of 1 (client 9) Opener) ∷ Settles ∷ Tells 0 ∷ []) 14
    ≡ Some (turn.Did act.Wrote ∷ turn.Did act.Wrote ∷ turn.Did act.Phase ∷ turn.Did act.Passed ∷ turn.Did act.Drained
    ∷ turn.Did act.Phase ∷ turn.Did act.Passed ∷ turn.Did act.Phase ∷ turn.Did act.Passed ∷ turn.Did act.Drained
    ∷ turn.Did act.Phase ∷ turn.Did act.Passed ∷ turn.Did act.Wrote ∷ turn.VersionsFull 0 ∷ [])
unfolding hash_of first_plan is_withdrawn opening_controller opening_pipes opening_words read_vip says reserved_word live_word read_head read_server read_flag has_bit read_report first_act taking
versions_full = refl

-- these are the lines up to then
versions_full_lines : lines_after (scene (record small_shape { versions = 2 }) (give_at 0 1 ∷ give_at 0 0 ∷ []))
    (Handles 0 (packet_of 1 (client 9) Opener) ∷ Settles ∷ Tells 0 ∷ Turns 14 ∷ [])
    ≡ Some (line.Given 1 0 0 1
    ∷ line.Packet 1 2 3 0 (client 9) Opener (verdict.To 0 0 1)
    ∷ line.Reserved 4 (client 9) (Slot 1 0 0)
    ∷ line.Placed 6 (client 9) (Slot 1 0 0)
    ∷ line.Given 8 0 1 2
    ∷ line.Recorded 9 0
    ∷ line.Hold 11 0
    ∷ line.Switched 13 0 2
    ∷ line.Finished 15 0 ∷ [])
unfolding hash_of first_plan is_withdrawn opening_controller opening_pipes opening_words read_vip says reserved_word live_word read_head read_server read_flag has_bit read_report first_act taking
versions_full_lines = refl

-- the change is refused, where nothing could free a number
version_refused : lines_after (scene (record small_shape { versions = 2 }) (give_at 0 1 ∷ give_at 0 0 ∷ []))
    (Handles 0 (packet_of 1 (client 9) Opener) ∷ Settles ∷ Tells 0 ∷ Settles ∷ [])
    ≡ Some (line.Given 1 0 0 1
    ∷ line.Packet 1 2 3 0 (client 9) Opener (verdict.To 0 0 1)
    ∷ line.Reserved 4 (client 9) (Slot 1 0 0)
    ∷ line.Placed 6 (client 9) (Slot 1 0 0)
    ∷ line.Given 8 0 1 2
    ∷ line.Recorded 9 0
    ∷ line.Hold 11 0
    ∷ line.Switched 13 0 2
    ∷ line.Finished 15 0
    ∷ line.Refused 17 1 ∷ [])
unfolding hash_of first_plan is_withdrawn opening_controller opening_pipes opening_words read_vip says reserved_word live_word read_head read_server read_flag has_bit read_report first_act taking
version_refused = refl

-- and nothing is left to do then
refused_is_quiet : ending_after (scene (record small_shape { versions = 2 }) (give_at 0 1 ∷ give_at 0 0 ∷ []))
    (Handles 0 (packet_of 1 (client 9) Opener) ∷ Settles ∷ Tells 0 ∷ []) ≡ Some (settled.Quiet)
unfolding hash_of first_plan is_withdrawn opening_controller opening_pipes opening_words read_vip says reserved_word live_word read_head read_server read_flag has_bit read_report first_act taking
refused_is_quiet = refl

-- a sweep frees no number yet
sweep_one : answers_after (scene (record small_shape { versions = 2 }) (give_at 0 1 ∷ give_at 0 0 ∷ []))
    (Handles 0 (packet_of 1 (client 9) Opener) ∷ Settles ∷ Tells 0 ∷ Turns 14 ∷ Tells 1 ∷ []) 4
    ≡ Some (turn.Did act.Swept ∷ turn.Did act.Swept ∷ turn.Did act.Swept ∷ turn.VersionsFull 0 ∷ [])
unfolding hash_of first_plan is_withdrawn opening_controller opening_pipes opening_words read_vip says reserved_word live_word read_head read_server read_flag has_bit read_report first_act taking
sweep_one = refl

-- once its connection is over the number is given again
version_given_again : lines_after (scene (record small_shape { versions = 2 }) (give_at 0 1 ∷ give_at 0 0 ∷ []))
    (Handles 0 (packet_of 1 (client 9) Opener) ∷ Settles ∷ Tells 0 ∷ Turns 14 ∷ Tells 1 ∷ Turns 4 ∷ Tells 2 ∷ Controls 16 ∷ [])
    ≡ Some (line.Given 1 0 0 1
    ∷ line.Packet 1 2 3 0 (client 9) Opener (verdict.To 0 0 1)
    ∷ line.Reserved 4 (client 9) (Slot 1 0 0)
    ∷ line.Placed 6 (client 9) (Slot 1 0 0)
    ∷ line.Given 8 0 1 2
    ∷ line.Recorded 9 0
    ∷ line.Hold 11 0
    ∷ line.Switched 13 0 2
    ∷ line.Finished 15 0
    ∷ line.Swept 1 17 18 1
    ∷ line.Swept 2 19 20 2
    ∷ line.Retired 21 (client 9)
    ∷ line.Cleared 22 (client 9) (Slot 1 0 0)
    ∷ line.Given 25 0 0 3
    ∷ line.Recorded 26 0 ∷ [])
unfolding hash_of first_plan is_withdrawn opening_controller opening_pipes opening_words read_vip says reserved_word live_word read_head read_server read_flag has_bit read_report first_act taking
version_given_again = refl

-- a connection ends, is opened anew, and its server is taken down
closed_and_down : lines_after (scene (record small_shape { lives = 3 }) (down_at 5 0 ∷ []))
    (Handles 0 (packet_of 1 (client 9) Opener) ∷ Handles 0 (packet_of 2 (client 9) Ending) ∷ Settles ∷ Tells 1 ∷ Settles
    ∷ Tells 2 ∷ Settles ∷ Handles 0 (packet_of 3 (client 9) Opener) ∷ Tells 5 ∷ Settles
    ∷ Handles 0 (packet_of 4 (client 9) Carry) ∷ [])
    ≡ Some (line.Given 1 0 0 1
    ∷ line.Packet 1 2 3 0 (client 9) Opener (verdict.To 0 0 1)
    ∷ line.Packet 2 4 5 0 (client 9) Ending (verdict.To 0 0 1)
    ∷ line.Reserved 6 (client 9) (Slot 1 0 0)
    ∷ line.Placed 8 (client 9) (Slot 1 0 0)
    ∷ line.Swept 1 10 11 1
    ∷ line.Swept 2 12 13 2
    ∷ line.Retired 14 (client 9)
    ∷ line.Cleared 15 (client 9) (Slot 1 0 0)
    ∷ line.Packet 3 17 18 0 (client 9) Opener (verdict.To 0 0 1)
    ∷ line.TakenDown 19 0
    ∷ line.Swept 3 20 21 5
    ∷ line.Reserved 22 (client 9) (Slot 1 0 0)
    ∷ line.Placed 24 (client 9) (Slot 1 0 0)
    ∷ line.Packet 4 26 27 0 (client 9) Carry (verdict.Down 0 0 1) ∷ [])
unfolding hash_of first_plan is_withdrawn opening_controller opening_pipes opening_words read_vip says reserved_word live_word read_head read_server read_flag has_bit read_report first_act taking
closed_and_down = refl

-- an update waits for a key that has no plan
no_room_waits : ending_after (scene small_shape (give_at 1 1 ∷ []))
    (Handles 0 (packet_of 1 (client 9) Opener) ∷ Handles 0 (packet_of 2 (client 10) Opener)
    ∷ Handles 0 (packet_of 3 (client 11) Opener) ∷ Handles 0 (packet_of 4 (client 12) Opener)
    ∷ Handles 0 (packet_of 5 (client 13) Opener) ∷ Handles 0 (packet_of 6 (client 14) Opener) ∷ Tells 1
    ∷ []) ≡ Some (settled.Waiting (client 13))
unfolding hash_of first_plan is_withdrawn opening_controller opening_pipes opening_words read_vip says reserved_word live_word read_head read_server read_flag has_bit read_report first_act taking
no_room_waits = refl

-- and the next turn says so
no_room : answers_after (scene small_shape (give_at 1 1 ∷ []))
    (Handles 0 (packet_of 1 (client 9) Opener) ∷ Handles 0 (packet_of 2 (client 10) Opener)
    ∷ Handles 0 (packet_of 3 (client 11) Opener) ∷ Handles 0 (packet_of 4 (client 12) Opener)
    ∷ Handles 0 (packet_of 5 (client 13) Opener) ∷ Handles 0 (packet_of 6 (client 14) Opener) ∷ Tells 1 ∷ Settles ∷ []) 1
    ≡ Some (turn.NoRoom (client 13) ∷ [])
unfolding hash_of first_plan is_withdrawn opening_controller opening_pipes opening_words read_vip says reserved_word live_word read_head read_server read_flag has_bit read_report first_act taking
no_room = refl

-- an entry moves, so that an opener that it held is placed
a_move : lines_after (scene (record small_shape { buckets = 2 }) [])
    (Handles 0 (packet_of 1 (client 9) Opener) ∷ Settles
    ∷ Handles 0 (packet_of 2 (record { vip = 0; ip = 167772174; port = 1024 }) Opener) ∷ Settles ∷ [])
    ≡ Some (line.Given 1 0 0 1
    ∷ line.Packet 1 2 3 0 (client 9) Opener (verdict.To 0 0 1)
    ∷ line.Reserved 4 (client 9) (Slot 1 0 0)
    ∷ line.Placed 6 (client 9) (Slot 1 0 0)
    ∷ line.Packet 2 8 9 0 (record { vip = 0; ip = 167772174; port = 1024 }) Opener (verdict.Held by.Clash)
    ∷ line.Reserved 10 (client 9) (Slot 2 0 0)
    ∷ line.Placed 12 (client 9) (Slot 2 0 0)
    ∷ line.Cleared 14 (client 9) (Slot 1 0 0)
    ∷ line.Reserved 15 (record { vip = 0; ip = 167772174; port = 1024 }) (Slot 2 1 0)
    ∷ line.Placed 17 (record { vip = 0; ip = 167772174; port = 1024 }) (Slot 2 1 0)
    ∷ line.Answer 19 0 1 (record { vip = 0; ip = 167772174; port = 1024 }) (verdict.To 0 0 1) ∷ [])
unfolding hash_of first_plan is_withdrawn opening_controller opening_pipes opening_words read_vip says reserved_word live_word read_head read_server read_flag has_bit read_report first_act taking
a_move = refl

use Rattle.std.proofs.Common.{◌++◌, map, vec_len, arith}
use Rattle.sr_words.proofs.Joining.{all_joined, emptied, fits_joined, pipes_of, rest_of}
use Rattle.sr_words.specs.Boarding.{held, views_of}
use Rattle.sr_words.proofs.boards.Boards.join.Goals as goal

pub returns-clause-rests : goal.returns-clause-rests
returns-clause-rests c =
    let i = c.loop-pipes.invariant in
    rest_of c.args.self.controller.layout c.args.self.controller.seat.me.0.actors c.loop-pipes.controller.seat.me.0.actors c.args.self.pipes.items
    c.args.self.alone c.args.self.one_each
    (all_joined c.loop-pipes.controller.seat.me.0.actors (c.args.self.controller.seat.me.0.actors ++ views_of (map held c.args.self.pipes.items))
    c.loop-pipes.pipes.items
    (let a = emptied (vec_len c.loop-pipes.pipes) c.is_empty.result c.is_empty.ensures (cc) in let b = c.loop-pipes.pipes.ok.0 in omega arith) i.0)
    c.loop-pipes.controller.layout i.4 c.requires

pub returns-clause-pipes : goal.returns-clause-pipes
returns-clause-pipes c =
    let i = c.loop-pipes.invariant in
    pipes_of c.args.self.controller.layout c.args.self.controller.seat.me.0.actors c.loop-pipes.controller.seat.me.0.actors c.args.self.pipes.items
    c.args.self.alone c.args.self.one_each
    (all_joined c.loop-pipes.controller.seat.me.0.actors (c.args.self.controller.seat.me.0.actors ++ views_of (map held c.args.self.pipes.items))
    c.loop-pipes.pipes.items
    (let a = emptied (vec_len c.loop-pipes.pipes) c.is_empty.result c.is_empty.ensures (cc) in let b = c.loop-pipes.pipes.ok.0 in omega arith) i.0)

pub returns-clause-fits : goal.returns-clause-fits
returns-clause-fits c =
    let i = c.loop-pipes.invariant in
    fits_joined c.args.self.controller.words.now.key c.loop-pipes.controller.words.now.key c.args.self.controller.seat.me.0 c.loop-pipes.controller.seat.me.0
    c.args.self.controller.heard c.loop-pipes.controller.heard (views_of (map held c.args.self.pipes.items)) i.3 i.2
    (all_joined c.loop-pipes.controller.seat.me.0.actors (c.args.self.controller.seat.me.0.actors ++ views_of (map held c.args.self.pipes.items))
    c.loop-pipes.pipes.items
    (let a = emptied (vec_len c.loop-pipes.pipes) c.is_empty.result c.is_empty.ensures (cc) in let b = c.loop-pipes.pipes.ok.0 in omega arith) i.0)

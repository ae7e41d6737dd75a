use Rattle.std.proofs.Common.{get_or, arith}
use Rattle.aes.specs.declared.Block.{Block}
use Rattle.aes.specs.Words.{key_octets, words_of}
use Rattle.aes.proofs.Expansion.{begun_first, begun_more, next_key, begun_all}
use Rattle.aes.proofs.Schedule.new.Goals as goal

pub loop-r-init : goal.loop-r-init
loop-r-init c = begun_first c.args.first c.args.second c.of_halves-keys.result c.of_halves-keys.ensures

pub loop-r-preserved : goal.loop-r-preserved
loop-r-preserved c =
    let key = key_octets c.args.first c.args.second in
    let none : Block = record { a = 0; b = 0; c = 0; d = 0 } in
    let r = c.loop-r.r in
    let block = get_or c.loop-r.keys r none in
    begun_more key r c.loop-r.keys c.next.result c.loop-r-test.true c.loop-r.invariant
    (next_key key r c.round_constant.result block c.next.result (c.loop-r.invariant.made r none (omega arith)) c.round_constant.ensures
    (record { a = c.next.ensures.a; b = c.next.ensures.b; c = c.next.ensures.c; d = c.next.ensures.d }))

pub returns : goal.returns
unfolding words_of
returns c = begun_all (key_octets c.args.first c.args.second) c.loop-r.keys c.loop-r.r c.loop-r-test.false c.loop-r.invariant

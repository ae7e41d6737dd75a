use Rattle.std.proofs.Common.{◌*◌, arith}
use Rattle.suite.proofs.Ciphering.{enciphered_more}
use Rattle.modes.specs.Counter.{counter_stream}
use Rattle.modes.proofs.Streams.{stream_octet}
use Rattle.modes.proofs.counter.encipher_block.Goals as goal

pub loop-place-preserved : goal.loop-place-preserved
loop-place-preserved g c =
    let f = counter_stream (g.C.BlockCipher.ciph c.args.cipher.now) c.args.start in
    let octet = stream_octet (g.C.BlockCipher.ciph c.args.cipher.now) c.args.start c.args.i c.loop-place.place _ _ _ _ (omega arith) c.of_halves.ensures c.encrypt.ensures c.number_of.ensures c.to_be_bytes-keystream.ensures in
    let more = enciphered_more f (16 * c.args.i) c.args.block.now c.loop-place.block c.loop-place.place c.loop-place-test.true c.loop-place.invariant in
    cc

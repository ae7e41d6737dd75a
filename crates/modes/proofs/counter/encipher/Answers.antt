use Rattle.std.proofs.Common.{◌≡◌, ◌+◌, ◌*◌, arith}
use Rattle.modes.specs.Counter.{counter_stream}
use Rattle.modes.proofs.Streams.{piece_enciphered, enciphered_end}
use Rattle.modes.proofs.counter.encipher.Goals as goal

pub loop-i-preserved : goal.loop-i-preserved
loop-i-preserved g c =
    let f = counter_stream (g.C.BlockCipher.ciph c.args.cipher.now) c.args.start in
    let i = c.loop-i.i in
    let more : 16 * i + 16 ≡ 16 * (i + 1) = omega arith in
    let piece = piece_enciphered f c.args.part.now c.loop-i.part c.encipher_block.new.block (16 * i) c.min-to.result c.loop-i.invariant (omega arith) (omega arith) c.encipher_block.ensures in
    enciphered_end f c.args.part.now _ c.min-to.result (16 * (i + 1)) (omega arith) piece

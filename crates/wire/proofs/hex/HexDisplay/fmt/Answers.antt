use Rattle.std.proofs.Common.{◌+◌, ap, is_ok, get_or, take, subst, List, ℕ, Option, arith}
use Rattle.std.specs.Fmt.{DisplaysOnOk}
use Rattle.std.proofs.Output.{has_written_of_eq, has_written_append}
use Rattle.wire.specs.Hex.{hex_pair, hex_of}
use Rattle.wire.proofs.Hexadecimal.{pair_text, hex_more}
use Rattle.wire.proofs.hex.HexDisplay.fmt.Goals as goal

pub loop-octet-preserved : goal.loop-octet-preserved
loop-octet-preserved g c plain =
    let took = g.W.Write.write_str_gives in
    let octets = c.args.self.now.octets.now in
    let i = c.loop-octet.octet-index in
    let before = c.loop-octet.invariant plain in
    let text = pair_text c.in_radix.result c.laid_out.result (get_or octets i 0) (omega arith) c.in_radix.ensures c.laid_out.ensures in
    let wrote = subst (λ (o : Option (List ℕ)). DisplaysOnOk took c.loop-octet.f c.write.result o c.write.new.self) text c.write.ensures.writes in
    has_written_of_eq took c.args.f.now _ (hex_of (take (i + 1) octets)) c.write.new.self (hex_more octets i (omega arith))
    (has_written_append took c.args.f.now (hex_of (take i octets)) c.loop-octet.f (hex_pair (get_or octets i 0)) c.write.new.self before
    (wrote before.plain (ap is_ok c.in_ok-write.was)))

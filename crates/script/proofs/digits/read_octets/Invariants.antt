use Rattle.std.proofs.Common.{◌≡◌, vec_items}
use Rattle.std.specs.Slice.Iter.{chunks_rest, chunks_size}
use Rattle.script.specs.Digits.{octets_read}
use Rattle.script.proofs.Numerals.{behind}
use Rattle.script.proofs.digits.read_octets.Given as goal

abbrev pub invariant-loop-pair : goal.invariant-loop-pair
invariant-loop-pair l = record {
  two : chunks_size l.pair-iterator ≡ 2;
  so_far : behind (vec_items l.octets) (octets_read (chunks_rest l.pair-iterator)) ≡ octets_read l.text;
}
